-- Derived, for the ghost law of `CaseProvers`: to one question each prover of a case gives one answer, after however many passes.
use Rattle.std.proofs.Common.{◌≡◌, ℕ, ◌-◌, List, Option, Some, None, slice_get, nat_le, sym, ◌∙◌, inl, inr, arith}
use Rattle.std.proofs.lemmas.Bool.{cases_Bool}
use Rattle.std.proofs.lemmas.Bool.Decides.{nat_tests}
use Rattle.rd_base.specs.declared.answer.Answer.{Answer}
use Rattle.rd_base.specs.declared.script.Script.{Script}
use Rattle.rv_step.specs.State.{State}
use Rattle.bisect_game.specs.Says.{GiveOneAnswer}
use Rattle.bisect_game.specs.declared.settled.Question.{Question}
use Rattle.prover_script.specs.Manners.{Behaviour, IsSteady}
use Rattle.prover_script.specs.Steadiness.{manners_are_steady}
use Rattle.plain_answers.specs.Plain.{plain_says}
use Rattle.checkpoint_run.specs.TamperedRun.{run_at}
use Rattle.prover_run.specs.CaseScripts.{case_says, said_by}

script-is-steady : (digest : List ℕ → List ℕ) (start : State) (bound : ℕ) (o : Option Script) → IsSteady (said_by digest start bound o)
script-is-steady digest start bound None q n k a more said = said
script-is-steady digest start bound (Some script) q n k a more said =
    manners_are_steady digest script.manner (plain_says digest (run_at script.tamper start) bound) (λ q n k a more said. said) q n k a more said

-- each prover of a case stays with its answer
pub case_provers_are_steady : (digest : List ℕ → List ℕ) (start : State) (bound : ℕ) (scripts : List Script) (p : ℕ) → IsSteady (case_says digest start bound scripts p)
case_provers_are_steady digest start bound scripts p q n k a more said = script-is-steady digest start bound (slice_get scripts (p - 1)) q n k a more said

some-is : (x a : Answer) → Some x ≡ Some a → x ≡ a
some-is x a same = cc

-- who stays with an answer gives one
one-of-steady : (says : Behaviour) → IsSteady says → (q : Question) (n k : ℕ) (a b : Answer) → says q n ≡ Some a → says q k ≡ Some b → a ≡ b
one-of-steady says steady q n k a b first second = elim (cases_Bool (nat_le n k)) [
  | inl later ↦ some-is a b (sym (steady q n k a (grind (arith, nat_tests)) first) ∙ second)
  | inr earlier ↦ some-is a b (sym first ∙ steady q k n b (grind (arith, nat_tests)) second)
]

pub case_provers_give_one_answer : (digest : List ℕ → List ℕ) (start : State) (bound : ℕ) (scripts : List Script) → GiveOneAnswer (case_says digest start bound scripts)
case_provers_give_one_answer digest start bound scripts p q n k a b first second =
    one-of-steady (case_says digest start bound scripts p) (case_provers_are_steady digest start bound scripts p) q n k a b first second
