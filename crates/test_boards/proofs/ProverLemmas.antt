-- The answerers of two provers by their runs say what the provers of their book say.
use Rattle.std.proofs.Common.{◌≡◌, ℕ, List, Option, sym, subst}
use Rattle.rd_base.specs.declared.answer.Answer.{Answer}
use Rattle.rd_base.specs.declared.script.Script.{Script}
use Rattle.bisect_game.specs.declared.settled.Question.{Question}
use Rattle.bisect_game.specs.Says.{AnswerAs}
use Rattle.rv_step.specs.State.{State}
use Rattle.prover_run.specs.CaseScripts.{CaseScripts, case_says}

pub said_by_provers : {A : Type 0} (answers : A → Question → ℕ → Option Answer) (digest : List ℕ → List ℕ) (first start : State) (bound : ℕ) (scripts : List Script) (provers others : CaseScripts) (xs : List A)
    → AnswerAs answers (case_says digest first bound scripts) 1 xs → first ≡ start → provers ≡ record { start = start; bound = bound; scripts = scripts } → others ≡ provers
    → AnswerAs answers (case_says digest others.start others.bound others.scripts) 1 xs
said_by_provers answers digest first start bound scripts provers others xs say from are same =
    subst (λ (x : CaseScripts). AnswerAs answers (case_says digest x.start x.bound x.scripts) 1 xs) (sym same)
    (subst (λ (x : CaseScripts). AnswerAs answers (case_says digest x.start x.bound x.scripts) 1 xs) (sym are)
    (subst (λ (s : State). AnswerAs answers (case_says digest s bound scripts) 1 xs) from say))
