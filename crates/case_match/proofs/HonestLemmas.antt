-- A prover with an untouched run and an honest manner is truthful in each case.
use Rattle.std.proofs.Common.{◌≡◌, ℕ, zero, suc, ◌+◌, ◌-◌, ◌<◌, ◌≤◌, min, nat_lt, nat_le, Bool, true, false, ◌&&◌, if◌then◌else◌, List, [], ◌∷◌, length, map, slice_get, slice_index, Option, Some, None, IsSomeAnd, refl, ◌∙◌, ap, ap₂, arith}
use Rattle.std.proofs.lemmas.Bool.Decides.{nat_tests}
use Rattle.rd_base.specs.declared.answer.Answer.{Answer}
use Rattle.rd_base.specs.declared.claim.Claim.{Claim}
use Rattle.rd_base.specs.declared.digest.Digest32.{Digest32}
use Rattle.rd_base.specs.declared.proof.Proof.{Proof}
use Rattle.rd_base.specs.declared.script.Script.{Script}
use Rattle.rd_base.specs.declared.script.Manner.{Manner}
use Rattle.rd_base.specs.declared.script.Manner.TheVariants.{Plain, Late, Silent, Output, Forge, Noise, Tape}
use Rattle.rd_base.specs.declared.tape.TapeAnswer.{TapeAnswer}
use Rattle.rd_base.specs.declared.tamper.Tamper.{Tamper}
use Rattle.rd_base.specs.declared.tamper.Tamper.TheVariants.{Untouched}
use Rattle.checkpoint_run.specs.TamperedRun.{run_at}
use Rattle.rv_step.specs.State.{State}
use Rattle.rv_step.specs.Step.{state_at}
use Rattle.case_reader.specs.Case.{CaseData}
use Rattle.bisect_game.specs.declared.settled.Kind.{Kind}
use Rattle.bisect_game.specs.declared.settled.Kind.TheVariants as kind
use Rattle.bisect_game.specs.declared.settled.Question.{Question}
use Rattle.bisect_game.specs.Bisection.{cut, cuts, cuts_from, can_cut}
use Rattle.bisect_game.specs.Laws.{CutsDivide}
use Rattle.bisect_game.specs.Truth.{IsTrueAnswer}
use Rattle.tournament.specs.Asked.{IsCut, IsWithinBound, AskedIsWithinBound}
use Rattle.tournament.specs.Journals.{answers_of}
use Rattle.tournament.specs.Truthful.{AnswersTruly}
use Rattle.step_referee.specs.MachineTruth.{machine_truth}
use Rattle.plain_answers.specs.Plain.{plain, plain_root, plain_says}
use Rattle.prover_run.specs.CaseScripts.{script_says, case_says}
use Rattle.case_match.specs.Match.{rules_of_case, says_of_case, truth_of_case}
use Rattle.case_match.specs.PlainTruth.{PlainAnswersAreTrue}
use Rattle.case_match.specs.HonestScripts.{untampered_with, IsHonest, UntouchedProversAreTruthful, TrueTapesAreTruthful}
use Rattle.prover_script.specs.Manners.{asks_roots, written}
use Rattle.bisect_game.specs.Truth.{Truth}
use Rattle.bisect_game.specs.Says.{Says}

-- what the laws of the scripts say

abbrev PlainSays : Type 0
PlainSays = (digest : List ℕ → List ℕ) (start : State) (bound : ℕ) (q : Question) (passes : ℕ) →
    script_says digest start bound (untampered_with Plain) q passes ≡ Some (plain digest (state_at start) bound q.kind)

abbrev LateSays : Type 0
LateSays = (digest : List ℕ → List ℕ) (start : State) (bound many : ℕ) (q : Question) (passes : ℕ) → many ≤ passes →
    script_says digest start bound (untampered_with (Late many)) q passes ≡ Some (plain digest (state_at start) bound q.kind)

abbrev OutputSays : Type 0
OutputSays = (digest : List ℕ → List ℕ) (start : State) (bound : ℕ) (q : Question) (passes : ℕ) →
    script_says digest start bound (untampered_with (Output (state_at start bound).output)) q passes ≡ Some (plain digest (state_at start) bound q.kind)

abbrev pub SaysByScript : Type 0
SaysByScript = (digest : List ℕ → List ℕ) (start : State) (bound : ℕ) (scripts : List Script) (p : ℕ) (script : Script) →
    slice_get scripts (p - 1) ≡ Some script → case_says digest start bound scripts p ≡ script_says digest start bound script

abbrev ForgerySays : Type 0
ForgerySays = (digest : List ℕ → List ℕ) (start : State) (bound step reg value : ℕ) (q : Question) (passes : ℕ) → (q.kind ≡ kind.Proof step → slice_index (state_at start (min step bound)).regs reg ≡ value) →
    script_says digest start bound (untampered_with (Forge step reg value)) q passes ≡ Some (plain digest (state_at start) bound q.kind)

abbrev NoiseSays : Type 0
NoiseSays = (digest : List ℕ → List ℕ) (start : State) (bound seed : ℕ) (q : Question) (passes : ℕ) → asks_roots q.kind ≡ false →
    script_says digest start bound (untampered_with (Noise seed)) q passes ≡ Some (plain digest (state_at start) bound q.kind)

abbrev TapeSays : Type 0
TapeSays = (digest : List ℕ → List ℕ) (start : State) (bound : ℕ) (tamper : Tamper) (entries : List TapeAnswer) (q : Question) (passes : ℕ) →
    script_says digest start bound (record { tamper = tamper; manner = Tape entries }) q passes ≡ written entries q.qid

pub record ScriptLaws : Type 0 where
  pub plain_ : PlainSays
  pub late : LateSays
  pub output : OutputSays
  pub forge : ForgerySays
  pub noise : NoiseSays
  pub tape : TapeSays
  pub by_script : SaysByScript

-- the cuts of an interval within the bound are steps of the run, and none is the first

if-true : {A : Type 0} (b : Bool) (x y : A) → b ≡ true → (if b then x else y) ≡ x
if-true true x y e = refl
if-true false x y e = absurd (cc)

and-true : (a b c : Bool) → a ≡ true → b ≡ true → c ≡ true → (a && (b && c)) ≡ true
and-true true true true e f g = refl
and-true true true false e f g = absurd (cc)
and-true true false c e f g = absurd (cc)
and-true false b c e f g = absurd (cc)

is-cut : (bound lo hi parts : ℕ) → IsCut bound lo hi parts → can_cut lo hi parts ≡ true
is-cut bound lo hi parts is =
    let parted = is.parted in
    let few = is.few_parts in
    let long = is.long in
    and-true (nat_le 2 parts) (nat_le parts 16) (nat_le parts (hi - lo)) (grind (arith, nat_tests)) (grind (arith, nat_tests)) (grind (arith, nat_tests))

cut-below : CutsDivide → (lo hi parts j m : ℕ) → 0 < parts → parts ≤ hi - lo → j + m ≡ parts → cut lo hi parts j ≤ hi
cut-below divide lo hi parts j zero some long is =
    let last : j ≡ parts = omega (arith, is) in
    let end_ = divide.end_ lo hi parts some (omega (arith, some, long)) in
    rw last (omega (arith, end_))
cut-below divide lo hi parts j (suc m) some long is =
    let rise = divide.rise lo hi parts j some long (omega (arith, is)) in
    let rest = cut-below divide lo hi parts (j + 1) m some long (omega (arith, is)) in
    omega (arith, rise, rest)

cut-above : CutsDivide → (lo hi parts j : ℕ) → 0 < parts → parts ≤ hi - lo → 0 < j → j ≤ parts → 0 < cut lo hi parts j
cut-above divide lo hi parts j some long first room =
    let back : j - 1 + 1 ≡ j = omega (arith, first) in
    let rise = divide.rise lo hi parts (j - 1) some long (omega (arith, first, room)) in
    let here : cut lo hi parts (j - 1 + 1) ≡ cut lo hi parts j = ap (cut lo hi parts) back in
    omega (arith, rise, here)

-- the proof and the claim of a state

abbrev pub proof-of : (List ℕ → List ℕ) → State → Proof
proof-of digest s = (machine_truth digest s 0).proof 0

abbrev pub claim-of : (List ℕ → List ℕ) → State → Claim
claim-of digest s = (machine_truth digest s 0).claim

-- the plain answers of a run are those of a run as the game sees it, whose root at step 0 is never asked
pub record IsPlainRun (digest : List ℕ → List ℕ) (run : ℕ → State) (bound : ℕ) (t : Truth) : Type 0 where
  pub root : (i : ℕ) → 0 < i → i ≤ bound → plain_root digest run bound i ≡ t.root i
  pub proof : (i : ℕ) → i < bound → proof-of digest (run (min i bound)) ≡ t.proof i
  pub claim : claim-of digest (run bound) ≡ t.claim

roots-true : (digest : List ℕ → List ℕ) (run : ℕ → State) (bound : ℕ) (t : Truth) → IsPlainRun digest run bound t → CutsDivide → (lo hi parts j n : ℕ) → 0 < parts → parts ≤ hi - lo → hi ≤ bound →
    0 < j → j + n ≤ parts → map (plain_root digest run bound) (cuts_from lo hi parts j n) ≡ map t.root (cuts_from lo hi parts j n)
roots-true digest run bound t is divide lo hi parts j zero some long high first room = refl
roots-true digest run bound t is divide lo hi parts j (suc n) some long high first room =
    let below = cut-below divide lo hi parts j (parts - j) some long (omega (arith, room)) in
    let above = cut-above divide lo hi parts j some long first (omega (arith, room)) in
    ap₂ (λ (x : Digest32) (xs : List Digest32). x ∷ xs) (is.root (cut lo hi parts j) above (omega (arith, below, high)))
    (roots-true digest run bound t is divide lo hi parts (j + 1) n some long high (omega arith) (omega (arith, room)))

-- the plain answer within the bound is that of the run
pub plain-true : (digest : List ℕ → List ℕ) → CutsDivide → (run : ℕ → State) (bound : ℕ) (t : Truth) (k : Kind) → IsPlainRun digest run bound t → IsWithinBound bound k →
    IsTrueAnswer t k (plain digest run bound k)
plain-true digest divide run bound t kind.Claim is within = is.claim
plain-true digest divide run bound t (kind.Root i) is within = is.root i within.0 (omega (arith, within.1))
plain-true digest divide run bound t (kind.Roots lo hi parts) is within =
    let parted = within.parted in
    ap (map (plain_root digest run bound)) (if-true (can_cut lo hi parts) (cuts lo hi parts) (lo ∷ []) (is-cut bound lo hi parts within))
    ∙ roots-true digest run bound t is divide lo hi parts 1 (parts - 1) (omega (arith, parted)) within.long within.high (omega arith) (omega (arith, parted))
plain-true digest divide run bound t (kind.Proof i) is within = is.proof i within

-- the sequential run is one
sequential : (digest : List ℕ → List ℕ) (start : State) (bound : ℕ) → IsPlainRun digest (state_at start) bound (machine_truth digest start bound)
sequential digest start bound = record {
  root = λ i some low. let e : min i bound ≡ i = omega (arith, low) in ap (machine_truth digest start bound).root e;
  proof = λ i low. let e : min i bound ≡ i = omega (arith, low) in ap (machine_truth digest start bound).proof e;
  claim = refl;
}

-- so the plain answers of a case's own run are true
pub plain-of-case : (digest : List ℕ → List ℕ) → CutsDivide → PlainAnswersAreTrue digest
plain-of-case digest divide c start k within = plain-true digest divide (state_at start) c.bound (truth_of_case digest c start) k (sequential digest start c.bound) within

-- a step whose proof is asked within the bound is below the bound
proof-below : (bound step : ℕ) (k : Kind) → IsWithinBound bound k → k ≡ kind.Proof step → step < bound
proof-below bound step kind.Claim within is = absurd (cc)
proof-below bound step (kind.Root i) within is = absurd (cc)
proof-below bound step (kind.Roots lo hi parts) within is = absurd (cc)
proof-below bound step (kind.Proof i) within is = let e : i ≡ step = cc in omega (arith, within, e)

-- of one step no root is asked
no-root-of-one : (bound : ℕ) (k : Kind) → bound ≡ 1 → IsWithinBound bound k → asks_roots k ≡ false
no-root-of-one bound kind.Claim one within = refl
no-root-of-one bound (kind.Root i) one within = absurd (omega (arith, one, within.0, within.1))
no-root-of-one bound (kind.Roots lo hi parts) one within = absurd (omega (arith, one, within.parted, within.long, within.high))
no-root-of-one bound (kind.Proof i) one within = refl

pub passes-by : (o : Option Answer) (b : Bool) → b ≡ true → (if b then None else o) ≡ None
passes-by o true e = refl
passes-by o false e = absurd (cc)

late-passes : (digest : List ℕ → List ℕ) (start : State) (bound many : ℕ) (q : Question) (n : ℕ) → n < many → script_says digest start bound (untampered_with (Late many)) q n ≡ None
late-passes digest start bound many q n lt = let yes : nat_lt n many ≡ true = grind (arith, nat_tests) in passes-by (plain_says digest (run_at Untouched start) bound q n) (nat_lt n many) yes

answers-by : (digest : List ℕ → List ℕ) (laws : ScriptLaws) (c : CaseData) (start : State) (p : ℕ) (manner : Manner) (q : Question) → slice_get c.provers (p - 1) ≡ Some (untampered_with manner) → IsHonest c start manner → IsWithinBound c.bound q.kind →
    IsTrueAnswer (truth_of_case digest c start) q.kind (plain digest (state_at start) c.bound q.kind) → AnswersTruly (says_of_case digest c start) c.patience (truth_of_case digest c start) p q
answers-by digest laws c start p Plain q is honest within true_ =
    let says : case_says digest start c.bound c.provers p ≡ script_says digest start c.bound (untampered_with Plain) = laws.by_script digest start c.bound c.provers p _ is in
    record {
      passes = 0;
      few = omega arith;
      passing = λ n lt. absurd (omega (arith, lt));
      answer = plain digest (state_at start) c.bound q.kind;
      gives = ap (λ (f : Question → ℕ → Option Answer). f q 0) says ∙ laws.plain_ digest start c.bound q 0;
      is_true = true_;
    }
answers-by digest laws c start p (Late many) q is honest within true_ =
    let says : case_says digest start c.bound c.provers p ≡ script_says digest start c.bound (untampered_with (Late many)) = laws.by_script digest start c.bound c.provers p _ is in
    record {
      passes = many;
      few = honest;
      passing = λ n lt. ap (λ (f : Question → ℕ → Option Answer). f q n) says ∙ late-passes digest start c.bound many q n lt;
      answer = plain digest (state_at start) c.bound q.kind;
      gives = ap (λ (f : Question → ℕ → Option Answer). f q many) says ∙ laws.late digest start c.bound many q many (omega arith);
      is_true = true_;
    }
answers-by digest laws c start p (Silent from) q is honest within true_ = absurd honest
answers-by digest laws c start p (Output bytes) q is honest within true_ =
    let same : slice_get c.provers (p - 1) ≡ Some (untampered_with (Output (state_at start c.bound).output)) = is ∙ ap (λ (o : List ℕ). Some (untampered_with (Output o))) honest in
    let says : case_says digest start c.bound c.provers p ≡ script_says digest start c.bound (untampered_with (Output (state_at start c.bound).output)) =
    laws.by_script digest start c.bound c.provers p _ same in
    record {
      passes = 0;
      few = omega arith;
      passing = λ n lt. absurd (omega (arith, lt));
      answer = plain digest (state_at start) c.bound q.kind;
      gives = ap (λ (f : Question → ℕ → Option Answer). f q 0) says ∙ laws.output digest start c.bound q 0;
      is_true = true_;
    }
answers-by digest laws c start p (Forge step reg value) q is honest within true_ =
    let says : case_says digest start c.bound c.provers p ≡ script_says digest start c.bound (untampered_with (Forge step reg value)) = laws.by_script digest start c.bound c.provers p _ is in
    record {
      passes = 0;
      few = omega arith;
      passing = λ n lt. absurd (omega (arith, lt));
      answer = plain digest (state_at start) c.bound q.kind;
      gives = ap (λ (f : Question → ℕ → Option Answer). f q 0) says
          ∙ laws.forge digest start c.bound step reg value q 0 (λ asks.
          let below = proof-below c.bound step q.kind within asks in
          let e : min step c.bound ≡ step = omega (arith, below) in
          ap (λ (j : ℕ). slice_index (state_at start j).regs reg) e ∙ honest below);
      is_true = true_;
    }
answers-by digest laws c start p (Noise seed) q is honest within true_ =
    let says : case_says digest start c.bound c.provers p ≡ script_says digest start c.bound (untampered_with (Noise seed)) = laws.by_script digest start c.bound c.provers p _ is in
    record {
      passes = 0;
      few = omega arith;
      passing = λ n lt. absurd (omega (arith, lt));
      answer = plain digest (state_at start) c.bound q.kind;
      gives = ap (λ (f : Question → ℕ → Option Answer). f q 0) says ∙ laws.noise digest start c.bound seed q 0 (no-root-of-one c.bound q.kind honest within);
      is_true = true_;
    }
answers-by digest laws c start p (Tape entries) q is honest within true_ = absurd honest

pub there-at : (scripts : List Script) (k : ℕ) (script : Script) → slice_get scripts k ≡ Some script → k < length scripts
there-at [] k script e = absurd (cc)
there-at (x ∷ xs) zero script e = omega arith
there-at (x ∷ xs) (suc k) script e = omega (arith, there-at xs k script e)

pub untouched-are-truthful : (digest : List ℕ → List ℕ) → ScriptLaws → CutsDivide → AskedIsWithinBound → UntouchedProversAreTruthful digest
untouched-are-truthful digest laws divide within c start p manner range some is honest = record {
  some = some;
  there = omega (arith, some, there-at c.provers (p - 1) _ is);
  answers = λ q asked_.
      let below : IsWithinBound c.bound q.kind =
      within (rules_of_case digest c start) (answers_of (rules_of_case digest c start) (says_of_case digest c start)) p q.qid q.kind
      (record { some = range.some; parted = range.parted; few_parts = range.few_parts; steps = range.steps }) asked_ in
      answers-by digest laws c start p manner q is honest below
      (plain-of-case digest divide c start q.kind below);
}

-- what is written down, and true
truly-written : (says : Says) (patience : ℕ) (t : Truth) (p : ℕ) (q : Question) (o : Option Answer) → says p q 0 ≡ o → IsSomeAnd o (IsTrueAnswer t q.kind) → AnswersTruly says patience t p q
truly-written says patience t p q None gives true_ = absurd true_
truly-written says patience t p q (Some a) gives true_ = record {
  passes = 0;
  few = omega arith;
  passing = λ n lt. absurd (omega (arith, lt));
  answer = a;
  gives = gives;
  is_true = true_;
}

pub true-tapes-are-truthful : (digest : List ℕ → List ℕ) → ScriptLaws → TrueTapesAreTruthful digest
true-tapes-are-truthful digest laws c start p tamper entries some is tape = record {
  some = some;
  there = omega (arith, some, there-at c.provers (p - 1) _ is);
  answers = λ q asked_.
      truly-written (says_of_case digest c start) c.patience (truth_of_case digest c start) p q (written entries q.qid)
      (ap (λ (f : Question → ℕ → Option Answer). f q 0) (laws.by_script digest start c.bound c.provers p _ is) ∙ laws.tape digest start c.bound tamper entries q 0) (tape q asked_);
}
