-- A tampered run is refuted in the proof of the step that its tamper fixes, or its dispute with a true run closes by a collision.
use Rattle.std.proofs.Common.{All, ◌≡◌, ◌≢◌, ℕ, zero, suc, ◌+◌, ◌-◌, ◌^◌, ◌<◌, ◌≤◌, min, nat_lt, Bool, true, false, not, ◌&&◌, ◌⊎◌, inl, inr, List, [], ◌∷◌, length, slice_get, Option, Some, None, if◌then◌else◌, refl, sym, ◌∙◌, ap, subst, arith, add-one}
use Rattle.std.proofs.lemmas.List.Elements.{All-nil, All-cons}
use Rattle.std.proofs.lemmas.Bool.{cases_Bool, and_parts, ne_eqb}
use Rattle.std.proofs.lemmas.Bool.Decides.{nat_tests}
use Rattle.std.proofs.lemmas.Slice.Eq.{bytes_eq-Decides}
use Rattle.rd_base.specs.declared.answer.Answer.{Answer}
use Rattle.rd_base.specs.declared.digest.Digest32.{Digest32}
use Rattle.rd_base.specs.declared.script.Manner.{Manner}
use Rattle.rd_base.specs.declared.script.Manner.TheVariants.{Plain, Late, Silent, Output, Forge, Noise, Tape}
use Rattle.rd_base.specs.declared.tamper.Tamper.{Tamper}
use Rattle.rd_base.specs.declared.tamper.Tamper.TheVariants.{Untouched, Flip, Register, Early}
use Rattle.bisect_game.specs.declared.settled.Question.{Question}
use Rattle.bisect_game.specs.declared.settled.Close.{Close}
use Rattle.bisect_game.specs.declared.settled.Close.TheVariants.{Out, Collision}
use Rattle.bisect_game.specs.Bisection.{Bisection, is_closed}
use Rattle.bisect_game.specs.Closing.{is_root, closed_by}
use Rattle.bisect_game.specs.Laws.{CutsDivide}
use Rattle.bisect_game.specs.Parting.{proves, EndsWhereTheyPart, HasCollided}
use Rattle.bisect_game.specs.Rules.{Rules, ArePlayable, rules_of}
use Rattle.bisect_game.specs.Ruling.{IsFair, same_digest}
use Rattle.bisect_game.specs.Says.{Says}
use Rattle.bisect_game.specs.Truth.{Truth, IsRun, IsTrueAnswer}
use Rattle.tournament.specs.Asked.{IsWithinBound, AskedIsWithinBound}
use Rattle.tournament.specs.Bracket.{Record, all_there, all_closed}
use Rattle.tournament.specs.Journals.{turns, answers_of, RecordOfCase}
use Rattle.tournament.specs.Length.{SpareIsEnough, ThereIsAMost}
use Rattle.tournament.specs.Lies.{ClaimsItsRun, ScriptsOfARun, AllEndWhereTheyPart, DisputesEndWhereRunsPart}
use Rattle.tournament.specs.Moves.{begun}
use Rattle.tournament.specs.Posting.{record_after, NobodyAskedIsOver}
use Rattle.tournament.specs.Theorem.{AreTrue}
use Rattle.tournament.specs.Truthful.{IsTruthfulProver, AnswersTruly}
use Rattle.rv_step.specs.State.{State}
use Rattle.rv_step.specs.Step.{step, state_at}
use Rattle.rv_step.specs.Valid.{IsValid}
use Rattle.segment_replay.specs.Roots.{root_of_state}
use Rattle.step_referee.specs.MachineRuling.{machine_ruling}
use Rattle.checkpoint_run.specs.TamperedRun.{tampered, run_from, run_at}
use Rattle.checkpoint_run.specs.ValidRuns.{IsTamperInRange, TamperedRunsKeepValidStates}
use Rattle.prover_run.specs.CaseScripts.{script_says, case_says}
use Rattle.prover_run.specs.Growing.{OutputGrowsSlowly}
use Rattle.plain_answers.specs.Plain.{plain, plain_says}
use Rattle.case_reader.specs.Case.{CaseData}
use Rattle.case_match.specs.Match.{rules_of_case, says_of_case, record_of_case, truth_of_case}
use Rattle.case_match.specs.TruthfulInCase.{IsInRange}
use Rattle.case_match.specs.PartingRuns.{root_in_game, run_in_game, AnswersByItsRun, DisputesOfCasesEndWhereRunsPart}
use Rattle.case_match.specs.RefutedTampers.{IsRefutingStep, IsRefutedByStep, IsTamperRefuted, TampersAreRefuted}
use Rattle.case_match.proofs.EndingLemmas.{IsComeTo, come-to}
use Rattle.case_match.proofs.HonestLemmas.{SaysByScript, proof-of, claim-of, IsPlainRun, plain-true, passes-by, there-at}
use Rattle.case_match.proofs.SafetyLemmas.{RunsAreTrue}

-- TWO RUNS, of which one is true: at the step where their dispute ends, the other one proves nothing, or they collide

same-is : (a b : Digest32) → same_digest a b ≡ true → a ≡ b
same-is a b e = let bytes : a.0 ≡ b.0 = (bytes_eq-Decides (a.0) (b.0)).0 e in λ i. record { 0 = bytes i }

proves-leads : (own : Digest32) (o : Option Digest32) → is_root own o ≡ true → o ≡ Some own
proves-leads own None e = absurd (cc)
proves-leads own (Some b) e = ap Some (same-is b own e)

leads-proves : (own : Digest32) (o : Option Digest32) → o ≡ Some own → is_root own o ≡ true
leads-proves own o e = ap (is_root own) e ∙ (bytes_eq-Decides (own.0) (own.0)).1 refl

by-one : (x y : Bool) (m : Close) → x ≡ true → y ≡ false → (if x && y then m else Out (not x) (not y)) ≡ Out false true
by-one true false m e f = refl
by-one true true m e f = absurd (cc)
by-one false y m e f = absurd (cc)

by-other : (x y : Bool) (m : Close) → x ≡ false → y ≡ true → (if x && y then m else Out (not x) (not y)) ≡ Out true false
by-other false true m e f = refl
by-other false false m e f = absurd (cc)
by-other true y m e f = absurd (cc)

by-both : (x y : Bool) (m : Close) → x ≡ true → y ≡ true → (if x && y then m else Out (not x) (not y)) ≡ m
by-both true true m e f = refl
by-both true false m e f = absurd (cc)
by-both false y m e f = absurd (cc)

-- how a dispute between a true run and another one ends whose proof of each such step is that of a true step, but at some
record EndsAt (At : ℕ → Type 0) (out : Close) (d : Bisection) : Type 0 where
  at : At d.place.lo
  step : d.place.hi ≡ d.place.lo + 1
  out_ : d.close ≡ Some out

abbrev IsTrueBut : Rules → Truth → Truth → (ℕ → Type 0) → Type 0
IsTrueBut rules truth lie At =
    (i : ℕ) → i < rules.setup.bound → truth.root i ≡ lie.root i → truth.root (i + 1) ≢ lie.root (i + 1) → At i ⊎ (rules.ruling.leads (lie.root i) (lie.proof i) ≡ Some (lie.root (i + 1)))

collision-of : (o : Option (List ℕ × List ℕ)) (pair : List ℕ × List ℕ) → o ≡ Some pair → closed_by o ≡ Collision (pair.0) (pair.1)
collision-of o pair e = ap closed_by e

module _ (rules : Rules) (truth lie : Truth) (fair : IsFair rules.ruling) (run : IsRun rules truth) where
  proves-true : (i : ℕ) → i < rules.setup.bound → proves rules.ruling truth i ≡ true
  proves-true i low = leads-proves (truth.root (i + 1)) (rules.ruling.leads (truth.root i) (truth.proof i)) (run.leads i low)

  refuted-second : (At : ℕ → Type 0) (d : Bisection) → IsTrueBut rules truth lie At → EndsWhereTheyPart rules truth lie d → EndsAt At (Out false true) d ⊎ HasCollided rules.ruling truth lie d
  refuted-second At d but e =
      let i = d.place.lo in
      let mine : proves rules.ruling truth i ≡ true = proves-true i e.within in
      let both = closed_by (rules.ruling.step_collision (truth.root i) (truth.proof i) (lie.proof i)) in
      elim (cases_Bool (proves rules.ruling lie i)) [
        | inl proved ↦
            let leads : rules.ruling.leads (lie.root i) (lie.proof i) ≡ Some (lie.root (i + 1)) = proves-leads (lie.root (i + 1)) (rules.ruling.leads (lie.root i) (lie.proof i)) proved in
            let from : rules.ruling.leads (truth.root i) (lie.proof i) ≡ Some (lie.root (i + 1)) = subst (λ (x : Digest32). rules.ruling.leads x (lie.proof i) ≡ Some (lie.root (i + 1))) (sym e.same) leads in
            let m : (pair : List ℕ × List ℕ) × (rules.ruling.step_collision (truth.root i) (truth.proof i) (lie.proof i) ≡ Some pair) =
            fair.steps_collide (truth.root i) (truth.proof i) (lie.proof i) (truth.root (i + 1)) (lie.root (i + 1)) (run.leads i e.within) from e.differ in
            inr (record {
              pair = m.0;
              close = e.close ∙ ap Some (by-both (proves rules.ruling truth i) (proves rules.ruling lie i) both mine proved ∙ collision-of (rules.ruling.step_collision (truth.root i) (truth.proof i) (lie.proof i)) m.0 m.1);
              collision = fair.step_collisions (truth.root i) (truth.proof i) (lie.proof i) (truth.root (i + 1)) (lie.root (i + 1)) m.0 (run.leads i e.within) from m.1;
            })
        | inr refuted ↦ elim (but i e.within e.same e.differ) [
          | inl at ↦ inl (record { at = at; step = e.step; out_ = e.close ∙ ap Some (by-one (proves rules.ruling truth i) (proves rules.ruling lie i) both mine refuted) })
          | inr leads ↦ (let proved : proves rules.ruling lie i ≡ true = leads-proves (lie.root (i + 1)) (rules.ruling.leads (lie.root i) (lie.proof i)) leads in absurd (cc))
        ]
      ]

  refuted-first : (At : ℕ → Type 0) (d : Bisection) → IsTrueBut rules truth lie At → EndsWhereTheyPart rules lie truth d → EndsAt At (Out true false) d ⊎ HasCollided rules.ruling lie truth d
  refuted-first At d but e =
      let i = d.place.lo in
      let mine : proves rules.ruling truth i ≡ true = proves-true i e.within in
      let both = closed_by (rules.ruling.step_collision (lie.root i) (lie.proof i) (truth.proof i)) in
      elim (cases_Bool (proves rules.ruling lie i)) [
        | inl proved ↦
            let leads : rules.ruling.leads (lie.root i) (lie.proof i) ≡ Some (lie.root (i + 1)) = proves-leads (lie.root (i + 1)) (rules.ruling.leads (lie.root i) (lie.proof i)) proved in
            let from : rules.ruling.leads (lie.root i) (truth.proof i) ≡ Some (truth.root (i + 1)) = subst (λ (x : Digest32). rules.ruling.leads x (truth.proof i) ≡ Some (truth.root (i + 1))) (sym e.same) (run.leads i e.within) in
            let m : (pair : List ℕ × List ℕ) × (rules.ruling.step_collision (lie.root i) (lie.proof i) (truth.proof i) ≡ Some pair) =
            fair.steps_collide (lie.root i) (lie.proof i) (truth.proof i) (lie.root (i + 1)) (truth.root (i + 1)) leads from e.differ in
            inr (record {
              pair = m.0;
              close = e.close ∙ ap Some (by-both (proves rules.ruling lie i) (proves rules.ruling truth i) both proved mine ∙ collision-of (rules.ruling.step_collision (lie.root i) (lie.proof i) (truth.proof i)) m.0 m.1);
              collision = fair.step_collisions (lie.root i) (lie.proof i) (truth.proof i) (lie.root (i + 1)) (truth.root (i + 1)) m.0 leads from m.1;
            })
        | inr refuted ↦ elim (but i e.within (sym e.same) (λ same. e.differ (sym same))) [
          | inl at ↦ inl (record { at = at; step = e.step; out_ = e.close ∙ ap Some (by-other (proves rules.ruling lie i) (proves rules.ruling truth i) both refuted mine) })
          | inr leads ↦ (let proved : proves rules.ruling lie i ≡ true = leads-proves (lie.root (i + 1)) (rules.ruling.leads (lie.root i) (lie.proof i)) leads in absurd (cc))
        ]
      ]

-- what the laws of the crates below say
pub record TamperLaws (digest : List ℕ → List ℕ) : Type 0 where
  pub runs : RunsAreTrue digest
  pub fair : (version : ℕ) → IsFair (machine_ruling digest version)
  pub valid : TamperedRunsKeepValidStates
  pub version_at : (t : Tamper) (i : ℕ) (s : State) → (tampered t i s).version ≡ s.version
  pub version : (t : Tamper) (first : State) (i : ℕ) → (run_from t first i).version ≡ first.version
  pub grows : OutputGrowsSlowly
  pub plain_ : (s : State) (i : ℕ) → run_at Untouched s i ≡ state_at s i
  pub flip_before : (at addr mask : ℕ) (s : State) (i : ℕ) → i < at → run_at (Flip at addr mask) s i ≡ state_at s i
  pub register_before : (at reg value : ℕ) (s : State) (i : ℕ) → i < at → run_at (Register at reg value) s i ≡ state_at s i
  pub early : (steps : ℕ) (s : State) (i : ℕ) → run_at (Early steps) s i ≡ state_at s (min i steps)
  pub divide : CutsDivide
  pub within : AskedIsWithinBound
  pub spare : SpareIsEnough
  pub over : NobodyAskedIsOver
  pub most : ThereIsAMost
  pub of_case : RecordOfCase
  pub answers : ScriptsOfARun
  pub ends : DisputesEndWhereRunsPart
  pub by_script : SaysByScript

-- behind the step at which the state is changed each step is the machine's

after-flip : (at addr mask : ℕ) (s : State) (i : ℕ) → at ≤ i → run_at (Flip at addr mask) s (suc i) ≡ step (run_at (Flip at addr mask) s i)
after-flip at addr mask s i late = rw (ne_eqb (i + 1) at (λ same. absurd (omega (arith, same, late)))) refl

after-register : (at reg value : ℕ) (s : State) (i : ℕ) → at ≤ i → run_at (Register at reg value) s (suc i) ≡ step (run_at (Register at reg value) s i)
after-register at reg value s i late = rw (ne_eqb (i + 1) at (λ same. absurd (omega (arith, same, late)))) refl

-- where a step stands beside the one at which the state is changed: its own state behind it is the sequential run's, or it is that step's, or
-- the run goes on by true steps
data Place (at i : ℕ) : Type 0 where
  Before : i + 1 < at → Place at i
  At : i ≡ at - 1 → Place at i
  Behind : at ≤ i → 0 < i → Place at i

place-of : (at i : ℕ) → Place at i
place-of at i = elim (cases_Bool (nat_lt (i + 1) at)) [
  | inl early ↦ Before (grind (arith, nat_tests))
  | inr e ↦ elim (cases_Bool (nat_lt i at)) [
    | inl now ↦ At (let a : at ≤ i + 1 = grind (arith, nat_tests) in let b : i < at = grind (arith, nat_tests) in omega (arith, a, b))
    | inr late ↦ elim (cases_Bool (nat_lt 0 i)) [
      | inl some ↦ Behind (grind (arith, nat_tests)) (grind (arith, nat_tests))
      | inr none ↦ At (let a : at ≤ i = grind (arith, nat_tests) in let b : i ≤ 0 = grind (arith, nat_tests) in omega (arith, a, b))
    ]
  ]
]

module _ (digest : List ℕ → List ℕ) (laws : TamperLaws digest) where
  abbrev root-of : State → Digest32
  root-of s = record { 0 = root_of_state digest s }

  -- THE RUN OF A PROVER as the game sees it

  lie-root-is : (start : State) (t : Tamper) (i : ℕ) → 0 < i → root_in_game digest start t i ≡ root-of (run_at t start i)
  unfolding root_in_game
  lie-root-is start t zero some = absurd (omega (arith, some))
  lie-root-is start t (suc i) some = refl

  lie-root-true : (start : State) (t : Tamper) (i : ℕ) → run_at t start i ≡ state_at start i → root_in_game digest start t i ≡ root-of (state_at start i)
  unfolding root_in_game
  lie-root-true start t zero same = refl
  lie-root-true start t (suc i) same = ap root-of same

  lie-root-early : (start : State) (n i : ℕ) → n ≤ i → root_in_game digest start (Early n) i ≡ root-of (state_at start n)
  unfolding root_in_game
  lie-root-early start n zero late = let none : 0 ≡ n = omega (arith, late) in ap (λ (j : ℕ). root-of (state_at start j)) none
  lie-root-early start n (suc i) late = let e : min (suc i) n ≡ n = omega (arith, late) in ap root-of (laws.early n start (suc i) ∙ ap (state_at start) e)

  -- EACH STEP of a valid state is true for the judge of its version

  abbrev alone : State → ℕ → Rules
  alone s bound = rules_of (machine_ruling digest s.version) (record { provers = 1; bound = bound; fan = 2; patience = 0; start = root-of s })

  state-leads : (s : State) → IsValid s → length s.output < 2 ^ 33 → (machine_ruling digest s.version).leads (root-of s) (proof-of digest s) ≡ Some (root-of (step s))
  state-leads s valid short = (laws.runs s (alone s 1) valid (omega (arith, short)) refl refl).leads 0 (omega arith)

  claim-sound : (s : State) → IsValid s → length s.output < 2 ^ 33 → (machine_ruling digest s.version).is_sound (claim-of digest s) ≡ true
  claim-sound s valid short = (laws.runs s (alone s 0) valid (omega (arith, short)) refl refl).sound

  claim-ends : (s : State) → IsValid s → length s.output < 2 ^ 33 → (machine_ruling digest s.version).root_of (claim-of digest s) ≡ root-of s
  claim-ends s valid short = (laws.runs s (alone s 0) valid (omega (arith, short)) refl refl).ends

  module _ (c : CaseData) (start : State) (range : IsInRange c start) (t : Tamper) (fits : IsTamperInRange t) where
    abbrev at-step : ℕ → State
    at-step i = run_at t start i

    valid-at : (i : ℕ) → IsValid (at-step i)
    valid-at i = laws.valid t start i fits range.valid

    version-at : (i : ℕ) → (at-step i).version ≡ start.version
    version-at i = laws.version t (tampered t 0 start) i ∙ laws.version_at t 0 start

    short-at : (i : ℕ) → i ≤ c.bound → length (at-step i).output < 2 ^ 33
    short-at i low =
        let grown = laws.grows t start i in
        let none : length start.output ≡ 0 = ap (λ (o : List ℕ). length o) range.silent in
        omega (arith, grown, none, low, range.short)

    follows : (i : ℕ) → 0 < i → i < c.bound → at-step (suc i) ≡ step (at-step i) →
        (machine_ruling digest start.version).leads (root_in_game digest start t i) (proof-of digest (at-step i)) ≡ Some (root_in_game digest start t (i + 1))
    follows i some low next =
        let here : root_in_game digest start t i ≡ root-of (at-step i) = lie-root-is start t i some in
        let there : root_in_game digest start t (i + 1) ≡ root-of (step (at-step i)) =
        lie-root-is start t (i + 1) (omega arith) ∙ ap root-of (ap (run_at t start) (add-one i) ∙ next) in
        let leads : (machine_ruling digest start.version).leads (root-of (at-step i)) (proof-of digest (at-step i)) ≡ Some (root-of (step (at-step i))) =
        subst (λ (v : ℕ). (machine_ruling digest v).leads (root-of (at-step i)) (proof-of digest (at-step i)) ≡ Some (root-of (step (at-step i)))) (version-at i)
        (state-leads (at-step i) (valid-at i) (short-at i (omega (arith, low)))) in
        ap (λ (x : Digest32). (machine_ruling digest start.version).leads x (proof-of digest (at-step i))) here ∙ (leads ∙ ap Some (sym there))

    claims : ClaimsItsRun (rules_of_case digest c start) (run_in_game digest c start t)
    unfolding root_in_game
    claims = record {
      begins = refl;
      ends = claim-ends (at-step c.bound) (valid-at c.bound) (short-at c.bound (omega arith)) ∙ sym (lie-root-is start t c.bound range.steps);
      sound = claim-sound (at-step c.bound) (valid-at c.bound) (short-at c.bound (omega arith));
    }

    -- its answers are those of this run

    plain-run : IsPlainRun digest (run_at t start) c.bound (run_in_game digest c start t)
    plain-run = record {
      root = λ i some low. let e : min i c.bound ≡ i = omega (arith, low) in ap (λ (j : ℕ). root-of (run_at t start j)) e ∙ sym (lie-root-is start t i some);
      proof = λ i low. let e : min i c.bound ≡ i = omega (arith, low) in ap (λ (j : ℕ). proof-of digest (run_at t start j)) e;
      claim = refl;
    }

    abbrev SaysIts : ℕ → Manner → Type 0
    SaysIts q manner = case_says digest start c.bound c.provers q ≡ script_says digest start c.bound (record { tamper = t; manner = manner })

    answered : (manner : Manner) (q : ℕ) (asked_ : Question) → AnswersByItsRun c manner → SaysIts q manner → IsTrueAnswer (run_in_game digest c start t) asked_.kind (plain digest (run_at t start) c.bound asked_.kind) →
        AnswersTruly (says_of_case digest c start) c.patience (run_in_game digest c start t) q asked_
    answered Plain q asked_ by says true_ = record {
      passes = 0;
      few = omega arith;
      passing = λ n less. absurd (omega (arith, less));
      answer = plain digest (run_at t start) c.bound asked_.kind;
      gives = ap (λ (f : Question → ℕ → Option Answer). f asked_ 0) says;
      is_true = true_;
    }
    answered (Late many) q asked_ by says true_ = record {
      passes = many;
      few = by;
      passing = λ n less.
          let yes : nat_lt n many ≡ true = grind (arith, nat_tests) in
          ap (λ (f : Question → ℕ → Option Answer). f asked_ n) says ∙ passes-by (plain_says digest (run_at t start) c.bound asked_ n) (nat_lt n many) yes;
      answer = plain digest (run_at t start) c.bound asked_.kind;
      gives =
          let no : nat_lt many many ≡ false = grind (arith, nat_tests) in
          ap (λ (f : Question → ℕ → Option Answer). f asked_ many) says ∙ ap (λ (b : Bool). if b then None else plain_says digest (run_at t start) c.bound asked_ many) no;
      is_true = true_;
    }
    answered (Silent from) q asked_ by says true_ = absurd by
    answered (Output bytes) q asked_ by says true_ = absurd by
    answered (Forge at reg value) q asked_ by says true_ = absurd by
    answered (Noise seed) q asked_ by says true_ = absurd by
    answered (Tape entries) q asked_ by says true_ = absurd by

    playable : ArePlayable (rules_of_case digest c start)
    playable = record { some = range.some; parted = range.parted; few_parts = range.few_parts; steps = range.steps }

    keeps-to : (manner : Manner) (q : ℕ) → slice_get c.provers (q - 1) ≡ Some (record { tamper = t; manner = manner }) → AnswersByItsRun c manner →
        IsTruthfulProver (rules_of_case digest c start) (says_of_case digest c start) (run_in_game digest c start t) q
    keeps-to manner q is by asked_ asks =
        let below : IsWithinBound c.bound asked_.kind =
        laws.within (rules_of_case digest c start) (answers_of (rules_of_case digest c start) (says_of_case digest c start)) q asked_.qid asked_.kind playable asks in
        answered manner q asked_ by (laws.by_script digest start c.bound c.provers q (record { tamper = t; manner = manner }) is)
        (plain-true digest laws.divide (run_at t start) c.bound (run_in_game digest c start t) asked_.kind plain-run below)

  -- WHERE IT IS REFUTED

  true-but : (c : CaseData) (start : State) → IsInRange c start → (t : Tamper) → IsTamperInRange t →
      IsTrueBut (rules_of_case digest c start) (truth_of_case digest c start) (run_in_game digest c start t) (IsRefutingStep digest c start t)
  true-but c start range Untouched fits i low same differ = absurd (differ (sym (lie-root-true start Untouched (i + 1) (laws.plain_ start (i + 1)))))
  true-but c start range (Flip at addr mask) fits i low same differ = by (place-of at i)
    where
      by : Place at i → (i ≡ at - 1) ⊎ ((rules_of_case digest c start).ruling.leads ((run_in_game digest c start (Flip at addr mask)).root i) ((run_in_game digest c start (Flip at addr mask)).proof i) ≡ Some ((run_in_game digest c start (Flip at addr mask)).root (i + 1)))
      by (Before early) = absurd (differ (sym (lie-root-true start (Flip at addr mask) (i + 1) (laws.flip_before at addr mask start (i + 1) early))))
      by (At now) = inl now
      by (Behind late some) = inr (follows c start range (Flip at addr mask) fits i some low (after-flip at addr mask start i late))
  true-but c start range (Register at reg value) fits i low same differ = by (place-of at i)
    where
      by : Place at i → (i ≡ at - 1) ⊎ ((rules_of_case digest c start).ruling.leads ((run_in_game digest c start (Register at reg value)).root i) ((run_in_game digest c start (Register at reg value)).proof i) ≡ Some ((run_in_game digest c start (Register at reg value)).root (i + 1)))
      by (Before early) = absurd (differ (sym (lie-root-true start (Register at reg value) (i + 1) (laws.register_before at reg value start (i + 1) early))))
      by (At now) = inl now
      by (Behind late some) = inr (follows c start range (Register at reg value) fits i some low (after-register at reg value start i late))
  true-but c start range (Early n) fits i low same differ = elim (cases_Bool (nat_lt i n)) [
    | inl before ↦
        let e : min (i + 1) n ≡ i + 1 = (let b : i < n = grind (arith, nat_tests) in omega (arith, b)) in
        absurd (differ (sym (lie-root-true start (Early n) (i + 1) (laws.early n start (i + 1) ∙ ap (state_at start) e))))
    | inr after ↦
        let late : n ≤ i = grind (arith, nat_tests) in
        inl (record {
          late = late;
          back = same ∙ lie-root-early start n i late;
          leaves = λ again. differ (again ∙ sym (lie-root-early start n (i + 1) (omega (arith, late))));
        })
  ]

  all-refuted : (c : CaseData) (start : State) → IsInRange c start → (t : Tamper) → IsTamperInRange t → IsRun (rules_of_case digest c start) (truth_of_case digest c start) → (p q : ℕ) (ds : List Bisection) → all_closed ds ≡ true →
      AllEndWhereTheyPart (rules_of_case digest c start) (truth_of_case digest c start) (run_in_game digest c start t) p q ds →
      AllEndWhereTheyPart (rules_of_case digest c start) (run_in_game digest c start t) (truth_of_case digest c start) q p ds → All (IsTamperRefuted digest c start t p q) ds
  all-refuted c start range t fits run p q [] shut a b = All-nil (IsTamperRefuted digest c start t p q)
  all-refuted c start range t fits run p q (d ∷ ds) shut a b =
      let two : (is_closed d ≡ true) × (all_closed ds ≡ true) = and_parts (is_closed d) (all_closed ds) shut in
      let rules : Rules = rules_of_case digest c start in
      let fair : IsFair rules.ruling = laws.fair start.version in
      let but = true-but c start range t fits in
      All-cons (IsTamperRefuted digest c start t p q) d ds
      (record {
        as_second = λ first second.
            as-step (Out false true) (HasCollided rules.ruling (truth_of_case digest c start) (run_in_game digest c start t) d) (refuted-second rules (truth_of_case digest c start) (run_in_game digest c start t) fair run (IsRefutingStep digest c start t) d but (a.0 first second two.0));
        as_first = λ first second.
            as-step (Out true false) (HasCollided rules.ruling (run_in_game digest c start t) (truth_of_case digest c start) d) (refuted-first rules (truth_of_case digest c start) (run_in_game digest c start t) fair run (IsRefutingStep digest c start t) d but (b.0 first second two.0));
      })
      (all-refuted c start range t fits run p q ds two.1 a.1 b.1)
    where
      as-step : (out : Close) (Collided : Type 0) → EndsAt (IsRefutingStep digest c start t) out d ⊎ Collided → IsRefutedByStep digest c start t out d ⊎ Collided
      as-step out Collided (inl e) = inl (record { at = e.at; step = e.step; out_ = e.out_ })
      as-step out Collided (inr e) = inr e

  pub tampers-are-refuted : TampersAreRefuted digest
  tampers-are-refuted c start p q script range truthful some is fits by =
      let rules : Rules = rules_of_case digest c start in
      let says : Says = says_of_case digest c start in
      let t : Tamper = script.tamper in
      let truth : Truth = truth_of_case digest c start in
      let lie : Truth = run_in_game digest c start t in
      let can : ArePlayable rules = playable c start range t fits in
      let none : length start.output ≡ 0 = ap (λ (o : List ℕ). length o) range.silent in
      let run : IsRun rules truth = laws.runs start rules range.valid (omega (arith, none, range.short)) refl refl in
      let own : ClaimsItsRun rules truth = record { begins = run.begins; ends = run.ends; sound = run.sound } in
      let theirs : ClaimsItsRun rules lie = claims c start range t fits in
      let case : IsComeTo rules says = come-to laws.spare laws.over laws.most laws.of_case rules says can in
      let there : q ≤ length c.provers = omega (arith, some, there-at c.provers (q - 1) script is) in
      let to_posts : (turns rules says case.moves (begun rules)).record_ ≡ record_after rules case.posts = case.by_moves ∙ sym case.by_posts in
      let tp : AreTrue rules truth p (record_after rules case.posts) =
      subst (AreTrue rules truth p) to_posts (laws.answers rules says truth case.moves p can run.sound truthful.some truthful.there truthful.answers case.legal) in
      let tq : AreTrue rules lie q (record_after rules case.posts) =
      subst (AreTrue rules lie q) to_posts (laws.answers rules says lie case.moves q can theirs.sound some there (keeps-to c start range t fits script.manner q is by) case.legal) in
      all-refuted c start range t fits run p q (record_of_case digest c start).disputes
      (and_parts (all_there (record_of_case digest c start).claims) (all_closed (record_of_case digest c start).disputes) case.complete).1
      (subst (λ (r : Record). AllEndWhereTheyPart rules truth lie p q r.disputes) case.by_posts (laws.ends rules case.posts truth lie p q can own theirs tp tq))
      (subst (λ (r : Record). AllEndWhereTheyPart rules lie truth q p r.disputes) case.by_posts (laws.ends rules case.posts lie truth q p can theirs own tq tp))

  pub disputes-of-cases-end-where-runs-part : DisputesOfCasesEndWhereRunsPart digest
  disputes-of-cases-end-where-runs-part c start p q one other range some_p some_q is_p is_q fits_p fits_q by_p by_q =
      let rules : Rules = rules_of_case digest c start in
      let says : Says = says_of_case digest c start in
      let mine : Truth = run_in_game digest c start one.tamper in
      let theirs : Truth = run_in_game digest c start other.tamper in
      let can : ArePlayable rules = playable c start range one.tamper fits_p in
      let claims_p : ClaimsItsRun rules mine = claims c start range one.tamper fits_p in
      let claims_q : ClaimsItsRun rules theirs = claims c start range other.tamper fits_q in
      let case : IsComeTo rules says = come-to laws.spare laws.over laws.most laws.of_case rules says can in
      let few_p : p ≤ length c.provers = omega (arith, some_p, there-at c.provers (p - 1) one is_p) in
      let few_q : q ≤ length c.provers = omega (arith, some_q, there-at c.provers (q - 1) other is_q) in
      let to_posts : (turns rules says case.moves (begun rules)).record_ ≡ record_after rules case.posts = case.by_moves ∙ sym case.by_posts in
      let tp : AreTrue rules mine p (record_after rules case.posts) =
      subst (AreTrue rules mine p) to_posts (laws.answers rules says mine case.moves p can claims_p.sound some_p few_p (keeps-to c start range one.tamper fits_p one.manner p is_p by_p) case.legal) in
      let tq : AreTrue rules theirs q (record_after rules case.posts) =
      subst (AreTrue rules theirs q) to_posts (laws.answers rules says theirs case.moves q can claims_q.sound some_q few_q (keeps-to c start range other.tamper fits_q other.manner q is_q by_q) case.legal) in
      subst (λ (r : Record). AllEndWhereTheyPart rules mine theirs p q r.disputes) case.by_posts (laws.ends rules case.posts mine theirs p q can claims_p claims_q tp tq)
