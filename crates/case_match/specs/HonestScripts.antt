-- To believe: the scripts by which a prover of any case claims and answers as the machine's definition says.
use Rattle.std.specs.Prelude.{◌≡◌, ℕ, List, ◌-◌, ◌<◌, ◌≤◌, Some, IsSomeAnd, slice_get, slice_index}
use Rattle.rd_base.specs.declared.script.Script.{Script}
use Rattle.rd_base.specs.declared.script.Manner.{Manner}
use Rattle.rd_base.specs.declared.script.Manner.TheVariants.{Plain, Late, Silent, Output, Forge, Noise, Tape}
use Rattle.rd_base.specs.declared.tape.TapeAnswer.{TapeAnswer}
use Rattle.rd_base.specs.declared.tamper.Tamper.{Tamper}
use Rattle.rd_base.specs.declared.tamper.Tamper.TheVariants.{Untouched}
use Rattle.rv_step.specs.State.{State}
use Rattle.rv_step.specs.Step.{state_at}
use Rattle.bisect_game.specs.declared.settled.Question.{Question}
use Rattle.bisect_game.specs.Truth.{IsTrueAnswer}
use Rattle.tournament.specs.Asked.{asked}
use Rattle.prover_script.specs.Manners.{written}
use Rattle.case_reader.specs.Case.{CaseData}
use Rattle.case_match.specs.Match.{rules_of_case, record_of_case, truth_of_case, final_state}
use Rattle.case_match.specs.TruthfulInCase.{IsTruthfulInCase, IsInRange}

-- a script by which nothing is wrong with the prover's run. The script {} is `untampered_with Plain`.
abbrev pub untampered_with : Manner → Script
untampered_with manner = record { tamper = Untouched; manner = manner }

-- a manner that is honest in a case whatever is asked: it answers at once, or after no more passes than the patience, or it states
-- the output of the sequential run, or forges a register to what it holds in that step, or makes noise in a run of one step, of
-- which no root is asked. A silent one answers truly only if it is asked nothing from its round on, and one with a tape only
-- if the true answers are written down.
abbrev pub IsHonest : CaseData → State → Manner → Type 0
IsHonest c start Plain = Unit {0}
IsHonest c start (Late many) = many ≤ c.patience
IsHonest c start (Silent from) = ⊥
IsHonest c start (Output bytes) = bytes ≡ (final_state c start).output
IsHonest c start (Forge step reg value) = step < c.bound → slice_index (state_at start step).regs reg ≡ value
IsHonest c start (Noise seed) = c.bound ≡ 1
IsHonest c start (Tape entries) = ⊥

-- a prover with an untouched run and an honest manner claims and answers as the machine's definition says
abbrev pub UntouchedProversAreTruthful : (List ℕ → List ℕ) → Type 0
UntouchedProversAreTruthful digest =
    (c : CaseData) (start : State) (p : ℕ) (manner : Manner) → IsInRange c start → 0 < p →
    slice_get c.provers (p - 1) ≡ Some (untampered_with manner) → IsHonest c start manner → IsTruthfulInCase digest c start p

-- a tape on which the true answer is the first one for each question that the record of the case asks the prover
abbrev pub IsTrueTape : (List ℕ → List ℕ) → CaseData → State → ℕ → List TapeAnswer → Type 0
IsTrueTape digest c start p entries =
    (q : Question) → asked (rules_of_case digest c start) (record_of_case digest c start) p q.qid ≡ Some q.kind →
    IsSomeAnd (written entries q.qid) (IsTrueAnswer (truth_of_case digest c start) q.kind)

-- a prover with such a tape claims and answers as the machine's definition says, whatever is wrong with its run
abbrev pub TrueTapesAreTruthful : (List ℕ → List ℕ) → Type 0
TrueTapesAreTruthful digest =
    (c : CaseData) (start : State) (p : ℕ) (tamper : Tamper) (entries : List TapeAnswer) → 0 < p →
    slice_get c.provers (p - 1) ≡ Some (record { tamper = tamper; manner = Tape entries }) → IsTrueTape digest c start p entries →
    IsTruthfulInCase digest c start p
