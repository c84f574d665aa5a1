-- A run of the machine is a true run, so what holds of confirmed texts holds of the machine.
use Rattle.std.proofs.Common.{◌≡◌, ℕ, ◌+◌, ◌^◌, ◌<◌, List, length, sym, ap, ◌∙◌, arith}
use Rattle.bisect_game.specs.Rules.{Rules, ArePlayable}
use Rattle.bisect_game.specs.Truth.{IsRun}
use Rattle.rv_step.specs.State.{State}
use Rattle.rv_step.specs.Valid.{IsValid}
use Rattle.state_commit.specs.StateRoot.{root_in}
use Rattle.step_referee.specs.MachineRuling.{machine_ruling}
use Rattle.step_referee.specs.MachineTruth.{machine_truth}
use Rattle.step_referee.specs.MachineFair.{machine_ruling_is_fair}
use Rattle.transcript_text.specs.declared.text.Stated.{Stated}
use Rattle.transcript_text.specs.declared.text.Stated.TheVariants.{Accept, NoneLeft, Collision}
use Rattle.transcript_text.specs.declared.text.FullText.{FullText}
use Rattle.transcript_text.specs.reader.InLimits.{IsStatedInLimits}
use Rattle.transcript_text.specs.reader.Laws.{ReadsExactly}
use Rattle.audit.specs.Auditable.{MayBeAudited, ReadTextsMayBeAudited}
use Rattle.audit.specs.LineByLine.{rules_of_head}
use Rattle.audit.specs.TrueLines.{IsRightStated, ConfirmedTextIsRight}
use Rattle.machine_audit.specs.MachineAudit.{machine_rules, IsAnswerOrCollision, ConfirmedCasesAreRight}

-- what the machine's law says
abbrev pub RunsAreTrue : (List ℕ → List ℕ) → Type 0
RunsAreTrue digest =
    (s : State) (rules : Rules) → IsValid s → length s.output + rules.setup.bound < 2 ^ 64 → rules.ruling ≡ machine_ruling digest s.version → rules.setup.start.0 ≡ root_in digest s.version s →
    IsRun rules (machine_truth digest s rules.setup.bound)

answer-of : (digest : List ℕ → List ℕ) (text : FullText) (s : State) (said : Stated)
    → IsRightStated (machine_rules digest text.head) (machine_truth digest s text.head.bound) text.moves said → IsStatedInLimits said → IsAnswerOrCollision digest text s said
answer-of digest text s (Accept status output) right within = right
answer-of digest text s NoneLeft right within = right
answer-of digest text s (Collision x y) right within = (right, (within.0.2, within.1.2))

pub cases-right : (digest : List ℕ → List ℕ) → ((bytes : List ℕ) → length (digest bytes) ≡ 32) → RunsAreTrue digest → ConfirmedTextIsRight → ReadTextsMayBeAudited → ReadsExactly → ConfirmedCasesAreRight digest
cases-right digest is_digest runs right auditable exactly bytes text v s p read confirmed start some few lines =
    let ruling = machine_ruling digest text.head.version in
    let rules : Rules = rules_of_head ruling text.head in
    let fit : MayBeAudited text = auditable bytes text read in
    let short : length s.output + text.head.bound < 2 ^ 64 = (let none : length s.output ≡ 0 = ap length start.silent in omega (arith, none, fit.short)) in
    let run : IsRun rules (machine_truth digest s text.head.bound) =
    runs s rules start.valid short (ap (machine_ruling digest) (sym start.version)) (start.root ∙ ap (λ v. root_in digest v s) (sym start.version)) in
    let playable : ArePlayable rules = record { some = fit.some; parted = fit.parted; few_parts = fit.few_parts; steps = fit.steps } in
    answer-of digest text s text.stated
    (right ruling (machine_truth digest s text.head.bound) text v p playable (machine_ruling_is_fair digest is_digest text.head.version) run some few fit.provers confirmed lines)
    ((exactly bytes text).0 read).0.stated
