-- Open matches are right.
use Rattle.std.proofs.Common.{◌≡◌, ℕ, zero, suc, ◌+◌, ◌-◌, ◌^◌, ◌<◌, List, length, slice_get, Option, Some, refl, sym, ap, ◌∙◌, arith}
use Rattle.rd_base.specs.declared.answer.Answer.TheVariants as answer
use Rattle.rd_base.specs.declared.claim.Claim.{Claim}
use Rattle.bisect_game.specs.declared.settled.Settled.{Settled}
use Rattle.bisect_game.specs.declared.settled.Settled.TheVariants.{Given}
use Rattle.bisect_game.specs.Rules.{Rules}
use Rattle.bisect_game.specs.Truth.{IsRun}
use Rattle.rv_step.specs.State.{State}
use Rattle.rv_step.specs.Valid.{IsValid}
use Rattle.state_commit.specs.StateRoot.{root_in}
use Rattle.step_referee.specs.MachineRuling.{machine_ruling}
use Rattle.step_referee.specs.MachineTruth.{machine_truth}
use Rattle.step_referee.specs.MachineFair.{machine_ruling_is_fair}
use Rattle.tournament.specs.declared.reading.Verdict.{Verdict}
use Rattle.tournament.specs.declared.reading.Verdict.TheVariants as verdict
use Rattle.tournament.specs.Bracket.{Record, verdict_of}
use Rattle.tournament.specs.Posting.{record_after}
use Rattle.tournament.specs.Theorem.{IsRightVerdict}
use Rattle.tournament.specs.TrueMoves.{TrueMovesAreSafe}
use Rattle.tournament.specs.Truthful.{IsSafe}
use Rattle.transcript_text.specs.declared.text.Head.{Head}
use Rattle.transcript_text.specs.declared.text.Stated.{Stated}
use Rattle.transcript_text.specs.declared.text.Stated.TheVariants.{Accept}
use Rattle.transcript_text.specs.StatedVerdict.{stated_of, VerdictsAreStated}
use Rattle.open_match.specs.Laws.{AcceptsRunOrCollides, OpenMatchesAreRight}
use Rattle.open_match.proofs.HeadLemmas.{playable, short}
use Rattle.machine_audit.specs.MachineAudit.{machine_rules}

-- what the machine's law says
abbrev pub RunsAreTrue : (List ℕ → List ℕ) → Type 0
RunsAreTrue digest =
    (s : State) (rules : Rules) → IsValid s → length s.output + rules.setup.bound < 2 ^ 64 → rules.ruling ≡ machine_ruling digest s.version → rules.setup.start.0 ≡ root_in digest s.version s →
    IsRun rules (machine_truth digest s rules.setup.bound)

accepted : (claims : List (Option Settled)) (n : ℕ) (c : Claim) (s : Stated) → slice_get claims (n - 1) ≡ Some (Some (Given (answer.Claim c))) → stated_of claims (verdict.Accept n) ≡ Some s →
    stated_of claims (verdict.Accept n) ≡ Some (Accept c.ctl.status c.output)
accepted claims zero c s is there = absurd (cc)
accepted claims (suc k) c s is there =
    let one : suc k - 1 ≡ k = omega arith in
    let at : slice_get claims k ≡ Some (Some (Given (answer.Claim c))) = rw one at is in
    rw at refl

right-by : (digest : List ℕ → List ℕ) (head : Head) (s : State) (r : Record) (v : Verdict) (said : Stated) → stated_of r.claims v ≡ Some said →
    IsRightVerdict (machine_rules digest head) (machine_truth digest s head.bound) r v → AcceptsRunOrCollides digest head s r v
right-by digest head s r (verdict.Accept n) said there right = accepted r.claims n (machine_truth digest s head.bound).claim said right there
right-by digest head s r verdict.NoneLeft said there right = right
right-by digest head s r (verdict.Collision x y) said there right = right

pub right : (digest : List ℕ → List ℕ) → ((bytes : List ℕ) → length (digest bytes) ≡ 32) → RunsAreTrue digest → TrueMovesAreSafe → VerdictsAreStated → OpenMatchesAreRight digest
right digest is_digest runs safe stated head log xs s p limits logged start some known truly =
    let rules : Rules = machine_rules digest head in
    let room : length s.output + head.bound < 2 ^ 64 = (let none : length s.output ≡ 0 = ap length start.silent in omega (arith, none, short head limits)) in
    let run : IsRun rules (machine_truth digest s head.bound) =
    runs s rules start.valid room (ap (machine_ruling digest) (sym start.version)) (start.root ∙ ap (λ v. root_in digest v s) (sym start.version)) in
    let kept : IsSafe rules (machine_truth digest s head.bound) p (record_after rules xs) =
    safe rules (machine_truth digest s head.bound) xs p (playable (machine_ruling digest head.version) head limits) (machine_ruling_is_fair digest is_digest head.version) run some known truly in
    record {
      safe = kept;
      verdict_ = λ c.
          let said = stated rules (record_after rules xs) in
          right-by digest head s (record_after rules xs) (verdict_of rules (record_after rules xs)) said.0 said.1 (kept.verdict c);
    }
