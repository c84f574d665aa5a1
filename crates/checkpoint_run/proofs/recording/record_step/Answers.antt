use Rattle.std.proofs.Common.{◌≡◌, ℕ, ◌+◌, ◌-◌, ◌*◌, ◌<◌, List, length, refl, sym, ap, subst, ◌∙◌, arith}
use Rattle.std.proofs.Math.Nat.{add-mul}
use Rattle.checkpoint_run.specs.Keeping.{step_at}
use Rattle.checkpoint_run.specs.declared.checkpoint.Checkpoint.{Checkpoint}
use Rattle.checkpoint_run.proofs.PlaceLemmas.{length_pushed, spaced_pushed}
use Rattle.checkpoint_run.proofs.recording.record_step.Goals as goal

pub returns-then-recording-ne0-clause-under_way : goal.returns-then-recording-ne0-clause-under_way
returns-then-recording-ne0-clause-under_way g c first way =
    let old = c.args.recording.now in
    let same = c.in_ok-step_noting_changes.ensures.checkpoints in
    let due = way.spaced.due in
    let within = way.spaced.within in
    let soon = way.spaced.soon in
    let more = c.if-recording-ne0.true in
    let P : List Checkpoint → Type 0 = λ cs. (old.at + 1) + (old.left - 1) ≡ length cs * c.args.every in
    let Q : List Checkpoint → Type 0 = λ cs. (k : ℕ) → k < length cs → step_at cs k ≡ k * c.args.every in
    record {
      recorded = c.in_ok-step_noting_changes.ensures.recorded first way.recorded;
      spaced = record {
        due = subst P (sym same) (omega arith);
        soon = omega arith;
        within = omega arith;
        steps = subst Q (sym same) way.spaced.steps;
      };
    }

pub returns-clause-under_way : goal.returns-clause-under_way
returns-clause-under_way g c first way =
    let old = c.args.recording.now in
    let same = c.in_ok-step_noting_changes.ensures.checkpoints in
    let before = c.step_noting_changes.new.recorded.checkpoints.items in
    let new = c.record_checkpoint.new.recorded.checkpoints.items in
    let due = way.spaced.due in
    let soon = way.spaced.soon in
    let none = c.if-recording-ne0.false in
    let pushed = c.in_ok-record_checkpoint.ensures.pushed in
    let Q : List Checkpoint → Type 0 = λ cs. (k : ℕ) → k < length cs → step_at cs k ≡ k * c.args.every in
    let len = length_pushed before new (old.at + 1) pushed in
    let next : old.at + 1 ≡ length before * c.args.every = let n = ap (λ cs. length cs * c.args.every) same in omega arith in
    let product : length new * c.args.every ≡ length before * c.args.every + 1 * c.args.every = ap (λ n. n * c.args.every) len ∙ add-mul (length before) 1 c.args.every in
    record {
      recorded = c.in_ok-record_checkpoint.ensures.recorded g.D.Digester.digest_of c.args.tamper.now first (old.at + 1) refl (c.in_ok-step_noting_changes.ensures.recorded first way.recorded);
      spaced = record {
        due = omega arith;
        soon = c.requires.every;
        within = omega arith;
        steps = spaced_pushed c.args.every before new (old.at + 1) (subst Q (sym same) way.spaced.steps) pushed next;
      };
    }
