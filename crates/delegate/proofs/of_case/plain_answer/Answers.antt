use Rattle.std.proofs.Common.{◌≡◌, ℕ, length, ap, arith}
use Rattle.sha2.specs.Sha256.{sha256}
use Rattle.rd_base.specs.declared.tamper.Tamper.TheVariants.{Untouched}
use Rattle.rv_step.specs.State.{State, state_of}
use Rattle.rv_step.specs.Step.{state_at}
use Rattle.checkpoint_run.specs.TamperedRun.{run_at}
use Rattle.delegate.proofs.of_case.plain_answer.Goals as goal

pub plain_answer-requires-clause-short : goal.plain_answer-requires-clause-short
plain_answer-requires-clause-short c =
    let start = state_of c.args.start in
    let grown = c.outputs_grow_slowly.ensures Untouched start c.args.bound in
    let same : length (run_at Untouched start c.args.bound).output ≡ length (state_at start c.args.bound).output = ap (λ (s : State). length s.output) (c.tampered_runs.ensures.plain start c.args.bound) in
    let none : length start.output ≡ 0 = ap (length {A = ℕ}) (c.requires.fresh sha256).silent in
    omega (arith, grown, same, none, c.requires.bound)
