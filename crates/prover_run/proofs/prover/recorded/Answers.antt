use Rattle.std.proofs.Common.{sym, subst}
use Rattle.rv_step.specs.State.{state_of}
use Rattle.prover_run.specs.Prover.{Prover, IsRunOf}
use Rattle.prover_run.proofs.RunLemmas.{states_of}
use Rattle.prover_run.proofs.prover.recorded.Goals as goal

pub returns-in_ok-share-in-None : goal.returns-in_ok-share-in-None
returns-in_ok-share-in-None g c =
    let p : Prover = record { start = state_of c.args.start.now; tamper = c.args.tamper; bound = c.args.reader.now.plan.bound } in
    let made = c.in_ok-run-in-None.ensures in
    subst (IsRunOf g.D.Digester.digest_of p) (sym c.new.ensures)
    (record { states = states_of p c.in_ok-run-in-None.run' made.first made.tamper; bound = made.bound; chained = made.chained })
