use Rattle.std.proofs.Common.{⊎_elim, arith}
use Rattle.checkpoint_run.proofs.RunLemmas.{first_stop_running, first_stop_stopped, still_first, still_rests}
use Rattle.checkpoint_run.proofs.laws.stops_come_first.Goals as goal

pub returns-clause-runs_before : goal.returns-clause-runs_before
returns-clause-runs_before c = first_stop_running

pub returns-clause-stops : goal.returns-clause-stops
returns-clause-stops c = first_stop_stopped

pub returns-clause-moves_before : goal.returns-clause-moves_before
returns-clause-moves_before c = still_first c.stopped_states_stay.ensures

pub returns-clause-rests_there : goal.returns-clause-rests_there
returns-clause-rests_there c t first bound early = ⊎_elim (λ rest. rest) (λ last. absurd (omega (arith, early, last))) (still_rests c.stopped_states_stay.ensures t first bound)
