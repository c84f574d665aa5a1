use Rattle.checkpoint_run.proofs.RunLemmas.{flip_before, flip_at, flip_after, register_before, register_at, register_after, early, still_most, stands}
use Rattle.checkpoint_run.proofs.laws.tampered_runs.Goals as goal

pub returns-clause-flip_before : goal.returns-clause-flip_before
returns-clause-flip_before c = flip_before

pub returns-clause-flip_at : goal.returns-clause-flip_at
returns-clause-flip_at c = flip_at

pub returns-clause-flip_after : goal.returns-clause-flip_after
returns-clause-flip_after c = flip_after

pub returns-clause-register_before : goal.returns-clause-register_before
returns-clause-register_before c = register_before

pub returns-clause-register_at : goal.returns-clause-register_at
returns-clause-register_at c = register_at

pub returns-clause-register_after : goal.returns-clause-register_after
returns-clause-register_after c = register_after

pub returns-clause-early : goal.returns-clause-early
returns-clause-early c = early

pub returns-clause-within : goal.returns-clause-within
returns-clause-within c = still_most c.stopped_states_stay.ensures

pub returns-clause-stands : goal.returns-clause-stands
returns-clause-stands c = stands c.stopped_states_stay.ensures
