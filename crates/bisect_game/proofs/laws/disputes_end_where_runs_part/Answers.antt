use Rattle.bisect_game.proofs.PartingLemmas.{runs-part-where-they-end, lie-is-refuted-at-its-step, early-end-is-refuted}
use Rattle.bisect_game.proofs.laws.disputes_end_where_runs_part.Goals as goal

pub returns : goal.returns
returns c = record { ends = runs-part-where-they-end; lie = lie-is-refuted-at-its-step; early = early-end-is-refuted }
