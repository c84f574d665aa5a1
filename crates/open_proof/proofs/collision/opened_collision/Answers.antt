use Rattle.open_proof.proofs.CodeLemmas.{there-is, there-next}
use Rattle.open_proof.proofs.collision.opened_collision.Goals as goal

pub returns-then-is_some : goal.returns-then-is_some
returns-then-is_some g c = there-is c.part_collision-parts.result _ _ c.part_collision-parts.ensures c.if-is_some.ensures

pub returns : goal.returns
returns g c = there-next c.part_collision-parts.result _ _ c.ways_collision.result c.part_collision-parts.ensures c.if-is_some.ensures c.ways_collision.ensures
