use Rattle.open_proof.proofs.CodeLemmas.{there-is, there-next}
use Rattle.open_proof.proofs.collision.part_collision.Goals as goal

pub returns-then-is_some : goal.returns-then-is_some
returns-then-is_some g c = there-is c.state_collision-state.result _ _ c.state_collision-state.ensures c.if-is_some.ensures

pub returns-then-is_some-2 : goal.returns-then-is_some-2
returns-then-is_some-2 g c =
    there-next c.state_collision-state.result _ _ c.storage_collision-storage.result c.state_collision-state.ensures c.if-is_some.ensures
    (there-is c.storage_collision-storage.result _ _ c.storage_collision-storage.ensures c.if-is_some-2.ensures)

pub returns-then-is_some-3 : goal.returns-then-is_some-3
returns-then-is_some-3 g c =
    there-next c.state_collision-state.result _ _ c.registers_collision-registers.result c.state_collision-state.ensures c.if-is_some.ensures
    (there-next c.storage_collision-storage.result _ _ c.registers_collision-registers.result c.storage_collision-storage.ensures c.if-is_some-2.ensures
    (there-is c.registers_collision-registers.result _ _ c.registers_collision-registers.ensures c.if-is_some-3.ensures))

pub returns : goal.returns
returns g c =
    there-next c.state_collision-state.result _ _ c.control_collision.result c.state_collision-state.ensures c.if-is_some.ensures
    (there-next c.storage_collision-storage.result _ _ c.control_collision.result c.storage_collision-storage.ensures c.if-is_some-2.ensures
    (there-next c.registers_collision-registers.result _ _ c.control_collision.result c.registers_collision-registers.ensures c.if-is_some-3.ensures c.control_collision.ensures))
