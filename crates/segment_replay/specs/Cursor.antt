-- Derived: a machine of a run, a tree that is kept with its memory, and what a worker keeps of a run.
use Rattle.std.specs.Prelude.{◌≡◌, ℕ, List, [], IfSome}
use Rattle.mem_plain.specs.Contents.{Contents}
use Rattle.mem_tree.specs.Tree.{Tree, IsTreeOf, SameBut}
use Rattle.rv_step.specs.State.{state_of, IsChained}
use Rattle.rv_step.specs.declared.machine.Machine.{Machine}
use Rattle.checkpoint_run.specs.Recorded.{Recorded, state_of_step}
use Rattle.segment_replay.specs.declared.replaying.Worker.{Worker}

-- the machine is that of a step of the run, by this digest
pub record IsMachineOf (digest : List ℕ → List ℕ) (r : Recorded) (at : ℕ) (machine : Machine) : Type 0 where
  pub state : state_of machine ≡ state_of_step r at
  pub chained : IsChained digest machine

-- the tree is that of a memory from which another one differs in touched pages alone
pub record IsBehind (digest : List ℕ → List ℕ) (tree : Tree) (old new : Contents) : Type 0 where
  pub tree_of : IsTreeOf digest tree old
  pub same : SameBut tree.touched old new

-- no page is touched, and the tree is the memory's
pub record IsFreshTree (digest : List ℕ → List ℕ) (tree : Tree) (m : Contents) : Type 0 where
  pub untouched : tree.touched ≡ []
  pub tree_of : IsTreeOf digest tree m

-- what a worker keeps is of the run: the digests of registers in the run's version, and a cursor, if it has one, whose machine is that of
-- its step and whose tree is the machine's memory's
pub record IsWorkerOf {D : Type 0} (digest : List ℕ → List ℕ) (r : Recorded) (w : Worker D) : Type 0 where
  pub registers : w.registers ≡ r.first.version
  pub machine : IfSome w.cursor (λ c. IsMachineOf digest r c.at c.machine)
  pub tree : IfSome w.cursor (λ c. IsFreshTree digest c.tree c.machine.mem)
