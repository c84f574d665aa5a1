use Rattle.std.proofs.Common.{arith}
use Rattle.std.proofs.KnownBytes.{Keeps-refl, Keeps-trans}
use Rattle.io_edge.proofs.Known.{Keeps-Appends, Keeps-from_none}
use Rattle.io_edge.proofs.sink.write_uninterrupted.Goals as goal

pub tries-init : goal.tries-init
tries-init g c = record { kept = Keeps-refl _ }

pub returns-then-n-gt0-clause-bytes : goal.returns-then-n-gt0-clause-bytes
returns-then-n-gt0-clause-bytes g c = Keeps-Appends _ _ _ _ c.tries.invariant.kept c.in-Ok.ensures.bytes

pub returns-in-Ok-clause-failed : goal.returns-in-Ok-clause-failed
returns-in-Ok-clause-failed g c =
    λ _. Keeps-trans _ _ _ c.tries.invariant.kept (Keeps-from_none _ _ _ _ (omega arith) c.in-Ok.ensures.bytes)

pub returns-then-ne-clause-failed : goal.returns-then-ne-clause-failed
returns-then-ne-clause-failed g c = λ _. Keeps-trans _ _ _ c.tries.invariant.kept c.in-Err.ensures.bytes

pub tries-preserved : goal.tries-preserved
tries-preserved g c = record { kept = Keeps-trans _ _ _ c.tries.invariant.kept c.in-Err.ensures.bytes }

pub returns-clause-failed : goal.returns-clause-failed
returns-clause-failed g c = λ _. c.tries.invariant.kept
