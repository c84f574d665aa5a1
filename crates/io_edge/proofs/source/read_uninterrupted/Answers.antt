use Rattle.std.proofs.KnownBytes.{Keeps-refl, Keeps-trans}
use Rattle.io_edge.proofs.Known.{Keeps-Consumes}
use Rattle.io_edge.proofs.source.read_uninterrupted.Goals as goal

pub tries-init : goal.tries-init
tries-init g c = record { kept = Keeps-refl _ }

pub returns-in-Ok-clause-bytes : goal.returns-in-Ok-clause-bytes
returns-in-Ok-clause-bytes g c = Keeps-Consumes _ _ _ _ c.tries.invariant.kept c.in-Ok.ensures.bytes.0

pub returns-then-ne-clause-failed : goal.returns-then-ne-clause-failed
returns-then-ne-clause-failed g c = λ _. Keeps-trans _ _ _ c.tries.invariant.kept c.in-Err.ensures.bytes

pub tries-preserved : goal.tries-preserved
tries-preserved g c = record { kept = Keeps-trans _ _ _ c.tries.invariant.kept c.in-Err.ensures.bytes }

pub returns-clause-failed : goal.returns-clause-failed
returns-clause-failed g c = λ _. c.tries.invariant.kept
