use Rattle.std.specs.Io.KnownBytes.{Keeps}
use Rattle.io_edge.proofs.sink.write_uninterrupted.Given as goal

abbrev pub invariant-tries : goal.invariant-tries
invariant-tries g l = record { kept : Keeps (g.W.Write.contents l.fn.output) (g.W.Write.contents l.output) }
