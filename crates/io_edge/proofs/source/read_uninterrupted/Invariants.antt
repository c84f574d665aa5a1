use Rattle.std.specs.Io.KnownBytes.{Keeps}
use Rattle.io_edge.proofs.source.read_uninterrupted.Given as goal

abbrev pub invariant-tries : goal.invariant-tries
invariant-tries g l = record { kept : Keeps (g.R.Read.remaining l.fn.input) (g.R.Read.remaining l.input) }
