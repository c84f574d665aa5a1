use Rattle.std.proofs.Common.{append-nil}
use Rattle.std.proofs.KnownBytes.{Consumes-trans}
use Rattle.io_edge.proofs.Known.{IsLaterIn-from_Consumes}
use Rattle.io_edge.proofs.source.read_all.Goals as goal

pub returns-then-n-eq0-clause-all : goal.returns-then-n-eq0-clause-all
returns-then-n-eq0-clause-all g c =
    let e = c.if-n-eq0.true in
    let given = Consumes-trans _ _ _ _ _ c.pieces.invariant.given c.in-Ok.ensures.bytes in
    (rw append-nil at (rw e at given), c.in-Ok.ensures.end e)

pub returns-then-limit-len-clause-rest : goal.returns-then-limit-len-clause-rest
returns-then-limit-len-clause-rest g c =
    IsLaterIn-from_Consumes _ _ _ (Consumes-trans _ _ _ _ _ c.pieces.invariant.given c.in-Ok.ensures.bytes)

pub returns-then-is_err-clause-rest : goal.returns-then-is_err-clause-rest
returns-then-is_err-clause-rest g c =
    IsLaterIn-from_Consumes _ _ _ (Consumes-trans _ _ _ _ _ c.pieces.invariant.given c.in-Ok.ensures.bytes)
