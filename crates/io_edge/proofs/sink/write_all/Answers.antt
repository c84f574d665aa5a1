use Rattle.std.proofs.Common.{arith, rules, length-drop}
use Rattle.std.proofs.lemmas.List.{take_rest}
use Rattle.std.proofs.Math.Seq.{take-add}
use Rattle.std.proofs.KnownBytes.{Appends-trans}
use Rattle.io_edge.proofs.Known.{AppendsPart-after}
use Rattle.io_edge.proofs.sink.write_all.Goals as goal

pub pieces-preserved : goal.pieces-preserved
pieces-preserved g c = record {
  within = omega (arith, rw take_rest at c.in_ok-done.ensures.within, length-drop c.pieces.done c.args.bytes.now);
  taken = rw take-add (Appends-trans _ _ _ _ _ c.pieces.invariant.taken (rw take_rest at c.in_ok-done.ensures.bytes));
  count = cc c.in_ok-done.ensures.count;
}

pub returns-in_err-done-clause-failed : goal.returns-in_err-done-clause-failed
returns-in_err-done-clause-failed g c =
    let part = AppendsPart-after _ _ _ _ _ c.pieces.invariant.within c.pieces.invariant.taken (rw take_rest at c.in_err-done.ensures.failed) in
    search rules
