use Rattle.std.proofs.Common.{◌+◌, ◌*◌, Ok, ap, sym, ◌∙◌}
use Rattle.image_reader.proofs.LoadsLemmas.{loads_from-load, loads_from-other, loads_from-all}
use Rattle.image_reader.proofs.header.collect_loads.Goals as goal
use Rattle.image_reader.proofs.header.collect_loads.Goals.{then-header-eq-PT_LOAD+in_ok-push, else-header-eq-PT_LOAD}

pub headers-preserved : goal.headers-preserved
headers-preserved c =
    elim c.if-header-eq-PT_LOAD.branch [
      | then-header-eq-PT_LOAD+in_ok-push w ↦
          let next = loads_from-load c.args.bytes.now c.args.offset c.headers.k c.args.count c.headers.loads.items c.read-header.result c.headers-test.true c.read-header.ensures w.if-header-eq-PT_LOAD.true in
          cc (w.in_ok-push.ensures.items)
      | else-header-eq-PT_LOAD w ↦
          let next = loads_from-other c.args.bytes.now c.args.offset c.headers.k c.args.count c.read-header.result c.headers-test.true c.read-header.ensures w.if-header-eq-PT_LOAD.false in
          cc
    ]

pub returns : goal.returns
returns c =
    ap Ok (sym c.headers.invariant ∙ loads_from-all c.args.bytes.now (c.args.offset + 32 * c.headers.k) c.headers.k c.args.count c.headers.loads.items c.headers-test.false)
