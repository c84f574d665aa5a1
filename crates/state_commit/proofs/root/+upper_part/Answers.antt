use Rattle.std.proofs.Common.{◌+◌, ◌-◌, ap, ◌∙◌, arith}
use Rattle.state_commit.proofs.ScratchLemmas.{left-below, right-below, node-joined, first-below, width-below, half-width, node-cut}
use Rattle.state_commit.proofs.root.+upper_part.Goals as goal

pub overflow_mul-k : goal.overflow_mul-k
overflow_mul-k g n c = omega (arith, first-below c.args.above c.args.k c.args.width c.requires.above c.requires.width c.requires.below)

pub is_some_used-requires-clause-first : goal.is_some_used-requires-clause-first
is_some_used-requires-clause-first g n c = first-below c.args.above c.args.k c.args.width c.requires.above c.requires.width c.requires.below

pub is_some_used-requires-clause-width : goal.is_some_used-requires-clause-width
is_some_used-requires-clause-width g n c = width-below c.args.above c.args.width c.requires.above c.requires.width

pub returns-then-not-is_some_used : goal.returns-then-not-is_some_used
returns-then-not-is_some_used g n c =
    c.args.of.now.empty (7 + c.args.above) (omega (arith, c.requires.above))
    ∙ node-cut c.memory_nodes.ensures.empty g.D.Digester.digest_of c.args.of.now.mem.now c.args.above c.args.width c.args.k c.requires.width (c.is_some_used.ensures c.if-not-is_some_used.true)

pub upper_part-left-requires : goal.upper_part-left-requires
upper_part-left-requires g n c = λ κs within. (omega arith, (within, (omega arith, (half-width c.args.above c.args.width (omega arith) c.requires.width, left-below 20 c.args.above c.args.k (omega arith) c.requires.above c.requires.below))))

pub upper_part-right-requires : goal.upper_part-right-requires
upper_part-right-requires g n c = λ κs within. (omega arith, (within, (omega arith, (half-width c.args.above c.args.width (omega arith) c.requires.width, right-below 20 c.args.above c.args.k (omega arith) c.requires.above c.requires.below))))

pub returns : goal.returns
returns g n c =
    let digest = g.D.Digester.digest_of in
    c.digest.ensures ∙ (ap digest (c.as_slice.ensures ∙ c.node_text.ensures)
    ∙ node-joined c.node_equations.ensures.above digest c.args.of.now.mem.now (7 + c.args.above) (7 + (c.args.above - 1)) c.args.k c.upper_part-left.result.0 c.upper_part-right.result.0 (omega arith) c.upper_part-left.ensures c.upper_part-right.ensures)
