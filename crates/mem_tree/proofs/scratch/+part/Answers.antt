use Rattle.std.proofs.Common.{◌∙◌, arith}
use Rattle.mem_tree.proofs.ScratchLemmas.{left-below, right-below, half-width, first-below, node-cut}
use Rattle.mem_tree.proofs.scratch.+part.Goals as goal

pub overflow_mul-k : goal.overflow_mul-k
overflow_mul-k g t c = omega (arith, first-below c.args.level c.args.k c.args.width c.requires.level c.requires.width c.requires.below)

pub returns-then-of-k : goal.returns-then-of-k
returns-then-of-k g t c =
    c.args.of.now.empty c.args.level (omega (arith, c.requires.level))
    ∙ node-cut c.nodes_over_one_string_are_empty.ensures.empty g.D.Digester.digest_of c.args.of.now.input.now c.args.level c.args.width c.args.k c.requires.width (omega arith)

pub part-left-requires : goal.part-left-requires
part-left-requires g t c = λ κs within. (omega arith, (within, (omega arith, (half-width c.args.level c.args.width (omega arith) c.requires.width, left-below c.args.level c.args.k (omega arith) c.requires.level c.requires.below))))

pub part-right-requires : goal.part-right-requires
part-right-requires g t c = λ κs within. (omega arith, (within, (omega arith, (half-width c.args.level c.args.width (omega arith) c.requires.width, right-below c.args.level c.args.k (omega arith) c.requires.level c.requires.below))))
