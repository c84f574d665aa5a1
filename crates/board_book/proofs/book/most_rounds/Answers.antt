use Rattle.std.proofs.Common.{arith}
use Rattle.board_book.proofs.BookLemmas.{most-is, most-small}
use Rattle.board_book.proofs.book.most_rounds.Goals as goal

pub overflow_add-rounds : goal.overflow_add-rounds
overflow_add-rounds c =
    let i = c.loop-power.invariant in
    omega (arith, most-small c.args.fan c.loop-power.rounds c.loop-power.power c.args.bound c.requires.parted c.requires.few_parts i.is i.low c.requires.short)

pub returns-clause-most : goal.returns-clause-most
returns-clause-most c =
    let i = c.loop-power.invariant in
    most-is c.args.fan c.args.bound c.loop-power.rounds c.loop-power.power c.requires.parted i.is i.low (omega (arith, c.loop-power-test.false))

pub returns-clause-few : goal.returns-clause-few
returns-clause-few c =
    let i = c.loop-power.invariant in
    most-small c.args.fan c.loop-power.rounds c.loop-power.power c.args.bound c.requires.parted c.requires.few_parts i.is i.low c.requires.short
