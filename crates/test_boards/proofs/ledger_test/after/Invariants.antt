use Rattle.std.proofs.Common.{◌≡◌, length}
use Rattle.test_boards.proofs.ledger_test.after.Given as goal

abbrev pub invariant-loop-told : goal.invariant-loop-told
invariant-loop-told l = length l.ledger.of ≡ 3
