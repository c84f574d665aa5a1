use Rattle.std.proofs.Common.{◌≡◌, length}
use Rattle.test_boards.proofs.round_robin_test.items_at_home.Given as goal

abbrev pub invariant-loop-home : goal.invariant-loop-home
invariant-loop-home l = (length l.items.items ≡ l.home) × (l.items.cap ≡ l.initial.items.cap)
