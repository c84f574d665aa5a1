use Rattle.std.proofs.Common.{◌≡◌, length}
use Rattle.posters.specs.Classes.{HaveClasses}
use Rattle.test_boards.proofs.round_robin_test.server_for_each.Given as goal

abbrev pub invariant-loop-class : goal.invariant-loop-class
invariant-loop-class l = (length l.servers.items ≡ l.class) × (l.servers.cap ≡ l.initial.servers.cap) × HaveClasses (λ s. s.class) 0 l.servers.items
