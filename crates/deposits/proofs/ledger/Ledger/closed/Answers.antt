use Rattle.std.proofs.Common.{refl}
use Rattle.bisect_game.specs.declared.settled.Close.TheVariants.{Collision}
use Rattle.deposits.specs.Events.Event.{Closed}
use Rattle.deposits.proofs.StepLemmas.{told-nothing}
use Rattle.deposits.proofs.ledger.Ledger.closed.Goals as goal

pub returns-in-Collision : goal.returns-in-Collision
returns-in-Collision c =
    rw c.in-Collision.is (told-nothing c.args.self.now (Closed c.args.a c.args.b (Collision c.in-Collision.field-0 c.in-Collision.field-1)) (λ p. refl) (λ p. refl) refl)
