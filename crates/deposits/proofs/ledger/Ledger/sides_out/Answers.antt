use Rattle.std.proofs.Common.{◌∙◌, ap}
use Rattle.bisect_game.specs.declared.settled.Close.TheVariants.{Out}
use Rattle.deposits.specs.Events.Event.{ClaimOut, Closed}
use Rattle.deposits.specs.Accounts.{Accounts, told, CanTell}
use Rattle.deposits.proofs.StepLemmas.{second-can-of, told-both-of, told-none-of}
use Rattle.deposits.proofs.ledger.Ledger.sides_out.Goals as goal

pub claim_out-requires-then-second : goal.claim_out-requires-then-second
claim_out-requires-then-second c =
    let can : CanTell c.args.self.now (Closed c.args.a c.args.b (Out c.args.first c.args.second)) = record { known = c.requires.known; not_yet = c.requires.not_yet } in
    rw c.claim_out.ensures (second-can-of c.args.self.now c.args.a c.args.b c.args.first c.args.second c.if-first.true c.if-second.true can)

pub returns-then-second : goal.returns-then-second
returns-then-second c =
    c.claim_out-then-second.ensures ∙ ap (λ (s : Accounts). told s (ClaimOut c.args.b)) c.claim_out.ensures
    ∙ told-both-of c.args.self.now c.args.a c.args.b c.args.first c.args.second c.if-first.true c.if-second.true c.requires.known.two

pub returns-else-second-2 : goal.returns-else-second-2
returns-else-second-2 c = told-none-of c.args.self.now c.args.a c.args.b c.args.first c.args.second c.if-first.false c.if-second-2.false
