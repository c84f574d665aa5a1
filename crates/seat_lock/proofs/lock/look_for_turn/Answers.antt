use Rattle.std.proofs.Common.{rules, ap, ◌∙◌, subst}
use Rattle.seat_lock.specs.Views.{BeginsTurn}
use Rattle.seat_lock.proofs.LookKeeps.{looks}
use Rattle.seat_lock.proofs.Turns.{begins_later}
use Rattle.seat_lock.proofs.lock.look_for_turn.Goals as goal

pub load-requires : goal.load-requires
load-requires g c =
    let i = c.loop.invariant in
    let has = ap (λ v. v.ticket) i.2.learns ∙ c.requires.waits.0 in
    (i.0 ∙ c.requires.lock.0, search rules, looks g.T.Logged.head g.T.Logged.log _ _ c.args.ticket has i.2.not_yet _ i.2.empty_handed)

pub returns-then-load-ticket-clause-begins : goal.returns-then-load-ticket-clause-begins
returns-then-load-ticket-clause-begins g c =
    let i = c.loop.invariant in
    let has = ap (λ v. v.ticket) i.2.learns ∙ c.requires.waits.0 in
    let head = g.T.Logged.head in let log = g.T.Logged.log in
    let begins = c.load.ensures.2.0 (rw c.if-load-ticket.true has) in
    begins_later head log c.args.ticket c.args.seat.now.me c.loop.seat.me c.load.new.seat.me i.2 (subst (λ n. BeginsTurn head log c.loop.seat.me n c.load.new.seat.me) c.if-load-ticket.true begins)
