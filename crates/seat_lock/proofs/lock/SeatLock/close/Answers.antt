use Rattle.std.proofs.Common.{sym, ap, ◌∙◌}
use Rattle.seat_lock.proofs.Histories.{some≢none}
use Rattle.seat_lock.proofs.Opens.{closed_value, last_is}
use Rattle.seat_lock.proofs.lock.SeatLock.close.Goals as goal

pub close_with-closed-requires : goal.close_with-closed-requires
close_with-closed-requires g c = ap (λ k. k.lock) c.seat.view_is ∙ c.requires.lock ∙ sym c.self.view_is

pub unreachable-requires : goal.unreachable-requires
unreachable-requires g c =
    let raw = c.seat.inside.raw in
    let d = closed_value g.T.Logged.head g.T.Logged.log raw.table_id raw.id raw.me.0 c.args.seat _ _ c.take-value.result c.seat.view_is c.requires.first c.requires.none_out c.seat.invariant.no_ticket c.close_with-closed.ensures.values.2 c.take-value.ensures.value in
    some≢none d.0 (sym d.1 ∙ c.in-None.is)

pub returns-clause-head : goal.returns-clause-head
returns-clause-head g c =
    let raw = c.seat.inside.raw in
    let d = closed_value g.T.Logged.head g.T.Logged.log raw.table_id raw.id raw.me.0 c.args.seat _ _ c.take-value.result c.seat.view_is c.requires.first c.requires.none_out c.seat.invariant.no_ticket c.close_with-closed.ensures.values.2 c.take-value.ensures.value in
    (last_is g.T.Logged.head g.T.Logged.log c.args.seat c.take-value.result c.in-Some.value c.in-Some.is d).has_head

pub returns-clause-history : goal.returns-clause-history
returns-clause-history g c =
    let raw = c.seat.inside.raw in
    let d = closed_value g.T.Logged.head g.T.Logged.log raw.table_id raw.id raw.me.0 c.args.seat _ _ c.take-value.result c.seat.view_is c.requires.first c.requires.none_out c.seat.invariant.no_ticket c.close_with-closed.ensures.values.2 c.take-value.ensures.value in
    let last = last_is g.T.Logged.head g.T.Logged.log c.args.seat c.take-value.result c.in-Some.value c.in-Some.is d in
    (last.history, last.has_log, last.saw, last.saw_joined)

pub returns-clause-log : goal.returns-clause-log
returns-clause-log g c =
    let raw = c.seat.inside.raw in
    let d = closed_value g.T.Logged.head g.T.Logged.log raw.table_id raw.id raw.me.0 c.args.seat _ _ c.take-value.result c.seat.view_is c.requires.first c.requires.none_out c.seat.invariant.no_ticket c.close_with-closed.ensures.values.2 c.take-value.ensures.value in
    let last = last_is g.T.Logged.head g.T.Logged.log c.args.seat c.take-value.result c.in-Some.value c.in-Some.is d in
    (last.saw_log, last.saw_joined_logs)

pub returns-clause-receipts : goal.returns-clause-receipts
returns-clause-receipts g c =
    let raw = c.seat.inside.raw in
    let d = closed_value g.T.Logged.head g.T.Logged.log raw.table_id raw.id raw.me.0 c.args.seat _ _ c.take-value.result c.seat.view_is c.requires.first c.requires.none_out c.seat.invariant.no_ticket c.close_with-closed.ensures.values.2 c.take-value.ensures.value in
    let last = last_is g.T.Logged.head g.T.Logged.log c.args.seat c.take-value.result c.in-Some.value c.in-Some.is d in
    (last.none_twice, last.places)

pub returns-clause-added : goal.returns-clause-added
returns-clause-added g c =
    let raw = c.seat.inside.raw in
    let d = closed_value g.T.Logged.head g.T.Logged.log raw.table_id raw.id raw.me.0 c.args.seat _ _ c.take-value.result c.seat.view_is c.requires.first c.requires.none_out c.seat.invariant.no_ticket c.close_with-closed.ensures.values.2 c.take-value.ensures.value in
    (last_is g.T.Logged.head g.T.Logged.log c.args.seat c.take-value.result c.in-Some.value c.in-Some.is d).each_once
