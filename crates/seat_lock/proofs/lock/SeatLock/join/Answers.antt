use Rattle.std.proofs.Common.{rules, ℕ, sym, ap, ◌∙◌, subst}
use Rattle.atomic_table.specs.Table.{Joins}
use Rattle.seat_lock.specs.Rule.{IsHeldByRule}
use Rattle.seat_lock.specs.Views.{with_joined, spent_view}
use Rattle.seat_lock.proofs.JoinKeeps.{joins}
use Rattle.seat_lock.proofs.lock.SeatLock.join.Goals as goal

pub join_seat-requires : goal.join_seat-requires
join_seat-requires g c =
    let lock = c.requires.lock in let seen = c.seat.view_is in let rest = c.seat.invariant in let its_rest = c.other.invariant in
    let v = c.seat.inside.raw.me.0 in let other = c.other.inside.raw in let u = other.me.0 in
    let head = g.T.Logged.head in let log = g.T.Logged.log in (
      ap (λ k. k.lock) seen ∙ lock.0 ∙ sym c.self.view_is,
      ap (λ k. k.lock) c.other.view_is ∙ lock.1 ∙ sym c.self.view_is,
      its_rest.empty_handed,
      search rules,
      subst (λ (n : ℕ). Joins (IsHeldByRule head log) n v other.id u (with_joined v u) spent_view) (sym (ap (λ k. k.number) seen ∙ c.requires.first))
          (joins head log v other.id u its_rest.headed.0 rest.no_ticket rest.none_served its_rest.no_ticket its_rest.none_served its_rest.headed.1),
    )
