use Rattle.std.proofs.Common.{rules, ℕ, ◌+◌, ◌<◌, sym, ap, ◌∙◌, subst}
use Rattle.atomic_table.specs.Table.{Splits}
use Rattle.seat_lock.specs.Rule.{word_size, IsHeldByRule}
use Rattle.seat_lock.specs.Views.{with_one_more_out, newcomer}
use Rattle.seat_lock.proofs.SplitKeeps.{splits}
use Rattle.seat_lock.proofs.lock.SeatLock.split.Goals as goal

pub split_seat-raw-requires : goal.split_seat-raw-requires
split_seat-raw-requires g c =
    let seen = c.seat.view_is in let rest = c.seat.invariant in let v = c.seat.inside.raw.me.0 in
    let head = g.T.Logged.head in let log = g.T.Logged.log in (
      ap (λ k. k.lock) seen ∙ c.requires.lock ∙ sym c.self.view_is,
      search rules,
      subst (λ (n : ℕ). Splits (IsHeldByRule head log) n v (with_one_more_out v) (newcomer v)) (sym (ap (λ k. k.number) seen ∙ c.requires.first))
          (splits head log v rest.headed.0 rest.no_ticket rest.none_served rest.headed.1 (subst (λ (n : ℕ). n + 2 < word_size) (sym (ap (λ k. k.out) seen)) c.requires.few)),
    )
