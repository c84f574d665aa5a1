use Rattle.std.proofs.Common.{rules, ◌≡◌, ◌∷◌, Some, sym, ap, ◌∙◌, subst}
use Rattle.atomic_table.specs.Table.{rest}
use Rattle.seat_lock.specs.History.{log_of, GrowsByAtMostOne}
use Rattle.seat_lock.specs.Views.{InTurn}
use Rattle.seat_lock.proofs.EndKeeps.{ends}
use Rattle.seat_lock.proofs.Turns.{same_value, given_back}
use Rattle.seat_lock.proofs.lock.act_in_turn.Goals as goal

pub exchange-requires : goal.exchange-requires
exchange-requires g c = let q = c.requires.value in (c.requires.lock.0, (Some q.0, q.1 ∙ ap (λ l. (0, Some q.0) ∷ rest l) (sym q.1)))

pub fetch_add-requires : goal.fetch_add-requires
fetch_add-requires g c =
    let q = c.requires.value in
    let x = q.0 in let y = c.act-out.new.value in let v = c.in-Some.value in
    let taken = c.exchange.ensures in let given = c.exchange-2.ensures in let acted = c.act-out.ensures in
    let before = c.args.seat.now.me in let me = c.exchange-2.new.seat.me in
    let head = g.T.Logged.head in let log = g.T.Logged.log in
    let now = given_back head log before c.exchange.new.seat.me me x y q.1 taken.3 given.3 in
    let same : v ≡ x = same_value head log before.1 (rest before.1) x v q.1 (taken.2 ∙ ap (λ r. (0, r) ∷ rest before.1) c.in-Some.is) in
    let view = sym (ap (λ n. n.0) now) in (
      given.0 ∙ taken.0 ∙ c.requires.lock.0,
      search rules,
      ends head log _ _ me y (subst InTurn view c.requires.turn) (ap (λ n. n.1) now)
          (sym (ap (λ u. u.head) view) ∙ q.3 ∙ ap Some (sym (acted.head ∙ ap head same)))
          (subst (λ l. GrowsByAtMostOne l (log y)) (ap log same ∙ q.4 ∙ ap (λ u. log_of u.seen) view) acted.log),
    )
