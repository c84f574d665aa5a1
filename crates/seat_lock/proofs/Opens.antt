-- The rule holds of a new table, and tells what lies in a table that is closed.
use Rattle.std.proofs.Common.{◌≡◌, ℕ, zero, suc, List, [], ◌∷◌, length, ◌<◌, ◌≤◌, ◌≢◌, Option, Some, None, sym, refl, ap, ◌∙◌, subst, arith}
use mathlib.Core.Option.{some, some-injective, some-ne-none}
use mathlib.Core.Logic.{dite}
use native.Mathlib.Decide.{ℕ_discrete}
use lib.ListN.{get_elem?}
use Rattle.std.specs.List.{All}
use Rattle.std.proofs.lemmas.List.Elements.{All-nil}
use Rattle.atomic_table.specs.Table.{opening, Final, Seen}
use Rattle.seat_lock.specs.View.{View}
use Rattle.seat_lock.specs.History.{LogEntry, History, log_of, turns_of, Begins, times, NoneTwice}
use Rattle.seat_lock.specs.Rule.{weight, total, weight_of_view, NoneInTurn, FitsAt}
use Rattle.seat_lock.specs.Seats.{LockId, Known, once_between, AreEachOnce}
use Rattle.seat_lock.specs.Views.{starting, known_as}
use Rattle.seat_lock.proofs.Histories.{some-injective_or, some≢none, begins-itself, log_of-turns_of, logs_begin}
use Rattle.seat_lock.proofs.Totals.{two-le-total, total-alone, weight-none}
use Rattle.seat_lock.proofs.Receipts.{all_below, at_most_once, none-between}
use Rattle.seat_lock.proofs.Views.{Table, Rule, same_view, own_places}

-- what a seat knows of the value of a lock that is closed with it
pub record IsLast {T H : Type 0} (head : T → H) (log : T → List LogEntry) (k : Known H) (value : T) : Type 0 where
  pub has_head : k.head ≡ Some (head value)
  pub history : History
  pub has_log : log value ≡ log_of history
  pub saw : Begins k.seen history
  pub saw_joined : All (λ seen. Begins seen history) k.joined
  pub saw_log : Begins (log_of k.seen) (log value)
  pub saw_joined_logs : All (λ seen. Begins (log_of seen) (log value)) k.joined
  pub none_twice : NoneTwice k.receipts
  pub places : All (λ place. place < length (log value)) k.receipts
  pub each_once : AreEachOnce k.began (length (log value)) k.receipts

module _ {T H : Type 0} (head : T → H) (log : T → List LogEntry) where
  pub opens : (x : T) → Rule head log (opening (0 ∷ 0 ∷ []) (Some x ∷ []) (starting (head x) (log x)))
  opens x = record {
    at = head x;
    queue = [];
    began = length (log x);
    history = turns_of (log x);
    serving = 0;
    words = refl;
    each = one;
    holders = refl;
    first = record { view = starting (head x) (log x); is_first = refl; head = refl; counts = refl; few = omega arith };
    grown = subst (λ l. length (log x) ≤ length l) (sym (log_of-turns_of (log x))) (omega arith);
    places = λ p. sym (ap (λ l. once_between (length (log x)) (length l) p) (log_of-turns_of (log x)) ∙ none-between (length (log x)) p);
    free = λ _. (x, refl, refl, sym (log_of-turns_of (log x)));
  }
    where
      one : (j : ℕ) (v : View H) → get_elem? (starting (head x) (log x) ∷ []) j ≡ some v → FitsAt (head x) (length (log x)) [] (turns_of (log x)) 0 (some (Some x) ∷ []) j v
      one zero v e = subst (FitsAt (head x) (length (log x)) [] (turns_of (log x)) 0 (some (Some x) ∷ []) 0) (some-injective _ v e) record {
        headed = λ h g. (sym (some-injective_or h (head x) h g), begins-itself (turns_of (log x)), All-nil (λ seen. Begins seen (turns_of (log x))));
        knows = λ h g. refl;
        empty = λ _. refl;
        waits = λ t g. absurd (some≢none t (sym g));
        rests = λ _. refl;
        turn = λ t g _. absurd (some≢none t (sym g));
      }
      one (suc j) v e = absurd (some-ne-none v (sym e))

  -- where the first seat is alone and at rest the slot is at home
  closes : (lock : LockId) (s : Table head log) (r : Rule head log s) (v : View H) → get_elem? s.views 0 ≡ some v → v.ticket ≡ None → v.out ≡ 0 → (x : T) × (s.homes ≡ some (Some x) ∷ []) × IsLast head log (known_as lock 0 v) x
  closes lock s r v at no_ticket alone =
      let f = r.first in let same : f.view ≡ v = some-injective f.view v (sym f.is_first ∙ at) in
      let v_head : v.head ≡ Some r.at = sym (ap (λ x. x.head) same) ∙ f.head in
      let all : total weight_of_view s.views ≡ suc v.out = f.counts ∙ ap (λ x. suc x.out) same in
      let one : weight_of_view v ≡ 1 = ap weight v_head in
      let none_in : NoneInTurn s.views = λ j d e it. dite (ℕ_discrete 0 j)
      (λ is. some≢none it.0 (sym it.1 ∙ ap (λ x. x.ticket) (same_view head log s.views j 0 v d at e (sym is)) ∙ no_ticket))
      (λ other. let both = two-le-total weight_of_view s.views 0 j v d other at e in let two : weight_of_view d ≡ 1 = ap weight ((r.each j d e).waits it.0 it.1).0 in absurd (omega arith)) in
      let g = r.free none_in in let seen = (r.each 0 v at).headed r.at v_head in
      let no_other : (p j : ℕ) (d : View H) → 0 ≢ j → get_elem? s.views j ≡ some d → times p d.receipts ≡ 0 = λ p j d other e.
      let both = two-le-total weight_of_view s.views 0 j v d other at e in
      let none : weight_of_view d ≡ 0 = omega arith in
      ap (times p) ((r.each j d e).empty (weight-none d.head none)) in
      let exact : (p : ℕ) → times p v.receipts ≡ once_between v.began (length (log_of r.history)) p = λ p.
      sym (total-alone (λ (u : View H). times p u.receipts) s.views v at (no_other p)) ∙ r.places p ∙ ap (λ n. once_between n (length (log_of r.history)) p) (sym ((r.each 0 v at).knows r.at v_head)) in
      let to_log : (l : History) → Begins l r.history → Begins (log_of l) (log g.0) = λ l h. subst (Begins (log_of l)) (sym g.3) (logs_begin l r.history h) in (
        g.0,
        g.1,
        record {
          has_head = v_head ∙ ap Some (sym g.2);
          history = r.history;
          has_log = g.3;
          saw = seen.1;
          saw_joined = seen.2;
          saw_log = to_log v.seen seen.1;
          saw_joined_logs = λ k d b. to_log _ (seen.2 k d b);
          none_twice = λ p. at_most_once r.began p (length (log_of r.history)) (times p v.receipts) (own_places head log s r 0 v p at);
          each_once = λ p. exact p ∙ ap (λ l. once_between v.began (length l) p) (sym g.3);
          places = subst (λ (l : List LogEntry). All (λ place. place < length l) v.receipts) (sym g.3) (all_below v.receipts r.began (length (log_of r.history)) (λ p. own_places head log s r 0 v p at));
        },
      )

  pub closed_value : (lock : LockId) (id : ℕ) (v : View H) (k : Known H) (ws : List ℕ) (xs : List (Option T)) (r : Option T) → known_as lock id v ≡ k → k.number ≡ 0 → k.out ≡ 0 → v.ticket ≡ None
      → Final (Seen (Rule head log) id v) ws xs → get_elem? xs 0 ≡ some r → (x : T) × (r ≡ Some x) × IsLast head log k x
  closed_value lock id v k ws xs r known_is first alone no_ticket final took =
      let s = final.0 in let id_is : id ≡ 0 = ap (λ (n : Known H). n.number) known_is ∙ first in
      let c = closes lock s final.1.0 v (ap (get_elem? s.views) (sym id_is) ∙ final.1.1) no_ticket (ap (λ (n : Known H). n.out) known_is ∙ alone) in
      let there = final.4 0 (Some c.0) (ap (λ hs. get_elem? hs 0) c.1) in
      (c.0, some-injective r (Some c.0) (sym took ∙ there), subst (λ n. IsLast head log n c.0) (ap (λ (n : ℕ). known_as lock n v) (sym id_is) ∙ known_is) c.2)

  pub last_is : (k : Known H) (r : Option T) (y : T) → r ≡ Some y → (x : T) × (r ≡ Some x) × IsLast head log k x → IsLast head log k y
  last_is k r y is d = subst (IsLast head log k) (some-injective_or y d.0 y (sym d.1 ∙ is)) d.2
