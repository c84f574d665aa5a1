-- The end of a turn keeps the rule.
use Rattle.std.proofs.Common.{◌≡◌, ◌≢◌, inl, inr, ⊎_elim, ℕ, zero, suc, ◌+◌, ◌%◌, ◌<◌, List, [], ◌∷◌, ◌++◌, length, get_or, set, drop, Option, Some, None, sym, refl, ap, ◌∙◌, subst, arith}
use mathlib.Core.Option.{some, none, some-injective}
use mathlib.Core.Option as maybe
use lib.ListN.{get_elem?}
use Rattle.atomic_table.specs.Table.{rest, Me, step, gives, stepped, Allows}
use Rattle.atomic_table.proofs.Lists.{set_here, drop_at}
use Rattle.seat_lock.specs.View.{View}
use Rattle.seat_lock.specs.History.{LogEntry, Turn, History, log_of, GrowsByAtMostOne, Begins, times, with_receipt, NoneTwice}
use Rattle.seat_lock.specs.Rule.{word_size, weight, holds_ticket, FitsAt}
use Rattle.seat_lock.specs.Views.{InTurn, after_turn, Ends}
use Rattle.seat_lock.proofs.Histories.{some≢none, begins-itself, begins-append, log_of-adds, log_of-idle}
use Rattle.seat_lock.proofs.Totals.{total-set, below-length, next_place}
use Rattle.seat_lock.proofs.Receipts.{at_most_once, times-with_receipt, longer-log}
use Rattle.seat_lock.proofs.Views.{Table, Rule, each-set, counts-set, own_places, served_is, at_front}

-- in a queue whose first one has left
later_place : (id : ℕ) (queue : List ℕ) (serving j : ℕ) → j ≢ id → (k u : ℕ) → get_elem? (id ∷ queue) k ≡ some j → u ≡ (serving + k) % word_size
    → (k' : ℕ) × (get_elem? queue k' ≡ some j) × (u ≡ ((serving + 1) % word_size + k') % word_size)
later_place id queue serving j other zero u e f = absurd (other (sym (some-injective id j e)))
later_place id queue serving j other (suc k) u e f = (k, e, f ∙ next_place serving k)

module _ {T H : Type 0} (head : T → H) (log : T → List LogEntry) where
  abbrev Mine : Type 0
  Mine = Me (Option T) (View H)

  -- the value that is given back has the log of the longer history
  ends_as : (s : Table head log) (r : Rule head log s) → get_or s.words 1 0 < word_size → (id : ℕ) (me : Mine) (t : ℕ) (x : T) (turn : Turn) → get_elem? s.views id ≡ some me.0 → me.0.ticket ≡ Some t → me.0.served ≡ Some t
      → me.1 ≡ (0, Some x) ∷ [] → me.0.head ≡ Some (head x) → log x ≡ log_of (me.0.seen ++ turn ∷ []) → Rule head log (stepped s 1 ((get_or s.words 1 0 + 1) % word_size) id me.1 (after_turn turn me.0) gives)
  ends_as s r small id me t x turn at has served mine has_head right =
      let old = r.each id me.0 at in let now = old.turn t has served in let w = after_turn turn me.0 in
      let small' : r.serving < word_size = subst (λ (k : ℕ). k < word_size) (served_is head log s r) small in
      let front = at_front head log s r small' id me.0 t at has now.0 in
      let q : List ℕ = drop 1 r.queue in let queue_is : r.queue ≡ id ∷ q = drop_at r.queue 0 id front in
      let long : length r.queue ≡ suc (length q) = ap length queue_is in
      let serving' : ℕ = (r.serving + 1) % word_size in
      let history' : History = r.history ++ turn ∷ [] in
      let more : (l : History) → Begins l r.history → Begins l history' = λ l b. begins-append l r.history (turn ∷ []) b in
      let result : (hs : List (maybe.Option (Option T))) → hs ≡ some (Some x) ∷ [] → Rule head log record { words = set s.words 1 ((get_or s.words 1 0 + 1) % word_size); homes = hs; views = set s.views id w } = λ hs is. record {
        at = r.at;
        began = r.began;
        queue = q;
        history = history';
        serving = serving';
        words = ap (λ ws. set ws 1 ((get_or ws 1 0 + 1) % word_size)) r.words ∙ ap (λ (k : ℕ). k ∷ serving' ∷ []) (ap (λ (k : ℕ). (r.serving + k) % word_size) long ∙ next_place r.serving (length q));
        each = each-set head log (FitsAt r.at r.began q history' serving' hs) s.views id w
            record {
              headed = λ h e. let v = old.headed h e in (v.0, subst (λ l. Begins (me.0.seen ++ turn ∷ []) (l ++ turn ∷ [])) now.1 (begins-itself (me.0.seen ++ turn ∷ [])), λ k d b. more _ (v.2 k d b));
              knows = old.knows;
              empty = λ e. absurd (some≢none (head x) (sym has_head ∙ e));
              waits = λ u e. absurd (some≢none u (sym e));
              rests = λ _. refl;
              turn = λ u e _. absurd (some≢none u (sym e));
            }
            (λ j d other e. let v = r.each j d e in record {
              headed = λ h f. let g = v.headed h f in (g.0, more d.seen g.1, λ k c b. more _ (g.2 k c b));
              knows = v.knows;
              empty = v.empty;
              waits = λ u f. let p = v.waits u f in (p.0, later_place id q r.serving j other p.1.0 u (ap (λ l. get_elem? l p.1.0) (sym queue_is) ∙ p.1.1) p.1.2);
              rests = v.rests;
              turn = λ u a b. absurd (other (some-injective j id (sym (at_front head log s r small' j d u e a (v.turn u a b).0) ∙ front)));
            });
        holders = let m = total-set holds_ticket s.views id me.0 w at in let z : holds_ticket me.0 ≡ 1 = ap weight has in let c = r.holders in omega arith;
        first = counts-set head log r.at s.views id me.0 w at refl refl r.first;
        grown = longer-log r.began turn r.history r.grown;
        places = λ p. let m = total-set (λ (u : View H). times p u.receipts) s.views id me.0 w at in let q = r.places p in
            let step_is = times-with_receipt r.began turn me.0.receipts r.history p r.grown in
            let same : times p w.receipts ≡ times p (with_receipt turn (length (log_of r.history)) me.0.receipts) = ap (λ l. times p (with_receipt turn (length (log_of l)) me.0.receipts)) now.1 in omega arith;
        free = λ _. (x, is, (old.headed (head x) has_head).0, right ∙ ap (λ l. log_of (l ++ turn ∷ [])) now.1);
      } in
      subst (λ c. Rule head log (stepped s 1 ((get_or s.words 1 0 + 1) % word_size) id c w gives)) (sym mine) (result (set s.homes 0 (some (Some x))) (ap (λ hs. set hs 0 (some (Some x))) now.2))

  pub ends : (slots id : ℕ) (me : Mine) (x : T) → InTurn me.0 → me.1 ≡ (0, Some x) ∷ [] → me.0.head ≡ Some (head x)
      → GrowsByAtMostOne (log_of me.0.seen) (log x) → Allows (Rule head log) slots id me 1 (λ n. (n + 1) % word_size) (Ends log (step slots 1 1 0 none) me)
  ends slots id me x it mine has_head grows s r _ at small =
      ⊎_elim
      (λ (same : log x ≡ log_of me.0.seen). let kept = keeps_as None (same ∙ sym (log_of-idle me.0.seen)) in (
        after_turn None me.0,
        gives,
        tt,
        kept,
        (x, mine, inl (same, ap (λ c. (after_turn None me.0, rest c)) mine), none_twice None kept),
      ))
      (λ (more : (e : LogEntry) × (log x ≡ log_of me.0.seen ++ e ∷ [])). let kept = keeps_as (Some more.0) (more.1 ∙ sym (log_of-adds me.0.seen more.0)) in (
        after_turn (Some more.0) me.0,
        gives,
        tt,
        kept,
        (x, mine, inr (more.0, more.1, ap (λ c. (after_turn (Some more.0) me.0, rest c)) mine), none_twice (Some more.0) kept),
      ))
      grows
    where
      Then : Turn → Type 0
      Then turn = Rule head log (stepped s 1 ((get_or s.words 1 0 + 1) % word_size) id me.1 (after_turn turn me.0) gives)

      keeps_as : (turn : Turn) → log x ≡ log_of (me.0.seen ++ turn ∷ []) → Then turn
      keeps_as turn = ends_as s r small id me it.0 x turn at it.1 it.2 mine has_head

      none_twice : (turn : Turn) → Then turn → NoneTwice (after_turn turn me.0).receipts
      none_twice turn r' p = at_most_once r'.began p (length (log_of r'.history)) (times p (after_turn turn me.0).receipts)
          (own_places head log (stepped s 1 ((get_or s.words 1 0 + 1) % word_size) id me.1 (after_turn turn me.0) gives) r' id (after_turn turn me.0) p (set_here s.views id (after_turn turn me.0) (below-length s.views id me.0 at)))
