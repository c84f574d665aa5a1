-- Looking at the number served keeps the rule.
use Rattle.std.proofs.Common.{◌≡◌, ℕ, ◌<◌, List, [], ◌∷◌, length, get_or, set, Option, Some, sym, refl, ap, ◌∙◌, subst}
use mathlib.Core.Option.{some, none, some-injective}
use mathlib.Core.Logic.{dite}
use native.Mathlib.Decide.{ℕ_discrete}
use lib.ListN.{get_elem?}
use lib.Seq.{set-get_or}
use Rattle.std.proofs.lemmas.List.Elements.{All-nil}
use Rattle.atomic_table.specs.Table.{Me, step, keeps, takes, stepped, Allows}
use Rattle.atomic_table.proofs.Lists.{set_here}
use Rattle.seat_lock.specs.View.{View}
use Rattle.seat_lock.specs.History.{LogEntry, log_of, Begins}
use Rattle.seat_lock.specs.Rule.{word_size, holds_ticket, NoneInTurn, FitsAt}
use Rattle.seat_lock.specs.Views.{InTurn, with_served, at_turn, LooksAt}
use Rattle.seat_lock.proofs.Histories.{some-injective_or, some≢none, begins-itself}
use Rattle.seat_lock.proofs.Totals.{total-set_same, below-length}
use Rattle.seat_lock.proofs.Receipts.{all_below}
use Rattle.seat_lock.proofs.Views.{Table, Rule, each-set, same_view, none_before, counts-set, places-set, own_places, served_is, at_front}

module _ {T H : Type 0} (head : T → H) (log : T → List LogEntry) where
  abbrev D : Type 0
  D = View H

  -- where the number served is the ticket of a seat that isn't in its turn, no seat is
  nobody : (s : Table head log) (r : Rule head log s) → r.serving < word_size → (id : ℕ) (v : D) (t : ℕ) → get_elem? s.views id ≡ some v → v.ticket ≡ Some t → ¬ (v.served ≡ Some t) → t ≡ r.serving → NoneInTurn s.views
  nobody s r small id v t at has other is j d e it =
      let mine = at_front head log s r small id v t at has is in
      let theirs = at_front head log s r small j d it.0 e it.1 ((r.each j d e).turn it.0 it.1 it.2).0 in
      let same : j ≡ id = some-injective j id (sym theirs ∙ mine) in
      let view : d ≡ v = same_view head log s.views j id v d at e same in
      let number : it.0 ≡ t = some-injective_or 0 it.0 t (sym it.1 ∙ ap (λ u. u.ticket) view ∙ has) in
      other (ap (λ u. u.served) (sym view) ∙ it.2 ∙ ap Some number)

  module _ (id : ℕ) (me : Me (Option T) D) (t : ℕ) (has : me.0.ticket ≡ Some t) (other : ¬ (me.0.served ≡ Some t)) where
    -- the number is another: the seat learns it
    misses : (s : Table head log) (r : Rule head log s) → get_elem? s.views id ≡ some me.0 → ¬ (get_or s.words 1 0 ≡ t)
        → Rule head log (stepped s 1 (get_or s.words 1 0) id me.1 (with_served (Some (get_or s.words 1 0)) me.0) keeps)
    misses s r at miss = let n : ℕ = get_or s.words 1 0 in let w = with_served (Some n) me.0 in let old = r.each id me.0 at in
        let not_mine : ¬ (InTurn w) = λ it. miss (some-injective_or 0 n it.0 it.2 ∙ some-injective_or 0 it.0 t (sym it.1 ∙ has)) in
        let idle : ¬ (InTurn me.0) = λ it. other (it.2 ∙ ap Some (some-injective_or 0 it.0 t (sym it.1 ∙ has))) in record {
          at = r.at;
          began = r.began;
          queue = r.queue;
          history = r.history;
          serving = r.serving;
          words = set-get_or s.words 1 0 ∙ r.words;
          each = each-set head log (FitsAt r.at r.began r.queue r.history r.serving s.homes) s.views id w
              record {
                headed = old.headed;
                knows = old.knows;
                empty = old.empty;
                waits = old.waits;
                rests = λ e. absurd (some≢none t (sym has ∙ e));
                turn = λ u a b. absurd (not_mine (u, a, b));
              }
              (λ j d _ e. r.each j d e);
          holders = total-set_same holds_ticket s.views id me.0 w at refl ∙ r.holders;
          first = counts-set head log r.at s.views id me.0 w at refl refl r.first;
          grown = r.grown;
          places = places-set head log s.views id me.0 w r.began (length (log_of r.history)) at refl r.places;
          free = λ none_after. r.free (none_before head log s.views id me.0 w at idle none_after);
        }

    -- the number is the ticket: the slot is lent to the seat
    hits : (s : Table head log) (r : Rule head log s) → get_elem? s.views id ≡ some me.0 → get_or s.words 1 0 ≡ t → NoneInTurn s.views → (x : T) → s.homes ≡ some (Some x) ∷ []
        → Rule head log (stepped s 1 (get_or s.words 1 0) id me.1 (at_turn (get_or s.words 1 0) r.history me.0) (takes 0 (Some x)))
    hits s r at hit none_in x home = let n : ℕ = get_or s.words 1 0 in let w = at_turn n r.history me.0 in let old = r.each id me.0 at in record {
      at = r.at;
      began = r.began;
      queue = r.queue;
      history = r.history;
      serving = r.serving;
      words = set-get_or s.words 1 0 ∙ r.words;
      each = each-set head log (FitsAt r.at r.began r.queue r.history r.serving (set s.homes 0 none)) s.views id w
          record {
            headed = λ h e. ((old.headed h e).0, begins-itself r.history, All-nil (λ seen. Begins seen r.history));
            knows = old.knows;
            empty = old.empty;
            waits = old.waits;
            rests = λ e. absurd (some≢none t (sym has ∙ e));
            turn = λ u e g. (some-injective_or 0 u n (sym g) ∙ served_is head log s r, refl, ap (λ hs. set hs 0 none) home);
          }
          (λ j d _ e. let v = r.each j d e in record {
            headed = v.headed;
            knows = v.knows;
            empty = v.empty;
            waits = v.waits;
            rests = v.rests;
            turn = λ u a b. absurd (none_in j d e (u, a, b));
          });
      holders = total-set_same holds_ticket s.views id me.0 w at refl ∙ r.holders;
      first = counts-set head log r.at s.views id me.0 w at refl refl r.first;
      grown = r.grown;
      places = places-set head log s.views id me.0 w r.began (length (log_of r.history)) at refl r.places;
      free = λ none_after. absurd (none_after id w (set_here s.views id w (below-length s.views id me.0 at)) (t, has, ap Some hit));
    }

    pub looks : (slots : ℕ) → me.1 ≡ [] → Allows (Rule head log) slots id me 1 (λ n. n) (LooksAt head log (step slots 1 0 0 none) me)
    looks slots empty s r _ at small = let n : ℕ = get_or s.words 1 0 in let old = r.each id me.0 at in dite (ℕ_discrete n t)
        (λ hit.
        let n_is = served_is head log s r in
        let none_in = nobody s r (subst (λ (k : ℕ). k < word_size) n_is small) id me.0 t at has other (sym hit ∙ n_is) in
        let f = r.free none_in in
        let head_is = (old.waits t has).0 in
        let seen = old.headed r.at head_is in (
          at_turn n r.history me.0,
          takes 0 (Some f.0),
          ap (λ hs. get_elem? hs 0) f.1,
          hits s r at hit none_in f.0 f.1,
          (
            (λ _. record {
              value = f.0;
              history = r.history;
              seat = ap (λ c. (at_turn n r.history me.0, (0, Some f.0) ∷ c)) empty;
              has_head = head_is ∙ ap Some (sym f.2);
              has_log = f.3;
              saw = seen.1;
              saw_joined = seen.2;
              later = all_below me.0.receipts r.began (length (log_of r.history)) (λ p. own_places head log s r id me.0 p at);
            }),
            λ miss. absurd (miss (has ∙ ap Some (sym hit))),
          ),
        ))
        (λ miss. (
          with_served (Some n) me.0,
          keeps,
          tt,
          misses s r at miss,
          (
            (λ e. absurd (miss (some-injective_or 0 n t (sym e ∙ has)))),
            λ _. ap (λ c. (with_served (Some n) me.0, c)) empty,
          ),
        ))
