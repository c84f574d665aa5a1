-- Drawing a ticket keeps the rule.
use Rattle.std.proofs.Common.{◌≡◌, ℕ, ◌+◌, ◌%◌, List, [], ◌∷◌, ◌++◌, length, get_or, set, Option, Some, None, sym, refl, ap, ◌∙◌, arith, length-append}
use mathlib.Core.Option.{none}
use Rattle.std.proofs.Math.Nat.{mod-add-mod}
use Rattle.atomic_table.specs.Table.{Me, step, keeps, Allows}
use Rattle.atomic_table.proofs.Lists.{at_longer, at_last}
use Rattle.seat_lock.specs.View.{View}
use Rattle.seat_lock.specs.History.{LogEntry, log_of}
use Rattle.seat_lock.specs.Rule.{word_size, weight, holds_ticket, FitsAt}
use Rattle.seat_lock.specs.Views.{with_ticket, Draws}
use Rattle.seat_lock.proofs.Histories.{some-injective_or, some≢none}
use Rattle.seat_lock.proofs.Totals.{total-set}
use Rattle.seat_lock.proofs.Views.{Rule, each-set, not_in_turn, none_before, counts-set, places-set}

module _ {T H : Type 0} (head : T → H) (log : T → List LogEntry) where
  -- whoever draws a ticket stands last in the queue
  pub draws : (slots id : ℕ) (me : Me (Option T) (View H)) (h : H) → me.0.ticket ≡ None → me.0.head ≡ Some h → Allows (Rule head log) slots id me 0 (λ n. (n + 1) % word_size) (Draws (step slots 0 1 0 none) me)
  draws slots id me h no_ticket has_head s r _ at _ = let n : ℕ = get_or s.words 0 0 in let w = with_ticket n me.0 in let old = r.each id me.0 at in
      let n_is : n ≡ (r.serving + length r.queue) % word_size = ap (λ ws. get_or ws 0 0) r.words in
      let longer : r.serving + length r.queue + 1 ≡ r.serving + length (r.queue ++ id ∷ []) = omega (arith, length-append r.queue (id ∷ [])) in (
        w,
        keeps,
        tt,
        record {
          at = r.at;
          began = r.began;
          queue = r.queue ++ id ∷ [];
          history = r.history;
          serving = r.serving;
          words = ap (λ ws. set ws 0 ((get_or ws 0 0 + 1) % word_size)) r.words
              ∙ ap (λ (k : ℕ). k ∷ r.serving ∷ []) (mod-add-mod (r.serving + length r.queue) word_size 1 ∙ ap (λ (k : ℕ). k % word_size) longer);
          each = each-set head log (FitsAt r.at r.began (r.queue ++ id ∷ []) r.history r.serving s.homes) s.views id w
              record {
                headed = old.headed;
                knows = old.knows;
                empty = old.empty;
                waits = λ t e. (has_head ∙ ap Some (old.headed h has_head).0, (length r.queue, at_last r.queue id (length r.queue) refl, sym (some-injective_or 0 n t e) ∙ n_is));
                rests = λ e. absurd (some≢none n e);
                turn = λ t e f. absurd (some≢none t (sym f ∙ old.rests no_ticket));
              }
              (λ j d _ e. let v = r.each j d e in record {
                headed = v.headed;
                knows = v.knows;
                empty = v.empty;
                waits = λ t f. let p = v.waits t f in (p.0, (p.1.0, at_longer r.queue (id ∷ []) p.1.0 j p.1.1, p.1.2));
                rests = v.rests;
                turn = v.turn;
              });
          holders = let m = total-set holds_ticket s.views id me.0 w at in let z : holds_ticket me.0 ≡ 0 = ap weight no_ticket in let c = r.holders in omega (arith, length-append r.queue (id ∷ []));
          first = counts-set head log r.at s.views id me.0 w at refl refl r.first;
          grown = r.grown;
          places = places-set head log s.views id me.0 w r.began (length (log_of r.history)) at refl r.places;
          free = λ none_after. r.free (none_before head log s.views id me.0 w at (not_in_turn head log me.0 no_ticket) none_after);
        },
        refl,
      )
