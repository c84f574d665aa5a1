-- A split keeps the rule.
use Rattle.std.proofs.Common.{◌≡◌, ⊎_elim, suc, ◌+◌, ◌<◌, List, [], ◌∷◌, set, Some, None, sym, refl, ap, ◌∙◌, subst, arith}
use mathlib.Core.Option.{some, some-injective}
use lib.ListN.{get_elem?}
use Rattle.atomic_table.specs.Table.{Splits}
use Rattle.atomic_table.proofs.Lists.{at_snoc, at_longer, set_here}
use Rattle.seat_lock.specs.View.{View}
use Rattle.seat_lock.specs.History.{LogEntry, times}
use Rattle.seat_lock.specs.Rule.{word_size, weight, total, weight_of_view, holds_ticket, FitsAt}
use Rattle.seat_lock.specs.Views.{with_one_more_out, newcomer}
use Rattle.seat_lock.proofs.Histories.{some≢none}
use Rattle.seat_lock.proofs.Totals.{total-set_same, total-append_one, below-length}
use Rattle.seat_lock.proofs.Views.{Rule, each-set, not_in_turn, none_before}

module _ {T H : Type 0} (head : T → H) (log : T → List LogEntry) where
  pub splits : (v : View H) (h : H) → v.ticket ≡ None → v.served ≡ None → v.head ≡ Some h → v.out + 2 < word_size → Splits (Rule head log) 0 v (with_one_more_out v) (newcomer v)
  splits v h no_ticket no_served has_head few s r at =
      let w = with_one_more_out v in let n = newcomer v in let old = r.each 0 v at in let vs : List (View H) = set s.views 0 w in
      let f = r.first in let same : f.view ≡ v = some-injective f.view v (sym f.is_first ∙ at) in
      let here : get_elem? vs 0 ≡ some w = set_here s.views 0 w (below-length s.views 0 v at) in record {
        at = r.at;
        began = r.began;
        queue = r.queue;
        history = r.history;
        serving = r.serving;
        words = r.words;
        each = λ j d e. ⊎_elim
            (each-set head log (FitsAt r.at r.began r.queue r.history r.serving s.homes) s.views 0 w record { headed = old.headed; knows = old.knows; empty = old.empty; waits = old.waits; rests = old.rests; turn = old.turn } (λ i u _ g. r.each i u g) j d)
            (λ (is : n ≡ d). subst (FitsAt r.at r.began r.queue r.history r.serving s.homes j) is record {
              headed = old.headed;
              knows = old.knows;
              empty = λ _. refl;
              waits = λ t g. absurd (some≢none t (sym g));
              rests = λ _. refl;
              turn = λ t g _. absurd (some≢none t (sym g));
            })
            (at_snoc vs n d j e);
        holders = total-append_one holds_ticket vs n ∙ (let m = total-set_same holds_ticket s.views 0 v w at refl in let c = r.holders in omega arith);
        first = record {
          view = w;
          is_first = at_longer vs (n ∷ []) 0 w here;
          head = sym (ap (λ u. u.head) same) ∙ f.head;
          counts = total-append_one weight_of_view vs n ∙ (let m = total-set_same weight_of_view s.views 0 v w at refl in let c : total weight_of_view s.views ≡ suc v.out = f.counts ∙ ap (λ u. suc u.out) same in let one : weight_of_view v ≡ 1 = ap weight has_head in omega arith);
          few = omega arith;
        };
        grown = r.grown;
        places = λ p. let m = total-append_one (λ (u : View H). times p u.receipts) vs n in let k = total-set_same (λ (u : View H). times p u.receipts) s.views 0 v w at refl in let q = r.places p in omega arith;
        free = λ none_after. r.free (none_before head log s.views 0 v w at (not_in_turn head log v no_ticket) (λ j d e. none_after j d (at_longer vs (n ∷ []) j d e)));
      }
