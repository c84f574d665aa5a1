-- A join keeps the rule.
use Rattle.std.proofs.Common.{◌≡◌, ℕ, suc, ◌<◌, List, ◌∷◌, ◌++◌, set, Some, None, sym, refl, ap, ◌∙◌, subst, arith}
use mathlib.Core.Option.{some, some-injective}
use lib.ListN.{get_elem?}
use Rattle.std.proofs.lemmas.List.Elements.{All-cons, All-append}
use Rattle.atomic_table.specs.Table.{Joins}
use Rattle.atomic_table.proofs.Lists.{set_here, set_else}
use Rattle.seat_lock.specs.View.{View}
use Rattle.seat_lock.specs.History.{LogEntry, History, Begins, times}
use Rattle.seat_lock.specs.Rule.{word_size, weight, total, weight_of_view, holds_ticket, FitsAt}
use Rattle.seat_lock.specs.Views.{with_joined, spent_view}
use Rattle.seat_lock.proofs.Histories.{some≢none, begins-longer_of}
use Rattle.seat_lock.proofs.Totals.{total-set, total-set_same, two-le-total, below-length}
use Rattle.seat_lock.proofs.Receipts.{times-append}
use Rattle.seat_lock.proofs.Views.{Rule, each-set, not_in_turn, none_before}

module _ {T H : Type 0} (head : T → H) (log : T → List LogEntry) where
  pub joins : (v : View H) (other : ℕ) (u : View H) (h : H) → v.ticket ≡ None → v.served ≡ None → u.ticket ≡ None → u.served ≡ None → u.head ≡ Some h → Joins (Rule head log) 0 v other u (with_joined v u) spent_view
  joins v other u h no_ticket no_served its_ticket its_served has_head s r at apart there =
      let w = with_joined v u in let vs : List (View H) = set s.views 0 w in
      let old = r.each 0 v at in let f = r.first in let same : f.view ≡ v = some-injective f.view v (sym f.is_first ∙ at) in
      let there' : get_elem? s.views other ≡ some u = sym (set_else s.views 0 other w apart) ∙ there in let its = (r.each other u there').headed h has_head in
      let v_head : v.head ≡ Some r.at = sym (ap (λ x. x.head) same) ∙ f.head in
      let all : total weight_of_view s.views ≡ suc v.out = f.counts ∙ ap (λ x. suc x.out) same in
      let one : weight_of_view v ≡ 1 = ap weight v_head in let two : weight_of_view u ≡ 1 = ap weight has_head in
      let both = two-le-total weight_of_view s.views 0 other v u (λ e. apart (sym e)) at there' in
      let small : suc v.out < word_size = subst (λ (x : View H). suc x.out < word_size) same f.few in
      let P : History → Type 0 = λ seen. Begins seen r.history in record {
        at = r.at;
        began = r.began;
        queue = r.queue;
        history = r.history;
        serving = r.serving;
        words = r.words;
        each = each-set head log (FitsAt r.at r.began r.queue r.history r.serving s.homes) vs other spent_view
            record {
              headed = λ x e. absurd (some≢none x (sym e));
              knows = λ x e. absurd (some≢none x (sym e));
              empty = λ _. refl;
              waits = λ t e. absurd (some≢none t (sym e));
              rests = λ _. refl;
              turn = λ t e _. absurd (some≢none t (sym e));
            }
            (λ j d _ e. each-set head log (FitsAt r.at r.began r.queue r.history r.serving s.homes) s.views 0 w
            record {
              headed = λ x e. let mine = old.headed x e in (
                mine.0,
                begins-longer_of v.seen u.seen r.history mine.1 its.1,
                All-cons P v.seen (u.seen ∷ (v.joined ++ u.joined)) mine.1 (All-cons P u.seen (v.joined ++ u.joined) its.1 (All-append P v.joined u.joined mine.2 its.2)),
              );
              knows = old.knows;
              empty = λ e. absurd (some≢none r.at (sym v_head ∙ e));
              waits = old.waits;
              rests = old.rests;
              turn = λ t e _. absurd (some≢none t (sym e ∙ no_ticket));
            }
            (λ i x _ g. r.each i x g) j d e);
        holders = let m = total-set_same holds_ticket vs other u spent_view there (sym (ap weight its_ticket)) in let n = total-set_same holds_ticket s.views 0 v w at refl in m ∙ n ∙ r.holders;
        first = record {
          view = w;
          is_first = set_else vs other 0 spent_view (λ e. apart (sym e)) ∙ set_here s.views 0 w (below-length s.views 0 v at);
          head = v_head;
          counts = let m = total-set weight_of_view vs other u spent_view there in let n = total-set_same weight_of_view s.views 0 v w at refl in omega arith;
          few = omega arith;
        };
        grown = r.grown;
        places = λ p. let m = total-set (λ (x : View H). times p x.receipts) vs other u spent_view there in let k = total-set (λ (x : View H). times p x.receipts) s.views 0 v w at in let a = times-append p v.receipts u.receipts in let q = r.places p in omega arith;
        free = λ none_after. r.free (none_before head log s.views 0 v w at (not_in_turn head log v no_ticket) (none_before head log vs other u spent_view there (not_in_turn head log u its_ticket) none_after));
      }
