-- What the rule says of the views after one of them changed.
use Rattle.std.proofs.Common.{◌≡◌, ◌≢◌, ⊎_elim, ℕ, suc, ◌<◌, ◌≤◌, List, length, get_or, set, Option, Some, None, sym, ap, ◌∙◌, subst, arith}
use mathlib.Core.Option.{some, some-injective}
use mathlib.Core.Logic.{dite}
use native.Mathlib.Decide.{ℕ_discrete}
use lib.ListN.{get_elem?}
use Rattle.atomic_table.specs.Table.{State}
use Rattle.atomic_table.proofs.Lists.{at_set, set_here, set_else}
use Rattle.seat_lock.specs.View.{View}
use Rattle.seat_lock.specs.History.{LogEntry, log_of, times}
use Rattle.seat_lock.specs.Rule.{word_size, weight, total, weight_of_view, holds_ticket, NoneInTurn, CountsTheOthers, IsHeldByRule}
use Rattle.seat_lock.specs.Seats.{once_between}
use Rattle.seat_lock.specs.Views.{InTurn}
use Rattle.seat_lock.proofs.Histories.{some≢none}
use Rattle.seat_lock.proofs.Totals.{total-set_same, one-le-total, total-le-total, weight-le-weight, below-length, first_place}

module _ {T H : Type 0} (head : T → H) (log : T → List LogEntry) where
  abbrev D : Type 0
  D = View H

  abbrev pub Table : Type 0
  Table = State (Option T) D

  abbrev pub Rule : Table → Type 0
  Rule = IsHeldByRule head log

  -- what holds of each view after a change of one
  pub each-set : (P : ℕ → D → Type 0) (vs : List D) (me : ℕ) (w : D) → P me w → ((j : ℕ) (d : D) → j ≢ me → get_elem? vs j ≡ some d → P j d) → (j : ℕ) (d : D) → get_elem? (set vs me w) j ≡ some d → P j d
  each-set P vs me w mine others j d e =
      ⊎_elim
      (λ (x : (j ≡ me) × (w ≡ d)). subst (λ (y : ℕ × D). P y.0 y.1) (λ i. (sym x.0 i, x.1 i)) mine)
      (λ (x : (j ≢ me) × (get_elem? vs j ≡ some d)). others j d x.0 x.1)
      (at_set vs me j w d e)

  pub same_view : (vs : List D) (j me : ℕ) (v d : D) → get_elem? vs me ≡ some v → get_elem? vs j ≡ some d → j ≡ me → d ≡ v
  same_view vs j me v d at e is = some-injective d v (sym e ∙ ap (get_elem? vs) is ∙ at)

  pub not_in_turn : (v : D) → v.ticket ≡ None → ¬ (InTurn v)
  not_in_turn v no_ticket it = some≢none it.0 (sym it.1 ∙ no_ticket)

  -- where a view that wasn't in turn changed and nobody is in turn, nobody was
  pub none_before : (vs : List D) (me : ℕ) (v w : D) → get_elem? vs me ≡ some v → ¬ (InTurn v) → NoneInTurn (set vs me w) → NoneInTurn vs
  none_before vs me v w at idle none_after j d e turn = dite (ℕ_discrete j me)
      (λ is. idle (subst InTurn (same_view vs j me v d at e is) turn))
      (λ other. none_after j d (set_else vs me j w other ∙ e) turn)

  pub counts-set : (at : H) (vs : List D) (me : ℕ) (v w : D) → get_elem? vs me ≡ some v → w.head ≡ v.head → w.out ≡ v.out → CountsTheOthers at vs → CountsTheOthers at (set vs me w)
  counts-set at vs me v w here same_head same_out f = let sum = total-set_same weight_of_view vs me v w here (ap weight same_head) in dite (ℕ_discrete 0 me)
      (λ is. let same : f.view ≡ v = same_view vs 0 me v f.view here f.is_first is in record {
        view = w;
        is_first = ap (get_elem? (set vs me w)) is ∙ set_here vs me w (below-length vs me v here);
        head = same_head ∙ sym (ap (λ u. u.head) same) ∙ f.head;
        counts = sum ∙ f.counts ∙ ap suc (ap (λ u. u.out) same ∙ sym same_out);
        few = subst (λ (n : ℕ). suc n < word_size) (ap (λ u. u.out) same ∙ sym same_out) f.few;
      })
      (λ other. record {
        view = f.view;
        is_first = set_else vs me 0 w other ∙ f.is_first;
        head = f.head;
        counts = sum ∙ f.counts;
        few = f.few;
      })

  abbrev pub Places : List D → ℕ → ℕ → Type 0
  Places vs from n = (p : ℕ) → total (λ v. times p v.receipts) vs ≡ once_between from n p

  pub places-set : (vs : List D) (me : ℕ) (v w : D) (from n : ℕ) → get_elem? vs me ≡ some v → w.receipts ≡ v.receipts → Places vs from n → Places (set vs me w) from n
  places-set vs me v w from n at same h p = let m = total-set_same (λ (u : D). times p u.receipts) vs me v w at (ap (times p) same) in let q = h p in omega arith

  pub own_places : (s : Table) (r : Rule s) (me : ℕ) (v : D) (p : ℕ) → get_elem? s.views me ≡ some v → times p v.receipts ≤ once_between r.began (length (log_of r.history)) p
  own_places s r me v p at = let m = one-le-total (λ (u : D). times p u.receipts) s.views me v at in let q = r.places p in omega arith

  -- fewer than 2^64 views hold a ticket
  pub short_queue : (s : Table) (r : Rule s) → length r.queue < word_size
  short_queue s r =
      let most = total-le-total holds_ticket weight_of_view s.views (λ j d e. weight-le-weight d.ticket d.head r.at (λ t h. ((r.each j d e).waits t h).0)) in
      let all = r.first.counts in let few = r.first.few in let here = r.holders in omega arith

  pub served_is : (s : Table) (r : Rule s) → get_or s.words 1 0 ≡ r.serving
  served_is s r = ap (λ ws. get_or ws 1 0) r.words

  -- who holds the number served is the first in the queue
  pub at_front : (s : Table) (r : Rule s) → r.serving < word_size → (j : ℕ) (d : D) (t : ℕ) → get_elem? s.views j ≡ some d → d.ticket ≡ Some t → t ≡ r.serving → get_elem? r.queue 0 ≡ some j
  at_front s r small j d t e has is = let p = ((r.each j d e).waits t has).1 in
      let k : ℕ = p.0 in let below = below-length r.queue k j p.1 in let few = short_queue s r in
      let zero_is : k ≡ 0 = first_place r.serving k small (omega arith) (sym is ∙ p.2) in
      ap (get_elem? r.queue) (sym zero_is) ∙ p.1
