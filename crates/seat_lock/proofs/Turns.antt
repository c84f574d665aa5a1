-- What a turn puts together from its steps.
use Rattle.std.proofs.Common.{◌≡◌, ⊎_elim, ℕ, suc, ◌<◌, List, [], ◌∷◌, ◌++◌, length, Option, Some, None, sym, ap, ◌∙◌, subst}
use Rattle.std.specs.Prelude.{slice_get}
use Rattle.std.specs.List.{All}
use Rattle.atomic_table.specs.Table.{rest, Me}
use Rattle.seat_lock.specs.View.{View}
use Rattle.seat_lock.specs.History.{LogEntry, Turn, History, log_of, Begins, with_receipt, NoneTwice}
use Rattle.seat_lock.specs.Seats.{LockId}
use Rattle.seat_lock.specs.Turned.{Turned}
use Rattle.seat_lock.specs.Views.{known_as, with_ticket, at_turn, after_turn, StillWaits, BeginsTurn, EndsTurn}
use Rattle.seat_lock.proofs.Histories.{some-injective_or, log_of-adds, log_of-idle, logs_begin, turn-adds, turn-idle, slice_get-last}

module _ {T H : Type 0} (head : T → H) (log : T → List LogEntry) where
  abbrev Mine : Type 0
  Mine = Me (Option T) (View H)

  abbrev value_lent : List (ℕ × Option T) → Option T
  value_lent [] = None
  value_lent (p ∷ ps) = p.1

  -- the value that was lent is the one that the seat has
  pub same_value : (l k : List (ℕ × Option T)) (x v : T) → l ≡ (0, Some x) ∷ [] → l ≡ (0, Some v) ∷ k → v ≡ x
  same_value l k x v e f = some-injective_or x v x (ap value_lent (sym f ∙ e))

  -- the seat after the value was taken and another given back
  pub given_back : (m m' m'' : Mine) (x y : T) → m.1 ≡ (0, Some x) ∷ [] → m' ≡ (m.0, (0, None) ∷ rest m.1) → m'' ≡ (m'.0, (0, Some y) ∷ rest m'.1) → m'' ≡ (m.0, (0, Some y) ∷ [])
  given_back m m' m'' x y e f g = g ∙ ap (λ (n : Mine). (n.0, (0, Some y) ∷ rest n.1)) f ∙ ap (λ l. (m.0, (0, Some y) ∷ rest l)) e

  -- a turn that begins after some looks at other numbers begins all the same
  pub begins_later : (ticket : ℕ) (m m' m'' : Mine) → StillWaits ticket m m' → BeginsTurn head log m' ticket m'' → BeginsTurn head log m ticket m''
  begins_later ticket m m' m'' waits b = record {
    value = b.value;
    history = b.history;
    seat = b.seat ∙ ap (λ v. (at_turn ticket b.history v, (0, Some b.value) ∷ [])) waits.learns;
    has_head = sym (ap (λ v. v.head) waits.learns) ∙ b.has_head;
    has_log = b.has_log;
    saw = subst (λ v. Begins v.seen b.history) waits.learns b.saw;
    saw_joined = subst (λ v. All (λ seen. Begins seen b.history) v.joined) waits.learns b.saw_joined;
    later = subst (λ v. All (λ place. place < length (log_of b.history)) v.receipts) waits.learns b.later;
  }

  -- one turn: m₀ before it, m₁ with a ticket, m₂ when its turn has begun, and m₃ after it
  pub turned : (lock lock' : LockId) (number number' : ℕ) → lock' ≡ lock → number' ≡ number → (m₀ m₁ m₂ m₃ : Mine) (t : ℕ) → m₁ ≡ (with_ticket t m₀.0, []) → BeginsTurn head log m₁ t m₂
      → (x y : T) → m₂.1 ≡ (0, Some x) ∷ [] → head y ≡ head x → EndsTurn log m₂ y m₃ → NoneTwice m₃.0.receipts → Turned {T = T} head log (known_as lock number m₀.0) x y (known_as lock' number' m₃.0)
  turned lock lock' number number' same_lock same_number m₀ m₁ m₂ m₃ t drew b x y lent kept ended once =
      let history : History = b.history in
      let same : x ≡ b.value = same_value m₂.1 [] b.value x (ap (λ (n : Mine). n.1) b.seat) lent in
      let view : m₂.0 ≡ at_turn t history (with_ticket t m₀.0) = ap (λ (n : Mine). n.0) b.seat ∙ ap (λ (n : Mine). at_turn t history n.0) drew in
      let right : log x ≡ log_of history = ap log same ∙ b.has_log in
      let saw : Begins m₀.0.seen history = subst (λ (n : Mine). Begins n.0.seen history) drew b.saw in
      let joined : All (λ seen. Begins seen history) m₀.0.joined = subst (λ (n : Mine). All (λ seen. Begins seen history) n.0.joined) drew b.saw_joined in
      let to_log : (l : History) → Begins l history → Begins (log_of l) (log x) = λ l h. subst (Begins (log_of l)) (sym right) (logs_begin l history h) in
      let seen_is : m₂.0.seen ≡ history = ap (λ v. v.seen) view in
      let long : length (log_of m₂.0.seen) ≡ length (log x) = ap (λ l. length (log_of l)) seen_is ∙ ap length (sym right) in
      let below : All (λ place. place < length (log x)) m₀.0.receipts =
      subst (λ (n : ℕ). All (λ place. place < n) m₀.0.receipts) (ap length (sym right)) (subst (λ (n : Mine). All (λ place. place < length (log_of history)) n.0.receipts) drew b.later) in
      let made : (turn : Turn) → m₃ ≡ (after_turn turn m₂.0, []) → log y ≡ log_of (history ++ turn ∷ []) → Turned {T = T} head log (known_as lock number m₀.0) x y (known_as lock' number' m₃.0) = λ turn e after. record {
        shown = history;
        turn = turn;
        same = record {
          lock = same_lock;
          number = same_number;
          head = ap (λ (n : Mine). n.0.head) e ∙ ap (λ v. v.head) view;
          out = ap (λ (n : Mine). n.0.out) e ∙ ap (λ v. v.out) view;
          began = ap (λ (n : Mine). n.0.began) e ∙ ap (λ v. v.began) view;
        };
        one = ap (λ (n : Mine). n.0.turns) e ∙ ap (λ v. suc v.turns) view;
        head_found = sym (ap (λ (n : Mine). n.0.head) drew) ∙ b.has_head ∙ ap (λ z. Some (head z)) (sym same);
        head_left = kept;
        saw = saw;
        saw_joined = joined;
        saw_log = to_log m₀.0.seen saw;
        saw_joined_logs = λ k d h. to_log _ (joined k d h);
        log_found = right;
        log_left = after;
        sees = ap (λ (n : Mine). n.0.seen) e ∙ ap (λ l. l ++ turn ∷ []) seen_is;
        none_joined = ap (λ (n : Mine). n.0.joined) e ∙ ap (λ v. v.joined) view;
        idle = λ i. turn-idle turn history (sym after ∙ i ∙ right);
        adds = λ entry a. turn-adds turn history entry (sym after ∙ a ∙ ap (λ l. l ++ entry ∷ []) right);
        receipts = ap (λ (n : Mine). n.0.receipts) e ∙ ap (λ n. with_receipt turn n m₂.0.receipts) long ∙ ap (λ v. with_receipt turn (length (log x)) v.receipts) view;
        stands = λ entry is. ap (λ l. slice_get l (length (log x))) (after ∙ ap (λ u. log_of (history ++ u ∷ [])) is ∙ log_of-adds history entry ∙ ap (λ l. l ++ entry ∷ []) (sym right)) ∙ slice_get-last (log x) entry;
        later = below;
        none_twice = once;
      } in
      ⊎_elim
      (λ (p : (log y ≡ log_of m₂.0.seen) × (m₃ ≡ (after_turn None m₂.0, []))). made None p.1 (p.0 ∙ ap log_of seen_is ∙ sym (log_of-idle history)))
      (λ (p : (e : LogEntry) × (log y ≡ log_of m₂.0.seen ++ e ∷ []) × (m₃ ≡ (after_turn (Some e) m₂.0, []))). made (Some p.0) p.2 (p.1 ∙ ap (λ l. log_of l ++ p.0 ∷ []) seen_is ∙ sym (log_of-adds history p.0)))
      ended
