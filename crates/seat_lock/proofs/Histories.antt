-- Histories, their logs, and lists that begin with lists.
use Rattle.std.proofs.Common.{◌≡◌, ℕ, zero, suc, List, [], ◌∷◌, ◌++◌, length, Option, Some, None, Bool, true, false, leb, sym, refl, ap, ◌∙◌, subst, arith, length-append, append_assoc, append-nil}
use Rattle.std.specs.Prelude.{slice_get, if◌then◌else◌}
use Rattle.seat_lock.specs.History.{LogEntry, Turn, History, log_of, turns_of, Begins, longer_of}

pub some-injective_or : {A : Type 0} (d a b : A) → Some a ≡ Some b → a ≡ b
some-injective_or {A} d a b e = ap (λ (o : Option A). value_or o) e
  where
    value_or : Option A → A
    value_or (Some x) = x
    value_or None = d

pub some≢none : {A : Type 0} (a : A) → Some a ≡ None → ⊥
some≢none a e = absurd (cc)

module _ {A : Type 0} where
  pub begins-itself : (l : List A) → Begins l l
  begins-itself l = ([], sym (append-nil l))

  pub begins-append : (a b c : List A) → Begins a b → Begins a (b ++ c)
  begins-append a b c h = (h.0 ++ c, ap (λ l. l ++ c) h.1 ∙ append_assoc a h.0 c)

  pub begins-longer_of : (a b l : List A) → Begins a l → Begins b l → Begins (longer_of a b) l
  begins-longer_of a b l p q = by_length (leb (length a) (length b))
    where
      by_length : (c : Bool) → Begins (if c then b else a) l
      by_length true = q
      by_length false = p

  pub slice_get-begins : (l m : List A) (i : ℕ) (a : A) → Begins l m → slice_get l i ≡ Some a → slice_get m i ≡ Some a
  slice_get-begins l m i a h e = subst (λ k. slice_get k i ≡ Some a) (sym h.1) (in_append l i e)
    where
      in_append : (k : List A) (i : ℕ) → slice_get k i ≡ Some a → slice_get (k ++ h.0) i ≡ Some a
      in_append [] i e = absurd (some≢none a (sym e))
      in_append (x ∷ xs) zero e = e
      in_append (x ∷ xs) (suc i) e = in_append xs i e

  pub slice_get-last : (l : List A) (a : A) → slice_get (l ++ a ∷ []) (length l) ≡ Some a
  slice_get-last [] a = refl
  slice_get-last (x ∷ xs) a = slice_get-last xs a

pub log_of-turns_of : (log : List LogEntry) → log_of (turns_of log) ≡ log
log_of-turns_of [] = refl
log_of-turns_of (e ∷ es) = ap (λ l. e ∷ l) (log_of-turns_of es)

pub log_of-append : (ts us : History) → log_of (ts ++ us) ≡ log_of ts ++ log_of us
log_of-append [] us = refl
log_of-append (Some e ∷ ts) us = ap (λ l. e ∷ l) (log_of-append ts us)
log_of-append (None ∷ ts) us = log_of-append ts us

pub log_of-adds : (ts : History) (e : LogEntry) → log_of (ts ++ Some e ∷ []) ≡ log_of ts ++ e ∷ []
log_of-adds ts e = log_of-append ts (Some e ∷ [])

pub log_of-idle : (ts : History) → log_of (ts ++ None ∷ []) ≡ log_of ts
log_of-idle ts = log_of-append ts (None ∷ []) ∙ append-nil (log_of ts)

pub logs_begin : (earlier later : History) → Begins earlier later → Begins (log_of earlier) (log_of later)
logs_begin earlier later h = (log_of h.0, ap log_of h.1 ∙ log_of-append earlier h.0)

pub places_keep_entries : (earlier later : History) (place : ℕ) (e : LogEntry) → Begins earlier later → slice_get (log_of earlier) place ≡ Some e → slice_get (log_of later) place ≡ Some e
places_keep_entries earlier later place e h = slice_get-begins (log_of earlier) (log_of later) place e (logs_begin earlier later h)

abbrev last_or : {A : Type 0} → A → List A → A
last_or d [] = d
last_or d (x ∷ xs) = last_or x xs

last_or-append : {A : Type 0} (d : A) (xs : List A) (e : A) → last_or d (xs ++ e ∷ []) ≡ e
last_or-append d [] e = refl
last_or-append d (x ∷ xs) e = last_or-append x xs e

-- a turn that adds an entry is that entry
pub turn-adds : (turn : Turn) (ts : History) (e : LogEntry) → log_of (ts ++ turn ∷ []) ≡ log_of ts ++ e ∷ [] → turn ≡ Some e
turn-adds None ts e h = let n : length (log_of ts) ≡ length (log_of ts ++ e ∷ []) = ap length (sym (log_of-idle ts) ∙ h) in absurd (omega (arith, length-append (log_of ts) (e ∷ [])))
turn-adds (Some f) ts e h = ap Some (sym (last_or-append [] (log_of ts) f) ∙ ap (last_or []) (sym (log_of-adds ts f) ∙ h) ∙ last_or-append [] (log_of ts) e)

-- a turn that leaves the log is idle
pub turn-idle : (turn : Turn) (ts : History) → log_of (ts ++ turn ∷ []) ≡ log_of ts → turn ≡ None
turn-idle None ts h = refl
turn-idle (Some f) ts h = let n : length (log_of ts ++ f ∷ []) ≡ length (log_of ts) = ap length (sym (log_of-adds ts f) ∙ h) in absurd (omega (arith, length-append (log_of ts) (f ∷ [])))
