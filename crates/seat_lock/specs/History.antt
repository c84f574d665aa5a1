-- To believe: the turns at a lock, in their order, and the log that they leave.
use Rattle.std.specs.Prelude.{◌≡◌, ◌⊎◌, ℕ, ◌+◌, ◌≤◌, ◌==◌, if◌then◌else◌, leb, List, [], ◌∷◌, ◌++◌, length, Option, Some, None}

-- an entry of a log: plain numbers
abbrev pub LogEntry : Type 0
LogEntry = List ℕ

-- a turn adds one entry to the log, or none
abbrev pub Turn : Type 0
Turn = Option LogEntry

-- all turns so far, the first one first
abbrev pub History : Type 0
History = List Turn

-- the log that the turns leave: the entries that they added, in their order
abbrev pub log_of : History → List LogEntry
log_of [] = []
log_of (Some entry ∷ turns) = entry ∷ log_of turns
log_of (None ∷ turns) = log_of turns

-- turns that leave this log, each of which added an entry
abbrev pub turns_of : List LogEntry → History
turns_of [] = []
turns_of (entry ∷ log) = Some entry ∷ turns_of log

-- in one turn a log stays as it was, or gains one entry at its end
abbrev pub GrowsByAtMostOne : List LogEntry → List LogEntry → Type 0
GrowsByAtMostOne before after = (after ≡ before) ⊎ ((entry : LogEntry) × (after ≡ before ++ entry ∷ []))

-- the second list begins with the first
abbrev pub Begins : {A : Type 0} → List A → List A → Type 0
Begins {A} start whole = (rest : List A) × (whole ≡ start ++ rest)

-- of two starts of one list, the longer
abbrev pub longer_of : {A : Type 0} → List A → List A → List A
longer_of xs ys = if leb (length xs) (length ys) then ys else xs

-- after a turn at this place: the place is behind the other receipts if the turn added an entry
abbrev pub with_receipt : Turn → ℕ → List ℕ → List ℕ
with_receipt (Some entry) place receipts = receipts ++ place ∷ []
with_receipt None place receipts = receipts

-- how often the place occurs in the list
abbrev pub times : ℕ → List ℕ → ℕ
times place [] = 0
times place (p ∷ ps) = (if place == p then 1 else 0) + times place ps

-- no place occurs in the list twice
abbrev pub NoneTwice : List ℕ → Type 0
NoneTwice places = (place : ℕ) → times place places ≤ 1
