-- Derived: one book and many as they are kept, what a move, or the end of a match, does to one of them, and the element with a number.
use Rattle.std.specs.Prelude.{◌≡◌, ℕ, ◌+◌, ◌-◌, ◌<◌, ◌≤◌, true, List, [], ◌∷◌, ◌++◌, length, drop, set, Some, ◌^◌, map, Option, Result, IfOk}
use Rattle.bisect_game.specs.Says.{Says, AnswerAs}
use Rattle.bisect_game.specs.Ruling.{Ruling}
use Rattle.tournament.specs.Bracket.{is_complete}
use Rattle.tournament.specs.Moves.{begun, MatchState}
use Rattle.tournament.specs.Length.{IsMost, most_entries}
use Rattle.board_book.specs.declared.entry.Entry.{Entry}
use Rattle.board_book.specs.declared.book.Opening.{Opening}
use Rattle.board_book.specs.Entries.{IsJournal, state_after}
use Rattle.board_book.specs.Tasks.{BookOf, openings, tasks_of_openings, numbered, games_of, IsTaskJournal, entries_of, Task, task_of, of_task, sayings_from}
use Rattle.bisect_game.specs.Rules.{Rules, ArePlayable, rules_of}
use Rattle.rd_base.specs.declared.answer.Answer.{Answer}
use Rattle.bisect_game.specs.declared.settled.Question.{Question}

-- a book as it is kept: its journal is legal, the match is its state, and there is room for each entry that can come
pub record IsBook (rules : Rules) (says : Says) (count : ℕ) (es : List Entry) (st : MatchState) (room capacity : ℕ) : Type 0 where
  pub playable : ArePlayable rules
  pub counted : rules.setup.provers ≡ count
  pub few : count ≤ 16
  pub legal : IsJournal rules says es (begun rules)
  pub state : state_after rules says es ≡ st
  pub most : (k : ℕ) × IsMost rules.setup.fan rules.setup.bound k × (room ≡ most_entries rules.setup k)
  pub small : room < 2 ^ 32
  pub capacity_ : room ≤ capacity

module _ {N M : Type 0} where
  -- how many entries there are in all journals together
  abbrev pub all_entries : List (BookOf N M) → ℕ
  all_entries [] = 0
  all_entries (b ∷ bs) = length b.journal + all_entries bs

  -- n is the most entries that the journals of these books can have together
  abbrev pub HasRoom : List (BookOf N M) → ℕ → Type 0
  HasRoom [] n = n ≡ 0
  HasRoom (b ∷ bs) n = (k : ℕ) × IsMost b.opening.setup.fan b.opening.setup.bound k × (length b.journal ≤ most_entries b.opening.setup k) × ((m : ℕ) × (n ≡ most_entries b.opening.setup k + m) × HasRoom bs m)

  pub record AreBooksOf (ruling : N → Ruling) (says : M → Says) (books : List (BookOf N M)) (journal : List (ℕ × Entry)) (capacity : ℕ) : Type 0 where
    pub some : 0 < length books
    pub eight : length books ≤ 8
    pub legal : IsTaskJournal journal (games_of (tasks_of_openings ruling says (openings books)))
    pub own : (t : ℕ) (b : BookOf N M) → numbered books t ≡ Some b → entries_of t journal ≡ b.journal
    pub counted : length journal ≡ all_entries books
    pub room : HasRoom books capacity

  -- a book whose journal has become longer
  pub record Grows (ruling : N → Ruling) (says : M → Says) (before after : BookOf N M) : Type 0 where
    pub opening : after.opening ≡ before.opening
    pub journal : after.journal ≡ before.journal ++ drop (length before.journal) after.journal
    pub legal : IsJournal (rules_of (ruling after.opening.judge) after.opening.setup) (says after.opening.provers) after.journal (begun (rules_of (ruling after.opening.judge) after.opening.setup))
    pub few : (k : ℕ) × IsMost after.opening.setup.fan after.opening.setup.bound k × (length after.journal ≤ most_entries after.opening.setup k)

  -- the book of task t is played on, and its match is over if the result is `Ok`; the others are as they were
  pub record PlaysOn {A E : Type 0} (t : ℕ) (result : Result A E) (before after : List (BookOf N M)) : Type 0 where
    pub found : BookOf N M
    pub left : BookOf N M
    pub there : numbered before t ≡ Some found
    pub opening : left.opening ≡ found.opening
    pub others : after ≡ set before (t - 1) left
    pub complete : IfOk result (λ _. is_complete left.game.record_ ≡ true)

-- an opening has the number of its book, and a task the number of its opening, from 1 to their count
pub record NumbersAgree {N M : Type 0} (ruling : N → Ruling) (says : M → Says) : Type 0 where
  pub book : (books : List (BookOf N M)) (t : ℕ) (b : BookOf N M) → numbered books t ≡ Some b → numbered (openings books) t ≡ Some b.opening
  pub opening : (heads : List (Opening N M)) (t : ℕ) (h : Opening N M) → numbered heads t ≡ Some h → numbered (tasks_of_openings ruling says heads) t ≡ Some (task_of ruling says h)
  pub task : (heads : List (Opening N M)) (t : ℕ) (k : Task) → numbered (tasks_of_openings ruling says heads) t ≡ Some k → (0 < t) × (t ≤ length heads)

-- the entries of a task are separated from those of others, block by block
pub record AreToldApart : Type 0 where
  pub joined : (t : ℕ) (xs ys : List (ℕ × Entry)) → entries_of t (xs ++ ys) ≡ entries_of t xs ++ entries_of t ys
  pub own : (t : ℕ) (es : List Entry) → entries_of t (of_task t es) ≡ es

-- answerers that answer as the provers from this one on say, one after another, what these say
abbrev pub SayInOrder : {A : Type 0} → (A → Question → ℕ → Option Answer) → Type 0
SayInOrder {A} answers = (says : Says) (p : ℕ) (xs : List A) → AnswerAs answers says p xs → map answers xs ≡ sayings_from says p (length xs)
