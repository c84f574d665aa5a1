-- The only task: its journal is that of all.
use Rattle.std.proofs.Common.{◌≡◌, ℕ, suc, ◌+◌, ◌-◌, ◌==◌, Bool, if◌then◌else◌, List, [], ◌∷◌, ◌++◌, length, Some, None, refl, sym, ap, ap₂, ◌∙◌, subst, arith, inl, inr}
use Rattle.std.specs.Prelude.{slice_get}
use Rattle.std.specs.Option.{option_map}
use Rattle.std.proofs.lemmas.Bool.{cases_Bool, cases_eq, eqb-false, eq-eqb}
use Rattle.std.proofs.lemmas.Option.{none-some, slice_get_past}
use Rattle.std.proofs.lemmas.List.{length_push}
use Rattle.bisect_game.specs.Ruling.{Ruling}
use Rattle.bisect_game.specs.Says.{Says}
use Rattle.board_book.specs.declared.entry.Entry.{Entry}
use Rattle.board_book.specs.Tasks.{Task, task_of, numbered, Games, begun_game, games_of, turned, after_entry, IsTaskJournal, entries_of, BookOf, BooksOf, of_task, tasks_of_openings, openings}
use Rattle.board_book.specs.Keeping.{AreBooksOf}

-- the last of a list of one
alone_in : {X : Type 0} (xs rest : List X) (b : X) → length xs ≡ 1 → xs ≡ rest ++ b ∷ [] → xs ≡ b ∷ []
alone_in xs [] b one last = last
alone_in xs (x ∷ rest) b one last =
    let more : length xs ≡ suc (length (rest ++ b ∷ [])) = ap length last in
    let some : length (rest ++ b ∷ []) ≡ length rest + 1 = length_push rest b in
    absurd (omega (arith, one, more, some))

none_left : (t : ℕ) (x : ℕ × Entry) (games : Games) → games t ≡ None → after_entry x games t ≡ None
none_left t x games e = elim (cases_Bool (t == x.0)) [
  | inl b ↦ ap (λ (c : Bool). if c then option_map (turned x.1.p) (games t) else games t) b ∙ ap (option_map (turned x.1.p)) e
  | inr b ↦ ap (λ (c : Bool). if c then option_map (turned x.1.p) (games t) else games t) b ∙ e
]

only_one : (xs : List (ℕ × Entry)) (games : Games) → ((t : ℕ) → (t ≡ 1 → ⊥) → games t ≡ None) → IsTaskJournal xs games → xs ≡ of_task 1 (entries_of 1 xs)
only_one [] games none j = refl
only_one (x ∷ xs) games none j =
    elim (cases_eq x.0 1) [
      | inl e ↦
          let rest : xs ≡ of_task 1 (entries_of 1 xs) = only_one xs (after_entry x games) (λ t never. none_left t x games (none t never)) j.1 in
          let own : entries_of 1 (x ∷ xs) ≡ x.1 ∷ entries_of 1 xs = ap (λ (b : Bool). if b then x.1 ∷ entries_of 1 xs else entries_of 1 xs) (eq-eqb 1 x.0 (sym e)) in
          ap₂ (λ (y : ℕ × Entry) (ys : List (ℕ × Entry)). y ∷ ys) (ap (λ (t : ℕ). (t, x.1)) e) rest ∙ ap (of_task 1) (sym own)
      | inr never ↦ absurd (none-some j.0.game (sym (none x.0 never) ∙ j.0.there))
    ]

no_other : (k : Task) (t : ℕ) → (t ≡ 1 → ⊥) → games_of (k ∷ []) t ≡ None
no_other k t never = elim (cases_Bool (t == 0)) [
  | inl z ↦ ap (λ (b : Bool). option_map begun_game (if b then None else slice_get (k ∷ []) (t - 1))) z
  | inr z ↦
      let some : t ≡ 0 → ⊥ = eqb-false t 0 z in
      ap (λ (b : Bool). option_map begun_game (if b then None else slice_get (k ∷ []) (t - 1))) z ∙ ap (option_map begun_game) (slice_get_past (k ∷ []) (t - 1) (omega (arith, never, some)))
]

-- the journal of a single task
single_journal : {N M : Type 0} (ruling : N → Ruling) (says : M → Says) (bs : List (BookOf N M)) (journal : List (ℕ × Entry)) (b : BookOf N M) → bs ≡ b ∷ [] → IsTaskJournal journal (games_of (tasks_of_openings ruling says (openings bs))) →
    ((t : ℕ) (c : BookOf N M) → numbered bs t ≡ Some c → entries_of t journal ≡ c.journal) → journal ≡ of_task 1 b.journal
single_journal {N} {M} ruling says bs journal b is legal own =
    let here : IsTaskJournal journal (games_of (task_of ruling says b.opening ∷ [])) = subst (λ (l : List (BookOf N M)). IsTaskJournal journal (games_of (tasks_of_openings ruling says (openings l)))) is legal in
    let mine : entries_of 1 journal ≡ b.journal = own 1 b (ap (λ (l : List (BookOf N M)). numbered l 1) is) in
    only_one journal (games_of (task_of ruling says b.opening ∷ [])) (λ t never. no_other (task_of ruling says b.opening) t never) here ∙ ap (of_task 1) mine

pub only_book : {N M : Type 0} (ruling : N → Ruling) (says : M → Says) (bs rest : List (BookOf N M)) (journal : List (ℕ × Entry)) (capacity : ℕ) (b : BookOf N M) → AreBooksOf ruling says bs journal capacity → length bs ≡ 1 → bs ≡ rest ++ b ∷ [] →
    ◌≡◌ {A = BooksOf N M} (record { books = bs; journal = journal }) (record { books = b ∷ []; journal = of_task 1 b.journal })
only_book {N} {M} ruling says bs rest journal capacity b kept one last =
    let is : bs ≡ b ∷ [] = alone_in bs rest b one last in
    let same : journal ≡ of_task 1 b.journal = single_journal ruling says bs journal b is kept.legal kept.own in
    λ i. record { books = is i; journal = same i }
