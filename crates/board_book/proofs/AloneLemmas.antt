-- Journals of many tasks: each task is alone, and blocks of entries of one task.
use Rattle.std.proofs.Common.{◌≡◌, ℕ, ◌==◌, Bool, true, false, if◌then◌else◌, List, [], ◌∷◌, ◌++◌, Option, Some, refl, sym, ap, ◌∙◌, subst, inl, inr}
use Rattle.std.proofs.lemmas.Bool.{cases_Bool, eqb-true, eq-eqb, ne_eqb}
use Rattle.std.specs.Option.{option_map}
use Rattle.std.proofs.lemmas.Option.{same_Some}
use Rattle.bisect_game.specs.Says.{Says}
use Rattle.bisect_game.specs.Rules.{Rules}
use Rattle.tournament.specs.Bracket.{open_question}
use Rattle.tournament.specs.Moves.{MatchState}
use Rattle.tournament.specs.Journals.{turns}
use Rattle.tournament.specs.Posting.{reply_to}
use Rattle.board_book.specs.declared.entry.Entry.{Entry}
use Rattle.board_book.specs.Entries.{IsEntry, IsJournal, who, ask_on}
use Rattle.board_book.specs.Tasks.{Task, numbered, Game, Games, begun_game, games_of, turned, after_entry, IsTaskEntry, IsTaskJournal, games_after, entries_of, of_task}
use Rattle.board_book.specs.Alone.{game_after, TasksAreAlone, OwnEntriesDecide}
use Rattle.board_book.specs.Keeping.{AreToldApart}

-- an entry of the task, and one of another

own_entries : (t : ℕ) (x : ℕ × Entry) (xs : List (ℕ × Entry)) → (t == x.0) ≡ true → entries_of t (x ∷ xs) ≡ x.1 ∷ entries_of t xs
own_entries t x xs e = ap (λ (b : Bool). if b then x.1 ∷ entries_of t xs else entries_of t xs) e

other_entries : (t : ℕ) (x : ℕ × Entry) (xs : List (ℕ × Entry)) → (t == x.0) ≡ false → entries_of t (x ∷ xs) ≡ entries_of t xs
other_entries t x xs e = ap (λ (b : Bool). if b then x.1 ∷ entries_of t xs else entries_of t xs) e

own_moves : (t : ℕ) (x : ℕ × Entry) (games : Games) (g : Game) → (t == x.0) ≡ true → games t ≡ Some g → after_entry x games t ≡ Some (turned x.1.p g)
own_moves t x games g e there =
    ap (λ (b : Bool). if b then option_map (turned x.1.p) (games t) else games t) e ∙ ap (option_map (turned x.1.p)) there

other_stays : (t : ℕ) (x : ℕ × Entry) (games : Games) → (t == x.0) ≡ false → after_entry x games t ≡ games t
other_stays t x games e = ap (λ (b : Bool). if b then option_map (turned x.1.p) (games t) else games t) e

-- each task is alone

-- what is said of a task whose own entries are these, in games that come to this one
abbrev IsAlone : List Entry → Game → Option Game → Type 0
IsAlone es g final = IsJournal g.task.rules g.task.says es g.state × (final ≡ Some (game_after es g))

entry_there : (games : Games) (t : ℕ) (x : ℕ × Entry) (g : Game) → t ≡ x.0 → games t ≡ Some g → IsTaskEntry games x → IsEntry g.task.rules g.task.says g.state x.1
entry_there games t x g e there i =
    let same : i.game ≡ g = same_Some i.game g (sym i.there ∙ (ap games (sym e) ∙ there)) in
    subst (λ (h : Game). IsEntry h.task.rules h.task.says h.state x.1) same i.entry

pub alone : TasksAreAlone
alone [] games t g j there = (tt, there)
alone (x ∷ xs) games t g j there =
    elim (cases_Bool (t == x.0)) [
      | inl e ↦
          let entry : IsEntry g.task.rules g.task.says g.state x.1 = entry_there games t x g (eqb-true t x.0 e) there j.0 in
          let rest : IsAlone (entries_of t xs) (turned x.1.p g) (games_after xs (after_entry x games) t) = alone xs (after_entry x games) t (turned x.1.p g) j.1 (own_moves t x games g e there) in
          subst (λ es. IsAlone es g (games_after xs (after_entry x games) t)) (sym (own_entries t x xs e)) ((entry, rest.0), rest.1)
      | inr e ↦
          let rest : IsAlone (entries_of t xs) g (games_after xs (after_entry x games) t) = alone xs (after_entry x games) t g j.1 (other_stays t x games e ∙ there) in
          subst (λ es. IsAlone es g (games_after xs (after_entry x games) t)) (sym (other_entries t x xs e)) rest
    ]

begins : (tasks : List Task) (t : ℕ) (k : Task) → numbered tasks t ≡ Some k → games_of tasks t ≡ Some (begun_game k)
begins tasks t k there = ap (option_map begun_game) there

pub decide : OwnEntriesDecide
decide tasks xs ys t k a b there jx jy same ax bx =
    let x : games_after xs (games_of tasks) t ≡ Some (game_after (entries_of t xs) (begun_game k)) = (alone xs (games_of tasks) t (begun_game k) jx (begins tasks t k there)).1 in
    let y : games_after ys (games_of tasks) t ≡ Some (game_after (entries_of t ys) (begun_game k)) = (alone ys (games_of tasks) t (begun_game k) jy (begins tasks t k there)).1 in
    let one : a ≡ b = same_Some a b (sym ax ∙ (x ∙ (ap (λ (es : List Entry). Some (game_after es (begun_game k))) same ∙ (sym y ∙ bx)))) in
    let state : a.state ≡ b.state = ap (λ (g : Game). g.state) one in
    record {
      asked = λ p. ap (λ (s : MatchState). ask_on s p (open_question k.rules s.record_ p)) state;
      replied = λ p qid m. ap (λ (s : MatchState). reply_to k.rules s p qid m) state;
      recorded = ap (λ (s : MatchState). s.record_) state;
    }

-- one journal after another

pub journals_join : (xs ys : List (ℕ × Entry)) (games : Games) → IsTaskJournal xs games → IsTaskJournal ys (games_after xs games) → IsTaskJournal (xs ++ ys) games
journals_join [] ys games a b = b
journals_join (x ∷ xs) ys games a b = (a.0, journals_join xs ys (after_entry x games) a.1 b)

-- a block of entries of one task

itself : (t : ℕ) → (t == t) ≡ true
itself t = eq-eqb t t refl

pub block_is_legal : (t : ℕ) (es : List Entry) (games : Games) (g : Game) → games t ≡ Some g → IsJournal g.task.rules g.task.says es g.state → IsTaskJournal (of_task t es) games
block_is_legal t [] games g there j = tt
block_is_legal t (e ∷ es) games g there j =
    (record { game = g; there = there; entry = j.0 }, block_is_legal t es (after_entry (t, e) games) (turned e.p g) (own_moves t (t, e) games g (itself t) there) j.1)

pub entries_join : (t : ℕ) (xs ys : List (ℕ × Entry)) → entries_of t (xs ++ ys) ≡ entries_of t xs ++ entries_of t ys
entries_join t [] ys = refl
entries_join t (x ∷ xs) ys =
    elim (cases_Bool (t == x.0)) [
      | inl e ↦ own_entries t x (xs ++ ys) e ∙ (ap (λ (es : List Entry). x.1 ∷ es) (entries_join t xs ys) ∙ ap (λ (es : List Entry). es ++ entries_of t ys) (sym (own_entries t x xs e)))
      | inr e ↦ other_entries t x (xs ++ ys) e ∙ (entries_join t xs ys ∙ ap (λ (es : List Entry). es ++ entries_of t ys) (sym (other_entries t x xs e)))
    ]

pub entries_of_block : (t : ℕ) (es : List Entry) → entries_of t (of_task t es) ≡ es
entries_of_block t [] = refl
entries_of_block t (e ∷ es) = own_entries t (t, e) (of_task t es) (itself t) ∙ ap (λ (fs : List Entry). e ∷ fs) (entries_of_block t es)

pub are_told_apart : AreToldApart
are_told_apart = record { joined = entries_join; own = entries_of_block }

pub entries_of_others : (t u : ℕ) (es : List Entry) → (t ≡ u → ⊥) → entries_of t (of_task u es) ≡ []
entries_of_others t u [] never = refl
entries_of_others t u (e ∷ es) never = other_entries t (u, e) (of_task u es) (ne_eqb t u never) ∙ entries_of_others t u es never

-- the rest of a legal journal of one task

pub journal_rest : (rules : Rules) (says : Says) (xs ys : List Entry) (st : MatchState) → IsJournal rules says (xs ++ ys) st → IsJournal rules says ys (turns rules says (who xs) st)
journal_rest rules says [] ys st j = j
journal_rest rules says (x ∷ xs) ys st j = journal_rest rules says xs ys _ j.1
