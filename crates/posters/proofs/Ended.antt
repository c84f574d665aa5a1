-- A match that is over stays over: no legal journal has an entry of it from then on.
use Rattle.std.proofs.Common.{◌≡◌, ℕ, zero, suc, ◌+◌, ◌-◌, ◌<◌, get_or, Bool, true, false, not, ◌&&◌, ◌||◌, ◌==◌, if◌then◌else◌, List, [], ◌∷◌, ◌++◌, length, slice_get, Option, Some, None, is_none, refl, sym, ap, ◌∙◌, subst, arith}
use Rattle.std.specs.Option.{option_map}
use Rattle.std.proofs.lemmas.Bool.{and_parts}
use Rattle.std.proofs.lemmas.Option.{same_Some, none-some}
use Rattle.std.proofs.lemmas.List.{append-nil, get_or_default}
use native.Mathlib.Decide.{ℕ_discrete}
use mathlib.Core.Logic.{dite}
use Rattle.bisect_game.specs.declared.settled.Settled.{Settled}
use Rattle.bisect_game.specs.Bisection.{Bisection, question_of, is_closed}
use Rattle.bisect_game.specs.Ruling.{Ruling}
use Rattle.bisect_game.specs.Rules.{Rules, claim_question}
use Rattle.bisect_game.specs.Says.{Says}
use Rattle.tournament.specs.Bracket.{Record, asks_first, asks_second, question_in, claim_missing, open_question, all_there, all_closed, is_complete}
use Rattle.tournament.specs.Moves.{MatchState, begun}
use Rattle.tournament.specs.Journals.{turns}
use Rattle.seat_lock.specs.History.{log_of, Begins}
use Rattle.seat_lock.specs.Seats.{Known}
use Rattle.board_book.specs.declared.book.Opening.{Opening}
use Rattle.board_book.specs.declared.entry.Entry.{Entry}
use Rattle.board_book.specs.Entries.{IsJournal, who}
use Rattle.board_book.specs.Tasks.{Task, numbered, begun_game, games_of, tasks_of_openings, IsTaskJournal, entries_of}
use Rattle.board_book.specs.Alone.{TasksAreAlone}
use Rattle.board_book.specs.Keeping.{AreToldApart}
use Rattle.dispute_board.specs.OneHistory.{StartsTellJournals, own_state}
use Rattle.posters.specs.declared.playing.Place.{Place}
use Rattle.posters.specs.Serving.{SeesOver, SeesOverOf}

-- nobody is asked where nothing is open

there_all : (ss : List (Option Settled)) (k : ℕ) → all_there ss ≡ true → claim_missing (slice_get ss k) ≡ false
there_all [] k e = refl
there_all (None ∷ ss) k e = absurd (cc)
there_all (Some s ∷ ss) zero e = refl
there_all (Some s ∷ ss) (suc k) e = there_all ss k e

never_asked : (a b c d : Bool) → ((a && (c && not true)) || (b && (d && not true))) ≡ false
never_asked true true true true = refl
never_asked true true true false = refl
never_asked true true false true = refl
never_asked true true false false = refl
never_asked true false true d = refl
never_asked true false false d = refl
never_asked false true c true = refl
never_asked false true c false = refl
never_asked false false c d = refl

closed_asks_nobody : (p : ℕ) (d : Bisection) → is_closed d ≡ true → (asks_first p d || asks_second p d) ≡ false
closed_asks_nobody p d e =
    ap (λ (b : Bool). ((d.first == p) && (is_none d.by_first && not b)) || ((d.second == p) && (is_none d.by_second && not b))) e
    ∙ never_asked (d.first == p) (d.second == p) (is_none d.by_first) (is_none d.by_second)

none_in : (p : ℕ) (ds : List Bisection) → all_closed ds ≡ true → question_in p ds ≡ None
none_in p [] e = refl
none_in p (d ∷ ds) e =
    let two : (is_closed d ≡ true) × (all_closed ds ≡ true) = and_parts (is_closed d) (all_closed ds) e in
    ap (λ (b : Bool). if b then Some (question_of d) else question_in p ds) (closed_asks_nobody p d two.0) ∙ none_in p ds two.1

nobody_asked : (rules : Rules) (t : Record) (p : ℕ) → is_complete t ≡ true → open_question rules t p ≡ None
nobody_asked rules t p e =
    let two : (all_there t.claims ≡ true) × (all_closed t.disputes ≡ true) = and_parts (all_there t.claims) (all_closed t.disputes) e in
    ap (λ (b : Bool). if b then Some claim_question else question_in p t.disputes) (there_all t.claims (p - 1) two.0) ∙ none_in p t.disputes two.1

-- so a legal journal has no entry after the match is over

no_more : (rules : Rules) (says : Says) (es more : List Entry) (st : MatchState) → IsJournal rules says (es ++ more) st → is_complete (turns rules says (who es) st).record_ ≡ true → more ≡ []
no_more rules says [] [] st legal over = refl
no_more rules says [] (e ∷ more) st legal over = absurd (none-some legal.0.question (sym (nobody_asked rules st.record_ e.p over) ∙ legal.0.asked))
no_more rules says (e ∷ es) more st legal over = no_more rules says es more _ legal.1 over

-- a longer legal journal leaves the task in the same state
pub same_state : TasksAreAlone → AreToldApart → (tasks : List Task) (t : ℕ) (task : Task) (xs ys : List (ℕ × Entry)) → numbered tasks t ≡ Some task → IsTaskJournal ys (games_of tasks) → Begins xs ys →
    is_complete (own_state task t xs).record_ ≡ true → own_state task t ys ≡ own_state task t xs
same_state alone apart tasks t task xs ys there legal begins over =
    let own : IsJournal task.rules task.says (entries_of t ys) (begun task.rules) = (alone ys (games_of tasks) t (begun_game task) legal (ap (option_map begun_game) there)).0 in
    let cut : entries_of t ys ≡ entries_of t xs ++ entries_of t begins.0 = ap (entries_of t) begins.1 ∙ apart.joined t xs begins.0 in
    let none : entries_of t begins.0 ≡ [] =
    no_more task.rules task.says (entries_of t xs) (entries_of t begins.0) (begun task.rules) (subst (λ (es : List Entry). IsJournal task.rules task.says es (begun task.rules)) cut own) over in
    ap (λ (es : List Entry). turns task.rules task.says (who es) (begun task.rules)) (cut ∙ ap (λ (es : List Entry). entries_of t xs ++ es) none ∙ append-nil (entries_of t xs))

module _ {N M : Type 0} (ruling : N → Ruling) (says : M → Says) where
  -- what a seat saw to be over is over for the same seat once it has seen more
  pub still_over : TasksAreAlone → AreToldApart → StartsTellJournals → (before after : Known (List (Opening N M))) (t u : ℕ) → after.head ≡ before.head → Begins (log_of before.seen) (log_of after.seen) →
      SeesOver ruling says before t → SeesOver ruling says after u → SeesOver ruling says after t
  still_over alone apart tell before after t u same more s now =
      let heads : now.heads ≡ s.heads = same_Some now.heads s.heads (sym now.head_is ∙ same ∙ s.head_is) in
      let legal : IsTaskJournal now.journal (games_of (tasks_of_openings ruling says s.heads)) = subst (λ (hs : List (Opening N M)). IsTaskJournal now.journal (games_of (tasks_of_openings ruling says hs))) heads now.legal in
      let begins : Begins s.journal now.journal = tell s.journal now.journal (more.0, sym now.seen ∙ more.1 ∙ ap (λ (l : List (List ℕ)). l ++ more.0) s.seen) in
      record {
        heads = s.heads;
        head_is = same ∙ s.head_is;
        task = s.task;
        there = s.there;
        journal = now.journal;
        legal = legal;
        seen = now.seen;
        over = ap (λ (st : MatchState). is_complete st.record_) (same_state alone apart (tasks_of_openings ruling says s.heads) t s.task s.journal now.journal s.there legal begins s.over) ∙ s.over;
      }

  -- one prover more, whose match is over: the seat sees all so far to be over, if it saw those before
  pub one_more_over : TasksAreAlone → AreToldApart → StartsTellJournals → (places : List Place) (before after : Known (List (Opening N M))) (numbers : List ℕ) (i : ℕ) (place : Place) → i < length numbers →
      after.head ≡ before.head → Begins (log_of before.seen) (log_of after.seen) → slice_get places (get_or numbers i 0) ≡ Some place → SeesOver ruling says after place.task →
      ((j d : ℕ) → j < i → SeesOverOf ruling says places before (get_or numbers j d)) → (j d : ℕ) → j < i + 1 → SeesOverOf ruling says places after (get_or numbers j d)
  one_more_over alone apart tell places before after numbers i place there same more at now all j d below = dite (ℕ_discrete j i)
      (λ e. record {
        place = place;
        placed = ap (slice_get places) (ap (λ (k : ℕ). get_or numbers k d) e ∙ get_or_default numbers i d 0 there) ∙ at;
        sees = now;
      })
      (λ other. let was = all j d (omega arith) in record {
        place = was.place;
        placed = was.placed;
        sees = still_over alone apart tell before after was.place.task place.task same more was.sees now;
      })
