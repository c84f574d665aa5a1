-- Seats of posters, and what they may post.
use Rattle.std.proofs.Common.{◌≡◌, ℕ, List, [], ◌∷◌, ◌++◌, Option, Some, refl, ap, ◌∙◌}
use Rattle.std.specs.List.{All}
use Rattle.std.proofs.lemmas.List.Elements.{All-nil, All-cons, All-head, All-tail}
use Rattle.rd_base.specs.declared.answer.Answer.{Answer}
use Rattle.bisect_game.specs.declared.settled.Question.{Question}
use Rattle.bisect_game.specs.Says.{Says}
use Rattle.seat_lock.specs.History.{LogEntry, History, log_of, turns_of, Begins}
use Rattle.seat_lock.specs.Seats.{LockId, Known, after_join}
use Rattle.board_book.specs.declared.book.Opening.{Opening}
use Rattle.board_book.specs.Keeping.{NumbersAgree}
use Rattle.dispute_board.specs.OneHistory.{IsOfTheCase, MayPostFor, SaidMayBePosted}
use Rattle.bisect_game.specs.Ruling.{Ruling}
use Rattle.board_book.specs.Tasks.{Task, task_of, numbered, tasks_of_openings}
use Rattle.posters.specs.declared.playing.Place.{Place}
use Rattle.posters.specs.Serving.{staying_part_of, IsSeatOf, KnowsStart, IsProverAt}
use Rattle.posters.proofs.Numbering.{task_same}

-- what the prover of a place says to a question that its task's case asks may be posted for it
pub may_post_for : {N M : Type 0} (ruling : N → Ruling) (says : M → Says) → NumbersAgree ruling says → SaidMayBePosted → (heads : List (Opening N M)) (x : Place) (said : Question → ℕ → Option Answer) (q : Question) (n : ℕ) (m : Option Answer) → IsProverAt says heads x said →
    (k : Task) → numbered (tasks_of_openings ruling says heads) x.task ≡ Some k → IsOfTheCase k.rules k.says x.prover q → m ≡ said q n → MayPostFor (tasks_of_openings ruling says heads) x.task x.prover q.qid m
may_post_for ruling says law may heads x said q n m p k there asked same =
    let one : task_of ruling says p.head ≡ k = task_same ruling says law heads x said k p there in
    may (tasks_of_openings ruling says heads) x.task x.prover k q n m there asked (same ∙ (ap (λ (f : Question → ℕ → Option Answer). f q n) p.says_it ∙ ap (λ (j : Task). j.says x.prover q n) one))

pub log_of-turns_of : (log : List LogEntry) → log_of (turns_of log) ≡ log
log_of-turns_of [] = refl
log_of-turns_of (e ∷ es) = ap (λ l. e ∷ l) (log_of-turns_of es)

pub All-first : {X : Type 0} (P : X → Type 0) (xs ys : List X) → All P (xs ++ ys) → All P xs
All-first P [] ys h = All-nil P
All-first P (x ∷ xs) ys h = All-cons P x xs (All-head P x (xs ++ ys) h) (All-first P xs ys (All-tail P x (xs ++ ys) h))

module _ {H : Type 0} where
  pub seat_again : (board : LockId) (head : H) (before after : Known H) → staying_part_of after ≡ staying_part_of before → IsSeatOf board head before → IsSeatOf board head after
  seat_again board head before after e s = record {
    lock = ap (λ (k : Known H). k.lock) e ∙ s.lock;
    head_is = ap (λ (k : Known H). k.head) e ∙ s.head_is;
  }

  pub knows_itself : (k : Known H) → KnowsStart (log_of k.seen) k
  knows_itself k log saw joined = saw

  -- what a seat knew it knows after a join
  pub knows_after_join : (start : List LogEntry) (k other : Known H) → KnowsStart start k → KnowsStart start (after_join k other)
  knows_after_join start k other knows log saw joined =
      let P : History → Type 0 = λ seen. Begins (log_of seen) log in
      let rest = All-tail P k.seen (other.seen ∷ (k.joined ++ other.joined)) joined in
      knows log (All-head P k.seen (other.seen ∷ (k.joined ++ other.joined)) joined) (All-first P k.joined other.joined (All-tail P other.seen (k.joined ++ other.joined) rest))
