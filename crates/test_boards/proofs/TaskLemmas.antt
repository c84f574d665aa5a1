-- A seat at a board of two tasks: who is there, and what may be posted.
use Rattle.std.proofs.Common.{◌≡◌, ℕ, zero, suc, ◌<◌, ◌≤◌, ◌==◌, Bool, true, false, if◌then◌else◌, List, [], ◌∷◌, Option, Some, refl, sym, ap, ◌∙◌, subst, arith}
use Rattle.std.proofs.lemmas.Option.{same_Some}
use Rattle.rd_base.specs.declared.answer.Answer.{Answer}
use Rattle.bisect_game.specs.declared.settled.Question.{Question}
use Rattle.seat_lock.specs.Seats.{LockId, Known}
use Rattle.seat_lock.specs.Turned.{SameSeat}
use Rattle.board_book.specs.declared.book.Opening.{Opening}
use Rattle.board_book.specs.declared.entry.Ask.{Ask}
use Rattle.board_book.specs.declared.entry.Ask.TheVariants as variant
use Rattle.board_book.specs.Tasks.{Task, task_of, tasks_of_openings, numbered}
use Rattle.dispute_board.specs.OneHistory.{IsThere, MayPostFor, SaidMayBePosted, AsksOnBoard}
use Rattle.toy_game.specs.declared.cast.Cast.{Cast}
use Rattle.toy_game.specs.Toy.{toy_ruling, says_of}
use Rattle.test_boards.specs.Casts.{opening_of, cast_at}
use Rattle.test_boards.specs.TaskSeats.{IsSeatOfTasks}

abbrev says : Cast → ℕ → Question → ℕ → Option Answer
says cast = says_of cast.players

-- task t
the_task : (a b : Cast) (t : ℕ) → 0 < t → t ≤ 2 → numbered (tasks_of_openings toy_ruling says (opening_of a ∷ opening_of b ∷ [])) t ≡ Some (task_of toy_ruling says (opening_of (cast_at a b t)))
the_task a b zero some few = absurd (omega (arith, some))
the_task a b (suc zero) some few = refl
the_task a b (suc (suc zero)) some few = refl
the_task a b (suc (suc (suc t))) some few = absurd (omega (arith, few))

two_at : (first : Bool) (a b : Cast) → a.count ≡ 2 → b.count ≡ 2 → (if first then a else b).count ≡ 2
two_at true a b x y = x
two_at false a b x y = y

module _ (board : LockId) (a b : Cast) (k : Known (List (Opening ℕ Cast))) (s : IsSeatOfTasks board a b k) where
  abbrev heads_of : List (Opening ℕ Cast)
  heads_of = opening_of a ∷ opening_of b ∷ []

  pub there_of : (t p : ℕ) → 0 < t → t ≤ 2 → 0 < p → p ≤ 2 → (heads : List (Opening ℕ Cast)) → k.head ≡ Some heads → IsThere (tasks_of_openings toy_ruling says heads) t p
  there_of t p some few low high heads e =
      subst (λ (hs : List (Opening ℕ Cast)). IsThere (tasks_of_openings toy_ruling says hs) t p) (same_Some heads_of heads (sym s.head ∙ e))
      (task_of toy_ruling says (opening_of (cast_at a b t)), the_task a b t some few, low, subst (λ (n : ℕ). p ≤ n) (sym (two_at (t == 1) a b s.two.0 s.two.1)) high)

  pub may_of : SaidMayBePosted → (t p : ℕ) → 0 < t → t ≤ 2 → (q : Question) (n : ℕ) (m : Option Answer) (ask : Ask) (after : Known (List (Opening ℕ Cast))) (heads : List (Opening ℕ Cast)) → k.head ≡ Some heads → (asks : AsksOnBoard (tasks_of_openings toy_ruling says heads) k t p ask after) → ask ≡ variant.Question q n → m ≡ says (cast_at a b t) p q n →
      (hs : List (Opening ℕ Cast)) → after.head ≡ Some hs → MayPostFor (tasks_of_openings toy_ruling says hs) t p q.qid m
  may_of may t p some few q n m ask after heads e asks is said hs later =
      let same : heads ≡ heads_of = same_Some heads heads_of (sym e ∙ s.head) in
      let next : heads_of ≡ hs = same_Some heads_of hs (sym (asks.stands.same.head ∙ s.head) ∙ later) in
      let own : task_of toy_ruling says (opening_of (cast_at a b t)) ≡ asks.task = same_Some (task_of toy_ruling says (opening_of (cast_at a b t))) asks.task (sym (the_task a b t some few) ∙ subst (λ (l : List (Opening ℕ Cast)). numbered (tasks_of_openings toy_ruling says l) t ≡ Some asks.task) same asks.there) in
      subst (λ (l : List (Opening ℕ Cast)). MayPostFor (tasks_of_openings toy_ruling says l) t p q.qid m) (same ∙ next)
      (may (tasks_of_openings toy_ruling says heads) t p asks.task q n m asks.there (asks.asked q n is) (said ∙ ap (λ (j : Task). j.says p q n) own))

  pub still_there : (after : Known (List (Opening ℕ Cast))) → SameSeat k after → IsSeatOfTasks board a b after
  still_there after same = record {
    lock = same.lock ∙ s.lock;
    head = same.head ∙ s.head;
    two = s.two;
  }
