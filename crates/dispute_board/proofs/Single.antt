-- A seat at the board of one task, from a seat at the board of many.
use Rattle.std.proofs.Common.{◌≡◌, ◌∙◌, ℕ, ◌<◌, ◌≤◌, List, [], ◌∷◌, Option, Some, refl, sym, ap, subst}
use Rattle.std.specs.Option.{option_and_then}
use Rattle.std.proofs.lemmas.Option.{same_Some}
use Rattle.rd_base.specs.declared.answer.Answer.{Answer}
use Rattle.rd_base.specs.declared.answer.Qid.{Qid}
use Rattle.bisect_game.specs.Ruling.{Ruling}
use Rattle.bisect_game.specs.Says.{Says}
use Rattle.bisect_game.specs.Rules.{rules_of}
use Rattle.board_book.specs.declared.book.Opening.{Opening}
use Rattle.board_book.specs.declared.entry.Ask.{Ask}
use Rattle.board_book.specs.declared.entry.Entry.{Entry}
use Rattle.board_book.specs.Tasks.{Task, task_of, tasks_of_openings}
use Rattle.seat_lock.specs.Seats.{Known}
use Rattle.seat_lock.specs.Turned.{SameSeat}
use Rattle.dispute_board.specs.declared.turns.Posted.{Posted}
use Rattle.dispute_board.specs.OneHistory.{MayPost, MayPostFor, IsThere, IsTurnAt, AsksOnBoard, PostsOnBoard}
use Rattle.dispute_board.specs.OneTask.{only_of, of_one, HasOneTask}

module _ {H : Type 0} where
  -- the only head
  pub head_is : (k : Known (List H)) (head : H) → HasOneTask k → (of_one k).head ≡ Some head → k.head ≡ Some (head ∷ [])
  head_is k head one e =
      let same : one.0 ≡ head = same_Some one.0 head (sym (ap (option_and_then only_of) one.1) ∙ e) in
      one.1 ∙ ap (λ (h : H). Some (h ∷ [])) same

  same_seat : (before after : Known (List H)) → SameSeat before after → SameSeat (of_one before) (of_one after)
  same_seat before after s = record { lock = s.lock; number = s.number; head = ap (option_and_then only_of) s.head; out = s.out; began = s.began }

  stands_of_one : (tasks : List Task) (before after : Known (List H)) (journal : List (ℕ × Entry)) (added : Option (ℕ × Entry)) → IsTurnAt tasks before journal added after → IsTurnAt tasks (of_one before) journal added (of_one after)
  stands_of_one tasks before after journal added s = record {
    legal = s.legal;
    legal_after = s.legal_after;
    saw = s.saw;
    saw_joined = s.saw_joined;
    sees = s.sees;
    none_joined = s.none_joined;
    same = same_seat before after s.same;
    one = s.one;
    receipts = s.receipts;
    later = s.later;
    none_twice = s.none_twice;
  }

  pub still_one : (before after : Known (List H)) → SameSeat before after → HasOneTask before → HasOneTask after
  still_one before after same one = (one.0, same.head ∙ one.1)

  pub asks_of_one : (tasks : List Task) (before after : Known (List H)) (t p : ℕ) (ask : Ask) → AsksOnBoard tasks before t p ask after → AsksOnBoard tasks (of_one before) t p ask (of_one after)
  asks_of_one tasks before after t p ask a = record {
    task = a.task;
    there = a.there;
    journal = a.journal;
    stands = stands_of_one tasks before after a.journal _ a.stands;
    answer = a.answer;
    asked = a.asked;
  }

  pub posts_of_one : (tasks : List Task) (before after : Known (List H)) (t p : ℕ) (qid : Qid) (m : Option Answer) (posted : Posted) → PostsOnBoard tasks before t p qid m posted after → PostsOnBoard tasks (of_one before) t p qid m posted (of_one after)
  posts_of_one tasks before after t p qid m posted a = record {
    task = a.task;
    there = a.there;
    journal = a.journal;
    stands = stands_of_one tasks before after a.journal _ a.stands;
    reply = a.reply;
    receipt = a.receipt;
  }

module _ {N M : Type 0} (ruling : N → Ruling) (says : M → Says) where
  -- the only task is there, with its provers
  pub only_there : (k : Known (List (Opening N M))) (head : Opening N M) (p : ℕ) → k.head ≡ Some (head ∷ []) → 0 < p → p ≤ head.setup.provers → (heads : List (Opening N M)) → k.head ≡ Some heads → IsThere (tasks_of_openings ruling says heads) 1 p
  only_there k head p is some few heads e =
      subst (λ (hs : List (Opening N M)). IsThere (tasks_of_openings ruling says hs) 1 p) (same_Some (head ∷ []) heads (sym is ∙ e)) (task_of ruling says head, refl, some, few)

  pub only_may : (k : Known (List (Opening N M))) (head : Opening N M) (p : ℕ) (qid : Qid) (m : Option Answer) → k.head ≡ Some (head ∷ []) → MayPost (rules_of (ruling head.judge) head.setup) (says head.provers) p qid m → (heads : List (Opening N M)) → k.head ≡ Some heads → MayPostFor (tasks_of_openings ruling says heads) 1 p qid m
  only_may k head p qid m is may heads e =
      subst (λ (hs : List (Opening N M)). MayPostFor (tasks_of_openings ruling says hs) 1 p qid m) (same_Some (head ∷ []) heads (sym is ∙ e))
      (λ j there. subst (λ (i : Task). MayPost i.rules i.says p qid m) (same_Some (task_of ruling says head) j there) may)

  pub only_asks : (before after : Known (List (Opening N M))) (head : Opening N M) (p : ℕ) (ask : Ask) → before.head ≡ Some (head ∷ []) → (heads : List (Opening N M)) → before.head ≡ Some heads → AsksOnBoard (tasks_of_openings ruling says heads) before 1 p ask after →
      AsksOnBoard (task_of ruling says head ∷ []) (of_one before) 1 p ask (of_one after)
  only_asks before after head p ask is heads e a =
      asks_of_one (task_of ruling says head ∷ []) before after 1 p ask (subst (λ (hs : List (Opening N M)). AsksOnBoard (tasks_of_openings ruling says hs) before 1 p ask after) (same_Some heads (head ∷ []) (sym e ∙ is)) a)

  pub only_posts : (before after : Known (List (Opening N M))) (head : Opening N M) (p : ℕ) (qid : Qid) (m : Option Answer) (posted : Posted) → before.head ≡ Some (head ∷ []) → (heads : List (Opening N M)) → before.head ≡ Some heads → PostsOnBoard (tasks_of_openings ruling says heads) before 1 p qid m posted after →
      PostsOnBoard (task_of ruling says head ∷ []) (of_one before) 1 p qid m posted (of_one after)
  only_posts before after head p qid m posted is heads e a =
      posts_of_one (task_of ruling says head ∷ []) before after 1 p qid m posted (subst (λ (hs : List (Opening N M)). PostsOnBoard (tasks_of_openings ruling says hs) before 1 p qid m posted after) (same_Some heads (head ∷ []) (sym e ∙ is)) a)
