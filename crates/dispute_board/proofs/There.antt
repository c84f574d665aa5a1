-- A task that is there is that of its book.
use Rattle.std.proofs.Common.{◌≡◌, ℕ, ◌<◌, ◌≤◌, Bool, true, false, if◌then◌else◌, List, length, Option, Some, None, is_none, refl, sym, ap, ◌∙◌, subst, arith}
use Rattle.std.proofs.lemmas.Option.{same_Some}
use Rattle.std.proofs.lemmas.List.{length-map}
use Rattle.bisect_game.specs.Ruling.{Ruling}
use Rattle.bisect_game.specs.Says.{Says, GiveOneAnswer}
use Rattle.board_book.specs.declared.entry.Entry.{Entry}
use Rattle.board_book.specs.Tasks.{Task, task_of, numbered, games_of, IsTaskJournal, entries_of, BookOf, tasks_of_openings, openings, noted_for}
use Rattle.rd_base.specs.declared.answer.Answer.{Answer}
use Rattle.rd_base.specs.declared.answer.Qid.{Qid}
use Rattle.bisect_game.specs.declared.settled.Question.{Question}
use Rattle.tournament.specs.declared.posting.Reply.{Reply}
use Rattle.tournament.specs.declared.posting.Reply.TheVariants.{Stale}
use Rattle.tournament.specs.Bracket.{open_question}
use Rattle.tournament.specs.Moves.{MatchState, passes_of}
use Rattle.rd_base.specs.Questions.{same_qid}
use Rattle.tournament.specs.Posting.{reply_on, reply_to}
use Rattle.bisect_game.specs.Rules.{rules_of}
use Rattle.board_book.specs.declared.entry.Ask.{Ask}
use Rattle.board_book.specs.Entries.{state_after}
use Rattle.dispute_board.specs.declared.turns.Posted.{Posted}
use Rattle.dispute_board.specs.OneHistory.{ask_in, IsThere, MayPostFor, receipt_of, own_state}
use Rattle.dispute_board.specs.Turns.{is_due, reply_in, reply_on_board, undue, AsksTheCase, Asks, Posts}
use Rattle.board_book.specs.Keeping.{NumbersAgree}
use Rattle.dispute_board.proofs.Points.{due_says, same_qid-is}

module _ {N M : Type 0} (ruling : N → Ruling) (says : M → Says) (law : NumbersAgree ruling says) where
  task_there : (bs : List (BookOf N M)) (t : ℕ) (b : BookOf N M) → numbered bs t ≡ Some b → numbered (tasks_of_openings ruling says (openings bs)) t ≡ Some (task_of ruling says b.opening)
  task_there bs t b there = law.opening (openings bs) t b.opening (law.book bs t b there)

  pub task_few : (bs : List (BookOf N M)) (t p : ℕ) → IsThere (tasks_of_openings ruling says (openings bs)) t p → (0 < t) × (t ≤ length bs)
  task_few bs t p there =
      let within = law.task (openings bs) t there.0 there.1 in
      (within.0, subst (λ (n : ℕ). t ≤ n) (length-map bs (λ (b : BookOf N M). b.opening)) within.1)

  pub provers_few : (bs : List (BookOf N M)) (t p : ℕ) (b : BookOf N M) → IsThere (tasks_of_openings ruling says (openings bs)) t p → numbered bs t ≡ Some b → p ≤ b.opening.setup.provers
  provers_few bs t p b there e =
      let is : b.opening.setup.provers ≡ there.0.rules.setup.provers = ap (λ (k : Task). k.rules.setup.provers) (same_Some (task_of ruling says b.opening) there.0 (sym (task_there bs t b e) ∙ there.1)) in
      let few : p ≤ there.0.rules.setup.provers = there.3 in
      omega (arith, is, few)

-- what a turn does, from what the task's book does

module _ {N M : Type 0} (ruling : N → Ruling) (says : M → Says) (law : NumbersAgree ruling says) where
  -- the task's own entries come to the state of its book
  own_is : (bs : List (BookOf N M)) (journal : List (ℕ × Entry)) (t : ℕ) (b : BookOf N M) → entries_of t journal ≡ b.journal → state_after (rules_of (ruling b.opening.judge) b.opening.setup) (says b.opening.provers) b.journal ≡ b.game →
      own_state (task_of ruling says b.opening) t journal ≡ b.game
  own_is bs journal t b own state = ap (state_after (rules_of (ruling b.opening.judge) b.opening.setup) (says b.opening.provers)) own ∙ state

  pub asks_task : (bs : List (BookOf N M)) (journal : List (ℕ × Entry)) (t p : ℕ) (b : BookOf N M) (a : Ask) → numbered bs t ≡ Some b → 0 < p → IsTaskJournal journal (games_of (tasks_of_openings ruling says (openings bs))) → entries_of t journal ≡ b.journal →
      state_after (rules_of (ruling b.opening.judge) b.opening.setup) (says b.opening.provers) b.journal ≡ b.game → a ≡ ask_in (rules_of (ruling b.opening.judge) b.opening.setup) b.game p → AsksTheCase (rules_of (ruling b.opening.judge) b.opening.setup) (says b.opening.provers) b.game p → Asks (tasks_of_openings ruling says (openings bs)) journal t p a
  asks_task bs journal t p b a there some legal own state is case =
      let k : Task = task_of ruling says b.opening in
      let same : b.game ≡ own_state k t journal = sym (own_is bs journal t b own state) in
      record {
        task = k;
        there = task_there ruling says law bs t b there;
        legal = legal;
        answer = is ∙ ap (λ (s : MatchState). ask_in k.rules s p) same;
        asked = subst (λ (s : MatchState). AsksTheCase k.rules k.says s p) same case;
      }

  pub posts_task : (bs : List (BookOf N M)) (journal left : List (ℕ × Entry)) (t p : ℕ) (qid : Qid) (m : Option Answer) (posted : Posted) (b : BookOf N M) → numbered bs t ≡ Some b → GiveOneAnswer (says b.opening.provers) → IsTaskJournal journal (games_of (tasks_of_openings ruling says (openings bs))) →
      IsTaskJournal left (games_of (tasks_of_openings ruling says (openings bs))) → entries_of t journal ≡ b.journal → state_after (rules_of (ruling b.opening.judge) b.opening.setup) (says b.opening.provers) b.journal ≡ b.game → posted.reply ≡ reply_in (rules_of (ruling b.opening.judge) b.opening.setup) (says b.opening.provers) b.game p qid m →
      left ≡ noted_for t journal (record { p = p; qid = qid; pass = is_none m; reply = posted.reply }) → posted.receipt ≡ receipt_of posted.reply (length journal) → AsksTheCase (rules_of (ruling b.opening.judge) b.opening.setup) (says b.opening.provers) b.game p →
      Posts (tasks_of_openings ruling says (openings bs)) journal t p qid m posted left
  posts_task bs journal left t p qid m posted b there one legal legal_after own state is notes receipt case =
      let k : Task = task_of ruling says b.opening in
      let same : b.game ≡ own_state k t journal = sym (own_is bs journal t b own state) in
      record {
        task = k;
        there = task_there ruling says law bs t b there;
        one_answer = one;
        legal = legal;
        legal_after = legal_after;
        reply = is ∙ ap (λ (s : MatchState). reply_in k.rules k.says s p qid m) same;
        notes = notes;
        receipt = receipt;
        asked = subst (λ (s : MatchState). AsksTheCase k.rules k.says s p) same case;
      }

  -- a move that may be posted and is due is what the prover says
  pub says_due : (bs : List (BookOf N M)) (t p : ℕ) (qid : Qid) (m : Option Answer) (b x : BookOf N M) → GiveOneAnswer (says b.opening.provers) → numbered bs t ≡ Some b → numbered bs t ≡ Some x → MayPostFor (tasks_of_openings ruling says (openings bs)) t p qid m →
      AsksTheCase (rules_of (ruling b.opening.judge) b.opening.setup) (says b.opening.provers) b.game p → undue (says b.opening.provers) b.game p m (open_question (rules_of (ruling b.opening.judge) b.opening.setup) b.game.record_ p) ≡ None →
      (q : Question) → open_question (rules_of (ruling x.opening.judge) x.opening.setup) x.game.record_ p ≡ Some q → same_qid q.qid qid ≡ true → m ≡ says x.opening.provers p q (passes_of x.game p)
  says_due bs t p qid m b x one there here may case due =
      subst (λ (y : BookOf N M). (q : Question) → open_question (rules_of (ruling y.opening.judge) y.opening.setup) y.game.record_ p ≡ Some q → same_qid q.qid qid ≡ true → m ≡ says y.opening.provers p q (passes_of y.game p)) (same_Some b x (sym there ∙ here))
      (λ q shown same.
      due_says (says b.opening.provers) b.game p m q one (due_if (is_due (says b.opening.provers) b.game p m q) q (sym (ap (undue (says b.opening.provers) b.game p m) shown) ∙ due)) (may (task_of ruling says b.opening) (task_there ruling says law bs t b there) q (same_qid-is q.qid qid same) (case q shown)))
    where
      due_if : (c : Bool) (r : Question) → (if c then None else Some r.qid) ≡ None → c ≡ true
      due_if true r e = refl
      due_if false r e = absurd (cc)

module _ {N M : Type 0} (ruling : N → Ruling) (says : M → Says) where
  -- the reply where the move is due
  due_on : (b : BookOf N M) (p : ℕ) (qid : Qid) (m : Option Answer) (o : Option Question) → (o ≡ None → reply_to (rules_of (ruling b.opening.judge) b.opening.setup) b.game p qid m ≡ Stale None) → undue (says b.opening.provers) b.game p m o ≡ None →
      reply_to (rules_of (ruling b.opening.judge) b.opening.setup) b.game p qid m ≡ reply_on_board (rules_of (ruling b.opening.judge) b.opening.setup) (says b.opening.provers) b.game p qid m o
  due_on b p qid m None none e = none refl
  due_on b p qid m (Some q) none e = due_reply (is_due (says b.opening.provers) b.game p m q) (reply_to (rules_of (ruling b.opening.judge) b.opening.setup) b.game p qid m) q e
    where
      due_reply : (c : Bool) (r : Reply) (q : Question) → (if c then None else Some q.qid) ≡ None → r ≡ (if c then r else Stale (Some q.qid))
      due_reply true r q e = refl
      due_reply false r q e = absurd (cc)

  pub reply_due : (b x : BookOf N M) (p : ℕ) (qid : Qid) (m : Option Answer) (r : Reply) → b ≡ x → r ≡ reply_to (rules_of (ruling x.opening.judge) x.opening.setup) x.game p qid m → undue (says b.opening.provers) b.game p m (open_question (rules_of (ruling b.opening.judge) b.opening.setup) b.game.record_ p) ≡ None →
      r ≡ reply_in (rules_of (ruling b.opening.judge) b.opening.setup) (says b.opening.provers) b.game p qid m
  reply_due b x p qid m r same is e =
      is ∙ (ap (λ (y : BookOf N M). reply_to (rules_of (ruling y.opening.judge) y.opening.setup) y.game p qid m) (sym same)
      ∙ due_on b p qid m (open_question (rules_of (ruling b.opening.judge) b.opening.setup) b.game.record_ p) (λ none. ap (reply_on (rules_of (ruling b.opening.judge) b.opening.setup) b.game p qid m) none) e)

  -- where it isn't due the reply is stale with the open question
  pub reply_undue : (b : BookOf N M) (p : ℕ) (qid number : Qid) (m : Option Answer) (o : Option Question) → undue (says b.opening.provers) b.game p m o ≡ Some number → Stale (Some number) ≡ reply_on_board (rules_of (ruling b.opening.judge) b.opening.setup) (says b.opening.provers) b.game p qid m o
  reply_undue b p qid number m None e = absurd (cc)
  reply_undue b p qid number m (Some q) e = stale_reply (is_due (says b.opening.provers) b.game p m q) (reply_to (rules_of (ruling b.opening.judge) b.opening.setup) b.game p qid m) q e
    where
      stale_reply : (c : Bool) (r : Reply) (q : Question) → (if c then None else Some q.qid) ≡ Some number → Stale (Some number) ≡ (if c then r else Stale (Some q.qid))
      stale_reply true r q e = absurd (cc)
      stale_reply false r q e = ap Stale (sym e)
