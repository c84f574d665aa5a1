-- What is asked and answered at a point of the journal.
use Rattle.std.proofs.Common.{◌≡◌, ℕ, ◌<◌, ◌==◌, Bool, true, false, not, if◌then◌else◌, List, [], ◌∷◌, ◌++◌, length, Option, Some, None, is_none, refl, sym, ap, ap₂, ◌∙◌, subst, arith, All}
use Rattle.std.proofs.lemmas.Bool.Decides.{nat_tests}
use Rattle.std.proofs.lemmas.List.{length-map}
use Rattle.std.proofs.lemmas.Option.{same_Some}
use Rattle.std.proofs.lemmas.Bool.{and_parts}
use mathlib.Core.List.{map-append}
use Rattle.rd_base.specs.declared.answer.Answer.{Answer}
use Rattle.rd_base.specs.declared.answer.Qid.{Qid}
use Rattle.bisect_game.specs.declared.settled.Kind.{Kind}
use Rattle.bisect_game.specs.declared.settled.Question.{Question}
use Rattle.bisect_game.specs.Says.{Says, GiveOneAnswer}
use Rattle.bisect_game.specs.Rules.{Rules}
use Rattle.tournament.specs.declared.posting.Reply.{Reply}
use Rattle.tournament.specs.declared.posting.Reply.TheVariants.{Stale}
use Rattle.tournament.specs.Asked.{asked}
use Rattle.tournament.specs.Bracket.{open_question, is_complete, bracket}
use Rattle.tournament.specs.Journals.{answers_of}
use Rattle.tournament.specs.Moves.{MatchState, passes_of, settled_by}
use Rattle.rd_base.specs.Questions.{same_qid}
use Rattle.tournament.specs.Posting.{reply_by, reply_on, reply_to, is_stale}
use Rattle.board_book.specs.declared.entry.Entry.{Entry}
use Rattle.board_book.specs.declared.entry.Ask.{Ask}
use Rattle.board_book.specs.declared.entry.Ask.TheVariants as ask
use Rattle.board_book.specs.Entries.{ask_on}
use Rattle.board_book.specs.Tasks.{Task, games_of, IsTaskJournal, noted_for}
use Rattle.seat_lock.specs.History.{Turn, Begins, log_of, with_receipt}
use Rattle.seat_lock.specs.Seats.{Known}
use Rattle.seat_lock.specs.Turned.{Turned}
use Rattle.dispute_board.specs.declared.turns.Posted.{Posted}
use Rattle.dispute_board.specs.OneHistory.{numbers_of, log_of_journal, with_entry, turn_of, MayPost, MayPostFor, IsOfTheCase, IsReply, SaidMayBePosted, IsTurnAt, AsksOnBoard, PostsOnBoard, entry_unless_stale, own_state}
use Rattle.dispute_board.specs.Turns.{is_due, reply_on_board, reply_in, AsksTheCase, Asks, Posts}

-- what an answer of the board tells of the open question

abbrev question_of : Ask → Option Question
question_of (ask.Question q n) = Some q
question_of ask.Nothing = None
question_of ask.Over = None

none_told : (b : Bool) → question_of (if b then ask.Over else ask.Nothing) ≡ None
none_told true = refl
none_told false = refl

question_told : (st : MatchState) (p : ℕ) (o : Option Question) → question_of (ask_on st p o) ≡ o
question_told st p (Some q) = refl
question_told st p None = none_told (is_complete st.record_)

pub open_is : (st : MatchState) (p : ℕ) (o : Option Question) (q : Question) (n : ℕ) → ask_on st p o ≡ ask.Question q n → o ≡ Some q
open_is st p o q n e = sym (question_told st p o) ∙ ap question_of e

-- a move that is due

is-eq : (m n : ℕ) → (m == n) ≡ true → m ≡ n
is-eq m n e = grind (arith, nat_tests)

alike : (a b : Bool) → (if a then b else not b) ≡ true → b ≡ a
alike true b e = e
alike false true e = absurd (cc)
alike false false e = refl

alike-back : (a b : Bool) → b ≡ a → (if a then b else not b) ≡ true
alike-back true b e = e
alike-back false true e = absurd (cc)
alike-back false false e = refl

-- to one question a prover gives one answer, so that two moves on it that are both passes, or both answers, are one
same_said : (says : Says) (p : ℕ) (q : Question) (n k : ℕ) (m o : Option Answer) → GiveOneAnswer says → m ≡ says p q n → o ≡ says p q k → is_none o ≡ is_none m → m ≡ o
same_said says p q n k None None one em eo alike_ = refl
same_said says p q n k None (Some b) one em eo alike_ = absurd (cc)
same_said says p q n k (Some a) None one em eo alike_ = absurd (cc)
same_said says p q n k (Some a) (Some b) one em eo alike_ = ap Some (one p q n k a b (sym em) (sym eo))

pub due_says : (says : Says) (st : MatchState) (p : ℕ) (m : Option Answer) (q : Question) → GiveOneAnswer says → is_due says st p m q ≡ true → (n : ℕ) × (m ≡ says p q n) → m ≡ says p q (passes_of st p)
due_says says st p m q one due on =
    same_said says p q on.0 (passes_of st p) m (says p q (passes_of st p)) one on.1 refl (alike (is_none m) (is_none (says p q (passes_of st p))) due)

pub same_qid-is : (a b : Qid) → same_qid a b ≡ true → a ≡ b
same_qid-is a b e =
    let two : ((a.dispute == b.dispute) ≡ true) × ((a.round == b.round) ≡ true) = and_parts _ _ e in
    let d : a.dispute ≡ b.dispute = is-eq a.dispute b.dispute two.0 in
    let n : a.round ≡ b.round = is-eq a.round b.round two.1 in
    rw (d, n) refl

-- the reply in the provers' own words

other_if : (b : Bool) (r : Reply) (qid : Qid) → (b ≡ true → ⊥) → (if b then r else Stale (Some qid)) ≡ Stale (Some qid)
other_if true r qid never = absurd (never refl)
other_if false r qid _ = refl

unsaid_if : (b : Bool) (r : Reply) (qid : Qid) → (b ≡ true → r ≡ Stale (Some qid)) → (if b then r else Stale (Some qid)) ≡ Stale (Some qid)
unsaid_if true r qid f = f refl
unsaid_if false r qid _ = refl

pub is_reply : (rules : Rules) (says : Says) (st : MatchState) (p : ℕ) (qid : Qid) (m : Option Answer) (r : Reply) → GiveOneAnswer says → MayPost rules says p qid m → AsksTheCase rules says st p →
    r ≡ reply_in rules says st p qid m → IsReply rules says st p qid m r
is_reply rules says st p qid m r one may case is = record {
  said = λ q shown say. is ∙ ap (reply_on_board rules says st p qid m) shown
      ∙ ap (λ (b : Bool). if b then reply_to rules st p qid m else Stale (Some q.qid)) (alike-back (is_none m) (is_none (says p q (passes_of st p))) (ap is_none (sym say)));
  unsaid = λ q shown never. is ∙ ap (reply_on_board rules says st p qid m) shown
      ∙ unsaid_if (is_due says st p m q) (reply_to rules st p qid m) q.qid (λ due. ap (reply_on rules st p qid m) shown
      ∙ other_if (same_qid q.qid qid) (reply_by (settled_by rules q (passes_of st p) m)) q.qid (λ same. never (due_says says st p m q one due (may q (same_qid-is q.qid qid same) (case q shown)))));
  unasked = λ shown. is ∙ ap (reply_on_board rules says st p qid m) shown;
}

-- entries that are added

noted_if : (b : Bool) (xs : List (ℕ × Entry)) (x : ℕ × Entry) → with_entry xs (if b then None else Some x) ≡ (if b then xs else xs ++ x ∷ [])
noted_if true xs x = refl
noted_if false xs x = refl

pub noted_is : (t : ℕ) (xs : List (ℕ × Entry)) (e : Entry) → with_entry xs (entry_unless_stale t e) ≡ noted_for t xs e
noted_is t xs e = noted_if (is_stale e.reply) xs (t, e)

pub log_with : (xs : List (ℕ × Entry)) (x : ℕ × Entry) → log_of_journal (xs ++ x ∷ []) ≡ log_of_journal xs ++ numbers_of x ∷ []
log_with xs x = map-append numbers_of xs (x ∷ [])

-- a turn of a seat, where it stands

module _ {T H : Type 0} (head : T → H) (log : T → List (List ℕ)) where
  pub stands : (tasks : List Task) (before after : Known H) (x y : T) (es left : List (ℕ × Entry)) (added : Option (ℕ × Entry)) → Turned {T = T} head log before x y after → log x ≡ log_of_journal es → log y ≡ log_of_journal left → left ≡ with_entry es added →
      IsTaskJournal es (games_of tasks) → IsTaskJournal left (games_of tasks) → IsTurnAt tasks before es added after
  stands tasks before after x y es left added t ex ey is legal legal_after =
      let long : length (log x) ≡ length es = ap length ex ∙ length-map es numbers_of in
      let turn : t.turn ≡ turn_of added = which added (ey ∙ ap log_of_journal is) in
      record {
        legal = legal;
        legal_after = subst (λ l. IsTaskJournal l (games_of tasks)) is legal_after;
        saw = subst (λ l. Begins (log_of before.seen) l) ex t.saw_log;
        saw_joined = subst (λ l. All (λ seen. Begins (log_of seen) l) before.joined) ex t.saw_joined_logs;
        sees = ap log_of t.sees ∙ sym t.log_left ∙ ey ∙ ap log_of_journal is;
        none_joined = t.none_joined;
        same = t.same;
        one = t.one;
        receipts = t.receipts ∙ ap₂ (λ (u : Turn) (n : ℕ). with_receipt u n before.receipts) turn long;
        later = subst (λ (n : ℕ). All (λ place. place < n) before.receipts) long t.later;
        none_twice = t.none_twice;
      }
    where
      which : (added : Option (ℕ × Entry)) → log y ≡ log_of_journal (with_entry es added) → t.turn ≡ turn_of added
      which None e = t.idle (e ∙ sym ex)
      which (Some a) e = t.adds (numbers_of a) (e ∙ log_with es a ∙ ap (λ l. l ++ numbers_of a ∷ []) (sym ex))

-- what a turn did to the books, where it stands

module _ {T H : Type 0} (head : T → H) (log : T → List (List ℕ)) (journal : T → List (ℕ × Entry)) (logged : (t : T) → log t ≡ log_of_journal (journal t)) where
  pub asks_on_board : (tasks : List Task) (before after : Known H) (x y : T) (t p : ℕ) (a : Ask) → Turned {T = T} head log before x y after → y ≡ x → Asks tasks (journal x) t p a → AsksOnBoard tasks before t p a after
  asks_on_board tasks before after x y t p a turn same asks =
      let st : MatchState = own_state asks.task t (journal x) in
      record {
        task = asks.task;
        there = asks.there;
        journal = journal x;
        stands = stands head log tasks before after x y (journal x) (journal y) None turn (logged x) (logged y) (ap journal same) asks.legal (subst (λ l. IsTaskJournal l (games_of tasks)) (sym (ap journal same)) asks.legal);
        answer = asks.answer;
        asked = λ q n is. asks.asked q (open_is st p (open_question asks.task.rules st.record_ p) q n (sym asks.answer ∙ is));
      }

  pub posts_on_board : (tasks : List Task) (before after : Known H) (x y : T) (t p : ℕ) (qid : Qid) (m : Option Answer) (posted : Posted) → Turned {T = T} head log before x y after →
      Posts tasks (journal x) t p qid m posted (journal y) → MayPostFor tasks t p qid m → PostsOnBoard tasks before t p qid m posted after
  posts_on_board tasks before after x y t p qid m posted turn posts may =
      let e : Entry = record { p = p; qid = qid; pass = is_none m; reply = posted.reply } in
      record {
        task = posts.task;
        there = posts.there;
        journal = journal x;
        stands = stands head log tasks before after x y (journal x) (journal y) (entry_unless_stale t e) turn (logged x) (logged y) (posts.notes ∙ sym (noted_is t (journal x) e)) posts.legal posts.legal_after;
        reply = is_reply posts.task.rules posts.task.says (own_state posts.task t (journal x)) p qid m posted.reply posts.one_answer (may posts.task posts.there) posts.asked posts.reply;
        receipt = posts.receipt;
      }

-- what may be posted

same_question : (a b : Question) → a.qid ≡ b.qid → a.kind ≡ b.kind → a ≡ b
same_question a b q k = ap₂ (λ (i : Qid) (j : Kind). record { qid = i; kind = j }) q k

may_post : (rules : Rules) (says : Says) (p : ℕ) (q : Question) (n : ℕ) (m : Option Answer) → IsOfTheCase rules says p q → m ≡ says p q n → MayPost rules says p q.qid m
may_post rules says p q n m of_case said r same also =
    (n, said ∙ ap (λ (x : Question). says p x n) (same_question q r (sym same) (same_Some q.kind r.kind (sym of_case ∙ subst (λ (i : Qid). asked rules (bracket rules (answers_of rules says)) p i ≡ Some r.kind) same also))))

pub said_may_be_posted : SaidMayBePosted
said_may_be_posted tasks t p task q n m there of_case said k also =
    subst (λ (j : Task). MayPost j.rules j.says p q.qid m) (same_Some task k (sym there ∙ also)) (may_post task.rules task.says p q n m of_case said)
