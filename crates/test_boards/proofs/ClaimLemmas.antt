-- Seats of players, and what these may post.
use Rattle.board_book.specs.declared.book.Opening.{Opening}
use Rattle.std.proofs.Common.{◌≡◌, ℕ, ◌≤◌, Option, Some, None, sym, ap, ap₂, ◌∙◌, subst}
use Rattle.rd_base.specs.declared.answer.Answer.{Answer}
use Rattle.rd_base.specs.declared.answer.Qid.{Qid}
use Rattle.bisect_game.specs.declared.settled.Kind.{Kind}
use Rattle.bisect_game.specs.declared.settled.Kind.TheVariants as kind
use Rattle.bisect_game.specs.declared.settled.Question.{Question}
use Rattle.bisect_game.specs.Says.{Says}
use Rattle.bisect_game.specs.Rules.{Rules}
use Rattle.tournament.specs.Bracket.{bracket}
use Rattle.bisect_game.specs.Rules.{claim_question}
use Rattle.tournament.specs.Journals.{answers_of}
use Rattle.tournament.specs.Asked.{asked}
use Rattle.dispute_board.specs.OneHistory.{MayPost}
use Rattle.toy_game.specs.Toy.{answers}
use Rattle.toy_game.specs.declared.player.Player.{Player}
use Rattle.toy_game.specs.declared.cast.Cast.{Cast}
use Rattle.seat_lock.specs.Seats.{LockId, Known}
use Rattle.seat_lock.specs.Turned.{SameSeat}
use Rattle.test_boards.specs.Seats.{opening_of, IsSeatOfTwo}

pub some_is : {A : Type 0} (a b : A) → Some a ≡ Some b → a ≡ b
some_is {A} a b e = ap (λ (o : Option A). elim o [ None ↦ a | Some x ↦ x ]) e

-- there are two provers
pub has_prover : (board : LockId) (cast : Cast) (k : Known (Opening ℕ Cast)) (p : ℕ) → IsSeatOfTwo board cast k → p ≤ 2 → (head : Opening ℕ Cast) × (k.head ≡ Some head) × (p ≤ head.setup.provers)
has_prover board cast k p s few = (opening_of s.judge cast s.setup, s.head, subst (λ (n : ℕ). p ≤ n) (sym s.two) few)

-- a seat that has seen more is still one of the two
pub still_two : (board : LockId) (cast : Cast) (k after : Known (Opening ℕ Cast)) → SameSeat k after → IsSeatOfTwo board cast k → IsSeatOfTwo board cast after
still_two board cast k after same s = record { judge = s.judge; setup = s.setup; lock = same.lock ∙ s.lock; head = same.head ∙ s.head; two = s.two }

pub same_opening : (board : LockId) (cast : Cast) (k : Known (Opening ℕ Cast)) (head : Opening ℕ Cast) → (s : IsSeatOfTwo board cast k) → k.head ≡ Some head → opening_of s.judge cast s.setup ≡ head
same_opening board cast k head s e = some_is (opening_of s.judge cast s.setup) head (sym s.head ∙ e)

same_question : (a b : Question) → a.qid ≡ b.qid → a.kind ≡ b.kind → a ≡ b
same_question a b q k = ap₂ (λ (i : Qid) (j : Kind). record { qid = i; kind = j }) q k

-- what a player says to the question for its claim may be posted
pub claims_may : (rules : Rules) (says : Says) (p : ℕ) (player : Player) (m : Option Answer) (n : ℕ) → says p ≡ answers player → m ≡ answers player claim_question n → MayPost rules says p claim_question.qid m
claims_may rules says p player m n same said q number of_case =
    let claim : claim_question ≡ q = same_question claim_question q (sym number) (some_is kind.Claim q.kind (sym (ap (asked rules (bracket rules (answers_of rules says)) p) number) ∙ of_case)) in
    (n, said ∙ ap (λ (x : Question). answers player x n) claim ∙ ap (λ (f : Question → ℕ → Option Answer). f q n) (sym same))
