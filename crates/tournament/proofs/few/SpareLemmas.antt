-- A legal list of moves is one of posts none of which is stale, so it is no longer than such lists are.
use Rattle.std.proofs.Common.{◌≡◌, false, ℕ, not, if◌then◌else◌, Bool, List, [], ◌∷◌, length, refl, sym, ◌∙◌, ap, arith}
use Rattle.bisect_game.specs.declared.settled.Question.{Question}
use Rattle.bisect_game.specs.Rules.{Rules}
use Rattle.bisect_game.specs.Says.{Says}
use Rattle.tournament.specs.Bracket.{open_question}
use Rattle.tournament.specs.Journals.{turn_on, turns, Legal, LegalListsArePosts}
use Rattle.tournament.specs.Length.{SpareIsEnough}
use Rattle.tournament.specs.Moves.{MatchState, begun, passes_of, settled_by, moved}
use Rattle.tournament.specs.OpenDisputes.{one_if}
use Rattle.tournament.specs.Posting.{Post, posted, posted_on, reply_to, after_posts, is_stale}
use Rattle.tournament.specs.FewPosts.{effective_posts, FewPosts}
use Rattle.tournament.proofs.few.NeverLemmas.{same-qid, open-is-not-stale}

-- as many posts that aren't stale, from this state on, and they come to the same state
record ArePosts (rules : Rules) (says : Says) (ps : List ℕ) (st : MatchState) : Type 0 where
  posts : List Post
  many : effective_posts rules posts st ≡ length ps
  comes : after_posts rules posts st ≡ turns rules says ps st

are-posts : (rules : Rules) (says : Says) (ps : List ℕ) (st : MatchState) → Legal rules says ps st → ArePosts rules says ps st
are-posts rules says [] st legal = record { posts = []; many = refl; comes = refl }
are-posts rules says (p ∷ ps) st legal =
    let q : Question = legal.0.question in
    let m = says p q (passes_of st p) in
    let next : MatchState = moved rules st p (settled_by rules q (passes_of st p) m) in
    let moves : turn_on rules says st p (open_question rules st.record_ p) ≡ next = ap (turn_on rules says st p) legal.0.asked in
    let posts_ : posted rules st p q.qid m ≡ next =
    ap (posted_on rules st p q.qid m) legal.0.asked ∙ ap (λ (b : Bool). if b then next else st) (same-qid q.qid) in
    let fresh : is_stale (reply_to rules st p q.qid m) ≡ false = open-is-not-stale rules st p q m legal.0.asked in
    let one : one_if (not (is_stale (reply_to rules st p q.qid m))) ≡ 1 = rw fresh refl in
    let rest : ArePosts rules says ps next = are-posts rules says ps next (rw moves at legal.1) in
    let same : effective_posts rules rest.posts (posted rules st p q.qid m) ≡ length ps = ap (effective_posts rules rest.posts) posts_ ∙ rest.many in
    record {
      posts = record { prover = p; numbered = legal.0.numbered; qid = q.qid; answer = m } ∷ rest.posts;
      many = omega (arith, one, same);
      comes = ap (after_posts rules rest.posts) posts_ ∙ rest.comes ∙ sym (ap (turns rules says ps) moves);
    }

pub spare-is-enough : FewPosts → SpareIsEnough
spare-is-enough few rules says ps k playable m legal =
    let i : ArePosts rules says ps (begun rules) = are-posts rules says ps (begun rules) legal in
    omega (arith, i.many, few rules i.posts k playable m)

pub legal-lists-are-posts : LegalListsArePosts
legal-lists-are-posts rules says ps legal = let i : ArePosts rules says ps (begun rules) = are-posts rules says ps (begun rules) legal in (i.posts, i.comes)
