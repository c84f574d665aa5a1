-- Every list of posts settles a list that fits what was asked.
use Rattle.std.proofs.Common.{◌≡◌, ℕ, ◌<◌, nat_lt, Bool, true, false, List, [], ◌∷◌, ◌++◌, Option, Some, None, refl, ◌∙◌, ap, if◌then◌else◌}
use Rattle.rd_base.specs.declared.answer.Answer.{Answer}
use Rattle.rd_base.specs.declared.answer.Qid.{Qid}
use Rattle.bisect_game.specs.declared.settled.Kind.{Kind}
use Rattle.bisect_game.specs.declared.settled.Question.{Question}
use Rattle.bisect_game.specs.declared.settled.Settled.{Settled}
use Rattle.bisect_game.specs.declared.settled.Settled.TheVariants.{Given, Faulty, Spent}
use Rattle.bisect_game.specs.Ruling.{Ruling}
use Rattle.bisect_game.specs.Rules.{Rules, is_fit, judged}
use Rattle.bisect_game.specs.Truth.{IsFit}
use Rattle.tournament.specs.Bracket.{Record, open_question, settle, nothing_settled}
use Rattle.tournament.specs.Settling.{after}
use Rattle.tournament.specs.Moves.{MatchState, begun, passes_of, settled_by, moved}
use Rattle.rd_base.specs.Questions.{same_qid}
use Rattle.tournament.specs.Posting.{posted, posted_on, Post, after_posts}
use Rattle.tournament.specs.Fitting.{MaySettle, AllFit, PostsSettle}

pub fit-last : (rules : Rules) (es : List (ℕ × Settled)) (p : ℕ) (s : Settled) (r : Record) → AllFit rules es r → MaySettle rules (after rules es r) p s → AllFit rules (es ++ (p, s) ∷ []) r
fit-last rules [] p s r h is = (is, tt)
fit-last rules (e ∷ es) p s r h is = (h.0, fit-last rules es p s (settle rules e.0 e.1 r) h.1 is)

pub after-last : (rules : Rules) (es : List (ℕ × Settled)) (p : ℕ) (s : Settled) (r : Record) → after rules (es ++ (p, s) ∷ []) r ≡ settle rules p s (after rules es r)
after-last rules [] p s r = refl
after-last rules (e ∷ es) p s r = after-last rules es p s (settle rules e.0 e.1 r)

pub fit-judged : (r : Ruling) (k : Kind) (a : Answer) (b : Bool) → is_fit r k a ≡ b → IsFit r k (if b then Given a else Faulty a)
fit-judged r k a true e = e
fit-judged r k a false e = tt

fit-spent : (r : Ruling) (k : Kind) (s : Settled) (b : Bool) → (if b then None else Some Spent) ≡ Some s → IsFit r k s
fit-spent r k s true e = absurd (cc)
fit-spent r k s false e = let same : Spent ≡ s = cc in rw (← same) tt

fit-settled : (rules : Rules) (q : Question) (n : ℕ) (m : Option Answer) (s : Settled) → settled_by rules q n m ≡ Some s → IsFit rules.ruling q.kind s
fit-settled rules q n (Some a) s e = let same : judged rules.ruling q.kind a ≡ s = cc in rw (← same) (fit-judged rules.ruling q.kind a (is_fit rules.ruling q.kind a) refl)
fit-settled rules q n None s e = fit-spent rules.ruling q.kind s (nat_lt n rules.setup.patience) e

-- a record to which some list that fits comes
pub record IsSettled (rules : Rules) (t : Record) : Type 0 where
  pub list : List (ℕ × Settled)
  pub fit : AllFit rules list (nothing_settled rules)
  pub comes : after rules list (nothing_settled rules) ≡ t

settled-moved : (rules : Rules) (st : MatchState) (p : ℕ) (q : Question) (o : Option Settled) → 0 < p → open_question rules st.record_ p ≡ Some q → ((s : Settled) → o ≡ Some s → IsFit rules.ruling q.kind s) →
    IsSettled rules st.record_ → IsSettled rules (moved rules st p o).record_
settled-moved rules st p q None some asked fits i = i
settled-moved rules st p q (Some s) some asked fits i = record {
  list = i.list ++ (p, s) ∷ [];
  fit = fit-last rules i.list p s (nothing_settled rules) i.fit (record {
    question = q;
    numbered = some;
    asked = ap (λ (r : Record). open_question rules r p) i.comes ∙ asked;
    fits = fits s refl;
  });
  comes = after-last rules i.list p s (nothing_settled rules) ∙ ap (settle rules p s) i.comes;
}

settled-if : (rules : Rules) (st : MatchState) (p : ℕ) (q : Question) (m : Option Answer) (b : Bool) → 0 < p → open_question rules st.record_ p ≡ Some q → IsSettled rules st.record_ →
    IsSettled rules (if b then moved rules st p (settled_by rules q (passes_of st p) m) else st).record_
settled-if rules st p q m true some asked i =
    settled-moved rules st p q (settled_by rules q (passes_of st p) m) some asked (λ s e. fit-settled rules q (passes_of st p) m s e) i
settled-if rules st p q m false some asked i = i

settled-on : (rules : Rules) (st : MatchState) (p : ℕ) (qid : Qid) (m : Option Answer) (o : Option Question) → 0 < p → open_question rules st.record_ p ≡ o → IsSettled rules st.record_ →
    IsSettled rules (posted_on rules st p qid m o).record_
settled-on rules st p qid m None some asked i = i
settled-on rules st p qid m (Some q) some asked i = settled-if rules st p q m (same_qid q.qid qid) some asked i

pub settled-posts : (rules : Rules) (xs : List Post) (st : MatchState) → IsSettled rules st.record_ → IsSettled rules (after_posts rules xs st).record_
settled-posts rules [] st i = i
settled-posts rules (x ∷ xs) st i =
    settled-posts rules xs (posted rules st x.prover x.qid x.answer) (settled-on rules st x.prover x.qid x.answer (open_question rules st.record_ x.prover) x.numbered refl i)

pub settled-begun : (rules : Rules) (xs : List Post) → IsSettled rules (after_posts rules xs (begun rules)).record_
settled-begun rules xs = settled-posts rules xs (begun rules) (record { list = []; fit = tt; comes = refl })

pub posts_settle : PostsSettle
posts_settle rules xs = let i : IsSettled rules (after_posts rules xs (begun rules)).record_ = settled-begun rules xs in (i.list, i.fit, i.comes)
