-- A prover whose moves are true has only true answers, whatever others post.
use Rattle.std.proofs.Common.{◌≡◌, ℕ, ◌-◌, ◌<◌, nat_lt, Bool, true, false, if◌then◌else◌, List, [], ◌∷◌, inl, Option, Some, None, refl, arith}
use Rattle.std.proofs.lemmas.Bool.Decides.{nat_tests}
use Rattle.rd_base.specs.declared.answer.Answer.{Answer}
use Rattle.rd_base.specs.declared.answer.Qid.{Qid}
use Rattle.bisect_game.specs.declared.settled.Question.{Question}
use Rattle.bisect_game.specs.declared.settled.Settled.{Settled}
use Rattle.bisect_game.specs.declared.settled.Settled.TheVariants.{Spent}
use Rattle.bisect_game.specs.Rules.{Rules, judged}
use Rattle.bisect_game.specs.Truth.{Truth, IsTrueSettled}
use Rattle.bisect_game.specs.Laws.{BisectionLaws}
use Rattle.tournament.specs.Bracket.{open_question}
use Rattle.tournament.specs.Moves.{MatchState, begun, passes_of, settled_by, moved}
use Rattle.rd_base.specs.Questions.{same_qid}
use Rattle.tournament.specs.Posting.{posted, posted_on, Post, after_posts, record_after}
use Rattle.tournament.specs.Theorem.{AreTrue, Stays}
use Rattle.tournament.specs.Lies.{PostsOfARun}
use Rattle.tournament.specs.TrueMoves.{IsTrueMove, MovesTruly, TrueMovesAreTrueAnswers, TrueMovesAreSafe}
use Rattle.tournament.proofs.safety.LiveLemmas.{live-contains}
use Rattle.tournament.proofs.safety.MatchLemmas.{claim-there}
use Rattle.tournament.proofs.safety.TheoremLemmas.{truthful_stay, verdict_is_right}
use Rattle.tournament.proofs.safety.TruthfulLemmas.{true-settle, judged-true, none-yet}

none-spent : (s : Settled) (b : Bool) → b ≡ true → (if b then None else Some Spent) ≡ Some s → ⊥
none-spent s true within e = absurd (cc)
none-spent s false within e = absurd (cc)

module _ (laws : BisectionLaws) where
  -- what a true move settles is given and true
  move-settles : (rules : Rules) (t : Truth) (q : Question) (passes : ℕ) (m : Option Answer) (s : Settled) → rules.ruling.is_sound t.claim ≡ true → IsTrueMove rules t q passes m → settled_by rules q passes m ≡ Some s → IsTrueSettled t q.kind s
  move-settles rules t q passes (Some a) s sound is e =
      let same : judged rules.ruling q.kind a ≡ s = cc in
      rw (← same) (judged-true laws.fits rules.ruling t q.kind a sound is)
  move-settles rules t q passes None s sound is e =
      let yes : nat_lt passes rules.setup.patience ≡ true = grind (arith, nat_tests) in
      absurd (none-spent s (nat_lt passes rules.setup.patience) yes e)

  moved-true : (rules : Rules) (t : Truth) (p other : ℕ) (q : Question) (o : Option Settled) (st : MatchState) → 0 < p → 0 < other → open_question rules st.record_ other ≡ Some q →
      ((s : Settled) → o ≡ Some s → other ≡ p → IsTrueSettled t q.kind s) → AreTrue rules t p st.record_ → AreTrue rules t p (moved rules st other o).record_
  moved-true rules t p other q None st some far asked own h = h
  moved-true rules t p other q (Some s) st some far asked own h = true-settle rules t p other s q st.record_ some far asked (own s refl) h

  posted-if : (rules : Rules) (t : Truth) (p other : ℕ) (q : Question) (m : Option Answer) (st : MatchState) (b : Bool) → rules.ruling.is_sound t.claim ≡ true → 0 < p → 0 < other → open_question rules st.record_ other ≡ Some q →
      (b ≡ true → other ≡ p → IsTrueMove rules t q (passes_of st other) m) → AreTrue rules t p st.record_ →
      AreTrue rules t p (if b then moved rules st other (settled_by rules q (passes_of st other) m) else st).record_
  posted-if rules t p other q m st true sound some far asked own h =
      moved-true rules t p other q (settled_by rules q (passes_of st other) m) st some far asked (λ s e mine. move-settles rules t q (passes_of st other) m s sound (own refl mine) e) h
  posted-if rules t p other q m st false sound some far asked own h = h

  posted-by : (rules : Rules) (t : Truth) (p other : ℕ) (qid : Qid) (m : Option Answer) (st : MatchState) (o : Option Question) → rules.ruling.is_sound t.claim ≡ true → 0 < p → 0 < other → open_question rules st.record_ other ≡ o →
      ((q : Question) → other ≡ p → open_question rules st.record_ p ≡ Some q → same_qid q.qid qid ≡ true → IsTrueMove rules t q (passes_of st p) m) → AreTrue rules t p st.record_ →
      AreTrue rules t p (posted_on rules st other qid m o).record_
  posted-by rules t p other qid m st None sound some far asked own h = h
  posted-by rules t p other qid m st (Some q) sound some far asked own h =
      posted-if rules t p other q m st (same_qid q.qid qid) sound some far asked (λ e mine. rw mine (own q mine (rw mine at asked) e)) h

  posts-true : (rules : Rules) (t : Truth) (p : ℕ) (xs : List Post) (st : MatchState) → rules.ruling.is_sound t.claim ≡ true → 0 < p → MovesTruly rules t p st xs → AreTrue rules t p st.record_ → AreTrue rules t p (after_posts rules xs st).record_
  posts-true rules t p [] st sound some own h = h
  posts-true rules t p (x ∷ xs) st sound some own h =
      posts-true rules t p xs (posted rules st x.prover x.qid x.answer) sound some own.1
      (posted-by rules t p x.prover x.qid x.answer st (open_question rules st.record_ x.prover) sound some x.numbered refl own.0 h)

  pub posts-of-a-run : PostsOfARun
  posts-of-a-run rules t xs p sound some within own =
      posts-true rules t p xs (begun rules) sound some own (record { claim = inl (none-yet rules.setup.provers (p - 1) None (omega (arith, some, within))); disputes = tt })

  pub true_moves_are_true_answers : TrueMovesAreTrueAnswers
  true_moves_are_true_answers rules t xs p run some within own = posts-of-a-run rules t xs p run.sound some within own

  pub true_moves_are_safe : TrueMovesAreSafe
  true_moves_are_safe rules t xs p playable fair run some within own =
      let answers : AreTrue rules t p (record_after rules xs) = true_moves_are_true_answers rules t xs p run some within own in
      let stays : Stays rules t p (record_after rules xs) = (truthful_stay laws) rules t xs p playable fair run some answers in
      record {
        answers = answers;
        stays = stays;
        live_at_end = λ c. live-contains t p (record_after rules xs) some ((claim-there laws) t p (record_after rules xs) c answers.claim) stays.not_out;
        verdict = λ c. (verdict_is_right laws) rules t xs p playable fair run some answers c;
      }
