-- A move as its prover says settles what is settled of its question.
use Rattle.std.proofs.Common.{◌≡◌, ◌≢◌, ℕ, zero, suc, ◌+◌, ◌-◌, ◌<◌, ◌≤◌, nat_lt, Bool, true, false, ◌==◌, if◌then◌else◌, List, [], ◌∷◌, replicate, length, slice_index, slice_set, ◌⊎◌, inl, inr, Option, Some, None, refl, sym, ◌∙◌, ap, subst, arith}
use Rattle.std.proofs.lemmas.Bool.Decides.{nat_tests}
use Rattle.std.proofs.lemmas.Bool.{cases_Bool}
use Rattle.bisect_game.specs.declared.settled.Question.{Question}
use Rattle.rd_base.specs.declared.answer.Answer.{Answer}
use Rattle.bisect_game.specs.declared.settled.Settled.{Settled}
use Rattle.bisect_game.specs.declared.settled.Settled.TheVariants.{Spent}
use Rattle.bisect_game.specs.Rules.{Rules}
use Rattle.bisect_game.specs.Says.{Says}
use Rattle.tournament.proofs.OnceLemmas.{IsApart, is-eqb, apart-nothing, apart-settle, stays-asked}
use Rattle.tournament.proofs.ReachLemmas.{reach_back, reach_one}
use Rattle.tournament.proofs.StageLemmas.{IsPlayed, played-settle, steps-settle, Ends, complete-fixed, played-nothing}
use Rattle.tournament.specs.Bracket.{Record, open_question, settle, stage_over, nothing_settled, is_complete}
use Rattle.tournament.specs.Journals.{turn, turn_on, turns, Legal, said, settled_after, answers_of, OrderDoesNotMatter}
use Rattle.tournament.specs.Moves.{MatchState, begun, passes_of, settled_by, moved}
use Rattle.bisect_game.specs.Laws.{BisectionLaws}

-- so many passes on a question, and what is settled of it is still to come
pub record IsCount (rules : Rules) (says : Says) (p : ℕ) (q : Question) (n : ℕ) : Type 0 where
  pub few : n ≤ rules.setup.patience
  pub rest : settled_after rules says p q (rules.setup.patience - n) n ≡ settled_after rules says p q rules.setup.patience 0

-- a prover has passed on no question, or so often on its open one
abbrev pub IsCountIn : Rules → Says → MatchState → ℕ → Type 0
IsCountIn rules says st p = (passes_of st p ≡ 0) ⊎ ((q : Question) × (open_question rules st.record_ p ≡ Some q) × IsCount rules says p q (passes_of st p))

pub record AreCounts (rules : Rules) (says : Says) (st : MatchState) : Type 0 where
  pub counts : (p : ℕ) → 0 < p → IsCountIn rules says st p
  pub apart : (p : ℕ) → IsApart rules p st.record_

-- a turn counts a pass, or settles what is settled of the question
pub data Turned (rules : Rules) (says : Says) (st : MatchState) (p : ℕ) (q : Question) (u : MatchState) : Type 0 where
  Passed : u.record_ ≡ st.record_ → AreCounts rules says u → Turned rules says st p q u
  Settles : (s : Settled) → u.record_ ≡ settle rules p s st.record_ → AreCounts rules says u → answers_of rules says p q ≡ Some s → Turned rules says st p q u

module _ (laws : BisectionLaws) where
  eqb-same : (n : ℕ) → (n == n) ≡ true
  eqb-same n = grind (arith, nat_tests)

  no-passes : (rules : Rules) (says : Says) (p : ℕ) (q : Question) → IsCount rules says p q 0
  no-passes rules says p q = record { few = omega arith; rest = ap (λ (n : ℕ). settled_after rules says p q n 0) (omega arith) }

  one-more : (rules : Rules) (says : Says) (p : ℕ) (q : Question) (n left : ℕ) → rules.setup.patience - n ≡ suc left → says p q n ≡ None → IsCount rules says p q n → IsCount rules says p q (n + 1)
  unfolding settled_after
  one-more rules says p q n left e none c =
      let l : rules.setup.patience - (n + 1) ≡ left = omega arith in
      let r : settled_after rules says p q (suc left) n ≡ settled_after rules says p q rules.setup.patience 0 = ap (λ (m : ℕ). settled_after rules says p q m n) (sym e) ∙ c.rest in
      record { few = omega arith; rest = rw (l) (rw none at r) }

  none-yet : (n k : ℕ) → slice_index (replicate n 0) k ≡ 0
  none-yet zero k = refl
  none-yet (suc n) zero = refl
  none-yet (suc n) (suc k) = none-yet n k

  pub counts-begun : (rules : Rules) (says : Says) → AreCounts rules says (begun rules)
  counts-begun rules says = record { counts = λ p some. inl (none-yet rules.setup.provers (p - 1)); apart = apart-nothing rules }

  pub at-set : (xs : List ℕ) (k v : ℕ) → (slice_index (slice_set xs k v) k ≡ v) ⊎ (slice_index (slice_set xs k v) k ≡ 0)
  at-set [] k v = inr refl
  at-set (x ∷ xs) zero v = inl refl
  at-set (x ∷ xs) (suc k) v = at-set xs k v

  pub at-other : (xs : List ℕ) (k j v : ℕ) → k ≢ j → slice_index (slice_set xs k v) j ≡ slice_index xs j
  at-other [] k j v ne = refl
  at-other (x ∷ xs) zero zero v ne = absurd (ne refl)
  at-other (x ∷ xs) zero (suc j) v ne = refl
  at-other (x ∷ xs) (suc k) zero v ne = refl
  at-other (x ∷ xs) (suc k) (suc j) v ne = at-other xs k j v (λ e. ne (ap suc e))

  pub count-by : (rules : Rules) (says : Says) (st : MatchState) (p : ℕ) (q : Question) → open_question rules st.record_ p ≡ Some q → IsCountIn rules says st p → IsCount rules says p q (passes_of st p)
  count-by rules says st p q e (inl none) = rw none (no-passes rules says p q)
  count-by rules says st p q e (inr (r, f, c)) = let same : r ≡ q = cc in rw same at c

  -- the counts after a pass
  counts-passed : (rules : Rules) (says : Says) (st : MatchState) (p : ℕ) (q : Question) → 0 < p → open_question rules st.record_ p ≡ Some q → AreCounts rules says st →
      IsCount rules says p q (passes_of st p + 1) → AreCounts rules says (moved rules st p None)
  counts-passed rules says st p q some e cs c = record {
    counts = λ r other. elim (cases_Bool (p == r)) [
      | inl same ↦
          let pr : p ≡ r = is-eqb p r same in
          subst (λ (x : ℕ). IsCountIn rules says (moved rules st p None) x) pr
          (elim (at-set st.passed (p - 1) (passes_of st p + 1)) [
            | inl v ↦ inr (q, e, rw v c)
            | inr z ↦ inl z
          ])
      | inr differ ↦
          let far : p ≢ r = λ pr. let yes : (p == r) ≡ true = rw pr (eqb-same r) in cc in
          let at : passes_of (moved rules st p None) r ≡ passes_of st r = at-other st.passed (p - 1) (r - 1) (passes_of st p + 1) (λ k. far (omega arith)) in
          rw at (cs.counts r other)
    ];
    apart = cs.apart;
  }

  kept-count : (rules : Rules) (says : Says) (st : MatchState) (p r : ℕ) (s : Settled) → 0 < p → 0 < r → p ≢ r → IsApart rules r st.record_ → IsCountIn rules says st r →
      IsCountIn rules says (moved rules st p (Some s)) r
  kept-count rules says st p r s some other far a (inl none) = inl (at-other st.passed (p - 1) (r - 1) 0 (λ k. far (omega arith)) ∙ none)
  kept-count rules says st p r s some other far a (inr (q, e, c)) =
      let at : passes_of (moved rules st p (Some s)) r ≡ passes_of st r = at-other st.passed (p - 1) (r - 1) 0 (λ k. far (omega arith)) in
      inr (q, stays-asked rules r p s q st.record_ other some far a e, rw at c)

  -- the counts after an answer: the others' open questions stay
  counts-settled : (rules : Rules) (says : Says) (st : MatchState) (p : ℕ) (s : Settled) → 0 < p → AreCounts rules says st → AreCounts rules says (moved rules st p (Some s))
  counts-settled rules says st p s some cs = record {
    counts = λ r other. elim (cases_Bool (p == r)) [
      | inl same ↦
          let pr : p ≡ r = is-eqb p r same in
          subst (λ (x : ℕ). IsCountIn rules says (moved rules st p (Some s)) x) pr
          (elim (at-set st.passed (p - 1) 0) [ inl v ↦ inl v | inr z ↦ inl z ])
      | inr differ ↦
          let far : p ≢ r = λ pr. let yes : (p == r) ≡ true = rw pr (eqb-same r) in cc in
          kept-count rules says st p r s some other far (cs.apart r) (cs.counts r other)
    ];
    apart = λ r. apart-settle rules r p s st.record_ (cs.apart r);
  }

  settled-now : (rules : Rules) (says : Says) (p : ℕ) (q : Question) (left n : ℕ) (a : Answer) → says p q n ≡ Some a →
      settled_after rules says p q left n ≡ said rules q (Some a) Spent
  unfolding settled_after
  settled-now rules says p q zero n a e = rw e refl
  settled-now rules says p q (suc left) n a e = rw e refl

  settled-spent : (rules : Rules) (says : Says) (p : ℕ) (q : Question) (left n : ℕ) → left ≡ 0 → says p q n ≡ None → settled_after rules says p q left n ≡ Spent
  unfolding settled_after
  settled-spent rules says p q left n z e = rw (z, e) refl

  turned-by : (rules : Rules) (says : Says) (st : MatchState) (p : ℕ) (q : Question) (n : ℕ) (o : Option Answer) (b : Bool) → 0 < p → n ≡ passes_of st p → says p q n ≡ o → nat_lt n rules.setup.patience ≡ b →
      open_question rules st.record_ p ≡ Some q → AreCounts rules says st → IsCount rules says p q n →
      Turned rules says st p q (moved rules st p (elim o [ Some a ↦ settled_by rules q n (Some a) | None ↦ if b then None else Some Spent ]))
  unfolding answers_of
  turned-by rules says st p q n (Some a) b some is e lt asked cs c =
      Settles _ refl (counts-settled rules says st p _ some cs) (ap Some (sym c.rest ∙ settled-now rules says p q (rules.setup.patience - n) n a e))
  turned-by rules says st p q n None true some is e lt asked cs c =
      let left : rules.setup.patience - n ≡ suc (rules.setup.patience - n - 1) = grind (arith, nat_tests) in
      let further : IsCount rules says p q (passes_of st p + 1) = rw is at (one-more rules says p q n (rules.setup.patience - n - 1) left e c) in
      Passed refl (counts-passed rules says st p q some asked cs further)
  turned-by rules says st p q n None false some is e lt asked cs c =
      let left : rules.setup.patience - n ≡ 0 = grind (arith, nat_tests) in
      Settles Spent refl (counts-settled rules says st p Spent some cs) (ap Some (sym c.rest ∙ settled-spent rules says p q (rules.setup.patience - n) n left e))

  by-cases : (rules : Rules) (q : Question) (n : ℕ) (o : Option Answer) →
      elim o [ Some a ↦ settled_by rules q n (Some a) | None ↦ if nat_lt n rules.setup.patience then None else Some Spent ] ≡ settled_by rules q n o
  by-cases rules q n (Some a) = refl
  by-cases rules q n None = refl

  pub turned : (rules : Rules) (says : Says) (st : MatchState) (p : ℕ) (q : Question) → 0 < p → open_question rules st.record_ p ≡ Some q → AreCounts rules says st →
      Turned rules says st p q (turn rules says st p q)
  turned rules says st p q some asked cs =
      rw (← by-cases rules q (passes_of st p) (says p q (passes_of st p)))
      (turned-by rules says st p q (passes_of st p) (says p q (passes_of st p)) (nat_lt (passes_of st p) rules.setup.patience) some refl refl refl asked cs (count-by rules says st p q asked (cs.counts p some)))

  -- what each turn keeps, a legal journal keeps
  pub turns-keep : (rules : Rules) (says : Says) (I : ℕ → MatchState → Type 0) →
      ((n : ℕ) (st : MatchState) (p : ℕ) (q : Question) → 0 < p → open_question rules st.record_ p ≡ Some q → I n st → I (suc n) (turn rules says st p q)) →
      (ps : List ℕ) (n : ℕ) (st : MatchState) → Legal rules says ps st → I n st → I (n + length ps) (turns rules says ps st)
  turns-keep rules says I keep [] n st legal i = let e : n + 0 ≡ n = omega arith in rw e i
  turns-keep rules says I keep (p ∷ ps) n st legal i =
      let e : turn_on rules says st p (open_question rules st.record_ p) ≡ turn rules says st p legal.0.question = ap (turn_on rules says st p) legal.0.asked in
      let rest : Legal rules says ps (turn rules says st p legal.0.question) = rw e at legal.1 in
      let next : I (suc n) (turn rules says st p legal.0.question) = keep n st p legal.0.question legal.0.numbered legal.0.asked i in
      let whole : I (suc n + length ps) (turns rules says ps (turn rules says st p legal.0.question)) = turns-keep rules says I keep ps (suc n) (turn rules says st p legal.0.question) rest next in
      let many : n + suc (length ps) ≡ suc n + length ps = omega arith in
      rw (many, e) whole

  pub counts-turn : (rules : Rules) (says : Says) (st : MatchState) (p : ℕ) (q : Question) (u : MatchState) → Turned rules says st p q u → AreCounts rules says u
  counts-turn rules says st p q u (Passed same cs) = cs
  counts-turn rules says st p q u (Settles s same cs is) = cs

  -- every complete legal journal comes to what the stages over the settled answers come to

  ends-after : (rules : Rules) (says : Says) (st u : MatchState) (p : ℕ) (q : Question) (z : Record) → 0 < p → 1 < rules.setup.fan → 0 < rules.setup.bound → IsPlayed rules st.record_ →
      open_question rules st.record_ p ≡ Some q → Turned rules says st p q u →
      (IsPlayed rules u.record_ → AreCounts rules says u → Ends rules (answers_of rules says) u.record_ z) →
      Ends rules (answers_of rules says) st.record_ z
  ends-after rules says st u p q z some more long i asked (Passed same cs) rest =
      rw (← same) (rest (rw same i) cs)
  ends-after rules says st u p q z some more long i asked (Settles s same cs is) rest =
      let r : Ends rules (answers_of rules says) u.record_ z = rest (rw same ((played-settle laws) rules p s st.record_ more long i)) cs in
      let e : Ends rules (answers_of rules says) (settle rules p s st.record_) z = rw same at r in
      record {
        fixed = e.fixed;
        reaches = reach_back (stage_over rules (answers_of rules says)) st.record_ (settle rules p s st.record_) z
            ((steps-settle laws) rules (answers_of rules says) p s q st.record_ some more long i asked is) e.fixed e.reaches;
      }

  pub ends-journal : (rules : Rules) (says : Says) (ps : List ℕ) (st : MatchState) → 1 < rules.setup.fan → 0 < rules.setup.bound → IsPlayed rules st.record_ → AreCounts rules says st →
      Legal rules says ps st → is_complete (turns rules says ps st).record_ ≡ true → Ends rules (answers_of rules says) st.record_ (turns rules says ps st).record_
  ends-journal rules says [] st more long i cs legal c = record { fixed = (complete-fixed laws) rules (answers_of rules says) st.record_ i c; reaches = (0, refl) }
  ends-journal rules says (p ∷ ps) st more long i cs legal c =
      let u : MatchState = turn rules says st p legal.0.question in
      let e : turn_on rules says st p (open_question rules st.record_ p) ≡ turn rules says st p legal.0.question = ap (turn_on rules says st p) legal.0.asked in
      let rest : Legal rules says ps (turn rules says st p legal.0.question) = rw e at legal.1 in
      let further : turns rules says (p ∷ ps) st ≡ turns rules says ps (turn rules says st p legal.0.question) = ap (turns rules says ps) e in
      let done : is_complete (turns rules says ps (turn rules says st p legal.0.question)).record_ ≡ true = rw further at c in
      let whole : Ends rules (answers_of rules says) st.record_ (turns rules says ps (turn rules says st p legal.0.question)).record_ =
      ends-after rules says st (turn rules says st p legal.0.question) p legal.0.question _ legal.0.numbered more long i legal.0.asked
      (turned rules says st p legal.0.question legal.0.numbered legal.0.asked cs)
      (λ j ds. ends-journal rules says ps (turn rules says st p legal.0.question) more long j ds rest done)
      in
      rw further whole

  pub order_does_not_matter : OrderDoesNotMatter
  order_does_not_matter rules says ps qs playable lp lq cp cq =
      let some : 0 < rules.setup.provers = playable.some in
      let more : 1 < rules.setup.fan = playable.parted in
      let long : 0 < rules.setup.bound = playable.steps in
      let i : IsPlayed rules (nothing_settled rules) = (played-nothing laws) rules some in
      let x : Ends rules (answers_of rules says) (nothing_settled rules) (turns rules says ps (begun rules)).record_ =
      ends-journal rules says ps (begun rules) more long i (counts-begun rules says) lp cp in
      let y : Ends rules (answers_of rules says) (nothing_settled rules) (turns rules says qs (begun rules)).record_ =
      ends-journal rules says qs (begun rules) more long i (counts-begun rules says) lq cq in
      reach_one (stage_over rules (answers_of rules says)) x.reaches.0 y.reaches.0 (nothing_settled rules) _ _ x.fixed y.fixed x.reaches.1 y.reaches.1
