-- As many stages as there are provers are enough: the record of a case.
use Rattle.std.proofs.Common.{◌≡◌, ℕ, zero, suc, ◌+◌, ◌-◌, ◌<◌, ◌≤◌, nat_le, true, List, [], ◌∷◌, length, map, ◌⊎◌, inl, inr, Option, Some, None, refl, sym, ◌∙◌, ap, arith, append-nil, length-append}
use Rattle.std.proofs.lemmas.Bool.Decides.{nat_tests}
use Rattle.std.specs.Fn.{iterate}
use Rattle.std.proofs.lemmas.Bool.{cases_Bool}
use Rattle.bisect_game.specs.declared.settled.Question.{Question}
use Rattle.rd_base.specs.declared.claim.Claim.{Claim}
use Rattle.bisect_game.specs.declared.settled.Settled.{Settled}
use Rattle.bisect_game.specs.Bisection.{Bisection, is_closed}
use Rattle.bisect_game.specs.Disputes.{Answers, filled, round_over, played}
use Rattle.std.specs.Option.{option_or}
use Rattle.bisect_game.specs.Rules.{Rules}
use Rattle.bisect_game.specs.Says.{Says}
use Rattle.tournament.proofs.length.CountLemmas.{IsOrdered, ordered-settle, ordered-nothing, fewer}
use Rattle.tournament.proofs.order.JournalLemmas.{ends-journal, counts-begun}
use Rattle.tournament.proofs.OpenedLemmas.{opened-not, opened-due}
use Rattle.tournament.proofs.ReachLemmas.{iterate-fixed, reach_one}
use Rattle.tournament.proofs.RoundLemmas.{IsWithin, within-advanced}
use Rattle.tournament.proofs.SidesLemmas.{round-closed, round-open}
use Rattle.tournament.proofs.StageLemmas.{AllWithin, within-opened, Ends, played-nothing}
use Rattle.tournament.specs.Bracket.{Record, pairs, last_stage, disputes_of, is_stage_due, stage_opened, claims_over, carried, stage_over, nothing_settled, bracket, open_question}
use Rattle.bisect_game.specs.Rules.{claim_question}
use Rattle.tournament.specs.Journals.{turn_on, turns, answers_of, RecordOfCase}
use Rattle.tournament.specs.Moves.{MatchState, begun, passes_of, settled_by, moved}
use Rattle.bisect_game.specs.Laws.{BisectionLaws}

abbrev Grows : Rules → Answers → Record → Type 0
Grows rules f t = (stage_over rules f (stage_over rules f t) ≡ stage_over rules f t) ⊎ (length t.disputes < length (stage_over rules f t).disputes)

module _ (laws : BisectionLaws) where
  -- intervals stay within

  within-round : (rules : Rules) (f : Answers) (d : Bisection) → 1 < rules.setup.fan → IsWithin rules d → IsWithin rules (round_over rules.ruling f d)
  within-round rules f d more w =
      elim (cases_Bool (is_closed d)) [
        | inl closed ↦ rw (round-closed rules.ruling f d closed) w
        | inr still ↦ rw (round-open rules.ruling f d still) ((within-advanced laws) rules (filled f d) (filled f d).by_first (filled f d).by_second more (record { fanned = w.fanned; some = w.some; high = w.high; past = w.past }))
      ]

  within-rounds : (rules : Rules) (f : Answers) (n : ℕ) (d : Bisection) → 1 < rules.setup.fan → IsWithin rules d → IsWithin rules (iterate (round_over rules.ruling f) n d)
  within-rounds rules f zero d more w = w
  within-rounds rules f (suc n) d more w = within-rounds rules f n (round_over rules.ruling f d) more (within-round rules f d more w)

  within-played : (rules : Rules) (f : Answers) (ds : List Bisection) → 1 < rules.setup.fan → AllWithin rules ds → AllWithin rules (map (played rules f) ds)
  unfolding played
  within-played rules f [] more w = tt
  within-played rules f (d ∷ ds) more w = (within-rounds rules f rules.setup.bound d more w.0, within-played rules f ds more w.1)

  -- what is carried on is carried on no further

  or-none : (o : Option Settled) → option_or o o ≡ o
  or-none (Some s) = refl
  or-none None = refl

  claims-twice : (f : Answers) (p : ℕ) (ss : List (Option Settled)) → claims_over f p (claims_over f p ss) ≡ claims_over f p ss
  claims-twice f p [] = refl
  claims-twice f p (Some s ∷ ss) = ap (λ (zs : List (Option Settled)). Some s ∷ zs) (claims-twice f (p + 1) ss)
  claims-twice f p (None ∷ ss) = rw (or-none (f p claim_question), claims-twice f (p + 1) ss) refl

  played-twice : (rules : Rules) (f : Answers) (ds : List Bisection) → 1 < rules.setup.fan → AllWithin rules ds → map (played rules f) (map (played rules f) ds) ≡ map (played rules f) ds
  unfolding played
  played-twice rules f [] more w = refl
  played-twice rules f (d ∷ ds) more w =
      let e : round_over rules.ruling f (iterate (round_over rules.ruling f) rules.setup.bound d) ≡ iterate (round_over rules.ruling f) rules.setup.bound d = laws.played.enough rules.ruling f rules.setup.bound d (omega (arith, more, w.0.fanned)) w.0.some (omega (arith, w.0.high)) in
      rw (iterate-fixed (round_over rules.ruling f) rules.setup.bound (iterate (round_over rules.ruling f) rules.setup.bound d) e, played-twice rules f ds more w.1) refl

  carried-twice : (rules : Rules) (f : Answers) (t : Record) → 1 < rules.setup.fan → AllWithin rules t.disputes → carried rules f (carried rules f t) ≡ carried rules f t
  unfolding carried
  carried-twice rules f t more w = rw (claims-twice f 1 t.claims, played-twice rules f t.disputes more w) refl

  within-stage : (rules : Rules) (f : Answers) (t : Record) → 1 < rules.setup.fan → 0 < rules.setup.bound → AllWithin rules t.disputes → AllWithin rules (stage_over rules f t).disputes
  unfolding carried
  within-stage rules f t more long w = (within-opened laws) rules (carried rules f t) long (within-played rules f t.disputes more w)

  pub within-stages : (rules : Rules) (f : Answers) (n : ℕ) (t : Record) → 1 < rules.setup.fan → 0 < rules.setup.bound → AllWithin rules t.disputes → AllWithin rules (iterate (stage_over rules f) n t).disputes
  within-stages rules f zero t more long w = w
  within-stages rules f (suc n) t more long w = within-stages rules f n (stage_over rules f t) more long (within-stage rules f t more long w)

  map-length : (h : Bisection → Bisection) (ds : List Bisection) → length (map h ds) ≡ length ds
  map-length h [] = refl
  map-length h (d ∷ ds) = ap suc (map-length h ds)

  carried-length : (rules : Rules) (f : Answers) (t : Record) → length (carried rules f t).disputes ≡ length t.disputes
  unfolding carried
  carried-length rules f t = map-length (played rules f) t.disputes

  -- a stage is the last, or it has disputes

  new-length : (rules : Rules) (g : ℕ) (n : ℕ) (ps : List ((ℕ × Claim) × (ℕ × Claim))) → length (disputes_of rules g n ps) ≡ length ps
  new-length rules g n [] = refl
  new-length rules g n (p ∷ ps) = ap suc (new-length rules g (n + 1) ps)

  still : (rules : Rules) (f : Answers) (t : Record) → 1 < rules.setup.fan → AllWithin rules t.disputes → stage_opened rules (carried rules f t) ≡ carried rules f t →
      stage_over rules f (stage_over rules f t) ≡ stage_over rules f t
  still rules f t more w e =
      ap (λ (u : Record). stage_opened rules (carried rules f u)) e ∙ ap (stage_opened rules) (carried-twice rules f t more w)

  grows-by : (rules : Rules) (f : Answers) (t : Record) (ps : List ((ℕ × Claim) × (ℕ × Claim))) → 1 < rules.setup.fan → AllWithin rules t.disputes → is_stage_due rules (carried rules f t) ≡ true →
      pairs rules (carried rules f t) ≡ ps → Grows rules f t
  grows-by rules f t [] more w due e =
      inl (still rules f t more w (opened-due rules (carried rules f t) due ∙ rw (e, append-nil) refl))
  grows-by rules f t (p ∷ ps) more w due e =
      let n : length (stage_opened rules (carried rules f t)).disputes ≡ length (carried rules f t).disputes + length (pairs rules (carried rules f t)) =
      ap (λ (u : Record). length u.disputes) (opened-due rules (carried rules f t) due) ∙ (length-append (carried rules f t).disputes _ ∙ ap (λ (m : ℕ). length (carried rules f t).disputes + m) (new-length rules (last_stage (carried rules f t).disputes + 1) (length (carried rules f t).disputes + 1) (pairs rules (carried rules f t)))) in
      let k : length (pairs rules (carried rules f t)) ≡ suc (length ps) = ap length e in
      inr (omega (arith, n, k, carried-length rules f t))

  grows : (rules : Rules) (f : Answers) (t : Record) → 1 < rules.setup.fan → AllWithin rules t.disputes → Grows rules f t
  grows rules f t more w =
      elim (cases_Bool (is_stage_due rules (carried rules f t))) [
        | inl due ↦ grows-by rules f t (pairs rules (carried rules f t)) more w due refl
        | inr not_due ↦ inl (still rules f t more w (opened-not rules (carried rules f t) not_due))
      ]

  longer : (rules : Rules) (f : Answers) (t : Record) → 1 < rules.setup.fan → AllWithin rules t.disputes → length t.disputes ≤ length (stage_over rules f t).disputes
  longer rules f t more w =
      elim (cases_Bool (is_stage_due rules (carried rules f t))) [
        | inl due ↦ rw (opened-due rules (carried rules f t) due, length-append (carried rules f t).disputes _, carried-length rules f t) (omega arith)
        | inr not_due ↦ rw (opened-not rules (carried rules f t) not_due, carried-length rules f t) (omega arith)
      ]

  longer-all : (rules : Rules) (f : Answers) (n : ℕ) (t : Record) → 1 < rules.setup.fan → 0 < rules.setup.bound → AllWithin rules t.disputes → length t.disputes ≤ length (iterate (stage_over rules f) n t).disputes
  longer-all rules f zero t more long w = omega arith
  longer-all rules f (suc n) t more long w =
      omega (arith, longer rules f t more w, longer-all rules f n (stage_over rules f t) more long (within-stage rules f t more long w))

  -- after so many stages either nothing changes any more, or there are so many disputes
  pub reach-fixed : (rules : Rules) (f : Answers) (n : ℕ) (t : Record) → 1 < rules.setup.fan → 0 < rules.setup.bound → AllWithin rules t.disputes →
      (stage_over rules f (iterate (stage_over rules f) n t) ≡ iterate (stage_over rules f) n t) ⊎ (length t.disputes + n ≤ length (iterate (stage_over rules f) n t).disputes)
  reach-fixed rules f zero t more long w = inr (omega arith)
  reach-fixed rules f (suc n) t more long w =
      let v : AllWithin rules (stage_over rules f t).disputes = within-stage rules f t more long w in
      elim (grows rules f t more w) [
        | inl fixed ↦ inl (rw (iterate-fixed (stage_over rules f) n (stage_over rules f t) fixed) fixed)
        | inr more_now ↦
            elim (reach-fixed rules f n (stage_over rules f t) more long v) [
              | inl fixed ↦ inl fixed
              | inr many ↦ inr (omega (arith, more_now, many))
            ]
      ]

  iterate-add : {A : Type 0} (h : A → A) (n m : ℕ) (x : A) → iterate h (n + m) x ≡ iterate h m (iterate h n x)
  iterate-add h zero m x = let e : 0 + m ≡ m = omega arith in ap (λ (k : ℕ). iterate h k x) e
  iterate-add h (suc n) m x = let e : suc n + m ≡ suc (n + m) = omega arith in ap (λ (k : ℕ). iterate h k x) e ∙ iterate-add h n m (h x)

  -- a record with fewer disputes than provers, at which the stages end, is the bracket's
  pub bracket-is : (rules : Rules) (f : Answers) (z : Record) → 1 < rules.setup.fan → 0 < rules.setup.bound → Ends rules f (nothing_settled rules) z → length z.disputes < rules.setup.provers →
      z ≡ bracket rules f
  unfolding bracket
  bracket-is rules f z more long e few =
      let n : ℕ = e.reaches.0 in
      let t : Record = nothing_settled rules in
      elim (reach-fixed rules f rules.setup.provers (nothing_settled rules) more long tt) [
        | inl fixed ↦ reach_one (stage_over rules f) e.reaches.0 rules.setup.provers (nothing_settled rules) z _ e.fixed fixed e.reaches.1 refl
        | inr many ↦
            elim (cases_Bool (nat_le rules.setup.provers e.reaches.0)) [
              | inl le ↦
                  let q : e.reaches.0 ≡ rules.setup.provers + (e.reaches.0 - rules.setup.provers) = grind (arith, nat_tests) in
                  let further : length (iterate (stage_over rules f) rules.setup.provers (nothing_settled rules)).disputes ≤ length (iterate (stage_over rules f) (e.reaches.0 - rules.setup.provers) (iterate (stage_over rules f) rules.setup.provers (nothing_settled rules))).disputes =
                  longer-all rules f (e.reaches.0 - rules.setup.provers) (iterate (stage_over rules f) rules.setup.provers (nothing_settled rules)) more long (within-stages rules f rules.setup.provers (nothing_settled rules) more long tt) in
                  let same : iterate (stage_over rules f) (e.reaches.0 - rules.setup.provers) (iterate (stage_over rules f) rules.setup.provers (nothing_settled rules)) ≡ z =
                  sym (iterate-add (stage_over rules f) rules.setup.provers (e.reaches.0 - rules.setup.provers) (nothing_settled rules)) ∙ (ap (λ (k : ℕ). iterate (stage_over rules f) k (nothing_settled rules)) (sym q) ∙ e.reaches.1) in
                  let l : length (iterate (stage_over rules f) (e.reaches.0 - rules.setup.provers) (iterate (stage_over rules f) rules.setup.provers (nothing_settled rules))).disputes ≡ length z.disputes = ap (λ (u : Record). length u.disputes) same in
                  absurd (omega (arith, further, l, many, few))
              | inr gt ↦
                  let q : rules.setup.provers ≡ e.reaches.0 + (rules.setup.provers - e.reaches.0) = grind (arith, nat_tests) in
                  sym (ap (λ (k : ℕ). iterate (stage_over rules f) k (nothing_settled rules)) q ∙ (iterate-add (stage_over rules f) e.reaches.0 (rules.setup.provers - e.reaches.0) (nothing_settled rules)
                  ∙ (ap (iterate (stage_over rules f) (rules.setup.provers - e.reaches.0)) e.reaches.1 ∙ iterate-fixed (stage_over rules f) (rules.setup.provers - e.reaches.0) z e.fixed)))
            ]
      ]

  -- the record of a case is that of each of its complete legal journals

  ordered-moved : (rules : Rules) (st : MatchState) (p : ℕ) (o : Option Settled) → IsOrdered rules st.record_ → IsOrdered rules (moved rules st p o).record_
  ordered-moved rules st p None i = i
  ordered-moved rules st p (Some s) i = ordered-settle rules p s st.record_ i

  ordered-turn : (rules : Rules) (says : Says) (st : MatchState) (p : ℕ) (o : Option Question) → IsOrdered rules st.record_ → IsOrdered rules (turn_on rules says st p o).record_
  ordered-turn rules says st p None i = i
  ordered-turn rules says st p (Some q) i = ordered-moved rules st p (settled_by rules q (passes_of st p) (says p q (passes_of st p))) i

  ordered-turns : (rules : Rules) (says : Says) (ps : List ℕ) (st : MatchState) → IsOrdered rules st.record_ → IsOrdered rules (turns rules says ps st).record_
  ordered-turns rules says [] st i = i
  ordered-turns rules says (p ∷ ps) st i = ordered-turns rules says ps _ (ordered-turn rules says st p (open_question rules st.record_ p) i)

  pub record_of_case : RecordOfCase
  record_of_case rules says ps playable legal c =
      let some : 0 < rules.setup.provers = playable.some in
      let more : 1 < rules.setup.fan = playable.parted in
      let long : 0 < rules.setup.bound = playable.steps in
      let e : Ends rules (answers_of rules says) (nothing_settled rules) (turns rules says ps (begun rules)).record_ =
      (ends-journal laws) rules says ps (begun rules) more long ((played-nothing laws) rules some) ((counts-begun laws) rules says) legal c in
      let o : IsOrdered rules (turns rules says ps (begun rules)).record_ = ordered-turns rules says ps (begun rules) (ordered-nothing rules) in
      bracket-is rules (answers_of rules says) (turns rules says ps (begun rules)).record_ more long e (fewer rules (turns rules says ps (begun rules)).record_ some o.counted)
