-- A stage over answers, and a settled answer that is one of them.
use Rattle.std.proofs.Common.{◌≡◌, ℕ, zero, suc, ◌+◌, ◌-◌, ◌<◌, Bool, true, false, not, ◌&&◌, ◌||◌, ◌==◌, if◌then◌else◌, List, [], ◌∷◌, ◌++◌, length, map, replicate, slice_get, slice_set, ◌⊎◌, inl, inr, Option, Some, None, is_some, is_none, refl, sym, ◌∙◌, ap, arith}
use Rattle.std.proofs.lemmas.Bool.Decides.{nat_tests}
use Rattle.std.proofs.lemmas.Bool.{and_parts, cases_Bool}
use Rattle.rd_base.specs.declared.claim.Claim.{Claim}
use Rattle.bisect_game.specs.declared.settled.Question.{Question}
use Rattle.bisect_game.specs.declared.settled.Settled.{Settled}
use Rattle.bisect_game.specs.declared.settled.Close.{Close}
use Rattle.bisect_game.specs.declared.settled.Side.TheVariants.{First, Second}
use Rattle.bisect_game.specs.Bisection.{Bisection, is_closed, question_of, settle_first, settle_second}
use Rattle.bisect_game.specs.Disputes.{Answers, played}
use Rattle.std.specs.Option.{option_or}
use Rattle.bisect_game.specs.Rules.{Rules}
use Rattle.tournament.proofs.OpenedLemmas.{opened-not, opened-due, opened-twice}
use Rattle.tournament.proofs.ReachLemmas.{Reaches, reach_back, reach_one}
use Rattle.tournament.proofs.RoundLemmas.{IsWithin, within-first, within-second}
use Rattle.tournament.specs.Bracket.{Record, pairs, last_stage, disputes_of, all_there, all_out, put_out, is_stage_due, stage_opened, claims_over, carried, stage_over, nothing_settled, asks_first, asks_second, question_in, claim_missing, open_question, settled_in, put, settle, is_complete, all_closed}
use Rattle.bisect_game.specs.Rules.{claim_question}
use Rattle.tournament.specs.Settling.{after, Fits, OneRecord}
use Rattle.bisect_game.specs.Laws.{BisectionLaws}

-- each dispute's interval is one of the match
abbrev pub AllWithin : Rules → List Bisection → Type 0
AllWithin rules [] = Unit {0}
AllWithin rules (d ∷ ds) = IsWithin rules d × AllWithin rules ds

-- that a side is asked says that its answer is missing and that the dispute is open
pub record IsAsked (o : Option Settled) (c : Option Close) : Type 0 where
  pub missing : o ≡ None
  pub still : is_some c ≡ false

-- what is true of every record of a match
pub record IsPlayed (rules : Rules) (t : Record) : Type 0 where
  pub within : AllWithin rules t.disputes
  pub rests : stage_opened rules t ≡ t

pub record Ends (rules : Rules) (f : Answers) (t z : Record) : Type 0 where
  pub fixed : stage_over rules f z ≡ z
  pub reaches : Reaches (stage_over rules f) t z

module _ (laws : BisectionLaws) where
  -- claims

  pub claims-full : (f : Answers) (p : ℕ) (ss : List (Option Settled)) → all_there ss ≡ true → claims_over f p ss ≡ ss
  claims-full f p [] e = refl
  claims-full f p (Some s ∷ ss) e = ap (λ (rest : List (Option Settled)). Some s ∷ rest) (claims-full f (p + 1) ss e)
  claims-full f p (None ∷ ss) e = absurd (cc)

  claims-put : (f : Answers) (p k : ℕ) (s : Settled) (ss : List (Option Settled)) → claim_missing (slice_get ss k) ≡ true → f (p + k) claim_question ≡ Some s →
      claims_over f p (slice_set ss k (Some s)) ≡ claims_over f p ss
  claims-put f p k s [] e is = absurd (cc)
  claims-put f p zero s (None ∷ ss) e is =
      let at : f p claim_question ≡ Some s = ap (λ (n : ℕ). f n claim_question) (omega arith) ∙ is in
      rw at refl
  claims-put f p zero s (Some t ∷ ss) e is = absurd (cc)
  claims-put f p (suc k) s (o ∷ ss) e is =
      let at : f (p + 1 + k) claim_question ≡ Some s = ap (λ (n : ℕ). f n claim_question) (omega arith) ∙ is in
      ap (λ (rest : List (Option Settled)). option_or o (f p claim_question) ∷ rest) (claims-put f (p + 1) k s ss e at)

  -- disputes

  pub played-all : (rules : Rules) (f : Answers) (ds : List Bisection) → all_closed ds ≡ true → map (played rules f) ds ≡ ds
  played-all rules f [] e = refl
  played-all rules f (d ∷ ds) e =
      let two : (is_closed d ≡ true) × (all_closed ds ≡ true) = and_parts (is_closed d) (all_closed ds) e in
      rw (laws.played.closed rules f d two.0, played-all rules f ds two.1) refl

  closed-out : (c : Option Close) → put_out c ≡ true → is_some c ≡ true
  closed-out (Some c) e = refl
  closed-out None e = absurd (cc)

  pub all-out : (ds : List Bisection) → all_out ds ≡ true → all_closed ds ≡ true
  all-out [] e = refl
  all-out (d ∷ ds) e =
      let two : (put_out d.close ≡ true) × (all_out ds ≡ true) = and_parts (put_out d.close) (all_out ds) e in
      rw (closed-out d.close two.0, all-out ds two.1) refl

  asked : (same : Bool) (o : Option Settled) (c : Option Close) → (same && (is_none o && not (is_some c))) ≡ true → (same ≡ true) × IsAsked o c
  asked true None None e = (refl, record { missing = refl; still = refl })
  asked true None (Some c) e = absurd (cc)
  asked true (Some s) c e = absurd (cc)
  asked false o c e = absurd (cc)

  eqb-is : (m n : ℕ) → (m == n) ≡ true → m ≡ n
  eqb-is m n e = grind (arith, nat_tests)

  -- the first dispute that asks, by either side
  put-choice : (rules : Rules) (f : Answers) (p : ℕ) (s : Settled) (q : Question) (d : Bisection) (ds : List Bisection) (x y : Bool) →
      (if x || y then Some (question_of d) else question_in p ds) ≡ Some q → f p q ≡ Some s →
      (x ≡ true → f p (question_of d) ≡ Some s → played rules f (settle_first rules.ruling s d) ≡ played rules f d) →
      (y ≡ true → f p (question_of d) ≡ Some s → played rules f (settle_second rules.ruling s d) ≡ played rules f d) →
      (question_in p ds ≡ Some q → map (played rules f) (settled_in rules p s ds) ≡ map (played rules f) ds) →
      map (played rules f) (if x then settle_first rules.ruling s d ∷ ds else if y then settle_second rules.ruling s d ∷ ds else d ∷ settled_in rules p s ds)
      ≡ map (played rules f) (d ∷ ds)
  put-choice rules f p s q d ds true y e is h1 h2 rest =
      let same : question_of d ≡ q = cc in
      ap (λ (z : Bisection). z ∷ map (played rules f) ds) (h1 refl (ap (f p) same ∙ is))
  put-choice rules f p s q d ds false true e is h1 h2 rest =
      let same : question_of d ≡ q = cc in
      ap (λ (z : Bisection). z ∷ map (played rules f) ds) (h2 refl (ap (f p) same ∙ is))
  put-choice rules f p s q d ds false false e is h1 h2 rest = ap (λ (zs : List Bisection). played rules f d ∷ zs) (rest e)

  played-put : (rules : Rules) (f : Answers) (p : ℕ) (s : Settled) (q : Question) (ds : List Bisection) → 1 < rules.setup.fan → 0 < rules.setup.bound → AllWithin rules ds →
      question_in p ds ≡ Some q → f p q ≡ Some s → map (played rules f) (settled_in rules p s ds) ≡ map (played rules f) ds
  played-put rules f p s q [] more long w e is = absurd (cc)
  played-put rules f p s q (d ∷ ds) more long w e is =
      put-choice rules f p s q d ds (asks_first p d) (asks_second p d) e is
      (λ first here.
      let a : ((d.first == p) ≡ true) × IsAsked d.by_first d.close = asked (d.first == p) d.by_first d.close first in
      let at : f d.first (question_of d) ≡ Some s = ap (λ (n : ℕ). f n (question_of d)) (eqb-is d.first p a.0) ∙ here in
      laws.played.settled rules f First s d (omega (arith, more, w.0.fanned)) long w.0.some w.0.high (rw (a.1.missing, a.1.still) refl) at)
      (λ second here.
      let a : ((d.second == p) ≡ true) × IsAsked d.by_second d.close = asked (d.second == p) d.by_second d.close second in
      let at : f d.second (question_of d) ≡ Some s = ap (λ (n : ℕ). f n (question_of d)) (eqb-is d.second p a.0) ∙ here in
      laws.played.settled rules f Second s d (omega (arith, more, w.0.fanned)) long w.0.some w.0.high (rw (a.1.missing, a.1.still) refl) at)
      (λ further. played-put rules f p s q ds more long w.1 further is)

  -- the intervals stay those of the match

  within-choice : (rules : Rules) (p : ℕ) (s : Settled) (d : Bisection) (ds : List Bisection) (x y : Bool) → 1 < rules.setup.fan → IsWithin rules d → AllWithin rules ds →
      AllWithin rules (settled_in rules p s ds) →
      AllWithin rules (if x then settle_first rules.ruling s d ∷ ds else if y then settle_second rules.ruling s d ∷ ds else d ∷ settled_in rules p s ds)
  within-choice rules p s d ds true y more w ws rest = ((within-first laws) rules s d more w, ws)
  within-choice rules p s d ds false true more w ws rest = ((within-second laws) rules s d more w, ws)
  within-choice rules p s d ds false false more w ws rest = (w, rest)

  within-settled : (rules : Rules) (p : ℕ) (s : Settled) (ds : List Bisection) → 1 < rules.setup.fan → AllWithin rules ds → AllWithin rules (settled_in rules p s ds)
  within-settled rules p s [] more w = tt
  within-settled rules p s (d ∷ ds) more w =
      within-choice rules p s d ds (asks_first p d) (asks_second p d) more w.0 w.1 (within-settled rules p s ds more w.1)

  within-both : (rules : Rules) (ds es : List Bisection) → AllWithin rules ds → AllWithin rules es → AllWithin rules (ds ++ es)
  within-both rules [] es w v = v
  within-both rules (d ∷ ds) es w v = (w.0, within-both rules ds es w.1 v)

  within-new : (rules : Rules) (g : ℕ) (n : ℕ) (ps : List ((ℕ × Claim) × (ℕ × Claim))) → 0 < rules.setup.bound → AllWithin rules (disputes_of rules g n ps)
  within-new rules g n [] long = tt
  within-new rules g n (p ∷ ps) long = (record { fanned = refl; some = long; high = omega arith; past = tt }, within-new rules g (n + 1) ps long)

  pub within-opened : (rules : Rules) (t : Record) → 0 < rules.setup.bound → AllWithin rules t.disputes → AllWithin rules (stage_opened rules t).disputes
  within-opened rules t long w =
      elim (cases_Bool (is_stage_due rules t)) [
        | inl due ↦ rw (opened-due rules t due) (within-both rules t.disputes _ w (within-new rules (last_stage t.disputes + 1) (length t.disputes + 1) (pairs rules t) long))
        | inr not_due ↦ rw (opened-not rules t not_due) w
      ]

  -- what is due to go on has nothing open
  carried-due : (rules : Rules) (f : Answers) (t : Record) → all_there t.claims ≡ true → all_closed t.disputes ≡ true → carried rules f t ≡ t
  unfolding carried
  carried-due rules f t there closed = rw (claims-full f 1 t.claims there, played-all rules f t.disputes closed) refl

  -- a settled answer that is one of these is carried on to the same
  carried-by : (rules : Rules) (f : Answers) (p k : ℕ) (s : Settled) (q : Question) (t : Record) (b : Bool) → p ≡ 1 + k → claim_missing (slice_get t.claims k) ≡ b →
      1 < rules.setup.fan → 0 < rules.setup.bound → AllWithin rules t.disputes →
      (if b then Some claim_question else question_in p t.disputes) ≡ Some q → f p q ≡ Some s →
      carried rules f (if b then record t { claims = slice_set t.claims k (Some s) } else record t { disputes = settled_in rules p s t.disputes }) ≡ carried rules f t
  unfolding carried
  carried-by rules f p k s q t true place missing more long w e is =
      let same : q ≡ claim_question = cc in
      let at : f (1 + k) claim_question ≡ Some s = rw (← place, ← same) is in
      rw (claims-put f 1 k s t.claims missing at) refl
  carried-by rules f p k s q t false place missing more long w e is = rw (played-put rules f p s q t.disputes more long w e is) refl

  carried-put : (rules : Rules) (f : Answers) (p : ℕ) (s : Settled) (q : Question) (t : Record) → 0 < p →
      1 < rules.setup.fan → 0 < rules.setup.bound → AllWithin rules t.disputes → open_question rules t p ≡ Some q → f p q ≡ Some s →
      carried rules f (put rules p s t) ≡ carried rules f t
  carried-put rules f p s q t numbered more long w e is =
      carried-by rules f p (p - 1) s q t (claim_missing (slice_get t.claims (p - 1))) (omega arith) refl more long w e is

  within-put : (rules : Rules) (p : ℕ) (s : Settled) (t : Record) (b : Bool) → 1 < rules.setup.fan → AllWithin rules t.disputes →
      AllWithin rules (if b then record t { claims = slice_set t.claims (p - 1) (Some s) } else record t { disputes = settled_in rules p s t.disputes }).disputes
  within-put rules p s t true more w = w
  within-put rules p s t false more w = within-settled rules p s t.disputes more w

  pub played-settle : (rules : Rules) (p : ℕ) (s : Settled) (t : Record) → 1 < rules.setup.fan → 0 < rules.setup.bound → IsPlayed rules t → IsPlayed rules (settle rules p s t)
  unfolding settle
  played-settle rules p s t more long i =
      record {
        within = within-opened rules (put rules p s t) long (within-put rules p s t (claim_missing (slice_get t.claims (p - 1))) more i.within);
        rests = opened-twice rules (put rules p s t);
      }

  -- the answers are carried on to the same stage
  pub steps-settle : (rules : Rules) (f : Answers) (p : ℕ) (s : Settled) (q : Question) (t : Record) → 0 < p → 1 < rules.setup.fan → 0 < rules.setup.bound → IsPlayed rules t →
      open_question rules t p ≡ Some q → f p q ≡ Some s →
      (stage_over rules f (settle rules p s t) ≡ stage_over rules f t) ⊎ (settle rules p s t ≡ stage_over rules f t)
  unfolding settle
  steps-settle rules f p s q t numbered more long i e is =
      let same : carried rules f (put rules p s t) ≡ carried rules f t = carried-put rules f p s q t numbered more long i.within e is in
      elim (cases_Bool (is_stage_due rules (put rules p s t))) [
        | inl due ↦
            let two : (all_there (put rules p s t).claims ≡ true) × ((all_out (put rules p s t).disputes && _) ≡ true) = and_parts _ _ due in
            let outs : (all_out (put rules p s t).disputes ≡ true) × (_ ≡ true) = and_parts _ _ two.1 in
            let still : carried rules f (put rules p s t) ≡ put rules p s t = carried-due rules f (put rules p s t) two.0 (all-out (put rules p s t).disputes outs.0) in
            inr (ap (stage_opened rules) (sym still ∙ same))
        | inr not_due ↦ inl (ap (λ (u : Record). stage_opened rules (carried rules f u)) (opened-not rules (put rules p s t) not_due) ∙ ap (stage_opened rules) same)
      ]

  pub complete-fixed : (rules : Rules) (f : Answers) (t : Record) → IsPlayed rules t → is_complete t ≡ true → stage_over rules f t ≡ t
  complete-fixed rules f t i c =
      let two : (all_there t.claims ≡ true) × (all_closed t.disputes ≡ true) = and_parts _ _ c in
      ap (stage_opened rules) (carried-due rules f t two.0 two.1) ∙ i.rests

  -- every complete list comes to what the stages over the answers come to
  pub ends : (rules : Rules) (f : Answers) (es : List (ℕ × Settled)) (t : Record) → 1 < rules.setup.fan → 0 < rules.setup.bound → IsPlayed rules t →
      Fits rules f es t → is_complete (after rules es t) ≡ true → Ends rules f t (after rules es t)
  ends rules f [] t more long i fits c = record { fixed = complete-fixed rules f t i c; reaches = (0, refl) }
  ends rules f (e ∷ es) t more long i fits c =
      let z : Record = after rules es (settle rules e.0 e.1 t) in
      let rest : Ends rules f (settle rules e.0 e.1 t) z = ends rules f es (settle rules e.0 e.1 t) more long (played-settle rules e.0 e.1 t more long i) fits.1 c in
      record {
        fixed = rest.fixed;
        reaches = reach_back (stage_over rules f) t (settle rules e.0 e.1 t) z
            (steps-settle rules f e.0 e.1 fits.0.question t fits.0.numbered more long i fits.0.asked fits.0.is) rest.fixed rest.reaches;
      }

  nothing-due : (rules : Rules) (n : ℕ) → 0 < n → all_there (replicate n None) ≡ false
  nothing-due rules zero some = absurd (omega arith)
  nothing-due rules (suc n) some = refl

  pub played-nothing : (rules : Rules) → 0 < rules.setup.provers → IsPlayed rules (nothing_settled rules)
  played-nothing rules some =
      record {
        within = tt;
        rests = opened-not rules (nothing_settled rules) (rw (nothing-due rules rules.setup.provers some) refl);
      }

  pub one_record : OneRecord
  one_record rules f es gs playable fe fg ce cg =
      let some : 0 < rules.setup.provers = playable.some in
      let more : 1 < rules.setup.fan = playable.parted in
      let long : 0 < rules.setup.bound = playable.steps in
      let i : IsPlayed rules (nothing_settled rules) = played-nothing rules some in
      let x : Ends rules f (nothing_settled rules) (after rules es (nothing_settled rules)) = ends rules f es (nothing_settled rules) more long i fe ce in
      let y : Ends rules f (nothing_settled rules) (after rules gs (nothing_settled rules)) = ends rules f gs (nothing_settled rules) more long i fg cg in
      reach_one (stage_over rules f) x.reaches.0 y.reaches.0 (nothing_settled rules) _ _ x.fixed y.fixed x.reaches.1 y.reaches.1
