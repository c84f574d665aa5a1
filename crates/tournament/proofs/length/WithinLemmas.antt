-- No question is beyond the bound.
use Rattle.std.proofs.Common.{◌≡◌, ℕ, zero, suc, ◌-◌, ◌<◌, ◌≤◌, min, nat_le, Bool, true, false, ◌||◌, ◌==◌, if◌then◌else◌, List, [], ◌∷◌, slice_get, Some, None, refl, arith}
use Rattle.std.proofs.lemmas.Bool.Decides.{nat_tests}
use Rattle.rd_base.specs.declared.answer.Qid.{Qid}
use Rattle.bisect_game.specs.declared.settled.Interval.{Interval}
use Rattle.bisect_game.specs.declared.settled.Round.{Round}
use Rattle.bisect_game.specs.declared.settled.Kind.{Kind}
use Rattle.bisect_game.specs.declared.settled.Kind.TheVariants as kind
use Rattle.bisect_game.specs.declared.settled.Question.{Question}
use Rattle.bisect_game.specs.declared.settled.Settled.{Settled}
use Rattle.bisect_game.specs.Bisection.{Bisection, cut, kind_over, question_of}
use Rattle.bisect_game.specs.Laws.{BisectionLaws}
use Rattle.bisect_game.specs.Rules.{Rules, ArePlayable}
use Rattle.tournament.specs.Bracket.{Record, nothing_settled, bracket, asks_first, asks_second, question_in, claim_missing, settle}
use Rattle.bisect_game.specs.Rules.{claim_question}
use Rattle.tournament.specs.Settling.{after}
use Rattle.tournament.specs.Posting.{record_after}
use Rattle.tournament.specs.Asked.{kind_in, kind_of, asked_in, IsWithinBound, OpenIsWithinBound, AskedIsWithinBound}
use Rattle.tournament.proofs.RoundLemmas.{RoundsWithin, IsWithin}
use Rattle.tournament.proofs.StageLemmas.{AllWithin, IsPlayed, played-settle, played-nothing}
use Rattle.tournament.proofs.order.BracketLemmas.{within-stages}
use Rattle.tournament.proofs.PostLemmas.{IsSettled, settled-begun}

kind-by : (fan bound lo hi : ℕ) (b two : Bool) → nat_le (hi - lo) 1 ≡ b → (fan == 2) ≡ two → 1 < fan → fan ≤ 16 → lo < hi → hi ≤ bound →
    IsWithinBound bound (if b then kind.Proof lo else if two then kind.Root (cut lo hi 2 1) else kind.Roots lo hi (min fan (hi - lo)))
unfolding cut
kind-by fan bound lo hi true two e f more few some high = omega (arith, some, high)
kind-by fan bound lo hi false true e f more few some high =
    let wide : 1 < hi - lo = grind (arith, nat_tests) in
    (omega (arith, wide), omega (arith, wide, high))
kind-by fan bound lo hi false false e f more few some high =
    let wide : 1 < hi - lo = grind (arith, nat_tests) in
    record { parted = omega (arith, wide, more); few_parts = omega (arith, few); long = omega arith; high = high }

kind-within : (fan bound lo hi : ℕ) → 1 < fan → fan ≤ 16 → lo < hi → hi ≤ bound → IsWithinBound bound (kind_over fan lo hi)
kind-within fan bound lo hi more few some high = kind-by fan bound lo hi (nat_le (hi - lo) 1) (fan == 2) refl refl more few some high

this-kind : (fan bound lo hi : ℕ) (x : Kind) → 1 < fan → fan ≤ 16 → lo < hi → hi ≤ bound → Some (kind_over fan lo hi) ≡ Some x → IsWithinBound bound x
this-kind fan bound lo hi x more few some high e = let same : kind_over fan lo hi ≡ x = cc in rw (← same) (kind-within fan bound lo hi more few some high)

in-within : (fan bound : ℕ) (i : Interval) (past : List Round) (k : ℕ) (x : Kind) → 1 < fan → fan ≤ 16 → i.lo < i.hi → i.hi ≤ bound → RoundsWithin bound past → kind_in fan i past k ≡ Some x →
    IsWithinBound bound x
in-within fan bound i [] zero x more few some high w e = this-kind fan bound i.lo i.hi x more few some high e
in-within fan bound i [] (suc k) x more few some high w e = absurd (cc)
in-within fan bound i (r ∷ past) zero x more few some high w e = this-kind fan bound r.lo r.hi x more few w.0.0 w.0.1 e
in-within fan bound i (r ∷ past) (suc k) x more few some high w e = in-within fan bound i past k x more few some high w.1 e

of-within : (rules : Rules) (d : Bisection) (round : ℕ) (x : Kind) (b : Bool) → ArePlayable rules → IsWithin rules d → (if b then None else kind_in d.fan d.place d.past (round - 1)) ≡ Some x → IsWithinBound rules.setup.bound x
of-within rules d round x true playable w e = absurd (cc)
of-within rules d round x false playable w e = in-within d.fan rules.setup.bound d.place d.past (round - 1) x (omega (arith, playable.parted, w.fanned)) (omega (arith, playable.few_parts, w.fanned)) w.some w.high w.past e

side-within : (rules : Rules) (d : Bisection) (round : ℕ) (x : Kind) (b : Bool) → ArePlayable rules → IsWithin rules d → (if b then kind_of d round else None) ≡ Some x → IsWithinBound rules.setup.bound x
side-within rules d round x true playable w e = of-within rules d round x (round == 0) playable w e
side-within rules d round x false playable w e = absurd (cc)

here-within : (rules : Rules) (p : ℕ) (qid : Qid) (d : Bisection) (ds : List Bisection) (x : Kind) (a b : Bool) → ArePlayable rules → IsWithin rules d →
    (if a then (if b then kind_of d qid.round else None) else asked_in p qid ds) ≡ Some x → (asked_in p qid ds ≡ Some x → IsWithinBound rules.setup.bound x) → IsWithinBound rules.setup.bound x
here-within rules p qid d ds x true b playable w e rest = side-within rules d qid.round x b playable w e
here-within rules p qid d ds x false b playable w e rest = rest e

disputes-within : (rules : Rules) (p : ℕ) (qid : Qid) (ds : List Bisection) (x : Kind) → ArePlayable rules → AllWithin rules ds → asked_in p qid ds ≡ Some x → IsWithinBound rules.setup.bound x
disputes-within rules p qid [] x playable w e = absurd (cc)
disputes-within rules p qid (d ∷ ds) x playable w e =
    here-within rules p qid d ds x (d.number == qid.dispute) ((d.first == p) || (d.second == p)) playable w.0 e (λ further. disputes-within rules p qid ds x playable w.1 further)

claim-within : (bound : ℕ) (x : Kind) (b : Bool) → (if b then Some kind.Claim else None) ≡ Some x → IsWithinBound bound x
claim-within bound x true e = let same : kind.Claim ≡ x = cc in rw (← same) tt
claim-within bound x false e = absurd (cc)

asked-by : (rules : Rules) (p : ℕ) (qid : Qid) (ds : List Bisection) (x : Kind) (b : Bool) → ArePlayable rules → AllWithin rules ds →
    (if b then (if qid.round == 0 then Some kind.Claim else None) else asked_in p qid ds) ≡ Some x → IsWithinBound rules.setup.bound x
asked-by rules p qid ds x true playable w e = claim-within rules.setup.bound x (qid.round == 0) e
asked-by rules p qid ds x false playable w e = disputes-within rules p qid ds x playable w e

-- an open question is what is asked where its dispute stands

open-choice : (rules : Rules) (p : ℕ) (q : Question) (d : Bisection) (ds : List Bisection) (b : Bool) → ArePlayable rules → IsWithin rules d →
    (if b then Some (question_of d) else question_in p ds) ≡ Some q → (question_in p ds ≡ Some q → IsWithinBound rules.setup.bound q.kind) → IsWithinBound rules.setup.bound q.kind
open-choice rules p q d ds true playable w e rest =
    let same : question_of d ≡ q = cc in
    rw (← same) (kind-within d.fan rules.setup.bound d.place.lo d.place.hi (omega (arith, playable.parted, w.fanned)) (omega (arith, playable.few_parts, w.fanned)) w.some w.high)
open-choice rules p q d ds false playable w e rest = rest e

open-in : (rules : Rules) (p : ℕ) (q : Question) (ds : List Bisection) → ArePlayable rules → AllWithin rules ds → question_in p ds ≡ Some q → IsWithinBound rules.setup.bound q.kind
open-in rules p q [] playable w e = absurd (cc)
open-in rules p q (d ∷ ds) playable w e = open-choice rules p q d ds (asks_first p d || asks_second p d) playable w.0 e (λ further. open-in rules p q ds playable w.1 further)

open-by : (rules : Rules) (p : ℕ) (q : Question) (ds : List Bisection) (b : Bool) → ArePlayable rules → AllWithin rules ds →
    (if b then Some claim_question else question_in p ds) ≡ Some q → IsWithinBound rules.setup.bound q.kind
open-by rules p q ds true playable w e = let same : claim_question ≡ q = cc in rw (← same) tt
open-by rules p q ds false playable w e = open-in rules p q ds playable w e

module _ (laws : BisectionLaws) where
  played-after : (rules : Rules) (es : List (ℕ × Settled)) (r : Record) → 1 < rules.setup.fan → 0 < rules.setup.bound → IsPlayed rules r → IsPlayed rules (after rules es r)
  played-after rules [] r more long i = i
  played-after rules (e ∷ es) r more long i = played-after rules es (settle rules e.0 e.1 r) more long ((played-settle laws) rules e.0 e.1 r more long i)

  pub open_is_within : OpenIsWithinBound
  open_is_within rules xs p q playable e =
      let more : 1 < rules.setup.fan = playable.parted in
      let i : IsSettled rules (record_after rules xs) = settled-begun rules xs in
      let k : IsPlayed rules (record_after rules xs) = rw i.comes at (played-after rules i.list (nothing_settled rules) more playable.steps ((played-nothing laws) rules playable.some)) in
      open-by rules p q (record_after rules xs).disputes (claim_missing (slice_get (record_after rules xs).claims (p - 1))) playable k.within e

  pub asked_is_within : AskedIsWithinBound
  unfolding bracket
  asked_is_within rules f p qid x playable e =
      let more : 1 < rules.setup.fan = playable.parted in
      let w : AllWithin rules (bracket rules f).disputes = (within-stages laws) rules f rules.setup.provers (nothing_settled rules) more playable.steps tt in
      asked-by rules p qid (bracket rules f).disputes x (qid.dispute == 0) playable w e
