-- Each dispute of a match has few rounds.
use Rattle.std.proofs.Common.{◌≡◌, ◌∙◌, ℕ, ◌+◌, ◌-◌, ◌*◌, ◌^◌, ◌<◌, ◌≤◌, Bool, true, false, List, [], ◌∷◌, ◌++◌, length, inl, inr, Some, refl, arith, slice_get, slice_set, if◌then◌else◌}
use Rattle.std.proofs.Math.Nat.{mul-le-mul_left, pow-zero}
use Rattle.std.proofs.lemmas.Bool.{cases_Bool}
use Rattle.bisect_game.specs.declared.settled.Side.{Side}
use Rattle.bisect_game.specs.declared.settled.Side.TheVariants.{First, Second}
use Rattle.bisect_game.specs.declared.settled.Settled.{Settled}
use Rattle.rd_base.specs.declared.claim.Claim.{Claim}
use Rattle.bisect_game.specs.Closing.{is_step}
use Rattle.bisect_game.specs.Bisection.{Bisection, proof_rounds_in, settle_side, settle_first, settle_second}
use Rattle.bisect_game.specs.Laws.{IsFew}
use Rattle.bisect_game.specs.Rules.{Rules, ArePlayable}
use Rattle.tournament.proofs.OpenedLemmas.{opened-not, opened-due}
use Rattle.tournament.proofs.SidesLemmas.{SameSides, sides-first, sides-second}
use Rattle.tournament.specs.Bracket.{Record, pairs, last_stage, disputes_of, is_stage_due, stage_opened, nothing_settled, asks_first, asks_second, claim_missing, settled_in, put, settle}
use Rattle.tournament.specs.Numbers.{AllHaveFan}
use Rattle.tournament.specs.Settling.{after}
use Rattle.tournament.specs.Theorem.{AllShort}
use Rattle.bisect_game.specs.Laws.{BisectionLaws}

pub record IsFewIn (rules : Rules) (d : Bisection) : Type 0 where
  pub fanned : d.fan ≡ rules.setup.fan
  pub few : IsFew d.fan rules.setup.bound d.place (length d.past)
  pub last : proof_rounds_in d.past ≡ 0

abbrev pub AllFew : Rules → List Bisection → Type 0
AllFew rules [] = Unit {0}
AllFew rules (d ∷ ds) = IsFewIn rules d × AllFew rules ds

module _ (laws : BisectionLaws) where
  few-side : (rules : Rules) (by : Side) (s : Settled) (d e : Bisection) → settle_side rules.ruling by s d ≡ e → SameSides d e → 1 < rules.setup.fan → IsFewIn rules d → IsFewIn rules e
  few-side rules by s d e is k more h =
      let parted : 1 < d.fan = omega (arith, more, h.fanned) in
      record {
        fanned = k.fan ∙ h.fanned;
        few = rw k.fan (rw is at (laws.few.kept rules.ruling rules.setup.bound by s d parted h.few));
        last = rw is at (laws.few.last rules.ruling by s d h.last);
      }

  few-choice : (rules : Rules) (p : ℕ) (s : Settled) (d : Bisection) (ds : List Bisection) (x y : Bool) → 1 < rules.setup.fan → AllFew rules (d ∷ ds) → AllFew rules (settled_in rules p s ds) →
      AllFew rules (if x then settle_first rules.ruling s d ∷ ds else if y then settle_second rules.ruling s d ∷ ds else d ∷ settled_in rules p s ds)
  few-choice rules p s d ds true y more h r = (few-side rules First s d (settle_first rules.ruling s d) refl (sides-first rules.ruling s d) more h.0, h.1)
  few-choice rules p s d ds false true more h r = (few-side rules Second s d (settle_second rules.ruling s d) refl (sides-second rules.ruling s d) more h.0, h.1)
  few-choice rules p s d ds false false more h r = (h.0, r)

  few-settled : (rules : Rules) (p : ℕ) (s : Settled) (ds : List Bisection) → 1 < rules.setup.fan → AllFew rules ds → AllFew rules (settled_in rules p s ds)
  few-settled rules p s [] more h = tt
  few-settled rules p s (d ∷ ds) more h = few-choice rules p s d ds (asks_first p d) (asks_second p d) more h (few-settled rules p s ds more h.1)

  few-new : (rules : Rules) (g : ℕ) (n : ℕ) (ps : List ((ℕ × Claim) × (ℕ × Claim))) → 1 < rules.setup.fan → 0 < rules.setup.bound → AllFew rules (disputes_of rules g n ps)
  few-new rules g n [] more long = tt
  few-new rules g n (p ∷ ps) more long =
      let one : rules.setup.fan ^ 0 ≡ 1 = pow-zero rules.setup.fan in
      let t : rules.setup.fan * 1 ≤ rules.setup.fan * rules.setup.bound = mul-le-mul_left rules.setup.fan long in
      (record { fanned = refl; few = record { few = rw one (omega arith); asked = rw one (omega (arith, t)) }; last = refl }, few-new rules g (n + 1) ps more long)

  few-both : (rules : Rules) (ds es : List Bisection) → AllFew rules ds → AllFew rules es → AllFew rules (ds ++ es)
  few-both rules [] es h k = k
  few-both rules (d ∷ ds) es h k = (h.0, few-both rules ds es h.1 k)

  few-opened : (rules : Rules) (t : Record) → 1 < rules.setup.fan → 0 < rules.setup.bound → AllFew rules t.disputes → AllFew rules (stage_opened rules t).disputes
  few-opened rules t more long h =
      elim (cases_Bool (is_stage_due rules t)) [
        | inl due ↦ rw (opened-due rules t due) (few-both rules t.disputes _ h (few-new rules (last_stage t.disputes + 1) (length t.disputes + 1) (pairs rules t) more long))
        | inr not_due ↦ rw (opened-not rules t not_due) h
      ]

  few-put : (rules : Rules) (p : ℕ) (s : Settled) (t : Record) (b : Bool) → 1 < rules.setup.fan → AllFew rules t.disputes →
      AllFew rules (if b then record t { claims = slice_set t.claims (p - 1) (Some s) } else record t { disputes = settled_in rules p s t.disputes }).disputes
  few-put rules p s t true more h = h
  few-put rules p s t false more h = few-settled rules p s t.disputes more h

  pub few-settle : (rules : Rules) (p : ℕ) (s : Settled) (t : Record) → 1 < rules.setup.fan → 0 < rules.setup.bound → AllFew rules t.disputes → AllFew rules (settle rules p s t).disputes
  unfolding settle
  few-settle rules p s t more long h = few-opened rules (put rules p s t) more long (few-put rules p s t (claim_missing (slice_get t.claims (p - 1))) more h)

  few-after : (rules : Rules) (es : List (ℕ × Settled)) (t : Record) → 1 < rules.setup.fan → 0 < rules.setup.bound → AllFew rules t.disputes → AllFew rules (after rules es t).disputes
  unfolding settle
  few-after rules [] t more long h = h
  few-after rules (e ∷ es) t more long h =
      few-after rules es (settle rules e.0 e.1 t) more long (few-opened rules (put rules e.0 e.1 t) more long (few-put rules e.0 e.1 t (claim_missing (slice_get t.claims (e.0 - 1))) more h))

  one-last : (d : Bisection) (b : Bool) → proof_rounds_in d.past ≡ 0 → proof_rounds_in d.past + (if b then 1 else 0) ≤ 1
  one-last d true e = omega (arith, e)
  one-last d false e = omega (arith, e)

  all-rounds : (rules : Rules) (ds : List Bisection) → 1 < rules.setup.fan → AllFew rules ds → AllShort rules ds
  all-rounds rules [] more h = tt
  all-rounds rules (d ∷ ds) more h = (record { bisections = rw h.0.fanned at (laws.few.few rules.setup.bound d (omega (arith, more, h.0.fanned)) h.0.few); proofs = one-last d (is_step d.place) h.0.last }, all-rounds rules ds more h.1)

  pub few_rounds : (rules : Rules) (es : List (ℕ × Settled)) → ArePlayable rules → AllShort rules (after rules es (nothing_settled rules)).disputes
  few_rounds rules es playable =
      let more : 1 < rules.setup.fan = playable.parted in
      let long : 0 < rules.setup.bound = playable.steps in
      all-rounds rules (after rules es (nothing_settled rules)).disputes more (few-after rules es (nothing_settled rules) more long tt)

  all-fanned : (rules : Rules) (ds : List Bisection) → AllFew rules ds → AllHaveFan rules.setup.fan ds
  all-fanned rules [] h = tt
  all-fanned rules (d ∷ ds) h = (h.0.fanned, all-fanned rules ds h.1)

  pub have_the_fan : (rules : Rules) (es : List (ℕ × Settled)) → ArePlayable rules → AllHaveFan rules.setup.fan (after rules es (nothing_settled rules)).disputes
  have_the_fan rules es playable =
      all-fanned rules (after rules es (nothing_settled rules)).disputes (few-after rules es (nothing_settled rules) playable.parted playable.steps tt)
