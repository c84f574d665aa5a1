-- The claims of a record that were taken as given are sound.
use Rattle.std.proofs.Common.{◌≡◌, ℕ, zero, suc, ◌-◌, Bool, true, false, if◌then◌else◌, List, [], ◌∷◌, replicate, slice_get, slice_set, inl, inr, Option, Some, None, refl, sym, ◌∙◌}
use Rattle.std.proofs.lemmas.Bool.{cases_Bool}
use Rattle.std.specs.Option.{option_or}
use Rattle.rd_base.specs.declared.claim.Claim.{Claim}
use Rattle.rd_base.specs.declared.answer.Answer.TheVariants as answer
use Rattle.bisect_game.specs.declared.settled.Kind.TheVariants as kind
use Rattle.bisect_game.specs.declared.settled.Question.{Question}
use Rattle.bisect_game.specs.declared.settled.Settled.{Settled}
use Rattle.bisect_game.specs.declared.settled.Settled.TheVariants.{Given}
use Rattle.bisect_game.specs.Rules.{Rules, claim_question}
use Rattle.bisect_game.specs.Ruling.{Ruling}
use Rattle.bisect_game.specs.Truth.{IsFit, IsFitSoFar}
use Rattle.tournament.proofs.OpenedLemmas.{opened-not, opened-due}
use Rattle.tournament.specs.Bracket.{Record, claim_missing, is_stage_due, nothing_settled, open_question, put, settle, settled_in, stage_opened}
use Rattle.tournament.specs.Fitting.{MaySettle, AllFit}
use Rattle.tournament.specs.Settling.{after}

abbrev pub FitClaims : Ruling → List (Option Settled) → Type 0
FitClaims r [] = Unit {0}
FitClaims r (s ∷ ss) = IsFitSoFar r kind.Claim s × FitClaims r ss

pub fit-none : (r : Ruling) (n : ℕ) → FitClaims r (replicate n None)
fit-none r zero = tt
fit-none r (suc n) = (tt, fit-none r n)

pub fit-set : (r : Ruling) (ss : List (Option Settled)) (k : ℕ) (s : Settled) → FitClaims r ss → IsFit r kind.Claim s → FitClaims r (slice_set ss k (Some s))
fit-set r [] k s f g = tt
fit-set r (o ∷ ss) zero s f g = (g, f.1)
fit-set r (o ∷ ss) (suc k) s f g = (f.0, fit-set r ss k s f.1 g)

pub fit-asked : (rules : Rules) (r : Record) (p : ℕ) (s : Settled) → MaySettle rules r p s → (q : Question) → open_question rules r p ≡ Some q → IsFit rules.ruling q.kind s
fit-asked rules r p s m q e =
    let one : m.question ≡ q = let both_ : ◌≡◌ {A = Option Question} (Some m.question) (Some q) = sym m.asked ∙ e in cc in
    rw (← one) m.fits

pub fit-at : (r : Ruling) (ss : List (Option Settled)) (k : ℕ) (c : Claim) → FitClaims r ss → slice_get ss k ≡ Some (Some (Given (answer.Claim c))) → r.is_sound c ≡ true
fit-at r [] k c f e = absurd (cc)
fit-at r (s ∷ ss) zero c f e = let same : s ≡ Some (Given (answer.Claim c)) = cc in rw same at f.0
fit-at r (s ∷ ss) (suc k) c f e = fit-at r ss k c f.1 e

pub first-none : (a b : Option (List ℕ × List ℕ)) → option_or a b ≡ None → (a ≡ None) × (b ≡ None)
first-none (Some pair) b e = absurd (cc)
first-none None b e = (refl, e)

fit-put : (rules : Rules) (p : ℕ) (s : Settled) (r : Record) (b : Bool) → claim_missing (slice_get r.claims (p - 1)) ≡ b → ((q : Question) → open_question rules r p ≡ Some q → IsFit rules.ruling q.kind s) →
    FitClaims rules.ruling r.claims →
    FitClaims rules.ruling (if b then record r { claims = slice_set r.claims (p - 1) (Some s) } else record r { disputes = settled_in rules p s r.disputes }).claims
fit-put rules p s r true eb fits f = fit-set rules.ruling r.claims (p - 1) s f (fits claim_question (rw eb refl))
fit-put rules p s r false eb fits f = f

fit-opened : (rules : Rules) (r : Record) → FitClaims rules.ruling r.claims → FitClaims rules.ruling (stage_opened rules r).claims
fit-opened rules r f =
    elim (cases_Bool (is_stage_due rules r)) [
      | inl due ↦ rw (opened-due rules r due) f
      | inr not_due ↦ rw (opened-not rules r not_due) f
    ]

fit-after : (rules : Rules) (es : List (ℕ × Settled)) (r : Record) → AllFit rules es r → FitClaims rules.ruling r.claims → FitClaims rules.ruling (after rules es r).claims
unfolding settle
fit-after rules [] r fit f = f
fit-after rules (e ∷ es) r fit f =
    fit-after rules es (settle rules e.0 e.1 r) fit.1
    (fit-opened rules (put rules e.0 e.1 r)
    (fit-put rules e.0 e.1 r (claim_missing (slice_get r.claims (e.0 - 1))) refl (fit-asked rules r e.0 e.1 fit.0) f))

-- whatever fitting answers are settled, from the beginning on
pub fit-claims : (rules : Rules) (es : List (ℕ × Settled)) → AllFit rules es (nothing_settled rules) → FitClaims rules.ruling (after rules es (nothing_settled rules)).claims
fit-claims rules es fit = fit-after rules es (nothing_settled rules) fit (fit-none rules.ruling rules.setup.provers)
