-- The response to the bytes of a case, for a caller that has them in memory.
use Rattle.std.proofs.Common.{◌≡◌, ℕ, ◌<◌, ◌≤◌, List, length, Result, Ok, Err, IfOk, refl, sym, ap, subst, ◌∙◌}
use Rattle.rd_base.specs.Results.{◌>>=◌}
use Rattle.rd_base.specs.declared.memory.Memory.{Memory}
use Rattle.rv_step.specs.State.{State}
use Rattle.rv_step.specs.Valid.{IsValid}
use Rattle.case_reader.specs.Case.{CaseData}
use Rattle.delegate.specs.Loading.{within_limit, case_or_refusal, start_or_refusal, of_case}
use Rattle.delegate.specs.OfCase.{root_of_start, start_response, response_by, StartsValid}
use Rattle.delegate.specs.Outcome.{either_way}
use Rattle.delegate.specs.Refusal.{too_long}
use Rattle.delegate.specs.Standing.{Stands, IsEitherWay, StartsValidIn}
use Rattle.delegate.specs.declared.response.Subject.TheVariants.{Whole}
use Rattle.delegate.specs.declared.response.Response.{Response}
use Rattle.delegate.specs.declared.response.Stop.{Stop}
use Rattle.delegate.proofs.OutcomeLemmas.{over_limit, under_limit}

module _ (answer : List ℕ → Result Response Response) (bytes : List ℕ) where
  pub too_long-by : (response : Response) → 16777216 < length bytes → response ≡ too_long → response ≡ response_by answer bytes
  too_long-by response long is = is ∙ sym (ap (λ (r : Result (List ℕ) Response). either_way (r >>= answer)) (over_limit bytes long))

  under : (given : List ℕ) (r : Result Response Response) → length bytes ≤ 16777216 → given ≡ bytes → answer given ≡ r → either_way r ≡ response_by answer bytes
  under given r few is come =
      ap either_way (sym come) ∙ (ap (λ xs. either_way (answer xs)) is ∙ sym (ap (λ (r : Result (List ℕ) Response). either_way (r >>= answer)) (under_limit bytes few)))

  pub ended-by : (given : List ℕ) (carried : Result Response Stop) (answered : Result Response Memory) → length bytes ≤ 16777216 → given ≡ bytes
      → Stands (λ (done : Response). done) carried (answer given) → IfOk answered (IsEitherWay carried) → IfOk answered (λ response. response ≡ response_by answer bytes)
  ended-by given (Ok done) (Ok response) few same stands is = is ∙ under given (Ok done) few same stands
  ended-by given (Err stop) (Ok response) few same stands is = under given (Err response) few same (stands response is)
  ended-by given carried (Err e) few same stands is = tt

-- THE START of a case that is loaded is the one that was found, and so it is valid

pub valid-of : (bytes : List ℕ) (d : CaseData) (m : State) → case_or_refusal bytes ≡ Ok d → start_or_refusal Whole d ≡ Ok m → IsValid m → StartsValidIn bytes
valid-of bytes d m read loaded valid c start reads starts =
    let one : c ≡ d = cc (reads, read) in
    let at : start_or_refusal Whole d ≡ Ok start = subst (λ (x : CaseData). start_or_refusal Whole x ≡ Ok start) one starts in
    let same : m ≡ start = cc (at, loaded) in
    subst IsValid same valid

started : (bytes : List ℕ) (c : CaseData) (start : State) → case_or_refusal bytes ≡ Ok c → start_or_refusal Whole c ≡ Ok start → start_response bytes ≡ Ok (root_of_start start)
unfolding of_case
started bytes c start reads starts = rw (reads, starts) refl

within : (bytes : List ℕ) (c : CaseData) → length bytes ≤ 16777216 → (within_limit bytes >>= case_or_refusal) ≡ Ok c → case_or_refusal bytes ≡ Ok c
within bytes c few reads = subst (λ (r : Result (List ℕ) Response). (r >>= case_or_refusal) ≡ Ok c) (under_limit bytes few) reads

pub valid-too_long : (bytes : List ℕ) → 16777216 < length bytes → StartsValid bytes
valid-too_long bytes long c start reads starts =
    let none : (Err too_long >>= case_or_refusal) ≡ Ok c = subst (λ (r : Result (List ℕ) Response). (r >>= case_or_refusal) ≡ Ok c) (over_limit bytes long) reads in
    absurd (cc none)

pub valid-ended : (bytes given : List ℕ) (carried : Result Response Stop) (answered : Result Response Memory) → length bytes ≤ 16777216 → given ≡ bytes
    → Stands (λ (done : Response). done) carried (start_response given) → IfOk carried (λ _. StartsValidIn given) → IfOk answered (IsEitherWay carried) → IfOk answered (λ _. StartsValid bytes)
valid-ended bytes given (Ok done) (Ok response) few same stands valid is =
    λ c start reads starts. valid c start (subst (λ (xs : List ℕ). case_or_refusal xs ≡ Ok c) (sym same) (within bytes c few reads)) starts
valid-ended bytes given (Err stop) (Ok response) few same stands valid is =
    λ c start reads starts.
    let refused : start_response given ≡ Err response = stands response is in
    let loaded : start_response given ≡ Ok (root_of_start start) = started given c start (subst (λ (xs : List ℕ). case_or_refusal xs ≡ Ok c) (sym same) (within bytes c few reads)) starts in
    absurd (cc (refused, loaded))
valid-ended bytes given carried (Err e) few same stands valid is = tt
