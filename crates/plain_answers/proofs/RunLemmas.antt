-- Steps of a run, and lists of roots.
use Rattle.std.proofs.Common.{◌≡◌, ◌≤◌, ◌<◌, ℕ, zero, suc, ◌+◌, ◌-◌, List, [], ◌∷◌, ◌++◌, take, get_or, length, map, sym, ap, ◌∙◌, arith, add-zero, add-suc}
use Rattle.std.proofs.lemmas.List.{map_more}
use Rattle.rd_base.specs.declared.digest.Digest32.{Digest32}
use Rattle.rv_step.specs.State.{State}
use Rattle.rv_step.specs.Step.{step, state_at}

state_at-add : (s : State) (n k : ℕ) → state_at s (n + k) ≡ state_at (state_at s n) k
state_at-add s n zero = ap (state_at s) (add-zero n)
state_at-add s n (suc k) = ap (state_at s) (add-suc n k) ∙ ap step (state_at-add s n k)

-- a run that goes on from a state of a run
pub goes-on : (s t r : State) (at to : ℕ) → at ≤ to → t ≡ state_at s at → r ≡ state_at t (to - at) → r ≡ state_at s to
goes-on s t r at to before is further =
    let whole : at + (to - at) ≡ to = omega (arith, before) in
    further ∙ (ap (λ (u : State). state_at u (to - at)) is ∙ (sym (state_at-add s at (to - at)) ∙ ap (state_at s) whole))

-- the root of one step more
pub one-more : (f : ℕ → Digest32) (steps : List ℕ) (i : ℕ) (roots now : List Digest32) (r : Digest32) → i < length steps → now ≡ roots ++ r ∷ [] → roots ≡ map f (take i steps)
    → r.0 ≡ (f (get_or steps i 0)).0 → now ≡ map f (take (i + 1) steps)
one-more f steps i roots now r low is so_far here =
    let same : r ≡ f (get_or steps i 0) = λ j. record { 0 = here j } in
    is ∙ (ap (λ (l : List Digest32). l ++ r ∷ []) so_far ∙ (ap (λ (x : Digest32). map f (take i steps) ++ x ∷ []) same ∙ sym (map_more f steps i 0 low)))
