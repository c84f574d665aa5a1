use Rattle.std.proofs.Common.{◌≡◌, drop, nat_le}
use Rattle.std.specs.List.{list_all}
use Rattle.delegate.proofs.run_roots.has_steps.Given as goal

-- none of the steps so far is above the bound
abbrev pub invariant-steps : goal.invariant-steps
invariant-steps l = list_all (λ i. nat_le i l.bound) l.steps ≡ list_all (λ i. nat_le i l.bound) (drop l.step-index l.steps)
