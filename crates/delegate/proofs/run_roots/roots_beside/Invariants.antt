use Rattle.std.proofs.Common.{◌≡◌, ℕ, map, flat_map, take}
use Rattle.rd_base.specs.declared.digest.Digest32.{Digest32}
use Rattle.delegate.proofs.run_roots.roots_beside.Given as goal

-- the bytes of the roots of the steps so far
abbrev pub invariant-steps : goal.invariant-steps
invariant-steps l = (root : ℕ → Digest32) → l.roots ≡ map root l.sorted → l.text.items ≡ flat_map (λ i. (root i).0) (take l.step-index l.steps)
