use Rattle.std.proofs.Common.{◌≡◌, map, take}
use Rattle.prover_script.proofs.altering.each_is.Given as goal

-- so far as many as these
abbrev pub invariant-roots : goal.invariant-roots
invariant-roots l = l.same.items ≡ map (λ _. l.root) (take l.index l.items)
