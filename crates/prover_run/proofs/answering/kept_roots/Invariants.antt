use Rattle.std.proofs.Common.{◌≡◌, ℕ, List, length, map, take}
use Rattle.segment_replay.specs.Roots.{digests}
use Rattle.prover_run.specs.Prover.{AreKept}
use Rattle.prover_run.proofs.answering.kept_roots.Given as goal

abbrev pub invariant-steps : goal.invariant-steps
invariant-steps l = record {
  count : length l.found.items ≡ l.step-index;
  so_far : (root : ℕ → List ℕ) → AreKept root l.roots.entries → digests l.found.items ≡ map root (take l.step-index l.steps);
}
