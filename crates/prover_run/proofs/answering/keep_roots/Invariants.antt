use Rattle.std.proofs.Common.{◌≡◌, ℕ, List, map}
use Rattle.segment_replay.specs.Roots.{digests}
use Rattle.prover_run.specs.Prover.{AreKept}
use Rattle.prover_run.proofs.answering.keep_roots.Given as goal

abbrev pub invariant-steps : goal.invariant-steps
invariant-steps l = (root : ℕ → List ℕ) → digests l.made ≡ map root l.steps → AreKept root l.initial.roots.entries → AreKept root l.roots.entries
