use Rattle.std.proofs.Common.{ℕ, List, length, IsPermutation, All, Contains, subst, sym, ap, ◌∙◌}
use Rattle.std.proofs.lemmas.List.{length-map}
use Rattle.sha2.specs.Sha256.{sha256}
use Rattle.rv_step.specs.State.{state_of}
use Rattle.rv_step.specs.Step.{state_at}
use Rattle.plain_answers.specs.Plain.{plain_root}
use Rattle.delegate.specs.Standing.{IsAscending}
use Rattle.delegate.proofs.RootsAtLemmas.{ascending, all-there}
use Rattle.delegate.proofs.run_roots.roots_of_run.Goals as goal

pub roots_beside-requires-clause-sorted : goal.roots_beside-requires-clause-sorted
roots_beside-requires-clause-sorted c = subst IsAscending (sym c.as_slice-in_order.ensures.value) (ascending c.sort_unstable.new.self.items c.sort_unstable.ensures.sorted)

pub roots_beside-requires-clause-beside : goal.roots_beside-requires-clause-beside
roots_beside-requires-clause-beside c =
    ap length (c.as_slice.ensures.value ∙ c.in_ok-rooted.ensures.roots) ∙ length-map c.as_slice-in_order.result.now (plain_root sha256 (state_at (state_of c.args.start)) c.args.bound)

pub roots_beside-requires-clause-there : goal.roots_beside-requires-clause-there
roots_beside-requires-clause-there c =
    subst (λ (xs : List ℕ). All (Contains xs) c.args.steps.now) (sym c.as_slice-in_order.ensures.value)
    (all-there c.args.steps.now c.sort_unstable.new.self.items
    (subst (λ (xs : List ℕ). IsPermutation xs c.sort_unstable.new.self.items) c.in_ok-sorted.ensures.items c.sort_unstable.ensures.permutation))

pub returns : goal.returns
returns c = c.roots_beside.ensures (plain_root sha256 (state_at (state_of c.args.start)) c.args.bound) (c.as_slice.ensures.value ∙ c.in_ok-rooted.ensures.roots)
