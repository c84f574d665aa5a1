-- The trees that a machine is kept with, from step to step.
use Rattle.std.proofs.Common.{◌≡◌, ℕ, List, Option, Some, None, sym, ap, ◌∙◌, subst}
use Rattle.rd_base.specs.Scheme.{scheme_of}
use Rattle.rd_base.specs.declared.digest.Digest32.{Digest32}
use Rattle.rv_step.specs.State.{State}
use Rattle.mem_tree.specs.InputTree.{IsInputTree}
use Rattle.state_commit.specs.Committing.{HasTreeFor, HasRegisters, HasInput}

-- a state's tree of registers is there as its version has one
pub tree-for : (s : State) (tree : Option (List ℕ)) → HasRegisters s tree → HasTreeFor s.version tree
tree-for s (Some xs) has = has.0
tree-for s None has = has

-- a state with the same version and input has the same tree of its input
pub input-kept : (digest : List ℕ → List ℕ) (s t : State) (tree : Option (List Digest32)) → t.version ≡ s.version → t.input ≡ s.input → HasInput digest s tree → HasInput digest t tree
input-kept digest s t (Some nodes) version input has = (ap (λ v. (scheme_of v).input) version ∙ has.0, subst (λ xs. IsInputTree digest nodes xs) (sym input) has.1)
input-kept digest s t None version input has = ap (λ v. (scheme_of v).input) version ∙ has
