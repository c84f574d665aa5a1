use Rattle.std.proofs.Common.{◌∙◌, ◌∷◌, ◌++◌, [], List, sym, ap}
use Rattle.std.proofs.lemmas.List.{map_more}
use Rattle.rd_base.specs.declared.digest.Digest32.{Digest32}
use Rattle.prover_script.proofs.altering.each_is.Goals as goal

pub roots-preserved : goal.roots-preserved
roots-preserved c =
    c.in_ok-push.ensures.items
    ∙ (ap (λ (xs : List Digest32). xs ++ c.args.root ∷ []) c.roots.invariant
    ∙ sym (map_more (λ (_ : Digest32). c.args.root) c.as_slice-items.result.now c.roots.index (record { 0 = [] }) c.roots-test.true))
