use Rattle.delegate.proofs.RootsAtLemmas.{found, beside}
use Rattle.delegate.proofs.run_roots.root_beside.Goals as goal

pub unwrap-place-requires : goal.unwrap-place-requires
unwrap-place-requires c = found c.args.sorted.now c.args.step c.binary_search.result c.binary_search.ensures.position c.requires.sorted c.requires.there

pub returns : goal.returns
returns c = λ root beside_.
    beside root c.args.sorted.now c.args.roots.now c.args.step c.unwrap-place.result c.binary_search.result _ c.binary_search.ensures.position c.requires.sorted c.unwrap-place.ensures beside_
