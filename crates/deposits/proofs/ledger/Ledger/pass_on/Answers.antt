use Rattle.std.proofs.Common.{◌||◌, false, ap, refl}
use Rattle.deposits.proofs.StepLemmas.{same-test, claim-funded, pass-kept, pass-told}
use Rattle.deposits.proofs.ledger.Ledger.pass_on.Goals as goal

pub overflow_sub-index_mut : goal.overflow_sub-index_mut
overflow_sub-index_mut c =
    let place = rw (← c.self.view_is) at c.requires.known.first in
    let live = rw (← c.self.view_is) at (c.requires.not_yet c.args.loser (ap (λ t. t || false) (same-test c.args.loser c.args.loser refl))) in
    claim-funded c.self.inside.stake c.args.loser _ c.self.inside.of.items c.self.inside.out.items c.self.inside.pool c.self.invariant place.0 place.1 live c.index_mut.ensures.value

pub invariant_of-self : goal.invariant_of-self
invariant_of-self c =
    let place = rw (← c.self.view_is) at c.requires.known.first in
    let other = rw (← c.self.view_is) at c.requires.known.second in
    let live = rw (← c.self.view_is) at (c.requires.not_yet c.args.loser (ap (λ t. t || false) (same-test c.args.loser c.args.loser refl))) in
    pass-kept c.self.inside.stake c.args.loser c.args.winner _ _ c.self.inside.of.items c.self.inside.out.items c.self.inside.pool c.self.invariant place.0 place.1 other.0 other.1 live
    c.index_mut.ensures.value c.index_mut-3.ensures.value

pub returns : goal.returns
returns c =
    let place = rw (← c.self.view_is) at c.requires.known.first in
    let other = rw (← c.self.view_is) at c.requires.known.second in
    rw (← c.self.view_is)
    (pass-told c.self.inside.stake c.args.loser c.args.winner _ _ c.self.inside.of.items c.self.inside.out.items c.self.inside.pool c.self.invariant place.0 place.1 other.0 other.1
    c.requires.known.two c.index_mut.ensures.value c.index_mut-3.ensures.value)
