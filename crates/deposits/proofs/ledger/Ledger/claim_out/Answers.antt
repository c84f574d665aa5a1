use Rattle.std.proofs.Common.{refl}
use Rattle.deposits.proofs.StepLemmas.{same-test, claim-funded, claim-kept, claim-told}
use Rattle.deposits.proofs.ledger.Ledger.claim_out.Goals as goal

pub overflow_sub-index_mut : goal.overflow_sub-index_mut
overflow_sub-index_mut c =
    let place = rw (← c.self.view_is) at c.requires.known in
    let live = rw (← c.self.view_is) at (c.requires.not_yet c.args.p (same-test c.args.p c.args.p refl)) in
    claim-funded c.self.inside.stake c.args.p _ c.self.inside.of.items c.self.inside.out.items c.self.inside.pool c.self.invariant place.0 place.1 live c.index_mut.ensures.value

pub invariant_of-self : goal.invariant_of-self
invariant_of-self c =
    let place = rw (← c.self.view_is) at c.requires.known in
    let live = rw (← c.self.view_is) at (c.requires.not_yet c.args.p (same-test c.args.p c.args.p refl)) in
    claim-kept c.self.inside.stake c.args.p _ c.self.inside.of.items c.self.inside.out.items c.self.inside.pool c.self.invariant place.0 place.1 live c.index_mut.ensures.value

pub returns : goal.returns
returns c =
    let place = rw (← c.self.view_is) at c.requires.known in
    rw (← c.self.view_is)
    (claim-told c.self.inside.stake c.args.p _ c.self.inside.of.items c.self.inside.out.items c.self.inside.pool c.self.invariant place.0 place.1 c.index_mut.ensures.value)
