use Rattle.deposits.proofs.BurningLemmas.{burn-claims-can, burn-losers-can, burned-told}
use Rattle.deposits.proofs.settling.burned.Goals as goal

pub tell_claims-requires-clause-can : goal.tell_claims-requires-clause-can
tell_claims-requires-clause-can c = rw (c.claims.ensures, c.in_ok-ledger.ensures) (burn-claims-can c.args.stake c.args.provers c.args.record.now c.requires.settled_up)

pub tell_burned-requires : goal.tell_burned-requires
tell_burned-requires c =
    rw (c.tell_claims.ensures, c.disputes.ensures, c.claims.ensures, c.in_ok-ledger.ensures) (burn-losers-can c.args.stake c.args.provers c.args.record.now c.requires.settled_up)

pub returns : goal.returns
returns c =
    let told = rw (c.tell_claims.ensures, c.disputes.ensures, c.claims.ensures, c.in_ok-ledger.ensures) at c.tell_burned.ensures in
    burned-told c.args.stake c.args.provers c.args.record.now _ _ c.requires.settled_up told c.into_balances.ensures.of c.into_balances.ensures.pool
