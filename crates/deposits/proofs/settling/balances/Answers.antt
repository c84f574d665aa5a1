use Rattle.deposits.proofs.RecordLemmas.{claims-can, disputes-can, balances-told}
use Rattle.deposits.proofs.settling.balances.Goals as goal

pub tell_claims-requires-clause-can : goal.tell_claims-requires-clause-can
tell_claims-requires-clause-can c = rw (c.claims.ensures, c.in_ok-ledger.ensures) (claims-can c.args.stake c.args.provers c.args.record.now c.requires.settled_up)

pub tell_disputes-requires : goal.tell_disputes-requires
tell_disputes-requires c =
    rw (c.tell_claims.ensures, c.disputes.ensures, c.claims.ensures, c.in_ok-ledger.ensures) (disputes-can c.args.stake c.args.provers c.args.record.now c.requires.settled_up)

pub returns : goal.returns
returns c =
    let told = rw (c.tell_claims.ensures, c.disputes.ensures, c.claims.ensures, c.in_ok-ledger.ensures) at c.tell_disputes.ensures in
    balances-told c.args.stake c.args.provers c.args.record.now _ _ c.requires.settled_up told c.into_balances.ensures.of c.into_balances.ensures.pool
