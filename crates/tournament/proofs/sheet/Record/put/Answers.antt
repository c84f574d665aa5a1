use Rattle.std.proofs.Common.{sym, ap, arith, []}
use Rattle.tournament.specs.Bracket.{Record}
use Rattle.bisect_game.specs.Rules.{Rules, rules_of}
use Rattle.tournament.proofs.keeping.KeepingLemmas.{asked-within, asked-asks, put-there, put-nowhere}
use Rattle.tournament.proofs.sheet.Record.put.Goals as goal

pub index_mut-requires : goal.index_mut-requires
index_mut-requires g c =
    omega (arith, asked-within c.args.p c.in-Some.i c.in-Some.side _ c.self.inside.disputes.items c.as_slice.ensures.value (sym c.in-Some.ensures), c.self.inside.disputes.ok.0)

pub settle-requires : goal.settle-requires
settle-requires g c =
    let rules : Rules = rules_of (g.J.Judge.ruling (g.J.Judge.names c.args.judge.now)) (record { provers = 1; bound = 1; fan = 2; patience = 0; start = record { 0 = [] } }) in
    asked-asks rules c.args.p c.in-Some.i c.args.settled c.in-Some.side _ c.self.inside.disputes.items c.index_mut.result.now c.as_slice.ensures.value (sym c.in-Some.ensures) c.index_mut.ensures.value

pub returns-in-Some : goal.returns-in-Some
returns-in-Some g c = λ setup.
    put-there (rules_of (g.J.Judge.ruling (g.J.Judge.names c.args.judge.now)) setup) c.args.p c.in-Some.i c.args.settled c.in-Some.side c.args.self.now c.self.inside.disputes.items _ c.self.inside.claims.items c.index.result.now
    c.index_mut.result.now c.settle.new.self (sym (ap (λ (r : Record). r.disputes) c.self.view_is)) (sym (ap (λ (r : Record). r.claims) c.self.view_is)) c.as_slice.ensures.value c.index.ensures c.if-is_none.ensures (sym c.in-Some.ensures) c.index_mut.ensures.value c.settle.ensures

pub returns-in_default : goal.returns-in_default
returns-in_default g c = λ setup.
    put-nowhere (rules_of (g.J.Judge.ruling (g.J.Judge.names c.args.judge.now)) setup) c.args.p c.args.settled c.args.self.now c.self.inside.disputes.items _ c.self.inside.claims.items c.index.result.now
    (sym (ap (λ (r : Record). r.disputes) c.self.view_is)) (sym (ap (λ (r : Record). r.claims) c.self.view_is)) c.as_slice.ensures.value c.index.ensures c.if-is_none.ensures c.in_default.ensures
