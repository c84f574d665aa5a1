use Rattle.std.proofs.Common.{◌≡◌, ◌∙◌, sym, ap, true}
use Rattle.tournament.specs.Bracket.{live, is_stage_due}
use Rattle.tournament.specs.Keeping.{Sheet, sides}
use Rattle.bisect_game.specs.Rules.{rules_of}
use Rattle.tournament.proofs.OpenedLemmas.{opened-not}
use Rattle.tournament.proofs.keeping.KeepingLemmas.{stage-is, stage-few, filled-live}
use Rattle.tournament.proofs.sheet.Sheet.open_due.Goals as goal

pub returns-then-not-is_stage_due-clause-record_ : goal.returns-then-not-is_stage_due-clause-record_
returns-then-not-is_stage_due-clause-record_ g c =
    sym (opened-not (rules_of (g.J.Judge.ruling (g.J.Judge.names c.args.judge.now)) c.args.self.now.setup) c.args.self.now.record_ (sym c.is_stage_due.ensures ∙ c.if-not-is_stage_due.true))

pub open_pairs-requires-clause-few : goal.open_pairs-requires-clause-few
open_pairs-requires-clause-few g c =
    let xs : c.fill_live.new.live.items ≡ sides (g.J.Judge.ruling (g.J.Judge.names c.args.judge.now)) (live c.args.self.now.record_) =
    filled-live (g.J.Judge.ruling (g.J.Judge.names c.args.judge.now)) c.args.self.now.record_ c.self.inside.record_.disputes _ c.self.inside.record_.claims _ c.fill_live.new.live.items _
    (sym (ap (λ (s : Sheet). s.record_.disputes) c.self.view_is)) (sym (ap (λ (s : Sheet). s.record_.claims) c.self.view_is)) c.disputes.ensures c.claims.ensures c.clear.ensures.items c.fill_live.ensures.items in
    let due : is_stage_due (rules_of (g.J.Judge.ruling (g.J.Judge.names c.args.judge.now)) c.args.self.now.setup) c.args.self.now.record_ ≡ true = sym c.is_stage_due.ensures ∙ c.if-not-is_stage_due.false in
    let n : c.self.inside.setup.provers ≡ c.args.self.now.setup.provers = ap (λ (s : Sheet). s.setup.provers) c.self.view_is in
    rw (c.provers-provers.ensures.is, n) (stage-few (g.J.Judge.ruling (g.J.Judge.names c.args.judge.now)) c.args.self.now.setup c.args.self.now.record_ c.fill_live.new.live.items due xs c.requires.few)

pub returns-clause-record_ : goal.returns-clause-record_
returns-clause-record_ g c =
    let xs : c.fill_live.new.live.items ≡ sides (g.J.Judge.ruling (g.J.Judge.names c.args.judge.now)) (live c.args.self.now.record_) =
    filled-live (g.J.Judge.ruling (g.J.Judge.names c.args.judge.now)) c.args.self.now.record_ c.self.inside.record_.disputes _ c.self.inside.record_.claims _ c.fill_live.new.live.items _
    (sym (ap (λ (s : Sheet). s.record_.disputes) c.self.view_is)) (sym (ap (λ (s : Sheet). s.record_.claims) c.self.view_is)) c.disputes.ensures c.claims.ensures c.clear.ensures.items c.fill_live.ensures.items in
    let due : is_stage_due (rules_of (g.J.Judge.ruling (g.J.Judge.names c.args.judge.now)) c.args.self.now.setup) c.args.self.now.record_ ≡ true = sym c.is_stage_due.ensures ∙ c.if-not-is_stage_due.false in
    let n : c.self.inside.setup.provers ≡ c.args.self.now.setup.provers = ap (λ (s : Sheet). s.setup.provers) c.self.view_is in
    rw (c.provers-provers.ensures.is, n, c.next_stage-stage.ensures.is) at c.open_pairs.ensures.record_ ∙ sym (stage-is (g.J.Judge.ruling (g.J.Judge.names c.args.judge.now)) c.args.self.now.setup c.args.self.now.record_ c.fill_live.new.live.items due xs)
