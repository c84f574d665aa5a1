use Rattle.std.proofs.Common.{All, map, length, [], ◌∙◌, sym, ap, subst, arith}
use Rattle.std.proofs.lemmas.List.Elements.{All-nil, All-cons, All-head}
use Rattle.case_match.specs.declared.opening.LoadedCase.{LoadedCase}
use Rattle.case_match.specs.declared.opening.EndedCase.{EndedCase}
use Rattle.deposits.specs.Balances.{IsSettledUp}
use Rattle.case_match.specs.Openings.{IsFresh, ended_of_loaded}
use Rattle.case_match.proofs.TaskLemmas.{one-loaded, only-last}
use Rattle.case_match.proofs.verdict.verdict_of_case.Goals as goal

pub ended_tasks-requires-clause-some : goal.ended_tasks-requires-clause-some
ended_tasks-requires-clause-some g c κs within = omega (arith, ap length (one-loaded c.in_ok-loads.loads.items c.push.new.self.items _ c.in_ok-loads.ensures.items c.in_ok-push.ensures.items))

pub ended_tasks-requires-clause-few : goal.ended_tasks-requires-clause-few
ended_tasks-requires-clause-few g c κs within = omega (arith, ap length (one-loaded c.in_ok-loads.loads.items c.push.new.self.items _ c.in_ok-loads.ensures.items c.in_ok-push.ensures.items))

pub ended_tasks-requires-clause-fresh : goal.ended_tasks-requires-clause-fresh
ended_tasks-requires-clause-fresh g c κs within =
    subst (All (λ (l : LoadedCase). IsFresh g.D.Digester.digest_of l.start)) (sym (one-loaded c.in_ok-loads.loads.items c.push.new.self.items _ c.in_ok-loads.ensures.items c.in_ok-push.ensures.items))
    (All-cons (λ (l : LoadedCase). IsFresh g.D.Digester.digest_of l.start) _ [] (record { chained = c.requires.chained; silent = c.requires.silent }) (All-nil (λ (l : LoadedCase). IsFresh g.D.Digester.digest_of l.start)))

pub returns-clause-settled_up : goal.returns-clause-settled_up
returns-clause-settled_up g c =
    let one = one-loaded c.in_ok-loads.loads.items c.push.new.self.items _ c.in_ok-loads.ensures.items c.in_ok-push.ensures.items in
    let are = c.in_ok-ends.ensures.ended ∙ ap (map (ended_of_loaded g.D.Digester.digest_of)) one in
    let last = only-last c.in_ok-ends.ends.items c.pop.new.self.items c.pop.result _ c.unwrap-end.result are c.pop.ensures.items c.unwrap-end.ensures in
    subst (λ (e : EndedCase). IsSettledUp (length c.args.case.now.provers) e.end.match_record) (sym last)
    (All-head (λ (e : EndedCase). IsSettledUp (length e.case.now.provers) e.end.match_record) _ []
    (subst (All (λ (e : EndedCase). IsSettledUp (length e.case.now.provers) e.end.match_record)) are c.in_ok-ends.ensures.settled_up))
