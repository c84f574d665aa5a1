use Rattle.std.proofs.Common.{map, length, ◌∙◌, sym, ap, arith}
use Rattle.std.proofs.lemmas.List.{length-map}
use Rattle.std.proofs.lemmas.Result.{IfOk-weaker}
use Rattle.case_match.specs.declared.opening.LoadedCase.{LoadedCase}
use Rattle.case_match.specs.declared.opening.EndedCase.{EndedCase}
use Rattle.case_reader.specs.Case.{data_of}
use Rattle.case_match.proofs.TaskLemmas.{as-alone, all-settled-up}
use Rattle.case_match.proofs.verdict.verdict_of_tasks.Goals as goal

pub ended_tasks-requires-clause-some : goal.ended_tasks-requires-clause-some
ended_tasks-requires-clause-some g c κs within =
    omega (arith, sym (length-map c.in_ok-loads.loads.items (λ (l : LoadedCase). l.start)) ∙ ap length c.in_ok-loads.ensures.starts, c.requires.count, c.requires.some)

pub ended_tasks-requires-clause-few : goal.ended_tasks-requires-clause-few
ended_tasks-requires-clause-few g c κs within =
    omega (arith, sym (length-map c.in_ok-loads.loads.items (λ (l : LoadedCase). l.start)) ∙ ap length c.in_ok-loads.ensures.starts, c.requires.count, c.requires.few)

pub ended_tasks-requires-clause-fresh : goal.ended_tasks-requires-clause-fresh
ended_tasks-requires-clause-fresh g c κs within = c.in_ok-loads.ensures.fresh g.D.Digester.digest_of c.requires.chained

pub returns-clause-as_alone : goal.returns-clause-as_alone
returns-clause-as_alone g c =
    IfOk-weaker c.endings.result _ _
    (λ es are. as-alone g.D.Digester.digest_of c.in_ok-loads.loads.items (map data_of c.args.cases.now) c.args.starts.items es.items c.in_ok-loads.ensures.cases c.in_ok-loads.ensures.starts
    (are ∙ ap (map (λ (e : EndedCase). (e.end.match_record, e.end.verdict))) c.in_ok-ends.ensures.ended))
    c.endings.ensures

pub returns-clause-settled_up : goal.returns-clause-settled_up
returns-clause-settled_up g c =
    IfOk-weaker c.endings.result _ _
    (λ es are. all-settled-up c.records_of_cases_are_settled_up.ensures g.D.Digester.digest_of c.in_ok-loads.loads.items (map data_of c.args.cases.now) es.items c.in_ok-loads.ensures.cases
    (are ∙ ap (map (λ (e : EndedCase). (e.end.match_record, e.end.verdict))) c.in_ok-ends.ensures.ended))
    c.endings.ensures
