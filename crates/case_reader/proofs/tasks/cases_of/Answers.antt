use Rattle.std.proofs.Common.{◌≡◌, ◌≤◌, ◌+◌, ap, sym, ◌∙◌, drop, map, length, arith}
use Rattle.std.proofs.lemmas.List.{drop_all, map_push, length_push}
use Rattle.serde_json.specs.View.{view}
use Rattle.case_reader.specs.Case.{data_of}
use Rattle.case_reader.specs.Tasks.{cases_in}
use Rattle.case_reader.proofs.ReadingLemmas.{map-drop}
use Rattle.case_reader.proofs.TaskLemmas.{after, read_more, read_all_tasks, read_fault}
use Rattle.case_reader.proofs.tasks.cases_of.Goals as goal

pub returns-in-Err-clause-value : goal.returns-in-Err-clause-value
returns-in-Err-clause-value c = λ never.
    let here = map-drop view c.args.tasks.now c.tasks.i c.index-tasks-i.result c.tasks-test.true c.index-tasks-i.is in
    sym c.tasks.invariant.0
    ∙ (ap (λ left. after (map data_of c.tasks.cases.items) (cases_in (c.tasks.i + 1) left)) here
    ∙ read_fault (map data_of c.tasks.cases.items) (c.tasks.i + 1) _ _ c.in-Err.fault (c.in-Err.ensures never))

pub tasks-preserved : goal.tasks-preserved
tasks-preserved c =
    let here = map-drop view c.args.tasks.now c.tasks.i c.index-tasks-i.result c.tasks-test.true c.index-tasks-i.is in
    let before : length c.tasks.cases.items ≡ c.tasks.i = c.tasks.invariant.1 in (
      ap (λ prefix. after prefix (cases_in (c.tasks.i + 1 + 1) (map view (drop (c.tasks.i + 1) c.args.tasks.now)))) (ap (map data_of) c.in_ok-push-in-Ok.ensures.items ∙ map_push data_of c.tasks.cases.items c.in-Ok.case)
          ∙ (sym (read_more (map data_of c.tasks.cases.items) (c.tasks.i + 1) _ _ (data_of c.in-Ok.case) c.in-Ok.ensures)
          ∙ (ap (λ left. after (map data_of c.tasks.cases.items) (cases_in (c.tasks.i + 1) left)) (sym here) ∙ c.tasks.invariant.0)),
      ap length c.in_ok-push-in-Ok.ensures.items ∙ (length_push c.tasks.cases.items c.in-Ok.case ∙ ap (λ n. n + 1) before),
      omega (arith, c.tasks-test.true),
    )

pub returns-clause-value : goal.returns-clause-value
returns-clause-value c = sym c.tasks.invariant.0 ∙ read_all_tasks (map data_of c.tasks.cases.items) (c.tasks.i + 1) _ (ap (map view) (drop_all c.tasks.i c.args.tasks.now c.tasks-test.false))

pub returns-clause-count : goal.returns-clause-count
returns-clause-count c =
    let before : length c.tasks.cases.items ≡ c.tasks.i = c.tasks.invariant.1 in let few : c.tasks.i ≤ length c.args.tasks.now = c.tasks.invariant.2 in let all : length c.args.tasks.now ≤ c.tasks.i = c.tasks-test.false in
    omega (arith, before, few, all)
