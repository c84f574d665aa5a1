use Rattle.std.proofs.Common.{◌∙◌, map, Ok, sym, ap}
use Rattle.case_reader.specs.Tasks.{tasks_data}
use Rattle.digest_core.specs.Name.{digest_of}
use Rattle.delegate.specs.Decided.{together, responses_to_cases}
use Rattle.delegate.specs.Standing.{loaded_data}
use Rattle.delegate.proofs.CaseLemmas.{all-judged, loads-in-range}
use Rattle.delegate.proofs.TaskLemmas.{all-fresh, all-played, told-together}
use Rattle.delegate.proofs.commands.judge.response_to_tasks.Goals as goal

pub ended_by-requires-clause-fresh : goal.ended_by-requires-clause-fresh
ended_by-requires-clause-fresh g c κs within = all-fresh (digest_of c.args.asked.digest) c.in_ok-loads.loads.items c.in_ok-loads.ensures.ready

pub returns-clause-stands : goal.returns-clause-stands
returns-clause-stands g c =
    all-judged c.args.asked (tasks_data c.args.tasks.now) (map loaded_data c.in_ok-loads.loads.items) c.in_ok-loads.ensures.stands
    ∙ ap Ok (sym (told-together c.args.asked c.first_subject-subject.result c.in_ok-loads.loads.items c.in_ok-ends.ends.items c.as_slice.result.now c.in_ok-answered.answered c.new-bytes.result.items
    c.add_texts.new.out.items c.new.result c.in_ok-ends.ensures.ended c.as_slice.ensures.value c.new-bytes.ensures.items c.in_ok-answered.ensures.texts c.in_ok-answered.ensures.answered c.new.ensures
    ∙ ap (λ subject. together subject (responses_to_cases c.args.asked (map loaded_data c.in_ok-loads.loads.items))) c.first_subject-subject.ensures.subject))

pub returns-clause-in_range : goal.returns-clause-in_range
returns-clause-in_range g c =
    loads-in-range c.args.asked (tasks_data c.args.tasks.now) (map loaded_data c.in_ok-loads.loads.items) c.in_ok-loads.ensures.stands
    (all-played c.args.asked c.in_ok-loads.loads.items c.in_ok-ends.ends.items c.as_slice.result.now c.in_ok-ends.ensures.ended c.as_slice.ensures.value c.in_ok-loads.ensures.ready c.in_ok-answered.ensures.shown)
