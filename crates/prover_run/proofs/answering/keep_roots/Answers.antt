use Rattle.std.proofs.Common.{ap, ◌∙◌}
use Rattle.std.specs.Iterator.Adapters.{zip_first, zip_second}
use Rattle.std.specs.Slice.Iter.{iter_rest}
use Rattle.prover_run.proofs.RunLemmas.{root_beside}
use Rattle.prover_run.proofs.answering.keep_roots.Goals as goal

pub steps-preserved : goal.steps-preserved
steps-preserved c root same were =
    let zipped = c.into_iter-step-iterator.ensures.into_iter_gives in
    c.keep_root.ensures root
    (root_beside root _ _ c.steps.yielded c.into_iter-step-iterator.result c.steps.step-iterator c.next.new.self c.next.result c.in-Some.step c.in-Some.digest same
    (ap (λ z. iter_rest (zip_first z)) zipped ∙ (ap iter_rest c.zip-step-items.ensures.first ∙ c.iter.ensures.rest)) (ap (λ z. iter_rest (zip_second z)) zipped ∙ c.zip-step-items.ensures.second.0)
    c.steps.yielded_by c.in-Some.is c.next.ensures.steps)
    (c.steps.invariant root same were)

pub returns-in_err-keep_root : goal.returns-in_err-keep_root
returns-in_err-keep_root c root same were =
    let zipped = c.into_iter-step-iterator.ensures.into_iter_gives in
    c.keep_root.ensures root
    (root_beside root _ _ c.steps.yielded c.into_iter-step-iterator.result c.steps.step-iterator c.next.new.self c.next.result c.in-Some.step c.in-Some.digest same
    (ap (λ z. iter_rest (zip_first z)) zipped ∙ (ap iter_rest c.zip-step-items.ensures.first ∙ c.iter.ensures.rest)) (ap (λ z. iter_rest (zip_second z)) zipped ∙ c.zip-step-items.ensures.second.0)
    c.steps.yielded_by c.in-Some.is c.next.ensures.steps)
    (c.steps.invariant root same were)
