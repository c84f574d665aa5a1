use Rattle.std.proofs.Common.{◌≡◌, ℕ, List, IfSome, map, subst, sym, ap, ◌∙◌}
use Rattle.rd_base.specs.declared.answer.Answer.TheVariants as answer
use Rattle.rv_step.specs.State.{state_of}
use Rattle.rv_step.specs.Step.{state_at}
use Rattle.plain_answers.specs.Plain.{plain, plain_root}
use Rattle.plain_answers.proofs.answering.plain_answer.Goals as goal

pub returns-in_ok-rooted-in-Roots-clause-answer : goal.returns-in_ok-rooted-in-Roots-clause-answer
returns-in_ok-rooted-in-Roots-clause-answer g c =
    let digest = g.D.Digester.digest_of in
    let run = state_at (state_of c.args.run.now.start) in
    let bound = c.args.run.now.bound in
    let roots = c.in_ok-rooted-in-Roots.rooted.roots.items in
    let same : c.unwrap.result ≡ roots = subst (λ list. IfSome list (λ l. l ≡ roots)) c.unwrap.ensures c.new.ensures.value in
    ap answer.Roots (same ∙ (c.in_ok-rooted-in-Roots.ensures.roots ∙ ap (λ (steps : List ℕ). map (plain_root digest run bound) steps) (c.deref.ensures.value ∙ c.in_ok-steps-in-Roots.ensures.value)))
    ∙ ap (plain digest run bound) (sym c.in-Roots.is)
