use Rattle.std.proofs.Common.{ℕ, List, ◌∙◌, length, ap, arith}
use Rattle.rd_base.specs.declared.digest.Digest32.{Digest32}
use Rattle.rv_step.specs.State.{state_of}
use Rattle.prover_run.specs.CaseScripts.{CaseScripts}
use Rattle.case_reader.specs.Case.{data_of}
use Rattle.case_match.proofs.TaskLemmas.{opened-as, scripts-said}
use Rattle.case_match.proofs.opening.open_match.Goals as goal

pub open-requires-clause-some : goal.open-requires-clause-some
open-requires-clause-some g c =
    let own = ap (λ (x : CaseScripts). length x.scripts) c.in_ok-provers.ensures in let same = ap length c.as_slice-scripts.ensures in
    omega (arith, own, same, c.args.case.now.somebody_plays)

pub open-requires-clause-few : goal.open-requires-clause-few
open-requires-clause-few g c =
    let own = ap (λ (x : CaseScripts). length x.scripts) c.in_ok-provers.ensures in let same = ap length c.as_slice-scripts.ensures in
    omega (arith, own, same, c.args.case.now.few_play)

pub returns-clause-opening : goal.returns-clause-opening
returns-clause-opening g c =
    ap (λ b. b.opening) c.in_ok-book.ensures
    ∙ opened-as g.D.Digester.digest_of c.new-judge.result.version (data_of c.args.case.now) (state_of c.args.start) c.as_slice-scripts.result.now c.in_ok-provers.provers c.state_root_with-root.result
    c.new-judge.ensures.version c.as_slice-scripts.ensures c.in_ok-provers.ensures (let made : List ℕ → Digest32 = λ xs. record { 0 = xs } in ap made c.state_root_with-root.ensures)

pub returns-clause-count : goal.returns-clause-count
returns-clause-count g c = c.in_ok-answerers.ensures.count ∙ ap length c.as_slice-scripts.ensures

pub returns-clause-says : goal.returns-clause-says
returns-clause-says g c =
    scripts-said _ g.D.Digester.digest_of c.new.result (state_of c.args.start) c.plan_for-plan.result.bound c.args.case.now.bound c.as_slice-scripts.result.now c.args.case.now.provers c.in_ok-answerers.answerers.items
    c.new.ensures c.plan_for-plan.ensures.bound c.as_slice-scripts.ensures c.in_ok-answerers.ensures.answers
