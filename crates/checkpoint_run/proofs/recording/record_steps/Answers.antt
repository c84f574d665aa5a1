use Rattle.std.proofs.Common.{◌≡◌, false, inl, inr, ⊎_elim, sym, ap, ◌∙◌, arith}
use Rattle.std.proofs.lemmas.Bool.{cases_lt}
use Rattle.rv_step.specs.State.{State, state_of}
use Rattle.checkpoint_run.specs.TamperedRun.{run_from}
use Rattle.checkpoint_run.specs.AtRest.{ended}
use Rattle.checkpoint_run.proofs.recording.record_steps.Goals as goal

pub steps-init : goal.steps-init
steps-init g c =
    let at = c.requires.start in
    record {
      within = omega (arith, at);
      under_way = c.requires.under_way;
      before = λ k early. absurd (omega (arith, at, early));
    }

pub steps-preserved : goal.steps-preserved
steps-preserved g c =
    let r = c.steps.recording in
    let inv = c.steps.invariant in
    let tamper = c.args.tamper.now in
    let first : State = state_of c.args.recording.now.machine in
    let at = c.in_ok-record_step.ensures.at in
    let here : ended tamper r.at (run_from tamper first r.at) ≡ false = sym (c.if-not-has_ended.ensures ∙ ap (ended tamper r.at) inv.under_way.recorded.state) in
    record {
      within = omega (arith, at, c.steps-test.true);
      under_way = c.in_ok-record_step.ensures.under_way first inv.under_way;
      before = λ k early. ⊎_elim
          (λ earlier. inv.before k earlier)
          (λ late. let last : k ≡ r.at = omega (arith, at, early) in ap (λ n. ended tamper n (run_from tamper first n)) last ∙ here)
          (cases_lt k r.at);
    }

pub returns-else-not-has_ended : goal.returns-else-not-has_ended
returns-else-not-has_ended g c =
    let r = c.steps.recording in
    let inv = c.steps.invariant in
    record {
      under_way = inv.under_way;
      within = inv.within;
      before = inv.before;
      ends = inl (sym (c.if-not-has_ended.ensures ∙ ap (ended c.args.tamper.now r.at) inv.under_way.recorded.state));
    }

pub returns-after-steps : goal.returns-after-steps
returns-after-steps g c =
    let inv = c.steps.invariant in
    let within = inv.within in
    let past = c.steps-test.false in
    record {
      under_way = inv.under_way;
      within = within;
      before = inv.before;
      ends = inr (omega arith);
    }
