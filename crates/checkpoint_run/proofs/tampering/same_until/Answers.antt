use Rattle.std.proofs.Common.{◌-◌, sym, ◌∙◌, arith}
use Rattle.rv_step.specs.State.{state_of}
use Rattle.checkpoint_run.proofs.QuietLemmas.{quiet, to_come_none, to_come_within, to_come_quiet}
use Rattle.checkpoint_run.proofs.tampering.same_until.Goals as goal

pub returns-in-Some-clause-same : goal.returns-in-Some-clause-same
returns-in-Some-clause-same c first here =
    let t = c.args.tamper.now in
    let s = state_of c.args.machine.now in
    let step = c.in-Some.step in
    let is = sym c.tamper_to_come.ensures.step ∙ c.in-Some.is in
    let within = to_come_within t c.args.goal c.args.i step is in
    let behind = within.0 in
    quiet c.stopped_states_stay.ensures t first (step - 1) c.args.i (step - 1) s (to_come_quiet t c.args.goal c.args.i step s is (sym c.if-not-has_ended.ensures)) (omega arith) (omega arith) here

pub returns-in-None-clause-same : goal.returns-in-None-clause-same
returns-in-None-clause-same c first here =
    let t = c.args.tamper.now in
    let s = state_of c.args.machine.now in
    let is = sym c.tamper_to_come.ensures.step ∙ c.in-None.is in
    let below = c.requires in
    quiet c.stopped_states_stay.ensures t first c.args.goal c.args.i (c.args.goal - 1) s (to_come_none t c.args.goal c.args.i s (sym c.if-not-has_ended.ensures) is) (omega arith) (omega arith) here
