use Rattle.std.proofs.Common.{◌+◌, ◌%◌, refl, sym, ap, subst, ◌∙◌, arith}
use Rattle.checkpoint_run.specs.Keeping.{IsPushed}
use Rattle.checkpoint_run.proofs.EndedLemmas.{kept_still, kept_there, covered, end_late, end_late_kept}
use Rattle.checkpoint_run.proofs.recording.skip_stretch.Goals as goal

pub step_noting_changes-requires-clause-recorded : goal.step_noting_changes-requires-clause-recorded
step_noting_changes-requires-clause-recorded g c = (c.requires.ended.0, kept_still c.stopped_states_stay.ensures g.D.Digester.digest_of c.args.tamper.now c.requires.ended.0 c.args.every c.requires.ended.1 c.args.step c.args.recording.now c.requires.ended.2 c.requires.ended.3 c.record_ended_state.new.recorded (c.args.recording.now.at + c.from.result) (omega arith) (c.in_ok-record_ended_state.ensures.recorded g.D.Digester.digest_of c.args.tamper.now c.requires.ended.0 c.args.recording.now.at))

pub record_checkpoint-requires-clause-pages : goal.record_checkpoint-requires-clause-pages
record_checkpoint-requires-clause-pages g c = (c.in_ok-step_noting_changes.ensures.recorded c.requires.ended.0 (kept_still c.stopped_states_stay.ensures g.D.Digester.digest_of c.args.tamper.now c.requires.ended.0 c.args.every c.requires.ended.1 c.args.step c.args.recording.now c.requires.ended.2 c.requires.ended.3 c.record_ended_state.new.recorded (c.args.recording.now.at + c.from.result) (omega arith) (c.in_ok-record_ended_state.ensures.recorded g.D.Digester.digest_of c.args.tamper.now c.requires.ended.0 c.args.recording.now.at))).pages

pub record_checkpoint-requires-clause-shown : goal.record_checkpoint-requires-clause-shown
record_checkpoint-requires-clause-shown g c = (c.in_ok-step_noting_changes.ensures.recorded c.requires.ended.0 (kept_still c.stopped_states_stay.ensures g.D.Digester.digest_of c.args.tamper.now c.requires.ended.0 c.args.every c.requires.ended.1 c.args.step c.args.recording.now c.requires.ended.2 c.requires.ended.3 c.record_ended_state.new.recorded (c.args.recording.now.at + c.from.result) (omega arith) (c.in_ok-record_ended_state.ensures.recorded g.D.Digester.digest_of c.args.tamper.now c.requires.ended.0 c.args.recording.now.at))).shown

pub returns : goal.returns
returns g c first bound ended is =
    let covers = covered c.stopped_states_stay.ensures g.D.Digester.digest_of c.args.tamper.now first c.args.every bound c.args.step c.args.recording.now ended is c.record_ended_state.new.recorded.checkpoints.items (c.args.recording.now.at + c.from.result) (ap (λ n. c.args.recording.now.at + n) c.from.ensures) c.in_ok-record_ended_state.ensures.pushed c.in_ok-record_ended_state.ensures.same in
    let recorded = kept_there c.stopped_states_stay.ensures g.D.Digester.digest_of c.args.tamper.now first c.args.every bound c.args.step c.args.recording.now ended is c.step_noting_changes.new.machine c.step_noting_changes.new.recorded (c.in_ok-step_noting_changes.ensures.recorded first (kept_still c.stopped_states_stay.ensures g.D.Digester.digest_of c.args.tamper.now first c.args.every bound c.args.step c.args.recording.now ended is c.record_ended_state.new.recorded (c.args.recording.now.at + c.from.result) (omega arith) (c.in_ok-record_ended_state.ensures.recorded g.D.Digester.digest_of c.args.tamper.now first c.args.recording.now.at))) in
    end_late c.stopped_states_stay.ensures g.D.Digester.digest_of c.args.tamper.now first c.args.every bound c.args.step c.args.recording.now ended is _ c.record_ended_state.new.recorded.checkpoints.items refl recorded covers c.in_ok-step_noting_changes.ensures.checkpoints c.requires.every (λ same. c.if-step-from-eq0.false (ap (λ n. c.args.step % n) c.from-2.ensures ∙ same))

pub returns-then-step-from-eq0 : goal.returns-then-step-from-eq0
returns-then-step-from-eq0 g c first bound ended is =
    let covers = covered c.stopped_states_stay.ensures g.D.Digester.digest_of c.args.tamper.now first c.args.every bound c.args.step c.args.recording.now ended is c.record_ended_state.new.recorded.checkpoints.items (c.args.recording.now.at + c.from.result) (ap (λ n. c.args.recording.now.at + n) c.from.ensures) c.in_ok-record_ended_state.ensures.pushed c.in_ok-record_ended_state.ensures.same in
    let recorded = kept_there c.stopped_states_stay.ensures g.D.Digester.digest_of c.args.tamper.now first c.args.every bound c.args.step c.args.recording.now ended is c.step_noting_changes.new.machine c.step_noting_changes.new.recorded (c.in_ok-step_noting_changes.ensures.recorded first (kept_still c.stopped_states_stay.ensures g.D.Digester.digest_of c.args.tamper.now first c.args.every bound c.args.step c.args.recording.now ended is c.record_ended_state.new.recorded (c.args.recording.now.at + c.from.result) (omega arith) (c.in_ok-record_ended_state.ensures.recorded g.D.Digester.digest_of c.args.tamper.now first c.args.recording.now.at))) in
    let new = c.in_ok-record_checkpoint.ensures.recorded g.D.Digester.digest_of c.args.tamper.now first c.args.step refl recorded in
    end_late_kept c.stopped_states_stay.ensures g.D.Digester.digest_of c.args.tamper.now first c.args.every bound c.args.step c.args.recording.now ended is _ c.record_ended_state.new.recorded.checkpoints.items refl new covers (subst (λ cs. IsPushed cs c.record_checkpoint.new.recorded.checkpoints.items c.args.step) c.in_ok-step_noting_changes.ensures.checkpoints c.in_ok-record_checkpoint.ensures.pushed) (ap (λ n. c.args.step % n) (sym c.from-2.ensures) ∙ c.if-step-from-eq0.true)
