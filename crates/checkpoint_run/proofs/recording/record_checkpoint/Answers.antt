use Rattle.std.proofs.Common.{◌≡◌, ℕ, ◌+◌, ◌∷◌, [], ◌++◌, List, length, length-append, refl, sym, ap, subst, ◌∙◌, arith, rules}
use Rattle.std.proofs.lemmas.List.{append-nil}
use Rattle.digest_core.specs.Chain.{chain_of}
use Rattle.rv_step.specs.State.{State, state_of}
use Rattle.checkpoint_run.specs.TamperedRun.{run_from}
use Rattle.checkpoint_run.specs.Versions.{AreBelow, IsShownBut}
use Rattle.checkpoint_run.specs.Keeping.{AllStand}
use Rattle.checkpoint_run.specs.declared.version.Version.{Version}
use Rattle.checkpoint_run.proofs.RecordLemmas.{all_stand_on, all_stand_added, all_chained_added, at_first_on}
use Rattle.checkpoint_run.proofs.VersionLemmas.{length_added}
use Rattle.checkpoint_run.proofs.recording.record_checkpoint.Goals as goal

pub returns-clause-recorded : goal.returns-clause-recorded
returns-clause-recorded c digest tamper first at same k =
    let old = c.args.recorded.now in
    let e = c.in_ok-add_checkpoint.ensures in
    let m = c.args.machine.now in
    let run : ℕ → State = run_from tamper first in
    let s : State = state_of m in
    let versions = c.add_checkpoint.new.versions.items in
    let checkpoints = c.add_checkpoint.new.checkpoints.items in
    let here : run c.args.step ≡ s = same ∙ sym k.state in
    let R : List Version → Type 0 = λ vs. AllStand old.checkpoints.items vs m.output.items run in
    let Q : List ℕ → Type 0 = λ out. AllStand old.checkpoints.items (old.versions.items ++ e.more.0) out run in
    let before : AllStand old.checkpoints.items versions m.output.items run = subst R (sym e.more.1) (subst Q (append-nil m.output.items) (all_stand_on old.checkpoints.items old.versions.items e.more.0 m.output.items [] run k.each)) in
    let grown : length checkpoints ≡ length old.checkpoints.items + 1 = ap length e.added.pushed ∙ length-append old.checkpoints.items (e.added.checkpoint ∷ []) in
    record {
      state = k.state;
      chained = k.chained;
      some = omega arith;
      pages = subst AreBelow (sym e.none) (λ p among. absurd (search (arith, rules, among)));
      shown = subst (λ pages. IsShownBut versions pages m.mem) (sym e.none) e.shown;
      places = c.forget_recent_pages.ensures.places ∙ k.places;
      noted = c.forget_recent_pages.ensures.none c.add_checkpoint.new.changed.keys;
      few =
          let len = length_added old.versions.items versions old.changed.keys e.one in
          let none = ap length e.none in
          let start = at_first_on old.checkpoints.items checkpoints e.added.checkpoint k.some e.added.pushed in
          let few = k.few in
          omega arith;
      each = all_stand_added old.checkpoints.items checkpoints versions c.args.step s m.ctl run before e.added refl refl (m.counted ∙ m.output.ok.0) here;
      chains = all_chained_added digest old.checkpoints.items checkpoints versions c.args.step m.regs m.ctl m.mem run k.chains e.added (k.chained ∙ ap (λ (x : State). chain_of digest x.output) (sym here));
    }

pub returns-clause-pushed : goal.returns-clause-pushed
returns-clause-pushed c = let e = c.in_ok-add_checkpoint.ensures in record {
  checkpoint = e.added.checkpoint;
  pushed = e.added.pushed;
  step_is = e.added.step_is;
}
