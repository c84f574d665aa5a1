use Rattle.std.proofs.Common.{ℕ, ◌++◌, [], List, length, sym, ap, subst, ◌∙◌}
use Rattle.std.proofs.Math.Numerals.{add-one}
use Rattle.std.proofs.lemmas.List.{append-nil}
use Rattle.rv_step.specs.State.{State}
use Rattle.checkpoint_run.specs.TamperedRun.{next_of, run_from}
use Rattle.checkpoint_run.specs.WrittenPages.{written_by}
use Rattle.checkpoint_run.specs.Keeping.{AllStand, at_first}
use Rattle.checkpoint_run.specs.declared.version.Version.{Version}
use Rattle.checkpoint_run.proofs.RecordLemmas.{all_stand_on, noted_below, noted_shown, noted_few}
use Rattle.checkpoint_run.proofs.recording.step_noting_changes.Goals as goal

pub returns-clause-recorded : goal.returns-clause-recorded
returns-clause-recorded g c first k =
    let old = c.args.recorded.now in
    let f = c.in_ok-pages.ensures in
    let from = c.args.from in
    let run : ℕ → State = run_from c.args.tamper.now first in
    let Q : List ℕ → Type 0 = λ out. AllStand old.checkpoints.items old.versions.items out run in
    let R : List Version → Type 0 = λ vs. AllStand old.checkpoints.items vs (c.args.machine.now.output.items ++ f.adds.0) run in
    record {
      state = f.state ∙ (ap (next_of c.args.tamper.now from) k.state ∙ ap run (sym (add-one from)));
      chained = f.chained;
      some = k.some;
      pages = noted_below c.in_ok-pages.pages f.two old.changed.keys c.note_changed_page.new.changed.keys c.note_changed_page-2.new.changed.keys f.pages c.in_ok-note_changed_page.ensures.pages c.in_ok-note_changed_page-2.ensures.pages k.pages;
      shown = noted_shown c.in_ok-pages.pages f.two old.changed.keys c.note_changed_page.new.changed.keys c.note_changed_page-2.new.changed.keys old.versions.items c.args.machine.now.mem c.step_tampered.new.machine.mem
          c.in_ok-note_changed_page.ensures.named c.in_ok-note_changed_page.ensures.stays c.in_ok-note_changed_page-2.ensures.named c.in_ok-note_changed_page-2.ensures.stays f.elsewhere k.shown;
      places = c.in_ok-note_changed_page-2.ensures.places;
      noted = c.in_ok-note_changed_page-2.ensures.noted;
      few = noted_few c.args.tamper.now first from c.in_ok-pages.pages (length old.versions.items) (length old.changed.keys) (length c.note_changed_page.new.changed.keys) (length c.note_changed_page-2.new.changed.keys) (at_first old.checkpoints.items)
          (f.written ∙ ap (written_by c.args.tamper.now from) k.state) c.in_ok-note_changed_page.ensures.few c.in_ok-note_changed_page-2.ensures.few k.few;
      each = subst Q (sym f.adds.1) (subst R (append-nil old.versions.items) (all_stand_on old.checkpoints.items old.versions.items [] c.args.machine.now.output.items f.adds.0 run k.each));
      chains = k.chains;
    }
