use Rattle.std.proofs.Common.{◌≡◌, ℕ, ◌+◌, ◌≤◌, List, length, slice_get, IfSome, map, sym, ap, subst, ◌∙◌, arith}
use Rattle.digest_core.specs.Chain.{chain_of}
use Rattle.rd_base.specs.declared.tamper.Tamper.{Tamper}
use Rattle.rv_step.specs.State.{State, state_of}
use Rattle.checkpoint_run.specs.TamperedRun.{tampered, run_from, still}
use Rattle.checkpoint_run.specs.WrittenPages.{writes}
use Rattle.checkpoint_run.specs.Versions.{pages_of}
use Rattle.checkpoint_run.specs.Places.{IsIndex}
use Rattle.checkpoint_run.specs.declared.version.Version.{Version}
use Rattle.checkpoint_run.specs.UnderWay.{IsUnderWay, IsAtEnd}
use Rattle.checkpoint_run.specs.declared.recording.Recording.{Recording}
use Rattle.checkpoint_run.specs.Keeping.{AllStand, AreFound, at_first, first_by, kept_chain}
use Rattle.checkpoint_run.proofs.RunLemmas.{kept_by, run_input, still_found}
use Rattle.checkpoint_run.proofs.EndLemmas.{first_of, first_version, first_input, chains_of}
use Rattle.checkpoint_run.proofs.run.record_run.Goals as goal

-- the first state of a recording that is at step 0
at_start : (digest : List ℕ → List ℕ) (tamper : Tamper) (first : State) (every : ℕ) (r : Recording) → r.at ≡ 0 → IsUnderWay digest tamper first every r → state_of r.machine ≡ first
at_start digest tamper first every r zero way = way.recorded.state ∙ ap (run_from tamper first) zero

-- where a recording ends, from the first state that is at hand
at_end : (digest : List ℕ → List ℕ) (tamper : Tamper) (first : State) (every bound : ℕ) (r last : Recording) → r.at ≡ 0 → IsUnderWay digest tamper first every r
    → IsAtEnd digest tamper (state_of r.machine) every bound last → IsAtEnd digest tamper first every bound last
at_end digest tamper first every bound r last zero way = subst (λ s. IsAtEnd digest tamper s every bound last) (at_start digest tamper first every r zero way)

pub record_to_end-requires-clause-under_way : goal.record_to_end-requires-clause-under_way
record_to_end-requires-clause-under_way g c =
    let first : State = tampered c.args.tamper 0 (state_of c.args.machine.now) in
    let begun = c.in_ok-recording.recording in
    let way = c.in_ok-recording.ensures.under_way g.D.Digester.digest_of c.requires.chained in
    subst (λ s. IsUnderWay g.D.Digester.digest_of c.args.tamper s c.args.every begun) (sym (at_start g.D.Digester.digest_of c.args.tamper first c.args.every begun c.in_ok-recording.ensures.at way)) way

pub returns-clause-first : goal.returns-clause-first
returns-clause-first g c =
    let begun : State = tampered c.args.tamper 0 (state_of c.args.machine.now) in
    let last = c.record_to_end.new.recording in
    let end : IsAtEnd g.D.Digester.digest_of c.args.tamper begun c.args.every c.args.bound last = at_end g.D.Digester.digest_of c.args.tamper begun c.args.every c.args.bound c.in_ok-recording.recording last c.in_ok-recording.ensures.at
    (c.in_ok-recording.ensures.under_way g.D.Digester.digest_of c.requires.chained) c.in_ok-record_to_end.ensures in
    let way = end.recorded in
    let held = run_input (kept_by c.runs_keep_the_input.ensures.version c.runs_keep_the_input.ensures.input) c.args.tamper begun last.at in
    first_of last.recorded.checkpoints.items last.recorded.versions.items last.machine.output.items last.machine.version last.machine.input.items (run_from c.args.tamper begun) way.some end.starts way.each
    (ap (λ s. s.version) way.state ∙ held.0) (ap (λ s. s.input) way.state ∙ held.1)

pub returns-clause-chained : goal.returns-clause-chained
returns-clause-chained g c =
    let begun : State = tampered c.args.tamper 0 (state_of c.args.machine.now) in
    let last = c.record_to_end.new.recording in
    let end : IsAtEnd g.D.Digester.digest_of c.args.tamper begun c.args.every c.args.bound last = at_end g.D.Digester.digest_of c.args.tamper begun c.args.every c.args.bound c.in_ok-recording.recording last c.in_ok-recording.ensures.at
    (c.in_ok-recording.ensures.under_way g.D.Digester.digest_of c.requires.chained) c.in_ok-record_to_end.ensures in
    let way = end.recorded in
    let held = run_input (kept_by c.runs_keep_the_input.ensures.version c.runs_keep_the_input.ensures.input) c.args.tamper begun last.at in
    let first = first_of last.recorded.checkpoints.items last.recorded.versions.items last.machine.output.items last.machine.version last.machine.input.items (run_from c.args.tamper begun) way.some end.starts way.each
    (ap (λ s. s.version) way.state ∙ held.0) (ap (λ s. s.input) way.state ∙ held.1) in
    let P : State → Type 0 = λ s. (k : ℕ) → IfSome (slice_get (map kept_chain last.recorded.checkpoints.items) k) (λ recorded. recorded.chain ≡ chain_of g.D.Digester.digest_of (run_from c.args.tamper s recorded.step).output) in
    subst P (sym first) (chains_of g.D.Digester.digest_of last.recorded.checkpoints.items (run_from c.args.tamper begun) way.chains)

pub invariant_of-result : goal.invariant_of-result
invariant_of-result g c =
    let begun : State = tampered c.args.tamper 0 (state_of c.args.machine.now) in
    let last = c.record_to_end.new.recording in
    let end : IsAtEnd g.D.Digester.digest_of c.args.tamper begun c.args.every c.args.bound last = at_end g.D.Digester.digest_of c.args.tamper begun c.args.every c.args.bound c.in_ok-recording.recording last c.in_ok-recording.ensures.at
    (c.in_ok-recording.ensures.under_way g.D.Digester.digest_of c.requires.chained) c.in_ok-record_to_end.ensures in
    let way = end.recorded in
    let held = run_input (kept_by c.runs_keep_the_input.ensures.version c.runs_keep_the_input.ensures.input) c.args.tamper begun last.at in
    let version = last.machine.version in
    let input = last.machine.input.items in
    let first : first_by last.recorded.checkpoints.items last.recorded.versions.items last.machine.output.items version input ≡ begun
    = first_of last.recorded.checkpoints.items last.recorded.versions.items last.machine.output.items version input (run_from c.args.tamper begun) way.some end.starts way.each
    (ap (λ s. s.version) way.state ∙ held.0) (ap (λ s. s.input) way.state ∙ held.1) in
    let P : State → Type 0 = λ s. AllStand last.recorded.checkpoints.items last.recorded.versions.items last.machine.output.items (run_from c.args.tamper s) in
    let Q : State → Type 0 = λ s. AreFound last.recorded.checkpoints.items c.args.every last.at (run_from c.args.tamper s) in
    let index = subst (λ (vs : List Version). IsIndex c.in_ok-index.index.entries (pages_of vs) (length vs)) c.deref.ensures.value c.in_ok-index.ensures in (
      record {
        spaced = c.requires.every;
        rest = sym (still_found c.stopped_states_stay.ensures c.args.tamper begun c.args.bound last.at end.within end.before end.ends) ∙ ap (λ s. still c.args.tamper s c.args.bound) (sym first);
        starts = end.starts;
        some = way.some;
        found = subst Q (sym first) end.found;
        below = end.below;
        many = end.many;
        each = subst P (sym first) way.each;
        few =
            let F : State → Type 0 = λ s. length last.recorded.versions.items ≤ at_first last.recorded.checkpoints.items + writes c.args.tamper s last.at in
            let recorded = way.few in
            subst F (sym first) (omega arith);
        known = last.machine.known;
        short = omega (arith, last.machine.short, last.machine.input.ok.0);
        version_is = first_version last.recorded.checkpoints.items last.recorded.versions.items last.machine.output.items version input;
        input_is = first_input last.recorded.checkpoints.items last.recorded.versions.items last.machine.output.items version input;
      },
      index,
    )
