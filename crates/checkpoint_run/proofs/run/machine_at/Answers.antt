use Rattle.std.proofs.Common.{◌≡◌, ◌<◌, ◌≤◌, arith, ◌*◌, ℕ, List, length, take, get_or, refl, sym, ap, subst, ◌∙◌}
use Rattle.std.proofs.lemmas.List.{length-take-le}
use Rattle.rv_step.specs.State.{State}
use Rattle.checkpoint_run.specs.Versions.{pictured, pages_of}
use Rattle.checkpoint_run.specs.Places.{IsIndex}
use Rattle.checkpoint_run.specs.declared.version.Version.{Version}
use Rattle.checkpoint_run.proofs.EndLemmas.{stands_within, chained_within, input_within}
use Rattle.checkpoint_run.proofs.RunLemmas.{kept_by}
use Rattle.checkpoint_run.specs.Keeping.{state_by, found_at}
use Rattle.checkpoint_run.specs.Recorded.{Recorded, state_of_step}
use Rattle.checkpoint_run.specs.declared.checkpoint.Checkpoint.{Checkpoint}
use Rattle.mem_plain.specs.Contents.{Contents}
use Rattle.digest_core.specs.Chain.{chain_of}
use Rattle.checkpoint_run.proofs.run.machine_at.Goals as goal

pub place_of-place-requires-clause-room : goal.place_of-place-requires-clause-room
place_of-place-requires-clause-room c =
    let every : c.args.run.now.every ≡ c.run.inside.every = ap (λ (r : Recorded). r.every) (sym c.run.view_is) in
    let still = c.steps_have_64_bits.ensures.still in
    let below = c.requires in
    subst (λ n. c.args.checkpoint * n < 18446744073709551616) every (omega arith)

pub restored-requires-clause-count : goal.restored-requires-clause-count
restored-requires-clause-count c =
    let stands = stands_within _ c.args.run.now c.run.inside.still c.run.inside.checkpoints.items c.run.inside.versions.items c.run.inside.output.items c.run.inside.version c.run.inside.input.items c.run.invariant.0 c.run.view_is c.args.checkpoint c.index-found.result.now c.requires (c.index-found.ensures ∙ ap (λ n. get_or c.run.inside.checkpoints.items n c.index-found.result.now) (c.place_of-place.ensures.place ∙ (ap (λ cs. found_at cs c.run.inside.every c.args.checkpoint) c.deref.ensures.value ∙ ap (λ (r : Recorded). found_at c.run.inside.checkpoints.items r.every c.args.checkpoint) c.run.view_is))) in
    subst (λ (xs : List Version). c.index-found.result.now.versions ≤ length xs) (sym c.deref-2.ensures.value) stands.versions_there

pub restored-requires-clause-index : goal.restored-requires-clause-index
restored-requires-clause-index c = subst (λ (vs : List Version). IsIndex c.run.inside.index.entries (pages_of vs) (length vs)) (sym c.deref-2.ensures.value) c.run.invariant.1

pub slice_bounds-from_slice-end : goal.slice_bounds-from_slice-end
slice_bounds-from_slice-end c =
    let stands = stands_within _ c.args.run.now c.run.inside.still c.run.inside.checkpoints.items c.run.inside.versions.items c.run.inside.output.items c.run.inside.version c.run.inside.input.items c.run.invariant.0 c.run.view_is c.args.checkpoint c.index-found.result.now c.requires (c.index-found.ensures ∙ ap (λ n. get_or c.run.inside.checkpoints.items n c.index-found.result.now) (c.place_of-place.ensures.place ∙ (ap (λ cs. found_at cs c.run.inside.every c.args.checkpoint) c.deref.ensures.value ∙ ap (λ (r : Recorded). found_at c.run.inside.checkpoints.items r.every c.args.checkpoint) c.run.view_is))) in
    sym (length-take-le c.index-found.result.now.ctl.out_len c.deref-3.result.now (subst (λ (xs : List ℕ). c.index-found.result.now.ctl.out_len ≤ length xs) (sym c.deref-3.ensures.value) stands.output_there))

-- the state that a checkpoint stands for, by what was made of it
made : (c : Checkpoint) (versions : List Version) (output : List ℕ) (mem : Contents) (out : List ℕ) (version : ℕ) (input : List ℕ) → mem ≡ pictured (take c.versions versions) → out ≡ take c.ctl.out_len output
    → record (state_by c versions output version input) { memory = mem; output = out } ≡ state_by c versions output version input
made c versions output mem out version input mem_is out_is =
    ap (λ m. record (state_by c versions output version input) { memory = m; output = out }) mem_is ∙ ap (λ o. record (state_by c versions output version input) { output = o }) out_is

pub returns-clause-state : goal.returns-clause-state
returns-clause-state c =
    let stands = stands_within _ c.args.run.now c.run.inside.still c.run.inside.checkpoints.items c.run.inside.versions.items c.run.inside.output.items c.run.inside.version c.run.inside.input.items c.run.invariant.0 c.run.view_is c.args.checkpoint c.index-found.result.now c.requires (c.index-found.ensures ∙ ap (λ n. get_or c.run.inside.checkpoints.items n c.index-found.result.now) (c.place_of-place.ensures.place ∙ (ap (λ cs. found_at cs c.run.inside.every c.args.checkpoint) c.deref.ensures.value ∙ ap (λ (r : Recorded). found_at c.run.inside.checkpoints.items r.every c.args.checkpoint) c.run.view_is))) in
    let mem = c.in_ok-mem.ensures ∙ ap (λ vs. pictured (take c.index-found.result.now.versions vs)) c.deref-2.ensures.value in
    let out = c.in_ok-output.ensures.items ∙ ap (take c.index-found.result.now.ctl.out_len) c.deref-3.ensures.value in
    let its = input_within _ c.args.run.now c.run.inside.still c.run.inside.checkpoints.items c.run.inside.versions.items c.run.inside.output.items c.run.inside.version c.run.inside.input.items c.run.invariant.0 c.run.view_is
    (kept_by c.runs_keep_the_input.ensures.version c.runs_keep_the_input.ensures.input) (c.args.checkpoint * c.args.run.now.every) in
    let input = c.in_ok-input.ensures.items ∙ c.deref-4.ensures.value ∙ its.1 in
    let found = c.index-found.result.now in
    (made found _ _ _ _ c.run.inside.version _ mem out
    ∙ (ap (λ v. state_by found c.run.inside.versions.items c.run.inside.output.items v c.in_ok-input.input.items) its.0
    ∙ (ap (state_by found c.run.inside.versions.items c.run.inside.output.items (state_of_step c.args.run.now (c.args.checkpoint * c.args.run.now.every)).version) input
    ∙ stands.state)))

pub returns-clause-chained : goal.returns-clause-chained
returns-clause-chained c digest chained =
    let stands = stands_within _ c.args.run.now c.run.inside.still c.run.inside.checkpoints.items c.run.inside.versions.items c.run.inside.output.items c.run.inside.version c.run.inside.input.items c.run.invariant.0 c.run.view_is c.args.checkpoint c.index-found.result.now c.requires (c.index-found.ensures ∙ ap (λ n. get_or c.run.inside.checkpoints.items n c.index-found.result.now) (c.place_of-place.ensures.place ∙ (ap (λ cs. found_at cs c.run.inside.every c.args.checkpoint) c.deref.ensures.value ∙ ap (λ (r : Recorded). found_at c.run.inside.checkpoints.items r.every c.args.checkpoint) c.run.view_is))) in
    let out = c.in_ok-output.ensures.items ∙ ap (take c.index-found.result.now.ctl.out_len) c.deref-3.ensures.value in
    (chained_within _ c.args.run.now c.run.inside.still c.run.inside.checkpoints.items c.run.inside.versions.items c.run.inside.output.items c.run.inside.version c.run.inside.input.items c.run.invariant.0 c.run.view_is c.args.checkpoint c.index-found.result.now c.requires (c.index-found.ensures ∙ ap (λ n. get_or c.run.inside.checkpoints.items n c.index-found.result.now) (c.place_of-place.ensures.place ∙ (ap (λ cs. found_at cs c.run.inside.every c.args.checkpoint) c.deref.ensures.value ∙ ap (λ (r : Recorded). found_at c.run.inside.checkpoints.items r.every c.args.checkpoint) c.run.view_is))) refl digest chained
    ∙ (ap (λ (s : State). chain_of digest s.output) (sym stands.state) ∙ ap (chain_of digest) (sym out)))
