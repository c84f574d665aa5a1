use Rattle.std.proofs.Common.{ℕ, List, ◌/◌, ap, ◌∙◌}
use Rattle.rd_base.specs.declared.opened.InOpening.{InOpening}
use Rattle.rv_step.specs.State.{State}
use Rattle.mem_tree.specs.InputTree.{input_chunk}
use Rattle.open_proof.proofs.PathLemmas.{input-is}
use Rattle.open_proof.proofs.proving.input_opening_of.Goals as goal

pub returns : goal.returns
returns g c =
    let o : InOpening = record { chunk = c.input_chunk-chunk.result; path = c.path-path.result } in
    input-is g.D.Digester.digest_of c.args.committed.now.input c.args.byte o
    (c.input_chunk-chunk.ensures ∙ (ap (λ (xs : List ℕ). input_chunk xs (c.args.byte / 32)) c.deref.ensures.value ∙ ap (λ (s : State). input_chunk s.input (c.args.byte / 32)) c.machine.ensures.state)) c.paths_have_15_levels.ensures (c.path-path.ensures c.args.committed.now c.input.ensures c.requires.version)
