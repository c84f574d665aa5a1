use Rattle.std.proofs.Common.{◌/◌, ap, ◌∙◌}
use Rattle.rd_base.specs.declared.opened.Opening.{Opening}
use Rattle.mem_plain.specs.Contents.{chunk_at}
use Rattle.rv_step.specs.State.{State}
use Rattle.open_proof.proofs.PathLemmas.{opening-is}
use Rattle.open_proof.proofs.proving.opening_of.Goals as goal

pub returns : goal.returns
returns g c =
    let o : Opening = record { chunk = c.chunk-chunk.result; path = c.path-path.result } in
    opening-is g.D.Digester.digest_of c.args.committed.now.memory c.args.addr o
    (c.chunk-chunk.ensures ∙ ap (λ (s : State). chunk_at s.memory (c.args.addr / 32)) c.machine.ensures.state) c.paths_have_27_levels.ensures (c.path-path.ensures c.args.committed.now.memory c.memory.ensures.tree)
