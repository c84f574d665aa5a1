use Rattle.std.proofs.Common.{ap, ◌∙◌, slice_index}
use Rattle.rd_base.specs.declared.opened.RegOpening.{RegOpening}
use Rattle.rv_step.specs.State.{State}
use Rattle.open_proof.proofs.PathLemmas.{register-is}
use Rattle.open_proof.proofs.proving.register_opening.Goals as goal

pub returns : goal.returns
returns g c =
    let o : RegOpening = record { value = c.get-value.result; path = c.register_path-path.result } in
    register-is g.D.Digester.digest_of c.args.committed.now.regs c.args.reg o
    (c.get-value.ensures ∙ ap (λ (s : State). slice_index s.regs c.args.reg) c.machine.ensures.state) c.paths_have_5_levels.ensures c.register_path-path.ensures
