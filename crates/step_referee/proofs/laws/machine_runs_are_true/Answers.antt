use Rattle.step_referee.proofs.TruthLemmas.{RunLaws, machine-runs}
use Rattle.step_referee.proofs.laws.machine_runs_are_true.Goals as goal

pub returns : goal.returns
returns g c =
    let digest = g.D.Digester.digest_of in
    let is_digest = g.met.D.Digester.is_digest in
    let laws : RunLaws digest = record {
      is_digest = is_digest;
      chained = c.chain_grows.ensures.length digest is_digest;
      valid = c.runs_go_on.ensures.valid;
      output = c.runs_go_on.ensures.output;
      version = c.runs_keep_the_input.ensures.version;
      leads = c.plain_proofs_lead.ensures digest;
      holds = c.plain_proofs_hold_the_parts.ensures digest;
    } in
    machine-runs digest laws
