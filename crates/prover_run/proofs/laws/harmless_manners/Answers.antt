use Rattle.prover_run.proofs.ScriptLemmas.{forged_says, noise_says}
use Rattle.prover_run.proofs.laws.harmless_manners.Goals as goal

pub returns-clause-forge : goal.returns-clause-forge
returns-clause-forge c = λ digest start bound step reg value q passes holds.
    forged_says c.plain_proofs_name_registers.ensures digest start (c.tampered_runs.ensures.plain start) bound step reg value q passes holds

pub returns-clause-noise : goal.returns-clause-noise
returns-clause-noise c = λ digest start bound seed q passes other.
    noise_says digest start (c.tampered_runs.ensures.plain start) bound seed q passes other
