-- To believe. The scripts of a case's provers, or the number of the first prover that isn't known.
use Rattle.std.specs.Prelude.{ℕ, ◌+◌, List, [], ◌∷◌, Result, Ok}
use Rattle.std.specs.Option.{ok_or}
use Rattle.serde_json.specs.Data.{Data}
use Rattle.rd_base.specs.Results.{◌>>=◌}
use Rattle.rd_base.specs.declared.script.Script.{Script}
use Rattle.case_reader.specs.Scripts.{script_in}
use Rattle.case_reader.specs.declared.fault.CaseFault.{CaseFault}
use Rattle.case_reader.specs.declared.fault.CaseFault.TheVariants.{BadProver}

-- the scripts of provers, the first of which has this number
unfoldable pub scripts_in : ℕ → List Data → Result (List Script) CaseFault
scripts_in number [] = Ok []
scripts_in number (prover ∷ provers) = do
  script ← ok_or (script_in prover) (BadProver number)
  scripts ← scripts_in (number + 1) provers
  Ok (script ∷ scripts)
