-- Derived: what fixes what the provers of a case say is data, as the tuple of its parts. The types that stand for it in contracts alone
-- (`CaseNames`, `CaseProvers`) need that, and one value of it.
use Rattle.std.specs.Prelude.{ℕ, List, [], refl}
use Rattle.std.specs.Coded.{Coded, code_by, coded×, coded_ℕ, coded_list}
use Rattle.rd_base.specs.declared.script.Script.{Script}
use Rattle.rd_base.specs.contracts.script.Script as scripts
use Rattle.rd_base.specs.declared.status.Status.TheVariants.{Running}
use Rattle.mem_plain.specs.Contents.{no_bytes}
use Rattle.rv_step.specs.State.{State}
use Rattle.rv_step.specs.StateCode.{state_code}
use Rattle.prover_run.specs.CaseScripts.{CaseScripts}

-- a case of nobody, from nothing
abbrev pub no_case : CaseScripts
no_case = record { start = record { regs = []; pc = 0; memory = no_bytes; status = Running; output = []; version = 1; input = [] }; bound = 0; scripts = [] }

-- the tuple: its start, its bound and its scripts
abbrev pub case_scripts_code : Coded CaseScripts
case_scripts_code =
    code_by (State × (ℕ × List Script))
    (coded× state_code (coded× coded_ℕ (coded_list scripts.the_row.coded)))
    (λ c. (c.start, (c.bound, c.scripts)))
    (λ t. record { start = t.0; bound = t.1.0; scripts = t.1.1 })
    (λ _. refl)
