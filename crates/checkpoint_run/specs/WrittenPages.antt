-- To believe: which pages the steps of a run write, and how many.
use Rattle.std.specs.Prelude.{ℕ, zero, suc, ◌+◌, ◌/◌, ◌==◌, nat_lt, List, [], ◌∷◌, Option, Some, None, if◌then◌else◌}
use Rattle.rd_base.specs.declared.tamper.Tamper.{Tamper}
use Rattle.rd_base.specs.declared.tamper.Tamper.TheVariants.{Flip, Early}
use Rattle.rv_step.specs.State.{State}
use Rattle.rv_step.specs.Touched.{touched}
use Rattle.checkpoint_run.specs.TamperedRun.{run_from}

-- the page that the machine's step from the state of step i stores to; an early end leaves the step out
abbrev pub stored_by : Tamper → ℕ → State → Option ℕ
stored_by (Early steps) i s = if nat_lt i steps then touched s else None
stored_by tamper i s = touched s

-- the page in which a byte is flipped at step i
abbrev pub flipped_by : Tamper → ℕ → Option ℕ
flipped_by (Flip at addr mask) i = if i == at then Some (addr / 4096) else None
flipped_by tamper i = None

-- the pages that are written from the state of step i to that of step i + 1
abbrev pub written_by : Tamper → ℕ → State → List (Option ℕ)
written_by tamper i s = stored_by tamper i s ∷ flipped_by tamper (i + 1) ∷ []

-- at how many places a page is named
abbrev pub count_named : List (Option ℕ) → ℕ
count_named [] = 0
count_named (None ∷ rest) = count_named rest
count_named (Some page ∷ rest) = suc (count_named rest)

-- how many pages the first n steps of a run write; a page counts each time
abbrev pub writes : Tamper → State → ℕ → ℕ
writes tamper first zero = 0
writes tamper first (suc n) = writes tamper first n + count_named (written_by tamper n (run_from tamper first n))
