-- To believe. `roots`: the root of each state of the case that is read, from the first to that at its bound, which is at most
-- 4,096.
use Rattle.std.specs.Prelude.{ℕ, ◌+◌, List, nat_lt, Result, Ok, Err, if◌then◌else◌}
use Rattle.rv_step.specs.State.{State}
use Rattle.rv_step.specs.Step.{state_at}
use Rattle.segment_replay.specs.Roots.{root_of_state}
use Rattle.case_reader.specs.Case.{CaseData}
use Rattle.digest_core.specs.declared.name.DigestName.TheVariants.{Sha256}
use Rattle.transcript_text.specs.Roots.{root_lines}
use Rattle.digest_core.specs.Name.{digest_of}
use Rattle.delegate.specs.Loading.{of_case}
use Rattle.delegate.specs.Refusal.{bound_refusal}
use Rattle.delegate.specs.declared.response.Response.{Response}
use Rattle.delegate.specs.declared.response.Answered.TheVariants.{Done}

-- not more than the most steps whose roots are written
abbrev pub within_bound : CaseData → Result (Unit {0}) Response
within_bound c = if nat_lt 4096 c.bound then Err bound_refusal else Ok tt

-- by a digest function; each root is of the version of its state
abbrev pub roots_of_run : (List ℕ → List ℕ) → CaseData → State → Response
roots_of_run digest c start = record { answered = Done; text = root_lines (λ i. root_of_state digest (state_at start i)) (c.bound + 1) }

abbrev pub roots_response : List ℕ → Result Response Response
roots_response bytes = of_case within_bound (roots_of_run (digest_of Sha256)) bytes
