-- To believe. What a caller with the bytes of a case in memory gets of it beside the commands: the root of its run's start, by which a match
-- of the case begins, the roots of its run after some numbers of steps, and the plain answer of its run to a question of a match, in its wire
-- form.
use Rattle.std.specs.Prelude.{◌≡◌, ℕ, List, Bool, true, ◌&&◌, nat_lt, nat_le, if◌then◌else◌, Result, Ok, Err}
use Rattle.std.specs.List.{list_all, flat_map}
use Rattle.rd_base.specs.Results.{◌>>=◌}
use Rattle.rv_step.specs.State.{State}
use Rattle.rv_step.specs.Valid.{IsValid}
use Rattle.sha2.specs.Sha256.{sha256}
use Rattle.rv_step.specs.Step.{state_at}
use Rattle.bisect_game.specs.Bisection.{can_cut}
use Rattle.bisect_game.specs.declared.settled.Kind.{Kind}
use Rattle.bisect_game.specs.declared.settled.Kind.TheVariants as kind
use Rattle.proof_wire.specs.Wire.{wire_form}
use Rattle.plain_answers.specs.Plain.{plain, plain_root}
use Rattle.case_reader.specs.Case.{CaseData}
use Rattle.case_match.specs.Match.{start_root}
use Rattle.delegate.specs.Refusal.{usage}
use Rattle.delegate.specs.Loading.{within_limit, case_or_refusal, start_or_refusal, of_case, every_case}
use Rattle.delegate.specs.Outcome.{either_way}
use Rattle.delegate.specs.declared.response.Subject.TheVariants.{Whole}
use Rattle.delegate.specs.declared.response.Response.{Response}
use Rattle.delegate.specs.declared.response.Answered.TheVariants.{Done}

-- the 32 bytes of the root at step 0 of a match by SHA-256, of a run that starts in this state
abbrev pub root_of_start : State → Response
root_of_start start = record { answered = Done; text = (start_root sha256 start).0 }

abbrev pub start_response : List ℕ → Result Response Response
start_response bytes = of_case every_case (λ c start. root_of_start start) bytes

-- the response to these bytes, which may be too many, by what is answered to those that aren't
abbrev pub response_by : (List ℕ → Result Response Response) → List ℕ → Response
response_by answer bytes = either_way (within_limit bytes >>= answer)

-- the start of a case that is read and loaded is a valid state
abbrev pub StartsValid : List ℕ → Type 0
StartsValid bytes = (c : CaseData) (start : State) → (within_limit bytes >>= case_or_refusal) ≡ Ok c → start_or_refusal Whole c ≡ Ok start → IsValid start

-- a match with this bound may ask it: the claim, a root between the ends of the run, the roots at the cuts of an interval of it, or the proof
-- of one of its steps
abbrev pub may_ask : ℕ → Kind → Bool
may_ask bound kind.Claim = true
may_ask bound (kind.Root i) = nat_lt 0 i && nat_lt i bound
may_ask bound (kind.Roots lo hi parts) = can_cut lo hi parts && nat_le hi bound
may_ask bound (kind.Proof i) = nat_lt i bound

-- what doesn't pass is refused as arguments are that name no command
abbrev pub or_usage : Bool → Result (Unit {0}) Response
or_usage passed = if passed then Ok tt else Err usage

-- the wire form of the plain answer of the run, by SHA-256
abbrev pub answer_of_run : Kind → CaseData → State → Response
answer_of_run k c start = record { answered = Done; text = (wire_form (plain sha256 (state_at start) c.bound k)).bytes }

abbrev pub answer_response : Kind → List ℕ → Result Response Response
answer_response k bytes = of_case (λ c. or_usage (may_ask c.bound k)) (answer_of_run k) bytes

-- a run with this bound has these steps
abbrev pub has_steps : ℕ → List ℕ → Bool
has_steps bound steps = list_all (λ i. nat_le i bound) steps

-- the 32 bytes of each root of the run after so many steps, by SHA-256, one behind another
abbrev pub roots_of_steps : List ℕ → CaseData → State → Response
roots_of_steps steps c start = record { answered = Done; text = flat_map (λ i. (plain_root sha256 (state_at start) c.bound i).0) steps }

abbrev pub roots_at_response : List ℕ → List ℕ → Result Response Response
roots_at_response steps bytes = of_case (λ c. or_usage (has_steps c.bound steps)) (roots_of_steps steps) bytes
