-- To believe. The question that a caller's numbers name, and what is answered to it.
use Rattle.std.specs.Prelude.{ℕ, ◌==◌, List, Option, Some, None, if◌then◌else◌}
use Rattle.bisect_game.specs.declared.settled.Kind.{Kind}
use Rattle.bisect_game.specs.declared.settled.Kind.TheVariants as kind
use Rattle.delegate.specs.OfCase.{answer_response, response_by}
use Rattle.delegate.specs.Refusal.{usage}
use Rattle.delegate.specs.declared.response.Response.{Response}

-- 1 the claim, 2 the root of the state of a step, 3 the proof of a step, 5 the roots at the cuts of an interval
abbrev pub kind_numbered : ℕ → ℕ → ℕ → ℕ → Option Kind
kind_numbered number low high parts =
    if number == 1 then Some kind.Claim
    else if number == 2 then Some (kind.Root low)
    else if number == 3 then Some (kind.Proof low)
    else if number == 5 then Some (kind.Roots low high parts)
    else None

-- the plain answer of the run of the case of these bytes, or why there is none
abbrev pub response_on : Option Kind → List ℕ → Response
response_on (Some question) bytes = response_by (answer_response question) bytes
response_on None bytes = usage
