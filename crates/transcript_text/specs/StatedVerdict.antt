-- To believe. What a text states of a verdict.
use Rattle.std.specs.Prelude.{◌≡◌, ℕ, zero, suc, List, Option, Some, None, option_map, option_and_then, slice_get}
use Rattle.rd_base.specs.declared.claim.Claim.{Claim}
use Rattle.bisect_game.specs.declared.settled.Settled.{Settled}
use Rattle.bisect_game.specs.Rules.{Rules}
use Rattle.tournament.specs.declared.reading.Verdict.{Verdict}
use Rattle.tournament.specs.declared.reading.Verdict.TheVariants as verdict
use Rattle.tournament.specs.Bracket.{Record, claim_in, verdict_of}
use Rattle.transcript_text.specs.declared.text.Stated.{Stated}
use Rattle.transcript_text.specs.declared.text.Stated.TheVariants.{Accept, NoneLeft, Collision}

-- what is settled of a prover's claim, by its number from 1
abbrev pub settled_at : List (Option Settled) → ℕ → Option (Option Settled)
settled_at claims zero = None
settled_at claims (suc before) = slice_get claims before

-- the claim, if one was given
abbrev pub given_claim : Option (Option Settled) → Option Claim
given_claim s = option_and_then claim_in s

-- an accepted claim is stated by its status and output
abbrev pub stated_claim : Option Claim → Option Stated
stated_claim c = option_map (λ c. Accept c.ctl.status c.output) c

-- of a number whose claim wasn't given nothing is stated
abbrev pub stated_of : List (Option Settled) → Verdict → Option Stated
stated_of claims (verdict.Accept p) = stated_claim (given_claim (settled_at claims p))
stated_of claims verdict.NoneLeft = Some NoneLeft
stated_of claims (verdict.Collision x y) = Some (Collision x y)

-- the verdict of a record is always stated
abbrev pub VerdictsAreStated : Type 0
VerdictsAreStated = (rules : Rules) (t : Record) → (s : Stated) × (stated_of t.claims (verdict_of rules t) ≡ Some s)
