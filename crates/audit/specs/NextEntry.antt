-- To believe. The next entry of a full text: the first claim that is missing, and else the first side with an open question in the first
-- dispute that has one.
use Rattle.std.specs.Prelude.{ℕ, ◌+◌, List, [], ◌∷◌, Option, Some, None, if◌then◌else◌}
use Rattle.bisect_game.specs.declared.settled.Question.{Question}
use Rattle.bisect_game.specs.declared.settled.Settled.{Settled}
use Rattle.bisect_game.specs.declared.settled.Side.TheVariants.{First, Second}
use Rattle.bisect_game.specs.Bisection.{Bisection, question_of, asks}
use Rattle.tournament.specs.Bracket.{Record}
use Rattle.bisect_game.specs.Rules.{claim_question}

-- of provers the first of which has this number
abbrev pub next_claim : ℕ → List (Option Settled) → Option ℕ
next_claim p [] = None
next_claim p (None ∷ ss) = Some p
next_claim p (Some s ∷ ss) = next_claim (p + 1) ss

abbrev pub next_in : List Bisection → Option (ℕ × Question)
next_in [] = None
next_in (d ∷ ds) =
    if asks First d then Some (d.first, question_of d)
    else if asks Second d then Some (d.second, question_of d)
    else next_in ds

abbrev pub claim_or : Option ℕ → Option (ℕ × Question) → Option (ℕ × Question)
claim_or (Some p) o = Some (p, claim_question)
claim_or None o = o

-- the prover whose answer comes next, and what it is asked
abbrev pub next : Record → Option (ℕ × Question)
next t = claim_or (next_claim 1 t.claims) (next_in t.disputes)
