-- To believe. The settled answers of a record, in the order of a full text: the claims by prover, then by dispute, round and side.
use Rattle.std.specs.Prelude.{ℕ, ◌+◌, List, [], ◌∷◌, ◌++◌, length, Option, Some, None}
use Rattle.rd_base.specs.declared.answer.Qid.{Qid}
use Rattle.bisect_game.specs.declared.settled.Round.{Round}
use Rattle.bisect_game.specs.declared.settled.Settled.{Settled}
use Rattle.bisect_game.specs.Bisection.{Bisection}
use Rattle.tournament.specs.Bracket.{Record}
use Rattle.transcript_text.specs.declared.text.TextMove.{TextMove}

abbrev pub qid_of : ℕ → ℕ → Qid
qid_of dispute round = record { dispute = dispute; round = round }

-- what a prover's answer to the question of this number is settled as, if it is
abbrev pub move_if : Qid → ℕ → Option Settled → List TextMove
move_if qid p (Some s) = record { qid = qid; prover = p; settled = s } ∷ []
move_if qid p None = []

-- the claims, of provers the first of which has this number
abbrev pub moves_of_claims : ℕ → List (Option Settled) → List TextMove
moves_of_claims p [] = []
moves_of_claims p (s ∷ ss) = move_if (qid_of 0 0) p s ++ moves_of_claims (p + 1) ss

-- a round of the dispute with this number and these two provers: the first side, then the second
abbrev pub moves_of_round : ℕ → ℕ → ℕ → ℕ → Option Settled → Option Settled → List TextMove
moves_of_round number first second round a b = move_if (qid_of number round) first a ++ move_if (qid_of number round) second b

-- the past rounds, the first of which has this number
abbrev pub moves_of_past : ℕ → ℕ → ℕ → ℕ → List Round → List TextMove
moves_of_past number first second round [] = []
moves_of_past number first second round (r ∷ rs) = moves_of_round number first second round (Some r.first) (Some r.second) ++ moves_of_past number first second (round + 1) rs

-- the past rounds, and the last one as far as it is settled
abbrev pub moves_of_dispute : Bisection → List TextMove
moves_of_dispute d = moves_of_past d.number d.first d.second 1 d.past ++ moves_of_round d.number d.first d.second (length d.past + 1) d.by_first d.by_second

abbrev pub moves_of_disputes : List Bisection → List TextMove
moves_of_disputes [] = []
moves_of_disputes (d ∷ ds) = moves_of_dispute d ++ moves_of_disputes ds

abbrev pub moves_of : Record → List TextMove
moves_of t = moves_of_claims 1 t.claims ++ moves_of_disputes t.disputes
