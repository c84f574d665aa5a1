-- To believe: the answers that a dispute holds. Whatever is settled in whatever order, each answer while its side has an open question,
-- a dispute is what is played over them.
use Rattle.std.specs.Prelude.{◌≡◌, ◌≢◌, ℕ, zero, suc, ◌-◌, ◌==◌, true, List, [], ◌∷◌, Option, Some, None, if◌then◌else◌}
use Rattle.bisect_game.specs.declared.settled.Claimed.{Claimed}
use Rattle.bisect_game.specs.declared.settled.Round.{Round}
use Rattle.bisect_game.specs.declared.settled.Settled.{Settled}
use Rattle.bisect_game.specs.declared.settled.Side.{Side}
use Rattle.bisect_game.specs.declared.settled.Side.TheVariants.{First, Second}
use Rattle.bisect_game.specs.Ruling.{Ruling}
use Rattle.bisect_game.specs.Rules.{Rules, ArePlayable}
use Rattle.bisect_game.specs.Bisection.{Bisection, asks, settle_side}
use Rattle.bisect_game.specs.Truth.{own_answer}
use Rattle.bisect_game.specs.Disputes.{Answers, dispute_of, played}

-- what is settled of a side in the round after this many: a past one, or the last
abbrev pub settled_after_rounds : Side → List Round → Option Settled → ℕ → Option Settled
settled_after_rounds side [] last zero = last
settled_after_rounds side [] last (suc k) = None
settled_after_rounds side (r ∷ past) last zero = Some (own_answer side r)
settled_after_rounds side (r ∷ past) last (suc k) = settled_after_rounds side past last k

-- what is settled of a prover in a round of a dispute, of which the first is round 1
abbrev pub settled_in_round : ℕ → ℕ → Bisection → Option Settled
settled_in_round p round d =
    if round == 0 then None
    else if d.first == p then settled_after_rounds First d.past d.by_first (round - 1)
    else if d.second == p then settled_after_rounds Second d.past d.by_second (round - 1)
    else None

-- the answers that a dispute holds
abbrev pub held : Bisection → Answers
held d p q = if d.number == q.qid.dispute then settled_in_round p q.qid.round d else None

-- a dispute after answers of sides were settled, one after another
abbrev pub settled_one_by_one : Ruling → List (Side × Settled) → Bisection → Bisection
settled_one_by_one ruling [] d = d
settled_one_by_one ruling (x ∷ xs) d = settled_one_by_one ruling xs (settle_side ruling x.0 x.1 d)

-- each of them is settled while its side has an open question
abbrev pub EachIsAsked : Ruling → List (Side × Settled) → Bisection → Type 0
EachIsAsked ruling [] d = Unit {0}
EachIsAsked ruling (x ∷ xs) d = (asks x.0 d ≡ true) × EachIsAsked ruling xs (settle_side ruling x.0 x.1 d)

-- a dispute of two provers after any such answers is the one that is played over the answers that it holds
abbrev pub DisputesArePlayed : Type 0
DisputesArePlayed =
    (rules : Rules) (stage number : ℕ) (x y : Claimed) (xs : List (Side × Settled)) → ArePlayable rules → x.prover ≢ y.prover →
    EachIsAsked rules.ruling xs (dispute_of rules.setup stage number x y) →
    settled_one_by_one rules.ruling xs (dispute_of rules.setup stage number x y)
    ≡ played rules (held (settled_one_by_one rules.ruling xs (dispute_of rules.setup stage number x y))) (dispute_of rules.setup stage number x y)
