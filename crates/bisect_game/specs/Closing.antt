-- To believe: how a round closes a dispute.
use Rattle.std.specs.Prelude.{ℕ, ◌-◌, nat_le, Bool, true, false, not, ◌&&◌, ◌||◌, List, Option, Some, None, if◌then◌else◌}
use Rattle.rd_base.specs.declared.digest.Digest32.{Digest32}
use Rattle.rd_base.specs.declared.answer.Answer.{Answer}
use Rattle.rd_base.specs.declared.answer.Answer.TheVariants as answer
use Rattle.bisect_game.specs.declared.settled.Settled.{Settled}
use Rattle.bisect_game.specs.declared.settled.Settled.TheVariants.{Given, Faulty, Spent}
use Rattle.bisect_game.specs.declared.settled.Close.{Close}
use Rattle.bisect_game.specs.declared.settled.Close.TheVariants.{Out, Collision}
use Rattle.bisect_game.specs.declared.settled.Interval.{Interval}
use Rattle.bisect_game.specs.Ruling.{Ruling, same_digest}

-- an interval of one step, over which a proof is asked
abbrev pub is_step : Interval → Bool
is_step i = nat_le (i.hi - i.lo) 1

abbrev pub is_root : Digest32 → Option Digest32 → Bool
is_root own None = false
is_root own (Some b) = same_digest b own

-- a proof that leads from the agreed root to the side's own
abbrev pub is_proved : Ruling → Digest32 → Digest32 → Answer → Bool
is_proved ruling agreed own (answer.Step proof) = is_root own (ruling.leads agreed proof)
is_proved ruling agreed own _ = false

-- a side is out whose answer was faulty or spent, and in a proof round one that proved nothing
abbrev pub is_out : Ruling → Interval → Digest32 → Settled → Bool
is_out ruling i own (Given a) = is_step i && not (is_proved ruling i.agreed own a)
is_out ruling i own (Faulty a) = true
is_out ruling i own Spent = true

-- a dispute in which both sides have proved closes as their collision, and nobody is out. If a judge without the laws
-- finds none, both are.
abbrev pub closed_by : Option (List ℕ × List ℕ) → Close
closed_by (Some pair) = Collision (pair.0) (pair.1)
closed_by None = Out true true

abbrev pub both_proved : Ruling → Digest32 → Settled → Settled → Close
both_proved ruling agreed (Given (answer.Step p)) (Given (answer.Step q)) = closed_by (ruling.step_collision agreed p q)
both_proved ruling agreed a b = Out true true

-- how a round closes its dispute, if it does: a side is out, or it was the proof round
unfoldable pub close_of : Ruling → Interval → Settled → Settled → Option Close
close_of ruling i a b =
    let first_out = is_out ruling i i.first a in
    let second_out = is_out ruling i i.second b in
    if first_out || second_out then Some (Out first_out second_out)
    else if is_step i then Some (both_proved ruling i.agreed a b)
    else None
