-- To believe: a dispute over answers that are settled, as far as there are any.
use Rattle.std.specs.Prelude.{ℕ, [], Option, None, if◌then◌else◌}
use Rattle.std.specs.Fn.{iterate}
use Rattle.std.specs.Option.{option_or}
use Rattle.rd_base.specs.declared.digest.Digest32.{Digest32}
use Rattle.bisect_game.specs.declared.settled.Question.{Question}
use Rattle.bisect_game.specs.declared.settled.Settled.{Settled}
use Rattle.bisect_game.specs.declared.settled.Claimed.{Claimed}
use Rattle.bisect_game.specs.Setup.{Setup}
use Rattle.bisect_game.specs.Ruling.{Ruling}
use Rattle.bisect_game.specs.Rules.{Rules}
use Rattle.bisect_game.specs.Bisection.{Bisection, question_of, is_closed, advance}

-- what each prover's answer to a question is settled as, if it is
abbrev pub Answers : Type 0
Answers = ℕ → Question → Option Settled

-- what the rounds of a dispute go by: over how many steps it is, and in how many parts a round cuts its interval
pub record RoomOf : Type 0 where
  pub bound : ℕ
  pub fan : ℕ

-- a prover and the root that it claims at the bound
abbrev pub claimed_by : ℕ × Digest32 → Claimed
claimed_by x = record { prover = x.0; root = x.1 }

-- a dispute as it begins: over the whole run, with the agreed root at step 0 and each side's claimed root at the bound
abbrev pub dispute_from : RoomOf → ℕ → ℕ → Digest32 → Claimed → Claimed → Bisection
dispute_from room stage number start x y =
    record {
      stage = stage;
      number = number;
      fan = room.fan;
      first = x.prover;
      second = y.prover;
      place = record { lo = 0; hi = room.bound; agreed = start; first = x.root; second = y.root };
      past = [];
      by_first = None;
      by_second = None;
      close = None;
    }

-- those of the disputes of a match
abbrev pub room_of : Setup → RoomOf
room_of setup = record { bound = setup.bound; fan = setup.fan }

-- a dispute of a match with these numbers, as it begins
abbrev pub dispute_of : Setup → ℕ → ℕ → Claimed → Claimed → Bisection
dispute_of setup stage number x y = dispute_from (room_of setup) stage number setup.start x y

-- what is settled of the round, with what the answers have beside it
abbrev pub filled : Answers → Bisection → Bisection
filled f d =
    record d {
      by_first = option_or d.by_first (f d.first (question_of d));
      by_second = option_or d.by_second (f d.second (question_of d));
    }

-- one round over the answers
unfoldable pub round_over : Ruling → Answers → Bisection → Bisection
round_over ruling f d = if is_closed d then d else advance ruling (filled f d)

-- a dispute over the answers, as far as they go: never more rounds than steps
unfoldable pub played : Rules → Answers → Bisection → Bisection
played rules f d = iterate (round_over rules.ruling f) rules.setup.bound d
