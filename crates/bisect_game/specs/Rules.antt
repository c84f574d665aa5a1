-- To believe: what a match is played by, and which answers fit a question.
use Rattle.std.specs.Prelude.{◌-◌, ◌<◌, ◌≤◌, ◌==◌, length, Bool, true, false, if◌then◌else◌}
use Rattle.rd_base.specs.declared.answer.Answer.{Answer}
use Rattle.rd_base.specs.declared.answer.Answer.TheVariants as answer
use Rattle.bisect_game.specs.declared.settled.Kind.{Kind}
use Rattle.bisect_game.specs.declared.settled.Kind.TheVariants as kind
use Rattle.bisect_game.specs.declared.settled.Question.{Question}
use Rattle.bisect_game.specs.declared.settled.Settled.{Settled}
use Rattle.bisect_game.specs.declared.settled.Settled.TheVariants.{Given, Faulty}
use Rattle.bisect_game.specs.Setup.{Setup}
use Rattle.bisect_game.specs.Ruling.{Ruling}

-- what a match is played by: who decides, and the numbers
pub record Rules : Type 0 where
  pub ruling : Ruling
  pub setup : Setup

abbrev pub rules_of : Ruling → Setup → Rules
rules_of r t = record { ruling = r; setup = t }

-- rules by which a match can be played: somebody plays, a round cuts its interval in 2 to 16 parts, and there is a step
pub record ArePlayable (rules : Rules) : Type 0 where
  pub some : 0 < rules.setup.provers
  pub parted : 1 < rules.setup.fan
  pub few_parts : rules.setup.fan ≤ 16
  pub steps : 0 < rules.setup.bound

-- each prover is first asked for its claim
abbrev pub claim_question : Question
claim_question = record { qid = record { dispute = 0; round = 0 }; kind = kind.Claim }

-- an answer of the kind that was asked, a claim that is sound, and a root for each cut
abbrev pub is_fit : Ruling → Kind → Answer → Bool
is_fit ruling kind.Claim (answer.Claim claim) = ruling.is_sound claim
is_fit ruling (kind.Root step) (answer.Root root) = true
is_fit ruling (kind.Roots lo hi parts) (answer.Roots roots) = length roots == parts - 1
is_fit ruling (kind.Proof step) (answer.Step proof) = true
is_fit ruling _ _ = false

-- an answer is taken if it fits, and faulty else
abbrev pub judged : Ruling → Kind → Answer → Settled
judged ruling k a = if is_fit ruling k a then Given a else Faulty a
