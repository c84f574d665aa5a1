-- To believe. The lines of a report: which ones a record and a verdict have, and which speak against a prover. A line that a
-- report leaves out, as of an answer that isn't settled, is None.
use Rattle.std.specs.Prelude.{ℕ, ◌+◌, ◌-◌, min, Bool, false, ◌&&◌, ◌||◌, ◌==◌, List, [], ◌∷◌, ◌++◌, length, Option, Some, None, option_map, if◌then◌else◌}
use Rattle.std.specs.Option.{option_map_or}
use Rattle.std.specs.List.{list_any}
use Rattle.rd_base.specs.declared.status.Status.{Status}
use Rattle.rd_base.specs.declared.answer.Answer.TheVariants as answer
use Rattle.bisect_game.specs.declared.settled.Round.{Round}
use Rattle.bisect_game.specs.declared.settled.Side.TheVariants.{First, Second}
use Rattle.bisect_game.specs.declared.settled.Settled.{Settled}
use Rattle.bisect_game.specs.declared.settled.Settled.TheVariants as settled
use Rattle.bisect_game.specs.declared.settled.Close.{Close}
use Rattle.bisect_game.specs.Ruling.{same_digest}
use Rattle.bisect_game.specs.Closing.{is_step}
use Rattle.bisect_game.specs.Bisection.{Bisection, middle, roots_in, kept_part}
use Rattle.bisect_game.specs.Truth.{is_put_out}
use Rattle.tournament.specs.declared.reading.Verdict.{Verdict}
use Rattle.tournament.specs.Bracket.{Record}
use Rattle.deposits.specs.declared.amounts.Balances.{Balances}
use Rattle.transcript_text.specs.declared.text.Stated.{Stated}
use Rattle.transcript_text.specs.declared.text.Stated.TheVariants.{Accept, NoneLeft, Collision}
use Rattle.transcript_text.specs.StatedVerdict.{given_claim, stated_claim, stated_of}
use Rattle.transcript_text.specs.declared.disputes.Word.{Word}
use Rattle.transcript_text.specs.declared.disputes.Word.TheVariants as word
use Rattle.transcript_text.specs.Words.{said_word, said_word_of_proof, speaks_against}

-- what a line says of both sides of a dispute: `pA X pB Y`
pub record Said : Type 0 where
  pub first : ℕ
  pub of_first : Word
  pub second : ℕ
  pub of_second : Word

-- a round, the interval that it cuts, and in how many parts: `round R in LO HI by G`
pub record Parted : Type 0 where
  pub number : ℕ
  pub lo : ℕ
  pub hi : ℕ
  pub parts : ℕ

pub data Line : Type 0 where
  -- `pI claims STATE output HEX`
  claim_line : ℕ → Status → List ℕ → Line
  -- `out pI X`
  out_line : ℕ → Word → Line
  -- `stage S`
  stage_line : ℕ → Line
  -- `dispute D pA pB`
  dispute_line : ℕ → ℕ → ℕ → Line
  -- `round R at MID same` or `round R at MID differ`
  compared_line : ℕ → ℕ → Bool → Line
  -- `round R at MID pA X pB Y`
  round_line : ℕ → ℕ → Said → Line
  -- `round R in LO HI by G keep J`
  kept_line : Parted → ℕ → Line
  -- `round R in LO HI by G pA X pB Y`
  parts_line : Parted → Said → Line
  -- `step LO pA X pB Y`
  step_line : ℕ → Said → Line
  -- `balance pI N`
  balance_line : ℕ → ℕ → Line
  -- `pool N`
  pool_line : ℕ → Line
  -- `accept STATE output HEX`
  accept_line : Status → List ℕ → Line
  -- `none left`
  none_left_line : Line
  -- `collision HEX HEX`
  collision_line : List ℕ → List ℕ → Line

-- CLAIMS: what each prover claims, or that it is out

abbrev pub line_of_claim : ℕ → Option Settled → Option Line
line_of_claim p (Some (settled.Given (answer.Claim claim))) = Some (claim_line p claim.ctl.status claim.output)
line_of_claim p (Some (settled.Faulty a)) = Some (out_line p word.Faulty)
line_of_claim p (Some settled.Spent) = Some (out_line p word.Spent)
line_of_claim p _ = None

-- of provers the first of which has this number
abbrev pub lines_of_claims : ℕ → List (Option Settled) → List (Option Line)
lines_of_claims p [] = []
lines_of_claims p (s ∷ ss) = line_of_claim p s ∷ lines_of_claims (p + 1) ss

-- DISPUTES: a line for each, then one for each round

abbrev pub said_in : Bisection → Word → Word → Said
said_in d x y = record { first = d.first; of_first = x; second = d.second; of_second = y }

-- a round of two parts: whether both roots at the middle are the same, or what became of either side's answer
abbrev pub line_of_halves : Bisection → ℕ → ℕ → Settled → Settled → Line
line_of_halves d number mid (settled.Given (answer.Root x)) (settled.Given (answer.Root y)) = compared_line number mid (same_digest x y)
line_of_halves d number mid a b = round_line number mid (said_in d (said_word a) (said_word b))

-- a round of a larger fan: which part is kept, counted from 1, or what became of either side's answer
abbrev pub line_of_parts : Bisection → Parted → Settled → Settled → Line
line_of_parts d r (settled.Given x) (settled.Given y) = kept_line r (kept_part r.parts (roots_in x) (roots_in y) + 1)
line_of_parts d r a b = parts_line r (said_in d (said_word a) (said_word b))

-- a round that asks for roots between two steps, by the dispute's fan
abbrev pub line_of_round : Bisection → ℕ → ℕ → ℕ → Settled → Settled → Line
line_of_round d number lo hi a b =
    if d.fan == 2 then line_of_halves d number (middle lo hi) a b
    else line_of_parts d (record { number = number; lo = lo; hi = hi; parts = min d.fan (hi - lo) }) a b

-- the past rounds, the first of which has this number
abbrev pub lines_of_rounds : Bisection → ℕ → List Round → List (Option Line)
lines_of_rounds d number [] = []
lines_of_rounds d number (r ∷ rs) = Some (line_of_round d number r.lo r.hi r.first r.second) ∷ lines_of_rounds d (number + 1) rs

-- the proof round: a side's proof is refuted if the side is out
abbrev pub line_of_step : Bisection → Option Close → Settled → Settled → Option Line
line_of_step d (Some c) a b = Some (step_line d.place.lo (said_in d (said_word_of_proof (is_put_out First (Some c)) a) (said_word_of_proof (is_put_out Second (Some c)) b)))
line_of_step d None a b = None

abbrev pub line_of_last : Bisection → Option Settled → Option Settled → Option Line
line_of_last d (Some a) (Some b) = if is_step d.place then line_of_step d d.close a b else Some (line_of_round d (length d.past + 1) d.place.lo d.place.hi a b)
line_of_last d (Some a) None = None
line_of_last d None b = None

-- each round, and the last one as far as it is settled
abbrev pub lines_of_all_rounds : Bisection → List (Option Line)
lines_of_all_rounds d = lines_of_rounds d 1 d.past ++ line_of_last d d.by_first d.by_second ∷ []

-- a stage's line is before its first dispute
abbrev pub line_of_stage : ℕ → ℕ → Option Line
line_of_stage before stage = if stage == before then None else Some (stage_line stage)

-- a dispute, after one of this stage
abbrev pub lines_of_dispute : ℕ → Bisection → List (Option Line)
lines_of_dispute before d =
    line_of_stage before d.stage ∷ (Some (dispute_line d.number d.first d.second) ∷ lines_of_all_rounds d)

abbrev pub lines_of_disputes : ℕ → List Bisection → List (Option Line)
lines_of_disputes before [] = []
lines_of_disputes before (d ∷ ds) = lines_of_dispute before d ++ lines_of_disputes d.stage ds

-- stages count from 1
abbrev pub lines_of_record : Record → List (Option Line)
lines_of_record t = lines_of_claims 1 t.claims ++ lines_of_disputes 0 t.disputes

-- DEPOSITS, in a match that has them: what each prover has, and what is in the pool

-- of provers the first of which has this number
abbrev pub lines_of_provers : ℕ → List ℕ → List (Option Line)
lines_of_provers p [] = []
lines_of_provers p (has ∷ others) = Some (balance_line p has) ∷ lines_of_provers (p + 1) others

abbrev pub lines_of_balances : Option Balances → List (Option Line)
lines_of_balances (Some b) = lines_of_provers 1 b.of ++ Some (pool_line b.pool) ∷ []
lines_of_balances None = []

-- THE VERDICT

abbrev pub line_of_stated : Stated → Line
line_of_stated (Accept status output) = accept_line status output
line_of_stated NoneLeft = none_left_line
line_of_stated (Collision x y) = collision_line x y

abbrev pub line_if_stated : Option Stated → Option Line
line_if_stated s = option_map line_of_stated s

-- the line of a claim that is accepted
abbrev pub line_of_accepted : Option (Option Settled) → Option Line
line_of_accepted s = line_if_stated (stated_claim (given_claim s))

abbrev pub line_of_verdict : List (Option Settled) → Verdict → Option Line
line_of_verdict claims v = line_if_stated (stated_of claims v)

-- WHAT SPEAKS AGAINST A PROVER: a line that calls it faulty, spent or refuted

abbrev pub is_said_against : ℕ → Said → Bool
is_said_against p said = ((said.first == p) && speaks_against said.of_first) || ((said.second == p) && speaks_against said.of_second)

abbrev pub is_against : ℕ → Line → Bool
is_against p (out_line q w) = (q == p) && speaks_against w
is_against p (round_line number mid said) = is_said_against p said
is_against p (parts_line r said) = is_said_against p said
is_against p (step_line lo said) = is_said_against p said
is_against p line = false

abbrev pub is_against_if_there : ℕ → Option Line → Bool
is_against_if_there p line = option_map_or (is_against p) line false

-- one of the lines is
abbrev pub are_against : ℕ → List (Option Line) → Bool
are_against p lines = list_any (is_against_if_there p) lines
