-- Derived. A match between two lines of a text: nobody has passed on its open question. The contracts of the calls that play a line say so.
use Rattle.std.specs.Prelude.{ℕ, ◌-◌, Bool, true, false, replicate, slice_set}
use Rattle.bisect_game.specs.Rules.{Rules}
use Rattle.tournament.specs.Bracket.{Record}
use Rattle.tournament.specs.declared.posting.Reply.{Reply}
use Rattle.tournament.specs.declared.posting.Reply.TheVariants as reply
use Rattle.tournament.specs.Moves.{MatchState}

abbrev pub fresh : Rules → Record → MatchState
fresh rules t = record { record_ = t; passed = replicate rules.setup.provers 0 }

-- a prover has passed so often on its open question, and nobody else has
abbrev pub passed_on : Rules → Record → ℕ → ℕ → MatchState
passed_on rules t p n = record { record_ = t; passed = slice_set (replicate rules.setup.provers 0) (p - 1) n }

abbrev pub is_faulty : Reply → Bool
is_faulty reply.Faulty = true
is_faulty _ = false
