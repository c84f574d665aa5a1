-- To believe. The line that sums up the match of a large workload. Numbers are decimal.
use Rattle.std.specs.Prelude.{ℕ, ◌+◌, List, [], ◌∷◌, ◌++◌, length, codes, decimal}
use Rattle.bisect_game.specs.Bisection.{Bisection, rounds_of}
use Rattle.tournament.specs.declared.reading.Verdict.{Verdict}
use Rattle.tournament.specs.Bracket.{Record}
use Rattle.transcript_text.specs.Lines.{line_of_verdict}
use Rattle.transcript_text.specs.Report.{text_if_there}

-- the bisection rounds of all disputes
abbrev pub rounds_in : List Bisection → ℕ
rounds_in [] = 0
rounds_in (d ∷ ds) = rounds_of d + rounds_in ds

-- the workload's seed, and how many play
unfoldable pub workload_text : ℕ → ℕ → List ℕ
workload_text seed provers = codes "big " ++ (decimal seed ++ (codes " provers " ++ decimal provers))

-- how many disputes and bisection rounds there were
unfoldable pub counts_text : ℕ → ℕ → List ℕ
counts_text disputes rounds = codes " disputes " ++ (decimal disputes ++ (codes " rounds " ++ decimal rounds))

-- `big N provers M disputes D rounds R `, and the line of the verdict
abbrev pub summary_text : ℕ → Record → Verdict → List ℕ
summary_text seed match_record verdict =
    workload_text seed (length match_record.claims)
    ++ (counts_text (length match_record.disputes) (rounds_in match_record.disputes)
    ++ (codes " " ++ text_if_there (line_of_verdict match_record.claims verdict)))
