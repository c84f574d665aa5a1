-- To believe. Texts that stand one below the other, each under a line `task K`, and can be told apart: no line of theirs is like that one.
use Rattle.std.specs.Prelude.{◌≡◌, ◌≢◌, List, ℕ, ◌++◌, codes, Option}
use Rattle.tournament.specs.declared.reading.Verdict.{Verdict}
use Rattle.tournament.specs.Bracket.{Record}
use Rattle.deposits.specs.declared.amounts.Balances.{Balances}
use Rattle.transcript_text.specs.declared.text.Head.{Head}
use Rattle.transcript_text.specs.Report.{report_text}
use Rattle.transcript_text.specs.FullLines.{full_text}

-- a text whose last line is ended, and none of whose lines begins with `task `: neither its first one, nor one behind a line feed
pub record IsTaskPart (text : List ℕ) : Type 0 where
  pub before : List ℕ
  pub ended : text ≡ before ++ codes "\n"
  pub no_task : (front behind : List ℕ) → codes "\n" ++ text ≢ front ++ (codes "\ntask " ++ behind)

-- each report is such a text, and each full text
pub record TextsAreTaskParts : Type 0 where
  pub report : (head : Head) (settled : Record) (verdict : Verdict) (balances : Option Balances) → IsTaskPart (report_text head settled verdict balances)
  pub full : (head : Head) (settled : Record) (verdict : Verdict) → IsTaskPart (full_text head settled verdict)
