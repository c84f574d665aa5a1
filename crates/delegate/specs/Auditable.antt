-- To believe. The pipe `judge --full | audit`: what `judge --full` writes of one case, or of each of many tasks, `audit` confirms with its
-- last line.
use Rattle.std.specs.Prelude.{◌≡◌, ◌<◌, ◌≤◌, ℕ, List, Contains, length, codes, ◌++◌, Some}
use Rattle.rv_step.specs.State.{State}
use Rattle.case_reader.specs.Case.{CaseData}
use Rattle.transcript_text.specs.MoveLists.{moves_of}
use Rattle.digest_core.specs.declared.name.DigestName.{DigestName}
use Rattle.transcript_text.specs.FullLines.{AreWritten}
use Rattle.command_line.specs.Words.{chosen}
use Rattle.command_line.specs.declared.request.MatchText.TheVariants.{Report, Full}
use Rattle.command_line.specs.declared.request.Command.TheVariants.{Audit}
use Rattle.case_match.specs.Match.{record_of_case}
use Rattle.case_match.specs.TruthfulInCase.{IsInRange}
use Rattle.digest_core.specs.Name.{digest_of}
use Rattle.delegate.specs.Loading.{LoadedData}
use Rattle.delegate.specs.Decided.{response_to_case, StandsUnder}
use Rattle.delegate.specs.commands.Judge.{judging}
use Rattle.delegate.specs.Headline.{IsCase, AreTasks}
use Rattle.delegate.specs.InShort.{HasLastLine}
use Rattle.delegate.specs.Outcome.{outcome}
use Rattle.delegate.specs.declared.response.Response.{Response}
use Rattle.delegate.specs.declared.response.Answered.TheVariants.{Done}

-- `audit` of this text answers that all is done, with the word `confirmed` and the text's last line, which has no line feed in it
pub record IsConfirmedByItsLine (auditing : List (List ℕ)) (text : List ℕ) : Type 0 where
  pub line : List ℕ
  pub one_line : ¬ Contains line 10
  pub last : HasLastLine line text
  pub confirmed : outcome auditing text ≡ record { answered = Done; text = codes "confirmed " ++ (line ++ codes "\n") }

-- what `judge --full` writes of a case, however its match ends, is confirmed by `audit` if it isn't longer than what `audit` reads
abbrev pub IsAuditable : List (List ℕ) → List ℕ → Response → Type 0
IsAuditable words bytes response =
    (name : DigestName) (c : CaseData) (start : State) (auditing : List (List ℕ)) → IsCase words bytes (judging Full name) c start →
    length response.text ≤ 16777216 → chosen auditing ≡ Some Audit → IsConfirmedByItsLine auditing response.text

-- the text is one of parts, each under the line of its task, and that of task t is confirmed so if it isn't longer than what `audit` reads
pub record IsPartAuditable (auditing : List (List ℕ)) (tasks t : ℕ) (text : List ℕ) : Type 0 where
  pub part : List ℕ
  pub stands : StandsUnder tasks t part text
  pub confirmed : length part ≤ 16777216 → IsConfirmedByItsLine auditing part

-- of what `judge --full` writes of tasks `audit` confirms each part, however its match ends
abbrev pub AreAuditable : List (List ℕ) → List ℕ → Response → Type 0
AreAuditable words bytes response =
    (name : DigestName) (tasks : List LoadedData) (t : ℕ) (auditing : List (List ℕ)) → AreTasks words bytes (judging Full name) tasks →
    0 < t → t ≤ length tasks → chosen auditing ≡ Some Audit → IsPartAuditable auditing (length tasks) t response.text

-- of what is written of a case that is in range and whose answers have wire forms
abbrev pub WrittenTextsAreConfirmed : Type 0
WrittenTextsAreConfirmed =
    (name : DigestName) (c : CaseData) (start : State) (auditing : List (List ℕ)) → IsInRange c start → start.version ≡ c.version →
    AreWritten (moves_of (record_of_case (digest_of name) c start)) → length (response_to_case (judging Full name) c start).text ≤ 16777216 →
    chosen auditing ≡ Some Audit → IsConfirmedByItsLine auditing (response_to_case (judging Full name) c start).text

-- `judge` and `judge --full` of one case have one answer and one last line
pub record EndAlike (name : DigestName) (c : CaseData) (start : State) : Type 0 where
  pub line : List ℕ
  pub answer : (response_to_case (judging Report name) c start).answered ≡ (response_to_case (judging Full name) c start).answered
  pub of_report : HasLastLine line (response_to_case (judging Report name) c start).text
  pub of_full : HasLastLine line (response_to_case (judging Full name) c start).text

abbrev pub JudgesEndAlike : Type 0
JudgesEndAlike = (name : DigestName) (c : CaseData) (start : State) → EndAlike name c start
