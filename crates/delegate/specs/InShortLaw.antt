-- To believe, for the laws `the_headline_in_short`, `in_short_is_said_plainly` and `judge_accepts_what_run_prints`. The sentence in short, of
-- what is written of a case whose numbers are in range.
use Rattle.std.specs.Prelude.{◌≡◌, ◌⊎◌, ℕ, List, ◌++◌, codes, Contains}
use Rattle.rv_step.specs.State.{State}
use Rattle.rv_step.specs.Step.{state_at}
use Rattle.case_reader.specs.Case.{CaseData}
use Rattle.digest_core.specs.declared.name.DigestName.{DigestName}
use Rattle.command_line.specs.declared.request.MatchText.{MatchText}
use Rattle.case_match.specs.TruthfulInCase.{IsInRange}
use Rattle.delegate.specs.Answered.{status_number}
use Rattle.case_match.specs.Match.{record_of_case, verdict_of_record}
use Rattle.delegate.specs.Headline.{AreByteStrings}
use Rattle.digest_core.specs.Name.{digest_of}
use Rattle.delegate.specs.Decided.{response_to_case}
use Rattle.workload.specs.Workload.{big_data}
use Rattle.delegate.specs.commands.Judge.{judging}
use Rattle.delegate.specs.commands.Big.{summing_up}
use Rattle.digest_core.specs.declared.name.DigestName.TheVariants.{Sha256}
use Rattle.delegate.specs.InShort.{honest, accepting, EndsWith, ShowsTwoStrings, big_start, big_bound, HasLastLine, AskForTheMatch, AskForTheRun, IsImageOf, IsCaseOf, IsStartOf, Collides, AcceptsOrCollides, SaysInShort}
use Rattle.delegate.specs.Plainly.{SaysPlainly}

-- whatever the other provers say, what is written of a case with a prover `{}` accepts the run, or shows a collision
abbrev pub HeadlineInShort : Type 0
HeadlineInShort =
    (asked : MatchText) (name : DigestName) (c : CaseData) (start : State) → IsInRange c start → AreByteStrings (verdict_of_record (digest_of name) c start (record_of_case (digest_of name) c start)) → Contains c.provers honest →
    AcceptsOrCollides name (state_at start c.bound) (status_number (response_to_case (judging asked name) c start).answered) (response_to_case (judging asked name) c start).text

-- `judge` accepts what `run` prints of the same bytes, or shows a collision
pub record JudgeAccepts (name : DigestName) (judge_status : ℕ) (judge_text : List ℕ) (run_status : ℕ) (run_text : List ℕ) : Type 0 where
  pub answer : List ℕ
  pub run_done : run_status ≡ 0
  pub printed : run_text ≡ codes "answer " ++ (answer ++ codes "\n")
  pub judged : ((judge_status ≡ 0) × HasLastLine (codes "accept " ++ answer) judge_text) ⊎ Collides name judge_status judge_text

abbrev pub JudgeAcceptsWhatRunPrints : Type 0
JudgeAcceptsWhatRunPrints =
    (judging running : List (List ℕ)) (bytes : List ℕ) (judge_status : ℕ) (judge_text : List ℕ) (run_status : ℕ) (run_text : List ℕ) →
    SaysInShort judging bytes judge_status judge_text → SaysInShort running bytes run_status run_text →
    (name : DigestName) (c : CaseData) (start : State) → AskForTheMatch judging name → AskForTheRun running →
    IsCaseOf bytes c → IsStartOf IsImageOf c start → Contains c.provers honest → JudgeAccepts name judge_status judge_text run_status run_text

-- what is said of all arguments is said of plain words
abbrev pub InShortSaysPlainly : Type 0
InShortSaysPlainly = (words : List (List ℕ)) (bytes : List ℕ) (status : ℕ) (text : List ℕ) → SaysInShort words bytes status text → SaysPlainly words bytes status text

-- what is written of the large workload of each seed ends so
abbrev pub BigInShort : Type 0
BigInShort = (seed : ℕ) → IsInRange (big_data seed) (big_start seed) →
    AreByteStrings (verdict_of_record (digest_of Sha256) (big_data seed) (big_start seed) (record_of_case (digest_of Sha256) (big_data seed) (big_start seed))) →
    (status_number (response_to_case (summing_up seed) (big_data seed) (big_start seed)).answered ≡ 0)
    × (EndsWith (accepting (state_at (big_start seed) big_bound)) (response_to_case (summing_up seed) (big_data seed) (big_start seed)).text
    ⊎ ShowsTwoStrings EndsWith Sha256 (response_to_case (summing_up seed) (big_data seed) (big_start seed)).text)
