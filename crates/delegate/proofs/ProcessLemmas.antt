-- What an exit status says of the answer.
use Rattle.std.proofs.Common.{◌≡◌, ◌↔◌, true, ℕ, List, Option, Some, None, ap, sym, subst, ◌∙◌}
use Rattle.command_line.specs.Words.{chosen}
use Rattle.delegate.specs.Answered.{status_number, is_outcome, is_answer_to, reads_all}
use Rattle.delegate.specs.Outcome.{outcome}
use Rattle.delegate.specs.Writing.{is_written_whole, is_read_whole, ForItsBytes, IsWrittenBy, IsWritten, IsStatusOf}
use Rattle.delegate.specs.declared.response.Response.{Response}
use Rattle.delegate.specs.declared.response.Answered.{Answered}
use Rattle.delegate.specs.declared.response.Answered.TheVariants.{Done, Usage, Case, Image, ReadFault, WriteFault, AuditRefused, Memory, NoneLeft, Collision, TooLong}
use Rattle.delegate.proofs.OutcomeLemmas.{for_its_bytes}

pub whole : (answered : Answered) → is_written_whole (status_number answered) ≡ true → is_outcome answered ≡ true
whole Done is = is
whole Usage is = is
whole Case is = is
whole Image is = is
whole ReadFault is = is
whole WriteFault is = is
whole AuditRefused is = is
whole Memory is = is
whole NoneLeft is = is
whole Collision is = is
whole TooLong is = is

pub status-2 : (answered : Answered) → status_number answered ≡ 2 → answered ≡ Usage
status-2 Usage is = cc
status-2 Done is = absurd (cc)
status-2 Case is = absurd (cc)
status-2 Image is = absurd (cc)
status-2 ReadFault is = absurd (cc)
status-2 WriteFault is = absurd (cc)
status-2 AuditRefused is = absurd (cc)
status-2 Memory is = absurd (cc)
status-2 NoneLeft is = absurd (cc)
status-2 Collision is = absurd (cc)
status-2 TooLong is = absurd (cc)

pub status-5 : (answered : Answered) → status_number answered ≡ 5 → answered ≡ ReadFault
status-5 ReadFault is = cc
status-5 Done is = absurd (cc)
status-5 Usage is = absurd (cc)
status-5 Case is = absurd (cc)
status-5 Image is = absurd (cc)
status-5 WriteFault is = absurd (cc)
status-5 AuditRefused is = absurd (cc)
status-5 Memory is = absurd (cc)
status-5 NoneLeft is = absurd (cc)
status-5 Collision is = absurd (cc)
status-5 TooLong is = absurd (cc)

pub status-6 : (answered : Answered) → status_number answered ≡ 6 → answered ≡ WriteFault
status-6 WriteFault is = cc
status-6 Done is = absurd (cc)
status-6 Usage is = absurd (cc)
status-6 Case is = absurd (cc)
status-6 Image is = absurd (cc)
status-6 ReadFault is = absurd (cc)
status-6 AuditRefused is = absurd (cc)
status-6 Memory is = absurd (cc)
status-6 NoneLeft is = absurd (cc)
status-6 Collision is = absurd (cc)
status-6 TooLong is = absurd (cc)

pub status-9 : (answered : Answered) → status_number answered ≡ 9 → answered ≡ Memory
status-9 Memory is = cc
status-9 Done is = absurd (cc)
status-9 Usage is = absurd (cc)
status-9 Case is = absurd (cc)
status-9 Image is = absurd (cc)
status-9 ReadFault is = absurd (cc)
status-9 WriteFault is = absurd (cc)
status-9 AuditRefused is = absurd (cc)
status-9 NoneLeft is = absurd (cc)
status-9 Collision is = absurd (cc)
status-9 TooLong is = absurd (cc)

pub read_whole : (answered : Answered) → is_read_whole (status_number answered) ≡ true → reads_all answered ≡ true
read_whole Done is = is
read_whole Usage is = is
read_whole Case is = is
read_whole Image is = is
read_whole ReadFault is = is
read_whole WriteFault is = is
read_whole AuditRefused is = is
read_whole Memory is = is
read_whole NoneLeft is = is
read_whole Collision is = is
read_whole TooLong is = is

pub not-status-5 : (answered : Answered) → ¬ (status_number answered ≡ 5) → ¬ (answered ≡ ReadFault)
not-status-5 answered other is = other (ap status_number is)

pub not-status-6 : (answered : Answered) → ¬ (status_number answered ≡ 6) → ¬ (answered ≡ WriteFault)
not-status-6 answered other is = other (ap status_number is)

-- what was written whole has the status of its answer
pub by-status : (response : Response) (answered : Answered) (status : ℕ) (before now : Option (List ℕ)) → status ≡ status_number answered → IsWritten response answered before now → IsWrittenBy response status before now
by-status response answered status before now is written = record { status_is = is ∙ ap status_number written.answered; text = written.text }

pub whole-by : (answered : Answered) (status : ℕ) → status ≡ status_number answered → is_written_whole status ≡ true → is_outcome answered ≡ true
whole-by answered status is wholly = whole answered (sym (ap is_written_whole is) ∙ wholly)

-- what is promised of an answer and the words is promised of its status and of the words as they were given
pub promised-by : (left : Option (List ℕ)) (P : List (List ℕ) → List ℕ → Type 0) (words other : List (List ℕ)) (answered : Answered) (status : ℕ) (before now : Option (List ℕ))
    → words ≡ other → status ≡ status_number answered
    → ForItsBytes left (λ bytes. IsWritten (outcome words bytes) answered before now × P words bytes)
    → ForItsBytes left (λ bytes. IsWrittenBy (outcome other bytes) status before now × P other bytes)
promised-by left P words other answered status before now same is promised =
    subst (λ (ws : List (List ℕ)). ForItsBytes left (λ bytes. IsWrittenBy (outcome ws bytes) status before now × P ws bytes)) same
    (for_its_bytes left _ _ (λ bytes its. (by-status (outcome words bytes) answered status before now is its.0, its.1)) promised)

-- its status is one of its command, and it is 2 exactly if the arguments name no command
pub of-command-by : (words other : List (List ℕ)) (answered : Answered) (status : ℕ) → words ≡ other → status ≡ status_number answered
    → is_answer_to (chosen words) answered ≡ true → IsStatusOf (chosen other) status
of-command-by words other answered status same is holds = record {
  answered = answered;
  status_is = is;
  of_command = subst (λ (ws : List (List ℕ)). is_answer_to (chosen ws) answered ≡ true) same holds;
}

pub usage-by : (words other : List (List ℕ)) (answered : Answered) (status : ℕ) → words ≡ other → status ≡ status_number answered
    → ((answered ≡ Usage) ↔ (chosen words ≡ None)) → ((status ≡ 2) ↔ (chosen other ≡ None))
usage-by words other answered status same is both =
    subst (λ (ws : List (List ℕ)). (status ≡ 2) ↔ (chosen ws ≡ None)) same
    (λ two. both.0 (status-2 answered (sym is ∙ two)), λ none. is ∙ ap status_number (both.1 none))

-- the arguments are those that were given
pub same-words : (given_words : Option (List (List ℕ))) (words other : List (List ℕ)) → Some words ≡ given_words → given_words ≡ Some other → words ≡ other
same-words given_words words other is also = (let both = is ∙ also in cc both)

pub ruleset status_facts = (whole, read_whole, status-2, status-5, status-6, status-9, not-status-5, not-status-6)
