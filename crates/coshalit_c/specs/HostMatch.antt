-- To believe. What a caller in another language gets of a match of its own, which is a log of posts.
use Rattle.std.specs.Prelude.{◌≡◌, ℕ, true, false, List, ◌++◌, length, take, drop, Option, Some, None, if◌then◌else◌}
use Rattle.sha2.specs.Sha256.{sha256}
use Rattle.digest_core.specs.declared.name.DigestName.TheVariants.{Sha256}
use Rattle.bisect_game.specs.Rules.{Rules}
use Rattle.step_referee.specs.MachineRuling.{machine_ruling}
use Rattle.tournament.specs.declared.posting.Reply.{Reply}
use Rattle.tournament.specs.declared.posting.Reply.TheVariants as reply
use Rattle.tournament.specs.declared.reading.Verdict.{Verdict}
use Rattle.tournament.specs.declared.reading.Verdict.TheVariants as verdict
use Rattle.tournament.specs.Bracket.{Record, is_complete, verdict_of}
use Rattle.tournament.specs.Moves.{MatchState}
use Rattle.transcript_text.specs.declared.text.Head.{Head}
use Rattle.transcript_text.specs.FullLines.{full_text}
use Rattle.audit.specs.OwnMatch.{IsReadAndConfirmed}
use Rattle.proof_wire.specs.Fault.{wire_rule}
use Rattle.open_match.specs.OpenMatch.{IsAfterLog}
use Rattle.open_match.specs.Log.{IsNoLogAt}
use Rattle.open_match.specs.declared.entry.EntryFault.{EntryFault}
use Rattle.open_match.specs.declared.entry.EntryFault.TheVariants as no_entry
use Rattle.coshalit_c.specs.declared.asked.CoshalitQuestion.{CoshalitQuestion}
use Rattle.coshalit_c.specs.declared.numbers.CoshalitNumbers.{CoshalitNumbers}
use Rattle.coshalit_c.specs.declared.found.CoshalitMatch.{CoshalitMatch}
use Rattle.coshalit_c.specs.declared.texts.CoshalitAnswer.{CoshalitAnswer}
use Rattle.coshalit_c.specs.Asked.{asked_of}
use Rattle.machine_audit.specs.MachineAudit.{machine_rules}
use Rattle.std.specs.Option.{unwrap_or}

-- the head of these numbers: the digest is SHA-256
abbrev pub head_of_match : CoshalitNumbers → Head
head_of_match n = record { provers = n.provers; bound = n.bound; patience = n.patience; version = n.version; fan = n.fan; digest = Sha256; start = record { 0 = n.start } }

-- the number of the reply to the last post
abbrev pub reply_number : Option Reply → ℕ
reply_number None = 0
reply_number (Some reply.Taken) = 1
reply_number (Some reply.Faulty) = 2
reply_number (Some reply.Spent) = 3
reply_number (Some (reply.Stale o)) = 4

-- who is accepted, and 0 if nobody is
abbrev pub prover_accepted : Verdict → ℕ
prover_accepted (verdict.Accept n) = n
prover_accepted other = 0

-- the status of the program for a verdict
abbrev pub status_of_verdict : Verdict → ℕ
status_of_verdict (verdict.Accept n) = 0
status_of_verdict verdict.NoneLeft = 10
status_of_verdict (verdict.Collision x y) = 11

-- that of a match: 13 while a question is open
abbrev pub status_of_match : Rules → Record → ℕ
status_of_match rules r = if is_complete r then status_of_verdict (verdict_of rules r) else 13

abbrev pub accepted_of_match : Rules → Record → ℕ
accepted_of_match rules r = if is_complete r then prover_accepted (verdict_of rules r) else 0

-- what is written of a match in this state: its status, the reply to the last post, who is accepted, and the open questions, as far as
-- there is room
pub record IsMatchWritten (rules : Rules) (provers : ℕ) (st : MatchState) (reply : Option Reply) (status : ℕ) (found : CoshalitMatch) (before now : List CoshalitQuestion) : Type 0 where
  pub status_ : status ≡ status_of_match rules st.record_
  pub is : found ≡ record {
    reply = reply_number reply;
    accepted = accepted_of_match rules st.record_;
    asked = length (asked_of rules st provers);
    cause = 0;
    rule = 0;
    at = 0;
  }
  pub room : now ≡ take (length before) (asked_of rules st provers) ++ drop (length (asked_of rules st provers)) before

-- this is so of the match after the log, and of the reply to its last post
pub record IsAfterTheLog (head : Head) (log : List ℕ) (says : MatchState → Option Reply → Type 0) : Type 0 where
  pub state : MatchState
  pub reply : Option Reply
  pub after : IsAfterLog (machine_rules sha256 head) log state reply
  pub so : says state reply

-- it is written of the match after the log
abbrev pub IsMatchFound : Head → List ℕ → ℕ → CoshalitMatch → List CoshalitQuestion → List CoshalitQuestion → Type 0
IsMatchFound head log status found before now =
    IsAfterTheLog head log (λ st reply. IsMatchWritten (machine_rules sha256 head) head.provers st reply status found before now)

-- why bytes don't begin with an entry, by number, and the number of the rule that the bytes of an answer break
abbrev pub entry_cause_number : EntryFault → ℕ
entry_cause_number no_entry.Cut = 1
entry_cause_number no_entry.NoProver = 2
entry_cause_number (no_entry.NoAnswer fault) = 3
entry_cause_number no_entry.Memory = 0

abbrev pub entry_rule_number : EntryFault → ℕ
entry_rule_number (no_entry.NoAnswer fault) = unwrap_or (wire_rule fault) 0
entry_rule_number other = 0

-- the bytes are no log: where and why
pub record IsNoLogFound (head : Head) (log : List ℕ) (found : CoshalitMatch) : Type 0 where
  pub cause : EntryFault
  pub place : IsNoLogAt head.provers log found.at cause
  pub numbers : found ≡ record { reply = 0; accepted = 0; asked = 0; cause = entry_cause_number cause; rule = entry_rule_number cause; at = found.at }

-- the text of a match that is over: its status, how many bytes the text has, as much of it as there is room for, and that it is confirmed
pub record IsTextOfMatch (head : Head) (st : MatchState) (answer : CoshalitAnswer) (before now : List ℕ) : Type 0 where
  pub over : is_complete st.record_ ≡ true
  pub status_ : answer.status ≡ status_of_match (machine_rules sha256 head) st.record_
  pub size : answer.length ≡ length (full_text head st.record_ (verdict_of (machine_rules sha256 head) st.record_))
  pub room : now ≡ take (length before) (full_text head st.record_ (verdict_of (machine_rules sha256 head) st.record_))
      ++ drop (length (full_text head st.record_ (verdict_of (machine_rules sha256 head) st.record_))) before
  pub confirmed : IsReadAndConfirmed (machine_ruling sha256 head.version) head st.record_

-- it is that of the match after the log
abbrev pub IsTextFound : Head → List ℕ → CoshalitAnswer → List ℕ → List ℕ → Type 0
IsTextFound head log answer before now = IsAfterTheLog head log (λ st reply. IsTextOfMatch head st answer before now)

-- no text, as a question is open after the log
abbrev pub IsStillOpen : Head → List ℕ → Type 0
IsStillOpen head log = IsAfterTheLog head log (λ st reply. is_complete st.record_ ≡ false)

-- no text, as the bytes are no log
pub record IsNoLogAnywhere (head : Head) (log : List ℕ) : Type 0 where
  pub place : ℕ
  pub cause : EntryFault
  pub none : IsNoLogAt head.provers log place cause
