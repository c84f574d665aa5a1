-- All is done for `audit` only where the bytes are confirmed, and then the machine's law holds of the text.
use Rattle.std.proofs.Common.{◌≡◌, ℕ, ◌≤◌, List, length, nat_lt, Result, Ok, Err, Bool, true, false, cond, refl, sym, subst, arith}
use Rattle.rd_base.specs.Results.{◌>>=◌}
use Rattle.digest_core.specs.declared.name.DigestName.{DigestName}
use Rattle.transcript_text.specs.declared.text.FullText.{FullText}
use Rattle.transcript_text.specs.declared.reader.fault.TextFault.{TextFault}
use Rattle.transcript_text.specs.reader.ReadText.{read_text}
use Rattle.transcript_text.specs.reader.InLimits.{IsInLimits}
use Rattle.transcript_text.specs.reader.Laws.{ReadsExactly}
use Rattle.audit.specs.declared.finding.Audit.{Audit}
use Rattle.audit.specs.declared.finding.Audit.TheVariants.{Confirmed, Refused}
use Rattle.audit.specs.LineByLine.{audited}
use Rattle.machine_audit.specs.MachineAudit.{ConfirmedCasesAreRight}
use Rattle.command_line.specs.declared.request.Command.TheVariants.{Audit as AuditOf}
use Rattle.digest_core.specs.Name.{digest_of}
use Rattle.delegate.specs.Refusal.{too_long, or_refusal}
use Rattle.delegate.specs.Outcome.{either_way}
use Rattle.delegate.specs.commands.Audit.{text_refusal, ruling_of_text, response_to_finding, audit_response}
use Rattle.delegate.specs.Confirmed.{IsConfirmed, ConfirmedTextsAreRight}
use Rattle.delegate.specs.declared.response.Response.{Response}
use Rattle.delegate.specs.declared.response.Answered.TheVariants.{Done}
use Rattle.delegate.proofs.OutcomeLemmas.{of_command, outcome-of}

-- the head of a text that was read names a version up to 3
pub known-version : ReadsExactly → (bytes : List ℕ) (text : FullText) → read_text bytes ≡ Ok text → text.head.version ≤ 3
known-version exactly bytes text read =
    let limits : IsInLimits text = ((exactly bytes text).0 read).0 in
    omega (arith, limits.head.version.1)

abbrev AreRight : Type 0
AreRight = (name : DigestName) → ConfirmedCasesAreRight (digest_of name)

of-finding : AreRight → (bytes : List ℕ) (text : FullText) → read_text bytes ≡ Ok text → (finding : Audit) → audited (ruling_of_text text) text ≡ finding
    → (response_to_finding text.stated finding).answered ≡ Done → IsConfirmed bytes (response_to_finding text.stated finding)
of-finding right bytes text read (Confirmed v) is done =
    record { text = text; read = read; written = refl; right = λ start p begins some few lines. right text.head.digest bytes text v start p read is begins some few lines }
of-finding right bytes text read (Refused line cause) is done = absurd (cc done)

of-text : AreRight → (bytes : List ℕ) (r : Result FullText TextFault) → read_text bytes ≡ r
    → (either_way (or_refusal text_refusal r >>= (λ text. Ok (response_to_finding text.stated (audited (ruling_of_text text) text))))).answered ≡ Done
    → IsConfirmed bytes (either_way (or_refusal text_refusal r >>= (λ text. Ok (response_to_finding text.stated (audited (ruling_of_text text) text)))))
of-text right bytes (Ok text) read done = of-finding right bytes text read (audited (ruling_of_text text) text) refl done
of-text right bytes (Err fault) read done = absurd (cc done)

of-checked : AreRight → (bytes : List ℕ) → (either_way (audit_response bytes)).answered ≡ Done → IsConfirmed bytes (either_way (audit_response bytes))
unfolding audit_response
of-checked right bytes done = of-text right bytes (read_text bytes) refl done

of-bytes : AreRight → (bytes : List ℕ) (many : Bool) → (either_way (cond many (Err too_long) (Ok bytes) >>= audit_response)).answered ≡ Done → IsConfirmed bytes (either_way (cond many (Err too_long) (Ok bytes) >>= audit_response))
of-bytes right bytes true done = absurd (cc done)
of-bytes right bytes false done = of-checked right bytes done

pub confirmed-are-right : AreRight → ConfirmedTextsAreRight
confirmed-are-right right words bytes is done =
    let same = outcome-of words bytes _ (of_command words bytes AuditOf is) in
    subst (IsConfirmed bytes) (sym same) (of-bytes right bytes (nat_lt 16777216 (length bytes)) (subst (λ (r : Response). r.answered ≡ Done) same done))
