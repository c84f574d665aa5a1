-- No answer of a command that needs no runtime has the status of out of memory.
use Rattle.std.proofs.Common.{◌≡◌, true, refl, subst, sym, ◌∙◌}
use Rattle.delegate.specs.Alone.{command_of}
use Rattle.delegate.specs.Answered.{is_answer_of, is_of_case, status_number}
use Rattle.delegate.specs.declared.commands.Alone.{Alone}
use Rattle.delegate.specs.declared.commands.Alone.TheVariants.{Run, Audit, Listing}
use Rattle.delegate.specs.declared.response.Answered.{Answered}
use Rattle.delegate.specs.declared.response.Answered.TheVariants.{Done, Usage, Case, Image, ReadFault, WriteFault, AuditRefused, Memory, NoneLeft, Collision, TooLong}

pub nine-is-memory : (answered : Answered) → status_number answered ≡ 9 → answered ≡ Memory
nine-is-memory Done is = absurd (cc is)
nine-is-memory Usage is = absurd (cc is)
nine-is-memory Case is = absurd (cc is)
nine-is-memory Image is = absurd (cc is)
nine-is-memory ReadFault is = absurd (cc is)
nine-is-memory WriteFault is = absurd (cc is)
nine-is-memory AuditRefused is = absurd (cc is)
nine-is-memory Memory is = refl
nine-is-memory NoneLeft is = absurd (cc is)
nine-is-memory Collision is = absurd (cc is)
nine-is-memory TooLong is = absurd (cc is)

not-memory : (command : Alone) → is_answer_of (command_of command) Memory ≡ true → ⊥
not-memory Run is = cc is
not-memory Audit is = cc is
not-memory Listing is = cc is

pub never-nine : (command : Alone) (answered : Answered) → is_answer_of (command_of command) answered ≡ true → status_number answered ≡ 9 → ⊥
never-nine command answered own is =
    not-memory command (subst (λ (a : Answered). is_answer_of (command_of command) a ≡ true) (nine-is-memory answered is) own)

-- nor has any answer to the bytes of a case
pub of-case-nine : (answered : Answered) → is_of_case answered ≡ true → status_number answered ≡ 9 → ⊥
of-case-nine answered own is = by (nine-is-memory answered is)
  where
    by : answered ≡ Memory → ⊥
    by e = cc (subst (λ (a : Answered). is_of_case a ≡ true) e own)
