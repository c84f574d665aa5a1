-- What `judge --full` writes is confirmed by `audit`.
use Rattle.std.proofs.Common.{◌≡◌, ℕ, zero, suc, ◌-◌, ◌<◌, ◌≤◌, ◌++◌, List, [], ◌∷◌, length, codes, Some, Result, Ok, Err, slice_index, slice_get, refl, sym, ap, subst, ◌∙◌, arith}
use Rattle.sha2.proofs.Facts256.{length-sha256}
use Rattle.rd_base.specs.Results.{◌>>=◌}
use Rattle.digest_core.specs.Sha256Bytes.{byte-sha256}
use Rattle.digest_core.specs.Weak8Bytes.{length-weak8, byte-weak8}
use Rattle.rv_step.specs.State.{State}
use Rattle.rv_step.specs.Loaded.{started}
use Rattle.image_reader.specs.Image.{Image}
use Rattle.case_reader.specs.Case.{CaseData}
use Rattle.case_reader.specs.Tasks.{One, CasesAreTasks}
use Rattle.tournament.specs.declared.reading.Verdict.{Verdict}
use Rattle.tournament.specs.Bracket.{Record, bracket, verdict_of}
use Rattle.tournament.specs.Journals.{answers_of}
use Rattle.bisect_game.specs.Rules.{Rules, rules_of}
use Rattle.step_referee.specs.MachineRuling.{machine_ruling}
use Rattle.transcript_text.specs.declared.text.Head.{Head}
use Rattle.transcript_text.specs.declared.text.FullText.{FullText}
use Rattle.transcript_text.specs.declared.text.Stated.{Stated}
use Rattle.digest_core.specs.declared.name.DigestName.{DigestName}
use Rattle.digest_core.specs.declared.name.DigestName.TheVariants.{Sha256, Weak8}
use Rattle.transcript_text.specs.MoveLists.{moves_of}
use Rattle.transcript_text.specs.StatedVerdict.{stated_of, VerdictsAreStated}
use Rattle.transcript_text.specs.FullLines.{full_text, AreWritten}
use Rattle.transcript_text.specs.Lines.{line_of_stated, line_if_stated}
use Rattle.transcript_text.specs.Report.{line_text, text_if_there}
use Rattle.transcript_text.specs.reader.Laws.{stated_text, IsOneLine, ReadVerdictsAreOneLine}
use Rattle.transcript_text.specs.reader.ReadText.{read_text}
use Rattle.transcript_text.specs.reader.InLimits.{IsHeadInLimits}
use Rattle.audit.specs.declared.finding.Audit.{Audit}
use Rattle.audit.specs.declared.finding.Audit.TheVariants.{Confirmed}
use Rattle.audit.specs.LineByLine.{audited}
use Rattle.audit.specs.OwnMatch.{IsReadAndConfirmed}
use Rattle.machine_audit.specs.WrittenCases.{MachineCasesAreConfirmed}
use Rattle.command_line.specs.Words.{chosen}
use Rattle.command_line.specs.declared.request.MatchText.{MatchText}
use Rattle.command_line.specs.declared.request.MatchText.TheVariants.{Report, Full}
use Rattle.command_line.specs.declared.request.Command.TheVariants.{Audit as AuditOf}
use Rattle.case_match.specs.Match.{start_root, rules_of_case, setup_of, says_of_case, record_of_case, verdict_of_record}
use Rattle.case_match.specs.TruthfulInCase.{IsInRange}
use Rattle.digest_core.specs.Name.{digest_of}
use Rattle.delegate.specs.Decided.{written_as, match_head, balances_in, before_verdict, response_to_case}
use Rattle.delegate.specs.Loading.{LoadedData, image_by, start_or_refusal}
use Rattle.delegate.specs.Refusal.{or_refusal}
use Rattle.delegate.specs.commands.Judge.{judging}
use Rattle.delegate.specs.commands.Audit.{text_refusal, ruling_of_text, response_to_finding, audit_response}
use Rattle.delegate.specs.Auditable.{IsConfirmedByItsLine, IsAuditable, AreAuditable, WrittenTextsAreConfirmed, JudgesEndAlike}
use Rattle.delegate.specs.InShort.{HasLastLine}
use Rattle.delegate.specs.Outcome.{outcome}
use Rattle.delegate.specs.Standing.{DecidesInRange}
use Rattle.delegate.specs.declared.response.Subject.{Subject}
use Rattle.delegate.specs.declared.response.Subject.TheVariants.{Whole, Task}
use Rattle.delegate.specs.declared.response.Response.{Response}
use Rattle.delegate.specs.declared.response.Answered.TheVariants.{Done}
use Rattle.delegate.proofs.OutcomeLemmas.{goes_on, of_command, outcome-of, under_limit}
use Rattle.delegate.proofs.CaseLemmas.{outcome-case, one-case, one-played, task-stands, task-played}
use Rattle.delegate.proofs.TaskLemmas.{IsLoad, each-loads, all-at}
use Rattle.delegate.proofs.HeadlineLemmas.{text-before}
use Rattle.delegate.proofs.InShortLemmas.{line-ends, last-of}

-- a digest has 32 bytes

length-digest : (name : DigestName) (bytes : List ℕ) → length (digest_of name bytes) ≡ 32
length-digest Sha256 bytes = length-sha256 bytes
length-digest Weak8 bytes = length-weak8 bytes

byte-digest : (name : DigestName) (bytes : List ℕ) (k : ℕ) → slice_index (digest_of name bytes) k < 256
byte-digest Sha256 bytes = byte-sha256 bytes
byte-digest Weak8 bytes = byte-weak8 bytes

-- the head of a case in range is within the limits
head-in-limits : (name : DigestName) (c : CaseData) (start : State) → IsInRange c start → start.version ≡ c.version → IsHeadInLimits (match_head name c (start_root (digest_of name) start))
head-in-limits name c start range same = record {
  provers = (omega (arith, range.some), range.few);
  bound = (omega (arith, range.steps), range.short);
  patience = (omega arith, range.patience);
  version = subst (λ (v : ℕ). (1 ≤ v) × (v ≤ 3)) same range.valid.version;
  fan = (omega (arith, range.parted), range.few_parts);
  length = length-digest name _;
  bytes = byte-digest name _;
}

-- THE MATCH IN A VERSION, which is that of the state and that of the case

abbrev rules-at : (name : DigestName) (c : CaseData) (start : State) → ℕ → Rules
rules-at name c start version = rules_of (machine_ruling (digest_of name) version) (setup_of (digest_of name) c start)

abbrev record-at : (name : DigestName) (c : CaseData) (start : State) → ℕ → Record
record-at name c start version = bracket (rules-at name c start version) (answers_of (rules-at name c start version) (says_of_case (digest_of name) c start))

abbrev text-at : (name : DigestName) (c : CaseData) (start : State) → ℕ → List ℕ
text-at name c start version =
    full_text (match_head name c (start_root (digest_of name) start)) (record-at name c start version) (verdict_of (rules-at name c start version) (record-at name c start version))

-- `audit` of bytes that are read and confirmed

checked-is : (bytes : List ℕ) (t : FullText) (v : Verdict) → read_text bytes ≡ Ok t → audited (ruling_of_text t) t ≡ Confirmed v
    → audit_response bytes ≡ Ok (record { answered = Done; text = codes "confirmed " ++ line_text (line_of_stated t.stated) })
unfolding audit_response
checked-is bytes t v read confirmed = goes_on _ _ _ (ap (or_refusal text_refusal) read) ∙ ap (λ (finding : Audit). Ok (response_to_finding t.stated finding)) confirmed

audit-is : (auditing : List (List ℕ)) (bytes : List ℕ) (t : FullText) (v : Verdict) → chosen auditing ≡ Some AuditOf → length bytes ≤ 16777216 → read_text bytes ≡ Ok t
    → audited (ruling_of_text t) t ≡ Confirmed v → outcome auditing bytes ≡ record { answered = Done; text = codes "confirmed " ++ line_text (line_of_stated t.stated) }
audit-is auditing bytes t v is short read confirmed =
    outcome-of auditing bytes _ (of_command auditing bytes AuditOf is ∙ (goes_on _ _ _ (under_limit bytes short) ∙ checked-is bytes t v read confirmed))

-- the line of what is stated is the last line
stated-last : (asked : MatchText) (name : DigestName) (c : CaseData) (start : State) (t : Stated) (line : List ℕ)
    → stated_of (record_of_case (digest_of name) c start).claims (verdict_of_record (digest_of name) c start (record_of_case (digest_of name) c start)) ≡ Some t
    → line_text (line_of_stated t) ≡ line ++ codes "\n" → HasLastLine line (response_to_case (judging asked name) c start).text
stated-last asked name c start t line is ends =
    let digest = digest_of name in
    let r = record_of_case digest c start in
    let head = match_head name c (start_root digest start) in
    let v = verdict_of_record digest c start r in
    last-of asked head r (balances_in c r) line (response_to_case (judging asked name) c start).text
    (text-before (written_as asked) head r (balances_in c r) v
    ∙ (ap (λ s. before_verdict (written_as asked) head r (balances_in c r) (text_if_there (line_if_stated s))) is
    ∙ ap (before_verdict (written_as asked) head r (balances_in c r)) ends))

-- the report and the full text have one answer and one last line
pub one-last-line : VerdictsAreStated → JudgesEndAlike
one-last-line stated name c start =
    let digest = digest_of name in
    let said = stated (rules_of_case digest c start) (record_of_case digest c start) in
    let line = line-ends (line_of_stated said.0) in
    record {
      line = line.before;
      answer = refl;
      of_report = stated-last Report name c start said.0 line.before said.1 line.is;
      of_full = stated-last Full name c start said.0 line.before said.1 line.is;
    }

judge-is : (t : FullText) (head : Head) → t.head ≡ head → ruling_of_text t ≡ machine_ruling (digest_of head.digest) head.version
judge-is t head is = ap (λ (h : Head). machine_ruling (digest_of h.digest) h.version) is

pub texts-confirmed : ((name : DigestName) → MachineCasesAreConfirmed (digest_of name)) → ReadVerdictsAreOneLine → WrittenTextsAreConfirmed
texts-confirmed law one_line name c start auditing range same written short is =
    let digest = digest_of name in
    let head = match_head name c (start_root digest start) in
    let r = record_of_case digest c start in
    let b : IsReadAndConfirmed (machine_ruling digest c.version) head (record-at name c start c.version) =
    law name (says_of_case digest c start) head (head-in-limits name c start range same) (subst (λ (v : ℕ). AreWritten (moves_of (record-at name c start v))) same written) in
    let read : read_text (response_to_case (judging Full name) c start).text ≡ Ok b.text = ap (λ (v : ℕ). read_text (text-at name c start v)) same ∙ b.read in
    let confirmed = ap (λ judge. audited judge b.text) (judge-is b.text head b.head_is) ∙ b.confirmed in
    let stated : stated_of r.claims (verdict_of_record digest c start r) ≡ Some b.text.stated =
    ap (λ (v : ℕ). stated_of (record-at name c start v).claims (verdict_of (rules-at name c start v) (record-at name c start v))) same ∙ b.stated_is in
    let line : IsOneLine b.text.stated = one_line (response_to_case (judging Full name) c start).text b.text read in
    record {
      line = stated_text b.text.stated;
      one_line = line.lone;
      last = stated-last Full name c start b.text.stated (stated_text b.text.stated) stated line.ended;
      confirmed = audit-is auditing (response_to_case (judging Full name) c start).text b.text _ is short read confirmed
          ∙ ap (λ (l : List ℕ). record { answered = Done; text = codes "confirmed " ++ l }) line.ended;
    }

-- the run of a case starts in a state of the case's version
start-version : (subject : Subject) (c : CaseData) (start : State) → start_or_refusal subject c ≡ Ok start → start.version ≡ c.version
unfolding start_or_refusal
start-version subject c start is = by (image_by subject c.format c.image) is
  where
    by : (r : Result Image Response) → (r >>= (λ (image : Image). Ok (started c.version image.memory image.entry c.input))) ≡ Ok start → start.version ≡ c.version
    by (Ok image) loads = (let both : started c.version image.memory image.entry c.input ≡ start = cc loads in sym (ap (λ (s : State). s.version) both))
    by (Err refused) loads = absurd (cc loads)

pub outcome-auditable : CasesAreTasks → WrittenTextsAreConfirmed → (words : List (List ℕ)) (bytes : List ℕ) → DecidesInRange (chosen words) bytes → IsAuditable words bytes (outcome words bytes)
outcome-auditable law confirmed words bytes in_range name c start auditing is short asked =
    let m = judging Full name in
    let played = one-played m c start is.loads (in_range m is.asked (One c) (one-case law m.written bytes c is.reads)) in
    let same : outcome words bytes ≡ response_to_case m c start = outcome-case law words bytes m c start is in
    subst (λ (r : Response). IsConfirmedByItsLine auditing r.text) (sym same)
    (confirmed name c start auditing played.range (start-version Whole c start is.loads) (played.shown.written refl) (subst (λ (r : Response). length r.text ≤ 16777216) same short) asked)

-- of tasks, the part of each

some-at : {X : Type 0} (xs : List X) (i : ℕ) → i < length xs → (x : X) × (slice_get xs i ≡ Some x)
some-at [] i within = absurd (omega (arith, within))
some-at (x ∷ xs) zero within = (x, refl)
some-at (x ∷ xs) (suc i) within = some-at xs i (omega (arith, within))

pub outcome-task-auditable : WrittenTextsAreConfirmed → (words : List (List ℕ)) (bytes : List ℕ) → DecidesInRange (chosen words) bytes → AreAuditable words bytes (outcome words bytes)
outcome-task-auditable confirmed words bytes in_range name tasks t auditing is some within asked =
    let m = judging Full name in
    let at = some-at tasks (t - 1) (omega (arith, some, within)) in
    let task : LoadedData = at.0 in
    let own = all-at IsLoad tasks (t - 1) task (each-loads (Task 1) is.cases tasks is.loads) at.1 in
    let played = task-played words bytes in_range m tasks t task is at.1 in
    record {
      part = (response_to_case m task.case task.start).text;
      stands = task-stands words bytes m tasks t task is at.1;
      confirmed = λ short. confirmed name task.case task.start auditing played.range (start-version own.subject task.case task.start own.loads) (played.shown.written refl) short asked;
    }
