-- The headline, over definitions alone.
use Rattle.std.proofs.Common.{◌≡◌, ℕ, zero, suc, ◌+◌, ◌<◌, ◌≤◌, List, [], ◌∷◌, ◌⊎◌, inl, inr, Option, Some, None, Bool, true, false, cond, slice_get, refl, ap, subst, ◌∙◌, arith}
use Rattle.rd_base.specs.declared.claim.Claim.{Claim}
use Rattle.rd_base.specs.declared.answer.Answer.TheVariants as answer
use Rattle.bisect_game.specs.declared.settled.Settled.{Settled}
use Rattle.bisect_game.specs.declared.settled.Settled.TheVariants as settled
use Rattle.bisect_game.specs.Rules.{Rules}
use Rattle.bisect_game.specs.Bisection.{Bisection}
use Rattle.bisect_game.specs.Truth.{Truth}
use Rattle.tournament.specs.declared.reading.Verdict.{Verdict}
use Rattle.tournament.specs.declared.reading.Verdict.TheVariants.{Accept, NoneLeft, Collision}
use Rattle.tournament.specs.Bracket.{Record, live_from, lowest, or_lowest, is_out_in, claim_in, also, verdict_of}
use Rattle.tournament.specs.Theorem.{HasTrueClaim, IsRightVerdict}
use Rattle.deposits.specs.declared.amounts.Balances.{Balances}
use Rattle.rv_step.specs.State.{State}
use Rattle.case_reader.specs.Case.{CaseData}
use Rattle.digest_core.specs.declared.name.DigestName.{DigestName}
use Rattle.digest_core.specs.declared.name.DigestName.TheVariants.{Sha256, Weak8}
use Rattle.transcript_text.specs.Lines.{accept_line, line_of_accepted, line_of_verdict}
use Rattle.transcript_text.specs.Report.{text_if_there}
use Rattle.transcript_text.specs.Laws.{NothingIsSaidAgainstTheTruthful}
use Rattle.case_match.specs.Earnings.{WhoLivesInACaseWinsAll}
use Rattle.case_match.specs.Match.{start_root, rules_of_case, says_of_case, record_of_case, verdict_of_record, truth_of_case}
use Rattle.case_match.specs.TruthfulInCase.{IsSafeInCase, TruthfulProversOfCasesAreSafe}
use Rattle.digest_core.specs.Name.{digest_of}
use Rattle.delegate.specs.Decided.{WhichText, report, full, summary, Deciding, match_text, match_head, balances_in, before_verdict, answered_for, response_to_case}
use Rattle.transcript_text.specs.declared.text.Head.{Head}
use Rattle.delegate.specs.declared.response.Answered.TheVariants.{Done}
use Rattle.delegate.specs.Headline.{AcceptsTheRun, ShowsCollision, AreByteStrings, HeadlineOfCases}
use Rattle.delegate.proofs.SparedLemmas.{no-moves-against}

-- a prover whose claim is accepted has a number above 0

lowest-from : (ds : List Bisection) (p n : ℕ) (ss : List (Option Settled)) → lowest (live_from ds p ss) ≡ Accept n → p ≤ n
lowest-from ds p n [] is = absurd (cc)
lowest-from ds p n (s ∷ ss) is = by (is_out_in ds p) (claim_in s) is (lowest-from ds (p + 1) n ss)
  where
    by : (out : Bool) (claim : Option Claim) → lowest (cond out (live_from ds (p + 1) ss) (also p claim (live_from ds (p + 1) ss))) ≡ Accept n
        → (lowest (live_from ds (p + 1) ss) ≡ Accept n → p + 1 ≤ n) → p ≤ n
    by true claim is further = omega (arith, further is)
    by false None is further = omega (arith, further is)
    by false (Some c) is further = (let same : p ≡ n = cc in omega (arith, same))

accepted-number : (rules : Rules) (r : Record) (n : ℕ) → verdict_of rules r ≡ Accept n → 0 < n
accepted-number rules r n is = by _ is
  where
    by : (collision : Option (List ℕ × List ℕ)) → or_lowest collision (live_from r.disputes 1 r.claims) ≡ Accept n → 0 < n
    by (Some pair) is = absurd (cc)
    by None is = (let low = lowest-from r.disputes 1 n r.claims is in omega (arith, low))

-- the line of a true claim that is accepted
line-of-true : (t : Truth) (claims : List (Option Settled)) (n : ℕ) → 0 < n → HasTrueClaim t claims n → line_of_verdict claims (Accept n) ≡ Some (accept_line t.claim.ctl.status t.claim.output)
line-of-true t claims zero some claim = absurd (omega (arith, some))
line-of-true t claims (suc k) some claim =
    ap line_of_accepted (subst (λ i. slice_get claims i ≡ Some (Some (settled.Given (answer.Claim t.claim)))) (omega arith) claim)

-- the text is what comes before the verdict's line, and that line
pub text-before : (written : WhichText) (head : Head) (settled : Record) (balances : Option Balances) (verdict : Verdict)
    → match_text written head settled balances verdict ≡ before_verdict written head settled balances (text_if_there (line_of_verdict settled.claims verdict))
text-before report head settled balances verdict = refl
text-before full head settled balances verdict = refl
text-before (summary seed) head settled balances verdict = refl

-- where a claim is accepted the answer is that all is done
accepts-done : (written : WhichText) (n : ℕ) → answered_for written (Accept n) ≡ Done
accepts-done report n = refl
accepts-done full n = refl
accepts-done (summary seed) n = refl

-- how the text ends where the verdict is right
ends : (m : Deciding) (c : CaseData) (start : State) (verdict : Verdict) → verdict_of_record (digest_of m.digest) c start (record_of_case (digest_of m.digest) c start) ≡ verdict
    → AreByteStrings (verdict_of_record (digest_of m.digest) c start (record_of_case (digest_of m.digest) c start))
    → IsRightVerdict (rules_of_case (digest_of m.digest) c start) (truth_of_case (digest_of m.digest) c start) (record_of_case (digest_of m.digest) c start) verdict
    → AcceptsTheRun m (response_to_case m c start) c start ⊎ ShowsCollision m (response_to_case m c start) c start
ends m c start (Accept n) is strings right =
    let settled = record_of_case (digest_of m.digest) c start in
    let head = match_head m.digest c (start_root (digest_of m.digest) start) in
    let balances = balances_in c settled in
    inl (record {
      done = ap (answered_for m.written) is ∙ accepts-done m.written n;
      text = ap (match_text m.written head settled balances) is
          ∙ (text-before m.written head settled balances (Accept n)
          ∙ ap (λ line. before_verdict m.written head settled balances (text_if_there line))
          (line-of-true (truth_of_case (digest_of m.digest) c start) settled.claims n (accepted-number (rules_of_case (digest_of m.digest) c start) settled n is) right));
    })
ends m c start (Collision x y) is strings right =
    let settled = record_of_case (digest_of m.digest) c start in
    let head = match_head m.digest c (start_root (digest_of m.digest) start) in
    let balances = balances_in c settled in
    inr (record {
      pair = (x, y);
      collision = right;
      verdict = is;
      of_bytes = subst AreByteStrings is strings;
      answered = ap (answered_for m.written) is;
      text = ap (match_text m.written head settled balances) is ∙ text-before m.written head settled balances (Collision x y);
    })
ends m c start NoneLeft is strings right = absurd right

-- a law of the function of each name
pub by-name : (P : (List ℕ → List ℕ) → Type 0) → P (digest_of Sha256) → P (digest_of Weak8) → (name : DigestName) → P (digest_of name)
by-name P of_sha256 of_weak8 Sha256 = of_sha256
by-name P of_sha256 of_weak8 Weak8 = of_weak8

pub headline-of-cases : ((name : DigestName) → TruthfulProversOfCasesAreSafe (digest_of name)) → NothingIsSaidAgainstTheTruthful → WhoLivesInACaseWinsAll → HeadlineOfCases
headline-of-cases safe_by spared win m c start p range strings truthful =
    let case : IsSafeInCase (digest_of m.digest) c start p = safe_by m.digest c start p range truthful in
    record {
      stays = record {
        is_live = case.safe.live_at_end case.complete;
        answers = case.safe.answers;
        stays = case.safe.stays;
        spared = spared (rules_of_case (digest_of m.digest) c start) (truth_of_case (digest_of m.digest) c start) p (record_of_case (digest_of m.digest) c start) case.safe;
        spared_in_full = no-moves-against (rules_of_case (digest_of m.digest) c start) (truth_of_case (digest_of m.digest) c start) p (record_of_case (digest_of m.digest) c start) case.safe;
        wins = λ stake is.
            (win stake (rules_of_case (digest_of m.digest) c start) (says_of_case (digest_of m.digest) c start) p
            (record { some = range.some; parted = range.parted; few_parts = range.few_parts; steps = range.steps }) truthful.some truthful.there case.safe.stays.is_live).balance_;
      };
      ends = ends m c start _ refl strings (case.safe.verdict case.complete);
    }
