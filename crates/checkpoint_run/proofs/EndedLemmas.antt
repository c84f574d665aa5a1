-- Where a recording ends: where it is, or at the step of a tamper that is still to come.
use Rattle.std.proofs.Common.{◌≡◌, ◌≢◌, ℕ, ◌+◌, ◌-◌, ◌*◌, ◌/◌, ◌%◌, ◌<◌, ◌≤◌, List, length, Some, None, true, false, inl, inr, sym, ap, subst, ◌∙◌, ⊎_elim, arith}
use Rattle.std.proofs.lemmas.Bool.{cases_lt, cases_eq}
use Rattle.std.proofs.Math.Nat.{add-mul, mul-mod_left}
use Rattle.rd_base.specs.declared.tamper.Tamper.{Tamper}
use Rattle.rv_step.specs.State.{State}
use Rattle.checkpoint_run.specs.TamperedRun.{run_from}
use Rattle.checkpoint_run.specs.AtRest.{rests, ended, to_come}
use Rattle.checkpoint_run.specs.Keeping.{IsPushed, AreFound, NoneBeyond, step_at}
use Rattle.checkpoint_run.specs.UnderWay.{IsRecordedTo, HasEnded, IsAtEnd, AreSpaced}
use Rattle.checkpoint_run.specs.declared.checkpoint.Checkpoint.{Checkpoint}
use Rattle.checkpoint_run.specs.declared.recording.Recording.{Recording}
use Rattle.rv_step.specs.declared.machine.Machine.{Machine}
use Rattle.checkpoint_run.specs.declared.recording.RecordedPages.{RecordedPages}
use Rattle.checkpoint_run.proofs.RunLemmas.{Stopping}
use Rattle.checkpoint_run.proofs.RecordLemmas.{kept_later}
use Rattle.checkpoint_run.proofs.QuietLemmas.{moves_on, to_come_none, to_come_within, to_come_wakes, to_come_rests, quiet_before, stopped_there}
use Rattle.checkpoint_run.proofs.PlaceLemmas.{Covers, covers_near, covers_far, found_before, found_pushed, step_kept, below_covered, many_covered, below_before, many_before, below_pushed, many_pushed}

-- the last multiple of a spacing is not beyond
last_below : (every at left : ℕ) (cs : List Checkpoint) → 0 < length cs → AreSpaced every at left cs → (length cs - 1) * every ≤ at
last_below every at left cs some spaced =
    let due = spaced.due in
    let within = spaced.within in
    let whole : (length cs - 1 + 1) * every ≡ length cs * every = ap (λ n. n * every) (omega arith) in
    let parts = add-mul (length cs - 1) 1 every in
    omega arith

-- nobody will tamper with it
pub end_near : (digest : List ℕ → List ℕ) (tamper : Tamper) (first : State) (every bound : ℕ) (r : Recording) → 0 < every → HasEnded digest tamper first every bound r → to_come tamper bound r.at ≡ None → IsAtEnd digest tamper first every bound r
end_near digest tamper first every bound r wide end is =
    let recorded = end.under_way.recorded in
    let spaced = end.under_way.spaced in
    let due = spaced.due in
    let soon = spaced.soon in
    let low = last_below every r.at r.left r.recorded.checkpoints.items recorded.some spaced in
    let covers : Covers every (r.at + 1) (run_from tamper first) r.recorded.checkpoints.items = covers_near every (r.at + 1) (run_from tamper first) r.recorded.checkpoints.items recorded.some spaced.steps (omega arith) (omega arith) in
    record {
      recorded = recorded;
      starts = spaced.steps 0 recorded.some ∙ omega arith;
      found = λ c within. found_before every (r.at + 1) (run_from tamper first) r.recorded.checkpoints.items covers c (omega arith);
      below = below_covered every r.at (run_from tamper first) r.recorded.checkpoints.items covers;
      many = many_covered every r.at (run_from tamper first) r.recorded.checkpoints.items wide covers;
      within = end.within;
      before = λ k early. moves_on tamper bound k (run_from tamper first k) (end.before k early);
      ends = ⊎_elim (λ rest. inl (to_come_none tamper bound r.at (run_from tamper first r.at) rest is)) inr end.ends;
    }

-- somebody will
module _ (stopping : Stopping) (digest : List ℕ → List ℕ) (tamper : Tamper) (first : State) (every bound step : ℕ) (r : Recording) (end : HasEnded digest tamper first every bound r) (is : to_come tamper bound r.at ≡ Some step) where
  pub behind : (r.at < step) × (step ≤ bound)
  behind = to_come_within tamper bound r.at step is

  ends : ended tamper r.at (run_from tamper first r.at) ≡ true
  ends = let b = behind in let b-0 = b.0 in let b-1 = b.1 in ⊎_elim (λ rest. rest) (λ last. absurd (omega arith)) end.ends

  pub quiet : (j : ℕ) → r.at ≤ j → j < step → run_from tamper first j ≡ run_from tamper first r.at
  quiet j after before = quiet_before stopping tamper first bound r.at step j is ends after before

  -- what is kept once the ended state was, up to the step before the tamper, and then up to its step
  pub kept_still : (recorded : RecordedPages) (due : ℕ) → r.at ≤ due → ((due < step → run_from tamper first due ≡ run_from tamper first r.at) → IsRecordedTo digest tamper first r.at r.machine r.recorded → IsRecordedTo digest tamper first r.at r.machine recorded)
      → IsRecordedTo digest tamper first (step - 1) r.machine recorded
  kept_still recorded due after keeps =
      let b = behind in
      let b-0 = b.0 in
      kept_later digest tamper first r.at (step - 1) r.machine recorded (omega arith) (quiet (step - 1) (omega arith) (omega arith)) (keeps (λ before. quiet due after before) end.under_way.recorded)

  pub kept_there : (machine : Machine) (recorded : RecordedPages) → IsRecordedTo digest tamper first (step - 1 + 1) machine recorded → IsRecordedTo digest tamper first step machine recorded
  kept_there machine recorded is =
      let b = behind in
      let b-0 = b.0 in
      subst (λ n. IsRecordedTo digest tamper first n machine recorded) (omega arith) is

  pub covered : (cs : List Checkpoint) (due : ℕ) → due ≡ r.at + r.left → (due < step → IsPushed r.recorded.checkpoints.items cs due) → (step ≤ due → cs ≡ r.recorded.checkpoints.items) → Covers every step (run_from tamper first) cs
  covered cs due at far near =
      let spaced = end.under_way.spaced in
      let recorded = end.under_way.recorded in
      let next = spaced.due in
      let b = behind in
      let b-0 = b.0 in
      let low = last_below every r.at r.left r.recorded.checkpoints.items recorded.some spaced in
      ⊎_elim
      (λ before. covers_far every step r.at due (run_from tamper first) r.recorded.checkpoints.items cs spaced.steps (far before) (at ∙ next) (omega arith) quiet before)
      (λ past. subst (Covers every step (run_from tamper first)) (sym (near past)) (covers_near every step (run_from tamper first) r.recorded.checkpoints.items recorded.some spaced.steps (omega arith) (omega arith)))
      (cases_lt due step)

  moves : (k : ℕ) → k < step → rests tamper bound k (run_from tamper first k) ≡ false
  moves k early = to_come_wakes tamper bound r.at step k (run_from tamper first k) is early

  rest : rests tamper bound step (run_from tamper first step) ≡ true
  rest = to_come_rests tamper bound r.at step (run_from tamper first step) is (stopped_there stopping tamper first bound r.at step is ends)

  pub end_late : (last : Recording) (cs : List Checkpoint) → last.at ≡ step → IsRecordedTo digest tamper first step last.machine last.recorded → Covers every step (run_from tamper first) cs → last.recorded.checkpoints.items ≡ cs
      → 0 < every → step % every ≢ 0 → IsAtEnd digest tamper first every bound last
  end_late last cs at recorded covers same wide apart =
      let P : ℕ → Type 0 = λ n. IsRecordedTo digest tamper first n last.machine last.recorded in
      let Q : List Checkpoint → Type 0 = λ xs. AreFound xs every step (run_from tamper first) in
      let b = behind in
      let b-1 = b.1 in
      record {
        recorded = subst P (sym at) recorded;
        starts = ap (λ xs. step_at xs 0) same ∙ (covers.steps 0 covers.some ∙ omega arith);
        found = subst (λ n. AreFound last.recorded.checkpoints.items every n (run_from tamper first)) (sym at)
            (subst Q (sym same) (λ c within. found_before every step (run_from tamper first) cs covers c (less c within)));
        below = subst (NoneBeyond last.recorded.checkpoints.items) (sym at) (subst (λ xs. NoneBeyond xs step) (sym same) (below_before every step (run_from tamper first) cs covers));
        many = subst (λ n. length last.recorded.checkpoints.items ≤ n / every + 1) (sym at) (subst (λ (xs : List Checkpoint). length xs ≤ step / every + 1) (sym same) (many_before every step (run_from tamper first) cs wide covers));
        within = omega arith;
        before = λ k early. moves k (omega arith);
        ends = inl (subst (λ n. rests tamper bound n (run_from tamper first n) ≡ true) (sym at) rest);
      }
    where
      less : (c : ℕ) → c * every ≤ step → c * every < step
      less c within = ⊎_elim
          (λ (whole : c * every ≡ step). absurd (apart (ap (λ n. n % every) (sym whole) ∙ mul-mod_left c every)))
          (λ other. omega arith)
          (cases_eq (c * every) step)

  pub end_late_kept : (last : Recording) (cs : List Checkpoint) → last.at ≡ step → IsRecordedTo digest tamper first step last.machine last.recorded → Covers every step (run_from tamper first) cs → IsPushed cs last.recorded.checkpoints.items step
      → step % every ≡ 0 → IsAtEnd digest tamper first every bound last
  end_late_kept last cs at recorded covers pushed whole =
      let P : ℕ → Type 0 = λ n. IsRecordedTo digest tamper first n last.machine last.recorded in
      let b = behind in
      let b-1 = b.1 in
      record {
        recorded = subst P (sym at) recorded;
        starts = step_kept cs last.recorded.checkpoints.items step pushed 0 covers.some ∙ (covers.steps 0 covers.some ∙ omega arith);
        found = subst (λ n. AreFound last.recorded.checkpoints.items every n (run_from tamper first)) (sym at) (found_pushed every step (run_from tamper first) cs last.recorded.checkpoints.items covers pushed);
        below = subst (NoneBeyond last.recorded.checkpoints.items) (sym at) (below_pushed every step (run_from tamper first) cs last.recorded.checkpoints.items covers pushed);
        many = subst (λ n. length last.recorded.checkpoints.items ≤ n / every + 1) (sym at) (many_pushed every step (run_from tamper first) cs last.recorded.checkpoints.items covers pushed whole);
        within = omega arith;
        before = λ k early. moves k (omega arith);
        ends = inl (subst (λ n. rests tamper bound n (run_from tamper first n) ≡ true) (sym at) rest);
      }
