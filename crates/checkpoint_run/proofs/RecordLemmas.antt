-- Checkpoints that stand for states, while the run goes on.
use Rattle.std.proofs.Common.{◌≡◌, ◌⊎◌, ℕ, zero, suc, ◌+◌, ◌/◌, ◌<◌, ◌≤◌, List, [], ◌∷◌, ◌++◌, length, take, Option, Some, None, IfSome, inl, inr, refl, sym, ap, subst, ◌∙◌, ⊎_elim, arith, slice_get, get_or, false, length-append, add-zero, add-suc, ◌-◌}
use Rattle.std.proofs.lemmas.Bool.{cases_order}
use Rattle.std.proofs.lemmas.List.{take-append-le, take_all}
use Rattle.std.proofs.Math.Numerals.{add-one}
use Rattle.std.proofs.lemmas.Option.{slice_get_past}
use Rattle.digest_core.specs.Chain.{chain_of}
use Rattle.mem_plain.specs.Contents.{Contents, byte_at, has_page}
use Rattle.rd_base.specs.declared.status.Ctl.{Ctl}
use Rattle.rd_base.specs.declared.tamper.Tamper.{Tamper}
use Rattle.rv_step.specs.State.{State}
use Rattle.checkpoint_run.specs.TamperedRun.{run_from}
use Rattle.checkpoint_run.specs.Versions.{AreBelow, IsShownBut}
use Rattle.checkpoint_run.specs.NamedPages.{IsNamed, ArePages}
use Rattle.checkpoint_run.specs.WrittenPages.{stored_by, flipped_by, written_by, count_named, writes}
use Rattle.checkpoint_run.specs.Keeping.{StandsFor, AllStand, IsAdded, at_first, state_by}
use Rattle.rv_step.specs.declared.machine.Machine.{Machine}
use Rattle.checkpoint_run.specs.UnderWay.{AllChained, IsRecordedTo}
use Rattle.checkpoint_run.specs.declared.recording.RecordedPages.{RecordedPages}
use Rattle.checkpoint_run.specs.declared.checkpoint.Checkpoint.{Checkpoint}
use Rattle.checkpoint_run.specs.declared.version.Version.{Version}

-- a place that is there stays where entries are added
pub slice_get_before : {X : Type 0} (xs ys : List X) (i : ℕ) → i < length xs → slice_get (xs ++ ys) i ≡ slice_get xs i
slice_get_before [] ys i before = absurd (omega arith)
slice_get_before (x ∷ xs) ys zero before = refl
slice_get_before (x ∷ xs) ys (suc i) before = slice_get_before xs ys i (omega arith)

pub slice_get_seam : {X : Type 0} (xs : List X) (y : X) (ys : List X) → slice_get (xs ++ y ∷ ys) (length xs) ≡ Some y
slice_get_seam [] y ys = refl
slice_get_seam (x ∷ xs) y ys = slice_get_seam xs y ys

-- versions and output that are added change no checkpoint
pub stands_on : (c : Checkpoint) (versions added : List Version) (output more : List ℕ) (s : State) → StandsFor c versions output s → StandsFor c (versions ++ added) (output ++ more) s
stands_on c versions added output more s stands = record {
  versions_there = omega (arith, length-append versions added, stands.versions_there);
  output_there = omega (arith, length-append output more, stands.output_there);
  state = rw (take-append-le c.versions versions added stands.versions_there, take-append-le c.ctl.out_len output more stands.output_there) stands.state;
}

pub all_stand_on : (cs : List Checkpoint) (versions added : List Version) (output more : List ℕ) (run : ℕ → State) → AllStand cs versions output run → AllStand cs (versions ++ added) (output ++ more) run
all_stand_on cs versions added output more run all k = each (slice_get cs k) (all k)
  where
    each : (o : Option Checkpoint) → IfSome o (λ c. StandsFor c versions output (run c.step)) → IfSome o (λ c. StandsFor c (versions ++ added) (output ++ more) (run c.step))
    each (Some c) stands = stands_on c versions added output more (run c.step) stands
    each None nothing = tt

-- the pages that are named in two places
module _ (pages : List (Option ℕ)) (two : length pages ≡ 2) (page : ℕ) where
  pub named_apart : IsNamed page pages → IsNamed page (get_or pages 0 None ∷ []) ⊎ IsNamed page (get_or pages 1 None ∷ [])
  named_apart = apart pages two
    where
      split : (x y : Option ℕ) → IsNamed page (x ∷ y ∷ []) → IsNamed page (x ∷ []) ⊎ IsNamed page (y ∷ [])
      split (Some n) y (inl same) = inl (inl same)
      split (Some n) y (inr rest) = inr rest
      split None y rest = inr rest

      apart : (pages : List (Option ℕ)) → length pages ≡ 2 → IsNamed page pages → IsNamed page (get_or pages 0 None ∷ []) ⊎ IsNamed page (get_or pages 1 None ∷ [])
      apart [] two named = absurd named
      apart (x ∷ []) two named = absurd (omega arith)
      apart (x ∷ y ∷ z ∷ rest) two named = absurd (omega arith)
      apart (x ∷ y ∷ []) two named = split x y named

  pub named_either : IsNamed page (get_or pages 0 None ∷ []) ⊎ IsNamed page (get_or pages 1 None ∷ []) → IsNamed page pages
  named_either = either pages two
    where
      joined : (x y : Option ℕ) → IsNamed page (x ∷ []) ⊎ IsNamed page (y ∷ []) → IsNamed page (x ∷ y ∷ [])
      joined (Some n) y (inl (inl same)) = inl same
      joined (Some n) y (inl (inr none)) = absurd none
      joined (Some n) y (inr second) = inr second
      joined None y (inl none) = absurd none
      joined None y (inr second) = second

      either : (pages : List (Option ℕ)) → length pages ≡ 2 → IsNamed page (get_or pages 0 None ∷ []) ⊎ IsNamed page (get_or pages 1 None ∷ []) → IsNamed page pages
      either [] two named = absurd (omega arith)
      either (x ∷ []) two named = absurd (omega arith)
      either (x ∷ y ∷ z ∷ rest) two named = absurd (omega arith)
      either (x ∷ y ∷ []) two named = joined x y named

-- the changed pages after both were noted, from the ones before
module _ (pages : List (Option ℕ)) (two : length pages ≡ 2) (old between new : List ℕ) where
  pub noted_below : ArePages pages → (ArePages (get_or pages 0 None ∷ []) → AreBelow old → AreBelow between) → (ArePages (get_or pages 1 None ∷ []) → AreBelow between → AreBelow new)
      → AreBelow old → AreBelow new
  noted_below below first second before =
      second (λ page named. below page (named_either pages two page (inr named))) (first (λ page named. below page (named_either pages two page (inl named))) before)

  pub noted_shown : (versions : List Version) (m n : Contents)
      → ((p : ℕ) → has_page between p ≡ false → IsNamed p (get_or pages 0 None ∷ []) → ⊥) → ((p : ℕ) → has_page between p ≡ false → has_page old p ≡ false)
      → ((p : ℕ) → has_page new p ≡ false → IsNamed p (get_or pages 1 None ∷ []) → ⊥) → ((p : ℕ) → has_page new p ≡ false → has_page between p ≡ false)
      → ((q : ℕ) → ¬ IsNamed (q / 4096) pages → byte_at n q ≡ byte_at m q) → IsShownBut versions old m → IsShownBut versions new n
  noted_shown versions m n named-1 recorded-1 named-2 recorded-2 elsewhere shown a below none =
      let none-1 = recorded-2 (a / 4096) none in
      elsewhere a (λ named. ⊎_elim (named-1 (a / 4096) none-1) (named-2 (a / 4096) none) (named_apart pages two (a / 4096) named))
      ∙ shown a below (recorded-1 (a / 4096) none-1)

-- the pages that are noted after a step are no more than those that were written
how_many_two : (a b : Option ℕ) → count_named (a ∷ b ∷ []) ≡ count_named (a ∷ []) + count_named (b ∷ [])
how_many_two None b = omega arith
how_many_two (Some page) b = omega arith

pub noted_few : (tamper : Tamper) (first : State) (at : ℕ) (pages : List (Option ℕ)) (recorded old between new start : ℕ)
    → pages ≡ written_by tamper at (run_from tamper first at)
    → between ≤ old + count_named (get_or pages 0 None ∷ []) → new ≤ between + count_named (get_or pages 1 None ∷ [])
    → recorded + old ≤ start + writes tamper first at → recorded + new ≤ start + writes tamper first (at + 1)
noted_few tamper first at pages recorded old between new start written few-1 few-2 before =
    let a = stored_by tamper at (run_from tamper first at) in
    let b = flipped_by tamper (at + 1) in
    let one : count_named (get_or pages 0 None ∷ []) ≡ count_named (a ∷ []) = ap (λ ps. count_named (get_or ps 0 None ∷ [])) written in
    let other : count_named (get_or pages 1 None ∷ []) ≡ count_named (b ∷ []) = ap (λ ps. count_named (get_or ps 1 None ∷ [])) written in
    let two = how_many_two a b in
    let more : writes tamper first (at + 1) ≡ writes tamper first at + count_named (a ∷ b ∷ []) = ap (writes tamper first) (add-one at) in
    omega arith

-- a checkpoint more leaves the first one
pub at_first_on : (cs new : List Checkpoint) (c : Checkpoint) → 0 < length cs → new ≡ cs ++ c ∷ [] → at_first new ≡ at_first cs
at_first_on [] new c some pushed = absurd (omega arith)
at_first_on (x ∷ rest) new c some pushed = ap at_first pushed

-- a property of each, after one more
pushed : (P : Checkpoint → Type 0) (cs : List Checkpoint) (c : Checkpoint) → ((k : ℕ) → IfSome (slice_get cs k) P) → P c → (k : ℕ) → IfSome (slice_get (cs ++ c ∷ []) k) P
pushed P cs c all last k = let R : Option Checkpoint → Type 0 = λ o. IfSome o P in ⊎_elim
    (λ same. subst R (sym (ap (slice_get (cs ++ c ∷ [])) same ∙ slice_get_seam cs c [])) last)
    (λ other. ⊎_elim
    (λ before. subst R (sym (slice_get_before cs (c ∷ []) k before)) (all k))
    (λ past. subst R (sym (slice_get_past (cs ++ c ∷ []) k (omega (arith, length-append cs (c ∷ []))))) tt)
    other)
    (cases_order k (length cs))

-- a checkpoint of a machine's parts stands for the machine's state
pub all_stand_added : (cs new : List Checkpoint) (versions : List Version) (step : ℕ) (s : State) (ctl : Ctl) (run : ℕ → State)
    → AllStand cs versions s.output run → (added : IsAdded cs new versions step s.regs ctl s.memory) → ctl.pc ≡ s.pc → ctl.status ≡ s.status → ctl.out_len ≡ length s.output → run step ≡ s
    → AllStand new versions s.output run
all_stand_added cs new versions step s ctl run all added pc status len here =
    let Q : List Checkpoint → Type 0 = λ xs. AllStand xs versions s.output run in
    let whole : take added.checkpoint.versions versions ≡ versions = take_all added.checkpoint.versions versions (omega (arith, added.versions_are)) in
    let out : take added.checkpoint.ctl.out_len s.output ≡ s.output = take_all added.checkpoint.ctl.out_len s.output (omega (arith, ap (λ x. x.out_len) added.ctl_is, len)) in
    subst Q (sym added.pushed) (pushed (λ c. StandsFor c versions s.output (run c.step)) cs added.checkpoint all (record {
      versions_there = omega (arith, added.versions_are);
      output_there = omega (arith, ap (λ x. x.out_len) added.ctl_is, len);
      state =
          let P : State → Type 0 = λ x. state_by added.checkpoint versions s.output x.version x.input ≡ x in
          subst P (sym (ap run added.step_is ∙ here)) (rw (added.regs_are, ap (λ x. x.pc) added.ctl_is ∙ pc, whole, added.memory_is, ap (λ x. x.status) added.ctl_is ∙ status, out) refl);
    }))

-- the chain of a checkpoint more
pub all_chained_added : (digest : List ℕ → List ℕ) (cs new : List Checkpoint) (versions : List Version) (step : ℕ) (regs : List ℕ) (ctl : Ctl) (memory : Contents) (run : ℕ → State)
    → AllChained digest cs run → IsAdded cs new versions step regs ctl memory → ctl.chain.0 ≡ chain_of digest (run step).output → AllChained digest new run
all_chained_added digest cs new versions step regs ctl memory run all added chained =
    let Q : List Checkpoint → Type 0 = λ xs. AllChained digest xs run in
    subst Q (sym added.pushed) (pushed (λ c. c.ctl.chain.0 ≡ chain_of digest (run c.step).output) cs added.checkpoint all
    (ap (λ x. x.chain.0) added.ctl_is ∙ (chained ∙ ap (λ i. chain_of digest (run i).output) (sym added.step_is))))

-- as many steps later, the pages that are written are no fewer
pub writes_more : (tamper : Tamper) (first : State) (i k : ℕ) → writes tamper first i ≤ writes tamper first (i + k)
writes_more tamper first i zero = omega (arith, ap (writes tamper first) (add-zero i))
writes_more tamper first i (suc k) =
    let before = writes_more tamper first i k in
    let next = ap (writes tamper first) (add-suc i k) in
    omega arith

-- what is kept up to a step is kept up to a later one with the same state
pub kept_later : (digest : List ℕ → List ℕ) (tamper : Tamper) (first : State) (at later : ℕ) (machine : Machine) (recorded : RecordedPages) → at ≤ later → run_from tamper first later ≡ run_from tamper first at
    → IsRecordedTo digest tamper first at machine recorded → IsRecordedTo digest tamper first later machine recorded
kept_later digest tamper first at later machine recorded after same k =
    let more = writes_more tamper first at (later - at) in
    let whole : writes tamper first (at + (later - at)) ≡ writes tamper first later = ap (writes tamper first) (omega arith) in
    let few = k.few in
    record {
      state = k.state ∙ sym same;
      chained = k.chained;
      some = k.some;
      pages = k.pages;
      shown = k.shown;
      places = k.places;
      noted = k.noted;
      few = omega arith;
      each = k.each;
      chains = k.chains;
    }
