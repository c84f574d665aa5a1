-- A line that is read is the line of what it is read as, and so is a text.
use Rattle.std.proofs.Common.{◌≡◌, ℕ, Bool, true, false, if◌then◌else◌, List, ◌++◌, Option, Some, None, Ok, Err, refl, ◌∙◌, ap}
use Rattle.std.specs.Prelude.{codes, decimal, bytes_eq}
use Rattle.std.proofs.lemmas.Slice.Eq.{bytes_eq-Decides}
use Rattle.rd_base.specs.Results.{◌>>=◌}
use Rattle.rd_base.specs.Status.{status_text}
use Rattle.rd_base.specs.declared.answer.Answer.{Answer}
use Rattle.rd_base.specs.declared.status.Status.{Status}
use Rattle.rd_base.specs.declared.status.Status.TheVariants.{Running, Exited, Trapped}
use Rattle.bisect_game.specs.declared.settled.Settled.{Settled}
use Rattle.bisect_game.specs.declared.settled.Settled.TheVariants.{Given, Faulty, Spent}
use Rattle.transcript_text.specs.declared.reader.fault.LineFault.{LineFault}
use Rattle.transcript_text.specs.declared.reader.fault.LineFault.TheVariants.{NoForm}
use Rattle.transcript_text.specs.declared.text.TextMove.{TextMove}
use Rattle.transcript_text.specs.FullLines.{wire_text, settled_text}
use Rattle.transcript_text.specs.reader.Fields.{behind_word, skip_word, small_number_at, answer_in_hex}
use Rattle.transcript_text.specs.reader.Entries.{settlement_in, move_in, coded, status_at}
use Rattle.transcript_text.proofs.read_back.SpellLemmas.{bind-ok, okay, ok-same, after-is, skip-is, small-is, answer-is, WireSpells}
use Rattle.transcript_text.proofs.read_back.Forms.{faulty_or_spent, given_or_not, trapped_or_not, exited_or_not, running_or_not}

-- what an answer is settled as

given-line : WireSpells → (word bytes digits : List ℕ) (call : Answer → Settled) (s : Settled) → behind_word word bytes ≡ Some digits → (answer_in_hex digits >>= (λ a. Ok (call a))) ≡ Ok s →
    (a : Answer) × (call a ≡ s) × (bytes ≡ word ++ wire_text a)
given-line wire word bytes digits call s is e =
    let b = bind-ok (answer_in_hex digits) (λ a. Ok (call a)) s e in
    (b.0, ok-same (call b.0) s b.2, after-is word bytes digits is ∙ ap (λ (xs : List ℕ). word ++ xs) (answer-is wire digits b.0 b.1))

spent-by : (bytes : List ℕ) (s : Settled) (b : Bool) → bytes_eq bytes (codes "spent") ≡ b → (if b then okay {E = LineFault} Spent else Err NoForm) ≡ Ok s → bytes ≡ settled_text s
spent-by bytes s true is e = (bytes_eq-Decides bytes (codes "spent")).0 is ∙ ap settled_text (ok-same Spent s e)
spent-by bytes s false is e = absurd (cc)

faulty-by : WireSpells → (bytes : List ℕ) (s : Settled) (o : Option (List ℕ)) → behind_word (codes "faulty ") bytes ≡ o → faulty_or_spent bytes o ≡ Ok s → bytes ≡ settled_text s
faulty-by wire bytes s (Some digits) is e =
    let g = given-line wire (codes "faulty ") bytes digits Faulty s is e in
    g.2 ∙ ap settled_text g.1
faulty-by wire bytes s None is e = spent-by bytes s (bytes_eq bytes (codes "spent")) refl e

given-by : WireSpells → (bytes : List ℕ) (s : Settled) (o : Option (List ℕ)) → behind_word (codes "given ") bytes ≡ o → given_or_not bytes o ≡ Ok s → bytes ≡ settled_text s
given-by wire bytes s (Some digits) is e =
    let g = given-line wire (codes "given ") bytes digits Given s is e in
    g.2 ∙ ap settled_text g.1
given-by wire bytes s None is e = faulty-by wire bytes s (behind_word (codes "faulty ") bytes) refl e

pub settled-is : WireSpells → (bytes : List ℕ) (s : Settled) → settlement_in bytes ≡ Ok s → bytes ≡ settled_text s
unfolding settlement_in
settled-is wire bytes s e = given-by wire bytes s (behind_word (codes "given ") bytes) refl e

-- a move, behind `move `

unfoldable pub move-spelled : TextMove → List ℕ
move-spelled m = decimal m.qid.dispute ++ (codes " " ++ (decimal m.qid.round ++ (codes " p" ++ (decimal m.prover ++ (codes " " ++ settled_text m.settled)))))

pub move-is : WireSpells → (bytes : List ℕ) (m : TextMove) → move_in bytes ≡ Ok m → bytes ≡ move-spelled m
unfolding move_in move-spelled
move-is wire bytes m e =
    let b1 = bind-ok (small_number_at bytes) _ m e in
    let b2 = bind-ok (skip_word (codes " ") (b1.0).1) _ m b1.2 in
    let b3 = bind-ok (small_number_at b2.0) _ m b2.2 in
    let b4 = bind-ok (skip_word (codes " p") (b3.0).1) _ m b3.2 in
    let b5 = bind-ok (small_number_at b4.0) _ m b4.2 in
    let b6 = bind-ok (skip_word (codes " ") (b5.0).1) _ m b5.2 in
    let b7 = bind-ok (settlement_in b6.0) _ m b6.2 in
    let x : TextMove = record { qid = record { dispute = (b1.0).0; round = (b3.0).0 }; prover = (b5.0).0; settled = b7.0 } in
    let same : x ≡ m = ok-same x m b7.2 in
    let s1 : bytes ≡ decimal (b1.0).0 ++ (b1.0).1 = (small-is (b1.0).0 bytes (b1.0).1 b1.1).is in
    let s2 : (b1.0).1 ≡ codes " " ++ b2.0 = skip-is (codes " ") (b1.0).1 b2.0 b2.1 in
    let s3 : b2.0 ≡ decimal (b3.0).0 ++ (b3.0).1 = (small-is (b3.0).0 b2.0 (b3.0).1 b3.1).is in
    let s4 : (b3.0).1 ≡ codes " p" ++ b4.0 = skip-is (codes " p") (b3.0).1 b4.0 b4.1 in
    let s5 : b4.0 ≡ decimal (b5.0).0 ++ (b5.0).1 = (small-is (b5.0).0 b4.0 (b5.0).1 b5.1).is in
    let s6 : (b5.0).1 ≡ codes " " ++ b6.0 = skip-is (codes " ") (b5.0).1 b6.0 b6.1 in
    let s7 : b6.0 ≡ settled_text b7.0 = settled-is wire b6.0 b7.0 b7.1 in
    s1 ∙ (ap (λ (xs : List ℕ). decimal (b1.0).0 ++ xs) (s2
    ∙ ap (λ (xs : List ℕ). codes " " ++ xs) (s3
    ∙ ap (λ (xs : List ℕ). decimal (b3.0).0 ++ xs) (s4
    ∙ ap (λ (xs : List ℕ). codes " p" ++ xs) (s5
    ∙ ap (λ (xs : List ℕ). decimal (b5.0).0 ++ xs) (s6 ∙ ap (λ (xs : List ℕ). codes " " ++ xs) s7)))))
    ∙ ap move-spelled same)

-- an accepted claim, behind `accept `

coded-line : (word bytes code rest : List ℕ) (call : ℕ → Status) (status : Status) → behind_word word bytes ≡ Some code → (small_number_at code >>= coded call) ≡ Ok (status, rest) →
    (n : ℕ) × (call n ≡ status) × (bytes ≡ word ++ (decimal n ++ rest))
coded-line word bytes code rest call status is e =
    let b = bind-ok (small_number_at code) (coded call) (status, rest) e in
    let p : (call (b.0).0, (b.0).1) ≡ (status, rest) = ok-same (call (b.0).0, (b.0).1) (status, rest) b.2 in
    let left : (b.0).1 ≡ rest = ap (λ (x : Status × List ℕ). x.1) p in (
      (b.0).0,
      ap (λ (x : Status × List ℕ). x.0) p,
      after-is word bytes code is ∙ ap (λ (xs : List ℕ). word ++ xs) ((small-is (b.0).0 code (b.0).1 b.1).is ∙ ap (λ (xs : List ℕ). decimal (b.0).0 ++ xs) left),
    )

trapped-by : (bytes rest : List ℕ) (status : Status) (o : Option (List ℕ)) → behind_word (codes "trapped ") bytes ≡ o → trapped_or_not o ≡ Ok (status, rest) → bytes ≡ status_text status ++ rest
trapped-by bytes rest status (Some code) is e =
    let g = coded-line (codes "trapped ") bytes code rest Trapped status is e in
    g.2 ∙ ap (λ (x : Status). status_text x ++ rest) g.1
trapped-by bytes rest status None is e = absurd (cc)

exited-by : (bytes rest : List ℕ) (status : Status) (o : Option (List ℕ)) → behind_word (codes "exited ") bytes ≡ o → exited_or_not bytes o ≡ Ok (status, rest) → bytes ≡ status_text status ++ rest
exited-by bytes rest status (Some code) is e =
    let g = coded-line (codes "exited ") bytes code rest Exited status is e in
    g.2 ∙ ap (λ (x : Status). status_text x ++ rest) g.1
exited-by bytes rest status None is e = trapped-by bytes rest status (behind_word (codes "trapped ") bytes) refl e

running-by : (bytes rest : List ℕ) (status : Status) (o : Option (List ℕ)) → behind_word (codes "running") bytes ≡ o → running_or_not bytes o ≡ Ok (status, rest) → bytes ≡ status_text status ++ rest
running-by bytes rest status (Some left) is e =
    let p : (Running, left) ≡ (status, rest) = ok-same (Running, left) (status, rest) e in
    after-is (codes "running") bytes left is
    ∙ (ap (λ (xs : List ℕ). codes "running" ++ xs) (ap (λ (x : Status × List ℕ). x.1) p) ∙ ap (λ (x : Status). status_text x ++ rest) (ap (λ (x : Status × List ℕ). x.0) p))
running-by bytes rest status None is e = exited-by bytes rest status (behind_word (codes "exited ") bytes) refl e

pub status-is : (bytes rest : List ℕ) (status : Status) → status_at bytes ≡ Ok (status, rest) → bytes ≡ status_text status ++ rest
unfolding status_at
status-is bytes rest status e = running-by bytes rest status (behind_word (codes "running") bytes) refl e
