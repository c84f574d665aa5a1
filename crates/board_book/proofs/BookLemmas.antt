-- A book as it is kept.
use Rattle.std.proofs.Common.{◌≡◌, ◌↔◌, ℕ, zero, suc, ◌+◌, ◌*◌, ◌^◌, ◌<◌, ◌≤◌, nat_le, Bool, true, false, ◌==◌, if◌then◌else◌, List, [], ◌∷◌, ◌++◌, length, slice_index_or, slice_set, inl, inr, Option, Some, None, is_none, refl, sym, ◌∙◌, ap, arith, add-one, length-append, append_assoc}
use Rattle.std.proofs.lemmas.Bool.Decides.{nat_tests}
use Rattle.std.proofs.Math.Nat.{mul-le-mul_left, pow-succ', pow-le-pow_left, pow-le-pow_right}
use Rattle.std.proofs.Math.Pow.{pow_mono}
use Rattle.std.proofs.lemmas.Bool.{cases_Bool, and_parts}
use Rattle.rd_base.specs.declared.answer.Answer.{Answer}
use Rattle.rd_base.specs.declared.answer.Qid.{Qid}
use Rattle.bisect_game.specs.declared.settled.Question.{Question}
use Rattle.bisect_game.specs.Says.{Says, AnswerAs}
use Rattle.bisect_game.specs.Rules.{Rules, ArePlayable}
use Rattle.tournament.specs.declared.posting.Reply.{Reply}
use Rattle.tournament.specs.declared.posting.Reply.TheVariants.{Stale}
use Rattle.tournament.specs.Bracket.{open_question, is_complete, bracket}
use Rattle.tournament.specs.Moves.{MatchState, begun, passes_of, settled_by, moved}
use Rattle.tournament.specs.Journals.{turn, turn_on, turns, IsAskedOf, Legal, answers_of, RecordOfCase}
use Rattle.tournament.specs.Length.{IsMost, most_entries, SpareIsEnough}
use Rattle.bisect_game.specs.Setup.{Setup}
use Rattle.rd_base.specs.Questions.{same_qid}
use Rattle.tournament.specs.Posting.{posted, posted_on, reply_by, reply_on, reply_to, is_stale}
use Rattle.bisect_game.specs.Rules.{rules_of}
use Rattle.tournament.specs.Asked.{asked, AskedByTheCase}
use Rattle.tournament.specs.Truthful.{IsTruthfulProver, IsSafe, TruthfulProversAreSafe}
use Rattle.bisect_game.specs.Truth.{Truth, IsRun}
use Rattle.bisect_game.specs.Ruling.{Ruling, IsFair}
use Rattle.board_book.specs.declared.entry.Entry.{Entry}
use Rattle.board_book.specs.Entries.{IsEntry, IsJournal, who, state_after}
use Rattle.board_book.specs.Keeping.{IsBook}

is-eqb : (m n : ℕ) → (m == n) ≡ true → m ≡ n
is-eqb m n e = grind (arith, nat_tests)

-- the most rounds

most-power : (fan i j : ℕ) → 1 < fan → i ≤ j → fan ^ i ≤ fan ^ j
most-power fan i j more le = let some : 0 < fan = omega arith in pow-le-pow_right some le

pub most-is : (fan bound k w : ℕ) → 1 < fan → fan ^ k ≡ w → w < fan * bound → bound ≤ w → IsMost fan bound k
most-is fan bound k w more e low high = record {
  few = rw e low;
  most = λ j lt. elim (cases_Bool (nat_le j k)) [
    | inl le ↦ grind (arith, nat_tests)
    | inr gt ↦
        let past : k + 1 ≤ j = grind (arith, nat_tests) in
        let up : fan ^ (k + 1) ≤ fan ^ j = most-power fan (k + 1) j more past in
        let p : fan ^ (k + 1) ≡ fan * fan ^ k = ap (λ (n : ℕ). fan ^ n) (add-one k) ∙ pow-succ' fan k in
        let q : fan * fan ^ k ≡ fan * w = ap (λ (n : ℕ). fan * n) e in
        let m : fan * bound ≤ fan * w = mul-le-mul_left fan high in
        absurd (omega (arith, up, p, q, m, lt))
  ];
}

pub most-small : (fan k w bound : ℕ) → 1 < fan → fan ≤ 16 → fan ^ k ≡ w → w < fan * bound → bound < 2 ^ 32 → k < 36
most-small fan k w bound more few is low short =
    let two : 2 ≤ fan = omega arith in
    let wide : bound * fan ≤ bound * 16 = mul-le-mul_left bound few in
    elim (cases_Bool (nat_le 36 k)) [
      | inl e ↦
          let past : 36 ≤ k = grind (arith, nat_tests) in
          absurd (omega (arith, pow_mono past, pow-le-pow_left two k, is, low, wide, short))
      | inr e ↦ grind (arith, nat_tests)
    ]

-- a journal is legal, and within its room

pub journal-legal : (rules : Rules) (says : Says) (es : List Entry) (st : MatchState) → IsJournal rules says es st → Legal rules says (who es) st
journal-legal rules says [] st j = tt
journal-legal rules says (e ∷ es) st j = (record { question = j.0.question; numbered = j.0.numbered; asked = j.0.asked }, journal-legal rules says es _ j.1)

who-length : (es : List Entry) → length (who es) ≡ length es
who-length [] = refl
who-length (e ∷ es) = ap suc (who-length es)

pub book-few : SpareIsEnough → (rules : Rules) (says : Says) (count : ℕ) (es : List Entry) (st : MatchState) (room capacity : ℕ) → IsBook rules says count es st room capacity → length es ≤ room
book-few enough rules says count es st room capacity b =
    let few : length (who es) ≤ most_entries rules.setup b.most.0 = enough rules says (who es) b.most.0 b.playable b.most.1 (journal-legal rules says es (begun rules) b.legal) in
    omega (arith, few, who-length es, b.most.2)

-- an entry more

who-last : (es : List Entry) (e : Entry) → who (es ++ e ∷ []) ≡ who es ++ e.p ∷ []
who-last [] e = refl
who-last (x ∷ es) e = ap (λ (ps : List ℕ). x.p ∷ ps) (who-last es e)

turns-last : (rules : Rules) (says : Says) (ps : List ℕ) (p : ℕ) (st : MatchState) → turns rules says (ps ++ p ∷ []) st ≡ turn_on rules says (turns rules says ps st) p (open_question rules (turns rules says ps st).record_ p)
turns-last rules says [] p st = refl
turns-last rules says (q ∷ ps) p st = turns-last rules says ps p _

journal-last : (rules : Rules) (says : Says) (es : List Entry) (e : Entry) (st : MatchState) → IsJournal rules says es st → IsEntry rules says (turns rules says (who es) st) e → IsJournal rules says (es ++ e ∷ []) st
journal-last rules says [] e st j i = (i, tt)
journal-last rules says (x ∷ es) e st j i = (j.0, journal-last rules says es e _ j.1 i)

same_qid-is : (a b : Qid) → same_qid a b ≡ true → a ≡ b
same_qid-is a b e =
    let two : ((a.dispute == b.dispute) ≡ true) × ((a.round == b.round) ≡ true) = and_parts _ _ e in
    let d : a.dispute ≡ b.dispute = is-eqb a.dispute b.dispute two.0 in
    let n : a.round ≡ b.round = is-eqb a.round b.round two.1 in
    rw (d, n) refl

-- a post that is not stale is on the open question
IsFresh : Qid → Option Question → Type 0
IsFresh qid o = (q : Question) × (o ≡ Some q) × (same_qid q.qid qid ≡ true)

fresh-if : (b : Bool) (r : Reply) (qid : Qid) → is_stale (if b then r else Stale (Some qid)) ≡ false → b ≡ true
fresh-if true r qid e = refl
fresh-if false r qid e = absurd (cc)

fresh : (rules : Rules) (st : MatchState) (p : ℕ) (qid : Qid) (m : Option Answer) (o : Option Question) → is_stale (reply_on rules st p qid m o) ≡ false → IsFresh qid o
unfolding IsFresh
fresh rules st p qid m None e = absurd (cc)
fresh rules st p qid m (Some q) e = (q, refl, fresh-if (same_qid q.qid qid) _ _ e)

-- the book after a post that is not stale
pub book-posted : (rules : Rules) (says : Says) (count : ℕ) (es : List Entry) (st u : MatchState) (room capacity wide p : ℕ) (qid : Qid) (m : Option Answer) (e : Entry) → IsBook rules says count es st room capacity → 0 < p →
    ((q : Question) → open_question rules st.record_ p ≡ Some q → same_qid q.qid qid ≡ true → m ≡ says p q (passes_of st p)) →
    e.p ≡ p → e.qid ≡ qid → e.pass ≡ is_none m → e.reply ≡ reply_to rules st p qid m → is_stale e.reply ≡ false → u ≡ posted rules st p qid m → wide ≡ capacity → IsBook rules says count (es ++ e ∷ []) u room wide
unfolding IsFresh
book-posted rules says count es st u room capacity wide p qid m e b some moves ep eq epass ereply stale eu ew =
    let f : IsFresh qid (open_question rules st.record_ p) = fresh rules st p qid m (open_question rules st.record_ p) (rw ereply at stale) in
    let q : Question = f.0 in
    let says_ : m ≡ says p f.0 (passes_of st p) = moves f.0 f.1 f.2 in
    let r : e.reply ≡ reply_by (settled_by rules f.0 (passes_of st p) m) = ereply ∙ (ap (reply_on rules st p qid m) f.1 ∙ ap (λ (c : Bool). if c then reply_by (settled_by rules f.0 (passes_of st p) m) else Stale (Some f.0.qid)) f.2) in
    let next : posted rules st p qid m ≡ moved rules st p (settled_by rules f.0 (passes_of st p) m) =
    ap (posted_on rules st p qid m) f.1 ∙ ap (λ (c : Bool). if c then moved rules st p (settled_by rules f.0 (passes_of st p) m) else st) f.2 in
    let turned : u ≡ turn rules says st p f.0 = eu ∙ (next ∙ ap (λ (o : Option Answer). moved rules st p (settled_by rules f.0 (passes_of st p) o)) says_) in
    let entry : IsEntry rules says st e = record {
      question = f.0;
      numbered = rw ep some;
      asked = rw ep f.1;
      qid = eq ∙ sym (same_qid-is f.0.qid qid f.2);
      pass = rw ep (epass ∙ ap (λ (o : Option Answer). is_none o) says_);
      reply = rw ep (r ∙ ap (λ (o : Option Answer). reply_by (settled_by rules f.0 (passes_of st p) o)) says_);
    } in
    let last : state_after rules says (es ++ e ∷ []) ≡ turn_on rules says (state_after rules says es) e.p (open_question rules (state_after rules says es).record_ e.p) =
    ap (λ (ps : List ℕ). turns rules says ps (begun rules)) (who-last es e) ∙ turns-last rules says (who es) e.p (begun rules) in
    let on : turn_on rules says (state_after rules says es) e.p (open_question rules (state_after rules says es).record_ e.p) ≡ turn rules says st p f.0 =
    rw (b.state, ep) (ap (turn_on rules says st p) f.1) in
    record {
      playable = b.playable;
      counted = b.counted;
      few = b.few;
      legal = journal-last rules says es e (begun rules) b.legal (rw (← b.state) at entry);
      state = last ∙ (on ∙ sym turned);
      most = b.most;
      small = b.small;
      capacity_ = rw ew b.capacity_;
    }

-- a journal that is as long as it can be leaves nobody asked

legal-last : (rules : Rules) (says : Says) (ps : List ℕ) (p : ℕ) (st : MatchState) → Legal rules says ps st → IsAskedOf rules (turns rules says ps st) p → Legal rules says (ps ++ p ∷ []) st
legal-last rules says [] p st l a = (a, tt)
legal-last rules says (q ∷ ps) p st l a = (l.0, legal-last rules says ps p _ l.1 a)

full-none : SpareIsEnough → (rules : Rules) (says : Says) (count : ℕ) (es : List Entry) (st : MatchState) (room capacity k p : ℕ) (o : Option Question) → IsBook rules says count es st room capacity → IsMost rules.setup.fan rules.setup.bound k → length es ≡ most_entries rules.setup k → 0 < p →
    open_question rules st.record_ p ≡ o → o ≡ None
full-none enough rules says count es st room capacity k p None b m full some e = refl
full-none enough rules says count es st room capacity k p (Some q) b m full some e =
    let asked : IsAskedOf rules (turns rules says (who es) (begun rules)) p = rw b.state (record { question = q; numbered = some; asked = e }) in
    let legal : Legal rules says (who es ++ p ∷ []) (begun rules) = legal-last rules says (who es) p (begun rules) (journal-legal rules says es (begun rules) b.legal) asked in
    let few : length (who es ++ p ∷ []) ≤ most_entries rules.setup k = enough rules says (who es ++ p ∷ []) k b.playable m legal in
    absurd (omega (arith, few, length-append (who es) (p ∷ []), who-length es, full))

pub book-full : SpareIsEnough → (rules : Rules) (says : Says) (count : ℕ) (es : List Entry) (st : MatchState) (room capacity k : ℕ) → IsBook rules says count es st room capacity → IsMost rules.setup.fan rules.setup.bound k → length es ≡ most_entries rules.setup k →
    ((p : ℕ) → 0 < p → p ≤ rules.setup.provers → open_question rules st.record_ p ≡ None) ↔ (is_complete st.record_ ≡ true) → is_complete st.record_ ≡ true
book-full enough rules says count es st room capacity k b m full over =
    over.0 (λ p some le. full-none enough rules says count es st room capacity k p (open_question rules st.record_ p) b m full some refl)

-- answerers at their places

pub answers_at : {A : Type 0} (answers : A → Question → ℕ → Option Answer) (says : Says) (k i : ℕ) (xs : List A) (x : A) → AnswerAs answers says k xs → i < length xs → answers (slice_index_or xs i x) ≡ says (k + i)
answers_at answers says k i [] x a lt = absurd (omega arith)
answers_at answers says k zero (y ∷ xs) x a lt = let e : k + 0 ≡ k = omega arith in rw e a.0
answers_at answers says k (suc i) (y ∷ xs) x a lt = let e : k + suc i ≡ k + 1 + i = omega arith in rw e (answers_at answers says (k + 1) i xs x a.1 (omega arith))

pub answers_set : {A : Type 0} (answers : A → Question → ℕ → Option Answer) (says : Says) (k i : ℕ) (xs : List A) (y : A) → AnswerAs answers says k xs → answers y ≡ says (k + i) → AnswerAs answers says k (slice_set xs i y)
answers_set answers says k i [] y a e = tt
answers_set answers says k zero (x ∷ xs) y a e = let n : k + 0 ≡ k = omega arith in (rw n at e, a.1)
answers_set answers says k (suc i) (x ∷ xs) y a e = let n : k + suc i ≡ k + 1 + i = omega arith in (a.0, answers_set answers says (k + 1) i xs y a.1 (rw n at e))

pub prefix_more : (a b c es : List Entry) (e : Entry) (n : ℕ) → b ≡ a ++ es → length es ≡ n → c ≡ b ++ e ∷ [] → (x : List Entry) × (c ≡ a ++ x) × (length x ≡ n + 1)
prefix_more a b c es e n eb en ec = (es ++ e ∷ [], rw (ec, eb, append_assoc) refl, length-append es (e ∷ []) ∙ ap (λ (m : ℕ). m + 1) en)

pub set_length : {A : Type 0} (xs : List A) (i : ℕ) (y : A) → length (slice_set xs i y) ≡ length xs
set_length [] i y = refl
set_length (x ∷ xs) zero y = refl
set_length (x ∷ xs) (suc i) y = ap suc (set_length xs i y)

-- a book over has the record of its case, and asks what it asks

pub book-record : RecordOfCase → (rules : Rules) (says : Says) (es : List Entry) (st : MatchState) → ArePlayable rules → IsJournal rules says es (begun rules) → state_after rules says es ≡ st →
    is_complete st.record_ ≡ true → st.record_ ≡ bracket rules (answers_of rules says)
book-record one rules says es st playable legal state complete =
    rw state at (one rules says (who es) playable (journal-legal rules says es (begun rules) legal) (rw (← state) at complete))

pub book-asks : AskedByTheCase → (rules : Rules) (says : Says) (es : List Entry) (st : MatchState) → ArePlayable rules → IsJournal rules says es (begun rules) → state_after rules says es ≡ st →
    (p : ℕ) (q : Question) → 0 < p → open_question rules st.record_ p ≡ Some q → asked rules (bracket rules (answers_of rules says)) p q.qid ≡ Some q.kind
book-asks by rules says es st playable legal state p q some e = by rules says (who es) p q playable (journal-legal rules says es (begun rules) legal) some (rw (← state) at e)

pub book-safe : TruthfulProversAreSafe → (rules : Rules) (says : Says) (es : List Entry) (st : MatchState) → ArePlayable rules → IsJournal rules says es (begun rules) → state_after rules says es ≡ st → IsFair rules.ruling →
    (t : Truth) (p : ℕ) → IsRun rules t → 0 < p → p ≤ rules.setup.provers → IsTruthfulProver rules says t p → IsSafe rules t p st.record_
book-safe safe rules says es st playable legal state fair t p run low high truthful =
    rw state at (safe rules says t (who es) p playable fair run low high truthful (journal-legal rules says es (begun rules) legal))

-- the empty book

pub book-begun : (ruling : Ruling) (t : Setup) (says : Says) (count : ℕ) (es : List Entry) (room capacity : ℕ) → 0 < count → count ≤ 16 → 0 < t.bound → 1 < t.fan → t.fan ≤ 16 → t.provers ≡ count → es ≡ [] → room < 2 ^ 32 →
    ((k : ℕ) × IsMost t.fan t.bound k × (room ≡ most_entries t k)) → room ≤ capacity →
    IsBook (rules_of ruling t) says count es (begun (rules_of ruling t)) room capacity
book-begun ruling t says count es room capacity some sixteen steps parted few many none small most fits = record {
  playable = record { some = omega (arith, many, some); parted = parted; few_parts = few; steps = steps };
  counted = many;
  few = sixteen;
  legal = rw none tt;
  state = rw none refl;
  most = most;
  small = small;
  capacity_ = fits;
}
