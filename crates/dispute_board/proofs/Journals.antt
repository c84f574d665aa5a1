-- Journals and their logs.
use Rattle.std.proofs.Common.{◌≡◌, ℕ, ◌==◌, if◌then◌else◌, Bool, true, false, List, [], ◌∷◌, ◌++◌, Some, None, refl, sym, ap, ap₂, ◌∙◌}
use Rattle.tournament.specs.declared.posting.Reply.{Reply}
use Rattle.tournament.specs.declared.posting.Reply.TheVariants.{Taken, Faulty, Spent, Stale}
use Rattle.board_book.specs.declared.entry.Entry.{Entry}
use Rattle.dispute_board.specs.OneHistory.{number_of_pass, numbers_of_reply, numbers_of, log_of_journal, LogsTellJournals, StartsTellJournals}

-- the reply that was written
abbrev open_of : List ℕ → Reply
open_of (d ∷ r ∷ rest) = Stale (Some (record { dispute = d; round = r }))
open_of _ = Stale None

abbrev reply_of : List ℕ → Reply
reply_of [] = Stale None
reply_of (n ∷ rest) = if n == 0 then Taken else if n == 1 then Faulty else if n == 2 then Spent else if n == 4 then open_of rest else Stale None

reply-back : (r : Reply) → reply_of (numbers_of_reply r) ≡ r
reply-back Taken = refl
reply-back Faulty = refl
reply-back Spent = refl
reply-back (Stale None) = refl
reply-back (Stale (Some q)) = refl

abbrev pass_of : ℕ → Bool
pass_of n = n == 1

pass-back : (b : Bool) → pass_of (number_of_pass b) ≡ b
pass-back true = refl
pass-back false = refl

abbrev entry_of : ℕ × Entry → List ℕ → ℕ × Entry
entry_of d (t ∷ p ∷ dispute ∷ round ∷ pass ∷ reply) = (t, record { p = p; qid = record { dispute = dispute; round = round }; pass = pass_of pass; reply = reply_of reply })
entry_of d _ = d

entry-back : (d x : ℕ × Entry) → entry_of d (numbers_of x) ≡ x
entry-back d x = ap₂ (λ (b : Bool) (r : Reply). (x.0, record { p = x.1.p; qid = x.1.qid; pass = b; reply = r })) (pass-back x.1.pass) (reply-back x.1.reply)

abbrev entries_of : ℕ × Entry → List (List ℕ) → List (ℕ × Entry)
entries_of d [] = []
entries_of d (x ∷ xs) = entry_of d x ∷ entries_of d xs

journal-back : (d : ℕ × Entry) (es : List (ℕ × Entry)) → entries_of d (log_of_journal es) ≡ es
journal-back d [] = refl
journal-back d (e ∷ es) = ap₂ (λ (x : ℕ × Entry) (xs : List (ℕ × Entry)). x ∷ xs) (entry-back d e) (journal-back d es)

abbrev nobody : ℕ × Entry
nobody = (0, record { p = 0; qid = record { dispute = 0; round = 0 }; pass = false; reply = Taken })

pub logs_tell : LogsTellJournals
logs_tell es fs e = sym (journal-back nobody es) ∙ ap (entries_of nobody) e ∙ journal-back nobody fs

entries-append : (d : ℕ × Entry) (xs ys : List (List ℕ)) → entries_of d (xs ++ ys) ≡ entries_of d xs ++ entries_of d ys
entries-append d [] ys = refl
entries-append d (x ∷ xs) ys = ap (λ (l : List (ℕ × Entry)). entry_of d x ∷ l) (entries-append d xs ys)

pub starts_tell : StartsTellJournals
starts_tell es fs b = (
  entries_of nobody b.0,
  sym (journal-back nobody fs) ∙ ap (entries_of nobody) b.1 ∙ entries-append nobody (log_of_journal es) b.0 ∙ ap (λ (l : List (ℕ × Entry)). l ++ entries_of nobody b.0) (journal-back nobody es),
)
