-- Books as they are kept: one of them grows, and the journal of all by what it gained.
use Rattle.std.proofs.Common.{◌≡◌, ℕ, zero, suc, ◌+◌, ◌-◌, ◌<◌, ◌≤◌, ◌==◌, Bool, true, false, if◌then◌else◌, List, [], ◌∷◌, ◌++◌, map, length, set, take, drop, Some, None, refl, sym, ap, ap₂, ◌∙◌, subst, arith, length-append, inl, inr, get_or}
use Rattle.std.specs.Prelude.{slice_get}
use Rattle.std.specs.Option.{option_map}
use Rattle.std.proofs.lemmas.Bool.{cases_eq, cases_Bool, ne_eqb}
use Rattle.std.proofs.lemmas.Bool.Decides.{nat_tests}
use Rattle.std.proofs.lemmas.Option.{same_Some, slice_get-map, slice_get_within, none-some, slice_get_read, slice_get-get_or, get_or_from_slice_get}
use Rattle.std.proofs.lemmas.List.{length-map, length_push, length-set, append-nil, get_or_default, drop_at, get_or-set_same, length-drop, take_more}
use Rattle.std.specs.List.{All}
use Rattle.std.proofs.lemmas.List.Elements.{All-head, All-tail, All-get_or}
use Rattle.bisect_game.specs.Says.{Says}
use Rattle.bisect_game.specs.Ruling.{Ruling}
use Rattle.bisect_game.specs.Setup.{Setup}
use Rattle.tournament.specs.Moves.{MatchState, begun}
use Rattle.tournament.specs.Journals.{turns}
use Rattle.tournament.specs.Length.{IsMost, most_entries}
use Rattle.tournament.specs.Posting.{is_stale}
use Rattle.bisect_game.specs.Rules.{rules_of}
use Rattle.board_book.specs.declared.book.Opening.{Opening}
use Rattle.board_book.specs.declared.entry.Entry.{Entry}
use Rattle.board_book.specs.Entries.{IsJournal, who, noted}
use Rattle.board_book.specs.Tasks.{Task, task_of, numbered, Games, begun_game, games_of, IsTaskJournal, games_after, entries_of, BookOf, of_task, tasks_of_openings, openings, noted_for}
use Rattle.board_book.specs.Alone.{game_after}
use Rattle.board_book.specs.Keeping.{all_entries, HasRoom, AreBooksOf, Grows, NumbersAgree}
use Rattle.board_book.proofs.AloneLemmas.{alone, journals_join, block_is_legal, entries_join, entries_of_block, entries_of_others, journal_rest}

-- numbers and places

pub numbered_at : {A : Type 0} (xs : List A) (t : ℕ) (a : A) → 0 < t → slice_get xs (t - 1) ≡ Some a → numbered xs t ≡ Some a
numbered_at xs t a some e = ap (λ (b : Bool). if b then None else slice_get xs (t - 1)) (ne_eqb t 0 (λ z. absurd (omega (arith, z, some)))) ∙ e

pub is_positive : {A : Type 0} (xs : List A) (t : ℕ) (a : A) → numbered xs t ≡ Some a → 0 < t
is_positive xs t a e = elim (cases_Bool (t == 0)) [
  | inl z ↦ absurd (none-some a (sym (ap (λ (b : Bool). if b then None else slice_get xs (t - 1)) z) ∙ e))
  | inr z ↦ grind (arith, nat_tests)
]

pub at_place : {A : Type 0} (xs : List A) (t : ℕ) (a : A) → numbered xs t ≡ Some a → slice_get xs (t - 1) ≡ Some a
at_place xs t a e = let some : 0 < t = is_positive xs t a e in
    sym (ap (λ (b : Bool). if b then None else slice_get xs (t - 1)) (ne_eqb t 0 (λ z. absurd (omega (arith, z, some))))) ∙ e

-- the element of a number, of what a function makes of each
pub numbered_map : {A B : Type 0} (f : A → B) (xs : List A) (t : ℕ) (a : A) → numbered xs t ≡ Some a → numbered (map f xs) t ≡ Some (f a)
numbered_map f xs t a e =
    numbered_at (map f xs) t (f a) (is_positive xs t a e) (slice_get-map f xs (t - 1) ∙ ap (option_map f) (at_place xs t a e))

get_set_same : {A : Type 0} (xs : List A) (i : ℕ) (a b : A) → slice_get xs i ≡ Some a → slice_get (set xs i b) i ≡ Some b
get_set_same [] i a b e = absurd (none-some a e)
get_set_same (x ∷ xs) zero a b e = refl
get_set_same (x ∷ xs) (suc i) a b e = get_set_same xs i a b e

get_set_other : {A : Type 0} (xs : List A) (i j : ℕ) (b : A) → (j ≡ i → ⊥) → slice_get (set xs i b) j ≡ slice_get xs j
get_set_other [] i j b never = refl
get_set_other (x ∷ xs) zero zero b never = absurd (never refl)
get_set_other (x ∷ xs) zero (suc j) b never = refl
get_set_other (x ∷ xs) (suc i) zero b never = refl
get_set_other (x ∷ xs) (suc i) (suc j) b never = get_set_other xs i j b (λ e. never (ap suc e))

map_set_same : {A B : Type 0} (f : A → B) (xs : List A) (i : ℕ) (a b : A) → slice_get xs i ≡ Some a → f b ≡ f a → map f (set xs i b) ≡ map f xs
map_set_same f [] i a b e same = refl
map_set_same f (x ∷ xs) zero a b e same = ap (λ y. y ∷ map f xs) (same ∙ ap f (sym (same_Some x a e)))
map_set_same f (x ∷ xs) (suc i) a b e same = ap (λ ys. f x ∷ ys) (map_set_same f xs i a b e same)

-- what holds of each element holds of the one of a number
pub all_at : {A : Type 0} (P : A → Type 0) (xs : List A) (t : ℕ) (a : A) → All P xs → numbered xs t ≡ Some a → P a
all_at P xs t a all e =
    let here : slice_get xs (t - 1) ≡ Some a = at_place xs t a e in
    subst P (get_or_from_slice_get xs (t - 1) a a here) (All-get_or P xs (t - 1) a (slice_get_within xs (t - 1) a here) all)

-- the most rounds are one number

most_is_one : (fan bound j k : ℕ) → IsMost fan bound j → IsMost fan bound k → j ≡ k
most_is_one fan bound j k a b = let low : j ≤ k = b.most j a.few in let high : k ≤ j = a.most k b.few in omega (arith, low, high)

module _ {N M : Type 0} where
  total_set : (bs : List (BookOf N M)) (i : ℕ) (b c : BookOf N M) → slice_get bs i ≡ Some b → all_entries (set bs i c) + length b.journal ≡ all_entries bs + length c.journal
  total_set [] i b c e = absurd (none-some b e)
  total_set (x ∷ bs) zero b c e =
      let n : length x.journal ≡ length b.journal = ap (λ (y : BookOf N M). length y.journal) (same_Some x b e) in omega (arith, n)
  total_set (x ∷ bs) (suc i) b c e = let n : all_entries (set bs i c) + length b.journal ≡ all_entries bs + length c.journal = total_set bs i b c e in omega (arith, n)

  pub within_room : (bs : List (BookOf N M)) (n : ℕ) → HasRoom bs n → all_entries bs ≤ n
  within_room [] n r = omega arith
  within_room (b ∷ bs) n r = let few : length b.journal ≤ most_entries b.opening.setup r.0 = r.2 in let is : n ≡ most_entries b.opening.setup r.0 + r.3.0 = r.3.1 in let rest : all_entries bs ≤ r.3.0 = within_room bs r.3.0 r.3.2 in
      omega (arith, few, is, rest)

  room_set : (bs : List (BookOf N M)) (i n : ℕ) (b c : BookOf N M) → slice_get bs i ≡ Some b → c.opening ≡ b.opening → (k : ℕ) → IsMost c.opening.setup.fan c.opening.setup.bound k → length c.journal ≤ most_entries c.opening.setup k → HasRoom bs n → HasRoom (set bs i c) n
  room_set [] i n b c e same k most few r = absurd (none-some b e)
  room_set (x ∷ bs) zero n b c e same k most few r =
      let opening : x.opening ≡ c.opening = ap (λ (y : BookOf N M). y.opening) (same_Some x b e) ∙ sym same in
      let setup : x.opening.setup ≡ c.opening.setup = ap (λ (o : Opening N M). o.setup) opening in
      let there : IsMost c.opening.setup.fan c.opening.setup.bound r.0 = subst (λ (s : Setup). IsMost s.fan s.bound r.0) setup r.1 in
      let one : k ≡ r.0 = most_is_one c.opening.setup.fan c.opening.setup.bound k r.0 most there in
      let size : most_entries x.opening.setup r.0 ≡ most_entries c.opening.setup r.0 = ap (λ (s : Setup). most_entries s r.0) setup in
      (r.0, there, subst (λ (j : ℕ). length c.journal ≤ most_entries c.opening.setup j) one few, (r.3.0, r.3.1 ∙ ap (λ (m : ℕ). m + r.3.0) size, r.3.2))
  room_set (x ∷ bs) (suc i) n b c e same k most few r = (r.0, r.1, r.2, (r.3.0, r.3.1, room_set bs i r.3.0 b c e same k most few r.3.2))

  pub opening_there : (bs : List (BookOf N M)) (t : ℕ) (b : BookOf N M) → numbered bs t ≡ Some b → slice_get (openings bs) (t - 1) ≡ Some b.opening
  opening_there bs t b there = at_place (openings bs) t b.opening (numbered_map (λ (c : BookOf N M). c.opening) bs t b there)

  -- the task and the game of a book
  pub task_there : (ruling : N → Ruling) (says : M → Says) (bs : List (BookOf N M)) (t : ℕ) (b : BookOf N M) → numbered bs t ≡ Some b → numbered (tasks_of_openings ruling says (openings bs)) t ≡ Some (task_of ruling says b.opening)
  task_there ruling says bs t b there = numbered_map (task_of ruling says) (openings bs) t b.opening (numbered_map (λ (c : BookOf N M). c.opening) bs t b there)

  pub are_numbered : (ruling : N → Ruling) (says : M → Says) → NumbersAgree ruling says
  are_numbered ruling says = record {
    book = λ bs t b there. numbered_map (λ (c : BookOf N M). c.opening) bs t b there;
    opening = λ heads t h there. numbered_map (task_of ruling says) heads t h there;
    task = λ heads t k there. (is_positive (tasks_of_openings ruling says heads) t k there, few heads t k there);
  }
    where
      few : (heads : List (Opening N M)) (t : ℕ) (k : Task) → numbered (tasks_of_openings ruling says heads) t ≡ Some k → t ≤ length heads
      few heads t k there =
          let some : 0 < t = is_positive (tasks_of_openings ruling says heads) t k there in
          let within : t - 1 < length (tasks_of_openings ruling says heads) = slice_get_within (tasks_of_openings ruling says heads) (t - 1) k (at_place (tasks_of_openings ruling says heads) t k there) in
          let long : length (tasks_of_openings ruling says heads) ≡ length heads = length-map heads (task_of ruling says) in
          omega (arith, some, within, long)

  game_there : (ruling : N → Ruling) (says : M → Says) (bs : List (BookOf N M)) (t : ℕ) (b : BookOf N M) → numbered bs t ≡ Some b → games_of (tasks_of_openings ruling says (openings bs)) t ≡ Some (begun_game (task_of ruling says b.opening))
  game_there ruling says bs t b there = ap (option_map begun_game) (task_there ruling says bs t b there)

  -- one book has grown
  pub kept_grown : (ruling : N → Ruling) (says : M → Says) (bs : List (BookOf N M)) (journal : List (ℕ × Entry)) (capacity t : ℕ) (b c : BookOf N M) → AreBooksOf ruling says bs journal capacity → numbered bs t ≡ Some b → Grows ruling says b c →
      AreBooksOf ruling says (set bs (t - 1) c) (journal ++ of_task t (drop (length b.journal) c.journal)) capacity
  kept_grown ruling says bs journal capacity t b c kept there grows =
      let es : List Entry = drop (length b.journal) c.journal in
      let k : Task = task_of ruling says b.opening in
      let games : Games = games_of (tasks_of_openings ruling says (openings bs)) in
      let here : slice_get bs (t - 1) ≡ Some b = at_place bs t b there in
      let some : 0 < t = is_positive bs t b there in
      let heads : openings (set bs (t - 1) c) ≡ openings bs = map_set_same (λ (x : BookOf N M). x.opening) bs (t - 1) b c here grows.opening in
      let own : entries_of t journal ≡ b.journal = kept.own t b there in
      let now : games_after journal games t ≡ Some (game_after b.journal (begun_game k)) =
      (alone journal games t (begun_game k) kept.legal (game_there ruling says bs t b there)).1 ∙ ap (λ (fs : List Entry). Some (game_after fs (begun_game k))) own in
      let whole : IsJournal k.rules k.says (b.journal ++ es) (begun k.rules) = subst (λ (fs : List Entry). IsJournal k.rules k.says fs (begun k.rules)) grows.journal
      (subst (λ (o : Opening N M). IsJournal (rules_of (ruling o.judge) o.setup) (says o.provers) c.journal (begun (rules_of (ruling o.judge) o.setup))) grows.opening grows.legal) in
      let rest : IsJournal k.rules k.says es (turns k.rules k.says (who b.journal) (begun k.rules)) = journal_rest k.rules k.says b.journal es (begun k.rules) whole in
      let legal : IsTaskJournal (journal ++ of_task t es) games =
      journals_join journal (of_task t es) games kept.legal (block_is_legal t es (games_after journal games) (game_after b.journal (begun_game k)) now rest) in
      let long : length c.journal ≡ length b.journal + length es = ap length grows.journal ∙ length-append b.journal es in
      let total : all_entries (set bs (t - 1) c) + length b.journal ≡ all_entries bs + length c.journal = total_set bs (t - 1) b c here in
      let added : length (journal ++ of_task t es) ≡ length journal + length es = length-append journal (of_task t es) ∙ ap (λ (n : ℕ). length journal + n) (length-map es (λ (e : Entry). (t, e))) in
      let before : length journal ≡ all_entries bs = kept.counted in
      let many : length (set bs (t - 1) c) ≡ length bs = length-set bs (t - 1) c in
      record {
        some = subst (λ (n : ℕ). 0 < n) (sym many) kept.some;
        eight = subst (λ (n : ℕ). n ≤ 8) (sym many) kept.eight;
        legal = subst (λ (hs : List (Opening N M)). IsTaskJournal (journal ++ of_task t es) (games_of (tasks_of_openings ruling says hs))) (sym heads) legal;
        own = λ u d is. own_after u d (is_positive (set bs (t - 1) c) u d is) some here (at_place (set bs (t - 1) c) u d is) own;
        counted = omega (arith, long, total, added, before);
        room = room_set bs (t - 1) capacity b c here grows.opening grows.few.0 grows.few.1 grows.few.2 kept.room;
      }
    where
      own_after : (u : ℕ) (d : BookOf N M) → 0 < u → 0 < t → slice_get bs (t - 1) ≡ Some b → slice_get (set bs (t - 1) c) (u - 1) ≡ Some d → entries_of t journal ≡ b.journal → entries_of u (journal ++ of_task t (drop (length b.journal) c.journal)) ≡ d.journal
      own_after u d low some here is own =
          let es : List Entry = drop (length b.journal) c.journal in
          elim (cases_eq u t) [
            | inl e ↦
                let place : u - 1 ≡ t - 1 = ap (λ (n : ℕ). n - 1) e in
                let same : c ≡ d = same_Some c d (sym (get_set_same bs (t - 1) b c here) ∙ (ap (slice_get (set bs (t - 1) c)) (sym place) ∙ is)) in
                ap (λ (n : ℕ). entries_of n (journal ++ of_task t es)) e ∙ (entries_join t journal (of_task t es) ∙ (ap (λ (fs : List Entry). fs ++ entries_of t (of_task t es)) own ∙ (ap (λ (fs : List Entry). b.journal ++ fs) (entries_of_block t es) ∙ (sym grows.journal ∙ ap (λ (x : BookOf N M). x.journal) same))))
            | inr never ↦
                let apart : u - 1 ≡ t - 1 → ⊥ = λ z. never (omega (arith, z, low, some)) in
                let there_before : numbered bs u ≡ Some d = numbered_at bs u d low (sym (get_set_other bs (t - 1) (u - 1) c apart) ∙ is) in
                entries_join u journal (of_task t es) ∙ (ap (λ (fs : List Entry). entries_of u journal ++ fs) (entries_of_others u t es never) ∙ (append-nil (entries_of u journal) ∙ kept.own u d there_before))
          ]

  none_yet : (bs : List (BookOf N M)) → All (λ (b : BookOf N M). b.journal ≡ []) bs → all_entries bs ≡ 0
  none_yet [] all = refl
  none_yet (b ∷ bs) all =
      let first : b.journal ≡ [] = All-head (λ (c : BookOf N M). c.journal ≡ []) b bs all in
      let n : length b.journal ≡ 0 = ap length first in
      let rest : all_entries bs ≡ 0 = none_yet bs (All-tail (λ (c : BookOf N M). c.journal ≡ []) b bs all) in
      omega (arith, n, rest)

  -- books without entries
  pub kept_empty : (ruling : N → Ruling) (says : M → Says) (bs : List (BookOf N M)) (capacity : ℕ) → 0 < length bs → length bs ≤ 8 → All (λ (b : BookOf N M). b.journal ≡ []) bs → HasRoom bs capacity → AreBooksOf ruling says bs [] capacity
  kept_empty ruling says bs capacity some eight all room = record {
    some = some;
    eight = eight;
    legal = tt;
    own = λ t b e. sym (all_at (λ (c : BookOf N M). c.journal ≡ []) bs t b all e);
    counted = sym (none_yet bs all);
    room = room;
  }

  -- room for a book more
  pub room_more : (bs : List (BookOf N M)) (n k : ℕ) (b : BookOf N M) → HasRoom bs n → IsMost b.opening.setup.fan b.opening.setup.bound k → length b.journal ≤ most_entries b.opening.setup k → HasRoom (bs ++ b ∷ []) (n + most_entries b.opening.setup k)
  room_more [] n k b r most few = (k, most, few, (n, omega arith, r))
  room_more (c ∷ bs) n k b r most few = let is : n ≡ most_entries c.opening.setup r.0 + r.3.0 = r.3.1 in
      (r.0, r.1, r.2, (r.3.0 + most_entries b.opening.setup k, omega (arith, is), room_more bs r.3.0 k b r.3.2 most few))

  -- one book, with the entries that it has
  pub kept_one : (ruling : N → Ruling) (says : M → Says) (b : BookOf N M) (capacity : ℕ) → HasRoom (b ∷ []) capacity → IsJournal (rules_of (ruling b.opening.judge) b.opening.setup) (says b.opening.provers) b.journal (begun (rules_of (ruling b.opening.judge) b.opening.setup)) →
      AreBooksOf ruling says (b ∷ []) (of_task 1 b.journal) capacity
  kept_one ruling says b capacity room legal =
      let e : BookOf N M = record { opening = b.opening; journal = []; game = b.game } in
      let empty : AreBooksOf ruling says (e ∷ []) [] capacity = kept_empty ruling says (e ∷ []) capacity (omega arith) (omega arith)
      (Rattle.std.proofs.lemmas.List.Elements.All-cons (λ (c : BookOf N M). c.journal ≡ []) e [] refl (Rattle.std.proofs.lemmas.List.Elements.All-nil (λ (c : BookOf N M). c.journal ≡ []))) (room.0, room.1, omega arith, room.3) in
      kept_grown ruling says (e ∷ []) [] capacity 1 e b empty refl (record { opening = refl; journal = refl; legal = legal; few = (room.0, room.1, room.2) })

-- a journal that has become longer

pub grown : (b c es : List Entry) → c ≡ b ++ es → c ≡ b ++ drop (length b) c
grown b c es e = e ∙ ap (λ (l : List Entry). b ++ l) (sym (ap (drop (length b)) e ∙ drop_at b es (length b) refl))

noted_if : (t : Bool) (b : List Entry) (e : Entry) → (if t then b else b ++ e ∷ []) ≡ b ++ (if t then [] else e ∷ [])
noted_if true b e = sym (append-nil b)
noted_if false b e = refl

pub grown_by_note : (b c : List Entry) (e : Entry) → c ≡ noted b e → c ≡ b ++ drop (length b) c
grown_by_note b c e is = grown b c (if is_stale e.reply then [] else e ∷ []) (is ∙ noted_if (is_stale e.reply) b e)

-- what is added by a post, as an entry of task t

tagged_if : (s : Bool) (t : ℕ) (e : Entry) (xs : List (ℕ × Entry)) → xs ++ of_task t (if s then [] else e ∷ []) ≡ (if s then xs else xs ++ (t, e) ∷ [])
tagged_if true t e xs = append-nil xs
tagged_if false t e xs = refl

pub noted_by_post : (t : ℕ) (b c : List Entry) (e : Entry) (xs : List (ℕ × Entry)) → c ≡ noted b e → xs ++ of_task t (drop (length b) c) ≡ noted_for t xs e
noted_by_post t b c e xs is =
    let added : drop (length b) c ≡ (if is_stale e.reply then [] else e ∷ []) = ap (drop (length b)) (is ∙ noted_if (is_stale e.reply) b e) ∙ drop_at b (if is_stale e.reply then [] else e ∷ []) (length b) refl in
    ap (λ (l : List Entry). xs ++ of_task t l) added ∙ tagged_if (is_stale e.reply) t e xs

-- a book that was read

pub book_read : {A : Type 0} (xs : List A) (t : ℕ) (b : A) → 0 < t → t ≤ length xs → b ≡ get_or xs (t - 1) b → numbered xs t ≡ Some b
book_read xs t b some few e = numbered_at xs t b some (slice_get_read xs (length xs) (t - 1) b refl (omega (arith, some, few)) e)

-- what was read before and after the book of task t grew
pub record GrewAt {N M : Type 0} (ruling : N → Ruling) (says : M → Says) (bs : List (BookOf N M)) (t : ℕ) (b c : BookOf N M) (before after : List Entry) : Type 0 where
  pub some : 0 < t
  pub few : t ≤ length bs
  pub lent : b ≡ get_or bs (t - 1) b
  pub old : before ≡ b.journal
  pub new : after ≡ c.journal
  pub grows : Grows ruling says b c

module _ {N M : Type 0} (ruling : N → Ruling) (says : M → Says) (bs : List (BookOf N M)) (t : ℕ) (b c : BookOf N M) (before after : List Entry) (g : GrewAt ruling says bs t b c before after) where
  pub grew_there : numbered bs t ≡ Some b
  grew_there = book_read bs t b g.some g.few g.lent

  pub grew_kept : (journal journal_after : List (ℕ × Entry)) (capacity capacity_after : ℕ) → AreBooksOf ruling says bs journal capacity → journal_after ≡ journal ++ of_task t (drop (length before) after) → capacity_after ≡ capacity →
      AreBooksOf ruling says (set bs (t - 1) c) journal_after capacity_after
  grew_kept journal journal_after capacity capacity_after kept items cap =
      let now : journal_after ≡ journal ++ of_task t (drop (length b.journal) c.journal) = items ∙ ap₂ (λ (u v : List Entry). journal ++ of_task t (drop (length u) v)) g.old g.new in
      subst (λ (j : List (ℕ × Entry)). AreBooksOf ruling says (set bs (t - 1) c) j capacity_after) (sym now)
      (subst (λ (n : ℕ). AreBooksOf ruling says (set bs (t - 1) c) (journal ++ of_task t (drop (length b.journal) c.journal)) n) (sym cap) (kept_grown ruling says bs journal capacity t b c kept grew_there g.grows))

  pub grew_room : (journal : List (ℕ × Entry)) (capacity : ℕ) → AreBooksOf ruling says bs journal capacity → length journal + (length after - length before) ≤ capacity
  grew_room journal capacity kept =
      let es : List Entry = drop (length before) after in
      let next : AreBooksOf ruling says (set bs (t - 1) c) (journal ++ of_task t es) capacity = grew_kept journal (journal ++ of_task t es) capacity capacity kept refl refl in
      let all : all_entries (set bs (t - 1) c) ≤ capacity = within_room (set bs (t - 1) c) capacity next.room in
      let sum : length (journal ++ of_task t es) ≡ all_entries (set bs (t - 1) c) = next.counted in
      let parts : length (journal ++ of_task t es) ≡ length journal + length es = length-append journal (of_task t es) ∙ ap (λ (n : ℕ). length journal + n) (length-map es (λ (e : Entry). (t, e))) in
      let rest : length es ≡ length after - length before = length-drop (length before) after in
      omega (arith, all, sum, parts, rest)

  pub grew_noted : (journal journal_after : List (ℕ × Entry)) (e : Entry) → journal_after ≡ journal ++ of_task t (drop (length before) after) → c.journal ≡ noted b.journal e → journal_after ≡ noted_for t journal e
  grew_noted journal journal_after e items is = items ∙ (ap₂ (λ (u v : List Entry). journal ++ of_task t (drop (length u) v)) g.old g.new ∙ noted_by_post t b.journal c.journal e journal is)

pub book_is : {N M : Type 0} (c b : BookOf N M) (es : List Entry) (st : MatchState) → c.opening ≡ b.opening → c.journal ≡ es → c.game ≡ st → c ≡ record b { journal = es; game = st }
book_is c b es st e0 e1 e2 = λ i. record { opening = e0 i; journal = e1 i; game = e2 i }

module _ {N M : Type 0} where
  -- the room of one book more
  pub room_step : (bs : List (BookOf N M)) (i n m : ℕ) (b : BookOf N M) → i < length bs → b ≡ get_or bs i b → HasRoom (take i bs) n → ((k : ℕ) × IsMost b.opening.setup.fan b.opening.setup.bound k × (length b.journal ≤ most_entries b.opening.setup k) × (m ≡ n + most_entries b.opening.setup k)) → HasRoom (take (i + 1) bs) m
  room_step bs i n m b within e r f =
      let here : take (i + 1) bs ≡ take i bs ++ b ∷ [] = take_more bs i b within ∙ ap (λ (x : BookOf N M). take i bs ++ x ∷ []) (sym e) in
      subst (λ (l : List (BookOf N M)). HasRoom l m) (sym here) (subst (HasRoom (take i bs ++ b ∷ [])) (sym f.3) (room_more (take i bs) n f.0 b r f.1 f.2))

  pub one_kept : (ruling : N → Ruling) (says : M → Says) (b x : BookOf N M) (items : List (BookOf N M)) (journal after : List (ℕ × Entry)) (entries : List Entry) (capacity after_capacity : ℕ) → items ≡ b ∷ [] → x ≡ get_or items 0 x → entries ≡ x.journal → journal ≡ [] →
      after ≡ journal ++ of_task 1 (drop 0 entries) → after_capacity ≡ capacity → HasRoom items capacity → IsJournal (rules_of (ruling b.opening.judge) b.opening.setup) (says b.opening.provers) b.journal (begun (rules_of (ruling b.opening.judge) b.opening.setup)) → AreBooksOf ruling says items after after_capacity
  one_kept ruling says b x items journal after entries capacity after_capacity is read old none noted cap room legal =
      let here : x ≡ b = read ∙ ap (λ (l : List (BookOf N M)). get_or l 0 x) is in
      let now : after ≡ of_task 1 b.journal = noted ∙ ap₂ (λ (j : List (ℕ × Entry)) (l : List Entry). j ++ of_task 1 l) none (old ∙ ap (λ (y : BookOf N M). y.journal) here) in
      let kept : AreBooksOf ruling says (b ∷ []) (of_task 1 b.journal) capacity = kept_one ruling says b capacity (subst (λ (l : List (BookOf N M)). HasRoom l capacity) is room) legal in
      subst (λ (l : List (BookOf N M)). AreBooksOf ruling says l after after_capacity) (sym is) (subst (λ (j : List (ℕ × Entry)). AreBooksOf ruling says (b ∷ []) j after_capacity) (sym now) (subst (λ (n : ℕ). AreBooksOf ruling says (b ∷ []) (of_task 1 b.journal) n) (sym cap) kept))

  -- one of the books is another, of the same opening
  pub heads_same : (bs : List (BookOf N M)) (t : ℕ) (b c : BookOf N M) → numbered bs t ≡ Some b → c.opening ≡ b.opening → openings (set bs (t - 1) c) ≡ openings bs
  heads_same bs t b c there same = map_set_same (λ (x : BookOf N M). x.opening) bs (t - 1) b c (at_place bs t b there) same

  -- what holds of the first books, and of the next one once it is put there
  pub done_more : (P : BookOf N M → Type 0) (bs : List (BookOf N M)) (i : ℕ) (b c : BookOf N M) → slice_get bs i ≡ Some b → P c → ((k : ℕ) (d : BookOf N M) → k < i → slice_get bs k ≡ Some d → P d) → (k : ℕ) (d : BookOf N M) → k < i + 1 → slice_get (set bs i c) k ≡ Some d → P d
  done_more P bs i b c there holds before k d below e = elim (cases_eq k i) [
    | inl same ↦ subst P (same_Some c d (sym (get_set_same bs i b c there) ∙ (ap (slice_get (set bs i c)) (sym same) ∙ e))) holds
    | inr never ↦ before k d (omega (arith, below, never)) (sym (get_set_other bs i k c never) ∙ e)
  ]

  pub done_all : (P : BookOf N M → Type 0) (bs : List (BookOf N M)) (i : ℕ) → length bs ≤ i → ((k : ℕ) (d : BookOf N M) → k < i → slice_get bs k ≡ Some d → P d) → (k : ℕ) (d : BookOf N M) → k < length bs → P (get_or bs k d)
  done_all P bs i all done k d below = done k (get_or bs k d) (omega (arith, all, below)) (slice_get-get_or bs k d below)
