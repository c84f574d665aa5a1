-- The provers of all tasks by their numbers: who stands there, and what is said there.
use Rattle.std.proofs.Common.{◌≡◌, ℕ, zero, suc, ◌+◌, ◌-◌, ◌*◌, ◌<◌, ◌≤◌, ◌⊎◌, inl, inr, Bool, if◌then◌else◌, List, [], ◌∷◌, ◌++◌, map, length, get_or, take, Option, Some, None, refl, sym, ap, ap₂, ◌∙◌, subst, arith, append_assoc}
use Rattle.std.specs.Prelude.{slice_get}
use Rattle.std.specs.List.{range_with_len}
use Rattle.std.proofs.lemmas.Bool.{ne_eqb}
use Rattle.std.proofs.lemmas.Option.{same_Some, none-some, get_or_from_slice_get, slice_get_within}
use Rattle.std.proofs.lemmas.List.{get_or_at, length_push, length-map, length-append, length-take-le, take_more, append-nil}
use Rattle.rd_base.specs.declared.answer.Answer.{Answer}
use Rattle.bisect_game.specs.declared.settled.Question.{Question}
use Rattle.bisect_game.specs.Ruling.{Ruling}
use Rattle.bisect_game.specs.Says.{Says, AnswerAs}
use Rattle.board_book.specs.declared.book.Opening.{Opening}
use Rattle.board_book.specs.declared.entry.Entry.{Entry}
use Rattle.board_book.specs.Tasks.{Task, task_of, BookOf, openings, tasks_of_openings, numbered, entries_of, of_task, sayings_from, sayings}
use Rattle.board_book.specs.Keeping.{NumbersAgree, AreToldApart, SayInOrder}
use Rattle.dispute_board.specs.OneHistory.{IsThere}
use Rattle.posters.specs.declared.playing.Place.{Place}
use Rattle.posters.specs.Serving.{provers_from, places_from, silent, saying_of, IsProverAt}

abbrev Saying : Type 0
Saying = Question → ℕ → Option Answer

-- a number in the first task, or in those after it
abbrev IsInBlock : Says → ℕ → ℕ → ℕ → List Place → List Saying → ℕ → Place → Type 0
IsInBlock says t p m places said n x =
    ((x.task ≡ t) × (p ≤ x.prover) × (x.prover < p + m) × (slice_get (sayings_from says p m ++ said) n ≡ Some (says x.prover)))
    ⊎ ((k : ℕ) × (slice_get places k ≡ Some x) × (slice_get (sayings_from says p m ++ said) n ≡ slice_get said k))

in_block : (says : Says) (t p m : ℕ) (places : List Place) (said : List Saying) (n : ℕ) (x : Place) → slice_get (provers_from t p m ++ places) n ≡ Some x → IsInBlock says t p m places said n x
in_block says t p zero places said n x e = inr (n, e, refl)
in_block says t p (suc m) places said zero x e =
    let here : record { task = t; prover = p } ≡ x = same_Some (record { task = t; prover = p }) x e in
    let own : p ≡ x.prover = ap (λ (y : Place). y.prover) here in
    inl (sym (ap (λ (y : Place). y.task) here), omega (arith, own), omega (arith, own), ap (λ (q : ℕ). Some (says q)) own)
in_block says t p (suc m) places said (suc n) x e =
    elim (in_block says t (p + 1) m places said n x e) [
      | inl r ↦ let low : p + 1 ≤ x.prover = r.1 in let high : x.prover < p + 1 + m = r.2 in inl (r.0, omega (arith, low), omega (arith, high), r.3)
      | inr r ↦ inr r
    ]

module _ {N M : Type 0} (says : M → Says) where
  record IsPlaced (t : ℕ) (heads : List (Opening N M)) (n : ℕ) (x : Place) : Type 0 where
    pub head : Opening N M
    pub from : t ≤ x.task
    pub at : slice_get heads (x.task - t) ≡ Some head
    pub some : 0 < x.prover
    pub few : x.prover ≤ head.setup.provers
    pub said : slice_get (sayings says heads) n ≡ Some (says head.provers x.prover)

  placed : (t : ℕ) (heads : List (Opening N M)) (n : ℕ) (x : Place) → slice_get (places_from t heads) n ≡ Some x → IsPlaced t heads n x
  placed t [] n x e = absurd (none-some x e)
  placed t (h ∷ hs) n x e =
      elim (in_block (says h.provers) t 1 h.setup.provers (places_from (t + 1) hs) (sayings says hs) n x e) [
        | inl r ↦
            let here : x.task ≡ t = r.0 in let low : 1 ≤ x.prover = r.1 in let high : x.prover < 1 + h.setup.provers = r.2 in
            let zeroth : x.task - t ≡ 0 = omega (arith, here) in
            record {
              head = h;
              from = omega (arith, here);
              at = ap (slice_get (h ∷ hs)) zeroth;
              some = omega (arith, low);
              few = omega (arith, high);
              said = r.3;
            }
        | inr r ↦
            let rest : IsPlaced (t + 1) hs r.0 x = placed (t + 1) hs r.0 x r.1 in
            let from : t + 1 ≤ x.task = rest.from in
            let next : x.task - t ≡ suc (x.task - (t + 1)) = omega (arith, from) in
            record {
              head = rest.head;
              from = omega (arith, from);
              at = ap (slice_get (h ∷ hs)) next ∙ rest.at;
              some = rest.some;
              few = rest.few;
              said = r.2 ∙ rest.said;
            }
      ]

  -- the prover of a number
  pub prover_at : (heads : List (Opening N M)) (n : ℕ) (x : Place) (said : Saying) → slice_get (places_from 1 heads) n ≡ Some x → said ≡ saying_of says heads n → IsProverAt says heads x said
  prover_at heads n x said e same =
      let p : IsPlaced 1 heads n x = placed 1 heads n x e in
      let from : 1 ≤ x.task = p.from in
      record {
        head = p.head;
        there = ap (λ (b : Bool). if b then None else slice_get heads (x.task - 1)) (ne_eqb x.task 0 (λ z. absurd (omega (arith, z, from)))) ∙ p.at;
        some = p.some;
        few = p.few;
        says_it = same ∙ get_or_from_slice_get (sayings says heads) n (says p.head.provers x.prover) silent p.said;
      }

module _ {N M : Type 0} (ruling : N → Ruling) (says : M → Says) (law : NumbersAgree ruling says) where
  -- a prover that is there
  pub is_there : (heads : List (Opening N M)) (x : Place) (said : Saying) → IsProverAt says heads x said → IsThere (tasks_of_openings ruling says heads) x.task x.prover
  is_there heads x said p = (task_of ruling says p.head, law.opening heads x.task p.head p.there, p.some, p.few)

  pub task_same : (heads : List (Opening N M)) (x : Place) (said : Saying) (k : Task) → (p : IsProverAt says heads x said) → numbered (tasks_of_openings ruling says heads) x.task ≡ Some k → task_of ruling says p.head ≡ k
  task_same heads x said k p e = same_Some (task_of ruling says p.head) k (sym (law.opening heads x.task p.head p.there) ∙ e)

-- a list by its numbers
list_by_number : {B : Type 0} (d : B) (zs ys : List B) (j : ℕ) → length zs ≡ j → map (λ n. get_or (zs ++ ys) n d) (range_with_len j (length ys)) ≡ ys
list_by_number d zs [] j e = refl
list_by_number {B} d zs (y ∷ ys) j e =
    let first : get_or (zs ++ y ∷ ys) j d ≡ y = get_or_at zs y ys d j e in
    let rest : map (λ n. get_or ((zs ++ y ∷ []) ++ ys) n d) (range_with_len (j + 1) (length ys)) ≡ ys = list_by_number d (zs ++ y ∷ []) ys (j + 1) (length_push zs y ∙ ap (λ (n : ℕ). n + 1) e) in
    let same : (zs ++ y ∷ []) ++ ys ≡ zs ++ y ∷ ys = append_assoc zs (y ∷ []) ys in
    ap₂ (λ (a : B) (l : List B). a ∷ l) first (subst (λ (l : List B). map (λ n. get_or l n d) (range_with_len (j + 1) (length ys)) ≡ ys) same rest)

pub all_by_number : {A : Type 0} {N M : Type 0} (answers : A → Saying) (says : M → Says) (heads : List (Opening N M)) (xs : List A) → map answers xs ≡ sayings says heads → map answers xs ≡ map (saying_of says heads) (range_with_len 0 (length xs))
all_by_number answers says heads xs e =
    let long : length xs ≡ length (sayings says heads) = sym (length-map xs answers) ∙ ap length e in
    e ∙ (sym (list_by_number silent [] (sayings says heads) 0 refl) ∙ ap (λ (n : ℕ). map (saying_of says heads) (range_with_len 0 n)) (sym long))

-- there are as many provers as there are places

block_long : (says : Says) (t p m : ℕ) → length (provers_from t p m) ≡ length (sayings_from says p m)
block_long says t p zero = refl
block_long says t p (suc m) = ap suc (block_long says t (p + 1) m)

pub as_many : {N M : Type 0} (says : M → Says) (t : ℕ) (heads : List (Opening N M)) → length (places_from t heads) ≡ length (sayings says heads)
as_many says t [] = refl
as_many says t (h ∷ hs) =
    length-append (provers_from t 1 h.setup.provers) (places_from (t + 1) hs)
    ∙ (ap₂ (λ (a b : ℕ). a + b) (block_long (says h.provers) t 1 h.setup.provers) (as_many says (t + 1) hs)
    ∙ sym (length-append (sayings_from (says h.provers) 1 h.setup.provers) (sayings says hs)))

-- one more prover of a task, and the provers of one more task

pub provers_more : (t p n : ℕ) → provers_from t p (n + 1) ≡ provers_from t p n ++ record { task = t; prover = p + n } ∷ []
provers_more t p zero =
    let one : zero + 1 ≡ suc zero = omega arith in
    ap (provers_from t p) one ∙ ap (λ (q : ℕ). record { task = t; prover = q } ∷ []) (omega arith)
provers_more t p (suc n) =
    let one : suc n + 1 ≡ suc (n + 1) = omega arith in
    let next : p + 1 + n ≡ p + suc n = omega arith in
    ap (provers_from t p) one
    ∙ (ap (λ (l : List Place). record { task = t; prover = p } ∷ l) (provers_more t (p + 1) n)
    ∙ ap (λ (q : ℕ). record { task = t; prover = p } ∷ (provers_from t (p + 1) n ++ record { task = t; prover = q } ∷ [])) next)

pub added_more : (xs ys zs : List Place) (t p : ℕ) → ys ≡ xs ++ provers_from t 1 p → zs ≡ ys ++ record { task = t; prover = p + 1 } ∷ [] → zs ≡ xs ++ provers_from t 1 (p + 1)
added_more xs ys zs t p so_far last =
    let swap : p + 1 ≡ 1 + p = omega arith in
    last ∙ (ap (λ (l : List Place). l ++ record { task = t; prover = p + 1 } ∷ []) so_far
    ∙ (append_assoc xs (provers_from t 1 p) (record { task = t; prover = p + 1 } ∷ [])
    ∙ (ap (λ (q : ℕ). xs ++ (provers_from t 1 p ++ record { task = t; prover = q } ∷ [])) swap ∙ ap (λ (l : List Place). xs ++ l) (sym (provers_more t 1 p)))))

long_provers : (t p m : ℕ) → length (provers_from t p m) ≡ m
long_provers t p zero = refl
long_provers t p (suc m) = ap suc (long_provers t (p + 1) m)

pub places_more : {N M : Type 0} (t : ℕ) (hs : List (Opening N M)) (h : Opening N M) → places_from t (hs ++ h ∷ []) ≡ places_from t hs ++ provers_from (t + length hs) 1 h.setup.provers
places_more t [] h =
    let same : t ≡ t + 0 = omega arith in
    ap (λ (u : ℕ). provers_from u 1 h.setup.provers ++ []) same ∙ append-nil (provers_from (t + 0) 1 h.setup.provers)
places_more t (x ∷ hs) h =
    let same : t + 1 + length hs ≡ t + suc (length hs) = omega arith in
    ap (λ (l : List Place). provers_from t 1 x.setup.provers ++ l) (places_more (t + 1) hs h ∙ ap (λ (u : ℕ). places_from (t + 1) hs ++ provers_from u 1 h.setup.provers) same)
    ∙ sym (append_assoc (provers_from t 1 x.setup.provers) (places_from (t + 1) hs) (provers_from (t + suc (length hs)) 1 h.setup.provers))

-- the provers of the next task

pub placed_more : {N M : Type 0} (hs : List (Opening N M)) (i m : ℕ) (h : Opening N M) (xs ys : List Place) → slice_get hs i ≡ Some h → xs ≡ places_from 1 (take i hs) → length xs ≤ 16 * i → m ≡ h.setup.provers → m ≤ 16 → ys ≡ xs ++ provers_from (i + 1) 1 m →
    (ys ≡ places_from 1 (take (i + 1) hs)) × (length ys ≤ 16 * (i + 1))
placed_more {N} {M} hs i m h xs ys there so_far few is small next =
    let within : i < length hs = slice_get_within hs i h there in
    let more : take (i + 1) hs ≡ take i hs ++ h ∷ [] = take_more hs i h within ∙ ap (λ (x : Opening N M). take i hs ++ x ∷ []) (get_or_from_slice_get hs i h h there) in
    let long : length (take i hs) ≡ i = length-take-le i hs (omega (arith, within)) in
    let place : 1 + length (take i hs) ≡ i + 1 = omega (arith, long) in
    let all : places_from 1 (take (i + 1) hs) ≡ places_from 1 (take i hs) ++ provers_from (i + 1) 1 m =
    ap (places_from 1) more ∙ (places_more 1 (take i hs) h ∙ ap₂ (λ (u n : ℕ). places_from 1 (take i hs) ++ provers_from u 1 n) place (sym is)) in
    let size : length ys ≡ length xs + m = ap length next ∙ (length-append xs (provers_from (i + 1) 1 m) ∙ ap (λ (n : ℕ). length xs + n) (long_provers (i + 1) 1 m)) in
    (next ∙ (ap (λ (l : List Place). l ++ provers_from (i + 1) 1 m) so_far ∙ sym all), omega (arith, size, few, small))

-- what the answerers of one task say

pub single_said : {A : Type 0} (answers : A → Saying) → SayInOrder answers → (says : Says) (m : ℕ) (xs : List A) → length xs ≡ m → AnswerAs answers says 1 xs → map answers xs ≡ sayings_from says 1 m ++ []
single_said answers law says m xs long a = law says 1 xs a ∙ (ap (sayings_from says 1) long ∙ sym (append-nil (sayings_from says 1 m)))

-- the opening of the next book

pub opening_of : {N M : Type 0} (ruling : N → Ruling) (says : M → Says) → NumbersAgree ruling says → (bs : List (BookOf N M)) (i : ℕ) (b : BookOf N M) → numbered bs (i + 1) ≡ Some b → slice_get (openings bs) i ≡ Some b.opening
opening_of ruling says law bs i b e =
    let place : i + 1 - 1 ≡ i = omega arith in
    ap (slice_get (openings bs)) (sym place)
    ∙ (sym (ap (λ (z : Bool). if z then None else slice_get (openings bs) (i + 1 - 1)) (ne_eqb (i + 1) 0 (λ z. absurd (omega (arith, z))))) ∙ law.book bs (i + 1) b e)

-- the entries of one task, after those that its book had

pub entries_more : AreToldApart → (after es : List Entry) (xs all : List (ℕ × Entry)) → all ≡ of_task 1 after → all ≡ of_task 1 es ++ xs → after ≡ es ++ entries_of 1 xs
entries_more law after es xs all is more =
    sym (law.own 1 after) ∙ (ap (entries_of 1) (sym is ∙ more) ∙ (law.joined 1 (of_task 1 es) xs ∙ ap (λ (l : List Entry). l ++ entries_of 1 xs) (law.own 1 es)))
