-- Playing out alone: the answerers of one task among those of all.
use Rattle.std.proofs.Common.{◌≡◌, ℕ, zero, suc, ◌+◌, ◌-◌, ◌<◌, ◌≤◌, List, [], ◌∷◌, ◌++◌, map, length, take, drop, Option, Some, refl, sym, ap, ap₂, ◌∙◌, subst, arith}
use Rattle.std.specs.Prelude.{slice_get}
use Rattle.std.proofs.lemmas.Option.{same_Some, none-some}
use Rattle.std.proofs.lemmas.List.{length-append, length-map, length-drop, take_at, drop_at, drop-drop, take-map, drop-map, map-append, take-append-drop}
use Rattle.rd_base.specs.declared.answer.Answer.{Answer}
use Rattle.bisect_game.specs.declared.settled.Question.{Question}
use Rattle.bisect_game.specs.Says.{Says, AnswerAs}
use Rattle.board_book.specs.declared.book.Opening.{Opening}
use Rattle.board_book.specs.Tasks.{sayings_from, sayings}

abbrev Saying : Type 0
Saying = Question → ℕ → Option Answer

pub long_block : (says : Says) (p m : ℕ) → length (sayings_from says p m) ≡ m
long_block says p zero = refl
long_block says p (suc m) = ap suc (long_block says (p + 1) m)

abbrev first_of : {B : Type 0} → B → List B → B
first_of d [] = d
first_of d (x ∷ xs) = x

pub said_in_order : {A : Type 0} (answers : A → Saying) (says : Says) (p : ℕ) (xs : List A) → AnswerAs answers says p xs → map answers xs ≡ sayings_from says p (length xs)
said_in_order answers says p [] a = refl
said_in_order answers says p (x ∷ xs) a = ap₂ (λ (f : Saying) (fs : List Saying). f ∷ fs) a.0 (said_in_order answers says (p + 1) xs a.1)

pub answer_in_order : {A : Type 0} (answers : A → Saying) (says : Says) (p m : ℕ) (xs : List A) → map answers xs ≡ sayings_from says p m → AnswerAs answers says p xs
answer_in_order answers says p m [] e = tt
answer_in_order answers says p zero (x ∷ xs) e = absurd (cc)
answer_in_order answers says p (suc m) (x ∷ xs) e = (ap (first_of (answers x)) e, answer_in_order answers says (p + 1) m xs (ap (drop 1) e))

module _ {N M : Type 0} (says : M → Says) where
  -- how many provers the first so many tasks have
  abbrev pub many_before : List (Opening N M) → ℕ → ℕ
  many_before hs i = length (sayings says (take i hs))

  -- the sayings of task i, from the place on where those of the tasks before it end
  pub record HasBlock (hs : List (Opening N M)) (i : ℕ) (h : Opening N M) : Type 0 where
    pub block : take h.setup.provers (drop (many_before hs i) (sayings says hs)) ≡ sayings_from (says h.provers) 1 h.setup.provers
    pub within : many_before hs i + h.setup.provers ≤ length (sayings says hs)
    pub next : many_before hs (suc i) ≡ many_before hs i + h.setup.provers

  pub block_at : (hs : List (Opening N M)) (i : ℕ) (h : Opening N M) → slice_get hs i ≡ Some h → HasBlock hs i h
  block_at [] i h e = absurd (none-some h e)
  block_at (x ∷ hs) zero h e =
      let same : x ≡ h = same_Some x h e in
      let long : length (sayings_from (says x.provers) 1 x.setup.provers) ≡ x.setup.provers = long_block (says x.provers) 1 x.setup.provers in
      let all : length (sayings says (x ∷ hs)) ≡ x.setup.provers + length (sayings says hs) = length-append (sayings_from (says x.provers) 1 x.setup.provers) (sayings says hs) ∙ ap (λ (n : ℕ). n + length (sayings says hs)) long in
      let one : length (sayings says (x ∷ [])) ≡ x.setup.provers + 0 = length-append (sayings_from (says x.provers) 1 x.setup.provers) [] ∙ ap (λ (n : ℕ). n + 0) long in
      subst (HasBlock (x ∷ hs) 0) same (record {
        block = take_at (sayings_from (says x.provers) 1 x.setup.provers) (sayings says hs) x.setup.provers long;
        within = omega (arith, all);
        next = one ∙ omega arith;
      })
  block_at (x ∷ hs) (suc i) h e =
      let rest : HasBlock hs i h = block_at hs i h e in
      let long : length (sayings_from (says x.provers) 1 x.setup.provers) ≡ x.setup.provers = long_block (says x.provers) 1 x.setup.provers in
      let all : length (sayings says (x ∷ hs)) ≡ x.setup.provers + length (sayings says hs) = length-append (sayings_from (says x.provers) 1 x.setup.provers) (sayings says hs) ∙ ap (λ (n : ℕ). n + length (sayings says hs)) long in
      let before : many_before (x ∷ hs) (suc i) ≡ x.setup.provers + many_before hs i = length-append (sayings_from (says x.provers) 1 x.setup.provers) (sayings says (take i hs)) ∙ ap (λ (n : ℕ). n + many_before hs i) long in
      let after : many_before (x ∷ hs) (suc (suc i)) ≡ x.setup.provers + many_before hs (suc i) = length-append (sayings_from (says x.provers) 1 x.setup.provers) (sayings says (take (suc i) hs)) ∙ ap (λ (n : ℕ). n + many_before hs (suc i)) long in
      let within : many_before hs i + h.setup.provers ≤ length (sayings says hs) = rest.within in
      let next : many_before hs (suc i) ≡ many_before hs i + h.setup.provers = rest.next in
      let past : drop (many_before (x ∷ hs) (suc i)) (sayings says (x ∷ hs)) ≡ drop (many_before hs i) (sayings says hs) =
      ap (λ (n : ℕ). drop n (sayings says (x ∷ hs))) before
      ∙ (sym (drop-drop (many_before hs i) x.setup.provers (sayings says (x ∷ hs)))
      ∙ ap (drop (many_before hs i)) (drop_at (sayings_from (says x.provers) 1 x.setup.provers) (sayings says hs) x.setup.provers long)) in
      record {
        block = ap (take h.setup.provers) past ∙ rest.block;
        within = omega (arith, all, before, within);
        next = omega (arith, before, after, next);
      }

-- the answerers of a task, cut out of those of all
pub cut_out : {A N M : Type 0} (answers : A → Saying) (says : M → Says) (hs : List (Opening N M)) (i : ℕ) (h : Opening N M) (xs : List A) (from : ℕ) → slice_get hs i ≡ Some h → map answers xs ≡ sayings says hs → from ≡ many_before says hs i →
    map answers (take h.setup.provers (drop from xs)) ≡ sayings_from (says h.provers) 1 h.setup.provers
cut_out answers says hs i h xs from e all is =
    let b : HasBlock says hs i h = block_at says hs i h e in
    sym (take-map answers h.setup.provers (drop from xs)) ∙ (ap (take h.setup.provers) (sym (drop-map answers from xs)) ∙ (ap₂ (λ (n : ℕ) (l : List Saying). take h.setup.provers (drop n l)) is all ∙ b.block))

-- the part of one task, as it was cut out
pub record IsPart {A N M : Type 0} (answers : A → Saying) (says : M → Says) (hs : List (Opening N M)) (i : ℕ) (h : Opening N M) (xs : List A) (from m : ℕ) : Type 0 where
  pub there : slice_get hs i ≡ Some h
  pub all : map answers xs ≡ sayings says hs
  pub start : from ≡ many_before says hs i
  pub many : m ≡ h.setup.provers

module _ {A N M : Type 0} (answers : A → Saying) (says : M → Says) (hs : List (Opening N M)) (i : ℕ) (h : Opening N M) (xs : List A) (from m : ℕ) (p : IsPart answers says hs i h xs from m) where
  within_all : from + m ≤ length xs
  within_all =
      let b : HasBlock says hs i h = block_at says hs i h p.there in
      let high : many_before says hs i + h.setup.provers ≤ length (sayings says hs) = b.within in
      let long : length xs ≡ length (sayings says hs) = sym (length-map xs answers) ∙ ap length p.all in
      let start : from ≡ many_before says hs i = p.start in let many : m ≡ h.setup.provers = p.many in
      omega (arith, high, long, start, many)

  pub from_within : from ≤ length xs
  from_within = let w : from + m ≤ length xs = within_all in omega (arith, w)

  pub own_within : (rest : List A) → rest ≡ drop from xs → m ≤ length rest
  own_within rest is = let w : from + m ≤ length xs = within_all in let long : length rest ≡ length xs - from = ap length is ∙ length-drop from xs in omega (arith, w, long)

  own_says : (rest own : List A) → rest ≡ drop from xs → own ≡ take m rest → map answers own ≡ sayings_from (says h.provers) 1 m
  own_says rest own is cut =
      ap (map answers) (cut ∙ ap₂ (λ (n : ℕ) (l : List A). take n l) p.many is) ∙ (cut_out answers says hs i h xs from p.there p.all p.start ∙ ap (sayings_from (says h.provers) 1) (sym p.many))

  pub own_answers : (rest own : List A) → rest ≡ drop from xs → own ≡ take m rest → AnswerAs answers (says h.provers) 1 own
  own_answers rest own is cut = answer_in_order answers (says h.provers) 1 m own (own_says rest own is cut)

  pub part_kept : (front rest own back new : List A) → front ≡ take from xs → rest ≡ drop from xs → own ≡ take m rest → back ≡ drop m rest → length new ≡ length own → AnswerAs answers (says h.provers) 1 new → map answers (front ++ (new ++ back)) ≡ map answers xs
  part_kept front rest own back new first is cut last long said =
      let size : length own ≡ m = sym (length-map own answers) ∙ (ap length (own_says rest own is cut) ∙ long_block (says h.provers) 1 m) in
      let same : map answers new ≡ map answers own = said_in_order answers (says h.provers) 1 new said ∙ (ap (sayings_from (says h.provers) 1) (long ∙ size) ∙ sym (own_says rest own is cut)) in
      let whole : front ++ (own ++ back) ≡ xs = ap₂ (λ (a b : List A). a ++ b) first (ap₂ (λ (a b : List A). a ++ b) cut last ∙ (take-append-drop m rest ∙ is)) ∙ take-append-drop from xs in
      map-append answers front (new ++ back) ∙ (ap (λ (l : List Saying). map answers front ++ l) (map-append answers new back ∙ (ap (λ (l : List Saying). l ++ map answers back) same ∙ sym (map-append answers own back)))
      ∙ (sym (map-append answers front (own ++ back)) ∙ ap (map answers) whole))

  pub next_part : (t : ℕ) → 0 < t → i ≡ t - 1 → from + m ≡ length (sayings says (take t hs))
  next_part t some at =
      let b : HasBlock says hs i h = block_at says hs i h p.there in
      let here : suc i ≡ t = omega (arith, some, at) in
      ap₂ (λ (a b : ℕ). a + b) p.start p.many ∙ (sym b.next ∙ ap (λ (n : ℕ). length (sayings says (take n hs))) here)
