-- Numbers in the order of their classes.
use Rattle.std.proofs.Common.{◌≡◌, ◌≢◌, ℕ, ◌+◌, ◌-◌, ◌%◌, ◌<◌, ◌≤◌, List, length, get_or, refl, sym, ap, ◌∙◌, subst, arith, All, take, drop, mod-lt}
use Rattle.std.specs.List.{swap}
use Rattle.std.proofs.lemmas.List.{get_or-take, get_or-drop, get_or_default}
use Rattle.std.proofs.lemmas.List.Edits.{length-swap, swapped_from_swap}
use native.Mathlib.Decide.{dec_le, ℕ_discrete}
use mathlib.Core.Logic.{dite}
use Rattle.posters.specs.Classes.{HaveClasses}
use Rattle.posters.specs.ByClass.{IsByClass, Suits}
use Rattle.posters.specs.Arranging.{IsArranging}

-- a number that was read
pub number_here : (ns : List ℕ) (i n : ℕ) → i < length ns → n ≡ get_or ns i n → n ≡ get_or ns i 0
number_here ns i n below is = is ∙ get_or_default ns i n 0 below

pub class_here : (ns : List ℕ) (i n classes class : ℕ) → i < length ns → n ≡ get_or ns i n → n % classes ≡ class → get_or ns i 0 % classes ≡ class
class_here ns i n classes class below is e = ap (λ k. k % classes) (sym (number_here ns i n below is)) ∙ e

module _ (classes : ℕ) where
  -- what holds of the classes from one place on still holds after a swap of two of these places
  all_from-swap : (P : ℕ → Type 0) (p i : ℕ) (ns : List ℕ) → p ≤ i → i < length ns → ((j : ℕ) → p ≤ j → j < length ns → P (get_or ns j 0)) → (j : ℕ) → p ≤ j → j < length ns → P (get_or (swap ns p i) j 0)
  all_from-swap P p i ns le below all j from here = let s = swapped_from_swap ns (swap ns p i) p i 0 (omega arith) below refl in dite (ℕ_discrete j p)
      (λ e. subst P (sym (ap (λ k. get_or (swap ns p i) k 0) e ∙ s.0)) (all i le below))
      (λ a. dite (ℕ_discrete j i)
      (λ e. subst P (sym (ap (λ k. get_or (swap ns p i) k 0) e ∙ s.1)) (all p (omega arith) (omega arith)))
      (λ b. subst P (sym (s.2 j a b)) (all j from here)))

  -- a number of the class was found at place i and changes places with the one behind the front
  pub arranging-swap : (class p p' i : ℕ) (ns : List ℕ) → p' ≡ p + 1 → p ≤ i → i < length ns → get_or ns i 0 % classes ≡ class → IsArranging classes class p i ns → IsArranging classes class p' (i + 1) (swap ns p i)
  arranging-swap class p p' i ns next le below is r =
      let s = swapped_from_swap ns (swap ns p i) p i 0 (omega arith) below refl in
      let len = length-swap ns p i in
      let after : (j : ℕ) → p ≤ j → j < length ns → class ≤ get_or (swap ns p i) j 0 % classes = all_from-swap (λ n. class ≤ n % classes) p i ns le below r.others in
      let behind : (a : ℕ) → a < p → (b : ℕ) → p ≤ b → b < length ns → get_or ns a 0 % classes ≤ get_or (swap ns p i) b 0 % classes =
      λ a in_front. all_from-swap (λ n. get_or ns a 0 % classes ≤ n % classes) p i ns le below (λ j from here. r.front a j in_front (omega arith) here) in
      let before : (a : ℕ) → a < p → get_or (swap ns p i) a 0 ≡ get_or ns a 0 = λ a in_front. s.2 a (λ e. absurd (omega arith)) (λ e. absurd (omega arith)) in record {
        front = λ a b in_front ab here. dite (ℕ_discrete a p)
            (λ e. subst (λ k. k ≤ get_or (swap ns p i) b 0 % classes) (sym (ap (λ k. get_or (swap ns p i) k 0 % classes) e ∙ ap (λ n. n % classes) s.0 ∙ is)) (after b (omega arith) (omega (arith, len))))
            (λ other. let a_front : a < p = omega arith in subst (λ n. n % classes ≤ get_or (swap ns p i) b 0 % classes) (sym (before a a_front)) (dite (dec_le p b)
            (λ beyond. behind a a_front b beyond (omega (arith, len)))
            (λ within. let b_front : b < p = omega arith in subst (λ n. get_or ns a 0 % classes ≤ n % classes) (sym (before b b_front)) (r.front a b a_front ab (omega (arith, len))))));
        others = λ j from here. after j (omega arith) (omega (arith, len));
        passed = λ j from earlier. dite (ℕ_discrete j i)
            (λ e. subst (λ n. class < n % classes) (sym (ap (λ k. get_or (swap ns p i) k 0) e ∙ s.1)) (r.passed p (omega arith) (omega arith)))
            (λ other. subst (λ n. class < n % classes) (sym (s.2 j (λ e. absurd (omega arith)) other)) (r.passed j (omega arith) (omega arith)));
      }

  -- a number of another class is passed
  pub arranging-pass : (class p i : ℕ) (ns : List ℕ) → i < length ns → get_or ns i 0 % classes ≢ class → IsArranging classes class p i ns → IsArranging classes class p (i + 1) ns
  arranging-pass class p i ns below other r = record {
    front = r.front;
    others = r.others;
    passed = λ j from before. dite (ℕ_discrete j i)
        (λ e. subst (λ k. class < get_or ns k 0 % classes) (sym e) (let le = r.others i (omega arith) below in omega arith))
        (λ a. r.passed j from (omega arith));
  }

  pub arranging-pass-as : (class p p' i : ℕ) (ns ns' : List ℕ) → p' ≡ p → ns' ≡ ns → i < length ns → get_or ns i 0 % classes ≢ class → IsArranging classes class p i ns → IsArranging classes class p' (i + 1) ns'
  arranging-pass-as class p p' i ns ns' same same' below other r = subst (λ (l : List ℕ). IsArranging classes class p' (i + 1) l) (sym same') (subst (λ (q : ℕ). IsArranging classes class q (i + 1) ns) (sym same) (arranging-pass class p i ns below other r))

module _ {X : Type 0} (P : X → Type 0) where
  pub All-take : (n : ℕ) (xs ys : List X) → ys ≡ take n xs → length ys ≡ n → n ≤ length xs → All P xs → All P ys
  All-take n xs ys is long le all k d below = subst P (sym (ap (λ l. get_or l k d) is ∙ get_or-take n xs k d (omega arith))) (all k d (omega arith))

  pub All-drop : (n : ℕ) (xs ys : List X) → ys ≡ drop n xs → length ys + n ≡ length xs → All P xs → All P ys
  All-drop n xs ys is long all k d below = subst P (sym (ap (λ l. get_or l k d) is ∙ get_or-drop n xs k d)) (all (n + k) d (omega arith))

-- a number of a block is that of its place
block_at : (from long : ℕ) (ns block : List ℕ) (j : ℕ) → block ≡ take long (drop from ns) → j < long → get_or block j 0 ≡ get_or ns (from + j) 0
block_at from long ns block j is below = ap (λ l. get_or l j 0) is ∙ get_or-take long (drop from ns) j 0 below ∙ get_or-drop from ns j 0

module _ {W : Type 0} (class : W → ℕ) (classes : ℕ) (ns : List ℕ) where
  -- one server is suited to what is of its class alone
  pub suits-one : (from long : ℕ) (servers : List W) (block : List ℕ) → Suits class classes ns from long servers → length servers < 2 → block ≡ take long (drop from ns) → length block ≡ long
      → All (λ w. All (λ n. n % classes ≡ class w) block) servers
  suits-one from long servers block s few is len i d below j e within =
      let here : get_or block j e ≡ get_or ns (from + j) 0 = get_or_default block j e 0 within ∙ block_at from long ns block j is (omega arith) in
      let own = s.servers_classes i d below in
      let least = s.least (from + j) (omega arith) (omega arith) in
      let most = s.most (from + j) (omega arith) (omega arith) in
      ap (λ n. n % classes) here ∙ (let g : get_or ns (from + j) 0 % classes ≡ class (get_or servers i d) = omega arith in g)

  -- the first half of the servers is suited to the numbers below the class of the one in the middle
  pub suits-near : (from long half place middle : ℕ) (servers left : List W) (block : List ℕ) (d : W) → Suits class classes ns from long servers → left ≡ take half servers → length left ≡ half → half < length servers
      → block ≡ take long (drop from ns) → place ≤ long → middle ≡ class (get_or servers half d) → ((j : ℕ) → j < place → get_or block j 0 % classes < middle) → (near : ℕ) → near ≡ place → Suits class classes ns from near left
  suits-near from long half place middle servers left block d s is len le block_is within mid lower near near_is = record {
    first = s.first;
    by_class = s.by_class;
    servers_classes = λ i e below. ap class (ap (λ l. get_or l i e) is ∙ get_or-take half servers i e (omega arith)) ∙ s.servers_classes i e (omega arith);
    least = λ j at before. s.least j at (omega arith);
    most = λ j at before.
        let k : ℕ = j - from in
        let here : get_or block k 0 ≡ get_or ns (from + k) 0 = block_at from long ns block k block_is (omega arith) in
        let low : get_or ns (from + k) 0 % classes < middle = subst (λ n. n % classes < middle) here (lower k (omega arith)) in
        let there : from + k ≡ j = omega arith in
        let own = s.servers_classes half d le in
        subst (λ n. get_or ns n 0 % classes < s.first + length left) there (omega arith);
  }

  -- and the second half to the others
  pub suits-far : (from long half place middle : ℕ) (servers right : List W) (block : List ℕ) (d : W) → Suits class classes ns from long servers → right ≡ drop half servers → length right + half ≡ length servers → half < length servers
      → block ≡ take long (drop from ns) → length block ≡ long → from + long ≤ length ns → middle ≡ class (get_or servers half d) → (place < length block → middle ≤ get_or block place 0 % classes) → (next far : ℕ) → next ≡ from + place → far + place ≡ long → Suits class classes ns next far right
  suits-far from long half place middle servers right block d s is len le block_is block_long within mid upper next far next_is far_is = record {
    first = s.first + half;
    by_class = s.by_class;
    servers_classes = λ i e below. ap class (ap (λ l. get_or l i e) is ∙ get_or-drop half servers i e) ∙ s.servers_classes (half + i) e (omega arith) ∙ (let g : s.first + (half + i) ≡ s.first + half + i = omega arith in g);
    least = λ j at before.
        let here : get_or block place 0 ≡ get_or ns (from + place) 0 = block_at from long ns block place block_is (omega arith) in
        let high : middle ≤ get_or ns (from + place) 0 % classes = subst (λ n. middle ≤ n % classes) here (upper (omega arith)) in
        let order : get_or ns (from + place) 0 % classes ≤ get_or ns j 0 % classes = s.by_class (from + place) j (omega arith) (omega arith) in
        let own = s.servers_classes half d le in omega arith;
    most = λ j at before. let m = s.most j (omega arith) (omega arith) in omega arith;
  }

  -- at first: all servers and all numbers
  pub suits-all : (long : ℕ) (servers : List W) → 0 < classes → classes ≡ length servers → IsByClass classes ns → HaveClasses class 0 servers → Suits class classes ns 0 long servers
  suits-all long servers some count by_class have = record {
    first = 0;
    by_class = by_class;
    servers_classes = have;
    least = λ j at before. omega arith;
    most = λ j at before. let m = mod-lt (get_or ns j 0) some in omega arith;
  }
