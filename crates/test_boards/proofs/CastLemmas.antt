-- Tasks of players: their books, and what their answerers say.
use Rattle.std.proofs.Common.{◌≡◌, ℕ, zero, suc, ◌+◌, ◌-◌, ◌<◌, ◌≤◌, List, [], ◌∷◌, ◌++◌, map, length, take, get_or, Option, refl, sym, ap, ap₂, ◌∙◌, subst, arith, append_assoc}
use Rattle.std.specs.List.{All}
use Rattle.std.proofs.lemmas.List.{map-append, length-map, take_more, take_all, append-nil}
use Rattle.std.proofs.lemmas.List.Elements.{All-nil, All-cons}
use Rattle.rd_base.specs.declared.answer.Answer.{Answer}
use Rattle.bisect_game.specs.declared.settled.Question.{Question}
use Rattle.bisect_game.specs.Says.{Says, AnswerAs}
use Rattle.board_book.specs.declared.book.Opening.{Opening}
use Rattle.board_book.specs.Tasks.{BookOf, openings, sayings, sayings_from}
use Rattle.toy_game.specs.declared.cast.Cast.{Cast}
use Rattle.toy_game.specs.declared.player.Player.{Player}
use Rattle.toy_game.specs.Toy.{nobody, answers, says_of}
use Rattle.test_boards.specs.Casts.{opening_of, book_of, AreCounted}

-- one more of what a function makes of a list
pub map_more : {A B : Type 0} (f : A → B) (zs : List A) (i : ℕ) (d : A) (xs ys : List B) (b : B) → i < length zs → xs ≡ map f (take i zs) → ys ≡ xs ++ b ∷ [] → b ≡ f (get_or zs i d) → ys ≡ map f (take (i + 1) zs)
map_more {A} {B} f zs i d xs ys b within so_far more is =
    more ∙ (ap₂ (λ (l : List B) (x : B). l ++ x ∷ []) so_far is ∙ (sym (map-append f (take i zs) (get_or zs i d ∷ [])) ∙ ap (map f) (sym (take_more zs i d within))))

pub openings_of : (casts : List Cast) → openings (map book_of casts) ≡ map opening_of casts
openings_of [] = refl
openings_of (c ∷ cs) = ap (λ (l : List (Opening ℕ Cast)). opening_of c ∷ l) (openings_of cs)

pub all_empty : (casts : List Cast) → All (λ (b : BookOf ℕ Cast). b.journal ≡ []) (map book_of casts)
all_empty [] = All-nil (λ (b : BookOf ℕ Cast). b.journal ≡ [])
all_empty (c ∷ cs) = All-cons (λ (b : BookOf ℕ Cast). b.journal ≡ []) (book_of c) (map book_of cs) refl (all_empty cs)

-- one more prover of a task, and one more task

pub said_more : (says : Says) (p n : ℕ) → sayings_from says p (n + 1) ≡ sayings_from says p n ++ says (p + n) ∷ []
said_more says p zero =
    let one : zero + 1 ≡ suc zero = omega arith in
    ap (sayings_from says p) one ∙ ap (λ (q : ℕ). says q ∷ []) (omega arith)
said_more says p (suc n) =
    let one : suc n + 1 ≡ suc (n + 1) = omega arith in
    let next : p + 1 + n ≡ p + suc n = omega arith in
    ap (sayings_from says p) one ∙ (ap (λ (l : List (Question → ℕ → Option Answer)). says p ∷ l) (said_more says (p + 1) n) ∙ ap (λ (q : ℕ). says p ∷ (sayings_from says (p + 1) n ++ says q ∷ [])) next)

pub said_by_more : {N M : Type 0} (says : M → Says) (hs : List (Opening N M)) (h : Opening N M) → sayings says (hs ++ h ∷ []) ≡ sayings says hs ++ sayings_from (says h.provers) 1 h.setup.provers
said_by_more says [] h = append-nil (sayings_from (says h.provers) 1 h.setup.provers)
said_by_more says (x ∷ hs) h =
    ap (λ (l : List (Question → ℕ → Option Answer)). sayings_from (says x.provers) 1 x.setup.provers ++ l) (said_by_more says hs h)
    ∙ sym (append_assoc (sayings_from (says x.provers) 1 x.setup.provers) (sayings says hs) (sayings_from (says h.provers) 1 h.setup.provers))

pub seats_more : {A : Type 0} (f : A → Question → ℕ → Option Answer) (says : Says) (start xs ys : List A) (a : A) (n : ℕ) → map f xs ≡ map f start ++ sayings_from says 1 n → ys ≡ xs ++ a ∷ [] → f a ≡ says (1 + n) → map f ys ≡ map f start ++ sayings_from says 1 (n + 1)
seats_more f says start xs ys a n so_far more is =
    ap (map f) more ∙ (map-append f xs (a ∷ []) ∙ (ap₂ (λ (l : List (Question → ℕ → Option Answer)) (x : Question → ℕ → Option Answer). l ++ x ∷ []) so_far is
    ∙ (append_assoc (map f start) (sayings_from says 1 n) (says (1 + n) ∷ []) ∙ ap (λ (l : List (Question → ℕ → Option Answer)). map f start ++ l) (sym (said_more says 1 n)))))

pub said_next : (says : Cast → Says) (casts : List Cast) (i : ℕ) (d : Cast) (said next : List (Question → ℕ → Option Answer)) → i < length casts → said ≡ sayings says (map opening_of (take i casts)) → next ≡ said ++ sayings_from (says (get_or casts i d)) 1 (get_or casts i d).count →
    next ≡ sayings says (map opening_of (take (i + 1) casts))
said_next says casts i d said next within so_far more =
    let c : Cast = get_or casts i d in
    more ∙ (ap (λ (l : List (Question → ℕ → Option Answer)). l ++ sayings_from (says c) 1 c.count) so_far
    ∙ (sym (said_by_more says (map opening_of (take i casts)) (opening_of c)) ∙ ap (sayings says) (sym (map-append opening_of (take i casts) (c ∷ [])) ∙ ap (map opening_of) (sym (take_more casts i d within)))))

pub count_at : (casts : List Cast) (i : ℕ) (d : Cast) → AreCounted casts → i < length casts → (0 < (get_or casts i d).count) × ((get_or casts i d).count ≤ 16)
count_at [] i d all within = absurd (omega (arith, within))
count_at (x ∷ xs) zero d all within = (all.0, all.1)
count_at (x ∷ xs) (suc i) d all within = count_at xs i d all.2 (omega (arith, within))

-- the books of all casts

whole : (casts : List Cast) (i : ℕ) (books : List (BookOf ℕ Cast)) → length casts ≤ i → books ≡ map book_of (take i casts) → books ≡ map book_of casts
whole casts i books end is = is ∙ ap (map book_of) (take_all i casts end)

pub long_as : (casts : List Cast) (i : ℕ) (books : List (BookOf ℕ Cast)) → length casts ≤ i → books ≡ map book_of (take i casts) → length books ≡ length casts
long_as casts i books end is = ap length (whole casts i books end is) ∙ length-map casts book_of

pub empty_books : (casts : List Cast) (i : ℕ) (books : List (BookOf ℕ Cast)) → length casts ≤ i → books ≡ map book_of (take i casts) → All (λ (b : BookOf ℕ Cast). b.journal ≡ []) books
empty_books casts i books end is = subst (All (λ (b : BookOf ℕ Cast). b.journal ≡ [])) (sym (whole casts i books end is)) (all_empty casts)

pub opened_books : (casts : List Cast) (i : ℕ) (books : List (BookOf ℕ Cast)) → length casts ≤ i → books ≡ map book_of (take i casts) → openings books ≡ map opening_of casts
opened_books casts i books end is = ap openings (whole casts i books end is) ∙ openings_of casts

-- what a player says, by its number
pub player_said : (players : List Player) (i : ℕ) → answers (get_or players i nobody) ≡ says_of players (1 + i)
player_said players i =
    let place : i ≡ 1 + i - 1 = omega arith in
    ap (λ (n : ℕ). answers (get_or players n nobody)) place

-- who says in order what the provers of a task say answers as these
pub answer_as : {A : Type 0} (answers : A → Question → ℕ → Option Answer) (says : Says) (p n : ℕ) (xs : List A) → map answers xs ≡ sayings_from says p n → (length xs ≡ n) × AnswerAs answers says p xs
answer_as answers says p zero [] e = (refl, tt)
answer_as answers says p zero (x ∷ xs) e = absurd (cc)
answer_as answers says p (suc n) [] e = absurd (cc)
answer_as answers says p (suc n) (x ∷ xs) e =
    let first : answers x ≡ says p = cc in
    let others : map answers xs ≡ sayings_from says (p + 1) n = cc in
    let rest : (length xs ≡ n) × AnswerAs answers says (p + 1) xs = answer_as answers says (p + 1) n xs others in
    (ap suc rest.0, (first, rest.1))

-- the same of the answerers of one task alone
pub alone_as : {A : Type 0} (answers : A → Question → ℕ → Option Answer) (says : Says) (n : ℕ) (xs : List A) → map answers xs ≡ sayings_from says 1 n ++ [] → (length xs ≡ n) × AnswerAs answers says 1 xs
alone_as answers says n xs e = answer_as answers says 1 n xs (e ∙ append-nil (sayings_from says 1 n))
