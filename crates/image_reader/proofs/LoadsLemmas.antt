-- What memory has where loads are laid, and the loads among program headers one step on.
use Rattle.std.proofs.Common.{◌≡◌, ◌≢◌, ℕ, suc, ◌+◌, ◌*◌, ◌-◌, ◌<◌, ◌≤◌, ◌^◌, List, [], ◌∷◌, ◌++◌, length, drop, get_or, slice_index, cond, Bool, true, false, refl, sym, ap, ◌∙◌, ⊎_elim, arith, append_assoc, length-drop}
use Rattle.std.proofs.lemmas.Bool.{cases_Bool, false≢true, eq-eqb, ne_eqb}
use Rattle.std.proofs.lemmas.Bool.Decides.{nat_tests}
use Rattle.std.proofs.lemmas.List.{get_or-take, get_or-drop, append-nil, length-take, drop_more}
use Rattle.std.proofs.lemmas.List.Folds.{list_any_at}
use Rattle.std.specs.List.{list_any}
use Rattle.mem_plain.specs.Contents.{Contents, laid, is_among, contents_with}
use Rattle.image_reader.specs.declared.header.ProgramHeader.{ProgramHeader}
use Rattle.image_reader.specs.Elf.{program_header_at, loads_from, is_outside_file, has_larger_file, is_past_end, part_of, covers, byte_of_load, byte_of_loads}

-- the bytes of f, but from a on these
abbrev over : (ℕ → ℕ) → ℕ → List ℕ → ℕ → ℕ
over f a bytes q = cond (is_among a (length bytes) q) (slice_index bytes (q - a)) (f q)

-- what memory says of contents that are made of a function
abbrev pub Alike : Type 0
Alike = (f g : ℕ → ℕ) → ((q : ℕ) → q < 2 ^ 32 → f q ≡ g q) → contents_with f ≡ contents_with g

abbrev pub LaidOver : Type 0
LaidOver = (f : ℕ → ℕ) (a : ℕ) (bytes : List ℕ) → a + length bytes ≤ 2 ^ 32 → laid (contents_with f) a bytes ≡ contents_with (over f a bytes)

-- a part of the file that isn't outside has its length
length-part_of : (file : List ℕ) (load : ProgramHeader) → is_outside_file (length file) load ≡ false → length (part_of file load) ≡ load.p_filesz
length-part_of file load inside = grind (arith, nat_tests, length-take {A = ℕ}, length-drop {A = ℕ})

part_over : (file : List ℕ) (load : ProgramHeader) (f : ℕ → ℕ) (q : ℕ) → is_outside_file (length file) load ≡ false
    → over f load.p_vaddr (part_of file load) q ≡ cond (covers load q) (byte_of_load file load q) (f q)
part_over file load f q inside = rw (length-part_of file load inside) (chosen (covers load q) refl)
  where
    chosen : (t : Bool) → covers load q ≡ t → cond t (slice_index (part_of file load) (q - load.p_vaddr)) (f q) ≡ cond t (byte_of_load file load q) (f q)
    chosen true is =
        let within : q - load.p_vaddr < load.p_filesz = grind (arith, nat_tests) in
        get_or-take load.p_filesz (drop load.p_offset file) (q - load.p_vaddr) 0 within ∙ get_or-drop load.p_offset file (q - load.p_vaddr) 0
    chosen false is = refl

-- a load that is laid over others has the last word
laid_load : Alike → LaidOver → (file : List ℕ) (load : ProgramHeader) (loads : List ProgramHeader) → is_outside_file (length file) load ≡ false → has_larger_file load ≡ false → is_past_end load ≡ false
    → laid (contents_with (byte_of_loads file loads)) load.p_vaddr (part_of file load) ≡ contents_with (byte_of_loads file (load ∷ loads))
laid_load alike laid_over file load loads inside smaller before_end =
    laid_over (byte_of_loads file loads) load.p_vaddr (part_of file load) fits
    ∙ alike _ _ (λ q _. part_over file load (byte_of_loads file loads) q inside)
  where
    fits : load.p_vaddr + length (part_of file load) ≤ 2 ^ 32
    fits = let part = length-part_of file load inside in grind (arith, nat_tests)

-- what none of a list's elements passes, one of them doesn't
pub none_at : {X : Type 0} (p : X → Bool) (xs : List X) (i : ℕ) (d : X) → i < length xs → list_any p xs ≡ false → p (get_or xs i d) ≡ false
none_at p xs i d within none = ⊎_elim (λ yes. absurd (false≢true (sym none ∙ list_any_at p xs i d within yes))) (λ no. no) (cases_Bool (p (get_or xs i d)))

-- one more load is laid, going down
pub laid_down : Alike → LaidOver → (file : List ℕ) (loads : List ProgramHeader) (k : ℕ) (d : ProgramHeader) (m : Contents) → 0 < k → k ≤ length loads
    → list_any (is_outside_file (length file)) loads ≡ false → list_any has_larger_file loads ≡ false → list_any is_past_end loads ≡ false
    → m ≡ contents_with (byte_of_loads file (drop k loads))
    → laid m (get_or loads (k - 1) d).p_vaddr (part_of file (get_or loads (k - 1) d)) ≡ contents_with (byte_of_loads file (drop (k - 1) loads))
laid_down alike laid_over file loads k d m some within inside smaller before_end is =
    let below : k - 1 < length loads = omega arith in
    let next : k - 1 + 1 ≡ k = omega arith in
    let load = get_or loads (k - 1) d in
    ap (λ m. laid m load.p_vaddr (part_of file load)) is
    ∙ (laid_load alike laid_over file load (drop k loads) (none_at _ loads (k - 1) d below inside) (none_at _ loads (k - 1) d below smaller) (none_at _ loads (k - 1) d below before_end)
    ∙ ap (λ rest. contents_with (byte_of_loads file rest)) (ap (λ j. load ∷ drop j loads) (sym next) ∙ sym (drop_more loads (k - 1) d below)))

-- the next header is a load
pub loads_from-load : (file : List ℕ) (offset k count : ℕ) (front : List ProgramHeader) (header : ProgramHeader) → k < count → header ≡ program_header_at file (offset + 32 * k) → header.p_type ≡ 1
    → (front ++ header ∷ []) ++ loads_from file (offset + 32 * (k + 1)) (count - (k + 1)) ≡ front ++ loads_from file (offset + 32 * k) (count - k)
unfolding loads_from
loads_from-load file offset k count front header below is load =
    let next : count - k ≡ suc (count - (k + 1)) = omega arith in
    let moved : offset + 32 * (k + 1) ≡ offset + 32 * k + 32 = omega arith in
    rw (next, moved, ← is, eq-eqb header.p_type 1 load) (append_assoc front (header ∷ []) _)

-- the next header isn't a load
pub loads_from-other : (file : List ℕ) (offset k count : ℕ) (header : ProgramHeader) → k < count → header ≡ program_header_at file (offset + 32 * k) → header.p_type ≢ 1
    → loads_from file (offset + 32 * (k + 1)) (count - (k + 1)) ≡ loads_from file (offset + 32 * k) (count - k)
unfolding loads_from
loads_from-other file offset k count header below is other =
    let next : count - k ≡ suc (count - (k + 1)) = omega arith in
    let moved : offset + 32 * (k + 1) ≡ offset + 32 * k + 32 = omega arith in
    rw (next, moved, ← is, ne_eqb header.p_type 1 other) refl

-- no header is left
pub loads_from-all : (file : List ℕ) (offset k count : ℕ) (front : List ProgramHeader) → count ≤ k → front ++ loads_from file offset (count - k) ≡ front
unfolding loads_from
loads_from-all file offset k count front all = let none : count - k ≡ 0 = omega arith in rw none (append-nil front)
