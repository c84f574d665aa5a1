-- A listing is assembled to its words.
use Rattle.std.proofs.Common.{◌≡◌, ℕ, ◌+◌, ◌^◌, ◌<◌, ◌↔◌, List, [], ◌∷◌, refl, ap, ◌∙◌, sym, subst, Some, None, Ok}
use Rattle.std.specs.List.{AllByRecursion}
use Rattle.rd_base.specs.Results.{◌>>=◌}
use Rattle.rv_decode.specs.Word.{word_of}
use Rattle.rv_decode.specs.Reading.{reading_of}
use Rattle.rv_decode.specs.declared.instr.Instr.{Instr}
use Rattle.rv_text.specs.Characters.{source_lines}
use Rattle.rv_text.specs.Spelling.{Spelling, spelling_of, spelling_in, raw}
use Rattle.rv_text.specs.Listing.{line_of, listing, spelling_text}
use Rattle.rv_text.specs.Lines.{code_in, label_in, word_in}
use Rattle.rv_text.specs.Assembly.{Names, no_names, near, distances_from, pass, after_line, with_label, place_after, first_pass, second_pass, assembled}
use Rattle.rv_text.proofs.read_back.SpellingLemmas.{IsSpelled, spellings, raw-law}
use Rattle.rv_text.proofs.read_back.LineLemmas.{line-read, line-unlabelled, lines-first, spelling-plain}
use Rattle.std.specs.Option.{option_map_or}

-- the decoder's law: the reading of a word is the one instruction that has it
abbrev pub OneReading : Type 0
OneReading = (word : ℕ) → word < 2 ^ 32 → (i : Instr) → (reading_of word ≡ Some i) ↔ (word_of i ≡ word)

word-spelled : OneReading → (w : ℕ) → w < 2 ^ 32 → IsSpelled (spelling_in w) w
word-spelled law w h = elim (reading_of w) as (λ o. reading_of w ≡ o → IsSpelled (option_map_or spelling_of o (raw w)) w) [
  | None ↦ λ e. raw-law w h
  | Some i ↦ λ e. let same = (law w h i).0 e in subst (λ n. IsSpelled (spelling_of i) n) same (spellings i (subst (λ n. n < 2 ^ 32) (sym same) h))
] refl

abbrev pub AreWords : List ℕ → Type 0
AreWords ws = AllByRecursion (λ w. w < 2 ^ 32) ws

-- the place behind so many words
abbrev place_behind : ℕ → List ℕ → ℕ
place_behind place [] = place
place_behind place (w ∷ ws) = place_behind (place + 4) ws

line-passed : (s : Spelling) (w : ℕ) → IsSpelled s w → (names : Names) (place : ℕ) → after_line (pass names place) (spelling_text s) ≡ Ok (pass names (place + 4))
line-passed s w is names place =
    ap (λ r. r >>= λ w. with_label names (label_in (code_in (spelling_text s))) place >>= λ names. Ok (pass names (place_after place w))) (line-read s w is near)
    ∙ ap (λ l. with_label names l place >>= λ names. Ok (pass names (place + 4))) (line-unlabelled s w is)

first-pass_listing : OneReading → (n : ℕ) (names : Names) (place : ℕ) (ws : List ℕ) → AreWords ws → first_pass n (pass names place) (source_lines (listing ws)) ≡ Ok (pass names (place_behind place ws))
unfolding word_in
first-pass_listing law n names place [] h = refl
first-pass_listing law n names place (w ∷ ws) h =
    let is = word-spelled law w h.0 in
    ap (first_pass n (pass names place)) (lines-first (line_of w) (listing ws) (spelling-plain (spelling_in w) w is))
    ∙ rw (line-passed (spelling_in w) w is names place) (first-pass_listing law (n + 1) names (place + 4) ws h.1)

second-pass_listing : OneReading → (n : ℕ) (names : Names) (place : ℕ) (ws : List ℕ) → AreWords ws → second_pass n names place (source_lines (listing ws)) ≡ Ok ws
unfolding word_in
second-pass_listing law n names place [] h = refl
second-pass_listing law n names place (w ∷ ws) h =
    let is = word-spelled law w h.0 in
    ap (second_pass n names place) (lines-first (line_of w) (listing ws) (spelling-plain (spelling_in w) w is))
    ∙ rw (line-read (spelling_in w) w is (distances_from names place), second-pass_listing law (n + 1) names (place + 4) ws h.1) refl

pub assembled-listing : OneReading → (ws : List ℕ) → AreWords ws → assembled (listing ws) ≡ Ok ws
unfolding assembled
assembled-listing law ws h = rw (first-pass_listing law 1 no_names 0 ws h) (second-pass_listing law 1 no_names 0 ws h)
