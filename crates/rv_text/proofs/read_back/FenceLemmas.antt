-- A fence that has no mnemonic.
use Rattle.std.proofs.Common.{◌≡◌, ℕ, ◌==◌, false, ap, ◌∙◌, Some}
use Rattle.std.specs.Prelude.{if◌then◌else◌, codes}
use Rattle.rv_decode.specs.Word.{word_of}
use Rattle.rv_decode.specs.Reading.{reading_of}
use Rattle.rv_decode.specs.declared.instr.FenceType.{FenceType}
use Rattle.rv_decode.specs.declared.instr.Instr.TheVariants.{Fence}
use Rattle.rv_text.specs.Spelling.{spelled_alone, raw, spelling_of}
use Rattle.rv_text.specs.Listing.{line_of, spelling_text}
use Rattle.std.specs.Option.{option_map_or}

pub fence_line : (w : ℕ) (f : FenceType) → reading_of w ≡ Some (Fence f) → word_of (Fence f) ≡ w → (f.fields == 0x0ff00000) ≡ false → line_of w ≡ spelling_text (raw w)
unfolding spelling_of
fence_line w f read word odd =
    ap (λ o. spelling_text (option_map_or spelling_of o (raw w))) read
    ∙ (ap (λ b. spelling_text (if b then spelled_alone (codes "fence") else raw (word_of (Fence f)))) odd
    ∙ ap (λ n. spelling_text (raw n)) word)
