-- Derived, of the code's own functions alone: what a write leaves of pages, and which writes leave all as it was.
use Rattle.std.specs.Prelude.{◌≡◌, ℕ, zero, suc, ◌-◌, ◌/◌, ◌%◌, List, length, slice_index, Option, Some, None, if◌then◌else◌}
use Rattle.mem_plain.specs.Contents.{is_among}
use Rattle.mem_plain.specs.Page.{with_number_in}
use Rattle.mem_plain.specs.declared.page.Page.{Page}

-- two pages are both kept, with bytes before and after that are so related, or neither is
abbrev pub AreBoth : (List ℕ → List ℕ → Type 0) → Option Page → Option Page → Type 0
AreBoth R (Some before) (Some after) = R before.bytes.items after.bytes.items
AreBoth R None None = Unit {0}
AreBoth R (Some before) None = ⊥
AreBoth R None (Some after) = ⊥

-- bytes have the low `width` bytes of a value from a place on
abbrev pub Written : ℕ → ℕ → ℕ → List ℕ → List ℕ → Type 0
Written at width value before after = after ≡ with_number_in before at width value

-- bytes have others laid over them from a place on
abbrev pub Laid : ℕ → List ℕ → List ℕ → List ℕ → Type 0
Laid at bytes before after = (k : ℕ) → slice_index after k ≡ (if is_among at (length bytes) k then slice_index bytes (k - at) else slice_index before k)

-- a copy has the same pages by their bytes
abbrev pub IsCopied : Option Page → Option Page → Type 0
IsCopied (Some page) (Some copied) = copied.bytes.items ≡ page.bytes.items
IsCopied None None = Unit {0}
IsCopied (Some page) None = ⊥
IsCopied None (Some copied) = ⊥

-- the low `width` bytes of a value are 0
abbrev pub AreZeros : ℕ → ℕ → Type 0
AreZeros zero value = Unit {0}
AreZeros (suc width) value = (value % 256 ≡ 0) × AreZeros width (value / 256)
