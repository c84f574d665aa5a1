use Rattle.std.proofs.Common.{◌≡◌, take}
use Rattle.delegate.specs.AsmImage.{bytes_of}
use Rattle.delegate.proofs.loading.bytes_of.Given as goal

-- the bytes of the first words
abbrev pub invariant-words : goal.invariant-words
invariant-words l = l.bytes.items ≡ bytes_of (take l.word-index l.words)
