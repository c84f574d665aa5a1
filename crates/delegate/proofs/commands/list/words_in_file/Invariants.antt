use Rattle.std.proofs.Common.{◌≡◌, ◌*◌, map}
use Rattle.std.specs.List.{range_with_len}
use Rattle.delegate.specs.commands.List.{word_in_file}
use Rattle.delegate.proofs.commands.list.words_in_file.Given as goal

-- the words so far
abbrev pub invariant-words : goal.invariant-words
invariant-words l = l.words.items ≡ map (λ k. word_in_file l.bytes (4 * k)) (range_with_len 0 l.k)
