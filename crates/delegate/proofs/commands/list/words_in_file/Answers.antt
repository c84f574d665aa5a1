use Rattle.std.proofs.Common.{◌∙◌, ◌*◌, ◌++◌, [], ◌∷◌, ap₂, sym, arith}
use Rattle.std.proofs.lemmas.List.FromFn.{map-range_with_len_more}
use Rattle.delegate.specs.commands.List.{word_in_file}
use Rattle.delegate.proofs.commands.list.words_in_file.Goals as goal

pub words-preserved : goal.words-preserved
words-preserved c =
    c.in_ok-push.ensures.items
    ∙ (ap₂ (λ xs x. xs ++ x ∷ []) c.words.invariant c.word_in_file.ensures ∙ sym (map-range_with_len_more (λ k. word_in_file c.args.bytes.now (4 * k)) 0 c.words.k c.words.k (omega arith)))
