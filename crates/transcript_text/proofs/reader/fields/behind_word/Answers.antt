use Rattle.std.proofs.Common.{sym, ◌∙◌}
use Rattle.transcript_text.proofs.read_back.WordLemmas.{behind_no_bytes}
use Rattle.transcript_text.proofs.reader.fields.behind_word.Goals as goal

pub returns-in-empty : goal.returns-in-empty
returns-in-empty c = sym (c.word.invariant ∙ behind_no_bytes c.args.word.now c.word.rest.now c.word.letter-index c.word-test.true c.in-empty.len_below)
