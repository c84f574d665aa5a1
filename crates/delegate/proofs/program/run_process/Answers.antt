use Rattle.std.proofs.Common.{ap, sym, ◌∙◌}
use Rattle.std.specs.Process.{exit_status}
use Rattle.command_line.specs.Words.{texts}
use Rattle.delegate.specs.Keeps.{Keeps}
use Rattle.delegate.specs.Writing.{words_given}
use Rattle.delegate.specs.Answered.{status_number}
use Rattle.delegate.specs.InShort.{SaysInShort}
use Rattle.delegate.specs.Plainly.{SaysPlainly}
use Rattle.delegate.proofs.InShortLemmas.{short-by}
use Rattle.delegate.proofs.BigLemmas.{big-by}
use Rattle.delegate.proofs.GuestLemmas.{sum-by}
use Rattle.delegate.proofs.ProcessLemmas.{promised-by, whole-by, same-words, status-2, of-command-by, usage-by}
use Rattle.delegate.proofs.program.run_process.Goals as goal

pub returns-in-Some-clause-keeps : goal.returns-in-Some-clause-keeps
returns-in-Some-clause-keeps g c = λ words is wholly.
    promised-by (g.S.Source.left c.args.source.now) Keeps (texts c.as_slice.result.now) words c.run.result (exit_status c.exit_code.result)
    (g.K.Sink.held c.args.sink.now) (g.K.Sink.held c.run.new.sink)
    (ap texts c.as_slice.ensures.value ∙ same-words (words_given c.args.arguments) (texts c.in-Some.words.items) words c.in-Some.ensures is) c.exit_code.ensures
    (c.run.ensures.keeps (whole-by c.run.result (exit_status c.exit_code.result) c.exit_code.ensures wholly))

pub returns-in-Some-clause-plainly : goal.returns-in-Some-clause-plainly
returns-in-Some-clause-plainly g c = λ words is wholly.
    short-by (g.S.Source.left c.args.source.now) SaysPlainly (texts c.as_slice.result.now) words (status_number c.run.result) (exit_status c.exit_code.result)
    (g.K.Sink.held c.args.sink.now) (g.K.Sink.held c.run.new.sink)
    (ap texts c.as_slice.ensures.value ∙ same-words (words_given c.args.arguments) (texts c.in-Some.words.items) words c.in-Some.ensures is) c.exit_code.ensures
    (c.run.ensures.plainly (whole-by c.run.result (exit_status c.exit_code.result) c.exit_code.ensures wholly))

pub returns-in-Some-clause-in_short : goal.returns-in-Some-clause-in_short
returns-in-Some-clause-in_short g c = λ words is wholly.
    short-by (g.S.Source.left c.args.source.now) SaysInShort (texts c.as_slice.result.now) words (status_number c.run.result) (exit_status c.exit_code.result)
    (g.K.Sink.held c.args.sink.now) (g.K.Sink.held c.run.new.sink)
    (ap texts c.as_slice.ensures.value ∙ same-words (words_given c.args.arguments) (texts c.in-Some.words.items) words c.in-Some.ensures is) c.exit_code.ensures
    (c.run.ensures.in_short (whole-by c.run.result (exit_status c.exit_code.result) c.exit_code.ensures wholly))

pub returns-in-Some-clause-big : goal.returns-in-Some-clause-big
returns-in-Some-clause-big g c = λ words is wholly.
    big-by (texts c.as_slice.result.now) words (status_number c.run.result) (exit_status c.exit_code.result)
    (g.K.Sink.held c.args.sink.now) (g.K.Sink.held c.run.new.sink)
    (ap texts c.as_slice.ensures.value ∙ same-words (words_given c.args.arguments) (texts c.in-Some.words.items) words c.in-Some.ensures is) c.exit_code.ensures
    (c.run.ensures.big (whole-by c.run.result (exit_status c.exit_code.result) c.exit_code.ensures wholly))

pub returns-in-Some-clause-sum : goal.returns-in-Some-clause-sum
returns-in-Some-clause-sum g c = λ words is wholly.
    sum-by (texts c.as_slice.result.now) words (status_number c.run.result) (exit_status c.exit_code.result)
    (g.K.Sink.held c.args.sink.now) (g.K.Sink.held c.run.new.sink)
    (ap texts c.as_slice.ensures.value ∙ same-words (words_given c.args.arguments) (texts c.in-Some.words.items) words c.in-Some.ensures is) c.exit_code.ensures
    (c.run.ensures.sum (whole-by c.run.result (exit_status c.exit_code.result) c.exit_code.ensures wholly))

pub returns-in-Some-clause-of_its_command : goal.returns-in-Some-clause-of_its_command
returns-in-Some-clause-of_its_command g c = λ words is wholly.
    of-command-by (texts c.as_slice.result.now) words c.run.result (exit_status c.exit_code.result)
    (ap texts c.as_slice.ensures.value ∙ same-words (words_given c.args.arguments) (texts c.in-Some.words.items) words c.in-Some.ensures is) c.exit_code.ensures
    (c.run.ensures.of_its_command (whole-by c.run.result (exit_status c.exit_code.result) c.exit_code.ensures wholly))

pub returns-in-Some-clause-usage : goal.returns-in-Some-clause-usage
returns-in-Some-clause-usage g c = λ words is wholly.
    usage-by (texts c.as_slice.result.now) words c.run.result (exit_status c.exit_code.result)
    (ap texts c.as_slice.ensures.value ∙ same-words (words_given c.args.arguments) (texts c.in-Some.words.items) words c.in-Some.ensures is) c.exit_code.ensures
    (c.run.ensures.usage (whole-by c.run.result (exit_status c.exit_code.result) c.exit_code.ensures wholly))

pub returns-in-Some-clause-usage_text : goal.returns-in-Some-clause-usage_text
returns-in-Some-clause-usage_text g c = λ two. c.run.ensures.usage_text (status-2 c.run.result (sym c.exit_code.ensures ∙ two))
