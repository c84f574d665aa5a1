use Rattle.std.proofs.Common.{Ok, ap, arith}
use Rattle.serde_json.specs.View.{view}
use Rattle.case_reader.proofs.TapeLemmas.{long_tape}
use Rattle.case_reader.proofs.tape.tape_of.Goals as goal

pub returns-then-elements-gt-MAX_TAPE_ANSWERS : goal.returns-then-elements-gt-MAX_TAPE_ANSWERS
returns-then-elements-gt-MAX_TAPE_ANSWERS c =
    ap Ok (long_tape view (view c.args.manner.now) c.in-Some.elements.now (omega (arith, c.if-elements-gt-MAX_TAPE_ANSWERS.true)) c.in-Some.ensures)
