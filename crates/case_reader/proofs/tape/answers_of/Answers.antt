use Rattle.std.proofs.Common.{Ok, ap}
use Rattle.std.proofs.lemmas.List.{drop_all}
use Rattle.serde_json.specs.View.{view}
use Rattle.case_reader.proofs.TapeLemmas.{tape_goes_on, tape_ends, tape_is_read}
use Rattle.case_reader.proofs.tape.answers_of.Goals as goal

pub returns-in_default : goal.returns-in_default
returns-in_default c = ap Ok (tape_ends view _ _ _ _ _ c.elements-test.true c.element-item.is (cc (c.in_ok-answer.ensures, c.in_default.is)) c.elements.invariant)

pub elements-preserved : goal.elements-preserved
elements-preserved c =
    tape_goes_on view _ _ _ _ _ c.in-Some.answer _ c.elements-test.true c.element-item.is (cc (c.in_ok-answer.ensures, c.in-Some.is)) c.in_ok-push.ensures.items c.elements.invariant

pub returns : goal.returns
returns c = ap Ok (tape_is_read view _ _ _ (drop_all c.elements.element-index c.args.elements.now c.elements-test.false) c.elements.invariant)
