use Rattle.case_match.proofs.HonestLemmas.{untouched-are-truthful, true-tapes-are-truthful}
use Rattle.case_match.proofs.laws.untouched_provers_are_truthful.Goals as goal

pub returns-clause-untouched : goal.returns-clause-untouched
returns-clause-untouched c = λ digest.
    untouched-are-truthful digest
    (record {
      plain_ = c.untouched_provers.ensures.plain;
      late = c.untouched_provers.ensures.late;
      output = c.untouched_provers.ensures.output;
      by_script = c.untouched_provers.ensures.by_script;
      forge = c.harmless_manners.ensures.forge;
      noise = c.harmless_manners.ensures.noise;
      tape = c.harmless_manners.ensures.tape;
    })
    c.cuts_divide.ensures
    c.questions_are_within_the_bound.ensures.asked

pub returns-clause-tape : goal.returns-clause-tape
returns-clause-tape c = λ digest.
    true-tapes-are-truthful digest
    (record {
      plain_ = c.untouched_provers.ensures.plain;
      late = c.untouched_provers.ensures.late;
      output = c.untouched_provers.ensures.output;
      by_script = c.untouched_provers.ensures.by_script;
      forge = c.harmless_manners.ensures.forge;
      noise = c.harmless_manners.ensures.noise;
      tape = c.harmless_manners.ensures.tape;
    })
