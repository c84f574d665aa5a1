use Rattle.step_referee.specs.MachineFair.{machine_ruling_is_fair}
use Rattle.case_match.proofs.RefutedLemmas.{tampers-are-refuted, disputes-of-cases-end-where-runs-part}
use Rattle.case_match.proofs.laws.tampers_are_refuted.Goals as goal

pub returns-clause-refuted : goal.returns-clause-refuted
returns-clause-refuted g c =
    tampers-are-refuted g.D.Digester.digest_of
    (record {
      runs = c.machine_runs_are_true.ensures;
      fair = machine_ruling_is_fair g.D.Digester.digest_of g.met.D.Digester.is_digest;
      valid = c.tampered_runs_keep_valid_states.ensures;
      version_at = c.tampered_runs_keep_the_input.ensures.version_at;
      version = c.tampered_runs_keep_the_input.ensures.version;
      grows = c.outputs_grow_slowly.ensures;
      plain_ = c.tampered_runs.ensures.plain;
      flip_before = c.tampered_runs.ensures.flip_before;
      register_before = c.tampered_runs.ensures.register_before;
      early = c.tampered_runs.ensures.early;
      divide = c.cuts_divide.ensures;
      within = c.questions_are_within_the_bound.ensures.asked;
      spare = c.spare_is_enough.ensures;
      over = c.nobody_asked_means_over.ensures;
      most = c.there_is_a_most_number_of_rounds.ensures;
      of_case = c.one_record_of_a_case.ensures;
      answers = c.answers_are_of_their_run.ensures.scripts;
      ends = c.lies_are_found.ensures.part;
      by_script = c.untouched_provers.ensures.by_script;
    })

pub returns-clause-part : goal.returns-clause-part
returns-clause-part g c =
    disputes-of-cases-end-where-runs-part g.D.Digester.digest_of
    (record {
      runs = c.machine_runs_are_true.ensures;
      fair = machine_ruling_is_fair g.D.Digester.digest_of g.met.D.Digester.is_digest;
      valid = c.tampered_runs_keep_valid_states.ensures;
      version_at = c.tampered_runs_keep_the_input.ensures.version_at;
      version = c.tampered_runs_keep_the_input.ensures.version;
      grows = c.outputs_grow_slowly.ensures;
      plain_ = c.tampered_runs.ensures.plain;
      flip_before = c.tampered_runs.ensures.flip_before;
      register_before = c.tampered_runs.ensures.register_before;
      early = c.tampered_runs.ensures.early;
      divide = c.cuts_divide.ensures;
      within = c.questions_are_within_the_bound.ensures.asked;
      spare = c.spare_is_enough.ensures;
      over = c.nobody_asked_means_over.ensures;
      most = c.there_is_a_most_number_of_rounds.ensures;
      of_case = c.one_record_of_a_case.ensures;
      answers = c.answers_are_of_their_run.ensures.scripts;
      ends = c.lies_are_found.ensures.part;
      by_script = c.untouched_provers.ensures.by_script;
    })
