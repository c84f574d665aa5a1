-- To believe. `run`: the status and the output of the case that is read, in the state at its bound.
use Rattle.std.specs.Prelude.{ℕ, List, Result}
use Rattle.rv_step.specs.State.{State}
use Rattle.case_reader.specs.Case.{CaseData}
use Rattle.case_match.specs.Match.{final_state}
use Rattle.transcript_text.specs.Report.{answer_line_text}
use Rattle.delegate.specs.Loading.{of_case, every_case}
use Rattle.delegate.specs.declared.response.Response.{Response}
use Rattle.delegate.specs.declared.response.Answered.TheVariants.{Done}

abbrev pub answer_of_run : CaseData → State → Response
answer_of_run c start = record { answered = Done; text = answer_line_text (final_state c start).status (final_state c start).output }

abbrev pub run_response : List ℕ → Result Response Response
run_response bytes = of_case every_case answer_of_run bytes
