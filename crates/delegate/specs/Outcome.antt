-- To believe. What the program answers and writes: a function of its arguments and of the bytes that its source had.
use Rattle.std.specs.Prelude.{ℕ, List, [], Option, Some, None, Result, Ok, Err, if◌then◌else◌}
use Rattle.std.specs.Option.{ok_or}
use Rattle.rd_base.specs.Results.{◌>>=◌}
use Rattle.command_line.specs.Words.{chosen, reads}
use Rattle.command_line.specs.declared.request.Command.{Command}
use Rattle.command_line.specs.declared.request.Command.TheVariants.{Judge, Run, Roots, Audit, Listing, Big}
use Rattle.delegate.specs.Refusal.{usage}
use Rattle.delegate.specs.Loading.{within_limit}
use Rattle.delegate.specs.Decided.{Deciding}
use Rattle.delegate.specs.commands.Judge.{judging, judge_response}
use Rattle.delegate.specs.commands.Run.{run_response}
use Rattle.delegate.specs.commands.Roots.{roots_response}
use Rattle.delegate.specs.commands.Audit.{audit_response}
use Rattle.delegate.specs.commands.List.{list_response}
use Rattle.delegate.specs.commands.Big.{summing_up, big_response}
use Rattle.delegate.specs.declared.response.Response.{Response}

-- a command on the bytes that were read for it
abbrev pub carried_out : Command → List ℕ → Result Response Response
carried_out (Judge text name) bytes = judge_response text name bytes
carried_out Run bytes = run_response bytes
carried_out Roots bytes = roots_response bytes
carried_out Audit bytes = audit_response bytes
carried_out Listing bytes = list_response bytes
carried_out (Big seed) bytes = big_response seed

-- what a command that decides a match is asked for
abbrev pub decides : Command → Option Deciding
decides (Judge text name) = Some (judging text name)
decides (Big seed) = Some (summing_up seed)
decides command = None

-- the bytes that are read for a command: all that the source had, if they are not too many, or none
abbrev pub bytes_for : Command → List ℕ → Result (List ℕ) Response
bytes_for command bytes = if reads (Some command) then within_limit bytes else Ok []

-- the steps in their order, of which the first that is refused is the last
unfoldable pub response_to : List (List ℕ) → List ℕ → Result Response Response
response_to words bytes = do
  command ← ok_or (chosen words) usage
  given ← bytes_for command bytes
  carried_out command given

-- the response, of a command that is carried out or refused
abbrev pub either_way : Result Response Response → Response
either_way (Ok response) = response
either_way (Err response) = response

unfoldable pub outcome : List (List ℕ) → List ℕ → Response
outcome words bytes = either_way (response_to words bytes)
