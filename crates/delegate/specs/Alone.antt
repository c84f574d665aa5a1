-- To believe. The commands that need no runtime, and what one of them answers on bytes, as the program does.
use Rattle.std.specs.Prelude.{◌≡◌, ℕ, List, Some}
use Rattle.command_line.specs.Words.{chosen}
use Rattle.command_line.specs.declared.request.Command.{Command}
use Rattle.command_line.specs.declared.request.Command.TheVariants.{Run, Audit, Listing}
use Rattle.delegate.specs.Outcome.{outcome}
use Rattle.delegate.specs.declared.commands.Alone.{Alone}
use Rattle.delegate.specs.declared.commands.Alone.TheVariants as alone
use Rattle.delegate.specs.declared.response.Response.{Response}

-- the command of the program
abbrev pub command_of : Alone → Command
command_of alone.Run = Run
command_of alone.Audit = Audit
command_of alone.Listing = Listing

-- the outcome of all arguments that name the command, on these bytes
abbrev pub IsOutcomeOf : Alone → List ℕ → Response → Type 0
IsOutcomeOf command bytes response = (words : List (List ℕ)) → chosen words ≡ Some (command_of command) → outcome words bytes ≡ response
