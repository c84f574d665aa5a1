-- What a command that needs no runtime comes to is the outcome of all arguments that name it.
use Rattle.std.proofs.Common.{◌≡◌, ℕ, ◌<◌, ◌≤◌, List, [], ◌∷◌, length, codes, true, Option, Result, Ok, Err, Some, IfOk, refl, sym, ap, subst, ◌∙◌}
use Rattle.command_line.specs.Words.{chosen}
use Rattle.command_line.specs.declared.request.Command.{Command}
use Rattle.command_line.specs.declared.request.Command.TheVariants as commands
use Rattle.delegate.specs.Alone.{command_of, IsOutcomeOf}
use Rattle.delegate.specs.Answered.{is_answer_of, is_answer_to}
use Rattle.delegate.specs.Loading.{within_limit}
use Rattle.delegate.specs.Outcome.{bytes_for, carried_out, either_way, outcome}
use Rattle.delegate.specs.Refusal.{too_long}
use Rattle.delegate.specs.declared.commands.Alone.{Alone}
use Rattle.delegate.specs.declared.commands.Alone.TheVariants.{Run, Audit, Listing}
use Rattle.delegate.specs.Standing.{Stands, IsEitherWay}
use Rattle.delegate.specs.declared.response.Response.{Response}
use Rattle.delegate.specs.declared.response.Stop.{Stop}
use Rattle.rd_base.specs.declared.memory.Memory.{Memory}
use Rattle.delegate.proofs.KindLemmas.{outcome-own}
use Rattle.delegate.proofs.OutcomeLemmas.{no_bytes, both_steps, outcome-of, over_limit, under_limit}

-- each reads its bytes
reads-them : (command : Alone) (bytes : List ℕ) → bytes_for (command_of command) bytes ≡ within_limit bytes
reads-them Run bytes = refl
reads-them Audit bytes = refl
reads-them Listing bytes = refl

pub too_long-alone : (command : Alone) (bytes : List ℕ) (response : Response) → 16777216 < length bytes → response ≡ too_long → IsOutcomeOf command bytes response
too_long-alone command bytes response long is words taken =
    outcome-of words bytes (Err too_long) (no_bytes words bytes (command_of command) too_long taken (reads-them command bytes ∙ over_limit bytes long)) ∙ sym is

carried-alone : (command : Alone) (bytes given : List ℕ) (r : Result Response Response) → length bytes ≤ 16777216 → given ≡ bytes → carried_out (command_of command) given ≡ r
    → (words : List (List ℕ)) → chosen words ≡ Some (command_of command) → outcome words bytes ≡ either_way r
carried-alone command bytes given r few is come words taken =
    outcome-of words bytes r (both_steps words bytes given (command_of command) taken (reads-them command bytes ∙ (under_limit bytes few ∙ ap Ok (sym is))) ∙ come)

pub ended-alone : (command : Alone) (bytes given : List ℕ) (carried : Result Response Stop) (answer : Result Response Memory) → length bytes ≤ 16777216 → given ≡ bytes
    → Stands (λ (done : Response). done) carried (carried_out (command_of command) given) → IfOk answer (IsEitherWay carried) → IfOk answer (IsOutcomeOf command bytes)
ended-alone command bytes given (Ok done) (Ok response) few same stands is = λ words taken. carried-alone command bytes given (Ok done) few same stands words taken ∙ sym is
ended-alone command bytes given (Err stop) (Ok response) few same stands is = carried-alone command bytes given (Err response) few same (stands response is)
ended-alone command bytes given carried (Err e) few same stands is = tt

-- its answer is one of the command, by arguments that name it
own-by : (words : List (List ℕ)) (command : Alone) (bytes : List ℕ) (response : Response) → chosen words ≡ Some (command_of command) → IsOutcomeOf command bytes response
    → is_answer_of (command_of command) response.answered ≡ true
own-by words command bytes response taken outcome-is =
    subst (λ (r : Response). is_answer_of (command_of command) r.answered ≡ true) (outcome-is words taken)
    (subst (λ (o : Option Command). is_answer_to o (outcome words bytes).answered ≡ true) taken (outcome-own words bytes))

pub own-alone : chosen ([] ∷ codes "run" ∷ []) ≡ Some commands.Run → chosen ([] ∷ codes "audit" ∷ []) ≡ Some commands.Audit → chosen ([] ∷ codes "list" ∷ []) ≡ Some commands.Listing
    → (command : Alone) (bytes : List ℕ) (response : Response) → IsOutcomeOf command bytes response → is_answer_of (command_of command) response.answered ≡ true
own-alone run audit list Run bytes response is = own-by ([] ∷ codes "run" ∷ []) Run bytes response run is
own-alone run audit list Audit bytes response is = own-by ([] ∷ codes "audit" ∷ []) Audit bytes response audit is
own-alone run audit list Listing bytes response is = own-by ([] ∷ codes "list" ∷ []) Listing bytes response list is
