use Rattle.std.proofs.Common.{◌∙◌, subst}
use Rattle.std.proofs.lemmas.Option.{IfSome_then}
use Rattle.command_line.specs.Words.{AreGiven}
use Rattle.command_line.proofs.WordsLemmas.{chosen-of-parse, chosen-of-fault, options-of-parse}
use Rattle.command_line.proofs.request.command_given.Goals as goal

pub returns-in-Ok-clause-command : goal.returns-in-Ok-clause-command
returns-in-Ok-clause-command c =
    chosen-of-parse _ _ c.in-Ok.matches _ (c.in_ok-command_line.ensures, c.in-Ok.ensures.kinds, c.in-Ok.ensures.matches) c.request_in.ensures.command

pub returns-in-Ok-clause-options : goal.returns-in-Ok-clause-options
returns-in-Ok-clause-options c =
    IfSome_then c.request_in.result c.request_in.ensures.given
    (λ request given. subst (λ rows. AreGiven rows request.options)
    (options-of-parse _ _ c.in-Ok.matches (c.in_ok-command_line.ensures, c.in-Ok.ensures.kinds, c.in-Ok.ensures.matches)) given)

pub returns : goal.returns
returns c = record {
  command = chosen-of-fault _ _ c.in-Err.error c.in_ok-command_line.ensures c.in-Err.ensures.kinds (λ is. c.in_default.not-OutOfMemory (c.kind.ensures ∙ is));
  counts = tt;
  options = tt;
}
