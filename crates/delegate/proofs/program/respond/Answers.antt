use Rattle.std.proofs.Common.{◌≡◌, ◌∙◌, ap, sym, subst, Some, None, Ok, Err, option_map}
use Rattle.command_line.specs.Words.{texts, chosen}
use Rattle.command_line.specs.declared.request.Request.{Request}
use Rattle.delegate.specs.Outcome.{bytes_for}
use Rattle.delegate.specs.Refusal.{usage, too_long}
use Rattle.delegate.proofs.OutcomeLemmas.{no_command, no_bytes, some_bytes, for_its_bytes}
use Rattle.delegate.proofs.CaseLemmas.{IsIt, refused-is-it, ended-is-it}
use Rattle.delegate.proofs.program.respond.Goals as goal

pub returns-in-Ok-None-clause-outcome : goal.returns-in-Ok-None-clause-outcome
returns-in-Ok-None-clause-outcome g c =
    let words = texts c.args.words.now in
    let none : chosen words ≡ None = sym c.in-Ok-None.ensures.command ∙ ap (option_map (λ (request : Request). request.command)) c.in-Ok-None.field-0-is in
    some_bytes (g.S.Source.left c.args.source.now) (λ bytes. IsIt words bytes c.in_ok-usage-in-Ok-None.field-0)
    (λ bytes. subst (IsIt words bytes) (sym c.in_ok-usage-in-Ok-None.ensures) (refused-is-it words bytes usage (no_command words bytes none)))

pub returns-in-Err-TooLong-clause-outcome : goal.returns-in-Err-TooLong-clause-outcome
returns-in-Err-TooLong-clause-outcome g c =
    let words = texts c.args.words.now in
    let command = c.in-Ok-Some.request.command in
    let taken : chosen words ≡ Some command = sym c.in-Ok-Some.ensures.command ∙ ap (option_map (λ (request : Request). request.command)) c.in-Ok-Some.field-0-is in
    for_its_bytes (g.S.Source.left c.args.source.now) (λ bytes. bytes_for command bytes ≡ Err too_long) (λ bytes. IsIt words bytes c.in_ok-too_long-in-Err-TooLong.field-0)
    (λ bytes refused. subst (IsIt words bytes) (sym c.in_ok-too_long-in-Err-TooLong.ensures) (refused-is-it words bytes too_long (no_bytes words bytes command too_long taken refused)))
    (c.in-Err-TooLong.ensures.too_long (ap Err c.in-Err-TooLong.field-0-is))

pub returns-in-Ok-either_way-clause-outcome : goal.returns-in-Ok-either_way-clause-outcome
returns-in-Ok-either_way-clause-outcome g c =
    let words = texts c.args.words.now in
    let command = c.in-Ok-Some.request.command in
    let taken : chosen words ≡ Some command = sym c.in-Ok-Some.ensures.command ∙ ap (option_map (λ (request : Request). request.command)) c.in-Ok-Some.field-0-is in
    for_its_bytes (g.S.Source.left c.args.source.now) (λ bytes. bytes_for command bytes ≡ Ok c.in-Ok.bytes.items) (λ bytes. IsIt words bytes c.in-Ok-either_way.response)
    (λ bytes read. ended-is-it words bytes c.in-Ok.bytes.items command c.carry_out-carried.result c.in-Ok-either_way.response taken read
    c.carry_out-carried.ensures.stands c.carry_out-carried.ensures.in_range c.in-Ok-either_way.ensures)
    c.in-Ok.ensures.done
