use Rattle.std.proofs.Common.{rules, ◌≡◌, ◌≤◌, true, Some, length, vec_len, arith}
use Rattle.command_line.specs.Words.{reads}
use Rattle.delegate.proofs.OutcomeLemmas.{nothing_read, all_read_for, too_many_for, both_ok}
use Rattle.delegate.proofs.program.bytes_for.Goals as goal

pub returns-in-Big-clause-done : goal.returns-in-Big-clause-done
returns-in-Big-clause-done g c = nothing_read (g.S.Source.left c.args.source.now) c.args.command c.in-Big.field-0 c.new.result.items c.in-Big.is c.new.ensures.items

pub returns-in-Judge-clause-done : goal.returns-in-Judge-clause-done
returns-in-Judge-clause-done g c =
    let reading : reads (Some c.args.command) ≡ true = search rules in
    both_ok c.read_all.result _ (λ v. vec_len v ≤ 16777216) _
    (λ v read few. let counted = v.ok.0 in let small : length v.items ≤ 16777216 = omega (arith, counted, few) in all_read_for (g.S.Source.left c.args.source.now) (g.S.Source.left c.read_all.new.source) c.args.command v.items reading read small)
    c.read_all.ensures.all c.read_all.ensures.within

pub returns-in-Judge-clause-too_long : goal.returns-in-Judge-clause-too_long
returns-in-Judge-clause-too_long g c = λ is.
    let reading : reads (Some c.args.command) ≡ true = search rules in
    too_many_for (g.S.Source.left c.args.source.now) c.args.command reading (c.read_all.ensures.too_long is)
