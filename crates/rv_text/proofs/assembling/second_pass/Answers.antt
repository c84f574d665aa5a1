use Rattle.std.proofs.Common.{◌∙◌, ◌+◌, ◌++◌, [], sym, ap, arith, length, Ok, Err}
use Rattle.rd_base.specs.Results.{map_fault}
use Rattle.rv_text.specs.Characters.{is_of_line}
use Rattle.rv_text.specs.Assembly.{with_word}
use Rattle.rv_text.specs.Places.{places_of}
use Rattle.rv_text.specs.declared.fault.AsmError.TheVariants as errors
use Rattle.rv_text.proofs.PassLemmas.{word-step, word-stops, word-ends, word-kept, left-length, behind-length}
use Rattle.rv_text.proofs.assembling.second_pass.Goals as goal

pub returns-in-Err : goal.returns-in-Err
returns-in-Err c =
    let stops = word-stops c.lines.rest.now c.split_run.result.0.now c.lines.number (places_of c.args.names.now) c.lines.here c.lines.words.items c.in-Err.kind _ c.split_run.ensures.run c.lines.invariant.same (sym c.in-Err.ensures) in
    λ _. ap (map_fault errors.Fault) stops ∙ ap (λ e. Err e) (sym c.error_at.ensures)

pub returns-in-empty : goal.returns-in-empty
returns-in-empty c =
    let step = word-step c.lines.rest.now c.split_run.result.0.now c.split_run.result.1.now c.lines.number (places_of c.args.names.now) c.lines.here c.lines.words.items c.in-Ok.word _ c.split_run.ensures.run c.split_run.ensures.behind c.lines.invariant.same (sym c.in-Ok.ensures) in
    let ends = word-ends c.split_run.result.1.now (c.lines.number + 1) (places_of c.args.names.now) _ (c.lines.words.items ++ with_word c.in-Ok.word []) _ c.in-empty.len_below step in
    ap (map_fault errors.Fault) ends ∙ ap (λ ws. Ok ws) (sym c.in_ok-add_word.ensures)

pub lines-smaller : goal.lines-smaller
lines-smaller c =
    let left = left-length c.split_run.result.1.now c.in-len1-up.len_at_least in
    let less = behind-length is_of_line c.lines.rest.now in
    let is = ap length c.split_run.ensures.behind in
    omega arith

pub lines-preserved : goal.lines-preserved
lines-preserved c =
    let left = left-length c.split_run.result.1.now c.in-len1-up.len_at_least in
    let less = behind-length is_of_line c.lines.rest.now in
    let is = ap length c.split_run.ensures.behind in
    let within = c.lines.invariant.within in
    let near = c.lines.invariant.near in
    let next = c.place_after-here.ensures.near in
    let step = word-step c.lines.rest.now c.split_run.result.0.now c.split_run.result.1.now c.lines.number (places_of c.args.names.now) c.lines.here c.lines.words.items c.in-Ok.word _ c.split_run.ensures.run c.split_run.ensures.behind c.lines.invariant.same (sym c.in-Ok.ensures) in
    record {
      same = word-kept c.split_run.result.1.now (c.lines.number + 1) (places_of c.args.names.now) c.lines.here c.place_after-here.result c.lines.words.items c.add_word.new.words.items c.in-Ok.word _ c.in_ok-add_word.ensures c.place_after-here.ensures.place c.in-len1-up.len_at_least step;
      within = omega arith;
      near = omega arith;
    }
