use Rattle.std.proofs.Common.{◌∙◌, ◌+◌, sym, ap, arith, length}
use Rattle.rd_base.specs.Results.{map_fault}
use Rattle.rv_text.specs.Characters.{is_of_line}
use Rattle.rv_text.specs.Assembly.{pass, first_pass}
use Rattle.rv_text.specs.Places.{places_of, names_of}
use Rattle.rv_text.specs.declared.fault.AsmError.TheVariants as errors
use Rattle.rv_text.proofs.PassLemmas.{pass-goes, pass-fails, left-lines, left-length, no-lines, behind-length}
use Rattle.rv_text.proofs.assembling.first_pass.Goals as goal

pub returns-in-Err : goal.returns-in-Err
returns-in-Err c = pass-fails c.lines.rest.now c.split_run.result.0.now c.lines.number (pass (places_of c.lines.names) c.lines.place) c.in-Err.error c.error_at.result _ c.split_run.ensures.run c.error_at.ensures c.lines.invariant.same c.in-Err.ensures.taken

pub returns-in-empty : goal.returns-in-empty
returns-in-empty c =
    let goes = pass-goes c.lines.rest.now c.split_run.result.0.now c.split_run.result.1.now c.lines.number (pass (places_of c.lines.names) c.lines.place) (pass (places_of c.place_line.new.names) c.in-Ok.next) _ c.split_run.ensures.run c.split_run.ensures.behind c.lines.invariant.same c.in-Ok.ensures.taken in
    ap (λ r. map_fault errors.Fault (names_of r)) (sym goes ∙ ap (first_pass (c.lines.number + 1) (pass (places_of c.place_line.new.names) c.in-Ok.next)) (no-lines c.split_run.result.1.now c.in-empty.len_below))

pub lines-smaller : goal.lines-smaller
lines-smaller c =
    let left = left-length c.split_run.result.1.now c.in-len1-up.len_at_least in
    let less = behind-length is_of_line c.lines.rest.now in
    let is = ap length c.split_run.ensures.behind in
    omega arith

pub lines-preserved : goal.lines-preserved
lines-preserved c =
    let left = left-length c.split_run.result.1.now c.in-len1-up.len_at_least in
    let less = behind-length is_of_line c.lines.rest.now in
    let is = ap length c.split_run.ensures.behind in
    let within = c.lines.invariant.within in
    let near = c.lines.invariant.near in
    let next = c.in-Ok.ensures.next_place in
    let goes = pass-goes c.lines.rest.now c.split_run.result.0.now c.split_run.result.1.now c.lines.number (pass (places_of c.lines.names) c.lines.place) (pass (places_of c.place_line.new.names) c.in-Ok.next) _ c.split_run.ensures.run c.split_run.ensures.behind c.lines.invariant.same c.in-Ok.ensures.taken in
    record {
      same = ap (first_pass (c.lines.number + 1) (pass (places_of c.place_line.new.names) c.in-Ok.next)) (sym (left-lines c.split_run.result.1.now c.in-len1-up.len_at_least)) ∙ goes;
      within = omega arith;
      near = omega arith;
    }
