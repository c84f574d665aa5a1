use Rattle.std.proofs.Common.{◌≡◌, ◌+◌, ◌-◌, take, drop, sym, ap, ◌∙◌, arith, length-drop, add_assoc}
use Rattle.std.proofs.lemmas.List.{drop-drop}
use Rattle.mem_plain.specs.Contents.{laid}
use Rattle.mem_plain.proofs.ContentsLemmas.{laid_split}
use Rattle.mem_plain.proofs.memory.PlainMem.lay.Goals as goal

pub pieces-preserved : goal.pieces-preserved
pieces-preserved c =
    let bytes = c.args.bytes.now in
    let done = c.pieces.done in
    let count = c.min-count.result in
    let from = c.args.addr + done in
    let rest = drop done bytes in
    let size : done + count - done ≡ count = omega arith in
    record {
      within = omega (arith, c.pieces.invariant.within);
      rest = ap (λ m. laid m (c.args.addr + (done + count)) (drop (done + count) bytes)) (c.in_ok-lay_piece.ensures ∙ ap (λ n. laid c.pieces.mem from (take n rest)) size)
          ∙ (ap (λ a. laid (laid c.pieces.mem from (take count rest)) a (drop (done + count) bytes)) (sym (add_assoc c.args.addr done count))
          ∙ (ap (laid (laid c.pieces.mem from (take count rest)) (from + count)) (sym (drop-drop count done bytes))
          ∙ (laid_split c.pieces.mem from count rest (omega (arith, length-drop done bytes)) ∙ c.pieces.invariant.rest)));
    }
