use Rattle.std.proofs.Common.{◌≡◌, ◌+◌, ◌-◌, suc, ◌%◌, ◌/◌, set, arith, add_assoc, sym, ap, ◌∙◌}
use Rattle.mem_plain.specs.Page.{with_number_in}
use Rattle.open_proof.proofs.ways.with_number.Goals as goal

pub bytes-preserved : goal.bytes-preserved
bytes-preserved c =
    let left : c.args.width - c.bytes.k ≡ suc (c.args.width - (c.bytes.k + 1)) = omega arith in
    let moved = ap (λ at. with_number_in (set c.bytes.bytes (c.args.at + c.bytes.k) (c.bytes.rest % 256)) at (c.args.width - (c.bytes.k + 1)) (c.bytes.rest / 256)) (sym (add_assoc c.args.at c.bytes.k 1)) in
    moved ∙ (ap (λ n. with_number_in c.bytes.bytes (c.args.at + c.bytes.k) n c.bytes.rest) (sym left) ∙ c.bytes.invariant)
