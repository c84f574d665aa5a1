use Rattle.std.proofs.Common.{◌+◌, length}
use Rattle.proof_wire.specs.Wire.{Form, ◌‖◌, byte, in_four_bytes, digest, control, count, each, opening, register_opening, input_opening, optional, flagged}
use Rattle.proof_wire.proofs.EachLemmas.{put_then}
use Rattle.proof_wire.proofs.writing.put_step_3.Goals as goal

pub returns-clause-bytes : goal.returns-clause-bytes
returns-clause-bytes c =
    let p = c.args.proof.now in
    let from_10 : Form = optional input_opening p.input in
    let from_9 : Form = optional opening p.operand ‖ from_10 in
    let from_8 : Form = each register_opening (length p.named) p.named ‖ from_9 in
    let from_7 : Form = optional opening p.fetch ‖ from_8 in
    let from_6 : Form = count p.named ‖ from_7 in
    let from_5 : Form = byte (flagged 1 p.fetch + flagged 2 p.operand + flagged 4 p.input) ‖ from_6 in
    let from_4 : Form = control p.ctl ‖ from_5 in
    let from_3 : Form = digest p.regs ‖ from_4 in
    let from_2 : Form = digest p.input_root ‖ from_3 in
    let from_1 : Form = in_four_bytes p.input_len ‖ from_2 in
    put_then c.args.out.now.items (digest p.mem).bytes from_1.bytes c.in_ok-put_digest.ensures.bytes
    (put_then c.put_digest.new.out.items (in_four_bytes p.input_len).bytes from_2.bytes c.in_ok-put_word.ensures.bytes
    (put_then c.put_word.new.out.items (digest p.input_root).bytes from_3.bytes c.in_ok-put_digest-2.ensures.bytes
    (put_then c.put_digest-2.new.out.items (digest p.regs).bytes from_4.bytes c.in_ok-put_digest-3.ensures.bytes
    (put_then c.put_digest-3.new.out.items (control p.ctl).bytes from_5.bytes c.in_ok-put_control.ensures.bytes
    (put_then c.put_control.new.out.items (byte (flagged 1 p.fetch + flagged 2 p.operand + flagged 4 p.input)).bytes from_6.bytes c.in_ok-put_flags_3.ensures.bytes
    (put_then c.put_flags_3.new.out.items (count p.named).bytes from_7.bytes c.in_ok-put_count.ensures.bytes
    (put_then c.put_count.new.out.items (optional opening p.fetch).bytes from_8.bytes c.in_ok-put_opening_if.ensures.bytes
    (put_then c.put_opening_if.new.out.items (each register_opening (length p.named) p.named).bytes from_9.bytes c.in_ok-put_named.ensures.bytes
    (put_then c.put_named.new.out.items (optional opening p.operand).bytes from_10.bytes c.in_ok-put_opening_if-2.ensures.bytes
    c.in_ok-put_input_if.ensures.bytes)))))))))
