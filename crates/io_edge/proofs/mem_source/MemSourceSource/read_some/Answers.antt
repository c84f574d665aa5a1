use Rattle.std.proofs.Common.{rules, drop}
use Rattle.io_edge.proofs.CopyLemmas.{split_at_copy}
use Rattle.io_edge.proofs.mem_source.MemSourceSource.read_some.Goals as goal

pub returns-clause-bytes : goal.returns-clause-bytes
returns-clause-bytes c =
    let s = c.self.inside in
    let n = c.min-n.result in
    rw (← c.self.view_is) (split_at_copy c.copy_from_slice.new.self (drop n c.args.buf.now) s.bytes.items s.given n (search rules) (search rules))
