use Rattle.std.proofs.Common.{ap}
use Rattle.std.specs.Option.{ok_or}
use Rattle.std.proofs.lemmas.Bool.{false≢true}
use Rattle.serde_json.specs.View.{view}
use Rattle.case_reader.specs.declared.fault.CaseFault.TheVariants.{NotJson}
use Rattle.case_reader.proofs.ReadingLemmas.{tree_of-read, tree_of-none}
use Rattle.case_reader.proofs.parsing.tree_of_bytes.Goals as goal

pub returns-in-Ok : goal.returns-in-Ok
returns-in-Ok c =
    let read = c.in-Ok.ensures.ok in
    ap (λ o. ok_or o NotJson) (tree_of-read c.args.bytes.now (view c.in-Ok.tree) read.0 read.1)

pub returns-else-is_memory : goal.returns-else-is_memory
returns-else-is_memory c = λ _.
    ap (λ o. ok_or o NotJson) (tree_of-none c.args.bytes.now (c.in-Err.ensures.err (λ memory. false≢true (c.if-is_memory.ensures.1 memory))))
