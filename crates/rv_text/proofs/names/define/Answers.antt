use Rattle.std.proofs.lemmas.Map.Text.{btree_map_updates_str}
use Rattle.rv_text.proofs.names.define.Goals as goal

pub returns : goal.returns
returns c = λ i name. btree_map_updates_str c.args.name.now c.args.names.now c.insert.new.self _ c.in_ok-insert.ensures.updates name i
