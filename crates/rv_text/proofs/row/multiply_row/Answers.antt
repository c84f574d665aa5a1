use Rattle.std.proofs.Common.{◌≡◌, rules}
use Rattle.std.specs.Prelude.{codes}
use Rattle.std.proofs.lemmas.Slice.Eq.{text_from_reads}
use Rattle.rv_text.proofs.row.multiply_row.Goals as goal

pub returns-in-mulhsu : goal.returns-in-mulhsu
returns-in-mulhsu c = let is : c.args.name.now ≡ codes "mulhsu" = search (rules, text_from_reads) in rw is c.make_row-in-mulhsu.ensures
