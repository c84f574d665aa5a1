use Rattle.std.proofs.Common.{◌≡◌, rules}
use Rattle.std.specs.Prelude.{codes}
use Rattle.std.proofs.lemmas.Slice.Eq.{text_from_reads}
use Rattle.rv_text.proofs.row.other_row.Goals as goal

pub returns-in-ebreak : goal.returns-in-ebreak
returns-in-ebreak c = let is : c.args.name.now ≡ codes "ebreak" = search (rules, text_from_reads) in rw is c.make_row-in-ebreak.ensures
