use Rattle.std.proofs.Common.{◌/◌, ◌%◌, Some, set, slice_index_or, sym, ap, ◌∙◌, arith}
use Rattle.mem_plain.proofs.DirectoryLemmas.{made_elsewhere}
use Rattle.mem_plain.proofs.directory.Directory.put.Goals as goal

pub returns-in_ok-table-in-None-clause-elsewhere : goal.returns-in_ok-table-in-None-clause-elsewhere
returns-in_ok-table-in-None-clause-elsewhere c = made_elsewhere c.args.self.now.tables.items c.index_mut.result.now _ c.args.number c.args.page
    (omega (arith, c.args.self.now.tables.ok.0, c.requires.number, c.requires.places))
    (ap (λ o. slice_index_or c.args.self.now.tables.items (c.args.number / 1024) o) (sym c.in-None.is) ∙ (sym c.index_mut.ensures.value ∙ c.in-None.is))
    (ap (λ ps. set ps (c.args.number % 1024) (Some c.args.page)) c.in_ok-table-in-None.ensures)
