use Rattle.std.proofs.Common.{◌+◌, ◌*◌, ◌/◌, ◌%◌, cond, eqb, slice_index, sym, ap, subst, ◌∙◌, arith}
use Rattle.std.proofs.lemmas.List.{get_or-replicate}
use Rattle.mem_plain.specs.Contents.{byte_at, laid}
use Rattle.mem_plain.specs.Memory.{IsMemory}
use Rattle.mem_plain.specs.Kept.{Laid}
use Rattle.mem_plain.specs.Pages.{page_in}
use Rattle.mem_plain.proofs.PagesLemmas.{bytes_put, kept_laid, unkept_stays, unkept_bytes, alike_pages, pages_memory, byte_there}
use Rattle.mem_plain.proofs.memory.PlainMem.lay_piece.Goals as goal

pub returns-then-lay : goal.returns-then-lay
returns-then-lay c =
    kept_laid (page_in c.self.inside.pages.tables.items) (page_in c.lay.new.self.tables.items) c.args.addr c.args.piece.now (omega arith) c.requires
    (sym c.lay.ensures.there ∙ c.if-lay.true) c.lay.ensures.here c.lay.ensures.elsewhere
    ∙ ap (λ m. laid m c.args.addr c.args.piece.now) c.self.view_is

pub returns : goal.returns
returns c =
    let old = page_in c.self.inside.pages.tables.items in
    let between = page_in c.lay.new.self.tables.items in
    let key = c.args.addr / 4096 in
    let none = sym c.lay.ensures.there ∙ c.if-lay.false in
    let same = alike_pages old between (unkept_stays (Laid (c.args.addr % 4096) c.args.piece.now) old between key none c.lay.ensures.here c.lay.ensures.elsewhere) ∙ c.self.view_is in
    bytes_put c.args.self.now c.put_page.new.self c.args.addr c.lay-2.new.self.bytes.items c.in_ok-page.page.bytes.items
    (subst IsMemory c.self.view_is (pages_memory old)) c.is_memory.ensures (omega arith)
    (λ at small. ap (λ bytes. slice_index bytes at) c.in_ok-page.ensures
    ∙ (get_or-replicate 4096 at 0 0 small
    ∙ (sym (unkept_bytes (old key) at none)
    ∙ (sym (byte_there old key at (omega arith) small)
    ∙ ap (λ m. byte_at m (key * 4096 + at)) c.self.view_is))))
    (λ q. c.in_ok-put_page.ensures.put q ∙ ap (λ m. cond (eqb (q / 4096) key) (slice_index c.lay-2.new.self.bytes.items (q % 4096)) (byte_at m q)) same)
    c.args.piece.now c.requires c.lay-2.ensures
