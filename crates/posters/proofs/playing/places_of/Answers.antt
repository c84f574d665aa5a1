use Rattle.std.proofs.Common.{ap, ◌∙◌}
use Rattle.bisect_game.specs.Setup.{Setup}
use Rattle.board_book.specs.Tasks.{openings}
use Rattle.posters.proofs.Numbering.{placed_more, opening_of}
use Rattle.posters.proofs.playing.places_of.Goals as goal

pub loop-i-preserved : goal.loop-i-preserved
loop-i-preserved g c =
    let many = c.provers.ensures.is ∙ ap (λ (s : Setup). s.provers) (c.setup.ensures.is ∙ ap (λ m. m.setup) c.game.ensures.value) in
    placed_more (openings c.args.books.now.books) c.loop-i.i c.provers.result c.book.result.now.opening c.loop-i.places.items c.add_provers.new.places.items (opening_of g.J.Judge.ruling g.P.Provers.says c.tasks_are_numbered.ensures c.args.books.now.books c.loop-i.i c.book.result.now c.book.ensures)
    c.loop-i.invariant.0 c.loop-i.invariant.1 many (rw many c.game.ensures.few) c.in_ok-add_provers.ensures
