use Rattle.std.proofs.Common.{◌-◌, ◌∙◌, refl, sym, ap, subst}
use Rattle.std.proofs.lemmas.Option.{same_Some}
use Rattle.bisect_game.specs.Setup.{Setup}
use Rattle.bisect_game.specs.Says.{AnswerAs}
use Rattle.board_book.specs.Tasks.{openings, BookOf}
use Rattle.board_book.proofs.KeepingLemmas.{opening_there}
use Rattle.board_book.proofs.FinishLemmas.{from_within, own_within, own_answers, part_kept, next_part}
use Rattle.board_book.proofs.books.Books.finish_part.Goals as goal

pub split_at_mut-rest-requires : goal.split_at_mut-rest-requires
split_at_mut-rest-requires g c =
    from_within g.A.Answerer.answers g.P.Provers.says (openings c.args.self.now.books) (c.args.t - 1) c.book.result.now.opening c.args.answerers.now c.args.from c.provers-provers.result
    (record { there = opening_there c.args.self.now.books c.args.t c.book.result.now c.book.ensures; all = c.requires.says; start = c.requires.from; many = c.provers-provers.ensures.is ∙ ap (λ (s : Setup). s.provers) (c.setup.ensures.is ∙ ap (λ m. m.setup) c.game.ensures.value) })

pub split_at_mut-own-requires : goal.split_at_mut-own-requires
split_at_mut-own-requires g c =
    own_within g.A.Answerer.answers g.P.Provers.says (openings c.args.self.now.books) (c.args.t - 1) c.book.result.now.opening c.args.answerers.now c.args.from c.provers-provers.result
    (record { there = opening_there c.args.self.now.books c.args.t c.book.result.now c.book.ensures; all = c.requires.says; start = c.requires.from; many = c.provers-provers.ensures.is ∙ ap (λ (s : Setup). s.provers) (c.setup.ensures.is ∙ ap (λ m. m.setup) c.game.ensures.value) })
    c.split_at_mut-rest.result.1.now c.split_at_mut-rest.ensures.back

pub finish_task-requires-clause-says : goal.finish_task-requires-clause-says
finish_task-requires-clause-says g c κs within = λ b e.
    subst (λ (x : BookOf g.row.J-Names.Denot g.row.P-Names.Denot). AnswerAs g.A.Answerer.answers (g.P.Provers.says x.opening.provers) 1 c.split_at_mut-own.result.0.now) (same_Some c.book.result.now b (sym c.book.ensures ∙ e))
    (own_answers g.A.Answerer.answers g.P.Provers.says (openings c.args.self.now.books) (c.args.t - 1) c.book.result.now.opening c.args.answerers.now c.args.from c.provers-provers.result
    (record { there = opening_there c.args.self.now.books c.args.t c.book.result.now c.book.ensures; all = c.requires.says; start = c.requires.from; many = c.provers-provers.ensures.is ∙ ap (λ (s : Setup). s.provers) (c.setup.ensures.is ∙ ap (λ m. m.setup) c.game.ensures.value) })
    c.split_at_mut-rest.result.1.now c.split_at_mut-own.result.0.now c.split_at_mut-rest.ensures.back c.split_at_mut-own.ensures.front)

pub returns-in_err-finish_task-clause-keeps : goal.returns-in_err-finish_task-clause-keeps
returns-in_err-finish_task-clause-keeps g c =
    part_kept g.A.Answerer.answers g.P.Provers.says (openings c.args.self.now.books) (c.args.t - 1) c.book.result.now.opening c.args.answerers.now c.args.from c.provers-provers.result
    (record { there = opening_there c.args.self.now.books c.args.t c.book.result.now c.book.ensures; all = c.requires.says; start = c.requires.from; many = c.provers-provers.ensures.is ∙ ap (λ (s : Setup). s.provers) (c.setup.ensures.is ∙ ap (λ m. m.setup) c.game.ensures.value) })
    c.split_at_mut-rest.result.0.now c.split_at_mut-rest.result.1.now c.split_at_mut-own.result.0.now c.split_at_mut-own.result.1.now c.finish_task.new.answerers c.split_at_mut-rest.ensures.front c.split_at_mut-rest.ensures.back c.split_at_mut-own.ensures.front c.split_at_mut-own.ensures.back c.finish_task.auto.answerers
    (c.finish_task.ensures.keeps c.book.result.now c.book.ensures)

pub returns-in_err-finish_task-clause-books : goal.returns-in_err-finish_task-clause-books
returns-in_err-finish_task-clause-books g c =
    let b = c.finish_task.ensures.books in record { found = b.found; left = b.left; there = b.there; opening = b.opening; others = b.others; complete = search Rattle.std.proofs.Common.rules }

pub returns-clause-next : goal.returns-clause-next
returns-clause-next g c =
    next_part g.A.Answerer.answers g.P.Provers.says (openings c.args.self.now.books) (c.args.t - 1) c.book.result.now.opening c.args.answerers.now c.args.from c.provers-provers.result
    (record { there = opening_there c.args.self.now.books c.args.t c.book.result.now c.book.ensures; all = c.requires.says; start = c.requires.from; many = c.provers-provers.ensures.is ∙ ap (λ (s : Setup). s.provers) (c.setup.ensures.is ∙ ap (λ m. m.setup) c.game.ensures.value) })
    c.args.t c.requires.task refl

pub returns-clause-keeps : goal.returns-clause-keeps
returns-clause-keeps g c =
    part_kept g.A.Answerer.answers g.P.Provers.says (openings c.args.self.now.books) (c.args.t - 1) c.book.result.now.opening c.args.answerers.now c.args.from c.provers-provers.result
    (record { there = opening_there c.args.self.now.books c.args.t c.book.result.now c.book.ensures; all = c.requires.says; start = c.requires.from; many = c.provers-provers.ensures.is ∙ ap (λ (s : Setup). s.provers) (c.setup.ensures.is ∙ ap (λ m. m.setup) c.game.ensures.value) })
    c.split_at_mut-rest.result.0.now c.split_at_mut-rest.result.1.now c.split_at_mut-own.result.0.now c.split_at_mut-own.result.1.now c.finish_task.new.answerers c.split_at_mut-rest.ensures.front c.split_at_mut-rest.ensures.back c.split_at_mut-own.ensures.front c.split_at_mut-own.ensures.back c.finish_task.auto.answerers
    (c.finish_task.ensures.keeps c.book.result.now c.book.ensures)
