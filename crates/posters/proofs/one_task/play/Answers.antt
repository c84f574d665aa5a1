use Rattle.std.proofs.Common.{◌≡◌, ◌∙◌, ◌<◌, ℕ, List, [], ◌∷◌, ◌++◌, true, length, get_or, sym, ap, subst, arith}
use Rattle.std.proofs.lemmas.List.{length-map}
use Rattle.tournament.specs.Bracket.{is_complete}
use Rattle.board_book.specs.declared.entry.Entry.{Entry}
use Rattle.board_book.specs.Tasks.{entries_of, openings, BookOf, sayings}
use Rattle.posters.proofs.Answering.{answer_again}
use Rattle.posters.proofs.Numbering.{single_said, entries_more}
use Rattle.posters.proofs.one_task.play.Goals as goal

pub play_tasks-requires-clause-says : goal.play_tasks-requires-clause-says
play_tasks-requires-clause-says g c κs within =
    single_said g.A.Answerer.answers c.answerers_say_in_order.ensures (g.P.Provers.says c.args.book.opening.provers) c.args.book.opening.setup.provers c.args.answerers.now c.requires.count c.requires.says ∙ ap (λ bs. sayings g.P.Provers.says (openings bs.books)) (sym c.in_ok-books.ensures)

pub into_one-requires : goal.into_one-requires
into_one-requires g c = record { one = sym (length-map c.in_ok-played.played.books (λ (x : BookOf g.row.J-Names.Denot g.row.P-Names.Denot). x.opening)) ∙ ap length (c.in_ok-played.ensures.openings ∙ ap (λ bs. openings bs.books) c.in_ok-books.ensures) }

pub returns-in_err-played-clause-keeps : goal.returns-in_err-played-clause-keeps
returns-in_err-played-clause-keeps g c = answer_again g.A.Answerer.answers (g.P.Provers.says c.args.book.opening.provers) 1 c.args.answerers.now c.play_tasks.new.answerers c.play_tasks.ensures.keeps c.requires.says

pub returns-clause-keeps : goal.returns-clause-keeps
returns-clause-keeps g c = answer_again g.A.Answerer.answers (g.P.Provers.says c.args.book.opening.provers) 1 c.args.answerers.now c.play_tasks.new.answerers c.play_tasks.ensures.keeps c.requires.says

pub returns-clause-complete : goal.returns-clause-complete
returns-clause-complete g c =
    (subst (λ (bs : List (BookOf g.row.J-Names.Denot g.row.P-Names.Denot)). (k : ℕ) (d : BookOf g.row.J-Names.Denot g.row.P-Names.Denot) → k < length bs → is_complete (get_or bs k d).game.record_ ≡ true) (ap (λ bs. bs.books) c.into_one.ensures) c.in_ok-played.ensures.complete) 0 c.into_one.result (omega arith)

pub returns-clause-opening : goal.returns-clause-opening
returns-clause-opening g c =
    let heads : openings c.in_ok-played.played.books ≡ c.args.book.opening ∷ [] = c.in_ok-played.ensures.openings ∙ ap (λ bs. openings bs.books) c.in_ok-books.ensures in
    ap (λ hs. get_or hs 0 c.args.book.opening) (sym (ap (λ bs. openings bs.books) c.into_one.ensures) ∙ heads)

pub returns-clause-prefix : goal.returns-clause-prefix
returns-clause-prefix g c =
    let p = c.in_ok-played.ensures.prefix in
    (entries_of 1 p.0, entries_more c.entries_are_told_apart.ensures c.into_one.result.journal c.args.book.journal p.0 c.in_ok-played.played.journal (ap (λ bs. bs.journal) c.into_one.ensures) (p.1 ∙ ap (λ (l : List (ℕ × Entry)). l ++ p.0) (ap (λ bs. bs.journal) c.in_ok-books.ensures)))
