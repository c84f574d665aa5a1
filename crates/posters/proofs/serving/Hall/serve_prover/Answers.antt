use Rattle.std.proofs.Common.{◌≡◌, ℕ, List, Some, sym, ◌∙◌, subst}
use Rattle.tournament.specs.Posting.{answer_of}
use Rattle.board_book.specs.declared.book.Opening.{Opening}
use Rattle.board_book.specs.Tasks.{tasks_of_openings}
use Rattle.dispute_board.specs.OneHistory.{MayPostFor, IsThere}
use Rattle.posters.proofs.Numbering.{is_there}
use Rattle.std.proofs.lemmas.Option.{same_Some}
use Rattle.posters.proofs.Seats.{may_post_for}
use Rattle.posters.proofs.serving.Hall.serve_prover.Goals as goal

pub ask-requires-clause-there : goal.ask-requires-clause-there
ask-requires-clause-there g c = λ heads e.
    let r = c.requires.seat in
    let same : r.0 ≡ heads = same_Some r.0 heads (sym r.1.head_is ∙ e) in
    subst (λ (hs : List (Opening g.row.J-Names.Denot g.row.P-Names.Denot)). IsThere (tasks_of_openings g.J.Judge.ruling g.P.Provers.says hs) c.args.place.task c.args.place.prover) same
    (is_there g.J.Judge.ruling g.P.Provers.says c.tasks_are_numbered.ensures r.0 c.args.place (g.A.Answerer.answers c.args.answerer.now) r.2)

pub post-posted-requires-clause-there : goal.post-posted-requires-clause-there
post-posted-requires-clause-there g c = λ heads e.
    let a = c.ask.ensures in let r = c.requires.seat in
    let here : a.0 ≡ heads = same_Some a.0 heads (sym (a.2.stands.same.head ∙ a.1) ∙ e) in
    let first : r.0 ≡ a.0 = same_Some r.0 a.0 (sym r.1.head_is ∙ a.1) in
    subst (λ (hs : List (Opening g.row.J-Names.Denot g.row.P-Names.Denot)). IsThere (tasks_of_openings g.J.Judge.ruling g.P.Provers.says hs) c.args.place.task c.args.place.prover) (first ∙ here)
    (is_there g.J.Judge.ruling g.P.Provers.says c.tasks_are_numbered.ensures r.0 c.args.place (g.A.Answerer.answers c.args.answerer.now) r.2)

pub post-posted-requires-clause-may : goal.post-posted-requires-clause-may
post-posted-requires-clause-may g c = λ heads e.
    let a = c.ask.ensures in let r = c.requires.seat in
    let question = c.in-Question.question in let passes : ℕ = c.in-Question.passes in
    let here : a.0 ≡ heads = same_Some a.0 heads (sym (a.2.stands.same.head ∙ a.1) ∙ e) in
    let first : r.0 ≡ a.0 = same_Some r.0 a.0 (sym r.1.head_is ∙ a.1) in
    let m : answer_of c.move_of.result ≡ g.A.Answerer.answers c.args.answerer.now question passes = c.move_of.ensures ∙ c.in-Ok.ensures.says in
    subst (λ (hs : List (Opening g.row.J-Names.Denot g.row.P-Names.Denot)). MayPostFor (tasks_of_openings g.J.Judge.ruling g.P.Provers.says hs) c.args.place.task c.args.place.prover question.qid (answer_of c.move_of.result)) (first ∙ here)
    (may_post_for g.J.Judge.ruling g.P.Provers.says c.tasks_are_numbered.ensures c.what_is_said_may_be_posted.ensures r.0 c.args.place (g.A.Answerer.answers c.args.answerer.now) question passes (answer_of c.move_of.result) r.2 a.2.task
    (subst (λ (hs : List (Opening g.row.J-Names.Denot g.row.P-Names.Denot)). Rattle.board_book.specs.Tasks.numbered (tasks_of_openings g.J.Judge.ruling g.P.Provers.says hs) c.args.place.task ≡ Some a.2.task) (sym first) a.2.there)
    (a.2.asked question passes c.in-Question.is) m)

-- with nothing to do the turn is idle
pub returns-in-Nothing-clause-over : goal.returns-in-Nothing-clause-over
returns-in-Nothing-clause-over g c = λ over. absurd (cc over)
