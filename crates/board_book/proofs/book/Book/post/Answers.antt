use Rattle.std.proofs.Common.{◌∙◌, sym, refl, arith, [], ◌∷◌, ◌++◌, length, ◌≤◌, length-append}
use Rattle.tournament.specs.Posting.{answer_of}
use Rattle.tournament.specs.Match.{rules_in}
use Rattle.board_book.specs.declared.entry.Entry.{Entry}
use Rattle.board_book.specs.Keeping.{IsBook}
use Rattle.board_book.proofs.BookLemmas.{book-few, book-posted}
use Rattle.board_book.proofs.book.Book.post.Goals as goal

pub push_reserved-requires : goal.push_reserved-requires
push_reserved-requires g c =
    let e : Entry = record { p = c.args.p; qid = c.args.qid; pass = c.is_pass-pass.result; reply = c.post-reply.result } in
    let next : IsBook (rules_in g.J.Judge.ruling c.self.inside.game) (g.P.Provers.says (g.P.Provers.names c.self.inside.provers)) _ (c.self.inside.journal.items ++ e ∷ []) c.post-reply.new.self.game c.self.inside.room _ =
    book-posted (rules_in g.J.Judge.ruling c.self.inside.game) (g.P.Provers.says (g.P.Provers.names c.self.inside.provers)) _ c.self.inside.journal.items c.self.inside.game.game c.post-reply.new.self.game c.self.inside.room _ _ c.args.p c.args.qid (answer_of c.args.turn) e
    c.self.invariant c.requires.some (rw (← c.self.view_is) at c.requires.says) refl refl c.is_pass-pass.ensures c.post-reply.ensures.reply (sym c.is_stale.ensures ∙ c.if-not-is_stale.true) c.post-reply.ensures.state refl in
    let few : length (c.self.inside.journal.items ++ e ∷ []) ≤ c.self.inside.room = book-few c.spare_is_enough.ensures _ _ _ (c.self.inside.journal.items ++ e ∷ []) _ c.self.inside.room _ next in
    omega (arith, few, length-append c.self.inside.journal.items (e ∷ []), c.self.inside.journal.ok.0, c.self.invariant.capacity_)

pub invariant_of-self : goal.invariant_of-self
invariant_of-self g c =
    let e : Entry = record { p = c.args.p; qid = c.args.qid; pass = c.is_pass-pass.result; reply = c.post-reply.result } in
    rw (c.post-reply.ensures.names, c.post-reply.ensures.setup, c.push_reserved.ensures.items)
    (book-posted (rules_in g.J.Judge.ruling c.self.inside.game) (g.P.Provers.says (g.P.Provers.names c.self.inside.provers)) _ c.self.inside.journal.items c.self.inside.game.game c.post-reply.new.self.game c.self.inside.room _ _ c.args.p c.args.qid (answer_of c.args.turn) e
    c.self.invariant c.requires.some (rw (← c.self.view_is) at c.requires.says) refl refl c.is_pass-pass.ensures c.post-reply.ensures.reply (sym c.is_stale.ensures ∙ c.if-not-is_stale.true) c.post-reply.ensures.state c.push_reserved.ensures.capacity)
