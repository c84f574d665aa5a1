use Rattle.std.proofs.Common.{◌≤◌, ◌-◌, length, ap, set, is_none}
use Rattle.tournament.specs.Posting.{answer_of}
use Rattle.board_book.specs.declared.entry.Entry.{Entry}
use Rattle.board_book.proofs.KeepingLemmas.{GrewAt, book_read, grew_there, grew_room, grew_kept, grew_noted, grown_by_note, book_is, heads_same}
use Rattle.board_book.proofs.books.Books.post.Goals as goal

pub post-reply-requires-clause-says : goal.post-reply-requires-clause-says
post-reply-requires-clause-says g c =
    let few : c.args.t ≤ length c.self.inside.books.items = rw (← c.self.view_is) at c.requires.tasks in
    let says = rw (← c.self.view_is) at c.requires.says in
    says c.index_mut-book.result.now (book_read c.self.inside.books.items c.args.t c.index_mut-book.result.now c.requires.task few c.index_mut-book.ensures.value)

pub note_from-requires-clause-room : goal.note_from-requires-clause-room
note_from-requires-clause-room g c =
    let few : c.args.t ≤ length c.self.inside.books.items = rw (← c.self.view_is) at c.requires.tasks in
    let grew : GrewAt g.J.Judge.ruling g.P.Provers.says c.self.inside.books.items c.args.t c.index_mut-book.result.now c.post-reply.new.self c.journal-before.result.now c.journal.result.now =
    record { some = c.requires.task; few = few; lent = c.index_mut-book.ensures.value; old = c.journal-before.ensures; new = c.journal.ensures; grows = record { opening = c.post-reply.ensures.opening; journal = grown_by_note _ _ _ c.post-reply.ensures.journal; legal = c.is_legal.ensures.legal; few = c.fits_its_room.ensures } } in
    grew_room g.J.Judge.ruling g.P.Provers.says _ _ _ _ _ _ grew c.self.inside.journal.items _ c.self.invariant

pub invariant_of-self : goal.invariant_of-self
invariant_of-self g c =
    let few : c.args.t ≤ length c.self.inside.books.items = rw (← c.self.view_is) at c.requires.tasks in
    let grew : GrewAt g.J.Judge.ruling g.P.Provers.says c.self.inside.books.items c.args.t c.index_mut-book.result.now c.post-reply.new.self c.journal-before.result.now c.journal.result.now =
    record { some = c.requires.task; few = few; lent = c.index_mut-book.ensures.value; old = c.journal-before.ensures; new = c.journal.ensures; grows = record { opening = c.post-reply.ensures.opening; journal = grown_by_note _ _ _ c.post-reply.ensures.journal; legal = c.is_legal.ensures.legal; few = c.fits_its_room.ensures } } in
    grew_kept g.J.Judge.ruling g.P.Provers.says _ _ _ _ _ _ grew c.self.inside.journal.items c.note_from.new.journal.items _ _ c.self.invariant c.note_from.ensures.items c.note_from.ensures.room

pub returns-clause-openings : goal.returns-clause-openings
returns-clause-openings g c =
    let few : c.args.t ≤ length c.self.inside.books.items = rw (← c.self.view_is) at c.requires.tasks in
    rw (← c.self.view_is) (heads_same c.self.inside.books.items c.args.t c.index_mut-book.result.now c.post-reply.new.self (book_read c.self.inside.books.items c.args.t c.index_mut-book.result.now c.requires.task few c.index_mut-book.ensures.value) c.post-reply.ensures.opening)

pub returns-clause-posts : goal.returns-clause-posts
returns-clause-posts g c =
    let few : c.args.t ≤ length c.self.inside.books.items = rw (← c.self.view_is) at c.requires.tasks in
    let grew : GrewAt g.J.Judge.ruling g.P.Provers.says c.self.inside.books.items c.args.t c.index_mut-book.result.now c.post-reply.new.self c.journal-before.result.now c.journal.result.now =
    record { some = c.requires.task; few = few; lent = c.index_mut-book.ensures.value; old = c.journal-before.ensures; new = c.journal.ensures; grows = record { opening = c.post-reply.ensures.opening; journal = grown_by_note _ _ _ c.post-reply.ensures.journal; legal = c.is_legal.ensures.legal; few = c.fits_its_room.ensures } } in
    let e : Entry = record { p = c.args.p; qid = c.args.qid; pass = is_none (answer_of c.args.turn); reply = c.post-reply.result } in
    rw (← c.self.view_is) (record {
      book = c.index_mut-book.result.now;
      there = grew_there g.J.Judge.ruling g.P.Provers.says _ _ _ _ _ _ grew;
      replied = c.post-reply.ensures.reply;
      notes = grew_noted g.J.Judge.ruling g.P.Provers.says _ _ _ _ _ _ grew c.self.inside.journal.items c.note_from.new.journal.items e c.note_from.ensures.items c.post-reply.ensures.journal;
      others = ap (set c.self.inside.books.items (c.args.t - 1)) (book_is c.post-reply.new.self c.index_mut-book.result.now _ _ c.post-reply.ensures.opening c.post-reply.ensures.journal c.post-reply.ensures.state);
    })
