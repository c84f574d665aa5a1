use Rattle.std.proofs.Common.{rules, ◌≡◌, ℕ, ◌+◌, ◌<◌, ◌≤◌, arith, List, ◌++◌, append_assoc, length, map, get_or, refl, sym, ap, ◌∙◌, subst}
use Rattle.seat_lock.specs.History.{log_of, Begins}
use Rattle.board_book.specs.declared.book.Opening.{Opening}
use Rattle.board_book.specs.Tasks.{openings, sayings}
use Rattle.dispute_board.specs.OneHistory.{log_of_journal}
use Rattle.posters.specs.declared.serving.Poster.{Poster}
use Rattle.std.proofs.lemmas.List.{length-map}
use Rattle.posters.specs.Serving.{places_from, staying_part_of, saying_of}
use Rattle.posters.proofs.Numbering.{all_by_number, as_many}
use Rattle.std.proofs.lemmas.Option.{same_Some}
use Rattle.posters.proofs.Seats.{log_of-turns_of}
use Rattle.posters.proofs.Servers.{kept_back}
use Rattle.posters.proofs.playing.play_tasks.Goals as goal

pub serve_all-requires-clause-ready : goal.serve_all-requires-clause-ready
serve_all-requires-clause-ready g c κs within =
    let heads = openings c.args.books.books in let seats = c.seat_posters.ensures.seats in let same = c.as_mut_slice.ensures.value in
    let opening = ap (λ k. k.head) c.in_ok-board.ensures in (
      saying_of g.P.Provers.says heads,
      (
          λ k d below.
          let seat = subst (λ (xs : List (Poster g.row.J.Denot g.row.P.Denot g.row.J-Names.Denot g.row.P-Names.Denot)). ((get_or xs k d).seat.lock ≡ c.in_ok-board.board) × ((get_or xs k d).seat.head ≡ c.in_ok-board.seat.head)) (sym same)
          (seats k d (subst (λ (xs : List (Poster g.row.J.Denot g.row.P.Denot g.row.J-Names.Denot g.row.P-Names.Denot)). k < length xs) same below)) in
          (heads, record { lock = seat.0; head_is = seat.1 ∙ opening }, c.in_ok-places.ensures.places, refl)
          ),
      all_by_number g.A.Answerer.answers g.P.Provers.says heads c.args.answerers.now c.requires.says,
    )

pub serve_all-requires-clause-few : goal.serve_all-requires-clause-few
serve_all-requires-clause-few g c κs within =
    let said : length c.args.answerers.now ≡ length (sayings g.P.Provers.says (openings c.args.books.books)) = sym (length-map c.args.answerers.now g.A.Answerer.answers) ∙ ap length c.requires.says in
    let many : length (places_from 1 (openings c.args.books.books)) ≡ length (sayings g.P.Provers.says (openings c.args.books.books)) = as_many g.P.Provers.says 1 (openings c.args.books.books) in
    let here : length c.in_ok-places.places.items ≡ length (places_from 1 (openings c.args.books.books)) = ap length c.in_ok-places.ensures.places in
    let few : length c.in_ok-places.places.items ≤ 128 = c.in_ok-places.ensures.few in
    (omega (arith, said, many, here, few), search rules)

pub serve_all-requires-clause-classes : goal.serve_all-requires-clause-classes
serve_all-requires-clause-classes g c κs within = λ i d below.
    let same = c.as_mut_slice.ensures.value in
    subst (λ (xs : List (Poster g.row.J.Denot g.row.P.Denot g.row.J-Names.Denot g.row.P-Names.Denot)). (get_or xs i d).class ≡ 0 + i) (sym same)
    (c.seat_posters.ensures.classes i d (subst (λ (xs : List (Poster g.row.J.Denot g.row.P.Denot g.row.J-Names.Denot g.row.P-Names.Denot)). i < length xs) same below))

pub join_posters-requires-clause-seats : goal.join_posters-requires-clause-seats
join_posters-requires-clause-seats g c =
    let same = c.as_mut_slice.ensures.value in let stays : Poster g.row.J.Denot g.row.P.Denot g.row.J-Names.Denot g.row.P-Names.Denot → Rattle.seat_lock.specs.Seats.Known (List (Opening g.row.J-Names.Denot g.row.P-Names.Denot)) × ℕ = λ w. (staying_part_of w.seat, w.class) in
    let full : c.seat_posters.new.posters.len ≡ length c.seat_posters.new.posters.items = search rules in
    kept_back stays (λ k. k.0.lock ≡ c.in_ok-board.board) c.serve_all.new.servers c.seat_posters.new.posters.items c.seat_posters.new.posters.len full (c.serve_all.ensures.servers ∙ ap (map stays) same) (λ k d below. (c.seat_posters.ensures.seats k d below).0)

pub finish_alone-requires-clause-says : goal.finish_alone-requires-clause-says
finish_alone-requires-clause-says g c κs within =
    let same : openings c.args.books.books ≡ openings c.into_books-played.result.books = same_Some (openings c.args.books.books) (openings c.into_books-played.result.books) (sym (ap (λ k. k.head) c.in_ok-board.ensures) ∙ sym c.seat_posters.ensures.seat.2 ∙ sym c.join_posters.ensures.seat.2 ∙ c.into_books-played.ensures.openings) in
    c.serve_all.ensures.items ∙ (c.requires.says ∙ ap (sayings g.P.Provers.says) same)

pub returns-clause-prefix : goal.returns-clause-prefix
returns-clause-prefix g c =
    let opened = c.in_ok-board.ensures in let log = log_of_journal c.args.books.journal in let into = c.into_books-played in
    let start : log_of c.seat_posters.new.seat.seen ≡ log = ap log_of (c.seat_posters.ensures.seen ∙ ap (λ k. k.seen) opened) ∙ log_of-turns_of log in
    let logs = c.join_posters.ensures.seen (log_of_journal into.result.journal) into.ensures.journal into.ensures.joined in
    let begins = c.logs_tell_journals.ensures.start c.args.books.journal into.result.journal (subst (λ l. Begins l (log_of_journal into.result.journal)) start logs) in
    let played = c.finish_alone.ensures.prefix in
    (begins.0 ++ played.0, played.1 ∙ ap (λ l. l ++ played.0) begins.1 ∙ append_assoc c.args.books.journal begins.0 played.0)
