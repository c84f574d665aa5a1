use Rattle.board_book.specs.declared.book.Opening.{Opening}
use Rattle.std.proofs.Common.{◌≡◌, ℕ, sym, ap, ◌∙◌}
use Rattle.bisect_game.specs.declared.settled.Question.{Question}
use Rattle.bisect_game.specs.Rules.{rules_of}
use Rattle.toy_game.specs.declared.cast.Cast.{Cast}
use Rattle.toy_game.specs.Toy.{toy_ruling, answers, says_of}
use Rattle.test_boards.specs.Seats.{opening_of}
use Rattle.test_boards.proofs.ClaimLemmas.{same_opening, claims_may}
use Rattle.test_boards.proofs.boards_test.post_alone.Goals as goal

pub post-posted-requires-clause-may : goal.post-posted-requires-clause-may
post-posted-requires-clause-may g c = λ head e.
    let s = c.requires.seat in
    let p : ℕ = c.args.p in let opening : Opening ℕ Cast = opening_of s.judge c.args.cast s.setup in
    let same : opening ≡ head = same_opening c.args.board.now c.args.cast c.args.seat.now head s e in
    let said : says_of head.provers.players p ≡ answers c.player_at-player.result = ap (λ (h : Opening ℕ Cast). says_of h.provers.players p) (sym same) ∙ sym c.player_at-player.ensures in
    claims_may (rules_of (toy_ruling head.judge) head.setup) (says_of head.provers.players) p c.player_at-player.result _ c.args.passes said (c.move_of.ensures ∙ (c.in_ok-answer.ensures.says ∙ ap (λ (q : Question). answers c.player_at-player.result q c.args.passes) c.claim.ensures))
