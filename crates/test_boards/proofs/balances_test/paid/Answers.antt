use Rattle.std.proofs.Common.{◌≡◌, true}
use Rattle.tournament.specs.Bracket.{is_complete}
use Rattle.test_boards.proofs.PaidLemmas.{settled-up}
use Rattle.test_boards.proofs.balances_test.paid.Goals as goal

pub settled-requires-clause-settled_up : goal.settled-requires-clause-settled_up
settled-requires-clause-settled_up c =
    let over : is_complete c.args.game.now.game.record_ ≡ true = cc in
    let ranges = c.setup-setup.ensures.ranges in
    rw c.provers-provers.ensures.is (settled-up c.a_match_that_has_ended_is_settled_up.ensures _ c.args.game.now.setup c.setup-setup.result c.args.game.now.game c.record.result.now c.is_after_posts.ensures c.setup-setup.ensures.is
    c.record.ensures over ranges.some ranges.parted ranges.few_parts ranges.steps)
