-- There are no more open questions than provers.
use Rattle.std.proofs.Common.{ℕ, zero, suc, ◌+◌, ◌≤◌, length, Option, Some, None, length-append, arith}
use Rattle.bisect_game.specs.declared.settled.Question.{Question}
use Rattle.bisect_game.specs.Rules.{Rules}
use Rattle.tournament.specs.Bracket.{open_question}
use Rattle.tournament.specs.Moves.{MatchState}
use Rattle.tournament.specs.Posting.{passes_on}
use Rattle.coshalit_c.specs.Asked.{asked_if, asked_of}

one-at-most : (p passes : ℕ) (o : Option Question) → length (asked_if p passes o) ≤ 1
one-at-most p passes None = omega arith
one-at-most p passes (Some q) = omega arith

pub few_asked : (rules : Rules) (st : MatchState) (n : ℕ) → length (asked_of rules st n) ≤ n
few_asked rules st zero = omega arith
few_asked rules st (suc n) =
    let l = length-append (asked_of rules st n) (asked_if (n + 1) (passes_on rules st (n + 1)) (open_question rules st.record_ (n + 1))) in
    let one = one-at-most (n + 1) (passes_on rules st (n + 1)) (open_question rules st.record_ (n + 1)) in
    omega (arith, l, one, few_asked rules st n)
