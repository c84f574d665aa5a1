-- The record of a match that is over may be paid.
use Rattle.std.proofs.Common.{◌≡◌, ◌<◌, ◌≤◌, true, List, sym, ap, ◌∙◌, subst}
use Rattle.bisect_game.specs.Ruling.{Ruling}
use Rattle.bisect_game.specs.Rules.{Rules, ArePlayable}
use Rattle.bisect_game.specs.Setup.{Setup}
use Rattle.tournament.specs.Bracket.{Record, is_complete}
use Rattle.tournament.specs.Moves.{MatchState, begun}
use Rattle.tournament.specs.Posting.{Post, after_posts, record_after}
use Rattle.bisect_game.specs.Rules.{rules_of}
use Rattle.deposits.specs.Balances.{IsSettledUp}
use Rattle.deposits.specs.Theorem.{EndedIsSettledUp}

pub settled-up : EndedIsSettledUp → (ruling : Ruling) (table setup : Setup) (st : MatchState) (r : Record) →
    ((xs : List Post) × (after_posts (rules_of ruling table) xs (begun (rules_of ruling table)) ≡ st)) → setup ≡ table → r ≡ st.record_ → is_complete st.record_ ≡ true →
    0 < setup.provers → 1 < setup.fan → setup.fan ≤ 16 → 0 < setup.bound → IsSettledUp setup.provers r
settled-up ended ruling table setup st r posts same is over some parted few steps =
    let rules : Rules = rules_of ruling table in
    let comes : record_after rules posts.0 ≡ r = ap (λ (s : MatchState). s.record_) posts.1 ∙ sym is in
    let playable : ArePlayable rules = record {
      some = subst (λ (t : Setup). 0 < t.provers) same some;
      parted = subst (λ (t : Setup). 1 < t.fan) same parted;
      few_parts = subst (λ (t : Setup). t.fan ≤ 16) same few;
      steps = subst (λ (t : Setup). 0 < t.bound) same steps;
    } in
    let closed : is_complete (record_after rules posts.0) ≡ true = subst (λ (s : MatchState). is_complete s.record_ ≡ true) (sym posts.1) over in
    subst (λ (t : Setup). IsSettledUp t.provers r) (sym same) (subst (λ (x : Record). IsSettledUp table.provers x) comes (ended rules posts.0 playable closed))
