-- Who answers truly stays, the verdict is right, and nobody is put out twice.
pub mod LiveLemmas
pub mod ClaimLemmas
pub mod MatchLemmas
pub mod VerdictLemmas
pub mod CollidingLemmas
pub mod TruthfulLemmas
pub mod TheoremLemmas
pub mod TrueMoveLemmas
pub mod OutLemmas
pub mod ListedLemmas
pub mod PairLemmas
pub mod SurvivorLemmas
pub mod UndecidedLemmas
pub mod LieLemmas
