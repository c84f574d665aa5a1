pub mod CollisionLemmas
