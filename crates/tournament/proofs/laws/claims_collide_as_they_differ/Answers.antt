use Rattle.tournament.proofs.safety.CollidingLemmas as lemmas
use Rattle.tournament.proofs.laws.claims_collide_as_they_differ.Goals as goal

pub returns : goal.returns
returns c = record { none = lemmas.no_collision_if_none; least = lemmas.collision_of_least }
