use Rattle.open_proof.specs.CollisionLaws.{no_collision_of_one_proof, proofs_without_collision, proofs_apart, proofs_collide}
use Rattle.open_proof.proofs.collision.laws.proofs_from_one_root.Goals as goal

pub returns : goal.returns
returns c = record {
  equal = no_collision_of_one_proof;
  without = proofs_without_collision;
  apart = proofs_apart;
  collision = λ digest version a x y pair some. proofs_collide digest x y pair version a some;
}
