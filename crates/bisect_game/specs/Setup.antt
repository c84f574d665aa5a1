-- To believe: the numbers by which a match is played.
use Rattle.std.specs.Prelude.{ℕ, ◌^◌, ◌<◌, ◌≤◌}
use Rattle.rd_base.specs.declared.digest.Digest32.{Digest32}

-- how many provers there are, how many steps the run has, in how many parts a round cuts its interval, how many passes a question allows, and
-- the root at step 0
pub record Setup : Type 0 where
  pub provers : ℕ
  pub bound : ℕ
  pub fan : ℕ
  pub patience : ℕ
  pub start : Digest32

-- the numbers of a match are in their ranges: 1 to 65,536 provers, a bound of 1 to 2^32 - 1 steps, a fan of 2 to 16
pub record AreInRange (setup : Setup) : Type 0 where
  pub some : 0 < setup.provers
  pub few : setup.provers ≤ 2 ^ 16
  pub steps : 0 < setup.bound
  pub short : setup.bound < 2 ^ 32
  pub parted : 1 < setup.fan
  pub few_parts : setup.fan ≤ 16
