-- To believe: which contents a memory of 2^32 bytes can have.
use Rattle.std.specs.Prelude.{◌≡◌, ℕ, ◌<◌}
use Rattle.mem_plain.specs.Contents.{Contents, byte_at, contents_with}

-- each byte is one, and none is kept of an address from 2^32 on, nor one that is 0: so the contents are made of their bytes
pub record IsMemory (m : Contents) : Type 0 where
  pub bytes : (a : ℕ) → byte_at m a < 256
  pub whole : contents_with (byte_at m) ≡ m
