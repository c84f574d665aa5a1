use Rattle.std.proofs.Common.{◌≡◌, bytes_eq, drop, find}
use Rattle.digest_core.specs.Name.{digest_text}
use Rattle.digest_core.specs.declared.name.DigestName.{DigestName}
use Rattle.digest_core.proofs.name.digest_among.Given as goal

abbrev pub invariant-digests : goal.invariant-digests
invariant-digests l = find (λ (d : DigestName). bytes_eq l.name (digest_text d)) l.digests ≡ find (λ (d : DigestName). bytes_eq l.name (digest_text d)) (drop l.digest-index l.digests)
