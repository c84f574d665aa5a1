-- To believe: the names of digests, as a table, and the digest function of each.
use Rattle.std.specs.Prelude.{ℕ, List, [], ◌∷◌, Option, codes, find, bytes_eq}
use Rattle.sha2.specs.Sha256.{sha256}
use Rattle.digest_core.specs.Weak8.{weak8}
use Rattle.digest_core.specs.declared.name.DigestName.{DigestName}
use Rattle.digest_core.specs.declared.name.DigestName.TheVariants.{Sha256, Weak8}

abbrev pub digest_text : DigestName → List ℕ
digest_text Sha256 = codes "sha256"
digest_text Weak8 = codes "weak8"

-- each digest that a text or a command may name
abbrev pub digest_names : List DigestName
digest_names = Sha256 ∷ Weak8 ∷ []

-- the digest of a name
abbrev pub digest_named : List ℕ → Option DigestName
digest_named text = find (λ name. bytes_eq text (digest_text name)) digest_names

-- the digest functions, each by its name. Everything that is said of a match speaks of the function of a name.
abbrev pub digest_of : DigestName → List ℕ → List ℕ
digest_of Sha256 = sha256
digest_of Weak8 = weak8
