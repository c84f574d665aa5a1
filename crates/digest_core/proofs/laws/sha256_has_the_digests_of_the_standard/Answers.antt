use Rattle.sha2.proofs.Facts256.{digest_of_abc_256, digest_of_two_blocks_256}
use Rattle.digest_core.proofs.laws.sha256_has_the_digests_of_the_standard.Goals as goal

pub returns-clause-one_block : goal.returns-clause-one_block
returns-clause-one_block c = digest_of_abc_256

pub returns-clause-two_blocks : goal.returns-clause-two_blocks
returns-clause-two_blocks c = digest_of_two_blocks_256
