use Rattle.std.proofs.Common.{◌≡◌, take}
use Rattle.digest_core.specs.Chain as chain
use Rattle.out_chain.proofs.checking.chain_of.Given as goal

abbrev pub invariant-bytes : goal.invariant-bytes
invariant-bytes g l = l.chain.0 ≡ chain.chain_of g.D.Digester.digest_of (take l.byte-index l.output)
