use Rattle.merkle_nodes.specs.PathLaws.{one_opening}
use Rattle.merkle_nodes.proofs.laws.two_paths_agree_or_split.Goals as goal

pub returns : goal.returns
returns c = record { paths = λ digest is_digest a b s t k n. one_opening digest is_digest a b s t k n }
