use Rattle.mem_plain.specs.Kept.{IsCopied}
use Rattle.mem_plain.proofs.DirectoryLemmas.{zipped}
use Rattle.mem_plain.proofs.directory.TableClone.clone.Goals as goal

pub returns : goal.returns
returns c = record { cases = zipped _ IsCopied (λ p q same. same) (λ p none. none) (λ q none. none) tt _ _ c.in_ok-clone.ensures.cases.0 }
