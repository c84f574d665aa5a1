use Rattle.std.proofs.Common.{◌/◌, ◌%◌, ℕ, Option}
use Rattle.mem_plain.specs.Kept.{IsCopied}
use Rattle.mem_plain.specs.Pages.{page_of}
use Rattle.mem_plain.specs.declared.table.Table.{Table}
use Rattle.mem_plain.proofs.DirectoryLemmas.{zipped}
use Rattle.mem_plain.proofs.directory.Directory.copy.Goals as goal

pub returns : goal.returns
returns c q = zipped _ (λ (o p : Option Table). (low : ℕ) → IsCopied (page_of o low) (page_of p low)) (λ p q same. same) (λ p none. none) (λ q none. none) (λ low. tt) _ _ c.in_ok-clone.ensures.cases.0 (q / 1024) (q % 1024)
