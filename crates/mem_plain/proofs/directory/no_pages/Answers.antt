use Rattle.std.proofs.Common.{◌≡◌, replicate, Option, None, ap, ◌∙◌, arith}
use Rattle.mem_plain.specs.declared.page.Page.{Page}
use Rattle.mem_plain.proofs.directory.no_pages.Goals as goal

pub returns : goal.returns
returns c =
    let all : c.pages._k ≡ 1024 = omega (arith, c.pages-test.false) in
    c.pages.invariant.items ∙ ap (λ n. replicate {A = Option Page} n None) all
