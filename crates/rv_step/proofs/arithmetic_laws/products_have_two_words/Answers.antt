use Rattle.rv_step.proofs.ArithmeticLawLemmas.{products}
use Rattle.rv_step.proofs.arithmetic_laws.products_have_two_words.Goals as goal

pub returns : goal.returns
returns c = products
