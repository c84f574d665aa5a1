use Rattle.std.proofs.Common.{sym, subst}
use Rattle.digest_core.specs.Kinds.{IsOfKind}
use Rattle.digest_core.proofs.KindLemmas.{size-of_kind, same-size, same-kind}
use Rattle.digest_core.proofs.laws.kinds_have_lengths.Goals as goal

pub returns : goal.returns
returns c = record {
  length = λ k s is. size-of_kind k s is;
  apart = λ k l differ same. differ (same-size k l same);
  differ = λ k l s t apart first second same. apart (same-kind k l s first (subst (IsOfKind l) (sym same) second));
}
