-- What is read is within the limits, and these are the conditions of the audit.
use Rattle.std.proofs.Common.{ℕ, List, [], ◌∷◌, arith}
use Rattle.std.proofs.lemmas.List.Elements.{All-nil, All-cons}
use Rattle.transcript_text.specs.declared.text.TextMove.{TextMove}
use Rattle.transcript_text.specs.reader.InLimits.{IsHeadInLimits, IsMoveInLimits, AreMovesInLimits, IsInLimits}
use Rattle.transcript_text.specs.reader.Laws.{ReadsExactly}
use Rattle.audit.specs.LineByLine.{IsOfProver, AreOfProvers}
use Rattle.audit.specs.Auditable.{MayBeAudited, ReadTextsMayBeAudited}

of-provers : (provers : ℕ) (ms : List TextMove) → AreMovesInLimits provers ms → AreOfProvers provers ms
of-provers provers [] limits = All-nil (IsOfProver provers)
of-provers provers (m ∷ ms) limits =
    let here : IsMoveInLimits provers m = limits.0 in
    All-cons (IsOfProver provers) m ms (omega (arith, here.prover.0), here.prover.1) (of-provers provers ms limits.1)

pub read-auditable : ReadsExactly → ReadTextsMayBeAudited
read-auditable exactly bytes text e =
    let limits : IsInLimits text = ((exactly bytes text).0 e).0 in
    let h : IsHeadInLimits text.head = limits.head in
    record {
      some = omega (arith, h.provers.0);
      few = omega (arith, h.provers.1);
      steps = omega (arith, h.bound.0);
      short = omega (arith, h.bound.1);
      parted = omega (arith, h.fan.0);
      few_parts = omega (arith, h.fan.1);
      provers = of-provers text.head.provers text.moves limits.moves;
    }
