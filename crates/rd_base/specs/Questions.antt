-- To believe: when two numbers name the same question.
use Rattle.std.specs.Prelude.{Bool, ◌&&◌, ◌==◌}
use Rattle.rd_base.specs.declared.answer.Qid.{Qid}

abbrev pub same_qid : Qid → Qid → Bool
same_qid a b = (a.dispute == b.dispute) && (a.round == b.round)
