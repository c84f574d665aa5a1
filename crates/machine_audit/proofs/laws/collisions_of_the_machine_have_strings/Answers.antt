use Rattle.machine_audit.proofs.VerdictLemmas.{posts-have-strings, cases-have-strings}
use Rattle.machine_audit.proofs.laws.collisions_of_the_machine_have_strings.Goals as goal

pub returns : goal.returns
returns g c = record {
  matches = posts-have-strings g.D.Digester.digest_of g.met.D.Digester.is_digest g.met.D.Digester.is_bytes;
  cases = cases-have-strings g.D.Digester.digest_of g.met.D.Digester.is_digest g.met.D.Digester.is_bytes;
}
