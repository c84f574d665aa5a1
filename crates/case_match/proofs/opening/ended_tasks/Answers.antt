use Rattle.std.proofs.Common.{All, map, length, ap, ◌∙◌, sym, subst, arith}
use Rattle.std.proofs.lemmas.Result.{IfOk-weaker}
use Rattle.case_match.specs.declared.opening.EndedCase.{EndedCase}
use Rattle.case_match.specs.declared.opening.LoadedCase.{LoadedCase}
use Rattle.case_match.specs.Openings.{opening_of_loaded}
use Rattle.deposits.specs.Balances.{IsSettledUp}
use Rattle.case_match.proofs.TaskLemmas.{as-many-books, as-many-ends, both-ok, ended-as-loaded, ended-settled}
use Rattle.case_match.proofs.opening.ended_tasks.Goals as goal

pub decide-requires-clause-some : goal.decide-requires-clause-some
decide-requires-clause-some g c κs within =
    let many = as-many-books g.D.Digester.digest_of c.args.loads.items c.in_ok-books.field-0.books.items c.in_ok-books.ensures.openings in omega (arith, many, c.requires.some)

pub decide-requires-clause-few : goal.decide-requires-clause-few
decide-requires-clause-few g c κs within =
    let many = as-many-books g.D.Digester.digest_of c.args.loads.items c.in_ok-books.field-0.books.items c.in_ok-books.ensures.openings in omega (arith, many, c.requires.few)

pub decide-requires-clause-says : goal.decide-requires-clause-says
decide-requires-clause-says g c κs within =
    ap (map _) c.as_mut_slice.ensures.value ∙ c.in_ok-books.ensures.says

pub with_ends-requires : goal.with_ends-requires
with_ends-requires g c =
    as-many-ends _ (opening_of_loaded g.D.Digester.digest_of) (λ (l : LoadedCase). l.case) c.args.loads.items _ c.in_ok-ends.ends.items c.in_ok-books.field-0.cases.items c.in_ok-books.ensures.openings
    c.in_ok-ends.ensures c.in_ok-books.ensures.cases

pub returns-clause-ended : goal.returns-clause-ended
returns-clause-ended g c =
    both-ok c.with_ends.result _ _ _
    (λ es cases ends. ended-as-loaded g.D.Digester.digest_of c.args.loads.items es.items c.in_ok-ends.ends.items _ c.in_ok-books.ensures.openings c.in_ok-ends.ensures ends (cases ∙ c.in_ok-books.ensures.cases))
    c.with_ends.ensures.cases c.with_ends.ensures.ends

pub returns-clause-settled_up : goal.returns-clause-settled_up
returns-clause-settled_up g c =
    IfOk-weaker c.with_ends.result _ _
    (λ es are. subst (All (λ (e : EndedCase). IsSettledUp (length e.case.now.provers) e.end.match_record)) (sym are) (ended-settled c.records_of_cases_are_settled_up.ensures g.D.Digester.digest_of c.args.loads.items))
    (returns-clause-ended g c)
