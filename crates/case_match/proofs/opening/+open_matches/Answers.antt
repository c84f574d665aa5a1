use Rattle.std.proofs.Common.{rules, All, map, [], ◌∷◌, ◌++◌, ◌∙◌, sym, ap, subst}
use Rattle.std.proofs.lemmas.List.{map-append}
use Rattle.rv_step.specs.State.{state_of}
use Rattle.case_reader.specs.Case.{data_of}
use Rattle.case_match.specs.declared.opening.LoadedCase.{LoadedCase}
use Rattle.case_match.specs.Openings.{IsFresh, opening_of_loaded}
use Rattle.case_match.proofs.TaskLemmas.{all_first, last-all, one-more-empty, one-more-opened, one-more-said, said-by-book}
use Rattle.case_match.proofs.opening.+open_matches.Goals as goal

pub open_matches-requires : goal.open_matches-requires
open_matches-requires g t c κs within =
    let fresh = all_first (λ (l : LoadedCase). IsFresh g.D.Digester.digest_of l.start) c.pop.new.self.items (c.in-Some.last ∷ [])
    (subst (All (λ (l : LoadedCase). IsFresh g.D.Digester.digest_of l.start)) c.in-Some.ensures.items c.requires.fresh) in
    (search rules, (search rules, (fresh, c.requires.options)))

pub open_match-requires-clause-fresh : goal.open_match-requires-clause-fresh
open_match-requires-clause-fresh g t c =
    last-all (λ (l : LoadedCase). IsFresh g.D.Digester.digest_of l.start) c.pop.new.self.items c.in-Some.last
    (subst (All (λ (l : LoadedCase). IsFresh g.D.Digester.digest_of l.start)) c.in-Some.ensures.items c.requires.fresh)

pub returns-clause-cases : goal.returns-clause-cases
returns-clause-cases g t c =
    c.in_ok-push-2.ensures.items
    ∙ (ap (λ l. l ++ c.in-Some.last.case ∷ []) c.in_ok-books.ensures.cases
    ∙ (sym (map-append (λ (l : LoadedCase). l.case) c.pop.new.self.items (c.in-Some.last ∷ []))
    ∙ ap (map (λ (l : LoadedCase). l.case)) (sym c.in-Some.ensures.items)))

pub returns-clause-openings : goal.returns-clause-openings
returns-clause-openings g t c =
    one-more-opened (opening_of_loaded g.D.Digester.digest_of) c.in_ok-books.field-0.books.items c.push.new.self.items c.in_ok-book.field-0.book c.pop.new.self.items c.in-Some.last c.in_ok-push.ensures.items
    c.in_ok-book.ensures.opening c.in_ok-books.ensures.openings
    ∙ ap (map (opening_of_loaded g.D.Digester.digest_of)) (sym c.in-Some.ensures.items)

pub returns-clause-empty : goal.returns-clause-empty
returns-clause-empty g t c =
    one-more-empty c.in_ok-books.field-0.books.items c.push.new.self.items c.in_ok-book.field-0.book c.in_ok-push.ensures.items c.in_ok-book.ensures.empty c.in_ok-books.ensures.empty

pub returns-clause-says : goal.returns-clause-says
returns-clause-says g t c =
    one-more-said _ _ c.in_ok-books.field-0.answerers.items c.in_ok-book.field-0.answerers.items c.append.new.self.items c.in_ok-books.field-0.books.items c.push.new.self.items c.in_ok-book.field-0.book c.in_ok-append.ensures.items
    c.in_ok-push.ensures.items
    (said-by-book _ c.answerers_say_in_order.ensures g.D.Digester.digest_of (data_of c.in-Some.last.case.now) (state_of c.in-Some.last.start) c.in_ok-book.field-0.book.opening c.in_ok-book.field-0.answerers.items
    c.in_ok-book.ensures.opening c.in_ok-book.ensures.count c.in_ok-book.ensures.says)
    c.in_ok-books.ensures.says
