use Rattle.std.proofs.Common.{◌≡◌, map, arith, sym, subst, ◌∙◌, ap}
use Rattle.std.proofs.lemmas.List.{take_all}
use Rattle.palm_model.specs.Domains.{AllAscend}
use Rattle.palm_book.specs.Book.{initial_of, BookVar}
use Rattle.palm_book.proofs.cited.Actives.{initial_ascend}
use Rattle.tests_sessions.proofs.agreement.initial_domains.Goals as goal

pub returns-clause-ascend : goal.returns-clause-ascend
returns-clause-ascend c =
    let all : c.loop-index.list ≡ initial_of c.args.book.now
    = c.loop-index.invariant ∙ ap (map (λ (e : BookVar). e.values)) (take_all c.loop-index.index c.args.book.now.variables (omega (arith, c.loop-index-test.false, c.variables-index-end.ensures.count))) in
    subst AllAscend (sym all) (initial_ascend c.args.book.now c.variables-index-end.ensures.valid)
