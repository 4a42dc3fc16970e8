use Rattle.std.proofs.Common.{rules, ◌≡◌, ◌++◌, ◌∷◌, [], All, List, sym, subst}
use Rattle.std.proofs.lemmas.List.Elements.{All-push}
use Rattle.palm_engine.proofs.cited.Results.{on_ok}
use Rattle.palm_model.specs.Constraint.{IsWellFormed}
use Rattle.palm_model.specs.declared.constraint.Con.{Con}
use Rattle.tests_engine.proofs.samples.push_con.Goals as goal

pub returns-in-Some : goal.returns-in-Some
returns-in-Some c =
    let formed : IsWellFormed 4 c.in-Some.con = search rules in
    on_ok c.push.result (c.push.new.self ≡ c.args.list.now ++ c.in-Some.con ∷ []) (All (IsWellFormed 4) c.push.new.self)
    (λ pushed. subst (λ (cons : List Con). All (IsWellFormed 4) cons) (sym pushed) (All-push (IsWellFormed 4) c.args.list.now c.in-Some.con c.requires formed))
    c.push.ensures.ok
