use Rattle.std.proofs.Common.{arith, ◌∙◌, ◌++◌, sym, ap}
use Rattle.std.specs.List.{remove}
use Rattle.std.proofs.lemmas.List.Edits.{remove-append_right}
use Rattle.palm_engine.proofs.actives.Actives.remove.Goals as goal

pub returns-else-place-front-clause-items : goal.returns-else-place-front-clause-items
returns-else-place-front-clause-items g c =
    let front = c.self.inside.front.items in
    let users = c.self.inside.users.items in
    ap (λ xs. front ++ xs) c.remove-else-place-front.ensures.items
    ∙ sym (remove-append_right front users c.len-front.result c.args.place (omega (arith, c.len-front.ensures, c.self.inside.front.ok.0)) (omega (arith, c.if-place-front.false)))
    ∙ ap (λ l. remove l c.args.place) (ap (λ r. r.items) c.self.view_is)
