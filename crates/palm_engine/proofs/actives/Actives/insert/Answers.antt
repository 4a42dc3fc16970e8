use Rattle.std.proofs.Common.{arith, ◌∙◌, ◌++◌, sym, ap}
use Rattle.std.specs.List.{insert}
use Rattle.std.proofs.lemmas.List.Edits.{insert-append_right}
use Rattle.palm_engine.proofs.actives.Actives.insert.Goals as goal

pub returns-else-goes_in_front : goal.returns-else-goes_in_front
returns-else-goes_in_front g c =
    let front = c.self.inside.front.items in
    let users = c.self.inside.users.items in
    ap (λ xs. front ++ xs) c.put-else-goes_in_front.ensures.items
    ∙ sym (insert-append_right front users c.len-front.result c.args.place c.args.constraint (omega (arith, c.len-front.ensures, c.self.inside.front.ok.0)) (c.goes_in_front.ensures.1 c.if-goes_in_front.false))
    ∙ ap (λ l. insert l c.args.place c.args.constraint) (ap (λ r. r.items) c.self.view_is)
