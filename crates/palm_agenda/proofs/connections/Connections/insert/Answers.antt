use Rattle.std.proofs.Common.{arith, ◌∙◌, ◌++◌, sym, ap}
use Rattle.std.specs.List.{insert}
use Rattle.std.proofs.lemmas.List.Edits.{insert-append_right}
use Rattle.palm_agenda.proofs.connections.Connections.insert.Goals as goal

pub returns-in_ok-insert-2-clause-ok : goal.returns-in_ok-insert-2-clause-ok
returns-in_ok-insert-2-clause-ok c =
    let front = c.self.inside.front.items in
    let users = c.self.inside.users.items in
    ap (λ xs. front ++ xs) c.in_ok-insert-2.ensures.items
    ∙ sym (insert-append_right front users c.len-front.result c.args.place c.args.connection (omega (arith, c.len-front.ensures, c.self.inside.front.ok.0)) (c.goes_in_front.ensures.behind c.if-goes_in_front.false))
    ∙ ap (λ l. insert l c.args.place c.args.connection) c.self.view_is
