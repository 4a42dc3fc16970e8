use Rattle.std.proofs.Common.{sym, subst}
use Rattle.palm_session.specs.Requests.{CanSearch}
use Rattle.palm_session.specs.Serving.{DeskView}
use Rattle.palm_session.specs.State.{IsHeld}
use Rattle.palm_session.proofs.Led.{searched_led}
use Rattle.palm_session.proofs.Running.{can_run, desk_stopped}
use Rattle.palm_session.proofs.desk.Desk.search.Goals as goal

pub search_by-requires-clause-listed : goal.search_by-requires-clause-listed
search_by-requires-clause-listed g c =
    let held = subst (λ (d : DeskView g.row.G.Denot g.row.O.Denot). IsHeld d.state) (sym c.self.view_is) c.requires.held in
    record { initial = held.initial; active = held.active }

pub search_by-requires-clause-can : goal.search_by-requires-clause-can
search_by-requires-clause-can g c =
    can_run _ (subst (λ (d : DeskView g.row.G.Denot g.row.O.Denot). IsHeld d.state) (sym c.self.view_is) c.requires.held) c.args.by
    (subst (λ (d : DeskView g.row.G.Denot g.row.O.Denot). CanSearch d.state c.args.by) (sym c.self.view_is) c.requires.can)

pub returns-clause-searched : goal.returns-clause-searched
returns-clause-searched g c =
    let was = c.self.inside in
    let now = c.search_by.new in
    searched_led _ _ was.mode was.book was.weights was.engine now.engine was.accepted was.paused was.guides now.guides was.orders now.orders was.search now.search c.args.self.now c.self.view_is
    c.search_by.ensures.guides c.search_by.ensures.orders c.args.by _ _ c.search_by.result c.search_by.ensures.ok

pub returns-clause-front : goal.returns-clause-front
returns-clause-front g c =
    let was = c.self.inside in
    desk_stopped was.mode was.book was.weights was.engine was.accepted was.paused was.guides was.orders was.search c.args.self.now c.self.view_is c.requires.held c.args.by c.requires.can _ _
    c.search_by.result c.search_by.ensures.front
