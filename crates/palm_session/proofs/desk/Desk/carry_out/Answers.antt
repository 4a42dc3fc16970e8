use Rattle.std.proofs.Common.{◌-◌, Option}
use Rattle.std.proofs.lemmas.Result.{IfOk-weaker}
use Rattle.palm_engine.specs.Following.{Hearing, OrderFollows}
use Rattle.palm_search.specs.Following.{GuideFollows, Moment}
use Rattle.palm_session.specs.Led.{BecomesLead}
use Rattle.palm_session.specs.Serving.{Becomes, IsSaid}
use Rattle.palm_session.proofs.Taking.{becomes_own, can_say, carried_out, contradicts_of, goes_on, keeps_state, leads_contradiction, leads_own, quiet_of, takes_contradiction}
use Rattle.palm_session.proofs.desk.Desk.carry_out.Given as given
use Rattle.palm_session.proofs.desk.Desk.carry_out.Goals as goal

-- the guide's own relations, and the order's
abbrev guiding : (g : given.Over) → Moment → Option g.row.G.Denot → Option g.row.G.Denot → Type 0
guiding g = GuideFollows g.G.Guide.answers g.G.Guide.hears g.G.Guide.state

abbrev ordering : (g : given.Over) → Hearing → Option g.row.O.Denot → Option g.row.O.Denot → Type 0
ordering g = OrderFollows g.O.Order.answers g.O.Order.hears g.O.Order.state

pub contradicts-requires : goal.contradicts-requires
contradicts-requires g c =
    let s = c.args.self.now in
    let m = c.obey.new.self in
    let t = c.follow.new.self in
    let done = carried_out (guiding g) (ordering g) s.state m.state m.objects t.state t.objects _ _ c.args.request _ c.in_ok-remainder.ensures.obeys c.in_ok-own.ensures.done in
    keeps_state (guiding g) (ordering g) s.state c.args.request m.objects t.state t.objects _ c.requires.state c.requires.admitted c.requires.goes _ done

pub returns-then-contradicts-clause-becomes : goal.returns-then-contradicts-clause-becomes
returns-then-contradicts-clause-becomes g c =
    let s = c.args.self.now in
    let request = c.args.request in
    let m = c.obey.new.self in
    let t = c.follow.new.self in
    let obeys = c.in_ok-remainder.ensures.obeys in
    let done = carried_out (guiding g) (ordering g) s.state m.state m.objects t.state t.objects _ _ request _ obeys c.in_ok-own.ensures.done in
    let told = contradicts_of t.state request c.is_contradictable-is_told.result c.contradicts.result c.is_contradictable-is_told.ensures c.contradicts.ensures c.if-contradicts.true in
    takes_contradiction (guiding g) (ordering g) s.state request m.objects t.state t.objects _ c.requires.state c.requires.admitted c.requires.goes _ done c.after-going.result
    (goes_on s.state request m.state _ c.after-going.result obeys c.after-going.ensures.quit c.after-going.ensures.more) told

pub returns-then-contradicts-clause-led : goal.returns-then-contradicts-clause-led
returns-then-contradicts-clause-led g c =
    let s = c.args.self.now in
    let request = c.args.request in
    let m = c.obey.new.self in
    let t = c.follow.new.self in
    let done = carried_out (guiding g) (ordering g) s.state m.state m.objects t.state t.objects _ _ request _ c.in_ok-remainder.ensures.obeys c.in_ok-own.ensures.done in
    let told = contradicts_of t.state request c.is_contradictable-is_told.result c.contradicts.result c.is_contradictable-is_told.ensures c.contradicts.ensures c.if-contradicts.true in
    leads_contradiction (guiding g) (ordering g) s.state request m.objects t.state t.objects _ c.requires.state c.requires.admitted c.requires.goes _ done s.objects c.in_ok-remainder.ensures.objects told

pub say-requires-clause-state : goal.say-requires-clause-state
say-requires-clause-state g c =
    let s = c.args.self.now in
    let m = c.obey.new.self in
    let t = c.follow.new.self in
    let done = carried_out (guiding g) (ordering g) s.state m.state m.objects t.state t.objects _ _ c.args.request _ c.in_ok-remainder.ensures.obeys c.in_ok-own.ensures.done in
    keeps_state (guiding g) (ordering g) s.state c.args.request m.objects t.state t.objects _ c.requires.state c.requires.admitted c.requires.goes _ done

pub say-requires-clause-can : goal.say-requires-clause-can
say-requires-clause-can g c =
    let s = c.args.self.now in
    let request = c.args.request in
    let m = c.obey.new.self in
    let t = c.follow.new.self in
    let done = carried_out (guiding g) (ordering g) s.state m.state m.objects t.state t.objects _ _ request _ c.in_ok-remainder.ensures.obeys c.in_ok-own.ensures.done in
    let quiet = quiet_of t.state request c.is_contradictable-is_told.result c.contradicts.result c.is_contradictable-is_told.ensures c.contradicts.ensures c.if-contradicts.false in
    can_say (guiding g) (ordering g) s.state request m.objects t.state t.objects _ c.requires.state c.requires.admitted c.requires.goes quiet _ done

pub returns-clause-becomes : goal.returns-clause-becomes
returns-clause-becomes g c =
    let s = c.args.self.now in
    let request = c.args.request in
    let m = c.obey.new.self in
    let t = c.follow.new.self in
    let asked = c.follow.new.steps - c.args.steps.now in
    let going = c.after-going.result in
    let obeys = c.in_ok-remainder.ensures.obeys in
    let done = carried_out (guiding g) (ordering g) s.state m.state m.objects t.state t.objects _ _ request _ obeys c.in_ok-own.ensures.done in
    let quiet = quiet_of t.state request c.is_contradictable-is_told.result c.contradicts.result c.is_contradictable-is_told.ensures c.contradicts.ensures c.if-contradicts.false in
    let on = goes_on s.state request m.state _ going obeys c.after-going.ensures.quit c.after-going.ensures.more in
    IfOk-weaker c.say.result (IsSaid t.state _ going) (Becomes s.state request t.state asked)
    (becomes_own (guiding g) (ordering g) s.state request m.objects t.state t.objects asked c.requires.state c.requires.admitted c.requires.goes quiet _ done going on) c.say.ensures

pub returns-clause-led : goal.returns-clause-led
returns-clause-led g c =
    let s = c.args.self.now in
    let request = c.args.request in
    let m = c.obey.new.self in
    let t = c.follow.new.self in
    let going = c.after-going.result in
    let done = carried_out (guiding g) (ordering g) s.state m.state m.objects t.state t.objects _ _ request _ c.in_ok-remainder.ensures.obeys c.in_ok-own.ensures.done in
    let quiet = quiet_of t.state request c.is_contradictable-is_told.result c.contradicts.result c.is_contradictable-is_told.ensures c.contradicts.ensures c.if-contradicts.false in
    IfOk-weaker c.say.result (IsSaid t.state _ going) (BecomesLead (guiding g) (ordering g) s.state request s.objects t.state t.objects)
    (leads_own (guiding g) (ordering g) s.state request m.objects t.state t.objects _ c.requires.state c.requires.admitted c.requires.goes quiet _ done going s.objects c.in_ok-remainder.ensures.objects) c.say.ensures
