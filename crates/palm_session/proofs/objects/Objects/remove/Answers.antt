use Rattle.std.proofs.Common.{Contains, arith, sym, subst}
use Rattle.palm_session.specs.Objects.{ObjectsView, numbers_of}
use Rattle.palm_session.proofs.Places.{there_within, dropped_objects, dropped_numbers}
use Rattle.palm_session.proofs.objects.Objects.remove.Goals as goal

pub index_mut-requires : goal.index_mut-requires
index_mut-requires g c =
    let lt = there_within c.args.number c.self.inside.places.items (subst (λ (v : ObjectsView g.row.T.Denot). Contains (numbers_of v.places) c.args.number) (sym c.self.view_is) c.requires) in
    omega (arith, lt, c.self.inside.places.ok.0)

pub returns-clause-objects : goal.returns-clause-objects
returns-clause-objects g c = dropped_objects c.self.inside.places.items c.self.inside.chosen c.args.self.now c.self.invariant c.self.view_is c.args.number

pub returns-clause-numbers : goal.returns-clause-numbers
returns-clause-numbers g c = dropped_numbers c.self.inside.places.items c.self.inside.chosen c.args.self.now c.self.invariant c.self.view_is c.args.number
