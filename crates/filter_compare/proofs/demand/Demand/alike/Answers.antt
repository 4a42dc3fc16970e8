use Rattle.std.proofs.Common.{◌≡◌, w32, to_z, of_z, rules}
use Rattle.filter_compare.proofs.Shapes.{const_alike}
use Rattle.filter_compare.proofs.demand.Demand.alike.Goals as goal

pub returns-in-Ok : goal.returns-in-Ok
returns-in-Ok c =
    let e : to_z w32 (of_z w32 c.in-Ok.bound) ≡ c.args.self.now.bound = search rules in
    const_alike c.args.self.now _ e c.requires.equal
