use Rattle.std.proofs.Common.{rules, ◌≡◌, get_or, sym, subst}
use Rattle.palm_filter.specs.Index.{IsLeast}
use Rattle.palm_filter.proofs.Started.{first_is_least}
use Rattle.palm_filter.proofs.starts.least_of.Goals as goal

pub returns : goal.returns
returns c =
    let first : c.unwrap_or_default.result ≡ get_or c.args.places.now 0 0 = search rules in
    subst (IsLeast c.args.values.now) (sym c.value_at.ensures) (first_is_least c.args.values.now c.args.places.now c.requires c.unwrap_or_default.result first)
