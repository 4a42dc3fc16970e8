use Rattle.std.proofs.Common.{rules, ◌≡◌, ◌-◌, length, get_or, sym, subst}
use Rattle.palm_filter.specs.Index.{IsGreatest}
use Rattle.palm_filter.proofs.Started.{last_is_greatest}
use Rattle.palm_filter.proofs.starts.greatest_of.Goals as goal

pub returns : goal.returns
returns c =
    let last : c.unwrap_or_default.result ≡ get_or c.args.places.now (length c.args.places.now - 1) 0 = search rules in
    subst (IsGreatest c.args.values.now) (sym c.value_at.ensures) (last_is_greatest c.args.values.now c.args.places.now c.requires c.unwrap_or_default.result last)
