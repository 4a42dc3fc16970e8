use Rattle.std.proofs.Common.{length}
use Rattle.palm_domain.specs.Rows.{present_of}
use Rattle.filter_differ.proofs.Differing.{lone_declared}
use Rattle.filter_differ.proofs.differ.push_reason.Goals as goal

pub push_removed-requires : goal.push_removed-requires
push_removed-requires c =
    lone_declared (present_of c.args.store.now) c.args.vars.now c.args.pair.now.var c.args.pair.now.value (length c.args.store.now) c.in-Some.var c.requires c.in-Some.ensures
