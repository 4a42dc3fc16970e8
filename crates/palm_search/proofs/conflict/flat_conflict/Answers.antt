use Rattle.palm_search.proofs.FlatConflict.{flat_is, kept_active}
use Rattle.palm_search.proofs.conflict.flat_conflict.Goals as goal

pub flat-requires : goal.flat-requires
flat-requires g c =
    let empty = c.requires in
    kept_active c.args.engine.now.state empty.var c.conflict.new.out c.store-store.ensures.valid (c.in_ok-conflict.ensures.ok empty.var empty.empty)

pub returns : goal.returns
returns g c =
    let empty = c.requires in
    flat_is c.args.engine.now.state c.conflict.new.out c.flat-2.new.out empty (c.in_ok-conflict.ensures.ok empty.var empty.empty) c.in_ok-flat.ensures.ok
