use Rattle.std.proofs.Common.{◌≡◌, Some, slice_get, subst, arith}
use Rattle.palm_explain.specs.Explanations.{Explanations, log_bys}
use Rattle.palm_explain.proofs.Stores.{by_read, entry_read, log_length}
use Rattle.palm_explain.proofs.store.ExplainStore.by_at.Goals as goal

pub returns : goal.returns
returns c =
    let rows = c.self.inside.rows.items in
    let entries = c.self.inside.log.items in
    let within = rw (← c.self.view_is) at c.requires in
    let long = log_length rows entries in
    subst (λ (v : Explanations). slice_get (log_bys v.log) c.args.place ≡ Some c.index.result.now.by) c.self.view_is
    (by_read rows entries c.args.place c.index.result.now (entry_read entries c.args.place c.index.result.now (omega (arith, within, long)) c.index.ensures))
