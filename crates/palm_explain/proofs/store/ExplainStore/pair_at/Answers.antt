use Rattle.std.proofs.Common.{◌≡◌, Some, slice_get, subst, arith}
use Rattle.palm_model.specs.Log.{log_pairs}
use Rattle.palm_explain.specs.Explanations.{Explanations}
use Rattle.palm_explain.proofs.Stores.{entry_read, log_length, pair_read}
use Rattle.palm_explain.proofs.store.ExplainStore.pair_at.Goals as goal

pub returns : goal.returns
returns c =
    let rows = c.self.inside.rows.items in
    let entries = c.self.inside.log.items in
    let within = rw (← c.self.view_is) at c.requires in
    let long = log_length rows entries in
    subst (λ (v : Explanations). slice_get (log_pairs v.log) c.args.place ≡ Some c.index.result.now.pair) c.self.view_is
    (pair_read rows entries c.args.place c.index.result.now (entry_read entries c.args.place c.index.result.now (omega (arith, within, long)) c.index.ensures))
