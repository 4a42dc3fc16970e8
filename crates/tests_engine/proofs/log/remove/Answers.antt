use Rattle.std.proofs.Common.{List, Contains, subst, sym}
use Rattle.std.proofs.lemmas.List.Elements.{All-contains}
use Rattle.palm_base.proofs.cited.Telling.{tells_true}
use Rattle.palm_base.specs.declared.terms.Cid.TheVariants.{User}
use Rattle.palm_base.specs.declared.terms.Pair.{Pair}
use Rattle.palm_domain.specs.Rows.{IsPresent}
use Rattle.palm_explain.specs.Explanations.{LacksExactly}
use Rattle.palm_model.specs.Log.{log_pairs}
use Rattle.tests_engine.proofs.Found.{pairs_entered}
use Rattle.tests_engine.proofs.log.remove.Goals as goal

pub enter-requires-clause-earlier : goal.enter-requires-clause-earlier
enter-requires-clause-earlier c = λ p listed.
    All-contains (Contains (log_pairs c.args.log.now.log)) c.args.reasons.now p (c.are_removed.ensures c.if-not-are_removed.false) listed

pub returns : goal.returns
returns c =
    let before = c.args.store.now in
    let after = c.take_out.new.self in
    let p = c.args.pair.now in
    let present : IsPresent before p.var p.value = tells_true (IsPresent before p.var p.value) c.contains.result c.contains.ensures c.if-not-contains.false in
    let entered = pairs_entered c.args.log.now c.enter.new.self (record { pair = p; by = User c.args.by; reasons = c.args.reasons.now }) c.in_ok-enter.ensures.ok in
    subst (λ (ps : List Pair). LacksExactly after ps) (sym entered)
    (c.stores_lack_what_is_taken_out.ensures before after (log_pairs c.args.log.now.log) p c.requires c.variables.ensures.initial_ascend present
    c.take_out.ensures.initial c.take_out.ensures.present)
