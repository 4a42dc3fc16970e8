use Rattle.std.proofs.Common.{sym, ap, ◌∙◌}
use Rattle.palm_base.proofs.cited.Members.{member_map}
use Rattle.palm_model.specs.Log.{Active}
use Rattle.palm_engine.specs.Posted.{active_of, actives_of}
use Rattle.palm_engine.proofs.Placing.{at_place, placed_same, removed_cids}
use Rattle.palm_engine.proofs.Scopes.{active_is_connected}
use Rattle.palm_engine.proofs.cited.Withdrawing.{taken_out_kept, taken_out_withdraws}
use Rattle.palm_engine.proofs.posting.take_out.Goals as goal

pub withdraw-requires-clause-connected : goal.withdraw-requires-clause-connected
withdraw-requires-clause-connected g c =
    let meaning = g.F.Filter.meaning in
    let before = c.args.posted.now.items in
    let x = c.remove-constraint.result in
    active_is_connected (actives_of meaning before) c.args.filtering.now.agenda.connected c.requires.kept.connected c.cid.result
    (record { owner = active_of meaning x; posted = member_map (active_of meaning) before x (c.args.place, c.requires.within, sym c.remove-constraint.ensures.value); named = sym c.cid.ensures })

pub returns-clause-kept : goal.returns-clause-kept
returns-clause-kept g c =
    let meaning = g.F.Filter.meaning in
    let before = c.args.posted.now.items in
    let x = c.remove-constraint.result in
    taken_out_kept c.args.filtering.now c.withdraw.new.self c.cid.result (active_of meaning x) (actives_of meaning before) (actives_of meaning c.remove-constraint.new.self.items)
    c.withdraw.ensures c.cid.ensures
    (ap (actives_of meaning) c.remove-constraint.ensures.items
    ∙ removed_cids (active_of meaning) before c.args.place (active_of meaning x) c.requires.rising (at_place (active_of meaning) before c.args.place x c.requires.within c.remove-constraint.ensures.value))
    c.requires.kept

pub returns-clause-withdraws : goal.returns-clause-withdraws
returns-clause-withdraws g c a e =
    let meaning = g.F.Filter.meaning in
    let before = c.args.posted.now.items in
    let x = c.remove-constraint.result in
    let same = placed_same (active_of meaning) before c.args.place x a c.remove-constraint.ensures.value e in
    taken_out_withdraws c.args.filtering.now c.withdraw.new.self c.cid.result a (actives_of meaning before) (actives_of meaning c.remove-constraint.new.self.items) c.requires.rising
    c.withdraw.ensures (c.cid.ensures ∙ ap (λ (b : Active). b.cid) same)
    (ap (actives_of meaning) c.remove-constraint.ensures.items ∙ removed_cids (active_of meaning) before c.args.place a c.requires.rising e)
    c.requires.kept
