use Rattle.std.proofs.Common.{length, get_or, refl, sym, ap, ◌∙◌, arith}
use Rattle.std.proofs.lemmas.List.{length-append}
use Rattle.std.proofs.lemmas.Option.{slice_get_within}
use Rattle.palm_domain.specs.Rows.{initial_of, present_of}
use Rattle.palm_model.proofs.cited.Ascending.{ascends_at}
use Rattle.palm_model.specs.Removed.{pairs_of}
use Rattle.filter_table.specs.Table.{row_at}
use Rattle.filter_table.proofs.Blocking.{blocked_as, gathered_all, gathered_more, gathered_none, gathered_same, put_as}
use Rattle.filter_table.proofs.Columned.{own_given}
use Rattle.filter_table.proofs.indexed.IndexedTable.push_blocking.Goals as goal
use Rattle.filter_table.proofs.indexed.IndexedTable.push_blocking.Goals.{then-is_blocked_at+in_ok-put_pair, else-is_blocked_at}

pub loop-place-init : goal.loop-place-init
loop-place-init c =
    let t = c.args.self.now in
    gathered_none (initial_of c.args.store.now) (present_of c.args.store.now) t.vars t.rows c.requires.indexed.distinct c.requires.indexed.long c.args.pair.now.var c.args.pair.now.value
    c.args.end c.args.var.now c.requires.end c.places-place-items.result.now c.args.out.now.items

pub is_blocked_at-requires-clause-given : goal.is_blocked_at-requires-clause-given
is_blocked_at-requires-clause-given c =
    let t = c.args.self.now in
    own_given t.vars t.rows c.requires.indexed.distinct c.requires.indexed.long (initial_of c.args.store.now) c.args.own c.args.pair.now.var _ c.args.pair.now.value c.requires.own
    (c.places-place-items.ensures.within c.loop-place.place-index 0 c.loop-place-test.true) (c.places-place-items.ensures.stands c.loop-place.place-index 0 c.loop-place-test.true) c.requires.given

pub is_blocked_at-requires-clause-present : goal.is_blocked_at-requires-clause-present
is_blocked_at-requires-clause-present c =
    let t = c.args.self.now in
    own_given t.vars t.rows c.requires.indexed.distinct c.requires.indexed.long (present_of c.args.store.now) c.args.own c.args.pair.now.var _ c.args.pair.now.value c.requires.own
    (c.places-place-items.ensures.within c.loop-place.place-index 0 c.loop-place-test.true) (c.places-place-items.ensures.stands c.loop-place.place-index 0 c.loop-place-test.true) c.requires.present

pub is_blocked_at-requires-clause-end : goal.is_blocked_at-requires-clause-end
is_blocked_at-requires-clause-end c = slice_get_within c.args.self.now.vars c.args.end c.args.var.now c.requires.end

pub pair_at-requires-clause-column : goal.pair_at-requires-clause-column
pair_at-requires-clause-column c = slice_get_within c.args.self.now.vars c.args.end c.args.var.now c.requires.end

pub put_pair-requires : goal.put_pair-requires
put_pair-requires c =
    let g = c.loop-place.invariant in
    let long = ap length g.items ∙ length-append c.args.out.now.items (pairs_of c.args.var.now g.values) in
    omega (arith, long, c.len-from.ensures)

pub loop-place-preserved : goal.loop-place-preserved
loop-place-preserved c =
    let t = c.args.self.now in
    let initial = initial_of c.args.store.now in
    let present = present_of c.args.store.now in
    let x = c.args.pair.now.var in
    let v = c.args.pair.now.value in
    let y = c.args.var.now in
    let places = c.places-place-items.result.now in
    let n = c.loop-place.place-index in
    let k = get_or places n 0 in
    let inside = c.places-place-items.ensures.within n 0 c.loop-place-test.true in
    let stands = c.places-place-items.ensures.stands n 0 c.loop-place-test.true in
    let told = c.is_blocked_at.ensures ∙ blocked_as initial present t.vars t.rows c.requires.indexed.distinct c.requires.indexed.long c.args.own x k v c.args.end y c.requires.own c.requires.end inside stands in
    elim c.if-is_blocked_at.branch [
      | then-is_blocked_at+in_ok-put_pair w ↦
          gathered_more initial present t.vars t.rows c.requires.indexed.distinct c.requires.indexed.long x v c.args.end y c.requires.end places n c.loop-place-test.true k refl inside
          c.args.out.now.items c.loop-place.out.items c.if-is_blocked_at.out.items c.loop-place.invariant _ refl (sym told ∙ w.if-is_blocked_at.true)
          (ap (λ o. o.items) w.out-is
          ∙ put_as t.vars c.args.end y (row_at t.rows k) c.requires.end c.args.out.now.items c.loop-place.invariant.values c.len-from.result c.loop-place.out.items w.put_pair.new.out.items w.pair_at.result w.pair_at.ensures
          (omega (arith, c.len-from.ensures)) c.loop-place.invariant.items c.loop-place.invariant.ascend w.in_ok-put_pair.ensures)
      | else-is_blocked_at w ↦
          gathered_same initial present t.vars t.rows c.requires.indexed.distinct c.requires.indexed.long x v c.args.end y c.requires.end places n c.loop-place-test.true k refl inside
          c.args.out.now.items c.loop-place.out.items c.if-is_blocked_at.out.items c.loop-place.invariant _ refl (sym told ∙ w.if-is_blocked_at.false) (ap (λ o. o.items) w.out-is)
    ]

pub returns : goal.returns
returns c =
    let t = c.args.self.now in
    gathered_all (initial_of c.args.store.now) (present_of c.args.store.now) t.vars t.rows c.requires.indexed.distinct c.requires.indexed.long c.args.pair.now.var c.args.pair.now.value
    c.args.end c.args.var.now c.requires.end c.places-place-items.result.now c.loop-place.place-index c.loop-place-test.false c.places-place-items.ensures.every
    (ascends_at (initial_of c.args.store.now) c.args.var.now c.requires.ascend) c.args.out.now.items c.loop-place.out.items c.loop-place.invariant
