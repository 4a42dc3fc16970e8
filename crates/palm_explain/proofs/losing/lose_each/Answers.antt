use Rattle.std.proofs.Common.{◌≡◌, ◌∙◌, ◌<◌, ◌+◌, List, Vec, Global, Some, length, set, slice_get, false, true, vec_capacity, vec_len, refl, sym, ap, subst, arith}
use Rattle.std.proofs.lemmas.Option.{slice_get-get_or}
use Rattle.palm_base.specs.Tells.{Tells}
use Rattle.palm_base.proofs.cited.Members.{member_map}
use Rattle.palm_explain.specs.declared.entry.Entry.{Entry}
use Rattle.palm_explain.specs.declared.restored.Restored.{Restored}
use Rattle.palm_explain.specs.declared.rows.Row.{Row}
use Rattle.palm_explain.specs.Entries.{pairs_of}
use Rattle.palm_explain.specs.Losing.{FallsWith, marked_pairs}
use Rattle.palm_explain.proofs.Keeping.{told_false, told_true}
use Rattle.palm_explain.proofs.Marking.{IsMarkedBelow, here, marked_all, marked_length, marked_next, marked_none, marked_start, none_before, none_marked, one_more, told_now, unmarked_pair}
use Rattle.palm_explain.proofs.PuttingBack.{keeps_falls}
use Rattle.palm_explain.proofs.Reasons.{some_same}
use Rattle.palm_explain.proofs.Returning.{put_next, put_none, put_same, still_declared, still_out}
use Rattle.palm_explain.proofs.Slots.{number_within, slotted_once, spanned_vars}
use Rattle.palm_explain.proofs.losing.lose_each.Goals as goal
use Rattle.palm_explain.proofs.losing.lose_each.Goals.{then-is_lost, else-is_lost}

pub loop-place-init : goal.loop-place-init
loop-place-init c =
    let all = c.args.log.now.items in record {
      below = marked_start c.args.rows.now.items c.args.cid.now all c.args.start c.requires.unmarked c.requires.begun;
      back = put_none c.args.rows.now.items c.args.store.now c.args.restored.now.items (marked_pairs all) c.requires.none (none_marked all c.requires.unmarked);
      from = omega arith;
      same = refl;
      few = (let long = c.args.restored.now.ok.0 in let none = ap (λ (l : List Restored). length l) c.requires.none in omega (arith, long, none));
    }

pub put_back-requires-clause-row : goal.put_back-requires-clause-row
put_back-requires-clause-row c =
    let rows = c.args.rows.now.items in
    let cid = c.args.cid.now in
    let all = c.args.log.now.items in
    let next = c.requires.entered.0 in
    let are = c.requires.entered.1 in
    let log = c.loop-place.log.items in
    let place = c.loop-place.place in
    let is = c.loop-place.invariant in
    let f = c.index-then-is_lost.result.now in
    let long = marked_length rows cid all c.args.start log place is.below in
    let within : place < length log = omega (arith, long, c.loop-place-test.true, c.len-place-end.ensures, c.args.log.now.ok.0) in
    let at : slice_get log place ≡ Some f = slice_get-get_or log place f within ∙ ap Some (sym c.index-then-is_lost.ensures) in
    let under = number_within rows f.pair f.number (are.found (record f { mark = false }) (here rows cid all next are c.args.start log place is.below f at)) in
    let long-rows = is.back.numbers.long in omega (arith, under, long-rows)

pub put_back-requires-clause-declared : goal.put_back-requires-clause-declared
put_back-requires-clause-declared c =
    let rows = c.args.rows.now.items in
    let cid = c.args.cid.now in
    let all = c.args.log.now.items in
    let next = c.requires.entered.0 in
    let are = c.requires.entered.1 in
    let log = c.loop-place.log.items in
    let place = c.loop-place.place in
    let is = c.loop-place.invariant in
    let f = c.index-then-is_lost.result.now in
    let long = marked_length rows cid all c.args.start log place is.below in
    let within : place < length log = omega (arith, long, c.loop-place-test.true, c.len-place-end.ensures, c.args.log.now.ok.0) in
    let at : slice_get log place ≡ Some f = slice_get-get_or log place f within ∙ ap Some (sym c.index-then-is_lost.ensures) in
    still_declared c.args.store.now c.loop-place.store (marked_pairs log) (pairs_of all) f.pair c.requires.lacks is.back.back
    (member_map (λ (z : Entry). z.pair) all (record f { mark = false }) (here rows cid all next are c.args.start log place is.below f at))

pub put_back-requires-clause-out : goal.put_back-requires-clause-out
put_back-requires-clause-out c =
    let rows = c.args.rows.now.items in
    let cid = c.args.cid.now in
    let all = c.args.log.now.items in
    let next = c.requires.entered.0 in
    let are = c.requires.entered.1 in
    let log = c.loop-place.log.items in
    let place = c.loop-place.place in
    let is = c.loop-place.invariant in
    let f = c.index-then-is_lost.result.now in
    let long = marked_length rows cid all c.args.start log place is.below in
    let within : place < length log = omega (arith, long, c.loop-place-test.true, c.len-place-end.ensures, c.args.log.now.ok.0) in
    let at : slice_get log place ≡ Some f = slice_get-get_or log place f within ∙ ap Some (sym c.index-then-is_lost.ensures) in
    still_out c.args.store.now c.loop-place.store (marked_pairs log) (pairs_of all) f.pair c.requires.lacks is.back.back
    (member_map (λ (z : Entry). z.pair) all (record f { mark = false }) (here rows cid all next are c.args.start log place is.below f at))
    (unmarked_pair rows cid all next are c.args.start log place is.below f at)

pub is_lost-requires-clause-told : goal.is_lost-requires-clause-told
is_lost-requires-clause-told c =
    let rows = c.args.rows.now.items in
    let cid = c.args.cid.now in
    let all = c.args.log.now.items in
    let next = c.requires.entered.0 in
    let are = c.requires.entered.1 in
    let log = c.loop-place.log.items in
    let place = c.loop-place.place in
    let is = c.loop-place.invariant in
    let e = c.index.result.now in
    let long = marked_length rows cid all c.args.start log place is.below in
    let within : place < length log = omega (arith, long, c.loop-place-test.true, c.len-place-end.ensures, c.args.log.now.ok.0) in
    let at : slice_get log place ≡ Some e = slice_get-get_or log place e within ∙ ap Some (sym c.index.ensures) in (
      marked_pairs log,
      told_now rows cid all next are c.args.start log place is.below e at c.loop-place.rows.items c.deref.result.now c.loop-place.restored.items c.deref-in-loop-place.result.now c.args.store.now c.loop-place.store c.requires.lacks is.back
          (sym c.deref.ensures.value) (sym c.deref-in-loop-place.ensures.value),
    )

pub loop-place-preserved : goal.loop-place-preserved
loop-place-preserved c =
    let rows = c.args.rows.now.items in
    let cid = c.args.cid.now in
    let all = c.args.log.now.items in
    let next = c.requires.entered.0 in
    let are = c.requires.entered.1 in
    let log = c.loop-place.log.items in
    let now = c.loop-place.rows.items in
    let place = c.loop-place.place in
    let start = c.args.start in
    let is = c.loop-place.invariant in
    let long = marked_length rows cid all start log place is.below in
    let within : place < length log = omega (arith, long, c.loop-place-test.true, c.len-place-end.ensures, c.args.log.now.ok.0) in
    let e = c.index.result.now in
    let at-e : slice_get log place ≡ Some e = slice_get-get_or log place e within ∙ ap Some (sym c.index.ensures) in
    let low = is.from in
    let told = told_now rows cid all next are start log place is.below e at-e now c.deref.result.now c.loop-place.restored.items c.deref-in-loop-place.result.now c.args.store.now c.loop-place.store c.requires.lacks is.back
    (sym c.deref.ensures.value) (sym c.deref-in-loop-place.ensures.value) in
    let tells = keeps_falls rows now cid (marked_pairs log) e are.formed is.back.numbers c.is_lost.result (subst (λ rs. Tells c.is_lost.result (FallsWith rs cid (marked_pairs log) e)) c.deref.ensures.value (c.is_lost.ensures (marked_pairs log) told)) in
    elim c.if-is_lost.branch [
      | then-is_lost w ↦
          let f = w.index-then-is_lost.result.now in
          let at : slice_get log place ≡ Some f = slice_get-get_or log place f within ∙ ap Some (sym w.index-then-is_lost.ensures) in
          let same : e ≡ f = some_same e f (sym at-e ∙ at) in
          let falls : FallsWith rows cid (marked_pairs log) f = subst (λ (z : Entry). FallsWith rows cid (marked_pairs log) z) same (told_true c.is_lost.result (FallsWith rows cid (marked_pairs log) e) tells w.if-is_lost.true) in
          let log-is = ap (λ (v : Vec Entry Global). v.items) w.log-is ∙ w.set_mark.ensures f at in
          let marked = set log place (record f { mark = true }) in
          let back = put_next rows now w.put_back.new.rows.items c.args.store.now c.loop-place.store w.put_back.new.store c.loop-place.restored.items w.put_back.new.restored.items (marked_pairs log) (marked_pairs marked) f.pair
          (one_more rows cid all next are start log place is.below f at) is.back w.put_back.ensures.numbers w.put_back.ensures.back w.put_back.ensures.slots w.put_back.ensures.noted w.put_back.ensures.spanned w.put_back.ensures.ends in
          let room = w.put_back.ensures.room in
          let few = is.few in
          let count = ap (λ (v : Vec Restored Global). vec_len v) w.restored-is in
          record {
            below = subst (λ l. IsMarkedBelow rows cid all start l (place + 1)) (sym log-is) (marked_next rows cid all next are start log place is.below f at true low falls);
            back = put_same rows w.put_back.new.rows.items c.args.store.now w.put_back.new.store w.put_back.new.restored.items (marked_pairs marked) c.if-is_lost.rows.items c.if-is_lost.store c.if-is_lost.restored.items (marked_pairs c.if-is_lost.log.items)
                (ap (λ (v : Vec Row Global). v.items) w.rows-is) w.store-is (ap (λ (v : Vec Restored Global). v.items) w.restored-is) (ap marked_pairs log-is) back;
            from = omega (arith, low);
            same = ap (λ (v : Vec Restored Global). vec_capacity v) w.restored-is ∙ room.0 ∙ is.same;
            few = (let more = room.1 in omega (arith, more, few, count));
          }
      | else-is_lost w ↦
          let stays = marked_none rows cid all next are start log place is.below e at-e low (told_false c.is_lost.result (FallsWith rows cid (marked_pairs log) e) tells w.if-is_lost.false) in
          let log-is = ap (λ (v : Vec Entry Global). v.items) w.log-is in
          let few = is.few in
          let count = ap (λ (v : Vec Restored Global). vec_len v) w.restored-is in
          record {
            below = subst (λ l. IsMarkedBelow rows cid all start l (place + 1)) (sym log-is) stays;
            back = put_same rows now c.args.store.now c.loop-place.store c.loop-place.restored.items (marked_pairs log) c.if-is_lost.rows.items c.if-is_lost.store c.if-is_lost.restored.items (marked_pairs c.if-is_lost.log.items)
                (ap (λ (v : Vec Row Global). v.items) w.rows-is) w.store-is (ap (λ (v : Vec Restored Global). v.items) w.restored-is) (ap marked_pairs log-is) is.back;
            from = omega (arith, low);
            same = ap (λ (v : Vec Restored Global). vec_capacity v) w.restored-is ∙ is.same;
            few = omega (arith, few, count);
          }
    ]

pub returns-clause-marked : goal.returns-clause-marked
returns-clause-marked c =
    let rows = c.args.rows.now.items in
    let cid = c.args.cid.now in
    let all = c.args.log.now.items in
    let is = c.loop-place.invariant in
    let long = marked_length rows cid all c.args.start c.loop-place.log.items c.loop-place.place is.below in
    marked_all rows cid all c.args.start c.loop-place.log.items c.loop-place.place is.below (omega (arith, long, c.loop-place-test.false, c.len-place-end.ensures, c.args.log.now.ok.0))

pub returns-clause-before : goal.returns-clause-before
returns-clause-before c = none_before c.args.rows.now.items c.args.cid.now c.args.log.now.items c.args.start c.loop-place.log.items c.loop-place.place c.loop-place.invariant.below

pub returns-clause-once : goal.returns-clause-once
returns-clause-once c = slotted_once c.loop-place.rows.items c.loop-place.restored.items c.loop-place.invariant.back.slots

pub returns-clause-noted : goal.returns-clause-noted
returns-clause-noted c x =
    let back = c.loop-place.invariant.back in
    (back.noted x, spanned_vars (marked_pairs c.loop-place.log.items) c.loop-place.restored.items back.spanned x)
