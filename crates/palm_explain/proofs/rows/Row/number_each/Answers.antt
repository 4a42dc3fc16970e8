use Rattle.std.proofs.Common.{◌≡◌, ◌∙◌, ◌+◌, Some, set, take, slice_get, Contains, sym, ap, subst, arith, take_all}
use Rattle.std.proofs.lemmas.Option.{get_or_from_slice_get, slice_get-get_or, slice_get_within}
use Rattle.palm_explain.proofs.RowNumbers.{set_length}
use Rattle.palm_explain.proofs.Numbering.{before_taken, next_taken, numbered_next, others_next, there_next}
use Rattle.palm_explain.proofs.rows.Row.number_each.Goals as goal

pub loop-value-preserved : goal.loop-value-preserved
loop-value-preserved c =
    let r = c.loop-value.self in
    let values = c.args.values.now in
    let first = c.args.first in
    let count = c.loop-value.value-index in
    let place = c.place_near-own.result in
    let v = c.value-item.result in
    let so_far = c.loop-value.invariant in
    let at = c.place_near-own.ensures in
    let next : slice_get values count ≡ Some v = slice_get-get_or values count v c.loop-value-test.true ∙ ap Some (sym c.value-item.is) in
    let numbers = set r.numbers.items place c.loop-value.number in
    let is : numbers ≡ set r.numbers.items place (first + count) = ap (set r.numbers.items place) so_far.number in
    record {
      formed = record {
        ascends = so_far.formed.ascends;
        numbers = set_length r v place (first + count) numbers so_far.formed (slice_get_within r.values.items place v at) (get_or_from_slice_get r.values.items place v v at) is;
      };
      numbered = numbered_next r values first place count v numbers so_far.formed c.requires.ascend at next is so_far.numbered;
      others = λ u n. others_next r values first place count v numbers so_far.formed c.requires.ascend at next is u (λ q. n (subst (Contains (take (count + 1) values)) (sym q) (next_taken values count v next)))
          ∙ so_far.others u (λ m. n (before_taken values count v u next m));
      there = λ u m. there_next r values first place count v numbers so_far.formed c.requires.ascend at next is u (so_far.there u m);
      lost = so_far.lost;
      number = let same = so_far.number in omega (arith, same);
    }

pub returns-clause-numbered : goal.returns-clause-numbered
returns-clause-numbered c i v at =
    let within = slice_get_within c.args.values.now i v at in
    c.loop-value.invariant.numbered i v (omega (arith, within, c.loop-value-test.false)) at

pub returns-clause-others : goal.returns-clause-others
returns-clause-others c v n =
    let all = take_all c.loop-value.value-index c.args.values.now (omega (arith, c.loop-value-test.false)) in
    c.loop-value.invariant.others v (λ m. n (subst (λ vs. Contains vs v) all m))
