use Rattle.std.proofs.Common.{◌≡◌, ◌+◌, length, refl, sym, ap, ◌∙◌, subst, arith}
use Rattle.palm_filter.specs.Rules.{listed_pairs}
use Rattle.palm_filter.proofs.cited.Written.{on_ok}
use Rattle.filter_table.specs.Beside.{HasBit}
use Rattle.filter_table.proofs.Intervals.{AreListed, all_listed, run_ends, run_goes_on, told_alike}
use Rattle.filter_table.proofs.beside.Beside.push_intervals.Goals as goal
use Rattle.filter_table.proofs.beside.Beside.push_intervals.Goals.{then-not-has+in_ok-push_interval, else-not-has}

pub loop-place-init : goal.loop-place-init
loop-place-init c = record { ordered = omega arith; listed = λ d test is tells. refl }

pub loop-place-preserved : goal.loop-place-preserved
loop-place-preserved c =
    let x = c.args.var.now in
    let vs = c.args.declared.now in
    let place = c.loop-place.place in
    let first = c.loop-place.first in
    let v = c.index-declared-place.result in
    elim c.if-not-has.branch [
      | then-not-has+in_ok-push_interval w ↦ record {
        ordered = omega (arith, w.first-is);
        listed = λ d test is tells.
            let fails = told_alike (HasBit c.args.self.now c.args.own v) (test v) c.has.result (tells v) c.has.ensures ∙ w.if-not-has.true in
            let before = listed_pairs d c.args.out.now.items in
            let grown = ap (λ o. listed_pairs d o.items) w.out-is ∙ w.in_ok-push_interval.ensures d in
            subst (λ k. AreListed d x test vs before (listed_pairs d c.if-not-has.out.items) k (place + 1)) (sym w.first-is)
            (run_ends d x test vs is before (listed_pairs d c.loop-place.out.items) first place v c.loop-place-test.true c.index-declared-place.is (c.loop-place.invariant.listed d test is tells) (listed_pairs d c.if-not-has.out.items) fails grown);
      }
      | else-not-has w ↦ record {
        ordered = omega (arith, w.first-is, c.loop-place.invariant.ordered);
        listed = λ d test is tells.
            let passes = told_alike (HasBit c.args.self.now c.args.own v) (test v) c.has.result (tells v) c.has.ensures ∙ w.if-not-has.false in
            let before = listed_pairs d c.args.out.now.items in
            subst (λ k. AreListed d x test vs before (listed_pairs d c.if-not-has.out.items) k (place + 1)) (sym w.first-is)
            (subst (λ ps. AreListed d x test vs before ps first (place + 1)) (sym (ap (λ o. listed_pairs d o.items) w.out-is))
            (run_goes_on d x test vs is before (listed_pairs d c.loop-place.out.items) first place v c.loop-place-test.true c.index-declared-place.is (c.loop-place.invariant.listed d test is tells) c.loop-place.invariant.ordered passes));
      }
    ]

pub returns : goal.returns
returns c d test is tells =
    let listed = listed_pairs d c.loop-place.out.items in
    let now = listed_pairs d c.push_interval-2.new.out.items in
    let same : c.loop-place.place ≡ length c.args.declared.now = omega (arith, c.loop-place.auto.place-end, c.loop-place-test.false) in
    on_ok _ _ c.push_interval-2.result
    (λ e. all_listed d c.args.var.now test c.args.declared.now is (listed_pairs d c.args.out.now.items) listed now c.loop-place.first c.loop-place.place (length c.args.declared.now) same c.loop-place-test.false
    (c.loop-place.invariant.listed d test is tells) e)
    (c.push_interval-2.ensures d)
