use Rattle.std.proofs.Common.{◌≡◌, [], ◌<◌, ◌-◌, List, length, get_or, take, drop, ℕ, rules, arith, sym, ◌∙◌, subst, eqb-true, Contains}
use Rattle.std.proofs.lemmas.Bool.{eqb-false}
use Rattle.std.proofs.lemmas.List.{nil_from_length}
use Rattle.std.proofs.lemmas.List.Elements.{All-take, All-drop, All-contains, Contains-get_or}
use Rattle.palm_model.specs.Domains.{Has}
use Rattle.palm_model.specs.Trial.{listed, IsCompleted, IsTriable}
use Rattle.palm_base.proofs.cited.Telling.{tells_same, tells_both, tells_true, tells_false}
use Rattle.palm_base.proofs.cited.Members.{member_same, member_there}
use Rattle.palm_model.specs.Part.{Holds}
use Rattle.palm_model.proofs.cited.Trials.{completed_none, holds_completed}
use Rattle.palm_model.proofs.Tries.{try_made, open_split, skip_holds, skip_fails, try_changes, try_holds, try_fails, tries_more, tries_fail}
use Rattle.palm_model.proofs.support.+is_completed.Goals as goal

pub returns-then-eq-clause-completed : goal.returns-then-eq-clause-completed
returns-then-eq-clause-completed t c =
    let xs = c.args.open_vars.now in
    let y = c.first-item.result in
    let x = c.args.fixed.now in
    let a = listed c.args.values.now in
    let rest = take (length xs - 1) (drop 1 xs) in
    let e = open_split xs y (omega (arith, c.in-len1-up.len_at_least)) c.first-item.is in
    let same = eqb-true y x (sym c.eq.ensures ∙ c.if-eq.true) in
    tells_both (IsCompleted c.args.domains.now c.args.part.now x xs a) c.is_completed.result
    (λ h. skip_holds c.args.domains.now c.args.part.now x y xs rest a e same (tells_true _ c.is_completed.result c.is_completed.ensures.completed h))
    (λ h. skip_fails c.args.domains.now c.args.part.now x y xs rest a e same (tells_false _ c.is_completed.result c.is_completed.ensures.completed h))

pub is_completed-requires-in-loop-value : goal.is_completed-requires-in-loop-value
is_completed-requires-in-loop-value t c =
    let xs = c.args.open_vars.now in
    let n : length c.assign.new.values ≡ length c.args.values.now = c.assign.ensures.len ∙ c.loop-value.auto.values in (
      search rules,
      (
        subst (λ m. IsTriable m c.args.part.now) (sym n) c.requires.triable,
        (
          subst (λ m. (k d : ℕ) → k < length (take (length xs - 1) (drop 1 xs)) → get_or (take (length xs - 1) (drop 1 xs)) k d < m) (sym n)
              (All-take (λ z. z < length c.args.values.now) (length xs - 1) (drop 1 xs) (All-drop (λ z. z < length c.args.values.now) 1 xs c.requires.declared)),
          c.requires.domains ∙ sym n,
        ),
      ),
    )

first_member : (xs : List ℕ) (y : ℕ) → 0 < length xs → y ≡ get_or xs 0 y → Contains xs y
first_member xs y lt e = member_same xs (get_or xs 0 y) y (sym e) (Contains-get_or xs 0 y lt)

pub returns-then-is_completed-clause-changes : goal.returns-then-is_completed-clause-changes
returns-then-is_completed-clause-changes t c =
    let xs = c.args.open_vars.now in
    let ys = take (length xs - 1) (drop 1 xs) in
    let y = c.first-item.result in
    let x = c.args.fixed.now in
    let w = c.value-item.result in
    let old = c.args.values.now in
    let before = c.loop-value.values in
    let now = c.assign.new.values in
    let declared : y < length before = omega (arith, All-contains (λ z. z < length old) xs y c.requires.declared (first_member xs y (omega (arith, c.in-len1-up.len_at_least)) c.first-item.is), c.loop-value.auto.values) in
    let s = try_made xs x y w old before now (omega (arith, c.in-len1-up.len_at_least)) c.first-item.is (sym c.eq.ensures ∙ c.if-eq.false) declared c.loop-value.invariant.changes c.assign.ensures.set in
    try_changes xs ys x y w old before now s c.is_completed-in-loop-value.new.values c.is_completed-in-loop-value.ensures.changes

pub returns-then-is_completed-clause-completed : goal.returns-then-is_completed-clause-completed
returns-then-is_completed-clause-completed t c =
    let xs = c.args.open_vars.now in
    let ys = take (length xs - 1) (drop 1 xs) in
    let y = c.first-item.result in
    let x = c.args.fixed.now in
    let w = c.value-item.result in
    let old = c.args.values.now in
    let before = c.loop-value.values in
    let now = c.assign.new.values in
    let declared : y < length before = omega (arith, All-contains (λ z. z < length old) xs y c.requires.declared (first_member xs y (omega (arith, c.in-len1-up.len_at_least)) c.first-item.is), c.loop-value.auto.values) in
    let s = try_made xs x y w old before now (omega (arith, c.in-len1-up.len_at_least)) c.first-item.is (sym c.eq.ensures ∙ c.if-eq.false) declared c.loop-value.invariant.changes c.assign.ensures.set in
    let d = c.args.domains.now in
    let vs = c.values_of-value-items.result.now in
    let has : Has d y w = subst (λ us. Contains us w) c.values_of-value-items.ensures (member_same vs (get_or vs c.loop-value.value-index w) w (sym c.value-item.is) (Contains-get_or vs c.loop-value.value-index w c.loop-value-test.true)) in
    try_holds xs ys x y w old before now s d c.args.part.now has (tells_true _ c.is_completed-in-loop-value.result c.is_completed-in-loop-value.ensures.completed c.if-is_completed.true)

pub loop-value-preserved : goal.loop-value-preserved
loop-value-preserved t c =
    let xs = c.args.open_vars.now in
    let ys = take (length xs - 1) (drop 1 xs) in
    let y = c.first-item.result in
    let x = c.args.fixed.now in
    let w = c.value-item.result in
    let old = c.args.values.now in
    let before = c.loop-value.values in
    let now = c.assign.new.values in
    let declared : y < length before = omega (arith, All-contains (λ z. z < length old) xs y c.requires.declared (first_member xs y (omega (arith, c.in-len1-up.len_at_least)) c.first-item.is), c.loop-value.auto.values) in
    let s = try_made xs x y w old before now (omega (arith, c.in-len1-up.len_at_least)) c.first-item.is (sym c.eq.ensures ∙ c.if-eq.false) declared c.loop-value.invariant.changes c.assign.ensures.set in
    let d = c.args.domains.now in
    let p = c.args.part.now in
    let vs = c.values_of-value-items.result.now in
    record {
      changes = try_changes xs ys x y w old before now s c.is_completed-in-loop-value.new.values c.is_completed-in-loop-value.ensures.changes;
      tried = tries_more d p x y ys old vs c.loop-value.value-index w c.loop-value-test.true c.value-item.is
          (try_fails xs ys x y w old before now s d p (tells_false _ c.is_completed-in-loop-value.result c.is_completed-in-loop-value.ensures.completed c.if-is_completed.false)) c.loop-value.invariant.tried;
    }

pub returns-clause-completed : goal.returns-clause-completed
returns-clause-completed t c =
    let xs = c.args.open_vars.now in
    let y = c.first-item.result in
    let vs = c.values_of-value-items.result.now in
    tries_fail c.args.domains.now c.args.part.now c.args.fixed.now y xs (take (length xs - 1) (drop 1 xs)) c.args.values.now vs c.loop-value.value-index
    (open_split xs y (omega (arith, c.in-len1-up.len_at_least)) c.first-item.is) (eqb-false y c.args.fixed.now (sym c.eq.ensures ∙ c.if-eq.false))
    c.values_of-value-items.ensures c.loop-value-test.false c.loop-value.invariant.tried

pub returns-in_default-clause-completed : goal.returns-in_default-clause-completed
returns-in_default-clause-completed t c =
    let xs = c.args.open_vars.now in
    let d = c.args.domains.now in
    let p = c.args.part.now in
    let x = c.args.fixed.now in
    let a = listed c.args.values.now in
    let e : xs ≡ [] = nil_from_length xs (omega (arith, c.in_default.len_below)) in
    tells_same (Holds p a) (IsCompleted d p x xs a) c.is_satisfied.result
    (λ h. subst (λ ys. IsCompleted d p x ys a) (sym e) (completed_none d p x a h))
    (λ m. holds_completed d p x a (subst (λ ys. IsCompleted d p x ys a) e m))
    c.is_satisfied.ensures

pub is_completed-requires : goal.is_completed-requires
is_completed-requires t c =
    let xs = c.args.open_vars.now in (
      search rules,
      (
        c.requires.triable,
        (
          All-take (λ z. z < length c.args.values.now) (length xs - 1) (drop 1 xs) (All-drop (λ z. z < length c.args.values.now) 1 xs c.requires.declared),
          c.requires.domains,
        ),
      ),
    )

pub returns-then-eq-clause-changes : goal.returns-then-eq-clause-changes
returns-then-eq-clause-changes t c =
    let xs = c.args.open_vars.now in
    let y = c.first-item.result in
    let rest = take (length xs - 1) (drop 1 xs) in
    let e = open_split xs y (omega (arith, c.in-len1-up.len_at_least)) c.first-item.is in
    record {
      fixed = c.is_completed.ensures.changes.fixed;
      others = λ z n. c.is_completed.ensures.changes.others z (λ m. n (subst (λ ys. Contains ys z) (sym e) (member_there y rest z m)));
    }
