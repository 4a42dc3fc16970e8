-- The walk where the values with support lie together: from its least value up, from its greatest down, and past those between.
use Rattle.std.proofs.Common.{◌≡◌, ℕ, ◌+◌, ◌≤◌, ◌<◌, ℤ, pos, ◌+ℤ◌, ◌<ℤ◌, ◌≤ℤ◌, not, Option, Some, None, IfSome, MatchOption, List, [], ◌∷◌, length, Contains, inl, inr, refl, sym, ap, ◌∙◌, subst, arith, length-append, int_lt}
use Rattle.std.specs.Option.{unwrap_or}
use Rattle.std.proofs.lemmas.Int.{ints}
use Rattle.std.proofs.lemmas.Bool.{not-true}
use Rattle.palm_base.proofs.cited.Members.{int_known, member_here, member_nil, member_single}
use Rattle.palm_domain.specs.Rows.{Row, IsGreatestOf, IsLastBefore, LosesPair, initial_of, present_of, present_values}
use Rattle.palm_domain.proofs.cited.Comparisons.{lt_from_int_lt, ge_from_int_lt, int_lt_from_lt, int_lt_from_ge}
use Rattle.palm_filter.specs.Shapes.{IsConvex}
use Rattle.palm_model.specs.Domains.{Domains, Ascends, Has, values_of}
use Rattle.palm_model.specs.Support.{IsSupported, LacksSupport}
use Rattle.palm_model.specs.Removed.{pairs_of}
use Rattle.palm_model.specs.Log.{Active}
use Rattle.palm_model.proofs.cited.Without.{pair_of}
use Rattle.palm_events.proofs.cited.Agreeing.{lacks_in}
use Rattle.palm_engine.specs.declared.filtering.Filtering.{Filtering}
use Rattle.palm_engine.specs.Kept.{state_in_revision}
use Rattle.palm_engine.specs.Advancing.{Advanced, IsLater, LacksAbove, LacksFrom, TakenFrom, values_below, values_before, values_from, IsBefore}
use Rattle.palm_engine.specs.Revising.{IsRevising, Walked, HasCounted}
use Rattle.palm_engine.specs.Work.{asks_of}
use Rattle.palm_engine.proofs.Counting.{length_filter_le, length_filter_lt}
use Rattle.palm_engine.proofs.Joined.{walk_has}
use Rattle.palm_engine.proofs.Bounds.{IsNextAt, left_from, below_from}
use Rattle.palm_engine.proofs.Quiet.{IsQuiet, none_asked}
use Rattle.palm_engine.proofs.Revised.{present_is}
use Rattle.palm_engine.proofs.Progress.{declared_ascend, has_declared_value, one_more_below, below_or_not, over, counted_none, counted_then, counted_more, revising_checks, walked_checks, walked_initial, values_more, values_passed, values_fewer}

-- ---- up

-- checks may rise beside
pub advanced_checks : (active : List Active) (owner : Active) (x : ℕ) (next : Option ℤ) (before now : Filtering) (k : ℕ) → Advanced active owner x next before now → Advanced active owner x next before (record now { checks = k })
advanced_checks active owner x next before now k w = record {
  revising = revising_checks active owner now k w.revising;
  walked = walked_checks active owner (pairs_of x (values_before next (values_of (initial_of before.store) x))) before now k w.walked;
  present = w.present;
  supported = w.supported;
  alone = w.alone;
}

-- the values up to this one were asked for, and it too
pub value_counted : (active : List Active) (owner : Active) (x : ℕ) (v : ℤ) (before now after : Filtering) (s t u : ℕ) → Advanced active owner x (Some v) before now
    → HasCounted (length (values_below v (values_of (initial_of before.store) x))) before now s t → HasCounted 1 now after t u
    → HasCounted (length (values_below (v +ℤ pos 1) (values_of (initial_of before.store) x))) before after s u
value_counted active owner x v before now after s t u w first counted =
    let vs = values_of (initial_of before.store) x in
    let i = walked_initial active owner (pairs_of x (values_below v vs)) before now w.walked in
    let a : Ascends vs = subst (λ (d : Domains). Ascends (values_of d x)) i (declared_ascend now active owner w.revising x) in
    let has : Contains vs v = subst (λ (d : Domains). Has d x v) i (has_declared_value now active w.revising.kept x v w.present) in
    subst (λ n. HasCounted n before after s u) (sym (one_more_below vs v a has)) (counted_then (length (values_below v vs)) 1 before now after s t u first counted)

-- ---- down

-- how far the search for the last value with support came: those above lack it
pub record Sunk (owner : Active) (x : ℕ) (known value : ℤ) (before now : Filtering) (old new : ℕ) : Type 0 where
  pub same : now ≡ record before { checks = now.checks }
  pub present : Has (present_of before.store) x value
  pub above : known ≤ℤ value
  pub lacking : LacksAbove before owner x value
  pub counted : HasCounted (length (values_from (value +ℤ pos 1) (values_of (initial_of before.store) x))) before now old new

-- at the greatest value none was asked for
pub sunk_start : (owner : Active) (x : ℕ) (known value : ℤ) (f : Filtering) (s : ℕ) → IsGreatestOf (present_values f.store x) value → Has (present_of f.store) x known → Sunk owner x known value f f s s
sunk_start owner x known value f s greatest has = record {
  same = refl;
  present = greatest.member;
  above = greatest.greatest known has;
  lacking = λ v here lt. let le = greatest.greatest v here in absurd (omega (arith, ints, le, lt));
  counted = counted_more 0 (length (values_from (value +ℤ pos 1) (values_of (initial_of f.store) x))) f f s s (omega arith) (counted_none f s);
}

-- from a lower bound on there are no fewer values
from_fewer : (vs : List ℤ) (low high : ℤ) → low ≤ℤ high → length (values_from high vs) ≤ length (values_from low vs)
from_fewer vs low high le = length_filter_le (λ u. not (int_lt u high)) (λ u. not (int_lt u low)) vs
    (λ u t. let ge = ge_from_int_lt u high (not-true (int_lt u high) t) in ap not (int_lt_from_ge u low (omega (arith, ints, ge, le))))

-- and from a member on one more than from the number after it
from_more : (vs : List ℤ) (v : ℤ) → Contains vs v → length (values_from (v +ℤ pos 1) vs) < length (values_from v vs)
from_more vs v has = length_filter_lt (λ u. not (int_lt u (v +ℤ pos 1))) (λ u. not (int_lt u v)) vs v
    (λ u t. let ge = ge_from_int_lt u (v +ℤ pos 1) (not-true (int_lt u (v +ℤ pos 1)) t) in ap not (int_lt_from_ge u v (omega (arith, ints, ge))))
    has (ap not (int_lt_from_ge v v (omega (arith, ints)))) (ap not (int_lt_from_lt v (v +ℤ pos 1) (omega (arith, ints))))

-- the revision goes on
pub sunk_revising : (active : List Active) (owner : Active) (x : ℕ) (known value : ℤ) (before now : Filtering) (s t : ℕ) → IsRevising before active owner → Sunk owner x known value before now s t → IsRevising now active owner
sunk_revising active owner x known value before now s t r w = subst (λ (f : Filtering). IsRevising f active owner) (sym w.same) (revising_checks active owner before now.checks r)

sunk_store : (owner : Active) (x : ℕ) (known value : ℤ) (before now : Filtering) (s t : ℕ) → Sunk owner x known value before now s t → now.store ≡ before.store
sunk_store owner x known value before now s t w = ap (λ (f : Filtering). f.store) w.same

-- the value was asked for too
pub sunk_counted : (active : List Active) (owner : Active) (x : ℕ) (known value : ℤ) (before now after : Filtering) (s t u : ℕ) → IsRevising before active owner → known <ℤ value → Sunk owner x known value before now s t → HasCounted 1 now after t u
    → HasCounted (length (values_from (known +ℤ pos 1) (values_of (initial_of before.store) x))) before after s u
sunk_counted active owner x known value before now after s t u r lt w counted =
    let vs = values_of (initial_of before.store) x in
    let more = from_more vs value (has_declared_value before active r.kept x value w.present) in
    let upto = from_fewer vs (known +ℤ pos 1) value (omega (arith, ints, lt)) in
    counted_more (length (values_from (value +ℤ pos 1) vs) + 1) (length (values_from (known +ℤ pos 1) vs)) before after s u (omega (arith, more, upto))
    (counted_then (length (values_from (value +ℤ pos 1) vs)) 1 before now after s t u w.counted counted)

-- the next value downwards is present, below this one and none below the known one, and none lies between
record IsNextDown (vs : List ℤ) (known value down : ℤ) : Type 0 where
  pub member : Contains vs down
  pub above : known ≤ℤ down
  pub below : down <ℤ value
  pub greatest : (w : ℤ) → Contains vs w → down <ℤ w → value ≤ℤ w

next_down : (vs : List ℤ) (known value : ℤ) (o : Option ℤ) → Contains vs known → known <ℤ value → MatchOption o ((w : ℤ) → Contains vs w → value ≤ℤ w) (IsLastBefore vs value) → IsNextDown vs known value (unwrap_or o known)
next_down vs known value None has lt none = let le = none known has in absurd (omega (arith, ints, le, lt))
next_down vs known value (Some v) has lt last = record {
  member = last.member;
  above = last.greatest known has lt;
  below = last.below;
  greatest = λ w m above. elim (below_or_not w value) [
    | inl below ↦ let le = last.greatest w m below in absurd (omega (arith, ints, le, above))
    | inr le ↦ le
  ];
}

-- a value that lacks support is left behind
pub sunk_more : (active : List Active) (owner : Active) (x : ℕ) (known value : ℤ) (o : Option ℤ) (before now after : Filtering) (s t u : ℕ) → IsRevising before active owner → Has (present_of before.store) x known → known <ℤ value
    → Sunk owner x known value before now s t → LacksSupport (present_of now.store) owner.con x value → after ≡ record now { checks = after.checks } → HasCounted 1 now after t u
    → MatchOption o ((w : ℤ) → Has (present_of now.store) x w → value ≤ℤ w) (IsLastBefore (present_values now.store x) value) → Sunk owner x known (unwrap_or o known) before after s u
sunk_more active owner x known value o before now after s t u r has lt w lacks same counted told =
    let store = sunk_store owner x known value before now s t w in
    let vs = values_of (initial_of before.store) x in
    let told' = subst (λ (rows : List Row). MatchOption o ((w : ℤ) → Has (present_of rows) x w → value ≤ℤ w) (IsLastBefore (present_values rows x) value)) store told in
    let next = next_down (present_values before.store x) known value o has lt told' in
    let more = from_more vs value (has_declared_value before active r.kept x value w.present) in
    let below = next.below in
    let upto = from_fewer vs (unwrap_or o known +ℤ pos 1) value (omega (arith, ints, below)) in
    record {
      same = same ∙ ap (λ (f : Filtering). record f { checks = after.checks }) w.same;
      present = next.member;
      above = next.above;
      lacking = λ v here above. lacks_at v (next.greatest v here above) here;
      counted = counted_more (length (values_from (value +ℤ pos 1) vs) + 1) (length (values_from (unwrap_or o known +ℤ pos 1) vs)) before after s u (omega (arith, more, upto))
          (counted_then (length (values_from (value +ℤ pos 1) vs)) 1 before now after s t u w.counted counted);
    }
  where
    above_other : (value v : ℤ) → value ≤ℤ v → (value ≡ v → ⊥) → value <ℤ v
    above_other value v le n = let o = over value v le n in omega (arith, ints, o)

    lacks_at : (v : ℤ) → value ≤ℤ v → Has (present_of before.store) x v → LacksSupport (present_of before.store) owner.con x v
    lacks_at v le here = elim (int_known value v) [
      | inl e ↦ subst (λ z. LacksSupport (present_of before.store) owner.con x z) e (subst (λ (rows : List Row). LacksSupport (present_of rows) owner.con x value) (sunk_store owner x known value before now s t w) lacks)
      | inr n ↦ w.lacking v here (above_other value v le n)
    ]

-- and below it are fewer
pub sunk_fewer : (active : List Active) (owner : Active) (x : ℕ) (known value : ℤ) (o : Option ℤ) (before now : Filtering) (s t : ℕ) → IsRevising before active owner → Has (present_of before.store) x known → known <ℤ value
    → Sunk owner x known value before now s t → MatchOption o ((w : ℤ) → Has (present_of now.store) x w → value ≤ℤ w) (IsLastBefore (present_values now.store x) value)
    → length (values_below (unwrap_or o known) (values_of (initial_of before.store) x)) < length (values_below value (values_of (initial_of before.store) x))
sunk_fewer active owner x known value o before now s t r has lt w told =
    let store = sunk_store owner x known value before now s t w in
    let told' = subst (λ (rows : List Row). MatchOption o ((w : ℤ) → Has (present_of rows) x w → value ≤ℤ w) (IsLastBefore (present_values rows x) value)) store told in
    let next = next_down (present_values before.store x) known value o has lt told' in
    below_fewer (values_of (initial_of before.store) x) (unwrap_or o known) value (has_declared_value before active r.kept x (unwrap_or o known) next.member) next.below
  where
    below_fewer : (vs : List ℤ) (low high : ℤ) → Contains vs low → low <ℤ high → length (values_below low vs) < length (values_below high vs)
    below_fewer vs low high has lt = length_filter_lt (λ u. int_lt u low) (λ u. int_lt u high) vs low
        (λ u t. let below = lt_from_int_lt u low t in int_lt_from_lt u high (omega (arith, ints, below, lt)))
        has (int_lt_from_lt low high lt) (int_lt_from_ge low low (omega (arith, ints)))

-- ---- between

present_inside : (active : List Active) (owner : Active) (x : ℕ) (v : ℤ) (now after : Filtering) → IsRevising now active owner → IsRevising after active owner → Walked active owner (pair_of x v ∷ []) now after
    → (y : ℕ) (w : ℤ) → Has (present_of after.store) y w → Has (present_of now.store) y w
present_inside active owner x v now after r q one y w has =
    subst (λ d. Has d y w) (present_is now active owner.cid r.kept)
    (walk_has owner (pair_of x v ∷ []) (state_in_revision now active owner.cid) one.removed (state_in_revision after active owner.cid) one.walk y w
    (subst (λ d. Has d y w) (sym (present_is after active owner.cid q.kept)) has))

-- what lacks support lacks it after one of these values is gone
pub lacks_on : (active : List Active) (owner : Active) (x : ℕ) (v : ℤ) (until next : Option ℤ) (now after : Filtering) → IsRevising now active owner → IsRevising after active owner → Walked active owner (pair_of x v ∷ []) now after
    → LacksFrom now owner x until (Some v) → IsNextAt next (present_values after.store x) (v +ℤ pos 1) → LacksFrom after owner x until next
lacks_on active owner x v until None now after r q one lacks none = tt
lacks_on active owner x v until (Some w) now after r q one lacks next = λ u has ge before.
    let inside = present_inside active owner x v now after r q one in
    let from = next.from in
    lacks_in (present_of now.store) (present_of after.store) owner.con x u (λ y z m here. inside y z here) (lacks u (inside x u has) (omega (arith, ints, ge, from)) before)

-- the values between two that have support are passed
pub between_passed : (active : List Active) (owner : Active) (x : ℕ) (first last : ℤ) (next : Option ℤ) (before now : Filtering) → Advanced active owner x (Some first) before now → first ≤ℤ last
    → IsSupported (present_of now.store) owner.con x first → IsSupported (present_of now.store) owner.con x last → IsConvex owner.con x
    → IsNextAt next (present_values now.store x) (last +ℤ pos 1) → Advanced active owner x next before now
between_passed active owner x first last next before now w le low high convex is_next =
    values_passed active owner x first next before now w (next_above next is_next) (next_here next is_next)
    (λ u ge is has. convex (present_of now.store) first u last has ge (upto u next is_next has is) low high)
  where
    next_above : (next : Option ℤ) → IsNextAt next (present_values now.store x) (last +ℤ pos 1) → IfSome next (λ v. first ≤ℤ v)
    next_above (Some v) n = let from = n.from in omega (arith, ints, le, from)
    next_above None n = tt

    next_here : (next : Option ℤ) → IsNextAt next (present_values now.store x) (last +ℤ pos 1) → IfSome next (λ v. Has (present_of now.store) x v)
    next_here (Some v) n = n.member
    next_here None n = tt

    upto : (u : ℤ) (next : Option ℤ) → IsNextAt next (present_values now.store x) (last +ℤ pos 1) → Has (present_of now.store) x u → IsBefore next u → u ≤ℤ last
    upto u (Some v) n has lt = elim (below_or_not last u) [
      | inl above ↦ let ge = n.least u has (omega (arith, ints, above)) in absurd (omega (arith, ints, ge, lt))
      | inr le ↦ le
    ]
    upto u None none has is = let lt = none u has in omega (arith, ints, lt)

-- those above the last one with support lack it
pub lacks_above : (owner : Active) (x : ℕ) (last : ℤ) (next : Option ℤ) (f : Filtering) → LacksAbove f owner x last → IsNextAt next (present_values f.store x) (last +ℤ pos 1) → LacksFrom f owner x None next
lacks_above owner x last None f lacks none = tt
lacks_above owner x last (Some w) f lacks next = λ u has ge before. let from = next.from in lacks u has (omega (arith, ints, ge, from))

-- after both were found the walk goes on above the last one
pub ends_advanced : (active : List Active) (owner : Active) (x : ℕ) (first last : ℤ) (next : Option ℤ) (before now after : Filtering) → Advanced active owner x (Some first) before now → after ≡ record now { checks = after.checks } → first ≤ℤ last
    → IsSupported (present_of now.store) owner.con x first → IsSupported (present_of now.store) owner.con x last → IsConvex owner.con x
    → IsNextAt next (present_values after.store x) (last +ℤ pos 1) → Advanced active owner x next before after
ends_advanced active owner x first last next before now after w same le low high convex is_next =
    let store : after.store ≡ now.store = ap (λ (f : Filtering). f.store) same in
    let is_next' = subst (λ (rows : List Row). IsNextAt next (present_values rows x) (last +ℤ pos 1)) store is_next in
    subst (λ (f : Filtering). Advanced active owner x next before f) (sym same)
    (advanced_checks active owner x next before now after.checks (between_passed active owner x first last next before now w le low high convex is_next'))

-- and what is left lacks support
pub ends_lacking : (owner : Active) (x : ℕ) (last : ℤ) (next : Option ℤ) (now after : Filtering) → after ≡ record now { checks = after.checks } → LacksAbove now owner x last
    → IsNextAt next (present_values after.store x) (last +ℤ pos 1) → LacksFrom after owner x None next
ends_lacking owner x last next now after same lacks is_next =
    let lacks' = subst (λ (f : Filtering). LacksAbove f owner x last) (sym same) (above_checks now after.checks lacks) in
    lacks_above owner x last next after lacks' is_next
  where
    above_checks : (f : Filtering) (k : ℕ) → LacksAbove f owner x last → LacksAbove (record f { checks = k }) owner x last
    above_checks f k lacks = lacks

-- the values up to the first one and those above it are all
pub ends_counted : (active : List Active) (owner : Active) (x : ℕ) (first : ℤ) (before now after end : Filtering) (s t u : ℕ) → Advanced active owner x (Some first) before now
    → HasCounted (length (values_below (first +ℤ pos 1) (values_of (initial_of before.store) x))) before now s t
    → HasCounted (length (values_from (first +ℤ pos 1) (values_of (initial_of now.store) x))) now after t u → end.checks ≡ after.checks → s + asks_of owner ≤ t → IsQuiet owner after end
    → HasCounted (length (values_of (initial_of before.store) x)) before end s u
ends_counted active owner x first before now after end s t u w low high same asked quiet =
    let vs = values_of (initial_of before.store) x in
    let bound = first +ℤ pos 1 in
    let i = walked_initial active owner (pairs_of x (values_below first vs)) before now w.walked in
    let a : Ascends vs = subst (λ (d : Domains). Ascends (values_of d x)) i (declared_ascend now active owner w.revising x) in
    let e : length (values_below bound vs) + length (values_from bound vs) ≡ length vs = sym (length-append (values_below bound vs) (values_from bound vs)) ∙ ap length (below_from bound vs a) in
    let both = counted_then (length (values_below bound vs)) (length (values_from bound vs)) before now after s t u low (subst (λ (d : Domains). HasCounted (length (values_from bound (values_of d x))) now after t u) i high) in
    let all = subst (λ n. HasCounted n before after s u) e both in
    let ticked = all.ticked in
    let later = high.ticked.later in
    record {
      ticked = record { later = ticked.later; few = ticked.few; checks = λ le. same ∙ ticked.checks le };
      silent = λ e. quiet (none_asked owner s t u asked later e) ∙ all.silent e;
    }

-- ---- those above the last one

-- at the first of them none was taken out
pub taken_start : (owner : Active) (x : ℕ) (until from : Option ℤ) (f : Filtering) → LacksFrom f owner x until from → TakenFrom owner x until from from f f
taken_start owner x until from f lacks = record { advanced = λ active start w. w; revising = λ active r. r; lacking = lacks; checks = refl }

-- one part after another
pub taken_then : (owner : Active) (x : ℕ) (until from middle next : Option ℤ) (before now after : Filtering) → TakenFrom owner x until from middle before now → TakenFrom owner x until middle next now after → TakenFrom owner x until from next before after
taken_then owner x until from middle next before now after first second = record {
  advanced = λ active start w. second.advanced active start (first.advanced active start w);
  revising = λ active r. second.revising active (first.revising active r);
  lacking = second.lacking;
  checks = second.checks ∙ first.checks;
}

-- one of them is taken out
pub taken_more : (owner : Active) (x : ℕ) (v : ℤ) (until from next : Option ℤ) (before now after : Filtering) → TakenFrom owner x until from (Some v) before now
    → ((active : List Active) → IsRevising now active owner → Walked active owner (pair_of x v ∷ []) now after) → ((active : List Active) → IsRevising now active owner → IsRevising after active owner)
    → LosesPair now.store after.store x v → after.checks ≡ now.checks → IsNextAt next (present_values after.store x) (v +ℤ pos 1)
    → (active : List Active) × (start : Filtering) × Advanced active owner x from start before → TakenFrom owner x until from next before after
taken_more owner x v until from next before now after t walked revising loses checks is_next some =
    let r = (t.advanced some.0 some.1 some.2).revising in
    record {
      advanced = λ active start w.
          let at = t.advanced active start w in
          values_more active owner x v next start now after at (walked active at.revising) (revising active at.revising) (λ has. absurd (loses.gone has)) is_next;
      revising = λ active r. revising active (t.revising active r);
      lacking = lacks_on some.0 owner x v until next now after r (revising some.0 r) (walked some.0 r) t.lacking is_next;
      checks = checks ∙ t.checks;
    }

-- one of them is less
taken_fewer : (owner : Active) (x : ℕ) (v : ℤ) (until from next : Option ℤ) (before now : Filtering) (here : List ℤ) → TakenFrom owner x until from (Some v) before now → IsNextAt next here (v +ℤ pos 1)
    → (active : List Active) × (start : Filtering) × Advanced active owner x from start before
    → left_from next (values_of (initial_of before.store) x) < left_from (Some v) (values_of (initial_of before.store) x)
taken_fewer owner x v until from next before now here t is_next some =
    let e = walked_initial some.0 owner (pairs_of x (values_before from (values_of (initial_of some.1.store) x))) some.1 before some.2.walked in
    subst (λ (d : Domains). left_from next (values_of d x) < left_from (Some v) (values_of d x)) (sym e) (values_fewer some.0 owner x v next some.1 now here (t.advanced some.0 some.1 some.2) is_next)

-- a later one stands next to the value in some list
next_somewhere : (v : ℤ) (next : Option ℤ) → IsLater v next → (here : List ℤ) × IsNextAt next here (v +ℤ pos 1)
next_somewhere v (Some w) later = (w ∷ [], record { member = member_here w []; from = omega (arith, ints, later); least = λ u m ge. let same = member_single w u m in omega (arith, ints, same) })
next_somewhere v None later = ([], λ w m. absurd (member_nil w m))

-- and fewer are left
pub later_fewer : (owner : Active) (x : ℕ) (v : ℤ) (until from next : Option ℤ) (before now : Filtering) → TakenFrom owner x until from (Some v) before now → IsLater v next → (active : List Active) × (start : Filtering) × Advanced active owner x from start before
    → left_from next (values_of (initial_of before.store) x) < left_from (Some v) (values_of (initial_of before.store) x)
later_fewer owner x v until from next before now t later some = let some_next = next_somewhere v next later in taken_fewer owner x v until from next before now some_next.0 t some_next.1 some
