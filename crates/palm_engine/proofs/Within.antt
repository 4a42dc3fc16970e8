-- A walk over the values from one bound to another, where those beyond them have support.
use Rattle.std.proofs.Common.{◌≡◌, ℕ, pos, ◌+ℤ◌, ◌<ℤ◌, ◌≤ℤ◌, List, [], ◌∷◌, length, Contains, ℤ, Option, Some, None, inl, inr, refl, sym, ap, ◌∙◌, subst, arith, length-append}
use Rattle.std.proofs.lemmas.Int.{ints}
use Rattle.palm_domain.specs.Rows.{initial_of, present_of, present_values}
use Rattle.palm_model.specs.Domains.{Domains, Ascends, Has, values_of}
use Rattle.palm_model.specs.Support.{IsSupported}
use Rattle.palm_model.specs.Removed.{pairs_of}
use Rattle.palm_model.specs.Log.{Active}
use Rattle.palm_model.specs.State.{AllFilled}
use Rattle.palm_model.proofs.cited.Without.{pair_of}
use Rattle.palm_agenda.specs.declared.mark.Mark.TheVariants.{Between}
use Rattle.palm_engine.specs.declared.filtering.Filtering.{Filtering}
use Rattle.palm_engine.specs.Kept.{state_in_revision}
use Rattle.palm_engine.specs.Advancing.{AreSupportedBeyond, AreSupportedUnless}
use Rattle.palm_engine.specs.Revising.{IsRevising, Walked, HasCounted}
use Rattle.palm_engine.proofs.Bounds.{values_below, values_from, values_before, IsBefore, IsNextAt, below_from, below_of, supported_past}
use Rattle.palm_engine.proofs.Revised.{present_is, one_supports}
use Rattle.palm_engine.proofs.Progress.{WalkedValues, walked_initial, declared_ascend, counted_none, counted_more, below_or_not, next_present, stays_there, values_more, values_passed, more_counted}

-- the values before the next one were walked over, and those above the bound have support
pub record WalkedWithin (active : List Active) (owner : Active) (x : ℕ) (high : ℤ) (next : Option ℤ) (before now : Filtering) (old new : ℕ) : Type 0 where
  pub values : WalkedValues active owner x next before now old new
  pub above : (u : ℤ) → Has (present_of now.store) x u → high <ℤ u → IsSupported (present_of now.store) owner.con x u

-- a present value before the first one from the bound on is below it
before_low : (next : Option ℤ) (now : List ℤ) (low u : ℤ) → IsNextAt next now low → IsBefore next u → Contains now u → u <ℤ low
before_low None now low u none before has = none u has
before_low (Some v) now low u next before has = elim (below_or_not u low) [
  | inl lt ↦ lt
  | inr ge ↦ let le = next.least u has ge in absurd (omega (arith, ints, le, before))
]

in_before : (vs : List ℤ) (next : Option ℤ) (u : ℤ) → Contains (values_before next vs) u → IsBefore next u
in_before vs (Some v) u m = (below_of v vs u m).1
in_before vs None u m = tt

pub within_start : (active : List Active) (owner : Active) (x : ℕ) (low high : ℤ) (next : Option ℤ) (f : Filtering) (s : ℕ) → IsRevising f active owner → AllFilled (present_of f.store)
    → AreSupportedBeyond f owner x low high → IsNextAt next (present_values f.store x) low → WalkedWithin active owner x high next f f s s
within_start active owner x low high next f s r filled beyond is_next =
    let vs = values_of (initial_of f.store) x in
    let e = present_is f active owner.cid r.kept in
    let known : (u : ℤ) → Contains (values_before next vs) u → Has (present_of f.store) x u → IsSupported (present_of f.store) owner.con x u =
    λ u m has. beyond.below u has (before_low next (present_values f.store x) low u is_next (in_before vs next u m) has) in
    record {
      values = record {
        advanced = record {
          revising = r;
          walked = record {
            removed = 0;
            walk = supported_past owner x (values_before next vs) (state_in_revision f active owner.cid) (λ u m has.
                subst (λ d. IsSupported d owner.con x u) (sym e) (known u m (subst (λ d. Has d x u) e has)));
            again = refl;
          };
          present = next_present next (present_values f.store x) low is_next;
          supported = known;
          alone = λ y empty. let some = filled y empty.exists in absurd (omega (arith, some, ap length empty.empty));
        };
        counted = counted_more 0 (length (values_before next vs)) f f s s (omega arith) (counted_none f s);
      };
      above = beyond.above;
    }

pub within_more : (active : List Active) (owner : Active) (x : ℕ) (high v : ℤ) (next : Option ℤ) (before now after : Filtering) (s t u : ℕ) → WalkedWithin active owner x high (Some v) before now s t → v ≤ℤ high
    → Walked active owner (pair_of x v ∷ []) now after → IsRevising after active owner → (Has (present_of after.store) x v → IsSupported (present_of after.store) owner.con x v)
    → HasCounted 1 now after t u → IsNextAt next (present_values after.store x) (v +ℤ pos 1) → WalkedWithin active owner x high next before after s u
within_more active owner x high v next before now after s t u w le one r supported counted is_next = record {
  values = record {
    advanced = values_more active owner x v next before now after w.values.advanced one r supported is_next;
    counted = more_counted active owner x v next before now after s t u w.values.advanced w.values.counted counted is_next;
  };
  above = λ z has lt.
      let was = w.values.advanced.revising in
      let en = present_is now active owner.cid was.kept in
      let ea = present_is after active owner.cid r.kept in
      let there = stays_there active owner x v now after one z (subst (λ d. Has d x z) (sym ea) has) in
      let other : v ≡ z → ⊥ = λ e. let above = subst (λ y. high <ℤ y) (sym e) lt in omega (arith, ints, le, above) in
      let s_now = w.above z (subst (λ d. Has d x z) en there) lt in
      subst (λ d. IsSupported d owner.con x z) ea
      (one_supports owner x v (state_in_revision now active owner.cid) one.removed (state_in_revision after active owner.cid) one.walk z other (subst (λ d. IsSupported d owner.con x z) (sym en) s_now));
}

-- above the bound nothing is asked for
pub within_ended : (active : List Active) (owner : Active) (x : ℕ) (high v : ℤ) (before now : Filtering) (s t : ℕ) → WalkedWithin active owner x high (Some v) before now s t → high <ℤ v
    → WalkedValues active owner x None before now s t
within_ended active owner x high v before now s t w lt =
    let vs = values_of (initial_of before.store) x in
    let a = w.values.advanced in
    let i = walked_initial active owner (pairs_of x (values_below v vs)) before now a.walked in
    let ascends : Ascends vs = subst (λ (d : Domains). Ascends (values_of d x)) i (declared_ascend now active owner a.revising x) in
    let e = ap length (sym (below_from v vs ascends)) ∙ length-append (values_below v vs) (values_from v vs) in
    record {
      advanced = values_passed active owner x v None before now a tt tt (λ u ge before_end has. w.above u has (omega (arith, ints, lt, ge)));
      counted = counted_more (length (values_below v vs)) (length vs) before now s t (omega (arith, e)) w.values.counted;
    }

-- a mark between two bounds leaves out what is beyond them
pub beyond_of : (low high : ℤ) (f : Filtering) (owner : Active) (x : ℕ) → AreSupportedUnless (Between low high) f owner x → AreSupportedBeyond f owner x low high
beyond_of low high f owner x known = record {
  below = λ v has lt. known v has (λ may. let ge = may.0 in omega (arith, ints, lt, ge));
  above = λ v has lt. known v has (λ may. let le = may.1 in omega (arith, ints, lt, le));
}
