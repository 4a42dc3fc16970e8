-- The walk over the values that the only value of another variable rules out.
use Rattle.std.proofs.Common.{◌≡◌, ℕ, ◌<◌, ℤ, pos, ◌+ℤ◌, ◌<ℤ◌, ◌≤ℤ◌, Option, Some, None, IfSome, List, [], ◌∷◌, length, All, Contains, refl, sym, subst, arith}
use Rattle.std.proofs.lemmas.Int.{ints}
use Rattle.palm_base.proofs.cited.Members.{all_members}
use Rattle.palm_domain.specs.Rows.{IsLeastOf, present_of, present_values}
use Rattle.palm_model.specs.Constraint.{scope}
use Rattle.palm_model.specs.Domains.{Has, values_of}
use Rattle.palm_model.specs.Log.{Active}
use Rattle.palm_model.specs.State.{IsEmptyAt, AllFilled}
use Rattle.palm_model.specs.Support.{IsSupported}
use Rattle.palm_model.proofs.cited.Without.{pair_of}
use Rattle.palm_filter.specs.Shapes.{IsApart}
use Rattle.palm_engine.specs.declared.filtering.Filtering.{Filtering}
use Rattle.palm_engine.specs.Advancing.{Advanced, HaveValues}
use Rattle.palm_engine.specs.Revising.{IsRevising, Walked, HasCounted}
use Rattle.palm_engine.proofs.Hits.{LeavesUpTo}
use Rattle.palm_engine.proofs.Progress.{WalkedValues, values_start, values_passed, alone_after}
use Rattle.palm_engine.proofs.Revised.{var_present, var_stored}
use Rattle.palm_engine.proofs.Skipping.{values_skipped, skipped_counted, passed_counted}

-- ---- the variables of the constraint

pub scope_stored : (f : Filtering) (active : List Active) (owner : Active) → IsRevising f active owner → All (λ y. y < length f.store) (scope owner.con)
scope_stored f active owner r = all_members (λ y. y < length f.store) (scope owner.con) (λ y m. var_stored f active owner r y m)

-- they have domains, and where those but one have values, these are told
pub have_values : (f : Filtering) (active : List Active) (owner : Active) (x : ℕ) (vars : List ℕ) → vars ≡ scope owner.con → IsRevising f active owner → Contains (scope owner.con) x
    → ((y : ℕ) → Contains (scope owner.con) y → (y ≡ x → ⊥) → 0 < length (values_of (present_of f.store) y)) → HaveValues f.store vars x
have_values f active owner x vars same r over filled = subst (λ ys. HaveValues f.store ys x) (sym same) (record { declared = scope_stored f active owner r; over = var_stored f active owner r x over; filled = filled })

some_or_none : (vs : List ℤ) → (vs ≡ [] → ⊥) → 0 < length vs
some_or_none [] n = absurd (n refl)
some_or_none (w ∷ vs) n = omega arith

others_filled : (f : Filtering) (active : List Active) (owner : Active) (x : ℕ) → IsRevising f active owner → ((y : ℕ) → IsEmptyAt (present_of f.store) y → y ≡ x) → (y : ℕ) → Contains (scope owner.con) y → (y ≡ x → ⊥)
    → 0 < length (values_of (present_of f.store) y)
others_filled f active owner x r alone y m other = some_or_none (values_of (present_of f.store) y) (λ e. other (alone y (record { exists = var_present f active owner r y m; empty = e })))

-- after a walk over a value of one of them, the others have values
pub filled_after : (active : List Active) (owner : Active) (x : ℕ) (v : ℤ) (before now after : Filtering) → Advanced active owner x (Some v) before now → IsRevising after active owner → Walked active owner (pair_of x v ∷ []) now after
    → (y : ℕ) → Contains (scope owner.con) y → (y ≡ x → ⊥) → 0 < length (values_of (present_of after.store) y)
filled_after active owner x v before now after w r one = others_filled after active owner x r (alone_after active owner x v now after w.revising r one w.present w.alone)

-- ---- the values

-- up to the first one that is ruled out
pub hits_start : (active : List Active) (owner : Active) (x : ℕ) (by v : ℤ) (next : Option ℤ) (f : Filtering) (s : ℕ) → IsRevising f active owner → AllFilled (present_of f.store) → IsLeastOf (present_values f.store x) v → IsApart owner.con x by
    → LeavesUpTo (present_of f.store) (scope owner.con) x by v next → WalkedValues active owner x next f f s s
hits_start active owner x by v next f s r filled least apart up = record {
  advanced = values_passed active owner x v next f f (values_start active owner x v f r filled least) up.from up.present
      (λ u ge is has. apart (present_of f.store) u has (up.free u has ge is));
  counted = passed_counted x next f s;
}

pub above_value : (v : ℤ) (next : Option ℤ) → IfSome next (λ w. (v +ℤ pos 1) ≤ℤ w) → IfSome next (λ w. v <ℤ w)
above_value v (Some w) le = omega (arith, ints, le)
above_value v None le = tt

-- and from one that was asked for to the next
pub hits_more : (active : List Active) (owner : Active) (x : ℕ) (by v : ℤ) (next : Option ℤ) (before now after : Filtering) (s t u : ℕ) → WalkedValues active owner x (Some v) before now s t → Walked active owner (pair_of x v ∷ []) now after
    → IsRevising after active owner → (Has (present_of after.store) x v → IsSupported (present_of after.store) owner.con x v) → HasCounted 1 now after t u → IsApart owner.con x by
    → LeavesUpTo (present_of after.store) (scope owner.con) x by (v +ℤ pos 1) next → WalkedValues active owner x next before after s u
hits_more active owner x by v next before now after s t u w one r supported counted apart up =
    let above = above_value v next up.from in
    record {
      advanced = values_skipped active owner x v next before now after w.advanced one r supported above up.present
          (λ z gt is has. apart (present_of after.store) z has (up.free z has (omega (arith, ints, gt)) is));
      counted = skipped_counted active owner x v next before now after s t u w.advanced w.counted counted above;
    }
