-- Support and reasons of the constraint that a variable has one of some values.
use Rattle.std.proofs.Common.{◌≡◌, ℕ, ℤ, pos, List, [], ◌∷◌, length, nat_lt, lt-ltb, slice_get, Some, Contains, refl, sym, ap, ◌∙◌, subst, arith}
use Rattle.palm_base.proofs.cited.Members.{member_get, member_here, member_nil, member_place, member_single}
use Rattle.palm_base.specs.Tells.{Tells}
use Rattle.palm_base.specs.declared.terms.Pair.{Pair}
use Rattle.palm_model.specs.Constraint.{scope}
use Rattle.palm_model.specs.Domains.{Domains, Has}
use Rattle.palm_model.specs.Reason.{reason}
use Rattle.palm_model.specs.Support.{HasSupport, IsSupported, LacksSupport}
use Rattle.palm_model.specs.declared.constraint.Con.{Con}
use Rattle.palm_model.specs.declared.part.Part.{Part}
use Rattle.palm_model.specs.declared.part.Part.TheVariants.{Within as WithinPart}
use Rattle.palm_model.proofs.cited.Supports.{supported_by_part, lacking_by_part, support_by_one}
use Rattle.palm_model.proofs.cited.Trials.{put, put_same}
use Rattle.filter_compare.specs.Within.{within_of}
use Rattle.filter_compare.specs.declared.within.Membership.{Membership}

-- a value is listed where it stands at some place
pub listed_by_places : (values : List ℤ) (v : ℤ) (places : List ℕ) → ((k : ℕ) → Contains places k → slice_get values k ≡ Some v) → ((k : ℕ) → slice_get values k ≡ Some v → Contains places k) → Tells (nat_lt 0 (length places)) (Contains values v)
listed_by_places values v [] stands every = λ m. let place = member_place values v m in member_nil place.0 (every place.0 place.1)
listed_by_places values v (k ∷ ks) stands every =
    subst (λ b. Tells b (Contains values v)) (sym (lt-ltb 0 (length (k ∷ ks)) (omega arith))) (member_get values k v (stands k (member_here k ks)))

-- ---- a membership, over its variable x

module _ (q : Membership) (x : ℕ) (v : ℤ) where
  abbrev con : Con
  con = within_of q

  abbrev part : Part
  part = WithinPart q.var q.values

  member_supported : (d : Domains) → Has d x v → Contains (q.var ∷ []) x → Contains q.values v → IsSupported d con x v
  member_supported d has over h =
      supported_by_part d con part x v refl
      (support_by_one d part x v (λ z m. sym (member_single q.var x over) ∙ member_single q.var z m) has
      (subst (λ y. Contains q.values (put (λ z. pos 0) x v y)) (sym (member_single q.var x over)) (subst (Contains q.values) (sym (put_same (λ z. pos 0) x v)) h)))

  member_from_support : (d : Domains) → Contains (q.var ∷ []) x → HasSupport d part x v → Contains q.values v
  member_from_support d over s = subst (Contains q.values) (ap s.assignment (member_single q.var x over) ∙ s.gives) s.holds

  member_lacking : (d : Domains) → Contains (q.var ∷ []) x → (Contains q.values v → ⊥) → LacksSupport d con x v
  member_lacking d over n = lacking_by_part d con part x v refl over (λ s. n (member_from_support d over s))

-- ---- a filter's answers, for its meaning m

module _ (q : Membership) (x : ℕ) (v : ℤ) (m : Con) (is : within_of q ≡ m) where
  pub within_supported : (d : Domains) → Contains (scope m) x → Has d x v → Contains q.values v → IsSupported d m x v
  within_supported d over has h =
      subst (λ k. IsSupported d k x v) is (member_supported q x v d has (subst (λ k. Contains (scope k) x) (sym is) over) h)

  pub within_lacking : (d : Domains) → Contains (scope m) x → (Contains q.values v → ⊥) → LacksSupport d m x v
  within_lacking d over h =
      subst (λ k. LacksSupport d k x v) is (member_lacking q x v d (subst (λ k. Contains (scope k) x) (sym is) over) h)

  pub within_reason : (initial present : Domains) (out : List Pair) → out ≡ [] → out ≡ reason initial present m x v
  within_reason initial present out e = e ∙ ap (λ k. reason initial present k x v) is
