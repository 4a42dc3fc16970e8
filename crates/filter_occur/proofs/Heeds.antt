-- Which losses of the target of a count take support from values of the counted variables: those at the end of its values that the
-- relation looks at.
use Rattle.std.proofs.Common.{◌≡◌, ℕ, ◌≤◌, List, [], ◌++◌, length, Contains, slice_get, Some, ℤ, pos, ◌<ℤ◌, ◌⊎◌, inl, inr, refl, sym, ap, ◌∙◌, subst, arith}
use Rattle.std.proofs.lemmas.Int.{ints}
use Rattle.palm_base.proofs.cited.Members.{member_here, nat_known, int_known}
use Rattle.palm_filter.specs.Heeds.{Loses, IsHeeded, FitsHeed}
use Rattle.palm_filter.specs.Shapes.{HasTwo}
use Rattle.palm_filter.specs.declared.heed.Heed.{Heed}
use Rattle.palm_filter.specs.declared.heed.Heed.TheVariants.{Least, Greatest, Alone}
use Rattle.palm_model.specs.Constraint.{Distinct, scope, IsWellFormed}
use Rattle.palm_model.specs.Count.{target_scope, count_among}
use Rattle.palm_model.specs.Domains.{Domains, Assignment, Has, IsWithin}
use Rattle.palm_model.specs.Part.{scope_of, Holds}
use Rattle.palm_model.specs.Relation.{Stands}
use Rattle.palm_model.specs.Support.{HasSupport, IsSupported}
use Rattle.palm_model.specs.declared.constraint.Con.{Con}
use Rattle.palm_model.specs.declared.constraint.Con.TheVariants.{Count}
use Rattle.palm_model.specs.declared.constraint.Op.{Op}
use Rattle.palm_model.specs.declared.constraint.Op.TheVariants.{Ne, Lt, Le, Gt, Ge}
use Rattle.palm_model.specs.declared.constraint.Target.{Target}
use Rattle.palm_model.specs.declared.part.Part.{Part}
use Rattle.palm_model.specs.declared.part.Part.TheVariants.{Count as CountPart}
use Rattle.palm_model.proofs.cited.Supports.{supported_by_part}
use Rattle.palm_model.proofs.cited.Trials.{put, put_same, put_other}
use Rattle.filter_occur.specs.Count.{count_of}
use Rattle.filter_occur.specs.declared.rule.CountRule.{CountRule}
use Rattle.filter_occur.proofs.Shapes.{target_stands, target_holds, place_right}

-- ---- support after a loss

module _ (d e : Domains) (x : ℕ) (v : ℤ) (loses : Loses d e x v) where
  -- what does not give x the lost value stays within the domains
  within_still : (a : Assignment) (vars : List ℕ) → (a x ≡ v → ⊥) → IsWithin a vars d → IsWithin a vars e
  within_still a vars n within z m = loses.stay z (a z) (λ s f. n (ap a (sym s) ∙ f)) (within z m)

  -- and so does what gives x one of the values that are left
  within_put : (a : Assignment) (vars : List ℕ) (w : ℤ) → Has e x w → IsWithin a vars d → IsWithin (put a x w) vars e
  within_put a vars w has within z m = elim (nat_known z x) [
    | inl s ↦ subst (λ k. Has e k (put a x w k)) (sym s) (subst (λ k. Has e x k) (sym (put_same a x w)) has)
    | inr n ↦ subst (λ k. Has e z k) (sym (put_other a x w z n)) (loses.stay z (a z) (λ s f. n s) (within z m))
  ]

  -- where another value can stand for the lost one, the values of the other variables keep their support
  kept_by : (p : Part) (y : ℕ) (u : ℤ) → (y ≡ x → ⊥) → ((a : Assignment) → a x ≡ v → Holds p a → (w : ℤ) × Has e x w × Holds p (put a x w)) → HasSupport d p y u → HasSupport e p y u
  kept_by p y u ne other s = elim (int_known (s.assignment x) v) [
    | inl is ↦
        let r = other s.assignment is s.holds in
        record {
          assignment = put s.assignment x r.0;
          within = within_put s.assignment (scope_of p) r.0 r.1 s.within;
          gives = put_other s.assignment x r.0 y ne ∙ s.gives;
          holds = r.2;
        }
    | inr n ↦ record {
      assignment = s.assignment;
      within = within_still s.assignment (scope_of p) n s.within;
      gives = s.gives;
      holds = s.holds;
    }
  ]

-- one of two values is not this number
one_apart : (e : Domains) (x : ℕ) (n : ℤ) → HasTwo e x → (w : ℤ) × Has e x w × (w ≡ n → ⊥)
one_apart e x n two = elim (int_known two.one n) [
  | inl s ↦ (two.other, two.has_other, λ q. two.different (s ∙ sym q))
  | inr k ↦ (two.one, two.has_one, k)
]

-- a number that is to be low stands to a higher target too, and one that is to be high to a lower one
higher_target : (op : Op) → (op ≡ Lt) ⊎ (op ≡ Le) → (m v w : ℤ) → v <ℤ w → Stands op m v → Stands op m w
higher_target op (inl e) m v w lt = rw e (λ h. omega (arith, ints, lt, h))
higher_target op (inr e) m v w lt = rw e (λ h. omega (arith, ints, lt, h))

lower_target : (op : Op) → (op ≡ Gt) ⊎ (op ≡ Ge) → (m v w : ℤ) → w <ℤ v → Stands op m v → Stands op m w
lower_target op (inl e) m v w lt = rw e (λ h. omega (arith, ints, lt, h))
lower_target op (inr e) m v w lt = rw e (λ h. omega (arith, ints, lt, h))

module _ (value : ℤ) (vars : List ℕ) (op : Op) (t : Target) (distinct : Distinct (vars ++ target_scope t)) (x : ℕ) where
  abbrev con : Con
  con = Count value vars op t

  abbrev part : Part
  part = CountPart value vars op t

  -- the one part, where another value can stand for the lost one
  kept_whole : (d e : Domains) (v : ℤ) → Loses d e x v → (y : ℕ) (u : ℤ) → Contains (vars ++ target_scope t) y → (y ≡ x → ⊥) → ((a : Assignment) → a x ≡ v → Holds part a → (w : ℤ) × Has e x w × Holds part (put a x w)) → IsSupported d con y u → IsSupported e con y u
  kept_whole d e v loses y u over ne other s = supported_by_part e con part y u refl (kept_by d e x v loses part y u ne other (s.each part (member_here part []) over))

  module _ (target : Contains (target_scope t) x) where
    -- of the target each value to which the count stands
    kept_target : (d e : Domains) (v : ℤ) → Loses d e x v → (y : ℕ) (u : ℤ) → Contains (vars ++ target_scope t) y → (y ≡ x → ⊥) → ((m : ℤ) → Stands op m v → (w : ℤ) × Has e x w × Stands op m w) → IsSupported d con y u → IsSupported e con y u
    kept_target d e v loses y u over ne other s =
        kept_whole d e v loses y u over ne
        (λ a is h.
        let r = other (pos (count_among a value vars)) (target_stands value vars op t distinct x target a v is h) in
        (r.0, r.1, target_holds value vars op t distinct x target a r.0 r.2))
        s

    pub target_greatest : (op ≡ Lt) ⊎ (op ≡ Le) → IsHeeded con x Greatest
    target_greatest low d e v loses above y u over ne has s =
        kept_target d e v loses y u over ne (λ m h. (above.0, above.1, higher_target op low m v above.0 above.2 h)) s

    pub target_least : (op ≡ Gt) ⊎ (op ≡ Ge) → IsHeeded con x Least
    target_least high d e v loses below y u over ne has s =
        kept_target d e v loses y u over ne (λ m h. (below.0, below.1, lower_target op high m v below.0 below.2 h)) s

    pub target_alone : op ≡ Ne → IsHeeded con x Alone
    target_alone differs d e v loses two y u over ne has s =
        kept_target d e v loses y u over ne
        (λ m h. let w = one_apart e x m two in (w.0, w.1, rw differs (λ q. w.2 (sym q))))
        s

-- ---- a filter's answers, for its meaning m

module _ (o : CountRule) (m : Con) (is : count_of o ≡ m) (variables : ℕ) (formed : IsWellFormed variables (count_of o)) (place : ℕ) where
  pub target_answers : (heed : Heed) → length o.vars ≤ place → ((x : ℕ) → Contains (target_scope o.target) x → IsHeeded (count_of o) x heed) → FitsHeed m place heed
  target_answers heed le heeded x at =
      subst (λ c. IsHeeded c x heed) is (heeded x (place_right o.vars (target_scope o.target) place x le (subst (λ c. slice_get (scope c) place ≡ Some x) (sym is) at)))
