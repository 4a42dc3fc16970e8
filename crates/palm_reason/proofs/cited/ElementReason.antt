-- The reason of an element of a list: the indices that would give the outcome, or the outcome that the index would give.
use Rattle.std.proofs.Common.{◌≡◌, ℕ, zero, suc, ℤ, pos, negsuc, ◌+◌, true, cond, List, [], ◌∷◌, slice_get, Option, Some, refl, sym, ap, ◌∙◌, subst, arith}
use Rattle.std.proofs.lemmas.Int.{ints}
use Rattle.std.proofs.lemmas.Bool.{false≢true}
use Rattle.std.proofs.lemmas.Bool.Decides.{Decides-int_eq}
use Rattle.palm_base.proofs.cited.Members.{member_here, member_there, member_same}
use Rattle.palm_model.specs.Constraint.{Distinct}
use Rattle.palm_model.specs.Domains.{Domains, Has}
use Rattle.palm_model.specs.Element.{entry_at, yields, is_entry, indices_of, outcomes_at, element_reason}
use Rattle.palm_model.specs.Reason.{IsReason}
use Rattle.palm_model.specs.Removed.{pairs_of}
use Rattle.palm_model.specs.Support.{LacksSupport}
use Rattle.palm_model.specs.declared.constraint.Con.{Con}
use Rattle.palm_model.specs.declared.constraint.Con.TheVariants.{Element}
use Rattle.palm_model.specs.declared.part.Part.{Part}
use Rattle.palm_model.specs.declared.part.Part.TheVariants.{Element as ElementPart}
use Rattle.palm_reason.proofs.cited.TwoVariables.{lacking_over, of_two, turned, by_variable, other_right}

-- ---- entries by their indices

-- the place of an entry
pub place_of : (entries : List ℤ) (k w : ℤ) → entry_at entries k ≡ Some w → (place : ℕ) × (k ≡ pos (place + 1)) × (slice_get entries place ≡ Some w)
place_of entries (pos zero) w e = cc
place_of entries (pos (suc n)) w e = (n, omega (arith, ints), e)
place_of entries (negsuc n) w e = cc

pub entry_of : (entries : List ℤ) (place : ℕ) (w : ℤ) → slice_get entries place ≡ Some w → entry_at entries (pos (place + 1)) ≡ Some w
entry_of entries place w e = let n : suc place ≡ place + 1 = omega arith in subst (λ m. entry_at entries (pos m) ≡ Some w) n e

pub entry_test : (o : Option ℤ) (w : ℤ) → yields o w ≡ true → o ≡ Some w
entry_test Option.None w t = absurd (false≢true t)
entry_test (Some v) w t = ap Some ((Decides-int_eq v w).0 t)

pub test_entry : (o : Option ℤ) (w : ℤ) → o ≡ Some w → yields o w ≡ true
test_entry o w e = ap (λ p. yields p w) e ∙ (Decides-int_eq w w).1 refl

-- ---- the reason

module _ (initial present : Domains) (outcome index : ℕ) (entries : List ℤ) (v : ℤ) where
  abbrev con : Con
  con = Element outcome index entries

  abbrev part : Part
  part = ElementPart outcome index entries

  outcome_right : (outcome ≡ index → ⊥) → Has present outcome v → LacksSupport present con outcome v → IsReason initial present con outcome v (pairs_of index (indices_of initial index entries v))
  outcome_right apart has lacks =
      other_right initial present con part outcome index v (λ k. is_entry entries k v) refl refl
      (member_here outcome (index ∷ [])) (member_there outcome (index ∷ []) index (member_here index [])) (λ e. apart (sym e)) (of_two outcome index)
      (λ a e h. test_entry (entry_at entries (a index)) v (ap (entry_at entries) h.1 ∙ entry_of entries h.0 v (h.2 ∙ ap Some e)))
      (λ a e t. let g = place_of entries (a index) v (entry_test (entry_at entries (a index)) v t) in (g.0, g.1, g.2 ∙ ap Some (sym e)))
      has lacks

  index_right : (outcome ≡ index → ⊥) → Has present index v → LacksSupport present con index v → IsReason initial present con index v (pairs_of outcome (outcomes_at initial outcome entries v))
  index_right apart has lacks =
      other_right initial present con part index outcome v (λ w. is_entry entries v w) refl refl
      (member_there outcome (index ∷ []) index (member_here index [])) (member_here outcome (index ∷ [])) apart (λ z m. turned outcome index z (of_two outcome index z m))
      (λ a e h. test_entry (entry_at entries v) (a outcome) (ap (entry_at entries) (sym e ∙ h.1) ∙ entry_of entries h.0 (a outcome) h.2))
      (λ a e t. let g = place_of entries v (a outcome) (entry_test (entry_at entries v) (a outcome) t) in (g.0, e ∙ g.1, g.2))
      has lacks

  pub element_right : (x : ℕ) → Distinct (outcome ∷ index ∷ []) → Has present x v → LacksSupport present con x v → IsReason initial present con x v (element_reason initial outcome index entries x v)
  element_right x distinct has lacks =
      let of_index = pairs_of index (indices_of initial index entries v) in
      let of_outcome = pairs_of outcome (outcomes_at initial outcome entries v) in
      let apart : outcome ≡ index → ⊥ = λ e. distinct.0 (member_same (index ∷ []) index outcome (sym e) (member_here index [])) in
      by_variable outcome index x (λ b. IsReason initial present con x v (cond b of_index of_outcome)) (lacking_over present con x v lacks)
      (λ e. subst (λ z. Has present z v → LacksSupport present con z v → IsReason initial present con z v of_index) (sym e) (outcome_right apart) has lacks)
      (λ e. subst (λ z. Has present z v → LacksSupport present con z v → IsReason initial present con z v of_outcome) (sym e) (index_right apart) has lacks)
