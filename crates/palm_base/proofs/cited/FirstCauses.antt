-- The first of several conditions that holds: whether there is one, and that there is no other.
use Rattle.std.proofs.Common.{◌≡◌, List, [], ◌∷◌, ◌⊎◌, inl, inr, refl, sym, ◌∙◌}
use Rattle.palm_base.proofs.cited.Members.{Known}
use Rattle.palm_base.specs.First.{IsFirst, IsNone}

pub first_known : {C : Type 0} (holds : C → Type 0) → ((c : C) → Known (holds c)) → (cs : List C) → ((cause : C) × IsFirst holds cs cause) ⊎ IsNone holds cs
first_known holds known [] = inr tt
first_known holds known (c ∷ cs) = elim (known c) [
  | inl h ↦ inl (c, inl (h, refl))
  | inr n ↦ elim (first_known holds known cs) [ inl f ↦ inl (f.0, inr (n, f.1)) | inr none ↦ inr (n, none) ]
]

pub first_once : {C : Type 0} (holds : C → Type 0) (cs : List C) (a b : C) → IsFirst holds cs a → IsFirst holds cs b → a ≡ b
first_once holds [] a b f g = absurd f
first_once holds (c ∷ cs) a b f g = elim f [
  | inl h ↦ elim g [ inl k ↦ h.1 ∙ sym k.1 | inr m ↦ absurd (m.0 h.0) ]
  | inr n ↦ elim g [ inl k ↦ absurd (n.0 k.0) | inr m ↦ first_once holds cs a b n.1 m.1 ]
]

pub first_not_none : {C : Type 0} (holds : C → Type 0) (cs : List C) (a : C) → IsFirst holds cs a → IsNone holds cs → ⊥
first_not_none holds [] a f n = f
first_not_none holds (c ∷ cs) a f n = elim f [ inl h ↦ n.0 h.0 | inr m ↦ first_not_none holds cs a m.1 n.1 ]
