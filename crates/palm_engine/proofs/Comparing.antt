-- Support in a comparison with a value looks at the value alone.
use Rattle.std.proofs.Common.{◌≡◌, ℕ, Bool, true, false, not, [], ◌∷◌, Contains, ℤ, int_eq, refl, sym, ap, ◌∙◌, subst}
use Rattle.std.proofs.lemmas.Bool.{false≢true}
use Rattle.std.proofs.lemmas.Bool.Decides.{Decides-int_eq}
use Rattle.palm_base.proofs.cited.Members.{member_here, member_single}
use Rattle.palm_model.specs.Domains.{Domains, Has}
use Rattle.palm_model.specs.Relation.{Stands}
use Rattle.palm_model.specs.Support.{HasSupport, IsSupported, LacksSupport}
use Rattle.palm_model.specs.declared.constraint.Con.TheVariants.{CompareConst}
use Rattle.palm_model.specs.declared.constraint.Op.{Op}
use Rattle.palm_model.specs.declared.part.Part.TheVariants.{CompareConst as CompareConstPart}

pub value_supported : (d : Domains) (y : ℕ) (op : Op) (w : ℤ) (x : ℕ) (v : ℤ) → Contains (y ∷ []) x → Has d x v → Stands op v w → IsSupported d (CompareConst y op w) x v
value_supported d y op w x v over has stands = record {
  each = λ p m k.
      subst (λ q. HasSupport d q x v) (member_single (CompareConstPart y op w) p m)
      (record {
        assignment = λ z. v;
        within = λ z n. subst (λ u. Has d u v) (sym (member_single y x over) ∙ member_single y z n) has;
        gives = refl;
        holds = stands;
      });
}

pub value_lacks : (d : Domains) (y : ℕ) (op : Op) (w : ℤ) (x : ℕ) (v : ℤ) → Contains (y ∷ []) x → (Stands op v w → ⊥) → LacksSupport d (CompareConst y op w) x v
value_lacks d y op w x v over fails = record {
  part = CompareConstPart y op w;
  is_part = member_here (CompareConstPart y op w) [];
  over = over;
  lacks = λ s. fails (subst (λ u. Stands op u w) (ap s.assignment (member_single y x over) ∙ s.gives) s.holds);
}

-- ---- what a test of two values says

pub equal_stands : (r : Bool) (w v : ℤ) → r ≡ int_eq w v → r ≡ true → v ≡ w
equal_stands r w v e t = sym ((Decides-int_eq w v).0 (sym e ∙ t))

pub equal_fails : (r : Bool) (w v : ℤ) → r ≡ int_eq w v → r ≡ false → v ≡ w → ⊥
equal_fails r w v e t same = false≢true (sym t ∙ e ∙ (Decides-int_eq w v).1 (sym same))

pub differ_stands : (r : Bool) (w v : ℤ) → r ≡ not (int_eq w v) → r ≡ true → v ≡ w → ⊥
differ_stands r w v e t same = false≢true (sym (e ∙ ap not ((Decides-int_eq w v).1 (sym same))) ∙ t)

pub differ_fails : (r : Bool) (w v : ℤ) → r ≡ not (int_eq w v) → r ≡ false → (v ≡ w → ⊥) → ⊥
differ_fails r w v e t other = other (sym ((Decides-int_eq w v).0 (not_false (int_eq w v) (sym e ∙ t))))
  where
    not_false : (b : Bool) → not b ≡ false → b ≡ true
    not_false true h = refl
    not_false false h = absurd (false≢true (sym h))
