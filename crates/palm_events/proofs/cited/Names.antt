-- The ids of active constraints, and lists of ids.
use Rattle.std.proofs.Common.{◌≡◌, Bool, true, false, not, List, [], ◌∷◌, filter, Contains, All, inl, inr, sym, ap, ◌∙◌, subst}
use Rattle.std.proofs.lemmas.Bool.{not-true, cases_Bool, false≢true}
use Rattle.std.proofs.lemmas.List.Elements.{All-contains}
use Rattle.palm_base.specs.Order.{Rises, same_cid, cid_before}
use Rattle.palm_base.specs.declared.terms.Cid.{Cid}
use Rattle.palm_base.proofs.cited.CidOrder.{cid_same, same_cid_itself, not_before_itself, rising_same}
use Rattle.palm_base.proofs.cited.Members.{member_nil, member_cases, member_same, member_map, member_unmap, filter_member, all_members}
use Rattle.palm_model.proofs.cited.Supports.{any_member, member_any, not_true}
use Rattle.palm_model.specs.Log.{Active, IsListOf, is_named, cids_of}

-- ---- ids among ids

pub named_member : (cids : List Cid) (c : Cid) → is_named cids c ≡ true → Contains cids c
named_member cids c h =
    let r = any_member (λ d. same_cid d c) cids h in member_same cids r.0 c (cid_same r.0 c r.2) r.1

pub member_named : (cids : List Cid) (c : Cid) → Contains cids c → is_named cids c ≡ true
member_named cids c m = member_any (λ d. same_cid d c) cids c m (same_cid_itself c)

pub member_not_named : (cids : List Cid) (c : Cid) → (Contains cids c → ⊥) → not (is_named cids c) ≡ true
member_not_named cids c n = not_true (is_named cids c) (λ h. n (named_member cids c h))

pub not_named_member : (cids : List Cid) (c : Cid) → not (is_named cids c) ≡ true → Contains cids c → ⊥
not_named_member cids c h m = false≢true (sym (not-true (is_named cids c) h) ∙ member_named cids c m)

-- ---- rising lists

pub rises_filter : (test : Active → Bool) (active : List Active) → Rises (cids_of active) → Rises (cids_of (filter test active))
rises_filter test [] rises = tt
rises_filter test (a ∷ active) rises = elim (cases_Bool (test a)) [
  | inl t ↦ rw t (filtered_after test a active rises.0, rises_filter test active rises.1)
  | inr f ↦ rw f (rises_filter test active rises.1)
]
  where
    filtered_after : (test : Active → Bool) (a : Active) (active : List Active) → All (λ d. cid_before a.cid d ≡ true) (cids_of active) → All (λ d. cid_before a.cid d ≡ true) (cids_of (filter test active))
    filtered_after test a active all = all_members (λ d. cid_before a.cid d ≡ true) (cids_of (filter test active)) (λ d m.
        let r = member_unmap (λ (b : Active). b.cid) (filter test active) d m in
        let k = filter_member test active r.0 r.1 in
        All-contains (λ d. cid_before a.cid d ≡ true) (cids_of active) d all (member_same (cids_of active) r.0.cid d r.2 (member_map (λ (b : Active). b.cid) active r.0 k.0)))

-- at most one active constraint has an id
pub single : (active : List Active) → Rises (cids_of active) → (a b : Active) → Contains active a → Contains active b → a.cid ≡ b.cid → a ≡ b
single [] rises a b m n e = absurd (member_nil a m)
single (c ∷ active) rises a b m n e = elim (member_cases c active a m) [
  | inl f ↦ elim (member_cases c active b n) [
    | inl g ↦ sym f ∙ g
    | inr n' ↦ absurd (apart c active rises b n' (ap (λ (d : Active). d.cid) f ∙ e))
  ]
  | inr m' ↦ elim (member_cases c active b n) [
    | inl g ↦ absurd (apart c active rises a m' (ap (λ (d : Active). d.cid) g ∙ sym e))
    | inr n' ↦ single active rises.1 a b m' n' e
  ]
]
  where
    apart : (c : Active) (active : List Active) → Rises (cids_of (c ∷ active)) → (d : Active) → Contains active d → c.cid ≡ d.cid → ⊥
    apart c active rises d m e =
        not_before_itself c.cid (subst (λ k. cid_before c.cid k ≡ true) (sym e)
        (All-contains (λ k. cid_before c.cid k ≡ true) (cids_of active) d.cid rises.0 (member_map (λ (b : Active). b.cid) active d m)))

pub listed_once : (P : Cid → Type 0) (xs ys : List Cid) → IsListOf P xs → IsListOf P ys → xs ≡ ys
listed_once P xs ys lx ly = rising_same xs ys lx.rising ly.rising (λ c m. ly.whole c (lx.sound c m)) (λ c m. lx.whole c (ly.sound c m))
