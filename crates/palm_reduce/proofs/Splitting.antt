-- The active constraints of a book before a place, at it and after it.
use Rattle.std.proofs.Common.{◌≡◌, ℕ, ◌+◌, Bool, true, false, cond, List, [], ◌∷◌, ◌++◌, map, filter, take, drop, slice_get, Some, Contains, ◌⊎◌, inl, inr, refl, sym, ap, ◌∙◌, subst, append-nil}
use Rattle.std.proofs.lemmas.List.{drop_more, map-append, take-append-drop, take_more}
use Rattle.std.proofs.lemmas.List.Elements.{All-contains, Contains-append_right, filter-append}
use Rattle.std.proofs.lemmas.Option.{get_or_from_slice_get, slice_get_within}
use Rattle.palm_base.specs.declared.terms.Cid.{Cid}
use Rattle.palm_base.proofs.cited.Members.{member_nil, member_here, member_cases, member_map, member_unmap}
use Rattle.palm_book.specs.Book.{Contents, IsBook, user_at}
use Rattle.palm_book.specs.declared.book.BookCon.{BookCon}
use Rattle.palm_book.proofs.cited.Actives.{actives_rise}
use Rattle.palm_base.specs.Order.{Rises, cid_before}
use Rattle.palm_model.specs.Log.{Active, cids_of}
use Rattle.palm_base.proofs.cited.CidOrder.{not_before_itself}
use Rattle.palm_reduce.specs.Walked.{actives}

-- ---- lists of constraints

pub actives_joined : (xs ys : List BookCon) → actives (xs ++ ys) ≡ actives xs ++ actives ys
actives_joined xs ys =
    ap (λ (z : List BookCon). map user_at z) (filter-append (λ (c : BookCon). c.active) xs ys)
    ∙ map-append user_at (filter (λ (c : BookCon). c.active) xs) (filter (λ (c : BookCon). c.active) ys)

after_place : (cs : List BookCon) (i : ℕ) (c : BookCon) → slice_get cs i ≡ Some c → drop i cs ≡ c ∷ drop (i + 1) cs
after_place cs i c at = drop_more cs i c (slice_get_within cs i c at) ∙ ap (λ (d : BookCon). d ∷ drop (i + 1) cs) (get_or_from_slice_get cs i c c at)

pub before_next : (cs : List BookCon) (i : ℕ) (c : BookCon) → slice_get cs i ≡ Some c → take (i + 1) cs ≡ take i cs ++ c ∷ []
before_next cs i c at = take_more cs i c (slice_get_within cs i c at) ∙ ap (λ (d : BookCon). take i cs ++ d ∷ []) (get_or_from_slice_get cs i c c at)

alone : (c : BookCon) (b : Bool) → c.active ≡ b → actives (c ∷ []) ≡ cond b (user_at c ∷ []) []
alone c b e = ap (λ (z : Bool). map user_at (cond z (c ∷ []) [])) e ∙ same b
  where
    same : (b : Bool) → map user_at (cond b (c ∷ []) []) ≡ cond b (user_at c ∷ []) []
    same true = refl
    same false = refl

-- ---- an active constraint, and a relaxed one

module _ (cs : List BookCon) (i : ℕ) (c : BookCon) (at : slice_get cs i ≡ Some c) where
  pub earlier_active : c.active ≡ true → actives (take (i + 1) cs) ≡ actives (take i cs) ++ user_at c ∷ []
  earlier_active on = ap actives (before_next cs i c at) ∙ actives_joined (take i cs) (c ∷ []) ∙ ap (λ (z : List Active). actives (take i cs) ++ z) (alone c true on)

  pub earlier_relaxed : c.active ≡ false → actives (take (i + 1) cs) ≡ actives (take i cs)
  earlier_relaxed off =
      ap actives (before_next cs i c at) ∙ actives_joined (take i cs) (c ∷ []) ∙ ap (λ (z : List Active). actives (take i cs) ++ z) (alone c false off)
      ∙ append-nil (actives (take i cs))

  pub later_active : c.active ≡ true → actives (drop i cs) ≡ user_at c ∷ actives (drop (i + 1) cs)
  later_active on = ap actives (after_place cs i c at) ∙ actives_joined (c ∷ []) (drop (i + 1) cs) ∙ ap (λ (z : List Active). z ++ actives (drop (i + 1) cs)) (alone c true on)

  pub later_relaxed : c.active ≡ false → actives (drop i cs) ≡ actives (drop (i + 1) cs)
  later_relaxed off = ap actives (after_place cs i c at) ∙ actives_joined (c ∷ []) (drop (i + 1) cs) ∙ ap (λ (z : List Active). z ++ actives (drop (i + 1) cs)) (alone c false off)

  pub split_active : c.active ≡ true → actives cs ≡ actives (take i cs) ++ user_at c ∷ actives (drop (i + 1) cs)
  split_active on =
      ap actives (sym (take-append-drop i cs)) ∙ actives_joined (take i cs) (drop i cs) ∙ ap (λ (z : List Active). actives (take i cs) ++ z) (later_active on)

-- ---- ids differ

rises_apart_before : (xs : List Active) (a : Active) (ys : List Active) → Rises (cids_of (xs ++ a ∷ ys)) → (b : Active) → Contains xs b → cid_before b.cid a.cid ≡ true
rises_apart_before [] a ys rises b m = absurd (member_nil b m)
rises_apart_before (x ∷ xs) a ys rises b m = elim (member_cases x xs b m) [
  | inl e ↦ subst (λ (z : Active). cid_before z.cid a.cid ≡ true) e
      (All-contains (λ c. cid_before x.cid c ≡ true) (cids_of (xs ++ a ∷ ys)) a.cid rises.0
      (member_map (λ (z : Active). z.cid) (xs ++ a ∷ ys) a (Contains-append_right xs (a ∷ ys) a (member_here a ys))))
  | inr k ↦ rises_apart_before xs a ys rises.1 b k
]

rises_apart_after : (xs : List Active) (a : Active) (ys : List Active) → Rises (cids_of (xs ++ a ∷ ys)) → (b : Active) → Contains ys b → cid_before a.cid b.cid ≡ true
rises_apart_after [] a ys rises b m = All-contains (λ c. cid_before a.cid c ≡ true) (cids_of ys) b.cid rises.0 (member_map (λ (z : Active). z.cid) ys b m)
rises_apart_after (x ∷ xs) a ys rises b m = rises_apart_after xs a ys rises.1 b m

-- under an id there is one
pub one_under : (xs : List Active) → Rises (cids_of xs) → (a b : Active) → Contains xs a → Contains xs b → a.cid ≡ b.cid → a ≡ b
one_under [] rises a b m n e = absurd (member_nil a m)
one_under (x ∷ xs) rises a b m n e = elim (member_cases x xs a m) [
  | inl p ↦ elim (member_cases x xs b n) [
    | inl q ↦ sym p ∙ q
    | inr k ↦ absurd (not_before_itself x.cid (subst (λ (d : Cid). cid_before x.cid d ≡ true) (sym (ap (λ (z : Active). z.cid) p ∙ e)) (rises_apart_after [] x xs rises b k)))
  ]
  | inr k ↦ elim (member_cases x xs b n) [
    | inl q ↦ absurd (not_before_itself x.cid (subst (λ (d : Cid). cid_before x.cid d ≡ true) (e ∙ sym (ap (λ (z : Active). z.cid) q)) (rises_apart_after [] x xs rises a k)))
    | inr l ↦ one_under xs rises.1 a b k l e
  ]
]

-- the constraint at a place has another id than those before it and those after it
pub apart : (book : Contents) → IsBook book → (i : ℕ) (c : BookCon) → slice_get book.constraints i ≡ Some c → c.active ≡ true
    → (b : Active) → Contains (actives (take i book.constraints)) b ⊎ Contains (actives (drop (i + 1) book.constraints)) b → b.cid ≡ (user_at c).cid → ⊥
apart book is i c at on b m_in e =
    let rises = subst (λ (z : List Active). Rises (cids_of z)) (split_active book.constraints i c at on) (actives_rise book is) in
    elim m_in [
      | inl m ↦ not_before_itself (user_at c).cid (subst (λ (d : Cid). cid_before d (user_at c).cid ≡ true) e
          (rises_apart_before (actives (take i book.constraints)) (user_at c) (actives (drop (i + 1) book.constraints)) rises b m))
      | inr m ↦ not_before_itself (user_at c).cid (subst (λ (d : Cid). cid_before (user_at c).cid d ≡ true) e
          (rises_apart_after (actives (take i book.constraints)) (user_at c) (actives (drop (i + 1) book.constraints)) rises b m))
    ]

-- constraints of users need no justification
pub unjustified : (cs : List BookCon) (b : Active) → Contains (actives cs) b → b.justification ≡ []
unjustified cs b m =
    let r = member_unmap user_at (filter (λ (c : BookCon). c.active) cs) b m in
    ap (λ (z : Active). z.justification) (sym r.2)
