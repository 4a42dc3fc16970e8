-- Lists of ids that rise, put together.
use Rattle.std.proofs.Common.{◌≡◌, ℕ, ◌+◌, ◌<◌, List, [], ◌∷◌, ◌++◌, length, get_or, take, inl, inr, refl, sym, ap, ◌∙◌, subst}
use Rattle.std.specs.List.{insert}
use Rattle.std.proofs.lemmas.List.{take_more}
use Rattle.std.proofs.lemmas.List.Elements.{Contains-append_left, Contains-append_right, Contains-append_cases}
use Rattle.palm_base.specs.Order.{BelongsAt, Rises, StandsAt, with_cid}
use Rattle.palm_base.specs.declared.terms.Cid.{Cid}
use Rattle.palm_base.proofs.cited.Members.{member_get, member_here, member_same, member_single}
use Rattle.palm_base.proofs.cited.RisingLists.{member_with_cid, put_rising, stands_cid, with_cid_cases, with_cid_here, with_cid_rises}
use Rattle.palm_explain.specs.Merging.{IsMerged}

-- an id that is put at its place
pub merged_put : (cids : List Cid) (t : Cid) (i : ℕ) → Rises cids → BelongsAt (λ c. c) cids i t → IsMerged cids (t ∷ []) (insert cids i t)
merged_put cids t i rises at = subst (IsMerged cids (t ∷ [])) (sym (put_rising cids rises t i at.parted (λ m. at.absent t m refl))) (record {
  rising = with_cid_rises t cids rises;
  sound = λ c m. elim (with_cid_cases t cids c m) [
    | inl k ↦ inl k
    | inr e ↦ inr (member_same (t ∷ []) t c (sym e) (member_here t []))
  ];
  first = λ c m. member_with_cid t cids c m;
  second = λ c m. member_same (with_cid t cids) t c (member_single t c m) (with_cid_here t cids);
})

-- an id that stands there already
pub merged_there : (cids : List Cid) (t : Cid) (i : ℕ) → Rises cids → StandsAt (λ c. c) cids i t → IsMerged cids (t ∷ []) cids
merged_there cids t i rises at = record {
  rising = rises;
  sound = λ c m. inl m;
  first = λ c m. m;
  second = λ c m. member_same cids t c (member_single t c m) (member_get cids i t (stands_cid cids i t at));
}

pub merged_then : (cids a middle b merged : List Cid) → IsMerged cids a middle → IsMerged middle b merged → IsMerged cids (a ++ b) merged
merged_then cids a middle b merged one two = record {
  rising = two.rising;
  sound = λ c m. elim (two.sound c m) [
    | inl k ↦ elim (one.sound c k) [ inl j ↦ inl j | inr j ↦ inr (Contains-append_left a b c j) ]
    | inr k ↦ inr (Contains-append_right a b c k)
  ];
  first = λ c m. two.first c (one.first c m);
  second = λ c m. elim (Contains-append_cases a b c m) [
    | inl k ↦ two.first c (one.second c k)
    | inr k ↦ two.second c k
  ];
}

-- the next of more ids
pub merged_next : (cids more middle merged : List Cid) (i : ℕ) (t : Cid) → i < length more → t ≡ get_or more i t → IsMerged cids (take i more) middle → IsMerged middle (t ∷ []) merged → IsMerged cids (take (i + 1) more) merged
merged_next cids more middle merged i t lt at one two =
    subst (λ l. IsMerged cids l merged) (sym (take_more more i t lt ∙ ap (λ z. take i more ++ z ∷ []) (sym at))) (merged_then cids (take i more) middle (t ∷ []) merged one two)
