-- A list that is kept in two parts: how many of it pass a test that those in front pass.
use Rattle.std.proofs.Common.{◌≡◌, ℕ, ◌+◌, ◌-◌, ◌<◌, ◌≤◌, Bool, List, [], ◌∷◌, ◌++◌, length, map, get_or, inl, inr, sym, ap, ◌∙◌, subst, arith}
use Rattle.std.specs.List.Sorted.{IsPartitionedBy}
use Rattle.std.proofs.lemmas.Bool.{cases_Bool, cases_lt, false≢true}
use Rattle.std.proofs.lemmas.List.{get_or_append_left, get_or-append_right, length-append, map-append}
use Rattle.palm_base.specs.declared.terms.Cid.{Cid}
use Rattle.palm_base.specs.Order.{IsPartedAt, Rises, cid_before}
use Rattle.palm_model.specs.Log.{Active, cids_of}

-- ---- by rising id

front_rises : (xs ys : List Cid) → Rises (xs ++ ys) → Rises xs
front_rises [] ys h = tt
front_rises (x ∷ xs) ys h = (
  λ k d lt. ap (cid_before x) (sym (get_or_append_left xs ys d k lt)) ∙ h.0 k d (omega (arith, lt, length-append xs ys)),
  front_rises xs ys h.1,
)

behind_rises : (xs ys : List Cid) → Rises (xs ++ ys) → Rises ys
behind_rises [] ys h = h
behind_rises (x ∷ xs) ys h = behind_rises xs ys h.1

cids_both : {X : Type 0} (active : X → Active) (xs ys : List X) → cids_of (map active (xs ++ ys)) ≡ cids_of (map active xs) ++ cids_of (map active ys)
cids_both active xs ys = ap cids_of (map-append active xs ys) ∙ map-append (λ (a : Active). a.cid) (map active xs) (map active ys)

pub rises_front : {X : Type 0} (active : X → Active) (xs ys : List X) → Rises (cids_of (map active (xs ++ ys))) → Rises (cids_of (map active xs))
rises_front active xs ys h = front_rises (cids_of (map active xs)) (cids_of (map active ys)) (subst Rises (cids_both active xs ys) h)

pub rises_behind : {X : Type 0} (active : X → Active) (xs ys : List X) → Rises (cids_of (map active (xs ++ ys))) → Rises (cids_of (map active ys))
rises_behind active xs ys h = behind_rises (cids_of (map active xs)) (cids_of (map active ys)) (subst Rises (cids_both active xs ys) h)

-- ---- by a test

module _ {X : Type 0} (test : X → Bool) (front behind : List X) (parted : IsPartitionedBy test (front ++ behind)) (place : ℕ) (at : IsPartedAt test front place) where
  in_front : (k : ℕ) (d : X) → k < length front → test (get_or (front ++ behind) k d) ≡ test (get_or front k d)
  in_front k d lt = ap test (get_or_append_left front behind d k lt)

  -- where one of the first part does not pass, none of the other part does
  pub parted_front : place < length front → IsPartedAt test (front ++ behind) place
  parted_front short = record {
    within = omega (arith, short, length-append front behind);
    before = λ k d ge lt. in_front k d (omega (arith, lt, short)) ∙ at.before k d ge lt;
    after = λ k d ge lt. elim (cases_Bool (test (get_or (front ++ behind) k d))) [
      | inr f ↦ f
      | inl t ↦ absurd (false≢true (sym (at.after place d (omega arith) short) ∙ sym (in_front place d short) ∙ parted place k d ge lt t))
    ];
  }

  -- and where all of it pass, those of the other part count
  pub parted_behind : (more : ℕ) → length front ≤ place → IsPartedAt test behind more → IsPartedAt test (front ++ behind) (place + more)
  parted_behind more le also =
      let most = at.within in
      let whole : length front ≡ place = omega (arith, le, most) in
      record {
        within = (let few = also.within in omega (arith, few, whole, length-append front behind));
        before = λ k d ge lt. elim (cases_lt k place) [
          | inl l ↦ in_front k d (omega (arith, l, whole)) ∙ at.before k d ge l
          | inr g ↦ ap test (get_or-append_right front behind place k d whole g) ∙ also.before (k - place) d (omega arith) (omega (arith, g, lt))
        ];
        after = λ k d ge lt.
            ap test (get_or-append_right front behind place k d whole (omega (arith, ge)))
            ∙ also.after (k - place) d (omega (arith, ge)) (omega (arith, ge, lt, whole, length-append front behind));
      }
