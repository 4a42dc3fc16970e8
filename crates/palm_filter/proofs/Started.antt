-- Where the places of each number start, where places are sorted by their values.
use Rattle.std.proofs.Common.{◌≡◌, ℕ, ℤ, pos, ◌+ℤ◌, ◌+◌, ◌-◌, ◌<◌, ◌≤◌, ◌<ℤ◌, ◌≤ℤ◌, List, [], ◌∷◌, ◌++◌, length, map, take, drop, get_or, Contains, slice_get, Some, inl, inr, sym, ap, ◌∙◌, subst, arith}
use Rattle.std.proofs.lemmas.Int.{ints}
use Rattle.std.proofs.lemmas.Bool.{cases_lt}
use Rattle.std.proofs.lemmas.List.{get_or_append_left, get_or_default, get_or_push, length-append}
use Rattle.std.proofs.lemmas.Option.{slice_get_within, get_or_from_slice_get}
use Rattle.palm_base.specs.Ascending.{Ascends}
use Rattle.palm_filter.specs.Index.{AreStarts, AreStartsFrom, IsGreatest, IsIndex, IsLeast, IsStart, IsStarted, value_at}
use Rattle.palm_model.specs.Constraint.{Distinct}
use Rattle.palm_filter.proofs.Indexed.{ordered, part_ascends, part_stands, part_every, part_once}

-- ---- the ends of the places

module _ (values : List ℤ) (places : List ℕ) (index : IsIndex values places) where
  value_there : (k : ℕ) (lt : k < length values) → value_at values (get_or places (index.every k lt).0 0) ≡ value_at values k
  value_there k lt =
      let m = index.every k lt in
      ap (value_at values) (get_or_default places m.0 0 k m.1 ∙ m.2)

  pub first_is_least : (first : ℕ) → first ≡ get_or places 0 0 → IsLeast values (value_at values first)
  first_is_least first is = record {
    each = λ k lt.
        let m = index.every k lt in
        let up = index.rise 0 m.0 0 (omega arith) m.1 in
        omega (arith, ints, up, value_there k lt, ap (value_at values) is);
  }

  pub last_is_greatest : (last : ℕ) → last ≡ get_or places (length places - 1) 0 → IsGreatest values (value_at values last)
  last_is_greatest last is = record {
    each = λ k lt.
        let m = index.every k lt in
        let up = index.rise m.0 (length places - 1) 0 (omega (arith, m.1)) (omega (arith, m.1)) in
        omega (arith, ints, up, value_there k lt, ap (value_at values) is);
  }

  -- ---- a start

  pub start_stops : (number : ℤ) (next d : ℕ) → next < length places → ((i e : ℕ) → i < next → value_at values (get_or places i e) <ℤ number) → number ≤ℤ value_at values (get_or places next d) → IsStart values places number next
  start_stops number next d inside before reached = record {
    within = omega arith;
    before = before;
    after = λ i e ge lt.
        let up = index.rise next i e ge lt in
        omega (arith, ints, up, reached, ap (value_at values) (get_or_default places next d e inside));
  }

-- ---- the starts of one number after another

pub starts_more : (values : List ℤ) (places : List ℕ) (least : ℤ) (starts now : List ℕ) (count start : ℕ) → length starts ≡ count → AreStartsFrom values places least starts → IsStart values places (least +ℤ pos count) start → now ≡ starts ++ start ∷ [] → AreStartsFrom values places least now
starts_more values places least starts now count start many before here is = subst (AreStartsFrom values places least) (sym is) (record {
  each = λ distance d lt. elim (cases_lt distance (length starts)) [
    | inl low ↦ subst (IsStart values places (least +ℤ pos distance)) (sym (get_or_append_left starts (start ∷ []) d distance low)) (before.each distance d low)
    | inr high ↦
        let last : count ≡ distance = omega (arith, lt, length-append starts (start ∷ [])) in
        subst (IsStart values places (least +ℤ pos distance)) (sym (get_or_push starts start d distance (many ∙ last))) (subst (λ n. IsStart values places (least +ℤ pos n) start) last here)
  ];
})

-- ---- what the starts tell of a value

module _ (values : List ℤ) (places : List ℕ) (least : ℤ) (starts : List ℕ) (are : AreStarts values places least starts) (v : ℤ) where
  start_of : (distance from : ℕ) → v ≡ least +ℤ pos distance → distance < length starts → from ≡ get_or starts distance from → IsStart values places v from
  start_of distance from at lt is = subst (IsStart values places v) (sym is) (subst (λ n. IsStart values places n (get_or starts distance from)) (sym at) (are.from.each distance from lt))

  next_of : (distance end : ℕ) → v ≡ least +ℤ pos distance → distance + 1 < length starts → end ≡ get_or starts (distance + 1) end → IsStart values places (v +ℤ pos 1) end
  next_of distance end at lt is =
      let e : least +ℤ pos (distance + 1) ≡ v +ℤ pos 1 = omega (arith, ints, at) in
      subst (IsStart values places (v +ℤ pos 1)) (sym is) (subst (λ n. IsStart values places n (get_or starts (distance + 1) end)) e (are.from.each (distance + 1) end lt))

  pub missing : (length starts ≡ 0 → ⊥) → (least ≤ℤ v → (least +ℤ pos (length starts)) ≤ℤ (v +ℤ pos 1)) → (k : ℕ) → slice_get values k ≡ Some v → ⊥
  missing some beyond k h =
      let inside : k < length values = slice_get_within values k v h in
      let same : value_at values k ≡ v = get_or_from_slice_get values k v (pos 0) h in
      let low = are.low.each k inside in
      let high = are.high (omega (arith, some)) k inside in
      let far = beyond (omega (arith, ints, low, same)) in
      omega (arith, ints, high, far, same)

-- the places from the start of a value up to that of the next number, for what a slice lends of the places
module _ (values : List ℤ) (places lent : List ℕ) (least : ℤ) (starts : List ℕ) (is : IsStarted values places least starts) (same : lent ≡ places) (v : ℤ) (distance from end : ℕ) (at : v ≡ least +ℤ pos distance) (within : distance + 1 < length starts) (from_is : from ≡ get_or starts distance from) (end_is : end ≡ get_or starts (distance + 1) end) where
  start : IsStart values places v from
  start = start_of values places least starts is.starting v distance from at (omega arith) from_is

  next : IsStart values places (v +ℤ pos 1) end
  next = next_of values places least starts is.starting v distance end at within end_is

  pub started_ordered : from ≤ end
  started_ordered = ordered values places is.index v from end start next

  pub started_stands : (k : ℕ) → Contains (take (end - from) (drop from lent)) k → slice_get values k ≡ Some v
  started_stands k m = part_stands values places is.index v from end start next k (subst (λ ps. Contains (take (end - from) (drop from ps)) k) same m)

  pub started_every : (k : ℕ) → slice_get values k ≡ Some v → Contains (take (end - from) (drop from lent)) k
  started_every k h = subst (λ ps. Contains (take (end - from) (drop from ps)) k) (sym same) (part_every values places is.index v from end start next k h)

  pub started_once : Distinct (take (end - from) (drop from lent))
  started_once = part_once lent from end (subst Distinct (sym same) is.index.once)

  pub started_ascends : Ascends (map pos (take (end - from) (drop from lent)))
  started_ascends = subst (λ ps. Ascends (map pos (take (end - from) (drop from ps)))) (sym same) (part_ascends values places is.index v from end start next)
