-- What is kept beside the marks of a row, and what it says of the row.
use Rattle.std.proofs.Common.{◌≡◌, ℕ, ℤ, ◌+◌, ◌-◌, ◌<◌, ◌≤◌, ◌+ℤ◌, ◌<ℤ◌, ◌≤ℤ◌, Bool, true, false, not, nat_eq, ltb, min, max, pos, List, length, get_or, slice_get, Option, None, Some, IfNone, IfSome, unwrap_or, Contains, sym, ap, subst, ◌∙◌, arith, inl, inr, ⊎_elim, lt-ltb, le-ltb}
use Rattle.std.specs.Int.{bit_at}
use Rattle.std.proofs.lemmas.Int.{ints}
use Rattle.std.proofs.lemmas.Bool.{cases_lt, cases_eq, both_ways, not-true, not-false, false_from_ne_true}
use Rattle.std.proofs.lemmas.List.{get_or_default}
use Rattle.std.proofs.lemmas.Option.{slice_get_within, get_or_from_slice_get, slice_get-get_or}
use Rattle.palm_base.proofs.cited.Members.{member_same}
use Rattle.palm_base.proofs.cited.Telling.{tells_both}
use Rattle.palm_domain.specs.Rows.{Row, Ascends, IsFormed, IsLeastOf, IsGreatestOf, IsLastBefore, IsNextFrom, IsNextRemovedFrom, HasRun, IsWindow}
use Rattle.palm_domain.specs.Places.{IsPlaceFrom}
use Rattle.palm_domain.specs.Marks.{AreMarks, kept}
use Rattle.palm_domain.proofs.cited.Ascending.{get_or-ascends, get_or-rises, same_place, place_below}
use Rattle.palm_domain.proofs.KeptValues.{kept_member, member_kept, kept_inside, length-kept, Ascends-kept, kept_all, kept_cleared, kept_marked}
use Rattle.palm_domain.proofs.cited.Values.{length-with, length-without}

-- ---- a value's place

-- where the value stands, the search finds it
pub place_is : (xs : List ℤ) → Ascends xs → (v : ℤ) (place : ℕ) → IsPlaceFrom xs v place → (k : ℕ) → k < length xs → get_or xs k v ≡ v → place ≡ k
place_is xs a v place f k l e = ⊎_elim (λ lt. absurd (omega (arith, ints, f.below k v lt, e)))
    (λ ge. ⊎_elim (λ lt. absurd (omega (arith, ints, f.above place v (omega arith) (omega arith), get_or-ascends xs a place k v v lt l, e))) (λ le. omega arith) (cases_lt place k)) (cases_lt k place)

-- ---- a row in which each value is present

pub AreMarks-new : (m : ℕ → Bool) (xs : List ℤ) (count : ℕ) → Ascends xs → 0 < length xs → length xs ≤ 256 → count ≡ length xs → ((k : ℕ) → m k ≡ ltb k count) → AreMarks m xs count 0 count
AreMarks-new m xs count a some small e each =
    let all : kept m 0 xs ≡ xs = kept_all m xs (λ k l. each k ∙ lt-ltb k count (omega arith)) in record {
      ascends = a;
      filled = some;
      small = small;
      within = λ k l. each k ∙ le-ltb k count (omega arith);
      counted = e ∙ ap length (sym all);
      first_small = omega arith;
      before_first = λ k l. absurd (omega arith);
      at_first = λ l. each 0 ∙ lt-ltb 0 count (omega arith);
      end_small = omega arith;
      after_end = λ k l. each k ∙ le-ltb k count l;
      at_end = λ l. each (count - 1) ∙ lt-ltb (count - 1) count (omega arith);
    }

pub kept-new : (m : ℕ → Bool) (xs : List ℤ) (count : ℕ) → count ≡ length xs → ((k : ℕ) → m k ≡ ltb k count) → kept m 0 xs ≡ xs
kept-new m xs count e each = kept_all m xs (λ k l. each k ∙ lt-ltb k count (omega arith))

-- the row of these values
abbrev pub row : List ℤ → List ℤ → Row
row xs ys = record { initial = xs; present = ys }

-- the row after a change of the present values alone
pub row-changed : (change : List ℤ → List ℤ) (xs ys zs : List ℤ) (r : Row) → row xs ys ≡ r → zs ≡ change ys → row xs zs ≡ row r.initial (change r.present)
row-changed change xs ys zs r e same =
    subst (λ (s : Row). row xs zs ≡ row s.initial (change s.present)) e (ap (row xs) same)

-- ---- the first marked place, and the place behind all where there is none

pub record IsFirstFrom (m : ℕ → Bool) (from first : ℕ) : Type 0 where
  pub from_le : from ≤ first
  pub small : first ≤ 256
  pub marked : first < 256 → m first ≡ true
  pub between : (k : ℕ) → from ≤ k → k < first → m k ≡ false

pub IsFirstFrom-unwrap_or : (m : ℕ → Bool) (from : ℕ) (o : Option ℕ) → from ≤ 256 → IfSome o (λ p. from ≤ p) → IfSome o (λ p. p < 256) → IfSome o (λ p. m p ≡ true) → IfSome o (λ p. (k : ℕ) → from ≤ k → k < p → m k ≡ false) → IfNone o ((k : ℕ) → from ≤ k → k < 256 → m k ≡ false) → IsFirstFrom m from (unwrap_or o 256)
IsFirstFrom-unwrap_or m from None l above small marked between none = record {
  from_le = l;
  small = omega arith;
  marked = λ lt. absurd (omega arith);
  between = none;
}
IsFirstFrom-unwrap_or m from (Some p) l above small marked between none = record {
  from_le = above;
  small = omega arith;
  marked = λ lt. marked;
  between = between;
}

-- ---- what a row says

module _ (m : ℕ → Bool) (xs : List ℤ) (count first end : ℕ) (marks : AreMarks m xs count first end) where
  -- a marked place is one of the row, and it is not outside the ends
  pub marked_within : (k : ℕ) → m k ≡ true → k < length xs
  marked_within k e = ⊎_elim (λ l. l) (λ ge. absurd (both_ways (m k) (marks.within k ge) e)) (cases_lt k (length xs))

  first_le : (k : ℕ) → m k ≡ true → first ≤ k
  first_le k e = ⊎_elim (λ l. absurd (both_ways (m k) (marks.before_first k l) e)) (λ ge. ge) (cases_lt k first)

  end_gt : (k : ℕ) → m k ≡ true → k < end
  end_gt k e = ⊎_elim (λ l. l) (λ ge. absurd (both_ways (m k) (marks.after_end k ge) e)) (cases_lt k end)

  pub formed : IsFormed (record { initial = xs; present = kept m 0 xs })
  formed = record {
    ascends = marks.ascends;
    filled = marks.filled;
    small = marks.small;
    present_ascends = Ascends-kept m 0 xs marks.ascends;
    inside = kept_inside m 0 xs;
  }

  -- some value is present, so some place is marked
  some_marked : 0 < length (kept m 0 xs) → (k : ℕ) × (m k ≡ true)
  some_marked some =
      let h : Contains (kept m 0 xs) (get_or (kept m 0 xs) 0 (get_or xs 0 (get_or (kept m 0 xs) 0 v0))) = (0, some, get_or_default (kept m 0 xs) 0 _ _ some) in
      let r = kept_member m xs _ h in (r.0, r.3)
    where
      v0 : ℤ
      v0 = pos 0

  pub first_within : 0 < length (kept m 0 xs) → first < length xs
  first_within some = let r = some_marked some in omega (arith, first_le r.0 r.1, marked_within r.0 r.1)

  pub end_within : 0 < length (kept m 0 xs) → (0 < end) × (end ≤ length xs)
  end_within some =
      let r = some_marked some in
      let p : 0 < end = omega (arith, end_gt r.0 r.1) in
      (p, omega (arith, marked_within (end - 1) (marks.at_end p)))

  pub least_is : (read : ℤ) → 0 < length (kept m 0 xs) → read ≡ get_or xs first read → IsLeastOf (kept m 0 xs) read
  least_is read some is =
      let l = first_within some in
      let mark = marks.at_first (omega (arith, marks.small)) in
      record {
        member = member_same (kept m 0 xs) (get_or xs first read) read (sym is) (member_kept m xs first read l mark);
        least = λ w h. let r = kept_member m xs w h in omega (arith, ints, get_or-rises xs marks.ascends first r.0 read w (first_le r.0 r.3) r.1, is, r.2);
      }

  pub greatest_is : (read : ℤ) → 0 < length (kept m 0 xs) → read ≡ get_or xs (end - 1) read → IsGreatestOf (kept m 0 xs) read
  greatest_is read some is =
      let e = end_within some in
      let mark = marks.at_end e.0 in
      record {
        member = member_same (kept m 0 xs) (get_or xs (end - 1) read) read (sym is) (member_kept m xs (end - 1) read (omega (arith, e)) mark);
        greatest = λ w h. let r = kept_member m xs w h in omega (arith, ints, get_or-rises xs marks.ascends r.0 (end - 1) w read (omega (arith, end_gt r.0 r.3)) (omega (arith, e)), is, r.2);
      }

  pub count_small : count ≤ 256
  count_small = omega (arith, marks.counted, length-kept m 0 xs, marks.small)

  -- the mark of a value's place tells whether it is present
  pub present_at : (k : ℕ) (v : ℤ) → slice_get xs k ≡ Some v → m k ≡ true → Contains (kept m 0 xs) v
  present_at k v at e =
      member_same (kept m 0 xs) (get_or xs k v) v (get_or_from_slice_get xs k v v at) (member_kept m xs k v (slice_get_within xs k v at) e)

  pub removed_at : (k : ℕ) (v : ℤ) → slice_get xs k ≡ Some v → m k ≡ false → Contains (kept m 0 xs) v → ⊥
  removed_at k v at clear h =
      let r = kept_member m xs v h in
      let same = same_place xs marks.ascends k r.0 v v (slice_get_within xs k v at) r.1 (get_or_from_slice_get xs k v v at ∙ sym r.2) in
      both_ways (m k) clear (ap m same ∙ r.3)

  -- ---- the next value from a place on

  pub next_is : (low read : ℤ) (place found : ℕ) → IsPlaceFrom xs low place → place ≤ found → m found ≡ true → ((k : ℕ) → place ≤ k → k < found → m k ≡ false) → read ≡ get_or xs found read → IsNextFrom (kept m 0 xs) low read
  next_is low read place found from above mark between is =
      let l = marked_within found mark in
      record {
        member = member_same (kept m 0 xs) (get_or xs found read) read (sym is) (member_kept m xs found read l mark);
        from = omega (arith, ints, from.above found read above l, is);
        least = λ w h high.
            let r = kept_member m xs w h in
            ⊎_elim (λ lt. ⊎_elim (λ below. absurd (omega (arith, ints, from.below r.0 w below, r.2))) (λ ge. absurd (both_ways (m r.0) (between r.0 ge lt) r.3)) (cases_lt r.0 place))
            (λ ge. omega (arith, ints, get_or-rises xs marks.ascends found r.0 read w ge r.1, is, r.2)) (cases_lt r.0 found);
      }

  pub next_none : (low : ℤ) (place : ℕ) → IsPlaceFrom xs low place → ((k : ℕ) → place ≤ k → k < end → m k ≡ false) → (w : ℤ) → Contains (kept m 0 xs) w → w <ℤ low
  next_none low place from none w h =
      let r = kept_member m xs w h in
      ⊎_elim (λ below. omega (arith, ints, from.below r.0 w below, r.2)) (λ ge. absurd (both_ways (m r.0) (none r.0 ge (end_gt r.0 r.3)) r.3)) (cases_lt r.0 place)

  -- the last marked place below that of a value
  pub last_is : (high read : ℤ) (place found : ℕ) → IsPlaceFrom xs high place → found ≤ place → 0 < found → m (found - 1) ≡ true → ((k : ℕ) → found ≤ k → k < place → m k ≡ false) → read ≡ get_or xs (found - 1) read → IsLastBefore (kept m 0 xs) high read
  last_is high read place found from within some mark between is =
      let l : found - 1 < length xs = omega (arith, some, within, from.within) in
      record {
        member = member_same (kept m 0 xs) (get_or xs (found - 1) read) read (sym is) (member_kept m xs (found - 1) read l mark);
        below = omega (arith, ints, from.below (found - 1) read (omega (arith, some, within)), is);
        greatest = λ w h lt.
            let r = kept_member m xs w h in
            let early : r.0 < place = ⊎_elim (λ b. b) (λ ge. absurd (omega (arith, ints, from.above r.0 w ge r.1, r.2, lt))) (cases_lt r.0 place) in
            let before : r.0 < found = ⊎_elim (λ b. b) (λ ge. absurd (both_ways (m r.0) (between r.0 ge early) r.3)) (cases_lt r.0 found) in
            omega (arith, ints, get_or-rises xs marks.ascends r.0 (found - 1) w read (omega (arith, before)) l, is, r.2);
      }

  pub last_none : (high : ℤ) (place : ℕ) → IsPlaceFrom xs high place → ((k : ℕ) → 0 ≤ k → k < place → m k ≡ false) → (w : ℤ) → Contains (kept m 0 xs) w → high ≤ℤ w
  last_none high place from none w h =
      let r = kept_member m xs w h in
      ⊎_elim (λ below. absurd (both_ways (m r.0) (none r.0 (omega arith) below) r.3)) (λ ge. omega (arith, ints, from.above r.0 w ge r.1, r.2)) (cases_lt r.0 place)

  pub next_removed_is : (n : ℕ → Bool) → ((k : ℕ) → k < 256 → n k ≡ not (m k)) → (low read : ℤ) (place found : ℕ) → IsPlaceFrom xs low place → place ≤ found → found < length xs → n found ≡ true → ((k : ℕ) → place ≤ k → k < found → n k ≡ false) → read ≡ get_or xs found read → IsNextRemovedFrom xs (kept m 0 xs) low read
  next_removed_is n flips low read place found from above l mark between is =
      record {
        declared = (found, l, sym is);
        removed = removed_at found read (slice_get-get_or xs found read l ∙ ap Some (sym is)) (not-true (m found) (sym (flips found (omega (arith, marks.small))) ∙ mark));
        from = omega (arith, ints, from.above found read above l, is);
        least = λ w h high low'.
            let below : h.0 < found = place_below xs marks.ascends h.0 found w read h.1 (omega (arith, ints, h.2, is)) in
            let late : place ≤ h.0 = ⊎_elim (λ lt. absurd (omega (arith, ints, from.below h.0 w lt, h.2))) (λ ge. ge) (cases_lt h.0 place) in
            member_same (kept m 0 xs) (get_or xs h.0 w) w h.2 (member_kept m xs h.0 w h.1 (not-false (m h.0) (sym (flips h.0 (omega (arith, marks.small))) ∙ between h.0 late below)));
      }

  pub next_removed_none : (n : ℕ → Bool) → ((k : ℕ) → k < 256 → n k ≡ not (m k)) → (low : ℤ) (place found : ℕ) → IsPlaceFrom xs low place → length xs ≤ found → ((k : ℕ) → place ≤ k → k < found → n k ≡ false) → (w : ℤ) → Contains xs w → low ≤ℤ w → Contains (kept m 0 xs) w
  next_removed_none n flips low place found from past between w h high =
      let late : place ≤ h.0 = ⊎_elim (λ lt. absurd (omega (arith, ints, from.below h.0 w lt, h.2))) (λ ge. ge) (cases_lt h.0 place) in
      member_same (kept m 0 xs) (get_or xs h.0 w) w h.2 (member_kept m xs h.0 w h.1 (not-false (m h.0) (sym (flips h.0 (omega (arith, marks.small))) ∙ between h.0 late (omega arith))))

  -- ---- a bit for each number of a run

  -- a present number of the run is not behind the row's end
  run_within : (first : ℤ) (place k : ℕ) → HasRun xs first place → Contains (kept m 0 xs) (first +ℤ pos k) → place + k < length xs
  run_within first place k run h =
      let r = kept_member m xs (first +ℤ pos k) h in
      ⊎_elim (λ l. l) (λ ge.
      let n : ℕ = length xs - 1 - place in
      let l : place + n < length xs = omega (arith, run.within) in
      let top = get_or_from_slice_get xs (place + n) (first +ℤ pos n) (first +ℤ pos n) (run.each n l) in
      absurd (omega (arith, ints, run.within, get_or-rises xs marks.ascends r.0 (place + n) (first +ℤ pos k) (first +ℤ pos n) (omega (arith, r.1, run.within)) l, r.2, top))) (cases_lt (place + k) (length xs))

  pub window_is : (first : ℤ) (place word : ℕ) → HasRun xs first place → ((k : ℕ) → k < 64 → nat_eq (bit_at word k) 1 ≡ m (place + k)) → IsWindow (kept m 0 xs) first word
  window_is first place word run bits k small =
      let v = first +ℤ pos k in
      tells_both (Contains (kept m 0 xs) v) (nat_eq (bit_at word k) 1)
      (λ e. let mark = sym (bits k small) ∙ e in present_at (place + k) v (run.each k (marked_within (place + k) mark)) mark)
      (λ e h. removed_at (place + k) v (run.each k (run_within first place k run h)) (sym (bits k small) ∙ e) h)

  -- ---- a mark changes: v stands at place p

  -- the place of a present value is found, and it is marked
  pub present_place : (v : ℤ) (place : ℕ) → IsPlaceFrom xs v place → Contains (kept m 0 xs) v → (place < length xs) × (get_or xs place v ≡ v) × (m place ≡ true)
  present_place v place from h =
      let r = kept_member m xs v h in
      let same = place_is xs marks.ascends v place from r.0 r.1 r.2 in
      (omega (arith, r.1), ap (λ k. get_or xs k v) same ∙ r.2, ap m same ∙ r.3)

  -- the place of a declared value that is not present is found, and it is not marked
  pub removed_place : (v : ℤ) (place : ℕ) → IsPlaceFrom xs v place → Contains xs v → (Contains (kept m 0 xs) v → ⊥) → (place < length xs) × (get_or xs place v ≡ v) × (m place ≡ false)
  removed_place v place from h none =
      let same = place_is xs marks.ascends v place from h.0 h.1 h.2 in
      let l : place < length xs = omega (arith, h.1) in
      let at = ap (λ k. get_or xs k v) same ∙ h.2 in
      (l, at, false_from_ne_true (m place) (λ e. none (member_same (kept m 0 xs) (get_or xs place v) v at (member_kept m xs place v l e))))

  pub AreMarks-cleared : (n : ℕ → Bool) (p : ℕ) (v : ℤ) → p < length xs → get_or xs p v ≡ v → m p ≡ true → n p ≡ false → ((k : ℕ) → (k ≡ p → ⊥) → n k ≡ m k) → (first' end' : ℕ) → first ≤ first' → first' ≤ 256 → (first' < 256 → n first' ≡ true) → ((k : ℕ) → first ≤ k → k < first' → n k ≡ false) → end' ≤ end → (0 < end' → n (end' - 1) ≡ true) → ((k : ℕ) → end' ≤ k → k < end → n k ≡ false) → AreMarks n xs (count - 1) first' end'
  AreMarks-cleared n p v l at mark clear others first' end' from small at_first between low at_end after =
      let less : (k : ℕ) → m k ≡ false → n k ≡ false = λ k e. elim (cases_eq k p) [ inl s ↦ ap n s ∙ clear | inr o ↦ others k o ∙ e ] in
      let shorter = kept_cleared m n xs marks.ascends p v l at others clear in
      let one = length-without v (kept m 0 xs) (Ascends-kept m 0 xs marks.ascends) (member_same (kept m 0 xs) (get_or xs p v) v at (member_kept m xs p v l mark)) in
      record {
        ascends = marks.ascends;
        filled = marks.filled;
        small = marks.small;
        within = λ k ge. less k (marks.within k ge);
        counted = omega (arith, marks.counted, one, ap length shorter);
        first_small = small;
        before_first = λ k lt. ⊎_elim (λ early. less k (marks.before_first k early)) (λ ge. between k ge lt) (cases_lt k first);
        at_first = at_first;
        end_small = omega (arith, marks.end_small);
        after_end = λ k ge. ⊎_elim (λ early. after k ge early) (λ late. less k (marks.after_end k late)) (cases_lt k end);
        at_end = at_end;
      }

  pub AreMarks-marked : (n : ℕ → Bool) (p : ℕ) (v : ℤ) → p < length xs → get_or xs p v ≡ v → m p ≡ false → n p ≡ true → ((k : ℕ) → (k ≡ p → ⊥) → n k ≡ m k) → AreMarks n xs (count + 1) (min first p) (max end (p + 1))
  AreMarks-marked n p v l at clear mark others =
      let more : (k : ℕ) → m k ≡ true → n k ≡ true = λ k e. elim (cases_eq k p) [ inl s ↦ ap n s ∙ mark | inr o ↦ others k o ∙ e ] in
      let longer = kept_marked m n xs marks.ascends p v l at others clear mark in
      record {
        ascends = marks.ascends;
        filled = marks.filled;
        small = marks.small;
        within = λ k ge. others k (λ e. omega arith) ∙ marks.within k ge;
        counted = omega (arith, marks.counted, length-with v (kept m 0 xs), ap length longer);
        first_small = omega (arith, marks.first_small);
        before_first = λ k lt. others k (λ e. omega arith) ∙ marks.before_first k (omega arith);
        at_first = λ lt. ⊎_elim (λ low. let e : min first p ≡ first = omega arith in ap n e ∙ more first (marks.at_first (omega (arith, marks.small)))) (λ ge. let e : min first p ≡ p = omega arith in ap n e ∙ mark) (cases_lt first p);
        end_small = omega (arith, marks.end_small, marks.small);
        after_end = λ k ge. others k (λ e. omega arith) ∙ marks.after_end k (omega arith);
        at_end = λ lt. ⊎_elim (λ low. let e : max end (p + 1) - 1 ≡ end - 1 = omega arith in ap n e ∙ more (end - 1) (marks.at_end (omega arith))) (λ ge. let e : max end (p + 1) - 1 ≡ p = omega arith in ap n e ∙ mark) (cases_lt (p + 1) end);
      }
