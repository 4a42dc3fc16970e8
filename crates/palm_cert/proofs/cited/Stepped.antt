-- The removals at rising places: where they are those that pairs need, they are the steps.
use Rattle.std.proofs.Common.{◌≡◌, ℕ, zero, suc, ◌+◌, ◌-◌, ◌<◌, ◌≤◌, Bool, true, false, cond, Some, List, [], ◌∷◌, ◌++◌, length, take, drop, get_or, filter, flat_map, All, Contains, MatchResult, Result, Ok, Err, inl, inr, refl, sym, ap, ◌∙◌, subst, append-nil, arith}
use Rattle.std.specs.Prelude.{slice_get}
use Rattle.std.specs.List.Sorted.{IsBinarySearchResult}
use Rattle.std.specs.Ordering.{nat_cmp}
use Rattle.std.proofs.lemmas.Bool.{cases_lt}
use Rattle.std.proofs.lemmas.Grind.{flat_map-append}
use Rattle.std.proofs.lemmas.List.{get_or_default, take_more}
use Rattle.std.proofs.lemmas.List.Sorted.{searched}
use Rattle.std.proofs.lemmas.Option.{none-some, same_Some, slice_get-get_or, slice_get_within}
use Rattle.palm_base.specs.declared.terms.Cid.{Cid}
use Rattle.palm_base.specs.declared.terms.Pair.{Pair}
use Rattle.palm_base.proofs.cited.Members.{all_members, flat_map_member, member_flat_map, member_here, member_nil, member_same, member_single, member_there}
use Rattle.palm_book.specs.Book.{Contents}
use Rattle.palm_model.specs.Log.{Removal, log_pairs}
use Rattle.palm_explain.specs.Explanations.{IsLinked}
use Rattle.palm_explain.specs.Needed.{AreNeeded, Climbs}
use Rattle.palm_cert.specs.Certificate.{asked, is_asked, steps_of}
use Rattle.palm_cert.specs.Needs.{AreSteps, IsNumberOf, IsOfBook, IsStepAt, removals_at}
use Rattle.palm_cert.proofs.cited.Links.{Apart, apart_passed, asked_member, linked_apart, member_asked, pair_removal, reasons_steps, same_place}
use Rattle.palm_cert.proofs.cited.Needed.{asked_needed, needed_asked}
use Rattle.palm_cert.proofs.cited.Before.{before_from}
use Rattle.palm_cert.proofs.cited.Numbers.{pair_at, passed_place, place_passed, places_from, places_rise, same_rising}

-- ---- one place

drop_at : (log : List Removal) (place : ℕ) (r : Removal) → slice_get log place ≡ Some r → take 1 (drop place log) ≡ r ∷ []
drop_at [] place r at = absurd (none-some r at)
drop_at (s ∷ log) zero r at = ap (λ (z : Removal). z ∷ []) (same_Some s r at)
drop_at (s ∷ log) (suc place) r at = drop_at log place r at

at_drop : (log : List Removal) (place : ℕ) (r : Removal) → Contains (take 1 (drop place log)) r → slice_get log place ≡ Some r
at_drop [] zero r m = absurd (member_nil r m)
at_drop [] (suc place) r m = absurd (member_nil r m)
at_drop (s ∷ log) zero r m = ap Some (member_single s r m)
at_drop (s ∷ log) (suc place) r m = at_drop log place r m

pub one_at : (log : List Removal) (place : ℕ) (r : Removal) → slice_get log place ≡ Some r → removals_at log (place ∷ []) ≡ r ∷ []
one_at log place r at = append-nil (take 1 (drop place log)) ∙ drop_at log place r at

pub member_at : (log : List Removal) (places : List ℕ) (place : ℕ) (r : Removal) → Contains places place → slice_get log place ≡ Some r → Contains (removals_at log places) r
member_at log places place r m at = member_flat_map (λ i. take 1 (drop i log)) places place r m (subst (λ (rs : List Removal). Contains rs r) (sym (drop_at log place r at)) (member_here r []))

pub at_member : (log : List Removal) (places : List ℕ) (r : Removal) → Contains (removals_at log places) r → (place : ℕ) × Contains places place × (slice_get log place ≡ Some r)
at_member log places r m = let q = flat_map_member (λ i. take 1 (drop i log)) places r m in (q.0, q.1, at_drop log q.0 r q.2)

-- the one at an index
pub nth_at : (log : List Removal) (places : List ℕ) → ((i : ℕ) → Contains places i → (r : Removal) × (slice_get log i ≡ Some r)) → (j place : ℕ) (r : Removal) → slice_get places j ≡ Some place → slice_get log place ≡ Some r
    → slice_get (removals_at log places) j ≡ Some r
nth_at log [] within j place r there at = absurd (none-some place there)
nth_at log (q ∷ places) within zero place r there at =
    let e : q ≡ place = same_Some q place there in
    ap (λ (rs : List Removal). slice_get (rs ++ removals_at log places) 0) (drop_at log q r (ap (λ (i : ℕ). slice_get log i) e ∙ at))
nth_at log (q ∷ places) within (suc j) place r there at =
    let s = within q (member_here q places) in
    ap (λ (rs : List Removal). slice_get (rs ++ removals_at log places) (suc j)) (drop_at log q s.0 s.1)
    ∙ nth_at log places (λ i m. within i (member_there q places i m)) j place r there at

pub removals_more : (log : List Removal) (places : List ℕ) (i place : ℕ) (r : Removal) → i < length places → place ≡ get_or places i place → slice_get log place ≡ Some r → removals_at log (take i places) ++ r ∷ [] ≡ removals_at log (take (i + 1) places)
removals_more log places i place r lt at there =
    ap (λ (rs : List Removal). removals_at log (take i places) ++ rs) (sym (one_at log place r there))
    ∙ sym (flat_map-append (λ j. take 1 (drop j log)) (take i places) (place ∷ []))
    ∙ ap (λ (p : ℕ). removals_at log (take i places ++ p ∷ [])) at
    ∙ ap (λ (ps : List ℕ). removals_at log ps) (sym (take_more places i place lt))

-- ---- texts

-- the text of the one at a place
abbrev pub text_at : (Removal → List ℕ) → List Removal → ℕ → List ℕ
text_at f log place = flat_map f (removals_at log (place ∷ []))

pub texts_at : (f : Removal → List ℕ) (log : List Removal) (places : List ℕ) → flat_map (text_at f log) places ≡ flat_map f (removals_at log places)
texts_at f log [] = refl
texts_at f log (place ∷ places) =
    let here : List Removal = take 1 (drop place log) in
    ap (λ (rs : List Removal). flat_map f rs ++ flat_map (text_at f log) places) (append-nil here) ∙ ap (λ (t : List ℕ). flat_map f here ++ t) (texts_at f log places)
    ∙ sym (flat_map-append f here (removals_at log places))

-- ---- the steps

flat_map_same : (f g : ℕ → List Removal) (ps : List ℕ) → ((i : ℕ) → Contains ps i → f i ≡ g i) → flat_map f ps ≡ flat_map g ps
flat_map_same f g [] same = refl
flat_map_same f g (p ∷ ps) same = ap (λ rs. rs ++ flat_map f ps) (same p (member_here p ps)) ∙ ap (λ rs. g p ++ rs) (flat_map_same f g ps (λ i m. same i (member_there p ps i m)))

are_cases : (n : ℕ) (r : Removal) (log : List Removal) (ps : List ℕ) (rs : List Removal) (b : Bool) → flat_map (λ i. take 1 (drop (i - n) (r ∷ log))) ps ≡ rs
    → flat_map (λ i. take 1 (drop (i - n) (r ∷ log))) (cond b (n ∷ ps) ps) ≡ cond b (r ∷ rs) rs
are_cases n r log ps rs true rest = let e : n - n ≡ 0 = omega arith in ap (λ (k : ℕ). take 1 (drop k (r ∷ log)) ++ flat_map (λ i. take 1 (drop (i - n) (r ∷ log))) ps) e ∙ ap (λ (qs : List Removal). r ∷ qs) rest
are_cases n r log ps rs false rest = rest

-- the removals at the places of those that pass are those that pass
passed_are : (n : ℕ) (t : Removal → Bool) (log : List Removal) → flat_map (λ i. take 1 (drop (i - n) log)) (places_from t n log) ≡ filter t log
passed_are n t [] = refl
passed_are n t (r ∷ log) =
    are_cases n r log (places_from t (n + 1) log) (filter t log) (t r)
    (flat_map_same (λ i. take 1 (drop (i - n) (r ∷ log))) (λ i. take 1 (drop (i - (n + 1)) log)) (places_from t (n + 1) log)
    (λ i m. let from = (place_passed t (n + 1) log i m).from in let e : i - n ≡ suc (i - (n + 1)) = omega (arith, from) in ap (λ (k : ℕ). take 1 (drop k (r ∷ log))) e)
    ∙ passed_are (n + 1) t log)

-- ---- the places of what pairs need

module _ (log : List Removal) (pairs : List Pair) (places : List ℕ) (linked : IsLinked log) (needed : AreNeeded log pairs places) where
  abbrev is_step : Removal → Bool
  is_step r = is_asked (asked log pairs) r.pair

  places_are : places ≡ places_from is_step 0 log
  places_are =
      same_rising places (places_from is_step 0 log) (before_from (λ (i j : ℕ). i < j) places needed.climbs) (places_rise is_step 0 log)
      (λ i m.
      let r = (needed.each i).0 m in
      passed_place is_step 0 log i i r.0 r.1 (member_asked (asked log pairs) r.0.pair (needed_asked log pairs linked r.0.pair r.2)) (omega arith))
      (λ i m.
      let p = place_passed is_step 0 log i m in
      let e : i ≡ i - 0 = omega arith in
      (needed.each i).1 (p.member, ap (λ (k : ℕ). slice_get log k) e ∙ p.at, asked_needed log pairs log (λ r k. k) p.member.pair (asked_member (asked log pairs) p.member.pair p.passes)))

  -- they are those of the steps
  pub steps_found : removals_at log places ≡ steps_of log pairs
  steps_found =
      ap (λ (ps : List ℕ). removals_at log ps) places_are
      ∙ flat_map_same (λ i. take 1 (drop i log)) (λ i. take 1 (drop (i - 0) log)) (places_from is_step 0 log) (λ i m. let e : i ≡ i - 0 = omega arith in ap (λ (k : ℕ). take 1 (drop k log)) e)
      ∙ passed_are 0 is_step log

  pub step_stands : (i : ℕ) → Contains places i → (r : Removal) × (slice_get log i ≡ Some r)
  step_stands i m = let r = (needed.each i).0 m in (r.0, r.1)

  pub steps_within : All (λ place. place < length log) places
  steps_within = all_members (λ (place : ℕ). place < length log) places (λ i m. let r = step_stands i m in slice_get_within log i r.0 r.1)

-- ---- steps

climbs_on : (places : List ℕ) → Climbs places → (i j : ℕ) → i ≤ j → j < length places → get_or places i 0 ≤ get_or places j 0
climbs_on places climbs i j le lt = elim (cases_lt i j) [
  | inl l ↦ let less = climbs i j 0 l lt in omega (arith, less)
  | inr ge ↦ let e : i ≡ j = omega (arith, le, ge) in let same = ap (λ (k : ℕ). get_or places k 0) e in omega (arith, same)
]

-- a place that is looked for among rising ones
pub found_by_halves : (places : List ℕ) (place : ℕ) (r : Result ℕ ℕ) → Climbs places → IsBinarySearchResult (λ y. nat_cmp y place) places r → MatchResult r (λ i. slice_get places i ≡ Some place) (λ i. Contains places place → ⊥)
found_by_halves places place (Ok i) climbs found =
    let at = searched places place (Ok i) found (climbs_on places climbs) in
    slice_get-get_or places i 0 at.0 ∙ ap Some at.1
found_by_halves places place (Err i) climbs found = λ m.
    let none = searched places place (Err i) found (climbs_on places climbs) in
    let is = get_or_default places m.0 0 place m.1 ∙ m.2 in
    elim (cases_lt m.0 i) [ inl l ↦ let less = none.1 m.0 l in omega (arith, less, is) | inr ge ↦ let more = none.2 m.0 ge m.1 in omega (arith, more, is) ]

module _ (log : List Removal) (places : List ℕ) (steps : AreSteps log places) where
  pub steps_apart : Apart (log_pairs (removals_at log places))
  steps_apart =
      subst (λ (rs : List Removal). Apart (log_pairs rs)) (sym (steps_found log steps.pairs places steps.linked steps.needed))
      (apart_passed (λ (r : Removal). is_asked (asked log steps.pairs) r.pair) log (linked_apart log steps.linked))

  -- the reasons of a step are pairs of steps
  pub reasons_found : (r : Removal) (p : Pair) → Contains (removals_at log places) r → Contains r.reasons p → Contains (log_pairs (removals_at log places)) p
  reasons_found r p m k =
      let same = steps_found log steps.pairs places steps.linked steps.needed in
      subst (λ (rs : List Removal). Contains (log_pairs rs) p) (sym same) (reasons_steps log steps.pairs steps.linked r p (subst (λ (rs : List Removal). Contains rs r) same m) k)

  -- a pair of a step, by its place in the log
  pub step_at : (place : ℕ) (p : Pair) → slice_get (log_pairs log) place ≡ Some p → Contains (log_pairs (removals_at log places)) p → Contains places place
  step_at place p at m =
      let r = pair_removal (removals_at log places) p m in
      let q = at_member log places r.0 r.1 in
      member_same places q.0 place (same_place (log_pairs log) (linked_apart log steps.linked) q.0 place p (pair_at log q.0 r.0 q.2 ∙ ap Some r.2) at) q.1

  -- at each index stands the place of a step
  pub step_placed : (book : Contents) (By : Cid → Type 0) → All (IsOfBook book By) log → (i : ℕ) → i < length places → IsStepAt book By log places (get_or places i 0)
  step_placed book By logged i lt =
      let m : Contains places (get_or places i 0) = (i, lt, get_or_default places i (get_or places i 0) 0 lt) in
      let r = step_stands log steps.pairs places steps.linked steps.needed (get_or places i 0) m in
      record { steps = steps; logged = logged; within = slice_get_within log (get_or places i 0) r.0 r.1; step = m }

  pub number_found : (place i : ℕ) (p : Pair) → slice_get (log_pairs log) place ≡ Some p → Contains places place → slice_get places i ≡ Some place → IsNumberOf (removals_at log places) (i + 1) p
  number_found place i p at m there =
      let r = step_stands log steps.pairs places steps.linked steps.needed place m in
      let back : i ≡ i + 1 - 1 = omega arith in
      let same = pair_at (removals_at log places) i r.0 (nth_at log places (step_stands log steps.pairs places steps.linked steps.needed) i place r.0 there r.1) ∙ sym (pair_at log place r.0 r.1) ∙ at in
      record { positive = omega arith; at = rw (← back) same }
