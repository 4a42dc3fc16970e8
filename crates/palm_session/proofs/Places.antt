-- Objects at places: the numbers of those that are there, and the chosen one.
use Rattle.std.proofs.Common.{◌≡◌, ℕ, zero, suc, ◌+◌, ◌<◌, ◌≤◌, ◌==◌, Bool, true, false, not, if◌then◌else◌, cond, Option, None, Some, is_some, List, [], ◌∷◌, ◌++◌, map, set, get_or, slice_get, length, Contains, inl, inr, refl, sym, ap, ◌∙◌, subst, arith, append-nil, eq-eqb, eqb-true}
use Rattle.std.proofs.lemmas.List.{get_or-set_same, get_or-set_other, length-set}
use Rattle.std.proofs.lemmas.Option.{slice_get_within, get_or_from_slice_get, slice_get_read}
use Rattle.palm_base.specs.Tells.{Tells}
use Rattle.palm_base.proofs.cited.Members.{nat_known, member_nil, member_here, member_there, member_cases, member_same}
use Rattle.palm_session.specs.Objects.{ObjectsView, LendsChosen, numbered, numbered_from, without_number, chosen_without, without_object, numbers_from, numbers_of, number_at, objects_at, all_placed, object_at, with_object, chosen_object, ArePlaces}

-- ---- all of them

pub all_numbered : {X : Type 0} (n : ℕ) (xs : List X) → numbers_from n (map Some xs) ≡ numbered_from n (length xs)
all_numbered n [] = refl
all_numbered n (x ∷ xs) = ap (λ (ns : List ℕ). n ∷ ns) (all_numbered (suc n) xs)

-- ---- who is there

pub there_numbered : {X : Type 0} (n k : ℕ) (places : List (Option X)) (i : ℕ) (x : X) → k ≡ n + i → slice_get places i ≡ Some (Some x) → Contains (numbers_from n places) k
there_numbered n k [] i x e at = cc
there_numbered n k (None ∷ places) zero x e at = cc
there_numbered n k (None ∷ places) (suc i) x e at = there_numbered (suc n) k places i x (omega (arith, e)) at
there_numbered n k (Some y ∷ places) zero x e at = member_same (n ∷ numbers_from (suc n) places) n k (omega (arith, e)) (member_here n (numbers_from (suc n) places))
there_numbered n k (Some y ∷ places) (suc i) x e at =
    member_there n (numbers_from (suc n) places) k (there_numbered (suc n) k places i x (omega (arith, e)) at)

-- the place with the number holds an object
pub record IsThere {X : Type 0} (n k : ℕ) (places : List (Option X)) : Type 0 where
  pub place : ℕ
  pub object : X
  pub number : k ≡ n + place
  pub at : slice_get places place ≡ Some (Some object)

behind : {X : Type 0} (n k : ℕ) (p : Option X) (places : List (Option X)) → IsThere (suc n) k places → IsThere n k (p ∷ places)
behind n k p places t = record { place = suc t.place; object = t.object; number = omega (arith, t.number); at = t.at }

pub numbered_there : {X : Type 0} (n k : ℕ) (places : List (Option X)) → Contains (numbers_from n places) k → IsThere n k places
numbered_there n k [] m = absurd (member_nil k m)
numbered_there n k (None ∷ places) m = behind n k None places (numbered_there (suc n) k places m)
numbered_there n k (Some y ∷ places) m = elim (member_cases n (numbers_from (suc n) places) k m) [
  | inl e ↦ record { place = 0; object = y; number = omega (arith, e); at = refl }
  | inr r ↦ behind n k (Some y) places (numbered_there (suc n) k places r)
]

-- ---- another object at a place, or none

pub alike_numbered : {X : Type 0} (n : ℕ) (places : List (Option X)) (i : ℕ) (w : Option X) → is_some w ≡ is_some (get_or places i None) → numbers_from n (set places i w) ≡ numbers_from n places
alike_numbered n [] i w e = refl
alike_numbered n (None ∷ places) zero None e = refl
alike_numbered n (None ∷ places) zero (Some x) e = cc
alike_numbered n (Some y ∷ places) zero None e = cc
alike_numbered n (Some y ∷ places) zero (Some x) e = refl
alike_numbered n (None ∷ places) (suc i) w e = alike_numbered (suc n) places i w e
alike_numbered n (Some y ∷ places) (suc i) w e = ap (λ (ns : List ℕ). n ∷ ns) (alike_numbered (suc n) places i w e)

pub differs : (m n : ℕ) → (m ≡ n → ⊥) → (m == n) ≡ false
differs m n other = by (m == n) refl
  where
    by : (b : Bool) → (m == n) ≡ b → b ≡ false
    by true e = absurd (other (eqb-true m n e))
    by false e = refl

-- a number before all of them is not among them
none_before : {X : Type 0} (n k : ℕ) (places : List (Option X)) → k < n → numbers_from n places ≡ without_number k (numbers_from n places)
none_before n k [] lt = refl
none_before n k (None ∷ places) lt = none_before (suc n) k places (omega (arith, lt))
none_before n k (Some y ∷ places) lt =
    let rest = without_number k (numbers_from (suc n) places) in
    ap (λ (ns : List ℕ). n ∷ ns) (none_before (suc n) k places (omega (arith, lt)))
    ∙ sym (ap (λ (b : Bool). cond (not b) (n ∷ rest) rest) (differs n k (λ e. omega (arith, e, lt))))

pub none_numbered : {X : Type 0} (n k : ℕ) (places : List (Option X)) (i : ℕ) → k ≡ n + i → numbers_from n (set places i None) ≡ without_number k (numbers_from n places)
none_numbered n k [] i e = refl
none_numbered n k (None ∷ places) zero e = none_before (suc n) k places (omega (arith, e))
none_numbered n k (Some y ∷ places) zero e =
    let rest = without_number k (numbers_from (suc n) places) in
    none_before (suc n) k places (omega (arith, e)) ∙ sym (ap (λ (b : Bool). cond (not b) (n ∷ rest) rest) (eq-eqb n k (omega (arith, e))))
none_numbered n k (None ∷ places) (suc i) e = none_numbered (suc n) k places i (omega (arith, e))
none_numbered n k (Some y ∷ places) (suc i) e =
    let rest = without_number k (numbers_from (suc n) places) in
    ap (λ (ns : List ℕ). n ∷ ns) (none_numbered (suc n) k places i (omega (arith, e)))
    ∙ sym (ap (λ (b : Bool). cond (not b) (n ∷ rest) rest) (differs n k (λ s. omega (arith, e, s))))

-- ---- the chosen one

pub alike_at : {X : Type 0} (n : ℕ) (v w : Option X) → is_some w ≡ is_some v → number_at n w ≡ number_at n v
alike_at n None None e = refl
alike_at n None (Some x) e = cc
alike_at n (Some y) None e = cc
alike_at n (Some y) (Some x) e = refl

chosen_gone : {X : Type 0} (k c : ℕ) (v : Option X) → c ≡ k → chosen_without k (number_at c v) ≡ None
chosen_gone k c None e = refl
chosen_gone k c (Some x) e = ap (λ (b : Bool). if b then None else Some c) (eq-eqb c k e)

chosen_left : {X : Type 0} (k c : ℕ) (v : Option X) → (c ≡ k → ⊥) → chosen_without k (number_at c v) ≡ number_at c v
chosen_left k c None other = refl
chosen_left k c (Some x) other = ap (λ (b : Bool). if b then None else Some c) (differs c k other)

none_chosen : {X : Type 0} (places : List (Option X)) (k c : ℕ) → c < length places → number_at c (get_or (set places k None) c None) ≡ chosen_without k (number_at c (get_or places c None))
none_chosen places k c within = elim (nat_known c k) [
  | inl e ↦
      let gone : get_or (set places k None) c None ≡ None = subst (λ (i : ℕ). get_or (set places i None) c None ≡ None) e (get_or-set_same places c None None within) in
      ap (number_at c) gone ∙ sym (chosen_gone k c (get_or places c None) e)
  | inr other ↦ ap (number_at c) (get_or-set_other places k c None None other) ∙ sym (chosen_left k c (get_or places c None) other)
]

-- ---- as callers see them

pub there_within : {X : Type 0} (k : ℕ) (places : List (Option X)) → Contains (numbers_from 0 places) k → k < length places
there_within k places m =
    let t = numbered_there 0 k places m in
    let lt : t.place < length places = slice_get_within places t.place (Some t.object) t.at in
    omega (arith, lt, t.number)

-- what is seen, by its parts
seen : {X : Type 0} (ps qs : List (Option X)) (a b : Option ℕ) → ps ≡ qs → a ≡ b → ◌≡◌ {A = ObjectsView X} (record { places = ps; chosen = a }) (record { places = qs; chosen = b })
seen ps qs a b e f = cc

some_number : {X : Type 0} (c : ℕ) (o : Option X) → is_some (number_at c o) ≡ is_some o
some_number c None = refl
some_number c (Some x) = refl

-- the first place stays empty where a change leaves whether there is an object
first_kept : {X : Type 0} (places : List (Option X)) (c : ℕ) (w : Option X) → get_or places 0 None ≡ None → is_some w ≡ is_some (get_or places c None) → get_or (set places c w) 0 None ≡ None
first_kept [] c w first same = refl
first_kept (p ∷ places) zero None first same = refl
first_kept (p ∷ places) zero (Some x) first same = cc
first_kept (p ∷ places) (suc c) w first same = first

-- ---- the chosen object

module _ {X : Type 0} where
  object_there : (c : ℕ) (places : List (Option X)) (o : Option X) → get_or places c None ≡ o → object_at (number_at c o) places ≡ o
  object_there c places None at = refl
  object_there c places (Some x) at = at

  -- nothing where there is nothing
  none_set : (places : List (Option X)) (c : ℕ) → get_or places c None ≡ None → set places c None ≡ places
  none_set [] c at = refl
  none_set (p ∷ places) zero at = ap (λ (q : Option X). q ∷ places) (sym at)
  none_set (p ∷ places) (suc c) at = ap (λ (ps : List (Option X)). p ∷ ps) (none_set places c at)

  lent_places : (places : List (Option X)) (c : ℕ) (o w : Option X) → get_or places c None ≡ o → is_some w ≡ is_some o → set places c w ≡ with_object (number_at c o) w places
  lent_places places c None None at same = none_set places c at
  lent_places places c None (Some x) at same = cc
  lent_places places c (Some y) w at same = refl

module _ {X : Type 0} (places : List (Option X)) (c : ℕ) (v : ObjectsView X) (is : ArePlaces places c) (view : objects_at places c ≡ v) where
  numbers_seen : numbers_from 0 places ≡ numbers_of v.places
  numbers_seen = ap (λ (w : ObjectsView X). numbers_of w.places) view

  chosen_seen : number_at c (get_or places c None) ≡ v.chosen
  chosen_seen = ap (λ (w : ObjectsView X). w.chosen) view

  -- what was read at the chosen place stands there, whatever the default
  stands : (u : Option X) → u ≡ get_or places c u → get_or places c None ≡ u
  stands u there = get_or_from_slice_get places c u None (slice_get_read places (length places) c u refl is.within there)

  -- an object that is there may be chosen
  pub may_choose : (k : ℕ) → Contains (numbers_of v.places) k → ArePlaces places k
  may_choose k there = record { first = is.first; within = there_within k places (subst (λ (ns : List ℕ). Contains ns k) (sym numbers_seen) there) }

  pub chosen_objects : (k : ℕ) → Contains (numbers_of v.places) k → objects_at places k ≡ record { places = v.places; chosen = Some k }
  chosen_objects k there =
      let t = numbered_there 0 k places (subst (λ (ns : List ℕ). Contains ns k) (sym numbers_seen) there) in
      let same : t.place ≡ k = omega (arith, t.number) in
      let at : get_or places k None ≡ Some t.object = subst (λ (i : ℕ). get_or places i None ≡ Some t.object) same (get_or_from_slice_get places t.place (Some t.object) None t.at) in
      seen places v.places (number_at k (get_or places k None)) (Some k) (ap (λ (w : ObjectsView X). w.places) view) (ap (number_at k) at)

  -- the object at the chosen place is lent
  pub settled_objects : (u w : Option X) → u ≡ get_or places c u → is_some w ≡ is_some u → LendsChosen v (objects_at (set places c w) c)
  settled_objects u w there same =
      let e : is_some w ≡ is_some (get_or places c None) = same ∙ ap (λ (o : Option X). is_some o) (sym (stands u there)) in
      let at : get_or (set places c w) c None ≡ w = get_or-set_same places c w None is.within in
      let last : object_at (number_at c (get_or (set places c w) c None)) (set places c w) ≡ w = object_there c (set places c w) (get_or (set places c w) c None) refl ∙ at in
      let lends : LendsChosen (objects_at places c) (objects_at (set places c w) c) = record {
        there = ap (λ (o : Option X). is_some o) (object_there c places (get_or places c None) refl) ∙ sym (some_number c (get_or places c None));
        numbers = alike_numbered 0 places c w e;
        chosen = ap (number_at c) at ∙ alike_at c (get_or places c None) w e;
        places = lent_places places c (get_or places c None) w refl e
            ∙ ap (λ (o : Option X). with_object (number_at c (get_or places c None)) o places) (sym last);
      } in
      subst (λ (z : ObjectsView X). LendsChosen z (objects_at (set places c w) c)) view lends

  -- whether one is chosen is told by its place
  pub chosen_told : (u : Option X) → u ≡ get_or places c u → is_some v.chosen ≡ is_some u
  chosen_told u there =
      ap (λ (o : Option ℕ). is_some o) (sym chosen_seen) ∙ some_number c (get_or places c None) ∙ ap (λ (o : Option X). is_some o) (stands u there)

  -- the chosen object is what was read there
  pub chosen_first : (u : Option X) → u ≡ get_or places c u → chosen_object v ≡ u
  chosen_first u there =
      ap (λ (z : ObjectsView X). chosen_object z) (sym view) ∙ object_there c places (get_or places c None) refl ∙ stands u there

  -- and after the call what was given back
  pub chosen_last : (w : Option X) → chosen_object (objects_at (set places c w) c) ≡ w
  chosen_last w = object_there c (set places c w) (get_or (set places c w) c None) refl ∙ get_or-set_same places c w None is.within

  -- the places are as before but for the object at the chosen one
  pub settled_places : (u w : Option X) → u ≡ get_or places c u → is_some w ≡ is_some u → ArePlaces (set places c w) c
  settled_places u w there same =
      let long = length-set places c w in
      record { first = first_kept places c w is.first (same ∙ ap (λ (o : Option X). is_some o) (sym (stands u there))); within = omega (arith, long, is.within) }

  -- the object with a number is dropped
  pub dropped_objects : (k : ℕ) → objects_at (set places k None) c ≡ without_object k v
  dropped_objects k =
      seen (set places k None) (set v.places k None) (number_at c (get_or (set places k None) c None)) (chosen_without k v.chosen)
      (ap (λ (w : ObjectsView X). set w.places k None) view)
      (none_chosen places k c is.within ∙ ap (λ (o : Option ℕ). chosen_without k o) chosen_seen)

  pub dropped_numbers : (k : ℕ) → numbers_of (set places k None) ≡ without_number k (numbers_of v.places)
  dropped_numbers k = none_numbered 0 k places k (omega arith) ∙ ap (λ (ns : List ℕ). without_number k ns) numbers_seen

-- whether there is an object is told by its place
module _ {X : Type 0} (places : List (Option X)) (c : ℕ) (v : ObjectsView X) (view : objects_at places c ≡ v) (k : ℕ) where
  there_seen : Contains (numbers_of v.places) k → Contains (numbers_from 0 places) k
  there_seen there = subst (λ (w : ObjectsView X). Contains (numbers_of w.places) k) (sym view) there

  pub beyond_absent : length places ≤ k → Contains (numbers_of v.places) k → ⊥
  beyond_absent beyond there = omega (arith, beyond, there_within k places (there_seen there))

  empty_absent : get_or places k None ≡ None → Contains (numbers_of v.places) k → ⊥
  empty_absent none there =
      let t = numbered_there 0 k places (there_seen there) in
      let same : t.place ≡ k = omega (arith, t.number) in
      let at : get_or places k None ≡ Some t.object = subst (λ (i : ℕ). get_or places i None ≡ Some t.object) same (get_or_from_slice_get places t.place (Some t.object) None t.at) in
      cc

  pub told_there : (o : Option X) (b : Bool) → k < length places → o ≡ get_or places k o → b ≡ is_some o → Tells b (Contains (numbers_of v.places) k)
  told_there None b lt at e = subst (λ (t : Bool). Tells t (Contains (numbers_of v.places) k)) (sym e) (empty_absent (sym at))
  told_there (Some x) b lt at e =
      let there = there_numbered 0 k places k x (omega arith) (slice_get_read places (length places) k (Some x) refl lt at) in
      subst (λ (t : Bool). Tells t (Contains (numbers_of v.places) k)) (sym e) (subst (λ (w : ObjectsView X). Contains (numbers_of w.places) k) view there)

-- ---- all of them

module _ {X : Type 0} (places : List (Option X)) (xs : List X) (is : places ≡ None ∷ map Some xs) where
  pub all_places : ArePlaces places 0
  all_places = record { first = ap (λ (ps : List (Option X)). get_or ps 0 None) is; within = subst (λ (ps : List (Option X)). 0 < length ps) (sym is) (omega arith) }

  pub all_objects : objects_at places 0 ≡ all_placed xs
  all_objects = ap (λ (ps : List (Option X)). objects_at ps 0) is

-- where none is still to come, all of them are in their places
pub all_in_places : {X : Type 0} (places : List (Option X)) (more xs : List X) (n : ℕ) → places ++ map Some more ≡ None ∷ map Some xs → n ≡ 0 → n ≡ length more → places ≡ None ∷ map Some xs
all_in_places places [] xs n e zero_left long = sym (append-nil places) ∙ e
all_in_places places (x ∷ more) xs n e zero_left long = absurd (omega (arith, zero_left, long))

-- their numbers
pub placed_numbers : {X : Type 0} (xs : List X) (n : ℕ) → n ≡ length xs → numbers_of (all_placed xs).places ≡ numbered n
placed_numbers xs n long = all_numbered 1 xs ∙ ap numbered (sym long)
