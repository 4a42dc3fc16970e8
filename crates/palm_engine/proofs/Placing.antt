-- Where constraints stand among those that rise, and which are left without one of them.
use Rattle.std.proofs.Common.{◌≡◌, ℕ, zero, suc, ◌<◌, ◌≤◌, Bool, true, false, not, List, [], ◌∷◌, ◌++◌, map, filter, length, get_or, slice_get, insert, remove, take, drop, ◌+◌, Contains, Option, None, Some, inl, inr, refl, sym, ap, ◌∙◌, subst, arith, add-zero}
use Rattle.std.specs.Option.{IfSome, MatchOption, option_map}
use Rattle.std.specs.List.Sorted.{IsPartitionedBy}
use Rattle.std.proofs.lemmas.Bool.{cases_lt, false≢true}
use Rattle.std.proofs.lemmas.List.{get_or_default, get_or-drop, get_or-take, length-drop, length-map, length-take, map-append}
use Rattle.std.proofs.lemmas.Simd.{map-map}
use Rattle.std.proofs.lemmas.Option.{slice_get-map, slice_get-get_or, slice_get_within, get_or_from_slice_get}
use Rattle.palm_base.specs.declared.terms.Pair.{Pair}
use Rattle.palm_base.specs.declared.terms.Cid.{Cid}
use Rattle.palm_base.specs.declared.terms.Cid.TheVariants.{Decide, Not, User}
use Rattle.palm_base.proofs.cited.Members.{member_here, member_map, member_unmap, member_single}
use Rattle.palm_base.specs.Order.{Rises, cid_before, pair_before, same_cid, IsPartedAt}
use Rattle.palm_model.specs.Log.{Active, IsActive, cids_of, is_named}
use Rattle.palm_model.specs.Event.{with_posted, without_cids}
use Rattle.palm_model.specs.State.{user_of}
use Rattle.palm_model.specs.declared.constraint.Con.{Con}
use Rattle.palm_base.specs.Tells.{Tells}
use Rattle.palm_base.proofs.cited.Telling.{tells_both}
use Rattle.palm_base.proofs.cited.CidOrder.{before_then, cid_same, not_before_itself, same_cid_itself}
use Rattle.palm_events.proofs.cited.Names.{member_named, member_not_named}
use Rattle.palm_events.proofs.cited.States.{without_cids_rises}
use Rattle.palm_base.proofs.cited.RisingLists.{rising, sorted_keys}
use Rattle.palm_base.proofs.cited.Sorted.{IsSortedKeys, listed_at, apart, filter_removes, inserted}
use Rattle.palm_engine.specs.declared.posted.Posted.{Posted}
use Rattle.palm_engine.specs.declared.posted.Posted.TheVariants.{Decision, Negation, User as UserPosted}
use Rattle.palm_engine.specs.Posted.{active_of, actives_of, is_decision, is_negation, negated}
use Rattle.palm_engine.proofs.Scopes.{map_filter}

-- ---- constraints that rise

pub sorted_actives : (active : List Active) → Rises (cids_of active) → IsSortedKeys (λ (a : Active). a.cid) cid_before active
sorted_actives active rises = sorted_keys (λ (a : Active). a.cid) active rises

pub items_rise : {X : Type 0} (active : X → Active) (xs : List X) → Rises (cids_of (map active xs)) → Rises (map (λ x. (active x).cid) xs)
items_rise active xs rises = subst Rises (map-map (λ (a : Active). a.cid) active xs) rises

pub sorted : {X : Type 0} (active : X → Active) (xs : List X) → Rises (cids_of (map active xs)) → IsSortedKeys (λ x. (active x).cid) cid_before xs
sorted active xs rises = sorted_keys (λ x. (active x).cid) xs (items_rise active xs rises)

-- the constraint under the id stands behind those that come before
pub owner_placed : {X : Type 0} (active : X → Active) (xs : List X) (cid : Cid) (place : ℕ) → Rises (cids_of (map active xs)) → IsPartedAt (λ x. cid_before (active x).cid cid) xs place
    → (a : Active) → Contains (map active xs) a → a.cid ≡ cid → slice_get (map active xs) place ≡ Some a
owner_placed active xs cid place rises at a m named =
    let r = member_unmap active xs a m in
    let e = listed_at (λ x. (active x).cid) cid_before rising xs (sorted active xs rises) cid place at r.0 r.1 (ap (λ (b : Active). b.cid) r.2 ∙ named) in
    slice_get-map active xs place ∙ ap (option_map active) e ∙ ap Some r.2

-- the constraint at a place
pub at_place : {X : Type 0} (active : X → Active) (xs : List X) (place : ℕ) (x : X) → place < length xs → x ≡ get_or xs place x → slice_get (map active xs) place ≡ Some (active x)
at_place active xs place x lt e = slice_get-map active xs place ∙ ap (option_map active) (slice_get-get_or xs place x lt ∙ ap Some (sym e))

some_active : (a b : Active) → Some a ≡ Some b → a ≡ b
some_active a b e = cc

pub placed_same : {X : Type 0} (active : X → Active) (xs : List X) (place : ℕ) (x : X) (a : Active) → x ≡ get_or xs place x → slice_get (map active xs) place ≡ Some a → active x ≡ a
placed_same active xs place x a at e =
    let within : place < length xs = subst (λ n. place < n) (length-map xs active) (slice_get_within (map active xs) place a e) in
    some_active (active x) a (sym (at_place active xs place x within at) ∙ e)

pub placed_within : {X : Type 0} (active : X → Active) (xs : List X) (place : ℕ) (a : Active) → slice_get (map active xs) place ≡ Some a → place < length xs
placed_within active xs place a e = subst (λ n. place < n) (length-map xs active) (slice_get_within (map active xs) place a e)

-- ---- one constraint more

pub inserted_cids : {X : Type 0} (active : X → Active) (xs : List X) (y : X) (place : ℕ) → Rises (cids_of (map active xs)) → IsPartedAt (λ x. cid_before (active x).cid (active y).cid) xs place
    → (IsActive (map active xs) (active y).cid → ⊥) → map active (insert xs place y) ≡ with_posted (active y) (map active xs)
inserted_cids active xs y place rises at inactive =
    let cid = (active y).cid in
    let low = filter (λ x. cid_before (active x).cid cid) xs in
    let high = filter (λ x. cid_before cid (active x).cid) xs in
    ap (map active) (inserted (λ x. (active x).cid) cid_before rising xs (sorted active xs rises) cid place at
    (λ x m e. inactive (record { owner = active x; posted = member_map active xs x m; named = e })) y)
    ∙ map-append active low (y ∷ high)
    ∙ ap (λ ls. ls ++ active y ∷ map active high) (map_filter active (λ (b : Active). cid_before b.cid cid) xs)
    ∙ ap (λ ls. filter (λ (b : Active). cid_before b.cid cid) (map active xs) ++ active y ∷ ls) (map_filter active (λ (b : Active). cid_before cid b.cid) xs)

-- ---- one constraint less

pub map_remove : {X Y : Type 0} (f : X → Y) (xs : List X) (k : ℕ) → map f (remove xs k) ≡ remove (map f xs) k
map_remove f [] zero = refl
map_remove f [] (suc k) = refl
map_remove f (x ∷ xs) zero = refl
map_remove f (x ∷ xs) (suc k) = ap (λ ys. f x ∷ ys) (map_remove f xs k)

removed_from : (active : List Active) (place : ℕ) (a : Active) → Rises (cids_of active) → slice_get active place ≡ Some a → remove active place ≡ without_cids (a.cid ∷ []) active
removed_from active place a rises e =
    filter_removes (λ (b : Active). not (is_named (a.cid ∷ []) b.cid)) active place (slice_get_within active place a e)
    (λ d. ap (λ (b : Active). not (is_named (a.cid ∷ []) b.cid)) (get_or_from_slice_get active place a d e) ∙ ap not (member_named (a.cid ∷ []) a.cid (member_here a.cid [])))
    (λ k d lt ne. member_not_named (a.cid ∷ []) (get_or active k d).cid (λ m.
    apart (λ (b : Active). b.cid) cid_before rising active (sorted_actives active rises) k place d lt (slice_get_within active place a e) ne
    (sym (member_single a.cid (get_or active k d).cid m) ∙ ap (λ (b : Active). b.cid) (sym (get_or_from_slice_get active place a d e)))))

pub removed_cids : {X : Type 0} (active : X → Active) (xs : List X) (place : ℕ) (a : Active) → Rises (cids_of (map active xs)) → slice_get (map active xs) place ≡ Some a
    → map active (remove xs place) ≡ without_cids (a.cid ∷ []) (map active xs)
removed_cids active xs place a rises e = map_remove active xs place ∙ removed_from (map active xs) place a rises e

pub removed_rises : {X : Type 0} (active : X → Active) (xs ys : List X) (place : ℕ) (a : Active) → Rises (cids_of (map active xs)) → slice_get (map active xs) place ≡ Some a → ys ≡ remove xs place → Rises (cids_of (map active ys))
removed_rises active xs ys place a rises e left =
    subst (λ l. Rises (cids_of l)) (sym (ap (map active) left ∙ removed_cids active xs place a rises e)) (without_cids_rises (a.cid ∷ []) (map active xs) rises)

-- ---- decisions, then negations, then users

decision_first : {F : Type 0} (meaning : F → Con) (p q : Posted F) → cid_before (active_of meaning p).cid (active_of meaning q).cid ≡ true → is_decision q ≡ true → is_decision p ≡ true
decision_first meaning (Decision x) q h t = refl
decision_first meaning (Negation x justification) (Decision y) h t = absurd (false≢true h)
decision_first meaning (Negation x justification) (Negation y more) h t = absurd (false≢true t)
decision_first meaning (Negation x justification) (UserPosted n f) h t = absurd (false≢true t)
decision_first meaning (UserPosted m e) (Decision y) h t = absurd (false≢true h)
decision_first meaning (UserPosted m e) (Negation y more) h t = absurd (false≢true t)
decision_first meaning (UserPosted m e) (UserPosted n f) h t = absurd (false≢true t)

pub parted_decisions : {F : Type 0} (meaning : F → Con) (xs : List (Posted F)) → Rises (cids_of (actives_of meaning xs)) → IsPartitionedBy is_decision xs
parted_decisions meaning xs rises i j d le lt h = elim (cases_lt i j) [
  | inl l ↦ decision_first meaning (get_or xs i d) (get_or xs j d) ((sorted (active_of meaning) xs rises).at i j d l lt) h
  | inr ge ↦ let e : j ≡ i = omega arith in subst (λ k. is_decision (get_or xs k d) ≡ true) e h
]

not_decision : {F : Type 0} (meaning : F → Con) (p : Posted F) (q : Pair) → (active_of meaning p).cid ≡ Not q → is_decision p ≡ false
not_decision meaning (Decision x) q e = cc
not_decision meaning (Negation x justification) q e = refl
not_decision meaning (UserPosted n f) q e = refl

-- an active negation, at its place
record StandsAt {F : Type 0} (meaning : F → Con) (xs : List (Posted F)) (q : Pair) : Type 0 where
  place : ℕ
  within : place < length xs
  named : (d : Posted F) → (active_of meaning (get_or xs place d)).cid ≡ Not q

stands : {F : Type 0} (meaning : F → Con) (xs : List (Posted F)) (q : Pair) → IsActive (actives_of meaning xs) (Not q) → StandsAt meaning xs q
stands meaning xs q is =
    let r = member_unmap (active_of meaning) xs is.owner is.posted in
    record {
      place = r.1.0;
      within = r.1.1;
      named = λ d. ap (λ p. (active_of meaning p).cid) (get_or_from_slice_get xs r.1.0 r.0 d (slice_get-get_or xs r.1.0 r.0 r.1.1 ∙ ap Some r.1.2)) ∙ ap (λ (a : Active). a.cid) r.2 ∙ is.named;
    }

pair_in : {F : Type 0} (x y : Posted F) (p : Pair) (justification : List Cid) (q : Pair) (more : List Cid) → x ≡ Negation p justification → y ≡ Negation q more → x ≡ y → p ≡ q
pair_in x y p justification q more e f g = cc

-- it stands behind the decisions
behind : {F : Type 0} (meaning : F → Con) (xs : List (Posted F)) (place : ℕ) → IsPartedAt is_decision xs place → (q : Pair) (at : StandsAt meaning xs q) → Posted F → place ≤ at.place
behind meaning xs place front q at d = elim (cases_lt at.place place) [
  | inr ge ↦ ge
  | inl l ↦ absurd (false≢true (sym (not_decision meaning (get_or xs at.place d) q (at.named d)) ∙ front.before at.place d (omega arith) l))
]

-- what the first constraint behind the decisions says of an active negation
first_is : {F : Type 0} (meaning : F → Con) (xs : List (Posted F)) (place : ℕ) → Rises (cids_of (actives_of meaning xs)) → IsPartedAt is_decision xs place
    → (q : Pair) → StandsAt meaning xs q → (x : Posted F) → slice_get xs place ≡ Some x → (p : Pair) × (justification : List Cid) × (x ≡ Negation p justification) × (pair_before q p ≡ true → ⊥)
first_is meaning xs place rises front q at x e = elim (cases_lt place at.place) [
  | inl l ↦ later x (subst (λ y. cid_before (active_of meaning y).cid (Not q) ≡ true) (get_or_from_slice_get xs place x x e) (subst (λ c. cid_before (active_of meaning (get_or xs place x)).cid c ≡ true) (at.named x) ((sorted (active_of meaning) xs rises).at place at.place x l at.within)))
      (subst (λ y. is_decision y ≡ false) (get_or_from_slice_get xs place x x e) (front.after place x (omega arith) (slice_get_within xs place x e)))
  | inr ge ↦
      let same : at.place ≡ place = omega (arith, behind meaning xs place front q at x) in
      here x (subst (λ y. (active_of meaning y).cid ≡ Not q) (ap (λ k. get_or xs k x) same ∙ get_or_from_slice_get xs place x x e) (at.named x))
]
  where
    later : (y : Posted _) → cid_before (active_of meaning y).cid (Not q) ≡ true → is_decision y ≡ false → (p : Pair) × (justification : List Cid) × (y ≡ Negation p justification) × (pair_before q p ≡ true → ⊥)
    later (Decision p) h f = absurd (false≢true (sym f))
    later (Negation p justification) h f = (p, justification, refl, λ k. not_before_itself (Not q) (before_then (Not q) (Not p) (Not q) k h))
    later (UserPosted n g) h f = absurd (false≢true h)

    here : (y : Posted _) → (active_of meaning y).cid ≡ Not q → (p : Pair) × (justification : List Cid) × (y ≡ Negation p justification) × (pair_before q p ≡ true → ⊥)
    here (Decision p) f = cc
    here (Negation p justification) f = (p, justification, refl, λ k. not_before_itself (Not q) (subst (λ c. cid_before (Not q) c ≡ true) f k))
    here (UserPosted n g) f = cc

-- where no negation stands behind the decisions, none is active
pub no_negation : {F : Type 0} (meaning : F → Con) (xs : List (Posted F)) (place : ℕ) → Rises (cids_of (actives_of meaning xs)) → IsPartedAt is_decision xs place
    → ((p : Pair) (justification : List Cid) → slice_get xs place ≡ Some (Negation p justification) → ⊥) → (q : Pair) → IsActive (actives_of meaning xs) (Not q) → ⊥
no_negation meaning xs place rises front none q is =
    let at = stands meaning xs q is in
    let x = (member_unmap (active_of meaning) xs is.owner is.posted).0 in
    let within : place < length xs = omega (arith, behind meaning xs place front q at x, at.within) in
    let e = slice_get-get_or xs place x within in
    let r = first_is meaning xs place rises front q at (get_or xs place x) e in
    none r.0 r.1 (e ∙ ap Some r.2)

-- the negation that stands there is the least
pub least_negation : {F : Type 0} (meaning : F → Con) (xs : List (Posted F)) (place : ℕ) (p : Pair) (justification : List Cid) → Rises (cids_of (actives_of meaning xs)) → IsPartedAt is_decision xs place
    → slice_get xs place ≡ Some (Negation p justification) → IsActive (actives_of meaning xs) (Not p) × ((q : Pair) → IsActive (actives_of meaning xs) (Not q) → pair_before q p ≡ true → ⊥)
least_negation meaning xs place p justification rises front e = (
  record {
    owner = active_of meaning (Negation p justification);
    posted = member_map (active_of meaning) xs (Negation p justification) (place, slice_get_within xs place (Negation p justification) e, get_or_from_slice_get xs place (Negation p justification) (Negation p justification) e);
    named = refl;
  },
  λ q is k.
      let r = first_is meaning xs place rises front q (stands meaning xs q is) (Negation p justification) e in
      r.3 (subst (λ z. pair_before q z ≡ true) (pair_in (Negation p justification) (Negation r.0 r.1) p justification r.0 r.1 refl refl r.2) k),
)

-- what the first constraint behind the decisions says
pub negation_first : {F : Type 0} (meaning : F → Con) (xs : List (Posted F)) (place : ℕ) (x : Posted F) → Rises (cids_of (actives_of meaning xs)) → IsPartedAt is_decision xs place → slice_get xs place ≡ Some x
    → MatchOption (negated x) ((p : Pair) → IsActive (actives_of meaning xs) (Not p) → ⊥)
    (λ p. IsActive (actives_of meaning xs) (Not p) × ((q : Pair) → IsActive (actives_of meaning xs) (Not q) → pair_before q p ≡ true → ⊥))
negation_first meaning xs place (Decision y) rises front e = no_negation meaning xs place rises front (λ p justification f. cc)
negation_first meaning xs place (Negation y justification) rises front e = least_negation meaning xs place y justification rises front e
negation_first meaning xs place (UserPosted n f) rises front e = no_negation meaning xs place rises front (λ p justification g. cc)

pub negation_past : {F : Type 0} (meaning : F → Con) (xs : List (Posted F)) (place : ℕ) → Rises (cids_of (actives_of meaning xs)) → IsPartedAt is_decision xs place → length xs ≤ place
    → (p : Pair) → IsActive (actives_of meaning xs) (Not p) → ⊥
negation_past meaning xs place rises front le = no_negation meaning xs place rises front (λ p justification e. absurd (omega (arith, slice_get_within xs place (Negation p justification) e)))

-- ---- the walk over the negations

-- decisions rest on nothing, and so do users' constraints
justification_none : {F : Type 0} (meaning : F → Con) (x : Posted F) → is_negation x ≡ false → (active_of meaning x).justification ≡ []
justification_none meaning (Decision p) e = refl
justification_none meaning (Negation p justification) e = absurd (false≢true (sym e))
justification_none meaning (UserPosted n f) e = refl

decision_not_negation : {F : Type 0} (x : Posted F) → is_decision x ≡ true → is_negation x ≡ false
decision_not_negation (Decision p) e = refl
decision_not_negation (Negation p justification) e = absurd (false≢true e)
decision_not_negation (UserPosted n f) e = absurd (false≢true e)

-- behind one that is neither a decision nor a negation there are users alone
user_then : {F : Type 0} (meaning : F → Con) (x y : Posted F) → is_negation x ≡ false → ((v : ℕ) → (active_of meaning x).cid ≡ Decide v → ⊥) → cid_before (active_of meaning x).cid (active_of meaning y).cid ≡ true → is_negation y ≡ false
user_then meaning (Decision p) y e n h = absurd (n p.var refl)
user_then meaning (Negation p justification) y e n h = absurd (false≢true (sym e))
user_then meaning (UserPosted m f) (Decision q) e n h = refl
user_then meaning (UserPosted m f) (Negation q justification) e n h = absurd (false≢true h)
user_then meaning (UserPosted m f) (UserPosted k g) e n h = refl

map_take : {X Y : Type 0} (f : X → Y) (n : ℕ) (xs : List X) → take n (map f xs) ≡ map f (take n xs)
map_take f zero [] = refl
map_take f zero (x ∷ xs) = refl
map_take f (suc n) [] = refl
map_take f (suc n) (x ∷ xs) = ap (λ ys. f x ∷ ys) (map_take f n xs)

map_drop : {X Y : Type 0} (f : X → Y) (n : ℕ) (xs : List X) → drop n (map f xs) ≡ map f (drop n xs)
map_drop f zero [] = refl
map_drop f zero (x ∷ xs) = refl
map_drop f (suc n) [] = refl
map_drop f (suc n) (x ∷ xs) = map_drop f n xs

-- where a member of the first ones, or of those behind them, stands
taken_at : {X : Type 0} (place : ℕ) (xs : List X) (x : X) → Contains (take place xs) x → (k : ℕ) × (k < place) × (k < length xs) × (get_or xs k x ≡ x)
taken_at place xs x m =
    let both = length-take place xs in
    let lt : m.0 < place = omega (arith, both, m.1) in
    (m.0, lt, omega (arith, both, m.1), sym (get_or-take place xs m.0 x lt) ∙ m.2)

dropped_at : {X : Type 0} (place : ℕ) (xs : List X) (x : X) → Contains (drop place xs) x → (k : ℕ) × (place ≤ k) × (k < length xs) × (get_or xs k x ≡ x)
dropped_at place xs x m = (place + m.0, omega arith, omega (arith, length-drop place xs, m.1), sym (get_or-drop place xs m.0 x) ∙ m.2)

-- the decisions rest on nothing
pub front_stands : {F : Type 0} (meaning : F → Con) (xs : List (Posted F)) (place : ℕ) → IsPartedAt is_decision xs place → (a : Active) → Contains (take place (actives_of meaning xs)) a → a.justification ≡ []
front_stands meaning xs place front a m =
    let r = member_unmap (active_of meaning) (take place xs) a (subst (λ l. Contains l a) (map_take (active_of meaning) place xs) m) in
    let at = taken_at place xs r.0 r.1 in
    let decides = subst (λ x. is_decision x ≡ true) at.3 (front.before at.0 r.0 (omega arith) at.1) in
    ap (λ (b : Active). b.justification) (sym r.2) ∙ justification_none meaning r.0 (decision_not_negation r.0 decides)

decides_is : {F : Type 0} (meaning : F → Con) (x : Posted F) (v : ℕ) → (active_of meaning x).cid ≡ Decide v → is_decision x ≡ true
decides_is meaning (Decision p) v e = refl
decides_is meaning (Negation p justification) v e = cc
decides_is meaning (UserPosted n f) v e = cc

pub behind_decisions : {F : Type 0} (meaning : F → Con) (xs : List (Posted F)) (place : ℕ) → IsPartedAt is_decision xs place → (a : Active) (v : ℕ) → Contains (drop place (actives_of meaning xs)) a → a.cid ≡ Decide v → ⊥
behind_decisions meaning xs place front a v m e =
    let r = member_unmap (active_of meaning) (drop place xs) a (subst (λ l. Contains l a) (map_drop (active_of meaning) place xs) m) in
    let at = dropped_at place xs r.0 r.1 in
    let other = subst (λ x. is_decision x ≡ false) at.3 (front.after at.0 r.0 at.1 at.2) in
    false≢true (sym other ∙ decides_is meaning r.0 v (ap (λ (b : Active). b.cid) r.2 ∙ e))

-- where neither a decision nor a negation stands, those from there on rest on nothing
pub rest_stands : {F : Type 0} (meaning : F → Con) (xs : List (Posted F)) (place : ℕ) → Rises (cids_of (actives_of meaning xs)) → IfSome (slice_get xs place) (λ p. is_negation p ≡ false)
    → ((a : Active) (v : ℕ) → Contains (drop place (actives_of meaning xs)) a → a.cid ≡ Decide v → ⊥) → (a : Active) → Contains (drop place (actives_of meaning xs)) a → a.justification ≡ []
rest_stands {F = F} meaning xs place rises other behind a m =
    let r = member_unmap (active_of meaning) (drop place xs) a (subst (λ l. Contains l a) (map_drop (active_of meaning) place xs) m) in
    let at = dropped_at place xs r.0 r.1 in
    let lt : place < length xs = omega (arith, at.1, at.2) in
    let x = get_or xs place r.0 in
    let first : is_negation x ≡ false = subst (λ (o : Option (Posted F)). IfSome o (λ p. is_negation p ≡ false)) (slice_get-get_or xs place r.0 lt) other in
    let here : Contains (drop place xs) x = (0, omega (arith, length-drop place xs), get_or-drop place xs 0 x ∙ ap (λ k. get_or xs k x) (add-zero place) ∙ get_or_default xs place x r.0 lt) in
    let free : (v : ℕ) → (active_of meaning x).cid ≡ Decide v → ⊥ = λ v e.
    behind (active_of meaning x) v (subst (λ l. Contains l (active_of meaning x)) (sym (map_drop (active_of meaning) place xs)) (member_map (active_of meaning) (drop place xs) x here)) e in
    let stands : is_negation r.0 ≡ false = elim (cases_lt place at.0) [
      | inl l ↦ user_then meaning x r.0 first free (subst (λ y. cid_before (active_of meaning x).cid (active_of meaning y).cid ≡ true) at.3 ((sorted (active_of meaning) xs rises).at place at.0 r.0 l at.2))
      | inr ge ↦ let e : place ≡ at.0 = omega (arith, at.1) in subst (λ y. is_negation y ≡ false) (ap (λ k. get_or xs k r.0) e ∙ at.3) first
    ] in
    ap (λ (b : Active). b.justification) (sym r.2) ∙ justification_none meaning r.0 stands

-- ---- whether a constraint is active

pub active_tells : {X : Type 0} (active : X → Active) (xs : List X) (place : ℕ) (x : X) (cid : Cid) (r : Bool) → slice_get xs place ≡ Some x
    → ((a : Active) → Contains (map active xs) a → a.cid ≡ cid → slice_get (map active xs) place ≡ Some a) → r ≡ same_cid (active x).cid cid → Tells r (IsActive (map active xs) cid)
active_tells active xs place x cid r e owner told =
    let here : slice_get (map active xs) place ≡ Some (active x) = slice_get-map active xs place ∙ ap (option_map active) e in
    tells_both (IsActive (map active xs) cid) r
    (λ t. record {
      owner = active x;
      posted = member_map active xs x (place, slice_get_within xs place x e, get_or_from_slice_get xs place x x e);
      named = cid_same (active x).cid cid (sym told ∙ t);
    })
    (λ f is.
    let same = some_active (active x) is.owner (sym here ∙ owner is.owner is.posted is.named) in
    false≢true (sym f ∙ told ∙ ap (λ d. same_cid d cid) (ap (λ (a : Active). a.cid) same ∙ is.named) ∙ same_cid_itself cid))

pub none_active : {X : Type 0} (active : X → Active) (xs : List X) (place : ℕ) (cid : Cid) → length xs ≤ place
    → ((a : Active) → Contains (map active xs) a → a.cid ≡ cid → slice_get (map active xs) place ≡ Some a) → IsActive (map active xs) cid → ⊥
none_active active xs place cid le owner is = absurd (omega (arith, le, placed_within active xs place is.owner (owner is.owner is.posted is.named)))

-- ---- the filter of an active constraint

-- the constraint at the place of an id, and its filter where it is the one of the user with this number
module _ {X F : Type 0} (active : X → Active) (con : F → Con) (xs : List X) (place number : ℕ) (x : X) (at : slice_get xs place ≡ Some x)
    (owner : (a : Active) → Contains (map active xs) a → a.cid ≡ User number → slice_get (map active xs) place ≡ Some a) where
  placed_is : (a : Active) → Contains (map active xs) a → a.cid ≡ User number → a ≡ active x
  placed_is a m named = some_active a (active x) (sym (owner a m named) ∙ slice_get-map active xs place ∙ ap (option_map active) at)

  pub filter_active : (r : Option F) → MatchOption r ((active x).cid ≡ User number → ⊥) (λ f. active x ≡ user_of number (con f))
      → MatchOption r (IsActive (map active xs) (User number) → ⊥) (λ f. Contains (map active xs) (user_of number (con f)))
  filter_active None other = λ is. other (ap (λ (a : Active). a.cid) (sym (placed_is is.owner is.posted is.named)) ∙ is.named)
  filter_active (Some f) same =
      subst (Contains (map active xs)) same (member_map active xs x (place, slice_get_within xs place x at, get_or_from_slice_get xs place x x at))

  pub filter_only : (r : Option F) → MatchOption r ((active x).cid ≡ User number → ⊥) (λ f. active x ≡ user_of number (con f))
      → IfSome r (λ f. (a : Active) → Contains (map active xs) a → a.cid ≡ User number → a ≡ user_of number (con f))
  filter_only None other = tt
  filter_only (Some f) same = λ a m named. placed_is a m named ∙ same
