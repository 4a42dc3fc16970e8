-- Marks along the log: a pass up the log marks those that fall with the marked ones.
use Rattle.std.proofs.Common.{◌≡◌, ◌⊎◌, ℕ, zero, suc, ◌+◌, ◌<◌, ◌≤◌, Bool, true, false, List, [], ◌∷◌, length, map, take, set, get_or, Contains, Some, slice_get, inl, inr, refl, sym, ap, ◌∙◌, subst, arith}
use Rattle.std.proofs.lemmas.Bool.{cases_lt, false≢true}
use Rattle.std.proofs.lemmas.Option.{slice_get_within}
use Rattle.std.proofs.lemmas.List.{length-map}
use Rattle.palm_base.specs.Tells.{Tells}
use Rattle.palm_base.specs.declared.terms.Cid.{Cid}
use Rattle.palm_base.specs.declared.terms.Pair.{Pair}
use Rattle.palm_base.proofs.cited.Members.{member_get, member_here, member_map, member_place, member_same, member_there, member_unmap}
use Rattle.palm_domain.specs.Rows.{Row as DomainRow}
use Rattle.palm_explain.specs.declared.entry.Entry.{Entry}
use Rattle.palm_explain.specs.declared.restored.Restored.{Restored}
use Rattle.palm_explain.specs.declared.rows.Row.{Row}
use Rattle.palm_explain.specs.Entries.{AreEntered, AreUnmarked, removal_of, log_of, pairs_of, written}
use Rattle.palm_explain.specs.Explanations.{LacksExactly}
use Rattle.palm_explain.specs.Losing.{AreMarkedBy, AreToldBefore, FallsWith, marked_pairs, unmarked}
use Rattle.palm_explain.specs.Rows.{number_at}
use Rattle.palm_explain.proofs.Keeping.{entry_marked, marked_entry, told_true, true_told}
use Rattle.palm_explain.proofs.PuttingBack.{IsOneMore}
use Rattle.palm_explain.proofs.Reasons.{entry_numbered, entry_rises, map_place, pair_once, reason_entry, some_same}
use Rattle.palm_explain.proofs.Returning.{IsPutBack, come_back}
use Rattle.palm_explain.proofs.RowSpans.{take_place}

-- ---- places

set_there : {X : Type 0} (xs : List X) (i : ℕ) (x v : X) → slice_get xs i ≡ Some x → slice_get (set xs i v) i ≡ Some v
set_there [] i x v at = cc
set_there (y ∷ xs) zero x v at = refl
set_there (y ∷ xs) (suc i) x v at = set_there xs i x v at

set_else : {X : Type 0} (xs : List X) (i : ℕ) (v : X) (j : ℕ) (x : X) → (i ≡ j → ⊥) → slice_get xs j ≡ Some x → slice_get (set xs i v) j ≡ Some x
set_else [] i v j x n at = cc
set_else (y ∷ xs) zero v zero x n at = absurd (n refl)
set_else (y ∷ xs) zero v (suc j) x n at = at
set_else (y ∷ xs) (suc i) v zero x n at = at
set_else (y ∷ xs) (suc i) v (suc j) x n at = set_else xs i v j x (λ e. n (ap suc e)) at

set_cases : {X : Type 0} (xs : List X) (i : ℕ) (v : X) (j : ℕ) (x : X) → slice_get (set xs i v) j ≡ Some x → ((i ≡ j) × (v ≡ x)) ⊎ ((i ≡ j → ⊥) × (slice_get xs j ≡ Some x))
set_cases [] i v j x at = cc
set_cases (y ∷ xs) zero v zero x at = inl (refl, some_same v x at)
set_cases (y ∷ xs) zero v (suc j) x at = inr (λ e. omega (arith, e), at)
set_cases (y ∷ xs) (suc i) v zero x at = inr (λ e. omega (arith, e), at)
set_cases (y ∷ xs) (suc i) v (suc j) x at = elim (set_cases xs i v j x at) [
  | inl e ↦ inl (ap suc e.0, e.1)
  | inr o ↦ inr (λ e. o.0 (omega (arith, e)), o.1)
]

pub set_same : {X : Type 0} (xs : List X) (i : ℕ) (x v : X) → slice_get xs i ≡ Some x → v ≡ x → set xs i v ≡ xs
set_same [] i x v at e = cc
set_same (y ∷ xs) zero x v at e = ap (λ z. z ∷ xs) (e ∙ sym (some_same y x at))
set_same (y ∷ xs) (suc i) x v at e = ap (λ l. y ∷ l) (set_same xs i x v at e)

map_set : {X Y : Type 0} (f : X → Y) (xs : List X) (i : ℕ) (x v : X) → slice_get xs i ≡ Some x → f v ≡ f x → map f (set xs i v) ≡ map f xs
map_set f [] i x v at e = cc
map_set f (y ∷ xs) zero x v at e = ap (λ z. z ∷ map f xs) (e ∙ ap f (sym (some_same y x at)))
map_set f (y ∷ xs) (suc i) x v at e = ap (λ l. f y ∷ l) (map_set f xs i x v at e)

taken_member : {X : Type 0} (xs : List X) (n i : ℕ) (x : X) → slice_get xs i ≡ Some x → i < n → Contains (take n xs) x
taken_member [] n i x at lt = cc
taken_member (y ∷ xs) zero i x at lt = absurd (omega (arith, lt))
taken_member (y ∷ xs) (suc n) zero x at lt = member_same (y ∷ take n xs) y x (some_same y x at) (member_here y (take n xs))
taken_member (y ∷ xs) (suc n) (suc i) x at lt = member_there y (take n xs) x (taken_member xs n i x at (omega (arith, lt)))

-- ---- marks

pub tells_like : (b : Bool) (P Q : Type 0) → (b ≡ true → P → Q) → (b ≡ false → Q → P) → Tells b P → Tells b Q
tells_like true P Q to back t = to refl t
tells_like false P Q to back t = λ q. t (back refl q)

tells_not : (b : Bool) (P : Type 0) → b ≡ false → (P → ⊥) → Tells b P
tells_not true P e n = cc
tells_not false P e n = n

unmarked_same : (e : Entry) → e.mark ≡ false → unmarked e ≡ e
unmarked_same e none = λ i. record e { mark = sym none i }

pub all_unmarked : (es : List Entry) → AreUnmarked es → map unmarked es ≡ es
all_unmarked [] none = refl
all_unmarked (e ∷ es) none =
    ap (λ z. z ∷ map unmarked es) (unmarked_same e (none e (member_here e es))) ∙ ap (λ l. e ∷ l) (all_unmarked es (λ f m. none f (member_there e es f m)))

pub none_marked : (es : List Entry) → AreUnmarked es → (p : Pair) → Contains (marked_pairs es) p → ⊥
none_marked es none p m = let e = marked_entry es p m in false≢true (sym (none e.0 e.1) ∙ e.3)

-- below the place the marks are right, and from it on there is none; nor is there before the start
pub record IsMarkedBelow (rows : List Row) (cid : Cid) (all : List Entry) (start : ℕ) (entries : List Entry) (place : ℕ) : Type 0 where
  pub same : map unmarked entries ≡ all
  pub told : (i : ℕ) (e : Entry) → slice_get entries i ≡ Some e → i < place → Tells e.mark (FallsWith rows cid (marked_pairs entries) e)
  pub later : (i : ℕ) (e : Entry) → slice_get entries i ≡ Some e → place ≤ i → e.mark ≡ false
  pub first : (i : ℕ) (e : Entry) → slice_get entries i ≡ Some e → i < start → e.mark ≡ false

pub marked_start : (rows : List Row) (cid : Cid) (all : List Entry) (start : ℕ) → AreUnmarked all → ((e : Entry) → Contains (take start all) e → e.by ≡ cid → ⊥) → IsMarkedBelow rows cid all start all start
marked_start rows cid all start none begun = record {
  same = all_unmarked all none;
  told = λ i e at lt. tells_not e.mark (FallsWith rows cid (marked_pairs all) e) (none e (member_get all i e at)) (λ falls. elim falls [
    | inl by ↦ begun e (taken_member all start i e at lt) by
    | inr p ↦ none_marked all none p.0 p.2
  ]);
  later = λ i e at le. none e (member_get all i e at);
  first = λ i e at lt. none e (member_get all i e at);
}

-- the mark of the entry at the place
module _ (rows : List Row) (cid : Cid) (all : List Entry) (next : ℕ) (are : AreEntered all rows next) (start : ℕ) (entries : List Entry) (place : ℕ) (below : IsMarkedBelow rows cid all start entries place)
    (e : Entry) (at : slice_get entries place ≡ Some e) where
  among : (i : ℕ) (g : Entry) → slice_get entries i ≡ Some g → slice_get all i ≡ Some (unmarked g)
  among i g is = subst (λ l. slice_get l i ≡ Some (unmarked g)) below.same (map_place unmarked entries i g is)

  pub here : Contains all (unmarked e)
  here = member_get all place (unmarked e) (among place e at)

  bare : e.mark ≡ false
  bare = below.later place e at (omega arith)

  -- an earlier entry has another pair
  apart : (i : ℕ) (g : Entry) → slice_get entries i ≡ Some g → i < place → g.pair ≡ e.pair → ⊥
  apart i g is lt same =
      let once = pair_once all rows next are (unmarked g) (unmarked e) (member_get all i (unmarked g) (among i g is)) here same in
      let n = ap (λ (z : Entry). z.number) once in
      let less = entry_rises all are.rises i place (unmarked g) (unmarked e) lt (among i g is) (among place e at) in absurd (omega (arith, n, less))

  -- none of the marked pairs is its pair
  pub unmarked_pair : Contains (marked_pairs entries) e.pair → ⊥
  unmarked_pair m =
      let g = marked_entry entries e.pair m in
      let i = member_place entries g.0 g.1 in
      elim (cases_lt i.0 place) [
        | inl lt ↦ apart i.0 g.0 i.1 lt g.2
        | inr le ↦ false≢true (sym (below.later i.0 g.0 i.1 (omega (arith, le))) ∙ g.3)
      ]

  -- it is no reason of an earlier one
  no_reason : (i : ℕ) (g : Entry) → slice_get entries i ≡ Some g → i < place → Contains (written rows g.number g.spans.items) e.pair → ⊥
  no_reason i g is lt reason =
      let h = reason_entry all rows next are (unmarked g) (member_get all i (unmarked g) (among i g is)) e.pair reason in
      let once = pair_once all rows next are h.0 (unmarked e) h.1 here h.2 in
      let n = ap (λ (z : Entry). z.number) once in
      let less = entry_rises all are.rises i place (unmarked g) (unmarked e) lt (among i g is) (among place e at) in
      let before = h.3 in absurd (omega (arith, n, less, before))

  module _ (b : Bool) where
    abbrev marked : List Entry
    marked = set entries place (record e { mark = b })

    some : (q : Pair) → Contains (marked_pairs marked) q → Contains (marked_pairs entries) q ⊎ ((e.pair ≡ q) × (b ≡ true))
    some q m =
        let g = marked_entry marked q m in
        let i = member_place marked g.0 g.1 in
        elim (set_cases entries place (record e { mark = b }) i.0 g.0 i.1) [
          | inl f ↦ inr (ap (λ (z : Entry). z.pair) f.1 ∙ g.2, ap (λ (z : Entry). z.mark) f.1 ∙ g.3)
          | inr o ↦ inl (member_same (marked_pairs entries) g.0.pair q g.2 (entry_marked entries g.0 (member_get entries i.0 g.0 o.1) g.3))
        ]

    old : (q : Pair) → Contains (marked_pairs entries) q → Contains (marked_pairs marked) q
    old q m =
        let g = marked_entry entries q m in
        let i = member_place entries g.0 g.1 in
        let differs : place ≡ i.0 → ⊥ = λ f. false≢true (sym (below.later i.0 g.0 i.1 (omega (arith, f))) ∙ g.3) in
        member_same (marked_pairs marked) g.0.pair q g.2 (entry_marked marked g.0 (member_get marked i.0 g.0 (set_else entries place (record e { mark = b }) i.0 g.0 differs i.1)) g.3)

    there : b ≡ true → Contains (marked_pairs marked) e.pair
    there is = entry_marked marked (record e { mark = b }) (member_get marked place (record e { mark = b }) (set_there entries place e (record e { mark = b }) at)) is

    more_falls : (g : Entry) → FallsWith rows cid (marked_pairs entries) g → FallsWith rows cid (marked_pairs marked) g
    more_falls g falls = elim falls [ inl by ↦ inl by | inr p ↦ inr (p.0, p.1, old p.0 p.2) ]

    pub marked_next : start ≤ place → Tells b (FallsWith rows cid (marked_pairs entries) e) → IsMarkedBelow rows cid all start marked (place + 1)
    marked_next le tells = record {
      same = map_set unmarked entries place e (record e { mark = b }) at refl ∙ below.same;
      told = λ i g is lt. elim (set_cases entries place (record e { mark = b }) i g is) [
        | inl f ↦ subst (λ (z : Entry). Tells z.mark (FallsWith rows cid (marked_pairs marked) z)) f.1
            (tells_like b (FallsWith rows cid (marked_pairs entries) e) (FallsWith rows cid (marked_pairs marked) e) (λ is. more_falls e)
            (λ none falls. elim falls [
              | inl by ↦ inl by
              | inr p ↦ elim (some p.0 p.2) [ inl k ↦ inr (p.0, p.1, k) | inr f ↦ absurd (false≢true (sym none ∙ f.1)) ]
            ]) tells)
        | inr o ↦
            let n = o.0 in
            let low : i < place = lower i n lt in
            tells_like g.mark (FallsWith rows cid (marked_pairs entries) g) (FallsWith rows cid (marked_pairs marked) g) (λ is. more_falls g)
            (λ none falls. elim falls [
              | inl by ↦ inl by
              | inr p ↦ elim (some p.0 p.2) [
                | inl k ↦ inr (p.0, p.1, k)
                | inr f ↦ absurd (no_reason i g o.1 low (member_same (written rows g.number g.spans.items) p.0 e.pair (sym f.0) p.1))
              ]
            ]) (below.told i g o.1 low)
      ];
      later = λ i g is from. elim (set_cases entries place (record e { mark = b }) i g is) [
        | inl f ↦ absurd (let h = f.0 in omega (arith, h, from))
        | inr o ↦ below.later i g o.1 (omega (arith, from))
      ];
      first = λ i g is lt. elim (set_cases entries place (record e { mark = b }) i g is) [
        | inl f ↦ absurd (let h = f.0 in omega (arith, h, lt, le))
        | inr o ↦ below.first i g o.1 lt
      ];
    }
      where
        lower : (i : ℕ) → (place ≡ i → ⊥) → i < place + 1 → i < place
        lower i n lt = elim (cases_lt i place) [ inl l ↦ l | inr ge ↦ absurd (n (omega (arith, ge, lt))) ]

  pub one_more : IsOneMore (marked_pairs entries) e.pair (marked_pairs (set entries place (record e { mark = true })))
  one_more = record {
    some = λ q m. elim (some true q m) [ inl k ↦ inl k | inr f ↦ inr f.0 ];
    old = old true;
    there = there true refl;
  }

  -- what is back so far is what was removed before it and is present
  told_before : (now : List Row) (restored : List Restored) (before after : List DomainRow) → LacksExactly before (pairs_of all) → IsPutBack rows now before after restored (marked_pairs entries) → AreToldBefore now restored after e.number (marked_pairs entries)
  told_before now restored before after lacks put = record {
    spanned = put.spanned;
    ends = put.ends;
    removed = λ p m.
        let g = marked_entry entries p m in
        let i = member_place entries g.0 g.1 in
        let lt : i.0 < place = elim (cases_lt i.0 place) [
          | inl l ↦ l
          | inr le ↦ absurd (false≢true (sym (below.later i.0 g.0 i.1 (omega (arith, le))) ∙ g.3))
        ] in
        let found = are.found (unmarked g.0) (member_get all i.0 (unmarked g.0) (among i.0 g.0 i.1)) in (
          g.0.number,
          put.numbers.numbers p ∙ ap (number_at rows) (sym g.2) ∙ found,
          entry_rises all are.rises i.0 place (unmarked g.0) (unmarked e) lt (among i.0 g.0 i.1) (among place e at),
        );
    present = put.back.back;
    only = λ p k is lt there.
        let under = are.below (unmarked e) here in
        let most = are.most in
        let f = entry_numbered all rows next e.number p k are (sym (put.numbers.numbers p) ∙ is) lt (omega (arith, under, most)) in
        come_back before after (marked_pairs entries) (pairs_of all) p lacks put.back (member_same (pairs_of all) f.0.pair p f.2 (member_map (λ (z : Entry). z.pair) all f.0 f.1)) there;
  }

  pub told_now : (now rs : List Row) (restored list : List Restored) (before after : List DomainRow) → LacksExactly before (pairs_of all) → IsPutBack rows now before after restored (marked_pairs entries) → now ≡ rs → restored ≡ list
      → AreToldBefore rs list after e.number (marked_pairs entries)
  told_now now rs restored list before after lacks put a b =
      subst (λ rows. AreToldBefore rows list after e.number (marked_pairs entries)) a (subst (λ told. AreToldBefore now told after e.number (marked_pairs entries)) b (told_before now restored before after lacks put))

  -- one that stays without a mark
  pub marked_none : start ≤ place → (FallsWith rows cid (marked_pairs entries) e → ⊥) → IsMarkedBelow rows cid all start entries (place + 1)
  marked_none le none =
      subst (λ l. IsMarkedBelow rows cid all start l (place + 1)) (set_same entries place e (record e { mark = false }) at (unmarked_same e bare)) (marked_next false le none)

-- past the last place all marks are right
pub marked_all : (rows : List Row) (cid : Cid) (all : List Entry) (start : ℕ) (entries : List Entry) (place : ℕ) → IsMarkedBelow rows cid all start entries place → length entries ≤ place → AreMarkedBy rows cid entries
marked_all rows cid all start entries place below le e m =
    let i = member_place entries e m in
    let lt = slice_get_within entries i.0 e i.1 in
    let tells = below.told i.0 e i.1 (omega (arith, le, lt)) in
    (told_true e.mark (FallsWith rows cid (marked_pairs entries) e) tells, true_told e.mark (FallsWith rows cid (marked_pairs entries) e) tells)

pub none_before : (rows : List Row) (cid : Cid) (all : List Entry) (start : ℕ) (entries : List Entry) (place : ℕ) → IsMarkedBelow rows cid all start entries place → (e : Entry) → Contains (take start entries) e → e.mark ≡ false
none_before rows cid all start entries place below e m = let i = take_place start entries e m in below.first i.0 e i.2 i.1

pub marked_length : (rows : List Row) (cid : Cid) (all : List Entry) (start : ℕ) (entries : List Entry) (place : ℕ) → IsMarkedBelow rows cid all start entries place → length entries ≡ length all
marked_length rows cid all start entries place below = sym (length-map entries unmarked) ∙ ap length below.same

-- ---- entries with marks

get_unmarked : (es : List Entry) (i : ℕ) (d : Entry) → get_or (map unmarked es) i (unmarked d) ≡ unmarked (get_or es i d)
get_unmarked [] i d = refl
get_unmarked (e ∷ es) zero d = refl
get_unmarked (e ∷ es) (suc i) d = get_unmarked es i d

entered_also : (es : List Entry) (rows : List Row) (next : ℕ) → AreEntered (map unmarked es) rows next → AreEntered es rows next
entered_also es rows next are = record {
  rises = λ i j d lt within.
      let r : (get_or (map unmarked es) i (unmarked d)).number < (get_or (map unmarked es) j (unmarked d)).number = are.rises i j (unmarked d) lt (let e = length-map es unmarked in omega (arith, within, e)) in
      let x = ap (λ (z : Entry). z.number) (get_unmarked es i d) in
      let y = ap (λ (z : Entry). z.number) (get_unmarked es j d) in omega (arith, r, x, y);
  below = λ e m. are.below (unmarked e) (member_map unmarked es e m);
  most = are.most;
  formed = are.formed;
  found = λ e m. are.found (unmarked e) (member_map unmarked es e m);
  only = λ p k is. elim (are.only p k is) [
    | inl none ↦ inl none
    | inr f ↦
        let g = member_unmap unmarked es f.0 f.1 in
        inr (g.0, g.1, ap (λ (z : Entry). z.pair) g.2 ∙ f.2, ap (λ (z : Entry). z.number) g.2 ∙ f.3)
  ];
  countable = λ e m. are.countable (unmarked e) (member_map unmarked es e m);
}

-- marks are no part of what is entered
pub entered_marked : (all es : List Entry) (rows : List Row) (next : ℕ) → map unmarked es ≡ all → AreEntered all rows next → AreEntered es rows next
entered_marked all es rows next same are = entered_also es rows next (subst (λ l. AreEntered l rows next) (sym same) are)

-- nor of the log
pub log_unmarked : (rows : List Row) (es : List Entry) → log_of rows (map unmarked es) ≡ log_of rows es
log_unmarked rows [] = refl
log_unmarked rows (e ∷ es) = ap (λ l. removal_of rows e ∷ l) (log_unmarked rows es)

-- the entry of a marked pair has the mark
pub pair_marked : (entries : List Entry) (rows : List Row) (next : ℕ) → AreEntered entries rows next → (e : Entry) → Contains entries e → Contains (marked_pairs entries) e.pair → e.mark ≡ true
pair_marked entries rows next are e m marked =
    let f = marked_entry entries e.pair marked in
    ap (λ (z : Entry). z.mark) (sym (pair_once entries rows next are f.0 e f.1 m f.2)) ∙ f.3

-- ---- marks that are taken off

pub record AreBareBelow (all entries : List Entry) (place : ℕ) : Type 0 where
  pub same : map unmarked entries ≡ map unmarked all
  pub none : (i : ℕ) (e : Entry) → slice_get entries i ≡ Some e → i < place → e.mark ≡ false

pub bare_next : (all entries : List Entry) (place : ℕ) (e : Entry) → slice_get entries place ≡ Some e → AreBareBelow all entries place → AreBareBelow all (set entries place (record e { mark = false })) (place + 1)
bare_next all entries place e at below = record {
  same = map_set unmarked entries place e (record e { mark = false }) at refl ∙ below.same;
  none = λ i g is lt. elim (set_cases entries place (record e { mark = false }) i g is) [
    | inl f ↦ sym (ap (λ (z : Entry). z.mark) f.1)
    | inr o ↦ below.none i g o.1 (lower i o.0 lt)
  ];
}
  where
    lower : (i : ℕ) → (place ≡ i → ⊥) → i < place + 1 → i < place
    lower i n lt = elim (cases_lt i place) [ inl l ↦ l | inr ge ↦ absurd (n (omega (arith, ge, lt))) ]

pub bare_length : (all entries : List Entry) (place : ℕ) → AreBareBelow all entries place → length entries ≡ length all
bare_length all entries place below = sym (length-map entries unmarked) ∙ ap length below.same ∙ length-map all unmarked

pub bare_all : (all entries : List Entry) (place : ℕ) → AreBareBelow all entries place → length entries ≤ place → entries ≡ map unmarked all
bare_all all entries place below le =
    sym (all_unmarked entries (λ e m. let i = member_place entries e m in let lt = slice_get_within entries i.0 e i.1 in below.none i.0 e i.1 (omega (arith, le, lt)))) ∙ below.same
