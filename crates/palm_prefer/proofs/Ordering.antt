-- The active constraints with a weight, in order.
use Rattle.std.proofs.Common.{◌≡◌, ◌≢◌, ◌<◌, ℕ, zero, suc, Bool, ◌&&◌, not, true, false, List, [], ◌∷◌, ◌++◌, map, get_or, length, slice_get, Some, All, AllPairs, Contains, Ordering, nat_cmp, is_lt, eqb, eq-eqb, eqb-true, ◌⊎◌, inl, inr, refl, sym, ap, ◌∙◌, subst, arith}
use Rattle.std.specs.Cmp.{IsTotalOrder}
use Rattle.std.specs.List.Sorted.{IsPermutation, IsSortedBy}
use Rattle.std.specs.Ordering.{ordering_then}
use Rattle.std.proofs.lemmas.Bool.{false≢true}
use Rattle.std.proofs.lemmas.Bool.Decides.{Decides-eqb}
use Rattle.std.proofs.lemmas.Cmp.{back_total, by_ranked, nat_cmp_total, on_total, ranked, then_total}
use Rattle.std.proofs.lemmas.List.Quantifiers.{all_pairs_push}
use Rattle.std.proofs.lemmas.Map.Keys.{IsDistinct-IsPermutation}
use Rattle.std.proofs.lemmas.Map.Made.{AllPairs-from_IsDistinct, IsDistinct-from_AllPairs}
use Rattle.std.proofs.lemmas.List.{get_or-map, length-map}
use Rattle.std.proofs.lemmas.List.Elements.{All-weaker, Contains-get_or, Contains-push_cases, Contains-append_left, Contains-push}
use Rattle.std.proofs.lemmas.List.Sorted.{Contains-permutation, IsPermutation-map, IsPermutation-sym, ranks_by, sorted_far}
use Rattle.std.proofs.lemmas.Option.{get_or_from_slice_get, slice_get_within}
use Rattle.palm_base.proofs.cited.Members.{all_members, member_get, member_map, member_nil, member_place, member_same, member_unmap}
use Rattle.palm_book.specs.Book.{Contents, active_of}
use Rattle.palm_book.specs.declared.book.BookCon.{BookCon}
use Rattle.palm_reduce.specs.Kept.{AreKept, IsKeptAt}
use Rattle.palm_reduce.specs.Marked.{marked}
use Rattle.palm_reduce.specs.declared.kinds.Kinds.{Kinds}
use Rattle.palm_prefer.specs.Preferred.{AreWeights, GoesBefore, IsOrder, IsSoft, has_weight, hard, is_hard, weight_of}
use Rattle.palm_prefer.specs.Softs.{AreOrdered, AreSofts, IsSoftFor}
use Rattle.palm_prefer.specs.Walked.{con_at, cons_at}
use Rattle.palm_prefer.specs.declared.order.Soft.{Soft}
use Rattle.palm_prefer.specs.declared.weights.Weight.{Weight}
use Rattle.palm_prefer.proofs.Weighing.{Rising, hard_marked, number_before, same_con, weighed_soft, weighs, weight_found, weight_there}

-- ---- one weight after another

pub softs_none : (cs : List BookCon) → AreSofts cs [] []
softs_none cs = record {
  sound = λ s m. absurd (member_nil s m);
  whole = λ w c m. absurd (member_nil w m);
  apart = λ i j d before within. absurd (omega (arith, within));
}

-- a weight that no active constraint has
pub softs_same : (cs : List BookCon) (ws : List Weight) (w : Weight) (softs : List Soft) → AreSofts cs ws softs → ((c : BookCon) → Contains cs c → c.number ≡ w.number → c.active ≡ true → ⊥) → AreSofts cs (ws ++ w ∷ []) softs
softs_same cs ws w softs are none = record {
  sound = λ s m. let r = are.sound s m in (r.0, Contains-append_left ws (w ∷ []) r.0 r.1, r.2);
  whole = λ v c m among e on. elim (Contains-push_cases ws w v m) [
    | inl k ↦ are.whole v c k among e on
    | inr s ↦ absurd (none c among (e ∙ sym (ap (λ (z : Weight). z.number) s)) on)
  ];
  apart = are.apart;
}

-- a weight that an active constraint has
pub softs_more : (cs : List BookCon) (ws : List Weight) (w : Weight) (softs : List Soft) (soft : Soft) → AreSofts cs ws softs → ((v : Weight) → Contains ws v → v.number ≡ w.number → ⊥) → IsSoftFor cs w soft → AreSofts cs (ws ++ w ∷ []) (softs ++ soft ∷ [])
softs_more cs ws w softs soft are different is = record {
  sound = λ s m. elim (Contains-push_cases softs soft s m) [
    | inl k ↦ let r = are.sound s k in (r.0, Contains-append_left ws (w ∷ []) r.0 r.1, r.2)
    | inr e ↦ (w, Contains-push ws w, subst (IsSoftFor cs w) e is)
  ];
  whole = λ v c m among e on. elim (Contains-push_cases ws w v m) [
    | inl k ↦ let r = are.whole v c k among e on in (r.0, Contains-append_left softs (soft ∷ []) r.0 r.1, r.2)
    | inr s ↦ (soft, Contains-push softs soft, subst (λ (z : Weight). IsSoftFor cs z soft) s is)
  ];
  apart = all_pairs_push (λ (s t : Soft). s.place ≢ t.place) softs soft are.apart (λ k d lt e.
      let r = are.sound (get_or softs k d) (Contains-get_or softs k d lt) in
      different r.0 r.1 (sym r.2.numbered ∙ ap (λ (z : BookCon). z.number) (same_at (get_or softs k d).place e r.2.con r.2.at) ∙ is.numbered));
}
  where
    same_at : (i : ℕ) → i ≡ soft.place → (c : BookCon) → slice_get cs i ≡ Some c → c ≡ is.con
    same_at i e c at = sym (get_or_from_slice_get cs i c c at) ∙ get_or_from_slice_get cs i is.con c (subst (λ k. slice_get cs k ≡ Some is.con) (sym e) is.at)

-- ---- sorted

eqb_flips : (x y : ℕ) → eqb x y ≡ eqb y x
eqb_flips x y = same (eqb x y) (eqb y x) (λ t. eq-eqb y x (sym (eqb-true x y t))) (λ t. eq-eqb x y (sym (eqb-true y x t)))
  where
    same : (a b : Bool) → (a ≡ true → b ≡ true) → (b ≡ true → a ≡ true) → a ≡ b
    same true b f g = sym (f refl)
    same false true f g = g refl
    same false false f g = refl

abbrev places_of : List Soft → List ℕ
places_of softs = map (λ (s : Soft). s.place) softs

none : Soft
none = record { weight = 0; place = 0 }

to_places : (softs : List Soft) → AllPairs (λ (s t : Soft). s.place ≢ t.place) softs → AllPairs (λ (p q : ℕ). p ≢ q) (places_of softs)
to_places softs apart i j d before within e =
    let lt : j < length softs = subst (λ n. j < n) (length-map softs (λ (s : Soft). s.place)) within in
    apart i j none before lt
    (sym (get_or-map (λ (s : Soft). s.place) softs i none d (omega (arith, before, lt))) ∙ e ∙ get_or-map (λ (s : Soft). s.place) softs j none d lt)

from_places : (softs : List Soft) → AllPairs (λ (p q : ℕ). p ≢ q) (places_of softs) → AllPairs (λ (s t : Soft). s.place ≢ t.place) softs
from_places softs apart i j d before lt e =
    apart i j 0 before (subst (λ n. j < n) (sym (length-map softs (λ (s : Soft). s.place))) lt)
    (get_or-map (λ (s : Soft). s.place) softs i d 0 (omega (arith, before, lt)) ∙ e ∙ sym (get_or-map (λ (s : Soft). s.place) softs j d 0 lt))

apart_moved : (softs moved : List Soft) → IsPermutation softs moved → AllPairs (λ (s t : Soft). s.place ≢ t.place) softs → AllPairs (λ (s t : Soft). s.place ≢ t.place) moved
apart_moved softs moved is apart =
    from_places moved (AllPairs-from_IsDistinct Decides-eqb (places_of moved)
    (IsDistinct-IsPermutation eqb eqb_flips (places_of softs) (places_of moved) (IsPermutation-map (λ (s : Soft). s.place) softs moved is)
    (IsDistinct-from_AllPairs Decides-eqb (places_of softs) (to_places softs apart))))

-- the order by falling weight and rising place
abbrev pub by_weight : Soft → Soft → Ordering
by_weight s t = ordering_then (nat_cmp t.weight s.weight) (nat_cmp s.place t.place)

by_weight_total : IsTotalOrder by_weight
by_weight_total = then_total (back_total (on_total (λ (s : Soft). s.weight) nat_cmp_total)) (on_total (λ (s : Soft). s.place) nat_cmp_total)

falls : (s t : Soft) → s.place ≢ t.place → is_lt (by_weight t s) ≡ false → (t.weight < s.weight) ⊎ ((s.weight ≡ t.weight) × (s.place < t.place))
falls s t apart e =
    by_ranked (s.weight < t.weight) (s.weight ≡ t.weight) (t.weight < s.weight) (nat_cmp s.weight t.weight) (ranked s.weight t.weight (nat_cmp s.weight t.weight) refl)
    (λ is lt. absurd (false≢true (sym e ∙ ap (λ (o : Ordering). is_lt (ordering_then o (nat_cmp t.place s.place))) is)))
    (λ is same.
    by_ranked (t.place < s.place) (t.place ≡ s.place) (s.place < t.place) (nat_cmp t.place s.place) (ranked t.place s.place (nat_cmp t.place s.place) refl)
    (λ too lt. absurd (false≢true (sym e ∙ ap (λ (o : Ordering). is_lt (ordering_then o (nat_cmp t.place s.place))) is ∙ ap is_lt too)))
    (λ too same. absurd (apart (sym same)))
    (λ too lt. inr (same, lt)))
    (λ is lt. inl lt)

pub ordered_now : (cs : List BookCon) (ws : List Weight) (softs sorted : List Soft) → AreSofts cs ws softs → IsPermutation softs sorted → IsSortedBy (λ (s t : Soft). is_lt (by_weight s t)) sorted → AreOrdered cs ws sorted
ordered_now cs ws softs sorted are moved up =
    let apart = apart_moved softs sorted moved are.apart in
    record {
      are = record {
        sound = λ s m. are.sound s (Contains-permutation sorted softs s (IsPermutation-sym softs sorted moved) m);
        whole = λ w c m among e on. let r = are.whole w c m among e on in (r.0, Contains-permutation softs sorted r.0 moved r.1, r.2);
        apart = apart;
      };
      falling = λ i j d before within.
          falls (get_or sorted i d) (get_or sorted j d) (apart i j d before within)
          (sorted_far (λ (s t : Soft). is_lt (by_weight s t)) (ranks_by by_weight_total (λ (s : Soft). s)) sorted up i j d (omega (arith, before)) within);
    }

-- ---- the constraints themselves

pub con_there : (cs : List BookCon) (w : Weight) (soft : Soft) (is : IsSoftFor cs w soft) → con_at cs soft.place ≡ is.con
con_there cs w soft is = get_or_from_slice_get cs soft.place is.con _ is.at

pub is_order : (book : Contents) → Rising book.constraints → (ws : List Weight) → AreWeights book ws → (softs : List Soft) → AreOrdered book.constraints ws softs → IsOrder book ws (cons_at book.constraints softs)
is_order book rising ws good softs ordered = record {
  each = λ c. (
    λ m.
        let r = member_unmap (λ (s : Soft). con_at book.constraints s.place) softs c m in
        let f = ordered.are.sound r.0 r.1 in
        let e : f.2.con ≡ c = sym (con_there book.constraints f.0 r.0 f.2) ∙ r.2 in
        subst (IsSoft book ws) e (record {
          among = member_get book.constraints r.0.place f.2.con f.2.at;
          active = f.2.active;
          weighed = weight_there ws f.2.con f.0 f.1 (sym f.2.numbered);
        }),
    λ is.
        let w = weight_found ws c is.weighed in
        let r = ordered.are.whole w.0 c w.1 is.among (sym w.2) is.active in
        let p = member_place book.constraints c is.among in
        member_same (cons_at book.constraints softs) (con_at book.constraints r.0.place) c
        (con_there book.constraints w.0 r.0 r.2 ∙ same_con book.constraints rising r.0.place p.0 r.2.con c r.2.at p.1 (r.2.numbered ∙ w.2))
        (member_map (λ (s : Soft). con_at book.constraints s.place) softs r.0 r.1),
  );
  falling = λ i j d before within.
      let lt : j < length softs = subst (λ n. j < n) (length-map softs (λ (s : Soft). con_at book.constraints s.place)) within in
      let s = get_or softs i none in
      let t = get_or softs j none in
      let f = ordered.are.sound s (Contains-get_or softs i none (omega (arith, before, lt))) in
      let g = ordered.are.sound t (Contains-get_or softs j none lt) in
      subst (λ (z : BookCon). GoesBefore ws z (get_or (cons_at book.constraints softs) j d)) (sym (get_or-map (λ (s : Soft). con_at book.constraints s.place) softs i none d (omega (arith, before, lt)) ∙ con_there book.constraints f.0 s f.2))
      (subst (λ (z : BookCon). GoesBefore ws f.2.con z) (sym (get_or-map (λ (s : Soft). con_at book.constraints s.place) softs j none d lt ∙ con_there book.constraints g.0 t g.2))
      (goes s t f.0 g.0 f.1 g.1 f.2 g.2 (ordered.falling i j none before lt)));
}
  where
    weight_at : (s : Soft) (w : Weight) → Contains ws w → (is : IsSoftFor book.constraints w s) → weight_of ws is.con ≡ s.weight
    weight_at s w m is = weighs ws good.different is.con w m (sym is.numbered) ∙ sym is.weighs

    goes : (s t : Soft) (v w : Weight) → Contains ws v → Contains ws w → (f : IsSoftFor book.constraints v s) (g : IsSoftFor book.constraints w t) → (t.weight < s.weight) ⊎ ((s.weight ≡ t.weight) × (s.place < t.place)) → GoesBefore ws f.con g.con
    goes s t v w m n f g order = elim order [
      | inl lt ↦ inl (subst (λ k. k < weight_of ws f.con) (sym (weight_at t w n g)) (subst (λ k. t.weight < k) (sym (weight_at s v m f)) lt))
      | inr both ↦ inr (weight_at s v m f ∙ both.0 ∙ sym (weight_at t w n g), number_before book.constraints rising s.place t.place f.con g.con f.at g.at both.1)
    ]

-- ---- what a walk over them asks

pub softs_within : (cs : List BookCon) (ws : List Weight) (softs : List Soft) → AreSofts cs ws softs → All (λ s. s.place < length cs) softs
softs_within cs ws softs are = all_members (λ (s : Soft). s.place < length cs) softs (λ s m. let r = are.sound s m in slice_get_within cs s.place r.2.con r.2.at)

pub softs_unmarked : (cs : List BookCon) (ws : List Weight) (softs : List Soft) (marks : List Bool) → AreSofts cs ws softs → marks ≡ map (is_hard ws) cs → All (λ s. get_or marks s.place false ≡ false) softs
softs_unmarked cs ws softs marks are is = all_members (λ (s : Soft). get_or marks s.place false ≡ false) softs (λ s m.
    let r = are.sound s m in
    let con = r.2.con in
    ap (λ (z : List Bool). get_or z s.place false) is
    ∙ get_or-map (is_hard ws) cs s.place con false (slice_get_within cs s.place con r.2.at)
    ∙ ap (is_hard ws) (get_or_from_slice_get cs s.place con con r.2.at)
    ∙ weighed_soft ws con (weight_there ws con r.0 r.1 (sym r.2.numbered)))

-- each stands where a constraint is active
pub softs_active : (cs : List BookCon) (ws : List Weight) (softs : List Soft) → AreSofts cs ws softs → All (λ s. get_or (map (λ (c : BookCon). c.active) cs) s.place false ≡ true) softs
softs_active cs ws softs are = all_members (λ (s : Soft). get_or (map (λ (c : BookCon). c.active) cs) s.place false ≡ true) softs (λ s m.
    let r = are.sound s m in
    let con = r.2.con in
    get_or-map (λ (c : BookCon). c.active) cs s.place con false (slice_get_within cs s.place con r.2.at)
    ∙ ap (λ (c : BookCon). c.active) (get_or_from_slice_get cs s.place con con r.2.at)
    ∙ r.2.active)

-- those without a weight are among the active ones
hard_active : (ws : List Weight) (cs : List BookCon) (place : ℕ) → get_or (map (is_hard ws) cs) place false ≡ true → get_or (map (λ (c : BookCon). c.active) cs) place false ≡ true
hard_active ws [] place on = absurd (false≢true on)
hard_active ws (c ∷ cs) zero on = both_left c.active (not (has_weight ws c)) on
  where
    both_left : (a b : Bool) → (a && b) ≡ true → a ≡ true
    both_left true b e = refl
    both_left false b e = e
hard_active ws (c ∷ cs) (suc place) on = hard_active ws cs place on

pub hard_kept : (book : Contents) (ws : List Weight) (kinds : Kinds) (marks : List Bool) → marks ≡ map (is_hard ws) book.constraints → AreKept book (map (λ (c : BookCon). c.active) book.constraints) kinds → AreKept book marks kinds
hard_kept book ws kinds marks is kept place on = kept place (hard_active ws book.constraints place (subst (λ (z : List Bool). get_or z place false ≡ true) is on))

pub softs_kept : (book : Contents) (ws : List Weight) (kinds : Kinds) (softs : List Soft) → AreSofts book.constraints ws softs → AreKept book (map (λ (c : BookCon). c.active) book.constraints) kinds → All (λ s. IsKeptAt book s.place kinds) softs
softs_kept book ws kinds softs are kept =
    All-weaker (λ (s : Soft). get_or (map (λ (c : BookCon). c.active) book.constraints) s.place false ≡ true) (λ (s : Soft). IsKeptAt book s.place kinds) (λ s on. kept s.place on) softs
    (softs_active book.constraints ws softs are)

-- the marked ones are those without a weight
pub hard_book : (book : Contents) (ws : List Weight) (marks : List Bool) → marks ≡ map (is_hard ws) book.constraints → active_of (marked book marks) ≡ hard book ws
hard_book book ws marks is = ap (λ (z : List Bool). active_of (marked book z)) is ∙ hard_marked book.constraints ws
