-- The reasons that spans stand for: which pairs they are, that they are the same where the rows say the same, and that logs of them are linked.
use Rattle.std.proofs.Common.{◌≡◌, ℕ, ℤ, zero, suc, ◌<◌, ◌≤◌, ◌≤ℤ◌, Bool, true, false, ◌&&◌, int_le, nat_lt, List, [], ◌∷◌, ◌++◌, length, map, get_or, Contains, All, IsSomeAnd, Option, Some, None, slice_get, inl, inr, refl, sym, ap, ◌∙◌, subst, arith}
use Rattle.std.specs.List.{AllPairs}
use Rattle.std.specs.List.Sorted.{IsPartitionedBy}
use Rattle.std.proofs.lemmas.Bool.{cases_Bool, cases_lt, ltb-false, ltb-true, le-ltb, lt-ltb}
use Rattle.std.proofs.lemmas.Int.{ints}
use Rattle.std.proofs.lemmas.Option.{slice_get_within, get_or_from_slice_get}
use Rattle.std.proofs.lemmas.List.{append_assoc, map-append}
use Rattle.std.proofs.lemmas.List.Elements.{All-contains, Contains-append_left}
use Rattle.palm_base.specs.Ascending.{Ascends}
use Rattle.palm_base.specs.Order.{IsPartedAt}
use Rattle.palm_base.specs.declared.terms.Pair.{Pair}
use Rattle.palm_base.proofs.cited.Members.{filter_member, flat_map_member, member_filter, member_flat_map, member_get, member_here, member_map, member_nil, member_place, member_same, member_there, member_unmap}
use Rattle.palm_domain.proofs.cited.Ascending.{same_ascending}
use Rattle.palm_domain.proofs.cited.Values.{Ascends-filter}
use Rattle.palm_model.specs.Log.{Removal, log_pairs}
use Rattle.palm_events.proofs.cited.Logs.{pair_logged}
use Rattle.palm_explain.specs.declared.entry.Entry.{Entry}
use Rattle.palm_explain.specs.declared.rows.Row.{Row}
use Rattle.palm_explain.specs.declared.rows.TheConstants.{NO_NUMBER}
use Rattle.palm_explain.specs.declared.spans.Span.{Span}
use Rattle.palm_explain.specs.Entries.{AreEntered, log_of, pairs_with, removal_of, row_span, span_pairs, span_values, written}
use Rattle.palm_explain.specs.Explanations.{AreLinked, IsLinked}
use Rattle.palm_explain.specs.Rows.{AreFormedRows, IsFormedRow, is_less, number_at, number_in, row_number}
use Rattle.palm_explain.proofs.RowNumbers.{number_value}

-- ---- places of lists

pub some_same : {X : Type 0} (x y : X) → Some x ≡ Some y → x ≡ y
some_same x y e = cc

pub get_behind : {X : Type 0} (xs : List X) (y : X) (ys : List X) → slice_get (xs ++ y ∷ ys) (length xs) ≡ Some y
get_behind [] y ys = refl
get_behind (x ∷ xs) y ys = get_behind xs y ys

pub get_first : {X : Type 0} (xs ys : List X) (i : ℕ) (x : X) → slice_get xs i ≡ Some x → slice_get (xs ++ ys) i ≡ Some x
get_first [] ys i x e = cc
get_first (y ∷ xs) ys zero x e = e
get_first (y ∷ xs) ys (suc i) x e = get_first xs ys i x e

pub get_left : {X : Type 0} (xs ys : List X) (i : ℕ) (x : X) → i < length xs → slice_get (xs ++ ys) i ≡ Some x → slice_get xs i ≡ Some x
get_left [] ys i x lt e = absurd (omega (arith, lt))
get_left (y ∷ xs) ys zero x lt e = e
get_left (y ∷ xs) ys (suc i) x lt e = get_left xs ys i x (omega (arith, lt)) e

pub map_place : {X Y : Type 0} (f : X → Y) (xs : List X) (i : ℕ) (x : X) → slice_get xs i ≡ Some x → slice_get (map f xs) i ≡ Some (f x)
map_place f [] i x e = cc
map_place f (y ∷ xs) zero x e = ap (λ z. Some (f z)) (some_same y x e)
map_place f (y ∷ xs) (suc i) x e = map_place f xs i x e

pub place_unmap : {X Y : Type 0} (f : X → Y) (xs : List X) (i : ℕ) (y : Y) → slice_get (map f xs) i ≡ Some y → (x : X) × (slice_get xs i ≡ Some x) × (f x ≡ y)
place_unmap f [] i y e = cc
place_unmap f (x ∷ xs) zero y e = (x, refl, some_same (f x) y e)
place_unmap f (x ∷ xs) (suc i) y e = place_unmap f xs i y e

-- ---- tests

both_true : (a b : Bool) → (a && b) ≡ true → (a ≡ true) × (b ≡ true)
both_true true b e = (refl, e)
both_true false b e = cc

true_both : (a b : Bool) → a ≡ true → b ≡ true → (a && b) ≡ true
true_both true b e f = f
true_both false b e f = cc

pub less_number : (o : Option ℕ) (n : ℕ) → is_less o n ≡ true → (k : ℕ) × (o ≡ Some k) × (k < n)
less_number None n e = cc
less_number (Some k) n e = (k, refl, ltb-true k n e)

pub number_less : (o : Option ℕ) (k n : ℕ) → o ≡ Some k → k < n → is_less o n ≡ true
number_less o k n is lt = ap (λ q. is_less q n) is ∙ lt-ltb k n lt

-- ---- the values of a span

-- the value stands between the ends, and was removed before the number
pub record IsSpanValue (rows : List Row) (n : ℕ) (s : Span) (v : ℤ) : Type 0 where
  pub from : s.low ≤ℤ v
  pub to : v ≤ℤ s.high
  pub number : ℕ
  pub stands : number_at rows (record { var = s.var; value = v }) ≡ Some number
  pub before : number < n

in_row : (r : Option Row) (n : ℕ) (low high v : ℤ) → Contains (row_span r n low high) v → (low ≤ℤ v) × (v ≤ℤ high) × (k : ℕ) × (row_number r v ≡ Some k) × (k < n)
in_row None n low high v m = absurd (member_nil v m)
in_row (Some r) n low high v m =
    let f = filter_member (λ w. int_le low w && (int_le w high && is_less (number_in r.values.items r.numbers.items w) n)) r.values.items v m in
    let one = both_true (int_le low v) (int_le v high && is_less (number_in r.values.items r.numbers.items v) n) f.1 in
    let two = both_true (int_le v high) (is_less (number_in r.values.items r.numbers.items v) n) one.1 in
    let k = less_number (number_in r.values.items r.numbers.items v) n two.1 in
    (le_of low v one.0, le_of v high two.0, k.0, k.1, k.2)
  where
    le_of : (a b : ℤ) → int_le a b ≡ true → a ≤ℤ b
    le_of a b e = omega (arith, ints, e)

row_in : (r : Option Row) (n : ℕ) (low high v : ℤ) (k : ℕ) → low ≤ℤ v → v ≤ℤ high → row_number r v ≡ Some k → k < n → Contains (row_span r n low high) v
row_in None n low high v k from to is lt = cc
row_in (Some r) n low high v k from to is lt =
    member_filter (λ w. int_le low w && (int_le w high && is_less (number_in r.values.items r.numbers.items w) n)) r.values.items v (number_value r.values.items r.numbers.items v k is)
    (true_both (int_le low v) (int_le v high && is_less (number_in r.values.items r.numbers.items v) n) (of_le low v from)
    (true_both (int_le v high) (is_less (number_in r.values.items r.numbers.items v) n) (of_le v high to) (number_less (number_in r.values.items r.numbers.items v) k n is lt)))
  where
    of_le : (a b : ℤ) → a ≤ℤ b → int_le a b ≡ true
    of_le a b le = elim (cases_Bool (int_le a b)) [ inl t ↦ t | inr f ↦ absurd (omega (arith, ints, le, f)) ]

pub span_value : (rows : List Row) (n : ℕ) (s : Span) (v : ℤ) → Contains (span_values rows n s) v → IsSpanValue rows n s v
span_value rows n s v m =
    let r = in_row (slice_get rows s.var) n s.low s.high v m in record { from = r.0; to = r.1; number = r.2; stands = r.3; before = r.4 }

pub value_span : (rows : List Row) (n : ℕ) (s : Span) (v : ℤ) → IsSpanValue rows n s v → Contains (span_values rows n s) v
value_span rows n s v is = row_in (slice_get rows s.var) n s.low s.high v is.number is.from is.to is.stands is.before

row_ascends : (rows : List Row) (x n : ℕ) (low high : ℤ) → AreFormedRows rows → Ascends (row_span (slice_get rows x) n low high)
row_ascends [] x n low high formed = tt
row_ascends (r ∷ rows) zero n low high formed = Ascends-filter (λ w. int_le low w && (int_le w high && is_less (number_in r.values.items r.numbers.items w) n)) r.values.items (All-contains IsFormedRow (r ∷ rows) r formed (member_here r rows)).ascends
row_ascends (r ∷ rows) (suc x) n low high formed = row_ascends rows x n low high (rest formed)
  where
    rest : All IsFormedRow (r ∷ rows) → All IsFormedRow rows
    rest all i d lt = all (suc i) d (omega (arith, lt))

pub span_ascends : (rows : List Row) (n : ℕ) (s : Span) → AreFormedRows rows → Ascends (span_values rows n s)
span_ascends rows n s formed = row_ascends rows s.var n s.low s.high formed

-- ---- other rows

-- the one rows know each removal before the number that the other ones know
abbrev pub KnowsBefore : List Row → List Row → ℕ → Span → Type 0
KnowsBefore rows more n s = (v : ℤ) (k : ℕ) → s.low ≤ℤ v → v ≤ℤ s.high → number_at rows (record { var = s.var; value = v }) ≡ Some k → k < n → number_at more (record { var = s.var; value = v }) ≡ Some k

pub span_same : (rows more : List Row) (n : ℕ) (s : Span) → AreFormedRows rows → AreFormedRows more → KnowsBefore rows more n s → KnowsBefore more rows n s → span_values more n s ≡ span_values rows n s
span_same rows more n s one two to back =
    same_ascending (span_values more n s) (span_values rows n s) (span_ascends more n s two) (span_ascends rows n s one)
    (λ v m. let is = span_value more n s v m in value_span rows n s v (record { from = is.from; to = is.to; number = is.number; stands = back v is.number is.from is.to is.stands is.before; before = is.before }))
    (λ v m. let is = span_value rows n s v m in value_span more n s v (record { from = is.from; to = is.to; number = is.number; stands = to v is.number is.from is.to is.stands is.before; before = is.before }))

pub written_same : (rows more : List Row) (n : ℕ) (spans : List Span) → ((s : Span) → Contains spans s → span_values more n s ≡ span_values rows n s) → written more n spans ≡ written rows n spans
written_same rows more n [] same = refl
written_same rows more n (s ∷ spans) same =
    ap (λ vs. pairs_with s.var vs ++ written more n spans) (same s (member_here s spans)) ∙ ap (λ ps. span_pairs rows n s ++ ps) (written_same rows more n spans (λ t m. same t (member_there s spans t m)))

-- ---- the pairs

pub written_number : (rows : List Row) (n : ℕ) (spans : List Span) (p : Pair) → Contains (written rows n spans) p → (s : Span) × Contains spans s × (s.var ≡ p.var) × IsSpanValue rows n s p.value × ((k : ℕ) × (number_at rows p ≡ Some k) × (k < n))
written_number rows n spans p m =
    let f = flat_map_member (span_pairs rows n) spans p m in
    let s = f.0 in
    let u = member_unmap (λ v. let q : Pair = record { var = s.var; value = v } in q) (span_values rows n s) p f.2 in
    let made : Pair = record { var = s.var; value = u.0 } in
    let same : made ≡ p = u.2 in
    let is = span_value rows n s u.0 u.1 in
    (s, f.1, ap (λ (q : Pair). q.var) same, subst (IsSpanValue rows n s) (ap (λ (q : Pair). q.value) same) is, (is.number, subst (λ q. number_at rows q ≡ Some is.number) same is.stands, is.before))

pub number_written : (rows : List Row) (n : ℕ) (spans : List Span) (s : Span) (p : Pair) → Contains spans s → s.var ≡ p.var → IsSpanValue rows n s p.value → Contains (written rows n spans) p
number_written rows n spans s p m same is =
    member_flat_map (span_pairs rows n) spans s p m
    (member_same (span_pairs rows n s) (record { var = s.var; value = p.value }) p (λ i. record { var = same i; value = p.value })
    (member_map (λ v. let q : Pair = record { var = s.var; value = v } in q) (span_values rows n s) p.value (value_span rows n s p.value is)))

-- ---- entries

-- a removed pair has an entry
pub entry_numbered : (entries : List Entry) (rows : List Row) (next n : ℕ) (p : Pair) (k : ℕ) → AreEntered entries rows next → number_at rows p ≡ Some k → k < n → n ≤ NO_NUMBER → (e : Entry) × Contains entries e × (e.pair ≡ p) × (e.number ≡ k)
entry_numbered entries rows next n p k are is lt most = elim (are.only p k is) [
  | inl none ↦ absurd (omega (arith, none, lt, most))
  | inr e ↦ e
]

-- entries of one pair, and of one number, are one
pub entry_places : (entries : List Entry) → AllPairs (λ a b. a.number < b.number) entries → (i j : ℕ) (e f : Entry) → slice_get entries i ≡ Some e → slice_get entries j ≡ Some f → e.number < f.number → i < j
entry_places entries rises i j e f one two lt = elim (cases_lt i j) [
  | inl l ↦ l
  | inr ge ↦
      let a = get_or_from_slice_get entries i e e one in
      let b = get_or_from_slice_get entries j f e two in
      elim (cases_lt j i) [
        | inl l ↦
            let r : (get_or entries j e).number < (get_or entries i e).number = rises j i e l (slice_get_within entries i e one) in
            let x = ap (λ (z : Entry). z.number) a in
            let y = ap (λ (z : Entry). z.number) b in absurd (omega (arith, r, x, y, lt))
        | inr le ↦
            let same : i ≡ j = omega arith in
            let x = ap (λ (z : Entry). z.number) a in
            let y = ap (λ (z : Entry). z.number) (ap (λ k. get_or entries k e) same ∙ b) in absurd (omega (arith, x, y, lt))
      ]
]

pub entry_rises : (entries : List Entry) → AllPairs (λ a b. a.number < b.number) entries → (i j : ℕ) (e f : Entry) → i < j → slice_get entries i ≡ Some e → slice_get entries j ≡ Some f → e.number < f.number
entry_rises entries rises i j e f lt one two =
    let r : (get_or entries i e).number < (get_or entries j e).number = rises i j e lt (slice_get_within entries j f two) in
    let x = ap (λ (z : Entry). z.number) (get_or_from_slice_get entries i e e one) in
    let y = ap (λ (z : Entry). z.number) (get_or_from_slice_get entries j f e two) in omega (arith, r, x, y)

pub entry_once : (entries : List Entry) → AllPairs (λ a b. a.number < b.number) entries → (e f : Entry) → Contains entries e → Contains entries f → e.number ≡ f.number → e ≡ f
entry_once entries rises e f m n same =
    let i = member_place entries e m in
    let j = member_place entries f n in
    elim (cases_lt i.0 j.0) [
      | inl l ↦ let lt = entry_rises entries rises i.0 j.0 e f l i.1 j.1 in absurd (omega (arith, lt, same))
      | inr ge ↦ elim (cases_lt j.0 i.0) [
        | inl l ↦ let lt = entry_rises entries rises j.0 i.0 f e l j.1 i.1 in absurd (omega (arith, lt, same))
        | inr le ↦ let at : i.0 ≡ j.0 = omega arith in some_same e f (sym i.1 ∙ ap (slice_get entries) at ∙ j.1)
      ]
    ]

pub pair_once : (entries : List Entry) (rows : List Row) (next : ℕ) → AreEntered entries rows next → (e f : Entry) → Contains entries e → Contains entries f → e.pair ≡ f.pair → e ≡ f
pair_once entries rows next are e f m n same =
    entry_once entries are.rises e f m n (some_same e.number f.number (sym (are.found e m) ∙ ap (number_at rows) same ∙ are.found f n))

-- a reason of an entry has an earlier one
pub reason_entry : (entries : List Entry) (rows : List Row) (next : ℕ) → AreEntered entries rows next → (e : Entry) → Contains entries e → (p : Pair) → Contains (written rows e.number e.spans.items) p
    → (f : Entry) × Contains entries f × (f.pair ≡ p) × (f.number < e.number)
reason_entry entries rows next are e m p reason =
    let w = written_number rows e.number e.spans.items p reason in
    let k = w.4 in
    let below = are.below e m in
    let most = are.most in
    let f = entry_numbered entries rows next e.number p k.0 are k.1 k.2 (omega (arith, below, most)) in
    (f.0, f.1, f.2, (let e1 = f.3 in let lt = k.2 in omega (arith, e1, lt)))

-- the pair of an entry is logged, and the other way round
pub entry_pair : (rows : List Row) (entries : List Entry) (e : Entry) → Contains entries e → Contains (log_pairs (log_of rows entries)) e.pair
entry_pair rows entries e m = pair_logged (log_of rows entries) (removal_of rows e) (member_map (removal_of rows) entries e m)

pub pair_entry : (rows : List Row) (entries : List Entry) (p : Pair) → Contains (log_pairs (log_of rows entries)) p → (e : Entry) × Contains entries e × (e.pair ≡ p)
pair_entry rows entries p m =
    let r = member_unmap (λ (z : Removal). z.pair) (log_of rows entries) p m in
    let e = member_unmap (removal_of rows) entries r.0 r.1 in
    (e.0, e.1, ap (λ (z : Removal). z.pair) e.2 ∙ r.2)

-- ---- the log is linked

linked_from : (entries : List Entry) (rows : List Row) (next : ℕ) → AreEntered entries rows next → (done rest : List Entry) → done ++ rest ≡ entries → AreLinked (log_of rows done) (log_of rows rest)
linked_from entries rows next are done [] is = tt
linked_from entries rows next are done (e ∷ rest) is = (
  record {
    fresh = λ m.
        let f = pair_entry rows done e.pair m in
        let same = pair_once entries rows next are f.0 e (among f.0 f.1) here f.2 in
        let lt = earlier f.0 f.1 in
        let n = ap (λ (z : Entry). z.number) same in omega (arith, lt, n);
    reasons = λ p m.
        let f = reason_entry entries rows next are e here p m in
        let i = member_place entries f.0 f.1 in
        let lt = entry_places entries are.rises i.0 (length done) f.0 e i.1 at f.3 in
        member_same (log_pairs (log_of rows done)) f.0.pair p f.2 (entry_pair rows done f.0 (member_get done i.0 f.0 (get_left done (e ∷ rest) i.0 f.0 lt (subst (λ l. slice_get l i.0 ≡ Some f.0) (sym is) i.1))));
  },
  subst (λ l. AreLinked l (log_of rows rest)) (map-append (removal_of rows) done (e ∷ [])) (linked_from entries rows next are (done ++ e ∷ []) rest (append_assoc done (e ∷ []) rest ∙ is)),
)
  where
    at : slice_get entries (length done) ≡ Some e
    at = subst (λ l. slice_get l (length done) ≡ Some e) is (get_behind done e rest)

    here : Contains entries e
    here = member_get entries (length done) e at

    among : (f : Entry) → Contains done f → Contains entries f
    among f m = subst (λ l. Contains l f) is (Contains-append_left done (e ∷ rest) f m)

    earlier : (f : Entry) → Contains done f → f.number < e.number
    earlier f m =
        let i = member_place done f m in
        entry_rises entries are.rises i.0 (length done) f e (slice_get_within done i.0 f i.1) (subst (λ l. slice_get l i.0 ≡ Some f) is (get_first done (e ∷ rest) i.0 f i.1)) at

pub entered_linked : (entries : List Entry) (rows : List Row) (next : ℕ) → AreEntered entries rows next → IsLinked (log_of rows entries)
entered_linked entries rows next are = linked_from entries rows next are [] entries refl

-- ---- places by number

pub numbers_parted : (entries : List Entry) → AllPairs (λ a b. a.number < b.number) entries → (n : ℕ) → IsPartitionedBy (λ e. nat_lt e.number n) entries
numbers_parted entries rises n i j d le lt is =
    let far = ltb-true (get_or entries j d).number n is in
    elim (cases_lt i j) [
      | inl l ↦ let r : (get_or entries i d).number < (get_or entries j d).number = rises i j d l lt in lt-ltb (get_or entries i d).number n (omega (arith, r, far))
      | inr ge ↦ let same : i ≡ j = omega (arith, le, ge) in subst (λ k. nat_lt (get_or entries k d).number n ≡ true) (sym same) is
    ]

-- the place of a number is that of its entry
pub parted_entry : (entries : List Entry) → AllPairs (λ a b. a.number < b.number) entries → (place : ℕ) (e : Entry) → Contains entries e → IsPartedAt (λ f. nat_lt f.number e.number) entries place → slice_get entries place ≡ Some e
parted_entry entries rises place e m at =
    let i = member_place entries e m in
    let is = get_or_from_slice_get entries i.0 e e i.1 in
    let within = slice_get_within entries i.0 e i.1 in
    elim (cases_lt i.0 place) [
      | inl l ↦
          let less = ltb-true (get_or entries i.0 e).number e.number (at.before i.0 e (omega arith) l) in
          let same = ap (λ (z : Entry). z.number) is in absurd (omega (arith, less, same))
      | inr ge ↦ elim (cases_lt place i.0) [
        | inl l ↦
            let more = ltb-false (get_or entries place e).number e.number (at.after place e (omega arith) (omega (arith, l, within))) in
            let r : (get_or entries place e).number < (get_or entries i.0 e).number = rises place i.0 e l within in
            let same = ap (λ (z : Entry). z.number) is in absurd (omega (arith, more, r, same))
        | inr le ↦ let same : i.0 ≡ place = omega (arith, ge, le) in subst (λ k. slice_get entries k ≡ Some e) same i.1
      ]
    ]

some_number : (o : Option Entry) (n : ℕ) → IsSomeAnd o (λ e. e.number ≡ n) → (e : Entry) × (o ≡ Some e) × (e.number ≡ n)
some_number None n is = absurd is
some_number (Some e) n is = (e, refl, is)

-- an entry with the number parts the others
pub parted_number : (entries : List Entry) → AllPairs (λ a b. a.number < b.number) entries → (place n : ℕ) → IsSomeAnd (slice_get entries place) (λ e. e.number ≡ n) → IsPartedAt (λ f. nat_lt f.number n) entries place
parted_number entries rises place n is =
    let e = some_number (slice_get entries place) n is in
    let within = slice_get_within entries place e.0 e.1 in
    record {
      within = omega (arith, within);
      before = λ k d ge lt.
          let r : (get_or entries k d).number < (get_or entries place d).number = rises k place d lt within in
          let at = ap (λ (z : Entry). z.number) (get_or_from_slice_get entries place e.0 d e.1) in
          let same = e.2 in lt-ltb (get_or entries k d).number n (omega (arith, r, at, same));
      after = λ k d ge lt.
          let at = ap (λ (z : Entry). z.number) (get_or_from_slice_get entries place e.0 d e.1) in
          let same = e.2 in
          elim (cases_lt place k) [
            | inl l ↦ let r : (get_or entries place d).number < (get_or entries k d).number = rises place k d l lt in le-ltb (get_or entries k d).number n (omega (arith, r, at, same))
            | inr le ↦ let here : k ≡ place = omega (arith, ge, le) in let r = ap (λ j. (get_or entries j d).number) here in le-ltb (get_or entries k d).number n (omega (arith, r, at, same))
          ];
    }
