-- What a store keeps: over rows that say the same, and with one more entry; and what is read of its log.
use Rattle.std.proofs.Common.{◌≡◌, ◌≢◌, ℕ, ◌+◌, ◌<◌, ◌≤◌, false, List, [], ◌∷◌, ◌++◌, length, get_or, map, nat_lt, Bool, true, IfOk, OnErr, OnOk, Result, Ok, Err, is_err, Contains, Some, slice_get, ◌⊎◌, inl, inr, sym, ap, ◌∙◌, subst, arith}
use Rattle.std.proofs.lemmas.List.{get_or_default, length-append, length-map, map-append}
use Rattle.std.proofs.lemmas.List.Quantifiers.{all_pairs_push}
use Rattle.std.proofs.lemmas.List.Elements.{Contains-append_left, Contains-push, Contains-push_cases}
use Rattle.std.proofs.lemmas.Bool.{false≢true}
use Rattle.std.proofs.lemmas.Option.{get_or_from_slice_get, slice_get-get_or}
use Rattle.palm_base.specs.declared.terms.Cid.{Cid}
use Rattle.palm_base.specs.Order.{IsPartedAt}
use Rattle.palm_base.specs.Tells.{Tells}
use Rattle.palm_base.specs.declared.terms.Pair.{Pair}
use Rattle.palm_base.proofs.cited.Members.{map_agree, member_here, member_same, member_single}
use Rattle.palm_model.specs.Log.{Removal, log_pairs}
use Rattle.palm_events.proofs.cited.Agreeing.{pair_known}
use Rattle.palm_explain.specs.declared.entry.Entry.{Entry}
use Rattle.palm_explain.specs.declared.firsts.Firsts.{Firsts}
use Rattle.palm_explain.specs.declared.rows.Row.{Row}
use Rattle.palm_explain.specs.declared.rows.TheConstants.{NO_NUMBER}
use Rattle.palm_explain.specs.declared.spans.Span.{Span}
use Rattle.palm_explain.specs.Entries.{AreEntered, IsCountable, IsWhole, log_of, removal_of, span_values, written}
use Rattle.palm_explain.specs.Explanations.{log_bys, reasons_of}
use Rattle.palm_explain.specs.Firsts.{AreFormedFirsts, first_of}
use Rattle.palm_explain.specs.Rows.{AreFormedRows, KeepsRemovals, number_at}
use Rattle.palm_explain.proofs.Reasons.{entry_numbered, map_place, pair_entry, parted_entry, some_same, span_same, written_same}

-- ---- rows that know the same before a number

-- the one rows know what the other ones know, of all removals before a number
abbrev pub Knows : List Row → List Row → ℕ → Type 0
Knows rows more n = (p : Pair) (k : ℕ) → number_at rows p ≡ Some k → k < n → number_at more p ≡ Some k

module _ (rows more : List Row) (n : ℕ) (one : AreFormedRows rows) (two : AreFormedRows more) (to : Knows rows more n) (back : Knows more rows n) where
  spans_same : (m : ℕ) → m ≤ n → (s : Span) → span_values more m s ≡ span_values rows m s
  spans_same m le s = span_same rows more m s one two (λ v k from high is lt. to (record { var = s.var; value = v }) k is (omega (arith, lt, le))) (λ v k from high is lt. back (record { var = s.var; value = v }) k is (omega (arith, lt, le)))

  reasons_same : (m : ℕ) → m ≤ n → (spans : List Span) → written more m spans ≡ written rows m spans
  reasons_same m le spans = written_same rows more m spans (λ s j. spans_same m le s)

  pub countable_same : (e : Entry) → e.number ≤ n → IsCountable rows e → IsCountable more e
  countable_same e le is = let same = ap length (reasons_same e.number le e.spans.items) in omega (arith, same, is)

  removal_same : (e : Entry) → e.number ≤ n → removal_of more e ≡ removal_of rows e
  removal_same e le = ap (λ rs. let r : Removal = record { pair = e.pair; by = e.by; reasons = rs } in r) (reasons_same e.number le e.spans.items)

  pub log_same : (entries : List Entry) → ((e : Entry) → Contains entries e → e.number ≤ n) → log_of more entries ≡ log_of rows entries
  log_same entries within = map_agree (removal_of more) (removal_of rows) entries (λ e m. removal_same e (within e m))

pub below_next : (entries : List Entry) (rows : List Row) (next : ℕ) → AreEntered entries rows next → (e : Entry) → Contains entries e → e.number ≤ next
below_next entries rows next are e m = let lt = are.below e m in omega (arith, lt)

-- rows that say the same of all that is removed
module _ (entries : List Entry) (rows more : List Row) (next : ℕ) (are : AreEntered entries rows next) (formed : AreFormedRows more) (keeps : KeepsRemovals rows more) where
  known : Knows rows more next
  known p k is lt = keeps.stay p k is

  known_before : Knows more rows next
  known_before p k is lt = elim (keeps.only p k is) [
    | inl o ↦ o
    | inr none ↦ let most = are.most in absurd (omega (arith, none, lt, most))
  ]

  pub entered_like : AreEntered entries more next
  entered_like = record {
    rises = are.rises;
    below = are.below;
    most = are.most;
    formed = formed;
    found = λ e m. keeps.stay e.pair e.number (are.found e m);
    only = λ p k is. elim (keeps.only p k is) [ inl o ↦ are.only p k o | inr none ↦ inl none ];
    countable = λ e m. countable_same rows more next are.formed formed known known_before e (below_next entries rows next are e m) (are.countable e m);
  }

  pub log_like : log_of more entries ≡ log_of rows entries
  log_like = log_same rows more next are.formed formed known known_before entries (below_next entries rows next are)

-- ---- one more entry

module _ (entries : List Entry) (rows more : List Row) (next : ℕ) (e : Entry) (are : AreEntered entries rows next) (formed : AreFormedRows more) (room : next ≢ NO_NUMBER) (is : e.number ≡ next)
    (fresh : (f : Entry) → Contains entries f → f.pair ≡ e.pair → ⊥) (there : number_at more e.pair ≡ Some next) (others : (p : Pair) → (p ≡ e.pair → ⊥) → number_at more p ≡ number_at rows p) where
  is_it : (p : Pair) → (p ≡ e.pair) ⊎ (p ≡ e.pair → ⊥)
  is_it p = elim (pair_known (e.pair ∷ []) p) [
    | inl m ↦ inl (sym (member_single e.pair p m))
    | inr n ↦ inr (λ q. n (member_same (e.pair ∷ []) e.pair p (sym q) (member_here e.pair [])))
  ]

  to : Knows rows more next
  to p k at lt = elim (is_it p) [
    | inl q ↦ let f = entry_numbered entries rows next next p k are at lt are.most in absurd (fresh f.0 f.1 (f.2 ∙ q))
    | inr n ↦ others p n ∙ at
  ]

  back : Knows more rows next
  back p k at lt = elim (is_it p) [
    | inl q ↦ let same = some_same next k (sym there ∙ ap (number_at more) (sym q) ∙ at) in absurd (omega (arith, same, lt))
    | inr n ↦ sym (others p n) ∙ at
  ]

  pub log_pushed : (reasons : List Pair) → written rows next e.spans.items ≡ reasons → log_of more (entries ++ e ∷ []) ≡ log_of rows entries ++ record { pair = e.pair; by = e.by; reasons = reasons } ∷ []
  log_pushed reasons spans =
      let last : written more e.number e.spans.items ≡ reasons = ap (λ n. written more n e.spans.items) is ∙ reasons_same rows more next are.formed formed to back next (omega arith) e.spans.items ∙ spans in
      map-append (removal_of more) entries (e ∷ []) ∙ ap (λ l. l ++ removal_of more e ∷ []) (log_same rows more next are.formed formed to back entries (below_next entries rows next are))
      ∙ ap (λ rs. log_of rows entries ++ record { pair = e.pair; by = e.by; reasons = rs } ∷ []) last

  pub entered_pushed : IsCountable rows e → AreEntered (entries ++ e ∷ []) more (next + 1)
  entered_pushed fits =
      let most = are.most in record {
        rises = all_pairs_push (λ a b. a.number < b.number) entries e are.rises (λ k d lt.
            let below = are.below (get_or entries k d) (k, lt, get_or_default entries k (get_or entries k d) d lt) in omega (arith, below, is));
        below = λ f m. elim (Contains-push_cases entries e f m) [
          | inl o ↦ let lt = are.below f o in omega (arith, lt)
          | inr q ↦ let n = ap (λ (z : Entry). z.number) q in omega (arith, n, is)
        ];
        most = omega (arith, most, room);
        formed = formed;
        found = λ f m. elim (Contains-push_cases entries e f m) [
          | inl o ↦ others f.pair (λ q. fresh f o q) ∙ are.found f o
          | inr q ↦ subst (λ (z : Entry). number_at more z.pair ≡ Some z.number) q (there ∙ ap Some (sym is))
        ];
        only = λ p k at. elim (is_it p) [
          | inl q ↦ inr (e, Contains-push entries e, sym q, is ∙ some_same next k (sym there ∙ ap (number_at more) (sym q) ∙ at))
          | inr n ↦ elim (are.only p k (sym (others p n) ∙ at)) [
            | inl none ↦ inl none
            | inr f ↦ inr (f.0, Contains-append_left entries (e ∷ []) f.0 f.1, f.2, f.3)
          ]
        ];
        countable = λ f m. elim (Contains-push_cases entries e f m) [
          | inl o ↦ countable_same rows more next are.formed formed to back f (below_next entries rows next are f o) (are.countable f o)
          | inr q ↦ subst (IsCountable more) q (countable_same rows more next are.formed formed to back e (omega (arith, is)) fits)
        ];
      }

-- ---- what is kept

-- with more first numbers, and more room
pub whole_like : (entries : List Entry) (rows more : List Row) (next room larger : ℕ) (firsts later : Firsts) → IsWhole entries rows next room firsts → AreFormedRows more → KeepsRemovals rows more → room ≤ larger
    → AreFormedFirsts later → ((c : Cid) (k : ℕ) → first_of firsts c ≡ Some k → (j : ℕ) × (first_of later c ≡ Some j) × (j ≤ k)) → IsWhole entries more next larger later
whole_like entries rows more next room larger firsts later whole formed keeps grows firm stays = record {
  entered = entered_like entries rows more next whole.entered formed keeps;
  unmarked = whole.unmarked;
  formed = firm;
  begun = λ e m. let k = whole.begun e m in let j = stays e.by k.0 k.1 in (j.0, j.1, (let a = j.2 in let b = k.2 in omega (arith, a, b)));
  room = let r = whole.room in omega (arith, r, grows);
}

pub whole_pushed : (entries : List Entry) (rows more : List Row) (next room larger : ℕ) (firsts later : Firsts) (e : Entry) → IsWhole entries rows next room firsts → AreEntered (entries ++ e ∷ []) more (next + 1) → e.mark ≡ false → e.number ≡ next → length entries + 1 ≤ larger
    → AreFormedFirsts later → ((c : Cid) (k : ℕ) → first_of firsts c ≡ Some k → (j : ℕ) × (first_of later c ≡ Some j) × (j ≤ k)) → (k : ℕ) × (first_of later e.by ≡ Some k) × (k ≤ next) → IsWhole (entries ++ e ∷ []) more (next + 1) larger later
whole_pushed entries rows more next room larger firsts later e whole entered mark is grows firm stays noted = record {
  entered = entered;
  unmarked = λ f m. elim (Contains-push_cases entries e f m) [ inl o ↦ whole.unmarked f o | inr q ↦ subst (λ (z : Entry). z.mark ≡ false) q mark ];
  formed = firm;
  begun = λ f m. elim (Contains-push_cases entries e f m) [
    | inl o ↦ let k = whole.begun f o in let j = stays f.by k.0 k.1 in (j.0, j.1, (let a = j.2 in let b = k.2 in omega (arith, a, b)))
    | inr q ↦ subst (λ (z : Entry). (k : ℕ) × (first_of later z.by ≡ Some k) × (k ≤ z.number)) q (noted.0, noted.1, (let le = noted.2 in omega (arith, le, is)))
  ];
  room = let long = length-append entries (e ∷ []) in omega (arith, long, grows);
}

-- ---- reading

pub log_length : (rows : List Row) (entries : List Entry) → length (log_of rows entries) ≡ length entries
log_length rows entries = length-map entries (removal_of rows)

module _ (rows : List Row) (entries : List Entry) (place : ℕ) (e : Entry) (at : slice_get entries place ≡ Some e) where
  pub pair_read : slice_get (log_pairs (log_of rows entries)) place ≡ Some e.pair
  pair_read = map_place (λ (r : Removal). r.pair) (log_of rows entries) place (removal_of rows e) (map_place (removal_of rows) entries place e at)

  pub by_read : slice_get (log_bys (log_of rows entries)) place ≡ Some e.by
  by_read = map_place (λ (r : Removal). r.by) (log_of rows entries) place (removal_of rows e) (map_place (removal_of rows) entries place e at)

  pub reasons_read : reasons_of (log_of rows entries) place ≡ written rows e.number e.spans.items
  reasons_read = get_or_from_slice_get (map (λ (r : Removal). r.reasons) (log_of rows entries)) place (written rows e.number e.spans.items) [] (map_place (λ (r : Removal). r.reasons) (log_of rows entries) place (removal_of rows e) (map_place (removal_of rows) entries place e at))

pub entry_read : (entries : List Entry) (place : ℕ) (e : Entry) → place < length entries → e ≡ get_or entries place e → slice_get entries place ≡ Some e
entry_read entries place e lt is = slice_get-get_or entries place e lt ∙ ap Some (sym is)

-- ---- results and options

pub on_err : {T E : Type 0} (r : Result T E) (P : Type 0) → P → OnErr r P
on_err (Ok x) P p = tt
on_err (Err e) P p = p

-- a pair that is not removed has no number, or none that counts
pub unnumbered : (rows : List Row) (entries : List Entry) (next : ℕ) (p : Pair) → AreEntered entries rows next → ((k : ℕ) → number_at rows p ≡ Some k → k < NO_NUMBER → ⊥) → Contains (log_pairs (log_of rows entries)) p → ⊥
unnumbered rows entries next p are none m =
    let e = pair_entry rows entries p m in
    let below = are.below e.0 e.1 in
    let most = are.most in
    none e.0.number (ap (number_at rows) (sym e.2) ∙ are.found e.0 e.1) (omega (arith, below, most))

-- the entry of a pair that is removed
pub numbered_entry : (rows : List Row) (entries : List Entry) (next : ℕ) (p : Pair) (k place : ℕ) → AreEntered entries rows next → number_at rows p ≡ Some k → k < NO_NUMBER → IsPartedAt (λ f. nat_lt f.number k) entries place
    → (e : Entry) × (slice_get entries place ≡ Some e) × (e.pair ≡ p)
numbered_entry rows entries next p k place are is lt parted =
    let e = entry_numbered entries rows next NO_NUMBER p k are is lt (omega arith) in
    (e.0, parted_entry entries are.rises place e.0 e.1 (subst (λ n. IsPartedAt (λ f. nat_lt f.number n) entries place) (sym e.3) parted), e.2)

pub on_ok : {T E : Type 0} (r : Result T E) (P Q : Type 0) → (P → Q) → OnOk r P → OnOk r Q
on_ok (Ok x) P Q f p = f p
on_ok (Err e) P Q f p = tt

pub on_err_of : {T E : Type 0} (r : Result T E) (P Q : Type 0) → (P → Q) → OnErr r P → OnErr r Q
on_err_of (Ok x) P Q f p = tt
on_err_of (Err e) P Q f p = f p

pub if_ok : {T E : Type 0} (r : Result T E) (P Q : T → Type 0) → ((x : T) → P x → Q x) → IfOk r P → IfOk r Q
if_ok (Ok x) P Q f p = f x p
if_ok (Err e) P Q f p = tt

pub both_ok : {T E : Type 0} (r : Result T E) (P Q R : Type 0) → (P → Q → R) → OnOk r P → OnOk r Q → OnOk r R
both_ok (Ok x) P Q R f p q = f p q
both_ok (Err e) P Q R f p q = tt

pub never_ok : {T E : Type 0} (r : Result T E) (P : Type 0) → is_err r ≡ true → OnOk r P
never_ok (Ok x) P e = absurd (false≢true e)
never_ok (Err x) P e = tt

pub tells_like : (b : Bool) (P Q : Type 0) → (P → Q) → (Q → P) → Tells b P → Tells b Q
tells_like true P Q to back p = to p
tells_like false P Q to back n = λ q. n (back q)
