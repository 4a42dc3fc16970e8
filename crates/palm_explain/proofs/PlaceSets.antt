-- Sets of places by words of 64: bits of a word, and what a new place and a search for the last one make of the words.
use Rattle.std.proofs.Common.{◌≡◌, ℕ, suc, [], ◌∷◌, ◌++◌, take, ◌+◌, ◌-◌, ◌*◌, ◌/◌, ◌%◌, ◌^◌, ◌<◌, ◌≤◌, List, length, get_or, set, insert, Contains, bit_or, nat_lt, nat_le, Bool, false, ◌⊎◌, ◌↔◌, inl, inr, refl, sym, ap, ◌∙◌, subst, arith, length-set, shr-shr, get_or-set_same, get_or-set_other, pow_pos, div-lt_iff_lt-mul, le-div_iff_mul-le}
use Rattle.std.specs.Int.{bit_at}
use Rattle.std.specs.List.Sorted.{IsPartitionedBy}
use Rattle.std.proofs.Math.Nat.{two-pow-succ}
use Rattle.std.proofs.lemmas.Bool.{false≢true, cases_eq, cases_lt, ltb-true, ltb-false, leb-true, lt-ltb, le-ltb, le-leb, lt-leb}
use Rattle.std.proofs.lemmas.List.{get_or_append_left, get_or_default, get_or_push, length_push, take_more}
use Rattle.std.proofs.lemmas.List.Elements.{Contains-append_left, Contains-push, Contains-push_cases}
use Rattle.std.proofs.lemmas.List.Edits.{length-insert, get_or-insert_below, get_or-insert_at, get_or-insert_above, insert_end}
use Rattle.std.proofs.lemmas.Nat.Bits.{bit_at_or, bit_at_above, bit_at-pow_same, bit_at-pow_other, bit_at-zero, bit_at-lt}
use Rattle.palm_base.specs.Order.{IsPartedAt}
use Rattle.palm_base.specs.Tells.{Tells}
use Rattle.palm_base.proofs.cited.Members.{member_nil, member_take}
use Rattle.palm_base.proofs.cited.Telling.{tells_both, tells_false, tells_same}
use Rattle.palm_explain.specs.declared.places.PlaceWord.{PlaceWord}
use Rattle.palm_explain.specs.Places.{AllBegin, ArePlaceWords, BeginsBelow, HasPlace, IsFirstIn, IsFirstOne, IsGapAt, IsIn, IsLastBelow, IsLastIn, IsMissing, IsSearched, with_bits}

-- ---- the bits of a word

-- its last one
pub top_bit : (n top : ℕ) → 2 ^ top ≤ n → n < 2 * 2 ^ top → (bit_at n top ≡ 1) × ((k : ℕ) → top < k → bit_at n k ≡ 0)
top_bit n top low high =
    let p = pow_pos top in
    let less : n / 2 ^ top < 2 = (div-lt_iff_lt-mul p).1 high in
    let some : 1 ≤ n / 2 ^ top = (le-div_iff_mul-le p).1 (omega arith) in (
      omega arith,
      λ k l. bit_at_above n (suc top) k (omega (arith, high, two-pow-succ top)) l,
    )

-- those of two words together
or_left : (n m k : ℕ) → bit_at n k ≡ 1 → bit_at (bit_or n m) k ≡ 1
or_left n m k one = omega (arith, one, bit_at_or n m k, bit_at-lt m k)

or_right : (n m k : ℕ) → bit_at m k ≡ 1 → bit_at (bit_or n m) k ≡ 1
or_right n m k one = omega (arith, one, bit_at_or n m k, bit_at-lt n k)

or_one : (n m k : ℕ) → bit_at (bit_or n m) k ≡ 1 → (bit_at n k ≡ 1) ⊎ (bit_at m k ≡ 1)
or_one n m k one = elim (cases_eq (bit_at n k) 1) [
  | inl e ↦ inl e
  | inr other ↦ inr (omega (arith, one, other, bit_at_or n m k, bit_at-lt n k, bit_at-lt m k))
]

-- ---- the last one of a word

module _ (w : PlaceWord) (end low : ℕ) (aligned : w.start % 64 ≡ 0) (start : w.start < end) (same : (k : ℕ) → k < end - w.start → bit_at low k ≡ bit_at w.bits k) (none : (k : ℕ) → end - w.start ≤ k → bit_at low k ≡ 0) where
  in_low : (p : ℕ) → IsIn w p → p < end → bit_at low (p % 64) ≡ 1
  in_low p is lt = same (p % 64) (omega (arith, is.starts, lt, start)) ∙ is.one

  pub none_in : low ≡ 0 → (p : ℕ) → IsIn w p → p < end → ⊥
  none_in e p is lt = let one = in_low p is lt in let zero = ap (λ n. bit_at n (p % 64)) e ∙ bit_at-zero (p % 64) in omega (arith, one, zero)

  pub top_in : (top : ℕ) → top < 64 → 2 ^ top ≤ low → low < 2 * 2 ^ top → IsLastIn w end (w.start + top)
  top_in top small from below =
      let t = top_bit low top from below in
      let bit : (w.start + top) % 64 ≡ top = omega (arith, aligned, small) in
      let within : top < end - w.start = elim (cases_lt top (end - w.start)) [
        | inl l ↦ l
        | inr ge ↦ let zero = none top ge in let one = t.0 in absurd (omega (arith, zero, one))
      ] in
      record {
        is = record { starts = omega (arith, bit); one = ap (bit_at w.bits) bit ∙ sym (same top within) ∙ t.0 };
        below = omega (arith, within, start);
        last = λ p is lt. elim (cases_lt top (p % 64)) [
          | inl l ↦ let one = in_low p is lt in let zero = t.1 (p % 64) l in absurd (omega (arith, one, zero))
          | inr le ↦ omega (arith, le, is.starts)
        ];
      }

-- ---- the first one of a word from a place on

pub bit_at_shr : (n i k : ℕ) → bit_at (n / 2 ^ i) k ≡ bit_at n (i + k)
bit_at_shr n i k = ap (λ x. x % 2) (shr-shr n i k)

module _ (w : PlaceWord) (from before : ℕ) (aligned : w.start % 64 ≡ 0) (is_before : before ≡ from - w.start) where
  pub none_far : 64 ≤ before → (p : ℕ) → IsIn w p → from ≤ p → ⊥
  none_far far p is le = omega (arith, is.starts, is_before, far, le)

  pub none_behind : ((k : ℕ) → before ≤ k → bit_at w.bits k ≡ 0) → (p : ℕ) → IsIn w p → from ≤ p → ⊥
  none_behind none p is le = let zero = none (p % 64) (omega (arith, is.starts, is_before, le)) in let one = is.one in omega (arith, zero, one)

  pub first_behind : (bit : ℕ) → IsFirstOne w.bits before bit → IsFirstIn w from (w.start + bit)
  first_behind bit first =
      let small = first.small in
      let from_before = first.behind in
      let at : (w.start + bit) % 64 ≡ bit = omega (arith, aligned, small) in
      record {
        is = record { starts = omega (arith, at); one = ap (bit_at w.bits) at ∙ first.is };
        behind = omega (arith, is_before, from_before);
        first = λ p is le. elim (cases_lt (p % 64) bit) [
          | inl l ↦ let zero = first.zeros (p % 64) (omega (arith, is.starts, is_before, le)) l in let one = is.one in absurd (omega (arith, zero, one))
          | inr ge ↦ omega (arith, ge, is.starts)
        ];
      }

-- ---- halves

by_start : (words : List PlaceWord) → ArePlaceWords words → (i j : ℕ) (d : PlaceWord) → i ≤ j → j < length words → (get_or words j d).start ≤ (get_or words i d).start
by_start words formed i j d le lt = elim (cases_lt i j) [
  | inl l ↦ let falls = formed.falls i j d l lt in omega (arith, falls)
  | inr ge ↦ let e : i ≡ j = omega arith in let same = ap (λ k. (get_or words k d).start) e in omega (arith, same)
]

pub behind_parted : (words : List PlaceWord) → ArePlaceWords words → (start : ℕ) → IsPartitionedBy (λ w. nat_lt start w.start) words
behind_parted words formed start i j d le lt is =
    let more = by_start words formed i j d le lt in
    let far = ltb-true start (get_or words j d).start is in lt-ltb start (get_or words i d).start (omega (arith, more, far))

pub from_parted : (words : List PlaceWord) → ArePlaceWords words → (end : ℕ) → IsPartitionedBy (λ w. nat_le end w.start) words
from_parted words formed end i j d le lt is =
    let more = by_start words formed i j d le lt in
    let far = leb-true end (get_or words j d).start is in le-leb end (get_or words i d).start (omega (arith, more, far))

-- a word that begins at the place parts the others
pub parted_there : (words : List PlaceWord) → ArePlaceWords words → (start near : ℕ) → near < length words → ((d : PlaceWord) → (get_or words near d).start ≡ start) → IsPartedAt (λ w. nat_lt start w.start) words near
parted_there words formed start near within is = record {
  within = omega (arith, within);
  before = λ k d ge lt. let falls = formed.falls k near d lt within in let at = is d in lt-ltb start (get_or words k d).start (omega (arith, falls, at));
  after = λ k d ge lt. let less = by_start words formed near k d ge lt in let at = is d in le-ltb start (get_or words k d).start (omega (arith, less, at));
}

-- the first word that begins below the end parts the others
pub below_parted : (words : List PlaceWord) → ArePlaceWords words → (end index : ℕ) → BeginsBelow words index end → IsPartedAt (λ w. nat_le end w.start) words index
below_parted words formed end index is = record {
  within = let lt = is.within in omega (arith, lt);
  before = λ k d ge lt.
      let far = is.before d (omega (arith, lt)) in
      let within = is.within in
      let more = by_start words formed k (index - 1) d (omega (arith, lt)) (omega (arith, within)) in le-leb end (get_or words k d).start (omega (arith, far, more));
  after = λ k d ge lt.
      let near = is.here d in
      let less = by_start words formed index k d ge lt in lt-leb end (get_or words k d).start (omega (arith, near, less));
}

-- ---- places that are added to a word

module _ (words : List PlaceWord) (formed : ArePlaceWords words) (at : ℕ) (word : PlaceWord) (within : at < length words) (starts : (d : PlaceWord) → (get_or words at d).start ≡ word.start) (d : PlaceWord) where
  abbrev old : PlaceWord
  old = get_or words at d

  abbrev new : PlaceWord
  new = with_bits old word.bits

  abbrev more : List PlaceWord
  more = set words at new

  start_same : (k : ℕ) (e : PlaceWord) → (get_or more k e).start ≡ (get_or words k e).start
  start_same k e = elim (cases_eq k at) [
    | inl same ↦ subst (λ j. (get_or more j e).start ≡ (get_or words j e).start) (sym same) (ap (λ (w : PlaceWord). w.start) (get_or-set_same words at new e within) ∙ starts d ∙ sym (starts e))
    | inr apart ↦ ap (λ (w : PlaceWord). w.start) (get_or-set_other words at k new e apart)
  ]

  pub set_formed : ArePlaceWords more
  set_formed = record {
    falls = λ i j e l lt.
        let old = formed.falls i j e l (subst (λ n. j < n) (length-set words at new) lt) in
        let one = start_same i e in
        let two = start_same j e in omega (arith, old, one, two);
    aligned = λ i e lt. ap (λ n. n % 64) (start_same i e) ∙ formed.aligned i e (subst (λ n. i < n) (length-set words at new) lt);
  }

  new_there : Contains more new
  new_there = (at, subst (λ n. at < n) (sym (length-set words at new)) within, get_or-set_same words at new new within)

  pub set_there : (p : ℕ) → IsIn word p → HasPlace more p
  set_there p is = (new, new_there, record { starts = starts d ∙ is.starts; one = or_right old.bits word.bits (p % 64) is.one })

  pub set_stay : (p : ℕ) → HasPlace words p → HasPlace more p
  set_stay p h = let w = h.0 in let m = h.1 in let is = h.2 in elim (cases_eq m.0 at) [
    | inl same ↦
        let e : old ≡ w = get_or_default words at d w within ∙ ap (λ k. get_or words k w) (sym same) ∙ m.2 in
        let was = subst (λ (v : PlaceWord). IsIn v p) (sym e) is in (
          new,
          new_there,
          record { starts = was.starts; one = or_left old.bits word.bits (p % 64) was.one },
        )
    | inr apart ↦ (w, (m.0, subst (λ n. m.0 < n) (sym (length-set words at new)) m.1, get_or-set_other words at m.0 new w apart ∙ m.2), is)
  ]

  pub set_only : (p : ℕ) → HasPlace more p → HasPlace words p ⊎ IsIn word p
  set_only p h =
      let w = h.0 in
      let m = h.1 in
      let is = h.2 in
      let lt = subst (λ n. m.0 < n) (length-set words at new) m.1 in
      elim (cases_eq m.0 at) [
        | inl same ↦
            let e : new ≡ w = sym (get_or-set_same words at new w within) ∙ ap (λ k. get_or more k w) (sym same) ∙ m.2 in
            let now = subst (λ (v : PlaceWord). IsIn v p) (sym e) is in
            elim (or_one old.bits word.bits (p % 64) now.one) [
              | inl one ↦ inl (old, (at, within, get_or_default words at old d within), record { starts = now.starts; one = one })
              | inr one ↦ inr (record { starts = sym (starts d) ∙ now.starts; one = one })
            ]
        | inr apart ↦ inl (w, (m.0, lt, sym (get_or-set_other words at m.0 new w apart) ∙ m.2), is)
      ]

-- ---- a word that is put in

module _ (words : List PlaceWord) (formed : ArePlaceWords words) (at : ℕ) (own : PlaceWord) (aligned : own.start % 64 ≡ 0) (parted : IsPartedAt (λ w. nat_lt own.start w.start) words at)
    (none : at < length words → ((d : PlaceWord) → (get_or words at d).start ≡ own.start) → ⊥) where
  abbrev longer : List PlaceWord
  longer = insert words at own

  before_at : (i : ℕ) (d : PlaceWord) → i < at → own.start < (get_or words i d).start
  before_at i d l = ltb-true own.start (get_or words i d).start (parted.before i d (omega arith) l)

  after_at : (i : ℕ) (d : PlaceWord) → at ≤ i → i < length words → (get_or words i d).start < own.start
  after_at i d ge lt =
      let most = ltb-false own.start (get_or words i d).start (parted.after i d ge lt) in
      elim (cases_lt (get_or words i d).start own.start) [
        | inl l ↦ l
        | inr same ↦ elim (cases_eq i at) [
          | inl e ↦ absurd (none (omega (arith, e, lt)) (λ f.
              let there = get_or_default words at f d (omega (arith, e, lt)) in
              let first : (get_or words at d).start ≡ own.start = subst (λ k. (get_or words k d).start ≡ own.start) e (omega (arith, same, most)) in
              ap (λ (w : PlaceWord). w.start) there ∙ first))
          | inr apart ↦
              let falls = formed.falls at i d (omega (arith, ge, apart)) lt in
              let first = ltb-false own.start (get_or words at d).start (parted.after at d (omega arith) (omega (arith, ge, lt))) in absurd (omega (arith, falls, first, same))
        ]
      ]

  below : (k : ℕ) (d : PlaceWord) → k < at → get_or longer k d ≡ get_or words k d
  below k d l = get_or-insert_below words at own d k l parted.within

  here : (k : ℕ) (d : PlaceWord) → k ≡ at → get_or longer k d ≡ own
  here k d e = ap (λ j. get_or longer j d) e ∙ get_or-insert_at words at own d parted.within

  above : (k : ℕ) (d : PlaceWord) → at < k → get_or longer k d ≡ get_or words (k - 1) d
  above k d l = let e : k ≡ k - 1 + 1 = omega (arith, l) in ap (λ j. get_or longer j d) e ∙ get_or-insert_above words at own d (k - 1) (omega (arith, l)) parted.within

  -- a property of what stands at an index, from the three cases
  cases_at : (P : ℕ → PlaceWord → Type 0) (k : ℕ) (d : PlaceWord) → k < length longer → (k < at → P k (get_or words k d)) → (k ≡ at → P k own) → (at < k → k - 1 < length words → P k (get_or words (k - 1) d)) → P k (get_or longer k d)
  cases_at P k d lt one two three =
      let long = length-insert words at own parted.within in
      elim (cases_lt k at) [
        | inl l ↦ subst (P k) (sym (below k d l)) (one l)
        | inr ge ↦ elim (cases_lt at k) [
          | inl l ↦ subst (P k) (sym (above k d l)) (three l (omega (arith, long, lt, l)))
          | inr le ↦ let e : k ≡ at = omega (arith, ge, le) in subst (P k) (sym (here k d e)) (two e)
        ]
      ]

  pub insert_formed : ArePlaceWords longer
  insert_formed = record {
    falls = λ i j d l lt.
        let long = length-insert words at own parted.within in
        cases_at (λ k w. w.start < (get_or longer i d).start) j d lt
        (λ jl. subst (λ (w : PlaceWord). (get_or words j d).start < w.start) (sym (below i d (omega (arith, l, jl)))) (formed.falls i j d l (omega (arith, jl, parted.within))))
        (λ je. subst (λ (w : PlaceWord). own.start < w.start) (sym (below i d (omega (arith, l, je)))) (before_at i d (omega (arith, l, je))))
        (λ jg jw. cases_at (λ k w. (get_or words (j - 1) d).start < w.start) i d (omega (arith, l, lt))
        (λ il. formed.falls i (j - 1) d (omega (arith, il, jg)) jw)
        (λ ie. after_at (j - 1) d (omega (arith, jg)) jw)
        (λ ig iw. formed.falls (i - 1) (j - 1) d (omega (arith, ig, l)) jw));
    aligned = λ i d lt. cases_at (λ k w. w.start % 64 ≡ 0) i d lt
        (λ il. formed.aligned i d (omega (arith, il, parted.within)))
        (λ ie. aligned)
        (λ ig iw. formed.aligned (i - 1) d iw);
  }

  own_there : Contains longer own
  own_there = let long = length-insert words at own parted.within in (at, omega (arith, long, parted.within), here at own refl)

  pub insert_there : (p : ℕ) → IsIn own p → HasPlace longer p
  insert_there p is = (own, own_there, is)

  pub insert_stay : (p : ℕ) → HasPlace words p → HasPlace longer p
  insert_stay p h =
      let w = h.0 in
      let m = h.1 in
      let is = h.2 in
      let long = length-insert words at own parted.within in
      elim (cases_lt m.0 at) [
        | inl l ↦ (w, (m.0, omega (arith, long, m.1), below m.0 w l ∙ m.2), is)
        | inr ge ↦
            let back : m.0 + 1 - 1 ≡ m.0 = omega arith in
            (w, (m.0 + 1, omega (arith, long, m.1), above (m.0 + 1) w (omega (arith, ge)) ∙ ap (λ k. get_or words k w) back ∙ m.2), is)
      ]

  pub insert_only : (p : ℕ) → HasPlace longer p → HasPlace words p ⊎ IsIn own p
  insert_only p h =
      let w = h.0 in
      let m = h.1 in
      let is = h.2 in
      let long = length-insert words at own parted.within in
      elim (cases_lt m.0 at) [
        | inl l ↦ inl (w, (m.0, omega (arith, l, parted.within), sym (below m.0 w l) ∙ m.2), is)
        | inr ge ↦ elim (cases_lt at m.0) [
          | inl l ↦ inl (w, (m.0 - 1, omega (arith, long, m.1, l), sym (above m.0 w l) ∙ m.2), is)
          | inr le ↦
              let e : own ≡ w = sym (here m.0 w (omega (arith, ge, le))) ∙ m.2 in inr (subst (λ (v : PlaceWord). IsIn v p) (sym e) is)
        ]
      ]

-- ---- a word behind the others

pub parted_end : (words : List PlaceWord) (start : ℕ) → AllBegin words start → IsPartedAt (λ w. nat_lt start w.start) words (length words)
parted_end words start all = record {
  within = omega arith;
  before = λ k d ge lt. lt-ltb start (get_or words k d).start (all k d lt);
  after = λ k d ge lt. absurd (omega (arith, ge, lt));
}

-- a gap behind all of them
pub gap_behind : (words : List PlaceWord) (start at : ℕ) → IsGapAt words start at → length words ≤ at → AllBegin words start
gap_behind words start at gap end k d lt = ltb-true start (get_or words k d).start (gap.parted.before k d (omega arith) (omega (arith, lt, end)))

module _ (words : List PlaceWord) (formed : ArePlaceWords words) (own : PlaceWord) (aligned : own.start % 64 ≡ 0) (all : AllBegin words own.start) where
  end_parted : IsPartedAt (λ w. nat_lt own.start w.start) words (length words)
  end_parted = parted_end words own.start all

  end_none : length words < length words → ((d : PlaceWord) → (get_or words (length words) d).start ≡ own.start) → ⊥
  end_none lt same = omega (arith, lt)

  pub push_formed : ArePlaceWords (words ++ own ∷ [])
  push_formed = subst ArePlaceWords (insert_end words own) (insert_formed words formed (length words) own aligned end_parted end_none)

  pub push_stay : (p : ℕ) → HasPlace words p → HasPlace (words ++ own ∷ []) p
  push_stay p h = subst (λ (ws : List PlaceWord). HasPlace ws p) (insert_end words own) (insert_stay words formed (length words) own aligned end_parted end_none p h)

  pub push_only : (p : ℕ) → HasPlace (words ++ own ∷ []) p → HasPlace words p ⊎ IsIn own p
  push_only p h = insert_only words formed (length words) own aligned end_parted end_none p (subst (λ (ws : List PlaceWord). HasPlace ws p) (sym (insert_end words own)) h)

  pub push_behind : (start : ℕ) → start < own.start → AllBegin words start → AllBegin (words ++ own ∷ []) start
  push_behind start lt behind k d l =
      let long = length_push words own in
      elim (cases_lt k (length words)) [
        | inl small ↦ subst (λ (w : PlaceWord). start < w.start) (sym (get_or_append_left words (own ∷ []) d k small)) (behind k d small)
        | inr ge ↦ subst (λ (w : PlaceWord). start < w.start) (sym (get_or_push words own d k (omega (arith, long, l, ge)))) lt
      ]

-- words that all begin behind the place, with the places of the old ones
pub record IsReached (first words : List PlaceWord) (start : ℕ) : Type 0 where
  pub formed : ArePlaceWords words
  pub behind : AllBegin words start
  pub same : (p : ℕ) → HasPlace words p ↔ HasPlace first p

pub reached_none : (words : List PlaceWord) (start : ℕ) → ArePlaceWords words → AllBegin words start → IsReached words words start
reached_none words start formed behind = record { formed = formed; behind = behind; same = λ p. (λ h. h, λ h. h) }

pub gap_reached : (first words : List PlaceWord) (start : ℕ) → start % 64 ≡ 0 → IsReached first words start → IsGapAt words start (length words)
gap_reached first words start aligned reached = record {
  formed = reached.formed;
  aligned = aligned;
  parted = parted_end words start reached.behind;
  apart = λ lt same. omega (arith, lt);
}

abbrev pub empty_word : ℕ → PlaceWord
empty_word start = record { start = start; bits = 0 }

empty_none : (start p : ℕ) → IsIn (empty_word start) p → ⊥
empty_none start p is = let one = is.one in let zero = bit_at-zero (p % 64) in omega (arith, one, zero)

pub reached_next : (first words : List PlaceWord) (start next : ℕ) → IsReached first words start → IsMissing words start next → IsReached first (words ++ empty_word next ∷ []) start
reached_next first words start next reached missing = record {
  formed = push_formed words reached.formed (empty_word next) missing.aligned missing.last;
  behind = push_behind words reached.formed (empty_word next) missing.aligned missing.last start missing.behind reached.behind;
  same = λ p. (
    λ h. elim (push_only words reached.formed (empty_word next) missing.aligned missing.last p h) [
      | inl o ↦ (reached.same p).0 o
      | inr is ↦ absurd (empty_none next p is)
    ],
    λ h. push_stay words reached.formed (empty_word next) missing.aligned missing.last p ((reached.same p).1 h),
  );
}

abbrev pub last_start : List PlaceWord → ℕ
last_start words = (get_or words (length words - 1) (empty_word 0)).start

pub last_falls : (words : List PlaceWord) (start next : ℕ) → IsMissing words start next → last_start (words ++ empty_word next ∷ []) < last_start words
last_falls words start next missing =
    let long = length_push words (empty_word next) in
    let some = missing.some in
    let more = missing.last (length words - 1) (empty_word 0) (omega (arith, some)) in
    subst (λ (w : PlaceWord). w.start < last_start words) (sym (get_or_push words (empty_word next) (empty_word 0) (length (words ++ empty_word next ∷ []) - 1) (omega (arith, long)))) more

-- where the word behind the last one begins
pub missing_next : (words : List PlaceWord) → ArePlaceWords words → (start last : ℕ) → ((d : PlaceWord) → (get_or words (length words - 1) d).start ≡ last) → 0 < length words → start % 64 ≡ 0 → start < last → 64 < last - start → IsMissing words start (last - 64)
missing_next words formed start last is some aligned behind far = record {
  some = some;
  behind = omega (arith, behind, far);
  aligned = let mine = formed.aligned (length words - 1) (empty_word 0) (omega (arith, some)) in let same = is (empty_word 0) in omega (arith, mine, same, far);
  last = λ k d lt. let same = is d in let most = by_start words formed k (length words - 1) d (omega (arith, lt)) (omega (arith, some)) in omega (arith, same, most, far);
}

-- ---- words one after another

-- the places of the words are there besides what was, and no others
pub record HasAdded (old more new : List PlaceWord) : Type 0 where
  pub there : (p : ℕ) → HasPlace more p → HasPlace new p
  pub stay : (p : ℕ) → HasPlace old p → HasPlace new p
  pub only : (p : ℕ) → HasPlace new p → HasPlace old p ⊎ HasPlace more p

pub added_none : (words parts : List PlaceWord) → HasAdded words (take 0 parts) words
added_none words parts = record { there = λ p h. absurd (member_nil h.0 h.1); stay = λ p h. h; only = λ p h. inl h }

pub added_next : (words parts middle all : List PlaceWord) (i : ℕ) (word : PlaceWord) → i < length parts → word ≡ get_or parts i word → HasAdded words (take i parts) middle
    → ((p : ℕ) → IsIn word p → HasPlace all p) → ((p : ℕ) → HasPlace middle p → HasPlace all p) → ((p : ℕ) → HasPlace all p → HasPlace middle p ⊎ IsIn word p) → HasAdded words (take (i + 1) parts) all
added_next words parts middle all i word lt at added there stay only = record {
  there = λ p h. elim (Contains-push_cases (take i parts) word h.0 (subst (λ ws. Contains ws h.0) longer h.1)) [
    | inl k ↦ stay p (added.there p (h.0, k, h.2))
    | inr e ↦ there p (subst (λ (w : PlaceWord). IsIn w p) (sym e) h.2)
  ];
  stay = λ p h. stay p (added.stay p h);
  only = λ p h. elim (only p h) [
    | inl m ↦ elim (added.only p m) [
      | inl o ↦ inl o
      | inr k ↦ inr (k.0, wider k.0 (Contains-append_left (take i parts) (word ∷ []) k.0 k.1), k.2)
    ]
    | inr is ↦ inr (word, wider word (Contains-push (take i parts) word), is)
  ];
}
  where
    longer : take (i + 1) parts ≡ take i parts ++ word ∷ []
    longer = take_more parts i word lt ∙ ap (λ z. take i parts ++ z ∷ []) (sym at)

    wider : (w : PlaceWord) → Contains (take i parts ++ word ∷ []) w → Contains (take (i + 1) parts) w
    wider w m = subst (λ ws. Contains ws w) (sym longer) m

-- those of the first words are among all
pub first_added : (words parts all : List PlaceWord) (i : ℕ) → HasAdded words (take i parts) all → (p : ℕ) → HasPlace all p → HasPlace words p ⊎ HasPlace parts p
first_added words parts all i added p h = elim (added.only p h) [ inl o ↦ inl o | inr k ↦ inr (k.0, member_take i parts k.0 k.1, k.2) ]

-- ---- one place

-- a word that has it alone
pub one_in : (place bits : ℕ) → bits ≡ 2 ^ (place % 64) → IsIn (record { start = place - place % 64; bits = bits }) place
one_in place bits bit = record { starts = refl; one = ap (λ n. bit_at n (place % 64)) bit ∙ bit_at-pow_same (place % 64) }

pub one_only : (place bits : ℕ) → bits ≡ 2 ^ (place % 64) → (p : ℕ) → IsIn (record { start = place - place % 64; bits = bits }) p → place ≡ p
one_only place bits bit p is = elim (cases_eq (p % 64) (place % 64)) [
  | inl same ↦ let from = is.starts in omega (arith, from, same)
  | inr apart ↦ let zero = bit_at-pow_other (place % 64) (p % 64) apart in let one = ap (λ n. bit_at n (p % 64)) (sym bit) ∙ is.one in absurd (omega (arith, zero, one))
]

-- ---- whether a place is there

-- what has the place stands where its word belongs
pub word_there : (words : List PlaceWord) → ArePlaceWords words → (at place : ℕ) → IsPartedAt (λ w. nat_lt (place - place % 64) w.start) words at → HasPlace words place
    → (at < length words) × ((d : PlaceWord) → IsIn (get_or words at d) place)
word_there words formed at place parted h =
    let w = h.0 in
    let m = h.1 in
    let is = h.2 in
    let e : m.0 ≡ at = elim (cases_lt m.0 at) [
      | inl l ↦
          let far = ltb-true (place - place % 64) (get_or words m.0 w).start (parted.before m.0 w (omega arith) l) in
          let same = ap (λ (u : PlaceWord). u.start) m.2 ∙ is.starts in absurd (omega (arith, far, same))
      | inr ge ↦ elim (cases_lt at m.0) [
        | inl l ↦
            let falls = formed.falls at m.0 w l m.1 in
            let near = ltb-false (place - place % 64) (get_or words at w).start (parted.after at w (omega arith) (omega (arith, l, m.1))) in
            let same = ap (λ (u : PlaceWord). u.start) m.2 ∙ is.starts in absurd (omega (arith, falls, near, same))
        | inr le ↦ omega (arith, ge, le)
      ]
    ] in
    let within : at < length words = omega (arith, e, m.1) in
    (within, λ d. subst (λ (v : PlaceWord). IsIn v place) (sym (get_or_default words at d w within ∙ ap (λ k. get_or words k w) (sym e) ∙ m.2)) is)

pub tells_there : (words : List PlaceWord) → ArePlaceWords words → (at place : ℕ) → IsPartedAt (λ w. nat_lt (place - place % 64) w.start) words at → (at < length words) × ((d : PlaceWord) → (get_or words at d).start ≡ place - place % 64)
    → (b : Bool) → Tells b ((d : PlaceWord) → bit_at (get_or words at d).bits (place % 64) ≡ 1) → Tells b (HasPlace words place)
tells_there words formed at place parted there b =
    let any : PlaceWord = record { start = 0; bits = 0 } in
    let word : PlaceWord = get_or words at any in
    tells_same ((d : PlaceWord) → bit_at (get_or words at d).bits (place % 64) ≡ 1) (HasPlace words place) b
    (λ one. (word, (at, there.0, get_or_default words at word any there.0), record { starts = there.1 any; one = one any }))
    (λ h d. ((word_there words formed at place parted h).1 d).one)

pub tells_away : (words : List PlaceWord) → ArePlaceWords words → (at place : ℕ) → IsPartedAt (λ w. nat_lt (place - place % 64) w.start) words at
    → (b : Bool) → Tells b ((at < length words) × ((d : PlaceWord) → (get_or words at d).start ≡ place - place % 64)) → b ≡ false → Tells b (HasPlace words place)
tells_away words formed at place parted b tells is =
    tells_both (HasPlace words place) b (λ t. absurd (false≢true (sym is ∙ t)))
    (λ f h. let w = word_there words formed at place parted h in tells_false ((at < length words) × ((d : PlaceWord) → (get_or words at d).start ≡ place - place % 64)) b tells f (w.0, λ d. (w.1 d).starts))

-- ---- the last place below an end

module _ (words : List PlaceWord) (formed : ArePlaceWords words) (end : ℕ) where
  pub last_found : (index place : ℕ) (w : PlaceWord) → index < length words → w ≡ get_or words index w → IsSearched words end index → IsLastIn w end place → IsLastBelow words end place
  last_found index place w lt at before last = record {
    has = (w, (index, lt, sym at), last.is);
    below = last.below;
    last = λ p h below. let v = h.0 in let m = h.1 in let is = h.2 in elim (cases_lt m.0 index) [
      | inl l ↦ absurd (before.none m.0 v l m.1 p (subst (λ (u : PlaceWord). IsIn u p) (sym m.2) is) below)
      | inr ge ↦ elim (cases_lt index m.0) [
        | inl l ↦
            let falls = formed.falls index m.0 w l m.1 in
            let one = ap (λ (u : PlaceWord). u.start) (get_or_default words m.0 w v m.1 ∙ m.2) in
            let two = ap (λ (u : PlaceWord). u.start) at in
            let mine = formed.aligned index w lt in
            let here = is.starts in
            let there = last.is.starts in
            let other = formed.aligned m.0 w m.1 in omega (arith, falls, one, two, mine, here, there, other)
        | inr le ↦ last.last p (subst (λ (u : PlaceWord). IsIn u p) (sym m.2 ∙ ap (λ k. get_or words k v) (omega (arith, ge, le)) ∙ get_or_default words index v w lt ∙ sym at) is) below
      ]
    ];
  }

-- ---- the words from the last one on

-- a place of a later word stands before one of this word
pub word_before : (words : List PlaceWord) → ArePlaceWords words → (index : ℕ) (word : PlaceWord) → index < length words → word ≡ get_or words index word → (m n : ℕ) (h : HasPlace words m) → index + 1 ≤ h.1.0 → IsIn word n → m < n
word_before words formed index word lt at m n h behind is =
    let k = h.1.0 in
    let falls = formed.falls index k word (omega (arith, behind)) h.1.1 in
    let one = ap (λ (u : PlaceWord). u.start) (get_or_default words k word h.0 h.1.1 ∙ h.1.2) in
    let two = ap (λ (u : PlaceWord). u.start) at in
    let mine = formed.aligned index word lt in
    let other = formed.aligned k word h.1.1 in
    let here = is.starts in
    let there = h.2.starts in
    omega (arith, falls, one, two, mine, other, here, there)
