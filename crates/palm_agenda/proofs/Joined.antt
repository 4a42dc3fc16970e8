-- Lists that are kept in two parts: what stands at a place, and what a change at a place leaves.
use Rattle.std.proofs.Common.{◌≡◌, ℕ, [], ◌∷◌, ◌+◌, ◌-◌, ◌<◌, ◌≤◌, Bool, List, ◌++◌, length, get_or, set, inl, inr, sym, ap, ◌∙◌, subst, arith}
use Rattle.std.proofs.lemmas.Bool.{cases_Bool, cases_lt, false≢true}
use Rattle.std.proofs.lemmas.List.{get_or_append_left, get_or-append_right, get_or_default, length-append, map-append, set-append_left, set-append_right}
use Rattle.palm_base.specs.declared.terms.Cid.{Cid}
use Rattle.palm_base.specs.Order.{IsPartedAt, Rises, cid_before}
use Rattle.palm_agenda.specs.Agenda.{Connected, connected_cids}
use Rattle.palm_base.proofs.cited.RisingLists.{rising}
use Rattle.palm_base.proofs.cited.Sorted.{parted}
use Rattle.palm_agenda.proofs.cited.Connecting.{cid_of, sorted_connected}

module _ {X : Type 0} (front behind seen : List X) (is : front ++ behind ≡ seen) (place : ℕ) where
  -- what a change leaves of what stood at a place of the one part
  pub front_set : place < length front → (f : X → X) (x : X) → x ≡ get_or front place x → (now : X) → now ≡ f x → (d : X) → d ≡ get_or seen place d → set front place now ++ behind ≡ set seen place (f d)
  front_set lt f x at now becomes d here =
      let same : d ≡ x = here ∙ ap (λ ys. get_or ys place d) (sym is) ∙ get_or_append_left front behind d place lt ∙ get_or_default front place d x lt ∙ sym at in
      sym (set-append_left front behind place now lt) ∙ ap (λ ys. set ys place now) is ∙ ap (set seen place) (becomes ∙ ap f (sym same))

  -- and of the other one, behind as many as were counted
  pub behind_set : (many : ℕ) → length front ≡ many → many ≤ place → place < length seen → (f : X → X) (x : X) → x ≡ get_or behind (place - many) x → (now : X) → now ≡ f x → (d : X) → d ≡ get_or seen place d
      → front ++ set behind (place - many) now ≡ set seen place (f d)
  behind_set many counted le lt f x at now becomes d here =
      let long = ap length is in
      let within : place - many < length behind = omega (arith, lt, le, counted, long, length-append front behind) in
      let same : d ≡ x = here ∙ ap (λ ys. get_or ys place d) (sym is) ∙ get_or-append_right front behind many place d counted le ∙ get_or_default behind (place - many) d x within ∙ sym at in
      sym (set-append_right front behind many place now counted le) ∙ ap (λ ys. set ys place now) is ∙ ap (set seen place) (becomes ∙ ap f (sym same))

-- ---- by rising id

first_rise : (xs ys : List Cid) → Rises (xs ++ ys) → Rises xs
first_rise [] ys h = tt
first_rise (x ∷ xs) ys h = (
  λ k d lt. ap (cid_before x) (sym (get_or_append_left xs ys d k lt)) ∙ h.0 k d (omega (arith, lt, length-append xs ys)),
  first_rise xs ys h.1,
)

pub rises_front : (xs ys : List Connected) → Rises (connected_cids (xs ++ ys)) → Rises (connected_cids xs)
rises_front xs ys h = first_rise (connected_cids xs) (connected_cids ys) (subst Rises (map-append cid_of xs ys) h)

pub rises_behind : (xs ys : List Connected) → Rises (connected_cids (xs ++ ys)) → Rises (connected_cids ys)
rises_behind [] ys h = h
rises_behind (x ∷ xs) ys h = rises_behind xs ys h.1

abbrev pub before : Cid → Connected → Bool
before cid d = cid_before d.cid cid

module _ (front behind : List Connected) (rises : Rises (connected_cids (front ++ behind))) (cid : Cid) (place : ℕ) (at : IsPartedAt (before cid) front place) where
  in_front : (k : ℕ) (d : Connected) → k < length front → before cid (get_or (front ++ behind) k d) ≡ before cid (get_or front k d)
  in_front k d lt = ap (before cid) (get_or_append_left front behind d k lt)

  -- where one of the first part does not come before the id, none of the other part does
  pub parted_front : place < length front → IsPartedAt (before cid) (front ++ behind) place
  parted_front short = record {
    within = omega (arith, short, length-append front behind);
    before = λ k d ge lt. in_front k d (omega (arith, lt, short)) ∙ at.before k d ge lt;
    after = λ k d ge lt. elim (cases_Bool (before cid (get_or (front ++ behind) k d))) [
      | inr f ↦ f
      | inl t ↦ absurd (false≢true (sym (at.after place d (omega arith) short) ∙ sym (in_front place d short) ∙ parted cid_of cid_before rising (front ++ behind) (sorted_connected (front ++ behind) rises) cid place k d ge lt t))
    ];
  }

  -- and where all of it come before the id, those of the other part count
  pub parted_behind : (more : ℕ) → length front ≤ place → IsPartedAt (before cid) behind more → IsPartedAt (before cid) (front ++ behind) (place + more)
  parted_behind more le also =
      let most = at.within in
      let whole : length front ≡ place = omega (arith, le, most) in
      record {
        within = (let few = also.within in omega (arith, few, whole, length-append front behind));
        before = λ k d ge lt. elim (cases_lt k place) [
          | inl l ↦ in_front k d (omega (arith, l, whole)) ∙ at.before k d ge l
          | inr g ↦ ap (before cid) (get_or-append_right front behind place k d whole g) ∙ also.before (k - place) d (omega arith) (omega (arith, g, lt))
        ];
        after = λ k d ge lt.
            ap (before cid) (get_or-append_right front behind place k d whole (omega (arith, ge)))
            ∙ also.after (k - place) d (omega (arith, ge)) (omega (arith, ge, lt, whole, length-append front behind));
      }
