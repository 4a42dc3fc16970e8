-- The walk from one needed removal to the next: what is noted and visited on the way, and what it has found at the end.
use Rattle.std.proofs.Common.{nat_lt, ◌≡◌, ℕ, ℤ, ◌+◌, ◌-◌, ◌<◌, ◌≤◌, List, [], ◌∷◌, ◌++◌, length, map, reverse, take, get_or, Contains, Some, None, slice_get, ◌⊎◌, ◌↔◌, inl, inr, refl, sym, ap, ◌∙◌, subst, arith}
use Rattle.std.proofs.lemmas.Bool.{cases_lt}
use Rattle.std.proofs.lemmas.List.{append-nil, append_assoc, get_or_append_left, get_or_push, length_push, length-reverse, get_or-reverse, get_or_default, map-append, take_more}
use Rattle.std.proofs.lemmas.List.Elements.{Contains-append_cases, Contains-append_left, Contains-append_right, Contains-push, Contains-push_cases}
use Rattle.std.specs.List.Sorted.{IsPermutation}
use Rattle.std.proofs.lemmas.List.Sorted.{Contains-permutation, IsPermutation-sym}
use Rattle.palm_base.specs.Order.{IsPartedAt}
use Rattle.palm_base.specs.declared.terms.Cid.{Cid}
use Rattle.palm_base.specs.declared.terms.Pair.{Pair}
use Rattle.palm_base.proofs.cited.Members.{member_get, member_here, member_map, member_nil, member_place, member_same, member_single, member_unmap}
use Rattle.palm_model.specs.Log.{IsListOf, Names, NamesOfPair, Removal}
use Rattle.palm_model.specs.Log.Names.{by_itself, by_reason}
use Rattle.palm_explain.specs.declared.entry.Entry.{Entry}
use Rattle.palm_explain.specs.declared.places.PlaceWord.{PlaceWord}
use Rattle.palm_explain.specs.declared.rows.Row.{Row}
use Rattle.palm_explain.specs.declared.rows.TheConstants.{NO_NUMBER}
use Rattle.palm_explain.specs.declared.spans.Span.{Span}
use Rattle.palm_explain.specs.Entries.{AreEntered, log_of, pairs_with, removal_of, row_span, span_pairs, written}
use Rattle.palm_explain.specs.Explanations.{NamesOfSome}
use Rattle.palm_explain.specs.Needed.{AreNeeded, Climbs, Falls, HasNoted, IsNeeded, IsNeededAt, IsWalked}
use Rattle.palm_explain.specs.Needed.IsNeeded.{is_claimed, is_reason}
use Rattle.palm_explain.specs.CidSets.{AddsSome, CidMembers, IsJoined, IsMember}
use Rattle.palm_explain.specs.Places.{HasPlace, IsLastBelow}
use Rattle.palm_explain.specs.Rows.{HasNumber, number_at, number_in, rest_in, row_number, span_in}
use Rattle.palm_explain.proofs.CidSets.{some_both, some_of}
use Rattle.palm_explain.proofs.NamedSome.{listed_like}
use Rattle.palm_explain.proofs.Reasons.{entry_once, entry_places, entry_rises, map_place, parted_entry, place_unmap, some_same, span_value, written_number}

-- ---- notes

-- first these pairs, and then those
pub noted_both : (rows : List Row) (old middle new : List PlaceWord) (first then : List Pair) → HasNoted rows old middle first → HasNoted rows middle new then → HasNoted rows old new (first ++ then)
noted_both rows old middle new first then one two = record {
  stay = λ k h. two.stay k (one.stay k h);
  more = λ p k m has. elim (Contains-append_cases first then p m) [ inl f ↦ two.stay k (one.more p k f has) | inr t ↦ two.more p k t has ];
  only = λ k h. elim (two.only k h) [
    | inl o ↦ elim (one.only k o) [ inl was ↦ inl was | inr f ↦ inr (f.0, Contains-append_left first then f.0 f.1, f.2) ]
    | inr t ↦ inr (t.0, Contains-append_right first then t.0 t.1, t.2)
  ];
}

number_same : (rows : List Row) (p q : Pair) (j k : ℕ) → p ≡ q → HasNumber rows p j → HasNumber rows q k → j ≡ k
number_same rows p q j k same one two = some_same j k (sym one.stands ∙ ap (number_at rows) same ∙ two.stands)

-- one pair that is removed
pub noted_one : (rows : List Row) (old new : List PlaceWord) (p : Pair) (k : ℕ) → HasNumber rows p k → HasPlace new k → ((j : ℕ) → HasPlace old j → HasPlace new j) → ((j : ℕ) → HasPlace new j → HasPlace old j ⊎ (k ≡ j))
    → HasNoted rows old new (p ∷ [])
noted_one rows old new p k is there stay only = record {
  stay = stay;
  more = λ q j m has. subst (HasPlace new) (number_same rows p q k j (member_single p q m) is has) there;
  only = λ j h. elim (only j h) [ inl o ↦ inl o | inr e ↦ inr (p, member_here p [], subst (HasNumber rows p) e is) ];
}

-- one that is not
pub noted_absent : (rows : List Row) (noted : List PlaceWord) (p : Pair) → ((k : ℕ) → HasNumber rows p k → ⊥) → HasNoted rows noted noted (p ∷ [])
noted_absent rows noted p none = record {
  stay = λ k h. h;
  more = λ q k m has. absurd (none k (subst (λ r. HasNumber rows r k) (sym (member_single p q m)) has));
  only = λ k h. inl h;
}

pub number_none : (rows : List Row) (p : Pair) → number_at rows p ≡ None → (k : ℕ) → HasNumber rows p k → ⊥
number_none rows p none k has = none_some (sym none ∙ has.stands)
  where
    none_some : None ≡ Some k → ⊥
    none_some e = cc

pub number_unset : (rows : List Row) (p : Pair) (j : ℕ) → number_at rows p ≡ Some j → j ≡ NO_NUMBER → (k : ℕ) → HasNumber rows p k → ⊥
number_unset rows p j is unset k has = has.removed (some_same k j (sym has.stands ∙ is) ∙ unset)

pub pairs_more : (x : ℕ) (values : List ℤ) (i : ℕ) (d : ℤ) → i < length values → pairs_with x (take (i + 1) values) ≡ pairs_with x (take i values) ++ record { var = x; value = get_or values i d } ∷ []
pairs_more x values i d lt =
    let f : ℤ → Pair = λ v. record { var = x; value = v } in
    ap (map f) (take_more values i d lt) ∙ map-append f (take i values) (get_or values i d ∷ [])

pub written_more : (rows : List Row) (n : ℕ) (spans : List Span) (i : ℕ) (d : Span) → i < length spans → written rows n (take (i + 1) spans) ≡ written rows n (take i spans) ++ span_pairs rows n (get_or spans i d)
written_more rows n spans i d lt = ap (written rows n) (take_more spans i d lt) ∙ written_push (take i spans) (get_or spans i d)
  where
    written_push : (ss : List Span) (s : Span) → written rows n (ss ++ s ∷ []) ≡ written rows n ss ++ span_pairs rows n s
    written_push [] s = append-nil (span_pairs rows n s)
    written_push (t ∷ ss) s = ap (λ ps. span_pairs rows n t ++ ps) (written_push ss s) ∙ sym (append_assoc (span_pairs rows n t) (written rows n ss) (span_pairs rows n s))

-- of the reasons of a span those are noted that stand before the place
pub record IsPartNoted (rows : List Row) (r : Row) (n : ℕ) (s : Span) (place : ℕ) (old new : List PlaceWord) : Type 0 where
  pub done : List ℤ
  pub split : done ++ rest_in r n s.high place ≡ span_in r n s.low s.high
  pub noted : HasNoted rows old new (pairs_with s.var done)

module _ (rows : List Row) (r : Row) (n : ℕ) (s : Span) (here : slice_get rows s.var ≡ Some r) (old : List PlaceWord) where
  pub part_next : (middle new : List PlaceWord) (place next k : ℕ) (v : ℤ) → IsPartNoted rows r n s place old middle → rest_in r n s.high place ≡ v ∷ rest_in r n s.high (next + 1) → number_in r.values.items r.numbers.items v ≡ Some k → n ≤ NO_NUMBER
      → HasPlace new k → ((j : ℕ) → HasPlace middle j → HasPlace new j) → ((j : ℕ) → HasPlace new j → HasPlace middle j ⊎ (k ≡ j)) → IsPartNoted rows r n s (next + 1) old new
  part_next middle new place next k v part rest is most there stay only =
      let f : ℤ → Pair = λ w. record { var = s.var; value = w } in
      let split = append_assoc part.done (v ∷ []) (rest_in r n s.high (next + 1)) ∙ ap (λ l. part.done ++ l) (sym rest) ∙ part.split in
      let m = subst (λ l. Contains l v) split (Contains-append_left (part.done ++ v ∷ []) (rest_in r n s.high (next + 1)) v (Contains-push part.done v)) in
      let value = span_value rows n s v (subst (λ o. Contains (row_span o n s.low s.high) v) (sym here) m) in
      let stands : number_at rows (f v) ≡ Some k = ap (λ o. row_number o v) here ∙ is in
      let same : value.number ≡ k = some_same value.number k (sym value.stands ∙ stands) in
      record {
        done = part.done ++ v ∷ [];
        split = split;
        noted = subst (HasNoted rows old new) (sym (map-append f part.done (v ∷ [])))
            (noted_both rows old middle new (pairs_with s.var part.done) (f v ∷ []) part.noted
            (noted_one rows middle new (f v) k (record { stands = stands; removed = λ e. (let lt = value.before in absurd (omega (arith, lt, same, e, most))) }) there stay only));
      }

-- ---- the walk

module _ (entries : List Entry) (rows : List Row) (next : ℕ) (are : AreEntered entries rows next) where
  numbered_entry : (p : Pair) (k : ℕ) → HasNumber rows p k → (e : Entry) × Contains entries e × (e.pair ≡ p) × (e.number ≡ k)
  numbered_entry p k has = elim (are.only p k has.stands) [ inl none ↦ absurd (has.removed none) | inr e ↦ e ]

  entry_below : (e : Entry) → Contains entries e → e.number < NO_NUMBER
  entry_below e m = let lt = are.below e m in let most = are.most in omega (arith, lt, most)

  entry_number : (e : Entry) → Contains entries e → HasNumber rows e.pair e.number
  entry_number e m = record { stands = are.found e m; removed = λ none. (let lt = entry_below e m in absurd (omega (arith, lt, none))) }

  -- at the start
  pub walk_begun : (pairs : List Pair) (noted : List PlaceWord) → HasNoted rows [] noted pairs → IsWalked entries rows pairs noted NO_NUMBER []
  walk_begun pairs noted new = record {
    sound = λ k h. elim (new.only k h) [
      | inl o ↦ absurd (member_nil o.0 o.1)
      | inr f ↦ let e = numbered_entry f.0 k f.2 in (e.0, e.1, e.3, is_claimed e.0.pair (member_same pairs f.0 e.0.pair (sym e.2) f.1))
    ];
    begun = λ e m claimed. new.more e.pair e.number claimed (entry_number e m);
    closed = λ e f m n h ge reason. (let lt = entry_below e m in absurd (omega (arith, lt, ge)));
    listed = λ p. (λ m. absurd (member_nil p m), λ h. (let lt = entry_below h.0 (member_get entries p h.0 h.1) in let ge = h.3 in absurd (omega (arith, lt, ge))));
    falls = λ i j d l lt. absurd (omega (arith, lt));
  }

  -- a number that is noted has its entry at its place
  pub walk_here : (pairs : List Pair) (noted : List PlaceWord) (end number place : ℕ) (visited : List ℕ) → IsWalked entries rows pairs noted end visited → HasPlace noted number → IsPartedAt (λ f. nat_lt f.number number) entries place
      → (e : Entry) × (slice_get entries place ≡ Some e) × (e.number ≡ number)
  walk_here pairs noted end number place visited walked has at =
      let e = walked.sound number has in
      (e.0, parted_entry entries are.rises place e.0 e.1 (subst (λ n. IsPartedAt (λ f. nat_lt f.number n) entries place) (sym e.2) at), e.2)

  -- an entry whose number is noted is needed
  pub walk_needs : (pairs : List Pair) (noted : List PlaceWord) (end number : ℕ) (visited : List ℕ) → IsWalked entries rows pairs noted end visited → HasPlace noted number → (e : Entry) → Contains entries e → e.number ≡ number
      → IsNeeded (log_of rows entries) pairs e.pair
  walk_needs pairs noted end number visited walked has e among is =
      let f = walked.sound number has in
      subst (λ (g : Entry). IsNeeded (log_of rows entries) pairs g.pair) (entry_once entries are.rises f.0 e f.1 among (f.2 ∙ sym is)) f.3

  -- what is visited is needed
  pub walk_needed : (pairs : List Pair) (noted : List PlaceWord) (end : ℕ) (visited : List ℕ) → IsWalked entries rows pairs noted end visited → (place : ℕ) → Contains visited place → IsNeededAt (log_of rows entries) pairs place
  walk_needed pairs noted end visited walked place m =
      let h = (walked.listed place).0 m in
      (removal_of rows h.0, map_place (removal_of rows) entries place h.0 h.1, walk_needs pairs noted end h.0.number visited walked h.2 h.0 (member_get entries place h.0 h.1) refl)

  -- past one more removal
  module _ (pairs : List Pair) (noted more : List PlaceWord) (end number place : ℕ) (e : Entry) (visited : List ℕ) (walked : IsWalked entries rows pairs noted end visited) (last : IsLastBelow noted end number)
      (here : slice_get entries place ≡ Some e) (is : e.number ≡ number) (new : HasNoted rows noted more (written rows e.number e.spans.items)) where
    among : Contains entries e
    among = member_get entries place e here

    needed : IsNeeded (log_of rows entries) pairs e.pair
    needed = walk_needs pairs noted end number visited walked last.has e among is

    -- what is noted anew is less
    first : (k : ℕ) → HasPlace more k → HasPlace noted k ⊎ (k < number)
    first k h = elim (new.only k h) [
      | inl o ↦ inl o
      | inr f ↦
          let w = written_number rows e.number e.spans.items f.0 f.1 in
          let j = w.4 in
          let same = some_same j.0 k (sym j.1 ∙ f.2.stands) in
          let lt = j.2 in inr (omega (arith, lt, same, is))
    ]

    was : (k : ℕ) → HasPlace more k → number ≤ k → HasPlace noted k
    was k h ge = elim (first k h) [ inl o ↦ o | inr lt ↦ absurd (omega (arith, lt, ge)) ]

    is_number : (k : ℕ) → HasPlace more k → number ≤ k → (end ≤ k) ⊎ (k ≡ number)
    is_number k h ge = elim (cases_lt k end) [
      | inl lt ↦ let most = last.last k (was k h ge) lt in inr (omega (arith, ge, most))
      | inr le ↦ inl le
    ]

    same_place : (p : ℕ) (f : Entry) → slice_get entries p ≡ Some f → f.number ≡ number → place ≡ p
    same_place p f at same = elim (cases_lt p place) [
      | inl l ↦ let lt = entry_rises entries are.rises p place f e l at here in absurd (omega (arith, lt, same, is))
      | inr ge ↦ elim (cases_lt place p) [
        | inl l ↦ let lt = entry_rises entries are.rises place p e f l here at in absurd (omega (arith, lt, same, is))
        | inr le ↦ omega (arith, ge, le)
      ]
    ]

    pub walk_next : IsWalked entries rows pairs more number (visited ++ place ∷ [])
    walk_next = record {
      sound = λ k h. elim (new.only k h) [
        | inl o ↦ walked.sound k o
        | inr f ↦
            let g = numbered_entry f.0 k f.2 in
            let reason = member_same (written rows e.number e.spans.items) f.0 g.0.pair (sym g.2) f.1 in
            (g.0, g.1, g.3, is_reason (removal_of rows e) g.0.pair (member_map (removal_of rows) entries e among) needed reason)
      ];
      begun = λ f m claimed. new.stay f.number (walked.begun f m claimed);
      closed = λ f g m n h ge reason. elim (is_number f.number h ge) [
        | inl le ↦ new.stay g.number (walked.closed f g m n (was f.number h ge) le reason)
        | inr same ↦
            let one = entry_once entries are.rises f e m among (same ∙ sym is) in
            new.more g.pair g.number (subst (λ (z : Entry). Contains (written rows z.number z.spans.items) g.pair) one reason) (entry_number g n)
      ];
      listed = λ p. (
        λ m. elim (Contains-push_cases visited place p m) [
          | inl o ↦ let h = (walked.listed p).0 o in (h.0, h.1, new.stay h.0.number h.2, (let le = h.3 in let below = last.below in omega (arith, le, below)))
          | inr same ↦ (e, subst (λ q. slice_get entries q ≡ Some e) same here, new.stay e.number (subst (HasPlace noted) (sym is) last.has), omega (arith, is))
        ],
        λ h. elim (is_number h.0.number h.2 h.3) [
          | inl le ↦ Contains-append_left visited (place ∷ []) p ((walked.listed p).1 (h.0, h.1, was h.0.number h.2 h.3, le))
          | inr same ↦ member_same (visited ++ place ∷ []) place p (same_place p h.0 h.1 same) (Contains-push visited place)
        ],
      );
      falls = λ i j d l lt.
          let long = length_push visited place in
          elim (cases_lt j (length visited)) [
            | inl jl ↦
                let falls = walked.falls i j d l jl in
                let one = get_or_append_left visited (place ∷ []) d i (omega (arith, l, jl)) in
                let two = get_or_append_left visited (place ∷ []) d j jl in omega (arith, falls, one, two)
            | inr jg ↦
                let at : j ≡ length visited = omega (arith, long, lt, jg) in
                let il : i < length visited = omega (arith, l, at) in
                let one = get_or_append_left visited (place ∷ []) d i il in
                let two = get_or_push visited place d j (sym at) in
                let m : Contains visited (get_or visited i d) = (i, il, get_or_default visited i (get_or visited i d) d il) in
                let h = (walked.listed (get_or visited i d)).0 m in
                let far = h.3 in
                let below = last.below in
                let lt = entry_places entries are.rises place (get_or visited i d) e h.0 here h.1 (omega (arith, is, far, below)) in omega (arith, one, two, lt)
          ];
    }

  -- at the end
  module _ (pairs : List Pair) (noted : List PlaceWord) (end : ℕ) (visited : List ℕ) (walked : IsWalked entries rows pairs noted end visited) (none : (k : ℕ) → HasPlace noted k → k < end → ⊥) where
    from_end : (k : ℕ) → HasPlace noted k → end ≤ k
    from_end k h = elim (cases_lt k end) [ inl lt ↦ absurd (none k h lt) | inr le ↦ le ]

    needed_noted : (p : Pair) → IsNeeded (log_of rows entries) pairs p → (e : Entry) → Contains entries e → e.pair ≡ p → HasPlace noted e.number
    needed_noted _ (is_claimed p m) e n same = walked.begun e n (member_same pairs p e.pair (sym same) m)
    needed_noted _ (is_reason r p m needed reason) e n same =
        let u = member_unmap (removal_of rows) entries r m in
        let has = needed_noted r.pair needed u.0 u.1 (ap (λ (z : Removal). z.pair) u.2) in
        let among : Contains (written rows u.0.number u.0.spans.items) p = subst (λ (z : Removal). Contains z.reasons p) (sym u.2) reason in
        walked.closed u.0 e u.1 n has (from_end u.0.number has) (member_same (written rows u.0.number u.0.spans.items) p e.pair (sym same) among)

    pub walk_ended : (place : ℕ) → Contains visited place ↔ IsNeededAt (log_of rows entries) pairs place
    walk_ended place = (
      λ m. walk_needed pairs noted end visited walked place m,
      λ n.
          let e = place_unmap (removal_of rows) entries place n.0 n.1 in
          let has = needed_noted n.0.pair n.2 e.0 (member_get entries place e.0 e.1) (ap (λ (z : Removal). z.pair) e.2) in
          (walked.listed place).1 (e.0, e.1, has, from_end e.0.number has),
    )

-- ---- the other way round

pub reversed_climbs : (places : List ℕ) → Falls places → Climbs (reverse places)
reversed_climbs places falls i j d l lt =
    let long = length-reverse places in
    let one = get_or-reverse places i d (omega (arith, long, l, lt)) in
    let two = get_or-reverse places j d (omega (arith, long, lt)) in
    let falls = falls (length places - 1 - j) (length places - 1 - i) d (omega (arith, long, l, lt)) (omega (arith, long, l, lt)) in omega (arith, one, two, falls)

pub needed_reversed : (log : List Removal) (pairs : List Pair) (places turned : List ℕ) → turned ≡ reverse places → IsPermutation places turned → Falls places → ((place : ℕ) → Contains places place ↔ IsNeededAt log pairs place) → AreNeeded log pairs turned
needed_reversed log pairs places turned is moved falls each = record {
  climbs = subst Climbs (sym is) (reversed_climbs places falls);
  each = λ place. (
    λ m. (each place).0 (Contains-permutation turned places place (IsPermutation-sym places turned moved) m),
    λ n. Contains-permutation places turned place moved ((each place).1 n),
  );
}

-- ---- the constraints of what is needed

module _ (log : List Removal) (x : ℕ) (values : List ℤ) where
  -- what explains a needed removal explains one of the values
  needed_explains : (cid : Cid) (p : Pair) → IsNeeded log (pairs_with x values) p → (r : Removal) → Contains log r → r.pair ≡ p → Names log cid r → NamesOfSome log x values cid
  needed_explains cid _ (is_claimed p m) r n e names =
      let v = member_unmap (λ (w : ℤ). let q : Pair = record { var = x; value = w } in q) values p m in
      record { value = v.0; among = v.1; names = record { removal = r; logged = n; is = e ∙ sym v.2; names = names } }
  needed_explains cid _ (is_reason s p m needed reason) r n e names =
      needed_explains cid s.pair needed s m refl (by_reason s r n (member_same s.reasons p r.pair (sym e) reason) names)

  -- a removal that is needed is by a constraint that explains one of the values
  pub by_explains : (r : Removal) → Contains log r → IsNeeded log (pairs_with x values) r.pair → NamesOfSome log x values r.by
  by_explains r m needed = needed_explains r.by r.pair needed r m refl (by_itself r refl)

  named_needed : (cid : Cid) (r : Removal) → Names log cid r → Contains log r → IsNeeded log (pairs_with x values) r.pair → (t : Removal) × Contains log t × IsNeeded log (pairs_with x values) t.pair × (t.by ≡ cid)
  named_needed cid _ (by_itself r e) m needed = (r, m, needed, e)
  named_needed cid _ (by_reason r s m reason names) n needed = named_needed cid s names m (is_reason r s.pair n needed reason)

  -- and each that does has made one
  pub explains_by : (cid : Cid) → NamesOfSome log x values cid → (t : Removal) × Contains log t × IsNeeded log (pairs_with x values) t.pair × (t.by ≡ cid)
  explains_by cid some =
      let n = some.names in
      let claimed = member_map (λ (w : ℤ). let q : Pair = record { var = x; value = w } in q) values some.value some.among in
      named_needed cid n.removal n.names n.logged (is_claimed n.removal.pair (member_same (pairs_with x values) (record { var = x; value = some.value }) n.removal.pair (sym n.is) claimed))

-- the constraint made one of the removals at these places
abbrev pub IsMakerAt : List Removal → List ℕ → Cid → Type 0
IsMakerAt log places cid = (place : ℕ) × (r : Removal) × Contains places place × (slice_get log place ≡ Some r) × (r.by ≡ cid)

pub makers_none : (log : List Removal) (old : Cid → Type 0) → IsJoined old (IsMakerAt log []) old
makers_none log old = record { sound = λ c m. inl m; first = λ c m. m; second = λ c k. absurd (member_nil k.0 k.2) }

-- one more of the removals is looked at
pub makers_more : (log : List Removal) (places : List ℕ) (place : ℕ) (r : Removal) (old ids more : Cid → Type 0) → slice_get log place ≡ Some r → IsJoined old (IsMakerAt log places) ids → IsJoined ids (λ c. c ≡ r.by) more
    → IsJoined old (IsMakerAt log (places ++ place ∷ [])) more
makers_more log places place r old ids more there are joined = record {
  sound = λ c m. elim (joined.sound c m) [
    | inl o ↦ elim (are.sound c o) [ inl was ↦ inl was | inr k ↦ inr (k.0, k.1, Contains-append_left places (place ∷ []) k.0 k.2, k.3, k.4) ]
    | inr e ↦ inr (place, r, Contains-push places place, there, sym e)
  ];
  first = λ c m. joined.first c (are.first c m);
  second = λ c k. elim (Contains-push_cases places place k.0 k.2) [
    | inl o ↦ joined.first c (are.second c (k.0, k.1, o, k.3, k.4))
    | inr e ↦ let same : r ≡ k.1 = some_same r k.1 (sym there ∙ ap (λ j. slice_get log j) e ∙ k.3) in joined.second c (sym (ap (λ (z : Removal). z.by) same ∙ k.4))
  ];
}

-- the walk has come down to the end, with the constraints of what it passed
pub record IsWalkedBy (entries : List Entry) (rows : List Row) (pairs : List Pair) (noted : List PlaceWord) (end : ℕ) (old ids : Cid → Type 0) : Type 0 where
  pub visited : List ℕ
  pub walked : IsWalked entries rows pairs noted end visited
  pub made : IsJoined old (IsMakerAt (log_of rows entries) visited) ids

-- who made what the values need is in their explanations
pub maker_explains : (log : List Removal) (x : ℕ) (values : List ℤ) (places : List ℕ) → ((place : ℕ) → Contains places place → IsNeededAt log (pairs_with x values) place) → (c : Cid) → IsMakerAt log places c → NamesOfSome log x values c
maker_explains log x values places each c k =
    let needed = each k.0 k.2 in
    let same : needed.0 ≡ k.1 = some_same needed.0 k.1 (sym needed.1 ∙ k.3) in
    subst (NamesOfSome log x values) k.4 (by_explains log x values k.1 (member_get log k.0 k.1 k.3) (subst (λ (z : Removal). IsNeeded log (pairs_with x values) z.pair) same needed.2))

-- and at the end that is all of them
pub makers_explain : (log : List Removal) (x : ℕ) (values : List ℤ) (places : List ℕ) (old ids : Cid → Type 0) → ((place : ℕ) → Contains places place ↔ IsNeededAt log (pairs_with x values) place) → IsJoined old (IsMakerAt log places) ids
    → IsJoined old (NamesOfSome log x values) ids
makers_explain log x values places old ids each are = record {
  sound = λ c m. elim (are.sound c m) [ inl o ↦ inl o | inr k ↦ inr (maker_explains log x values places (λ place. (each place).0) c k) ];
  first = are.first;
  second = λ c some.
      let t = explains_by log x values c some in
      let p = member_place log t.0 t.1 in
      are.second c (p.0, t.0, (each p.0).1 (t.0, p.1, t.2), p.1, t.3);
}

-- what the walk has added with one more constraint, and without memory perhaps not that
module _ (entries : List Entry) (rows : List Row) (next : ℕ) (are : AreEntered entries rows next) (x : ℕ) (values : List ℤ) where
  pub walk_adds : (noted : List PlaceWord) (end number place : ℕ) (visited : List ℕ) (e : Entry) → IsWalked entries rows (pairs_with x values) noted end visited → HasPlace noted number → IsPartedAt (λ f. nat_lt f.number number) entries place → slice_get entries place ≡ Some e
      → (old ids more : CidMembers) → IsJoined (IsMember old) (IsMakerAt (log_of rows entries) visited) (IsMember ids) → AddsSome ids (λ c. c ≡ e.by) more → AddsSome old (NamesOfSome (log_of rows entries) x values) more
  walk_adds noted end number place visited e walked has at here old ids more made some =
      let log = log_of rows entries in
      let pairs = pairs_with x values in
      let f = walk_here entries rows next are pairs noted end number place visited walked has at in
      let is : e.number ≡ number = ap (λ (g : Entry). g.number) (some_same e f.0 (sym here ∙ f.1)) ∙ f.2 in
      let among = member_get entries place e here in
      let explained = by_explains log x values (removal_of rows e) (member_map (removal_of rows) entries e among) (walk_needs entries rows next are pairs noted end number visited walked has e among is) in
      some_both old ids more (IsMakerAt log visited) (λ c. c ≡ e.by) (NamesOfSome log x values)
      (maker_explains log x values visited (walk_needed entries rows next are pairs noted end visited walked)) (λ c is. subst (NamesOfSome log x values) (sym is) explained) (some_of old (IsMakerAt log visited) ids made) some

-- one value of a variable is a pair
pub one_value : (log : List Removal) (p : Pair) (cids : List Cid) → IsListOf (NamesOfSome log p.var (p.value ∷ [])) cids → IsListOf (NamesOfPair log p) cids
one_value log p cids list =
    listed_like (NamesOfSome log p.var (p.value ∷ [])) (NamesOfPair log p) cids
    (λ c some. subst (λ v. NamesOfPair log (record { var = p.var; value = v }) c) (sym (member_single p.value some.value some.among)) some.names)
    (λ c one. record { value = p.value; among = member_here p.value []; names = one }) list
