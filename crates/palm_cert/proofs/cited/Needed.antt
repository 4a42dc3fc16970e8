-- The steps are the removals that the claim needs, and their constraints are those of its explanation.
use Rattle.std.proofs.Common.{◌≡◌, ℕ, ℤ, Bool, true, false, cond, List, [], ◌∷◌, ◌++◌, filter, Contains, inl, inr, refl, sym, ap, ◌∙◌, subst, append-nil}
use Rattle.std.proofs.lemmas.List.Folds.{Any-from_list_any, list_any-from_Any}
use Rattle.palm_base.specs.declared.terms.Pair.{Pair}
use Rattle.palm_base.specs.declared.terms.Cid.{Cid}
use Rattle.palm_base.specs.declared.terms.Cid.TheVariants.{User}
use Rattle.palm_base.proofs.cited.Members.{member_here, member_there, member_same, member_map, member_unmap, member_filter, filter_member}
use Rattle.palm_book.specs.declared.book.BookCon.{BookCon}
use Rattle.palm_book.proofs.cited.Any.{any_member, member_any}
use Rattle.palm_base.proofs.cited.CidOrder.{cid_same, same_cid_itself}
use Rattle.palm_model.specs.Domains.{Domains}
use Rattle.palm_base.specs.Order.{same_cid}
use Rattle.palm_model.specs.Log.{Active, AreRight, IsRight, IsWellFounded, Removal, Names, NamesOfPair, log_pairs}
use Rattle.palm_model.specs.Log.Names.{by_itself, by_reason}
use Rattle.palm_explain.specs.Explanations.{AreLinked, IsLinked, NamesOfSome}
use Rattle.palm_explain.specs.Needed.{IsNeeded, pairs_with}
use Rattle.palm_explain.specs.Needed.IsNeeded.{is_claimed, is_reason}
use Rattle.palm_cert.specs.Certificate.{asked, is_asked, is_cited, steps_of}
use Rattle.palm_cert.proofs.cited.Links.{asked_cases, asked_member, claimed_asked, member_asked, pair_logged, pair_removal, passed_pair, reasons_asked}
use Rattle.std.proofs.lemmas.List.Elements.{filter-append}

module _ (log : List Removal) (pairs : List Pair) where
  pub asked_needed : (later : List Removal) → ((r : Removal) → Contains later r → Contains log r) → (p : Pair) → Contains (asked later pairs) p → IsNeeded log pairs p
  asked_needed [] inside p m = is_claimed p m
  asked_needed (s ∷ later) inside p m = elim (asked_cases (is_asked (asked later pairs) s.pair) (asked later pairs) s.reasons p m) [
    | inl k ↦ asked_needed later (λ r n. inside r (member_there s later r n)) p k
    | inr k ↦ is_reason s p (inside s (member_here s later)) (asked_needed later (λ r n. inside r (member_there s later r n)) s.pair (asked_member (asked later pairs) s.pair k.0)) k.1
  ]

  pub needed_asked : IsLinked log → (p : Pair) → IsNeeded log pairs p → Contains (asked log pairs) p
  needed_asked linked _ (is_claimed p m) = claimed_asked log pairs p m
  needed_asked linked _ (is_reason r p m n k) = reasons_asked log pairs linked r p m (needed_asked linked r.pair n) k

  -- the steps are the removals whose pairs are needed
  pub step_needed : (r : Removal) → Contains (steps_of log pairs) r → Contains log r × IsNeeded log pairs r.pair
  step_needed r m =
      let k = filter_member (λ (s : Removal). is_asked (asked log pairs) s.pair) log r m in
      (k.0, asked_needed log (λ s n. n) r.pair (asked_member (asked log pairs) r.pair k.1))

  pub needed_step : IsLinked log → (r : Removal) → Contains log r → IsNeeded log pairs r.pair → Contains (steps_of log pairs) r
  needed_step linked r m n =
      member_filter (λ (s : Removal). is_asked (asked log pairs) s.pair) log r m (member_asked (asked log pairs) r.pair (needed_asked linked r.pair n))

  -- ---- explanations

  -- what explains a needed removal explains a claimed pair
  claimed_names : (cid : Cid) (p : Pair) → IsNeeded log pairs p → (r : Removal) → Contains log r → r.pair ≡ p → Names log cid r → (q : Pair) × Contains pairs q × NamesOfPair log q cid
  claimed_names cid _ (is_claimed p m) r n e names = (p, m, record { removal = r; logged = n; is = e; names = names })
  claimed_names cid _ (is_reason s p m needed k) r n e names =
      claimed_names cid s.pair needed s m refl (by_reason s r n (member_same s.reasons p r.pair (sym e) k) names)

  -- a name of what is asked for is that of a step
  names_step : IsLinked log → (cid : Cid) (r : Removal) → Names log cid r → Contains log r → Contains (asked log pairs) r.pair → (t : Removal) × Contains (steps_of log pairs) t × (t.by ≡ cid)
  names_step linked cid _ (by_itself r e) m a = (r, member_filter (λ (s : Removal). is_asked (asked log pairs) s.pair) log r m (member_asked (asked log pairs) r.pair a), e)
  names_step linked cid _ (by_reason r s m k names) n a = names_step linked cid s names m (reasons_asked log pairs linked r s.pair n a k)

module _ (log : List Removal) (x : ℕ) (values : List ℤ) where
  -- a step is by a constraint that explains one of the values
  pub step_explains : (r : Removal) → Contains (steps_of log (pairs_with x values)) r → NamesOfSome log x values r.by
  step_explains r m =
      let k = step_needed log (pairs_with x values) r m in
      let q = claimed_names log (pairs_with x values) r.by r.pair k.1 r k.0 refl (by_itself r refl) in
      let v = member_unmap (λ (w : ℤ). let p : Pair = record { var = x; value = w } in p) values q.0 q.1 in
      record { value = v.0; among = v.1; names = subst (λ (p : Pair). NamesOfPair log p r.by) (sym v.2) q.2 }

  -- a constraint that explains one of the values has a step
  pub explaining_step : IsLinked log → (cid : Cid) → NamesOfSome log x values cid → (t : Removal) × Contains (steps_of log (pairs_with x values)) t × (t.by ≡ cid)
  explaining_step linked cid some =
      let pairs = pairs_with x values in
      let claimed = member_map (λ (w : ℤ). let p : Pair = record { var = x; value = w } in p) values some.value some.among in
      let n = some.names in
      names_step log pairs linked cid n.removal n.names n.logged (claimed_asked log pairs n.removal.pair (member_same pairs (record { var = x; value = some.value }) n.removal.pair (sym n.is) claimed))

-- ---- the constraints of the steps

-- a constraint is cited exactly where it explains one of the values
pub cited_explains : (log : List Removal) (x : ℕ) (values : List ℤ) (c : BookCon) → is_cited (steps_of log (pairs_with x values)) c ≡ true → NamesOfSome log x values (User c.number)
cited_explains log x values c t =
    let steps = steps_of log (pairs_with x values) in
    let r = member_any (λ (r : Removal). same_cid r.by (User c.number) ≡ true) steps (Any-from_list_any (λ (r : Removal). same_cid r.by (User c.number)) steps t) in
    subst (λ (cid : Cid). NamesOfSome log x values cid) (cid_same r.0.by (User c.number) r.2) (step_explains log x values r.0 r.1)

pub explains_cited : (log : List Removal) (x : ℕ) (values : List ℤ) (c : BookCon) → IsLinked log → NamesOfSome log x values (User c.number) → is_cited (steps_of log (pairs_with x values)) c ≡ true
explains_cited log x values c linked some =
    let steps = steps_of log (pairs_with x values) in
    let r = explaining_step log x values linked (User c.number) some in
    list_any-from_Any (λ (r : Removal). same_cid r.by (User c.number)) steps
    (any_member (λ (r : Removal). same_cid r.by (User c.number) ≡ true) steps r.0 r.1 (subst (λ (cid : Cid). same_cid cid (User c.number) ≡ true) (sym r.2) (same_cid_itself (User c.number))))

-- ---- the steps are a log of their own

pub right_linked : (initial : Domains) (active : List Active) (earlier later : List Removal) → AreRight initial active earlier later → AreLinked earlier later
right_linked initial active earlier [] right = tt
right_linked initial active earlier (r ∷ later) right =
    (record { fresh = right.0.fresh; reasons = right.0.reasons }, right_linked initial active (earlier ++ r ∷ []) later right.1)

module _ (initial : Domains) (active : List Active) (log : List Removal) (pairs : List Pair) (founded : IsWellFounded initial active log) where
  abbrev is_step : Removal → Bool
  is_step r = is_asked (asked log pairs) r.pair

  right_step : (earlier : List Removal) (r : Removal) → IsRight initial active earlier r → Contains log r → is_step r ≡ true → IsRight initial active (filter is_step earlier) r
  right_step earlier r right m t = record {
    owner = right.owner;
    posted = right.posted;
    named = right.named;
    declared = right.declared;
    fresh = λ k. right.fresh (passed_pair is_step earlier r.pair k);
    reasons = λ p k.
        let q = pair_removal earlier p (right.reasons p k) in
        let a = reasons_asked log pairs (right_linked initial active [] log founded) r p m (asked_member (asked log pairs) r.pair t) k in
        member_same (log_pairs (filter is_step earlier)) q.0.pair p q.2
        (pair_logged (filter is_step earlier) q.0 (member_filter is_step earlier q.0 q.1 (member_asked (asked log pairs) q.0.pair (member_same (asked log pairs) p q.0.pair (sym q.2) a))));
    lacks = right.lacks;
  }

  right_cases : (earlier : List Removal) (r : Removal) (later : List Removal) (b : Bool) → is_step r ≡ b → IsRight initial active earlier r → Contains log r
      → AreRight initial active (filter is_step (earlier ++ r ∷ [])) later → AreRight initial active (filter is_step earlier) (cond b (r ∷ later) later)
  right_cases earlier r later true e right m rest = (
    right_step earlier r right m e,
    subst (λ (l : List Removal). AreRight initial active l later) (filter-append is_step earlier (r ∷ []) ∙ ap (λ (b : Bool). filter is_step earlier ++ cond b (r ∷ []) []) e) rest,
  )
  right_cases earlier r later false e right m rest =
      subst (λ (l : List Removal). AreRight initial active l later) (filter-append is_step earlier (r ∷ []) ∙ ap (λ (b : Bool). filter is_step earlier ++ cond b (r ∷ []) []) e ∙ append-nil (filter is_step earlier)) rest

  right_steps : (earlier later : List Removal) → ((r : Removal) → Contains later r → Contains log r) → AreRight initial active earlier later → AreRight initial active (filter is_step earlier) (filter is_step later)
  right_steps earlier [] inside right = tt
  right_steps earlier (r ∷ later) inside right =
      right_cases earlier r (filter is_step later) (is_step r) refl right.0 (inside r (member_here r later))
      (right_steps (earlier ++ r ∷ []) later (λ s m. inside s (member_there r later s m)) right.1)

  -- the steps of a well founded log are one
  pub steps_founded : IsWellFounded initial active (steps_of log pairs)
  steps_founded = right_steps [] log (λ r m. m) founded
