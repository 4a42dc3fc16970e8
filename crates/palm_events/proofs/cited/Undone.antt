-- From a settled or empty state, a run that withdraws none of its constraints and ends with them alone gives back the log:
-- each further removal names a constraint that came later.
use Rattle.std.proofs.Common.{◌≡◌, ℕ, true, ◌<◌, List, [], ◌∷◌, ◌++◌, length, filter, Contains, All, ℤ, ◌⊎◌, inl, inr, refl, sym, ap, ◌∙◌, subst, arith, length-append}
use Rattle.std.proofs.lemmas.List.{append_assoc, map-append}
use Rattle.std.proofs.lemmas.List.Elements.{All-contains, All-head, All-tail, Contains-append_cases, Contains-append_left, Contains-append_right, Contains-push, Contains-push_cases}
use Rattle.palm_base.specs.declared.terms.Pair.{Pair}
use Rattle.palm_base.specs.declared.terms.Cid.{Cid}
use Rattle.palm_base.proofs.cited.Members.{Known, member_nil, member_here, member_there, member_cases, member_same, member_map, member_unmap, filter_member, any_known, known_not}
use Rattle.palm_model.specs.Domains.{Domains, Has, values_of, without}
use Rattle.palm_model.specs.Part.{scope_of}
use Rattle.palm_model.specs.Support.{LacksSupport}
use Rattle.palm_base.specs.Order.{Rises, cid_before}
use Rattle.palm_model.specs.Log.{Active, IsActive, Removal, IsRight, AreRight, IsWellFounded, Names, NamesSome, Loses, cids_of, log_pairs, is_named}
use Rattle.palm_model.specs.Log.Names.{by_itself, by_reason}
use Rattle.palm_model.specs.Log.Loses.{is_lost, is_kept}
use Rattle.palm_model.specs.State.{EngineState, HasEmpty, AllFilled, IsValid, present}
use Rattle.palm_model.specs.Event.{Posts, WithdrawsAll, Withdraws, Removes, Calms, Declares, with_posted, without_cids, gone_with, removal_of, Step, StepLeads, Runs}
use Rattle.palm_model.specs.Event.Event.{Post, Withdraw, Remove}
use Rattle.palm_model.specs.Event.Step.{Happens, Calm, Declare}
use Rattle.palm_model.proofs.cited.Formed.{part_scope}
use Rattle.palm_model.proofs.cited.Narrowing.{has_declared}
use Rattle.palm_model.proofs.cited.Without.{pair_of, length_without, without_has, has_without}
use Rattle.palm_events.specs.Along.{IsStill, IsNew, AreNew, KeepsAll, IsFiltering}
use Rattle.palm_events.specs.Reasons.{ReasonsAreRight}
use Rattle.palm_base.proofs.cited.CidOrder.{cid_known, before_then, not_before_itself}
use Rattle.palm_events.proofs.cited.Names.{named_member, single}
use Rattle.palm_events.proofs.cited.Logs.{logged, pair_logged, left_member, left_keeps, kept_member, some_by_reason}
use Rattle.palm_events.proofs.cited.Agreeing.{support_in, values_of_more, pair_known}
use Rattle.palm_events.proofs.cited.States.{with_posted_cases, member_with_posted, without_cids_member, member_without_cids, form_justifiers}
use Rattle.palm_events.proofs.cited.Reasons.{removal_right}
use Rattle.palm_events.proofs.cited.Valid.{active_declared, posts_valid, withdraws_valid}
use Rattle.palm_events.proofs.cited.Runs.{step_valid, run_valid}
use Rattle.palm_events.proofs.cited.Conflicts.{cids_active}

-- ---- ids in longer and in shorter logs

pub cids_append : (log more : List Removal) (cid : Cid) (r : Removal) → Names log cid r → Names (log ++ more) cid r
cids_append log more cid _ (by_itself r e) = by_itself r e
cids_append log more cid _ (by_reason r q m reason cids) = by_reason r q (Contains-append_left log more q m) reason (cids_append log more cid q cids)

-- what is left names what it named
pub cids_left : (log : List Removal) (gone : List Cid) (left : List Removal) (cid : Cid) → Loses log gone log left → (r : Removal) → (NamesSome log gone r → ⊥) → Names log cid r → Names left cid r
cids_left log gone left cid loses _ keeps (by_itself r e) = by_itself r e
cids_left log gone left cid loses _ keeps (by_reason r q m reason cids) =
    let stays : NamesSome log gone q → ⊥ = λ some. keeps (some_by_reason log gone r q m reason some) in
    by_reason r q (kept_member log gone log left loses q m stays) reason (cids_left log gone left cid loses q stays cids)

-- ---- a pair is logged once

once_from : (initial : Domains) (active : List Active) (earlier rest : List Removal) → AreRight initial active earlier rest
    → (q r : Removal) → Contains earlier q → Contains rest r → q.pair ≡ r.pair → ⊥
once_from initial active earlier [] right q r m n e = member_nil r n
once_from initial active earlier (s ∷ rest) right q r m n e = elim (member_cases s rest r n) [
  | inl f ↦ right.0.fresh (member_same (log_pairs earlier) q.pair s.pair (e ∙ sym (ap (λ (z : Removal). z.pair) f)) (pair_logged earlier q m))
  | inr k ↦ once_from initial active (earlier ++ s ∷ []) rest right.1 q r (Contains-append_left earlier (s ∷ []) q m) k e
]

logged_once_from : (initial : Domains) (active : List Active) (earlier rest : List Removal) → AreRight initial active earlier rest
    → (q r : Removal) → Contains rest q → Contains rest r → q.pair ≡ r.pair → q ≡ r
logged_once_from initial active earlier [] right q r m n e = absurd (member_nil q m)
logged_once_from initial active earlier (s ∷ rest) right q r m n e = elim (member_cases s rest q m) [
  | inl f ↦ elim (member_cases s rest r n) [
    | inl g ↦ sym f ∙ g
    | inr k ↦ absurd (once_from initial active (earlier ++ s ∷ []) rest right.1 s r (Contains-push earlier s) k (ap (λ (z : Removal). z.pair) f ∙ e))
  ]
  | inr j ↦ elim (member_cases s rest r n) [
    | inl g ↦ absurd (once_from initial active (earlier ++ s ∷ []) rest right.1 s q (Contains-push earlier s) j (ap (λ (z : Removal). z.pair) g ∙ sym e))
    | inr k ↦ logged_once_from initial active (earlier ++ s ∷ []) rest right.1 q r j k e
  ]
]

pub logged_once : (initial : Domains) (active : List Active) (log : List Removal) → IsWellFounded initial active log → (q r : Removal) → Contains log q → Contains log r → q.pair ≡ r.pair → q ≡ r
logged_once initial active log founded q r m n e = logged_once_from initial active [] log founded q r m n e

-- the owner and the earlier reasons of a removal of a log
reasons_logged_from : (initial : Domains) (active : List Active) (earlier rest : List Removal) → AreRight initial active earlier rest
    → (r : Removal) → Contains rest r → (p : Pair) → Contains r.reasons p → Contains (log_pairs (earlier ++ rest)) p
reasons_logged_from initial active earlier [] right r m p k = absurd (member_nil r m)
reasons_logged_from initial active earlier (s ∷ rest) right r m p k = elim (member_cases s rest r m) [
  | inl e ↦
      let q = logged earlier p (right.0.reasons p (subst (λ (z : Removal). Contains z.reasons p) (sym e) k)) in
      member_same (log_pairs (earlier ++ s ∷ rest)) q.0.pair p q.2 (pair_logged (earlier ++ s ∷ rest) q.0 (Contains-append_left earlier (s ∷ rest) q.0 q.1))
  | inr n ↦ subst (λ l. Contains (log_pairs l) p) (append_assoc earlier (s ∷ []) rest) (reasons_logged_from initial active (earlier ++ s ∷ []) rest right.1 r n p k)
]

pub reasons_logged : (initial : Domains) (active : List Active) (log : List Removal) → IsWellFounded initial active log → (r : Removal) → Contains log r → (p : Pair) → Contains r.reasons p → Contains (log_pairs log) p
reasons_logged initial active log founded r m p k = reasons_logged_from initial active [] log founded r m p k

-- ---- a log of which the first removals are kept

loses_first : (log : List Removal) (gone : List Cid) (r : Removal) (rest left : List Removal) → Loses log gone (r ∷ rest) left → (NamesSome log gone r → ⊥) → (others : List Removal) × (left ≡ r ∷ others) × Loses log gone rest others
loses_first log gone _ _ _ (is_lost r rest left cids loses) keeps = absurd (keeps cids)
loses_first log gone _ _ _ (is_kept r rest left stays loses) keeps = (left, refl, loses)

pub loses_front : (log : List Removal) (gone : List Cid) (front back left : List Removal) → Loses log gone (front ++ back) left → ((r : Removal) → Contains front r → NamesSome log gone r → ⊥)
    → (others : List Removal) × (left ≡ front ++ others) × Loses log gone back others
loses_front log gone [] back left loses keeps = (left, refl, loses)
loses_front log gone (r ∷ front) back left loses keeps =
    let first = loses_first log gone r (front ++ back) left loses (keeps r (member_here r front)) in
    let rest = loses_front log gone front back first.0 first.2 (λ q m. keeps q (member_there r front q m)) in
    (rest.0, first.1 ∙ ap (λ l. r ∷ l) rest.1, rest.2)

-- ---- what a run carries along

-- m has all that s has, and each further removal names a later constraint
pub record Carries (s m : EngineState) : Type 0 where
  pub more : List Removal
  pub log : m.log ≡ s.log ++ more
  pub active : (a : Active) → Contains s.active a → Contains m.active a
  pub declared : (x : ℕ) (v : ℤ) → Has s.initial x v → Has m.initial x v
  pub old : (x : ℕ) (v : ℤ) → x < length s.initial → Has m.initial x v → Has s.initial x v
  pub longer : (x : ℕ) → x < length s.initial → x < length m.initial
  pub later : (r : Removal) → Contains more r → (c : Cid) × IsNew s c × Names m.log c r

pub carries_none : (s : EngineState) → Carries s s
carries_none s = record {
  more = [];
  log = append_nil s.log;
  active = λ a m. m;
  declared = λ x v h. h;
  old = λ x v lt h. h;
  longer = λ x lt. lt;
  later = λ r m. absurd (member_nil r m);
}
  where
    append_nil : (l : List Removal) → l ≡ l ++ []
    append_nil [] = refl
    append_nil (r ∷ l) = ap (λ k. r ∷ k) (append_nil l)

pub carries_posted : (s m : EngineState) (a : Active) (t : EngineState) → Posts m a t → Carries s m → Carries s t
carries_posted s m a t posts carries = subst (λ z. Carries s z) (sym posts.after) (record {
  more = carries.more;
  log = carries.log;
  active = λ b k. member_with_posted a m.active b posts.inactive (carries.active b k);
  declared = carries.declared;
  old = carries.old;
  longer = carries.longer;
  later = carries.later;
})

pub carries_calmed : (s m : EngineState) (a : Active) (t : EngineState) → Calms m a t → Carries s m → Carries s t
carries_calmed s m a t calms carries = subst (λ z. Carries s z) (sym calms.after) (record {
  more = carries.more;
  log = carries.log;
  active = carries.active;
  declared = carries.declared;
  old = carries.old;
  longer = carries.longer;
  later = carries.later;
})

pub carries_declared : (s m : EngineState) (values : List ℤ) (t : EngineState) → Declares m values t → Carries s m → Carries s t
carries_declared s m values t declares carries = subst (λ z. Carries s z) (sym declares.after) (record {
  more = carries.more;
  log = carries.log;
  active = carries.active;
  declared = λ x v h. subst (λ vs. Contains vs v) (sym (values_of_more m.initial values x (carries.longer x (has_declared s.initial x v h)))) (carries.declared x v h);
  old = λ x v lt h. carries.old x v lt (subst (λ vs. Contains vs v) (values_of_more m.initial values x (carries.longer x lt)) h);
  longer = λ x lt. lt_more m.initial values x (carries.longer x lt);
  later = carries.later;
})
  where
    lt_more : (d : Domains) (vs : List ℤ) (x : ℕ) → x < length d → x < length (d ++ vs ∷ [])
    lt_more d vs x lt = omega (arith, length-append d (vs ∷ []))

-- ---- removing

-- what is present afterwards and declared before was present before
old_present : (s m : EngineState) → Carries s m → (x : ℕ) (v : ℤ) → x < length s.initial → Has (present m) x v → Has (present s) x v
old_present s m carries x v lt has =
    let r = without_has m.initial (log_pairs m.log) x v has in
    has_without s.initial (log_pairs s.log) x v (carries.old x v lt r.0) (λ k. r.1
    (let q = logged s.log (pair_of x v) k in
    member_same (log_pairs m.log) q.0.pair (pair_of x v) q.2 (pair_logged m.log q.0 (subst (λ l. Contains l q.0) (sym carries.log) (Contains-append_left s.log carries.more q.0 q.1)))))

-- an empty domain stays empty, and nothing is removed
still_empty : (s m : EngineState) → Carries s m → HasEmpty (present s) → AllFilled (present m) → ⊥
still_empty s m carries empty filled =
    let x = empty.0 in
    let lt : x < length s.initial = subst (λ n. x < n) (length_without s.initial (log_pairs s.log)) empty.1.exists in
    let some = filled x (subst (λ n. x < n) (sym (length_without m.initial (log_pairs m.log))) (carries.longer x lt)) in
    let v = first_value (values_of (present m) x) some in
    member_nil v.0 (subst (λ vs. Contains vs v.0) empty.1.empty (old_present s m carries x v.0 lt v.1))
  where
    first_value : (vs : List ℤ) → 0 < length vs → (v : ℤ) × Contains vs v
    first_value [] lt = absurd (omega arith)
    first_value (v ∷ vs) lt = (v, member_here v vs)

-- a reason that is not among the removals of s, or all of them are
some_later_reason : (s : EngineState) (reasons : List Pair) → ((p : Pair) × Contains reasons p × (Contains (log_pairs s.log) p → ⊥)) ⊎ ((p : Pair) → Contains reasons p → Contains (log_pairs s.log) p)
some_later_reason s reasons = elim (any_known (λ p. Contains (log_pairs s.log) p → ⊥) reasons (λ p m. known_not (pair_known (log_pairs s.log) p))) [
  | inl r ↦ inl r
  | inr none ↦ inr (λ p m. elim (pair_known (log_pairs s.log) p) [ inl k ↦ k | inr n ↦ absurd (none p m n) ])
]

-- a constraint of s that is closed there takes nothing out for reasons of s alone
closed_takes_none : (s m : EngineState) → Carries s m → IsValid s → s.pending ≡ [] → (a : Active) (p : Pair) → Contains s.active a → Has (present m) p.var p.value
    → (reasons : List Pair) → LacksSupport (without m.initial reasons) a.con p.var p.value → ((q : Pair) → Contains reasons q → Contains (log_pairs s.log) q) → ⊥
closed_takes_none s m carries valid quiet a p posted has reasons lacks old =
    let closed = valid.closed a posted (λ k. member_nil a.cid (subst (λ cs. Contains cs a.cid) quiet k)) in
    let declared = λ (y : ℕ) (over : Contains (scope_of lacks.part) y). active_declared s valid a posted y (part_scope a.con lacks.part y lacks.is_part over) in
    let was = old_present s m carries p.var p.value (declared p.var lacks.over) has in
    lacks.lacks (support_in (present s) (without m.initial reasons) lacks.part p.var p.value (λ y w over h.
    let r = without_has s.initial (log_pairs s.log) y w h in
    has_without m.initial reasons y w (carries.declared y w r.0) (λ k. r.1 (old (pair_of y w) k)))
    (closed lacks.part lacks.is_part p.var p.value lacks.over was))

active_known : (active : List Active) (cid : Cid) → Known (IsActive active cid)
active_known active cid = elim (any_known (λ (b : Active). b.cid ≡ cid) active (λ b k. cid_known b.cid cid)) [
  | inl r ↦ inl (record { owner = r.0; posted = r.1; named = r.2 })
  | inr none ↦ inr (λ is. none is.owner is.posted is.named)
]

-- what the owner of a right removal lacks, where it is the only one of its id
own_lacks : (m : EngineState) (a : Active) (p : Pair) → IsValid m → Contains m.active a → (right : IsRight m.initial m.active m.log (removal_of m a p)) → LacksSupport (without m.initial (removal_of m a p).reasons) a.con p.var p.value
own_lacks m a p valid posted right =
    subst (λ (b : Active). LacksSupport (without m.initial (removal_of m a p).reasons) b.con p.var p.value)
    (single m.active valid.rising right.owner a right.posted posted right.named) right.lacks

-- what a removal names after it was made
abbrev NamesLater : EngineState → EngineState → Active → Pair → Type 0
NamesLater s m a p = (c : Cid) × IsNew s c × Names (m.log ++ removal_of m a p ∷ []) c (removal_of m a p)

more_pair : (s m : EngineState) (carries : Carries s m) (q : Pair) → Contains (log_pairs m.log) q → (Contains (log_pairs s.log) q → ⊥) → (r : Removal) × Contains carries.more r × (r.pair ≡ q)
more_pair s m carries q k n =
    let k' : Contains (log_pairs s.log ++ log_pairs carries.more) q = subst (λ ps. Contains ps q) (ap log_pairs carries.log ∙ map-append (λ (r : Removal). r.pair) s.log carries.more) k in
    elim (Contains-append_cases (log_pairs s.log) (log_pairs carries.more) q k') [
      | inl j ↦ absurd (n j)
      | inr j ↦ logged carries.more q j
    ]

by_later_reason : (s m : EngineState) → Carries s m → (a : Active) (p : Pair) → IsRight m.initial m.active m.log (removal_of m a p)
    → (q : Pair) → Contains (removal_of m a p).reasons q → (Contains (log_pairs s.log) q → ⊥) → NamesLater s m a p
by_later_reason s m carries a p right q k n =
    let r = more_pair s m carries q (right.reasons q k) n in
    let l = carries.later r.0 r.1 in
    let made = removal_of m a p in
    let in_log : Contains m.log r.0 = subst (λ z. Contains z r.0) (sym carries.log) (Contains-append_right s.log carries.more r.0 r.1) in
    (l.0, l.1, by_reason made r.0 (Contains-append_left m.log (made ∷ []) r.0 in_log) (member_same made.reasons q r.0.pair (sym r.2) k) (cids_append m.log (made ∷ []) l.0 r.0 l.2))

-- the removal names a later constraint
names_later : (s m : EngineState) → Carries s m → IsValid s → IsValid m → IsStill s → (a : Active) (p : Pair) (t : EngineState) → Removes m a p t
    → IsRight m.initial m.active m.log (removal_of m a p) → NamesLater s m a p
names_later s m carries valid valid_m still a p t removes right = elim (active_known s.active a.cid) [
  | inr n ↦ (a.cid, n, by_itself (removal_of m a p) refl)
  | inl is ↦ elim still [
    | inr empty ↦ absurd (still_empty s m carries empty removes.filled)
    | inl quiet ↦ elim (some_later_reason s (removal_of m a p).reasons) [
      | inl q ↦ by_later_reason s m carries a p right q.0 q.1 q.2
      | inr all ↦ absurd (closed_takes_none s m carries valid quiet a p
          (subst (λ b. Contains s.active b) (single m.active valid_m.rising is.owner a (carries.active is.owner is.posted) removes.posted is.named) is.posted)
          removes.has (removal_of m a p).reasons (own_lacks m a p valid_m removes.posted right) all)
    ]
  ]
]

pub carries_removed : ReasonsAreRight → (s m : EngineState) (a : Active) (p : Pair) (t : EngineState) → Removes m a p t → IsValid s → IsStill s → IsValid m → Carries s m → Carries s t
carries_removed right s m a p t removes valid still valid_m carries =
    let made = removal_of m a p in
    let is_right = removal_right right m t a p valid_m.ascend (valid_m.formed a removes.posted) removes in
    subst (λ z. Carries s z) (sym removes.after) (record {
      more = carries.more ++ made ∷ [];
      log = ap (λ l. l ++ made ∷ []) carries.log ∙ append_assoc s.log carries.more (made ∷ []);
      active = carries.active;
      declared = carries.declared;
      old = carries.old;
      longer = carries.longer;
      later = λ r k. elim (Contains-push_cases carries.more made r k) [
        | inl j ↦ let l = carries.later r j in (l.0, l.1, cids_append m.log (made ∷ []) l.0 r l.2)
        | inr e ↦ subst (λ z. (c : Cid) × IsNew s c × Names (m.log ++ made ∷ []) c z) e (names_later s m carries valid valid_m still a p t removes is_right)
      ];
    })

-- ---- withdrawing

-- a removal of s names constraints of s alone, in the longer log too
old_cids : (s m : EngineState) → Carries s m → IsValid s → IsValid m → (cid : Cid) (r : Removal) → Contains s.log r → Names m.log cid r → IsActive s.active cid
old_cids s m carries valid valid_m cid _ k (by_itself r e) = cids_active s.initial s.active s.log cid valid.founded r k (by_itself r e)
old_cids s m carries valid valid_m cid _ k (by_reason r q in_m reason cids) =
    let old = logged s.log q.pair (reasons_logged s.initial s.active s.log valid.founded r k q.pair reason) in
    let in_log = subst (λ l. Contains l old.0) (sym carries.log) (Contains-append_left s.log carries.more old.0 old.1) in
    let same : old.0 ≡ q = logged_once m.initial m.active m.log valid_m.founded old.0 q in_log in_m old.2 in
    old_cids s m carries valid valid_m cid q (member_same s.log old.0 q same old.1) cids

pub carries_withdrawn : (s m : EngineState) (gone : List Cid) (t : EngineState) → WithdrawsAll m gone t → AreNew s gone → IsValid s → IsValid m → Carries s m → Carries s t
carries_withdrawn s m gone t withdraws later valid valid_m carries =
    let loses : Loses m.log gone (s.log ++ carries.more) withdraws.left = subst (λ l. Loses m.log gone l withdraws.left) carries.log withdraws.loses in
    let parts = loses_front m.log gone s.log carries.more withdraws.left loses (λ r k some. later some.cid some.among (old_cids s m carries valid valid_m some.cid r k some.names)) in
    subst (λ z. Carries s z) (sym withdraws.after) (record {
      more = parts.0;
      log = parts.1;
      active = λ a k. member_without_cids gone m.active a (carries.active a k) (λ j. later a.cid j (record { owner = a; posted = k; named = refl }));
      declared = carries.declared;
      old = carries.old;
      longer = carries.longer;
      later = λ r k.
          let l = carries.later r (left_member m.log gone carries.more parts.0 parts.2 r k) in
          (l.0, l.1, cids_left m.log gone withdraws.left l.0 withdraws.loses r (left_keeps m.log gone carries.more parts.0 parts.2 r k) l.2);
    })

-- what goes with a later constraint is later
pub gone_later : (s m : EngineState) (cid : Cid) → Carries s m → IsValid s → IsValid m → IsNew s cid → AreNew s (gone_with m.active cid)
gone_later s m cid carries valid valid_m later c k is = elim (member_cases cid (cids_of (filter (λ b. is_named b.justification cid) m.active)) c k) [
  | inl e ↦ later (subst (λ d. IsActive s.active d) (sym e) is)
  | inr j ↦
      let r = member_unmap (λ (b : Active). b.cid) (filter (λ b. is_named b.justification cid) m.active) c j in
      let f = filter_member (λ (b : Active). is_named b.justification cid) m.active r.0 r.1 in
      let same : is.owner ≡ r.0 = single m.active valid_m.rising is.owner r.0 (carries.active is.owner is.posted) f.0 (is.named ∙ sym r.2) in
      let b = is.owner in
      let held : Contains b.justification cid = subst (λ (z : Active). Contains z.justification cid) (sym same) (named_member r.0.justification cid f.1) in
      later (form_justifiers (length s.initial) s.active b.cid b.con b.justification (valid.formed b is.posted).form cid held).1
]

-- ---- whole runs

step_carries : ReasonsAreRight → (s m : EngineState) (step : Step) (t : EngineState) → StepLeads m step t → IsValid s → IsStill s → IsValid m → ((cid : Cid) → step ≡ Happens (Withdraw cid) → IsNew s cid) → Carries s m → Carries s t
step_carries right s m (Happens (Post a)) t h valid still valid_m later carries = carries_posted s m a t h carries
step_carries right s m (Happens (Withdraw cid)) t h valid still valid_m later carries =
    carries_withdrawn s m (gone_with m.active cid) t h (gone_later s m cid carries valid valid_m (later cid refl)) valid valid_m carries
step_carries right s m (Happens (Remove a p)) t h valid still valid_m later carries = carries_removed right s m a p t h valid still valid_m carries
step_carries right s m (Calm a) t h valid still valid_m later carries = carries_calmed s m a t h carries
step_carries right s m (Declare values) t h valid still valid_m later carries = carries_declared s m values t h carries

pub run_carries : ReasonsAreRight → (s m : EngineState) (steps : List Step) (t : EngineState) → Runs m steps t → IsValid s → IsStill s → IsValid m → KeepsAll s steps → Carries s m → Carries s t
run_carries right s m [] t run valid still valid_m keeps carries = subst (λ z. Carries s z) (sym run) carries
run_carries right s m (step ∷ steps) t run valid still valid_m keeps carries =
    run_carries right s run.0 steps t run.2 valid still (step_valid right m step run.0 run.1 valid_m) (λ cid k. keeps cid (member_there step steps (Happens (Withdraw cid)) k))
    (step_carries right s m step run.0 run.1 valid still valid_m (λ cid e. keeps cid (member_same (step ∷ steps) step (Happens (Withdraw cid)) e (member_here step steps))) carries)

-- where no later constraint is left, the log is the log of s
pub carried_log : (s t : EngineState) → IsValid t → Carries s t → ((a : Active) → Contains t.active a → IsActive s.active a.cid) → t.log ≡ s.log
carried_log s t valid carries alone = carries.log ∙ ap (λ l. s.log ++ l) (none_more carries.more (λ r k.
    let l = carries.later r k in
    let in_log = subst (λ z. Contains z r) (sym carries.log) (Contains-append_right s.log carries.more r k) in
    let is = cids_active t.initial t.active t.log l.0 valid.founded r in_log l.2 in
    l.1 (subst (λ c. IsActive s.active c) is.named (alone is.owner is.posted)))) ∙ append_nil s.log
  where
    none_more : (l : List Removal) → ((r : Removal) → Contains l r → ⊥) → l ≡ []
    none_more [] none = refl
    none_more (r ∷ l) none = absurd (none r (member_here r l))

    append_nil : (l : List Removal) → l ++ [] ≡ l
    append_nil [] = refl
    append_nil (r ∷ l) = ap (λ k. r ∷ k) (append_nil l)

-- a run from a still state that withdraws none of its constraints and ends with them alone gives back its log
pub run_undone : ReasonsAreRight → (s : EngineState) (steps : List Step) (t : EngineState) → IsValid s → IsStill s → Runs s steps t → KeepsAll s steps → ((a : Active) → Contains t.active a → IsActive s.active a.cid) → t.log ≡ s.log
run_undone right s steps t valid still run keeps alone =
    carried_log s t (run_valid right s steps t run valid) (run_carries right s s steps t run valid still valid keeps (carries_none s)) alone

-- ---- posting, filtering and withdrawing

filtering_keeps : (s m : EngineState) (step : Step) (t : EngineState) → IsFiltering step → StepLeads m step t → ReasonsAreRight → IsValid s → IsStill s → IsValid m → Carries s m → Carries s t × (t.active ≡ m.active)
filtering_keeps s m (Happens (Post a)) t filtering h right valid still valid_m carries = absurd filtering
filtering_keeps s m (Happens (Withdraw cid)) t filtering h right valid still valid_m carries = absurd filtering
filtering_keeps s m (Happens (Remove a p)) t filtering h right valid still valid_m carries =
    (carries_removed right s m a p t h valid still valid_m carries, ap (λ (z : EngineState). z.active) h.after)
filtering_keeps s m (Calm a) t filtering h right valid still valid_m carries =
    (carries_calmed s m a t h carries, ap (λ (z : EngineState). z.active) h.after)
filtering_keeps s m (Declare values) t filtering h right valid still valid_m carries = absurd filtering

-- filtering after s carries what s has, and keeps the active constraints
record Filtered (s m t : EngineState) : Type 0 where
  valid : IsValid t
  carries : Carries s t
  active : t.active ≡ m.active

filtered : ReasonsAreRight → (s m : EngineState) (steps : List Step) (t : EngineState) → All IsFiltering steps → Runs m steps t → IsValid s → IsStill s → IsValid m → Carries s m → Filtered s m t
filtered right s m [] t filtering run valid still valid_m carries = record {
  valid = subst IsValid (sym run) valid_m;
  carries = subst (λ z. Carries s z) (sym run) carries;
  active = ap (λ (z : EngineState). z.active) run;
}
filtered right s m (step ∷ steps) t filtering run valid still valid_m carries =
    let first = filtering_keeps s m step run.0 (All-head IsFiltering step steps filtering) run.1 right valid still valid_m carries in
    let rest = filtered right s run.0 steps t (All-tail IsFiltering step steps filtering) run.2 valid still (step_valid right m step run.0 run.1 valid_m) first.0 in
    record { valid = rest.valid; carries = rest.carries; active = rest.active ∙ first.1 }

-- what is left after the withdrawal was there before the posting
left_alone : (s m : EngineState) (a : Active) → m.active ≡ with_posted a s.active → (b : Active) → Contains (without_cids (gone_with m.active a.cid) m.active) b → IsActive s.active b.cid
left_alone s m a e b k =
    let r = without_cids_member (gone_with m.active a.cid) m.active b k in
    elim (with_posted_cases a s.active b (subst (λ l. Contains l b) e r.0)) [
      | inl f ↦ absurd (r.1 (member_same (gone_with m.active a.cid) a.cid b.cid (ap (λ (c : Active). c.cid) f)
          (member_here a.cid (cids_of (filter (λ c. is_named c.justification a.cid) m.active)))))
      | inr j ↦ record { owner = b; posted = j; named = refl }
    ]

pub posting_undone : ReasonsAreRight → (s m n t : EngineState) (a : Active) (steps : List Step) → IsValid s → IsStill s → Posts s a m → Runs m steps n → All IsFiltering steps → Withdraws n a.cid t → t.log ≡ s.log
posting_undone right s m n t a steps valid still posts run filtering withdraws =
    let valid_m = posts_valid s m a posts valid in
    let settled = filtered right s m steps n filtering run valid still valid_m (carries_posted s s a m posts (carries_none s)) in
    let carries = carries_withdrawn s n (gone_with n.active a.cid) t withdraws (gone_later s n a.cid settled.carries valid settled.valid posts.inactive) valid settled.valid settled.carries in
    let same : n.active ≡ with_posted a s.active = settled.active ∙ ap (λ (z : EngineState). z.active) posts.after in
    carried_log s t (withdraws_valid n t a.cid withdraws settled.valid) carries
    (λ b k. left_alone s n a same b (subst (λ (z : EngineState). Contains z.active b) withdraws.after k))

-- the active constraints are those from before
pub active_same : (xs ys : List Active) → Rises (cids_of xs) → Rises (cids_of ys) → ((a : Active) → Contains xs a → Contains ys a) → ((a : Active) → Contains ys a → Contains xs a) → xs ≡ ys
active_same [] [] rx ry sub sup = refl
active_same [] (y ∷ ys) rx ry sub sup = absurd (member_nil y (sup y (member_here y ys)))
active_same (x ∷ xs) [] rx ry sub sup = absurd (member_nil x (sub x (member_here x xs)))
active_same (x ∷ xs) (y ∷ ys) rx ry sub sup =
    let e = first_same x xs y ys rx ry (sup y (member_here y ys)) (sub x (member_here x xs)) in
    let t : xs ≡ ys = active_same xs ys rx.1 ry.1 (rest_same x xs y ys rx e sub) (rest_same y ys x xs ry (sym e) sup) in
    λ i. e i ∷ t i
  where
    above : (x : Active) (xs : List Active) → Rises (cids_of (x ∷ xs)) → (a : Active) → Contains xs a → cid_before x.cid a.cid ≡ true
    above x xs rises a m = All-contains (λ c. cid_before x.cid c ≡ true) (cids_of xs) a.cid rises.0 (member_map (λ (b : Active). b.cid) xs a m)

    first_same : (x : Active) (xs : List Active) (y : Active) (ys : List Active) → Rises (cids_of (x ∷ xs)) → Rises (cids_of (y ∷ ys)) → Contains (x ∷ xs) y → Contains (y ∷ ys) x → x ≡ y
    first_same x xs y ys rx ry my mx = elim (member_cases x xs y my) [
      | inl e ↦ e
      | inr k ↦ elim (member_cases y ys x mx) [
        | inl e ↦ sym e
        | inr j ↦ absurd (not_before_itself x.cid (before_then x.cid y.cid x.cid (above x xs rx y k) (above y ys ry x j)))
      ]
    ]

    rest_same : (x : Active) (xs : List Active) (y : Active) (ys : List Active) → Rises (cids_of (x ∷ xs)) → x ≡ y → ((a : Active) → Contains (x ∷ xs) a → Contains (y ∷ ys) a) → (a : Active) → Contains xs a → Contains ys a
    rest_same x xs y ys rises e sub a m = elim (member_cases y ys a (sub a (member_there x xs a m))) [
      | inr k ↦ k
      | inl f ↦ absurd (not_before_itself x.cid (subst (λ (b : Active). cid_before x.cid b.cid ≡ true) (sym (e ∙ f)) (above x xs rises a m)))
    ]

pub posting_undone_active : ReasonsAreRight → (s m n t : EngineState) (a : Active) (steps : List Step) → IsValid s → IsStill s → Posts s a m → Runs m steps n → All IsFiltering steps → Withdraws n a.cid t → t.active ≡ s.active
posting_undone_active right s m n t a steps valid still posts run filtering withdraws =
    let valid_m = posts_valid s m a posts valid in
    let settled = filtered right s m steps n filtering run valid still valid_m (carries_posted s s a m posts (carries_none s)) in
    let carries = carries_withdrawn s n (gone_with n.active a.cid) t withdraws (gone_later s n a.cid settled.carries valid settled.valid posts.inactive) valid settled.valid settled.carries in
    let same : n.active ≡ with_posted a s.active = settled.active ∙ ap (λ (z : EngineState). z.active) posts.after in
    let valid_t = withdraws_valid n t a.cid withdraws settled.valid in
    active_same t.active s.active valid_t.rising valid.rising
    (λ b k.
    let is = left_alone s n a same b (subst (λ (z : EngineState). Contains z.active b) withdraws.after k) in
    subst (λ c. Contains s.active c) (single t.active valid_t.rising is.owner b (carries.active is.owner is.posted) k is.named) is.posted)
    carries.active
