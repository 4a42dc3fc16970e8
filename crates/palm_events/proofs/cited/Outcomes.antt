-- What a removal names is known. So a withdrawal has exactly one outcome, and explanations and conflicts are lists.
use Rattle.std.proofs.Common.{◌≡◌, ℕ, true, List, [], ◌∷◌, ◌++◌, Contains, ◌⊎◌, inl, inr, refl, sym, ap, ◌∙◌, subst}
use Rattle.std.proofs.lemmas.List.Elements.{Contains-push_cases, All-contains}
use Rattle.palm_base.specs.declared.terms.Pair.{Pair}
use Rattle.palm_base.specs.declared.terms.Cid.{Cid}
use Rattle.palm_base.specs.declared.terms.Cid.TheVariants.{Decide, Not, User}
use Rattle.palm_base.proofs.cited.Members.{Known, member_nil, member_here, member_there, member_cases, member_single, member_same, member_map, member_unmap, known_like, known_both, nat_known, member_known, any_known, all_members}
use Rattle.palm_model.specs.Domains.{Domains, Has}
use Rattle.palm_base.specs.Order.{Rises, cid_before}
use Rattle.palm_model.specs.Log.{Active, IsActive, Removal, AreRight, IsWellFounded, Names, NamesSome, Loses, IsListOf, is_named, cids_of, log_pairs}
use Rattle.palm_model.specs.Log.Names.{by_itself, by_reason}
use Rattle.palm_model.specs.Log.Loses.{none_left, is_lost, is_kept}
use Rattle.palm_model.specs.State.{EngineState, IsValid, IsJustifier, is_over, is_awake, woken}
use Rattle.palm_model.specs.Event.{WithdrawsAll, withdrawn, without_cids, lost_pairs, vars_of}
use Rattle.palm_model.specs.Constraint.{scope}
use Rattle.std.specs.List.{list_any}
use Rattle.std.proofs.lemmas.Bool.{or_cases}
use Rattle.palm_model.proofs.cited.Supports.{any_member}
use Rattle.palm_model.specs.Conflict.{InConflict, InFlat, InFlatConflict}
use Rattle.palm_model.specs.Conflict.InFlat.{as_it_is, in_place}
use Rattle.palm_base.proofs.cited.CidOrder.{cid_known}
use Rattle.palm_events.proofs.cited.Names.{named_member, single}
use Rattle.palm_events.proofs.cited.Logs.{logged, some_by_reason}
use Rattle.palm_events.proofs.cited.Agreeing.{pair_known}
use Rattle.palm_events.proofs.cited.States.{cid_active, woken_active, member_woken, awake_named, awake_over, over_member}
use Rattle.palm_events.proofs.cited.Conflicts.{cids_active, conflict_active, flat_justifiers}
use Rattle.palm_events.proofs.cited.Undone.{logged_once}

-- ---- whether a removal names one of some ids

-- the earlier removals of a log, of each of which it is known
record AreKnown (log : List Removal) (gone : List Cid) (earlier : List Removal) : Type 0 where
  logged : (r : Removal) → Contains earlier r → Contains log r
  known : (r : Removal) → Contains earlier r → Known (NamesSome log gone r)

-- a removal whose own constraint is none of these, and none of whose reasons names one, names none
cids_none : (log : List Removal) (gone : List Cid) (cid : Cid) → Contains gone cid → (r : Removal) → (Contains gone r.by → ⊥)
    → ((q : Removal) → Contains log q → Contains r.reasons q.pair → NamesSome log gone q → ⊥) → Names log cid r → ⊥
cids_none log gone cid among _ own reasons (by_itself r e) = own (member_same gone cid r.by (sym e) among)
cids_none log gone cid among _ own reasons (by_reason r q m reason cids) = reasons q m reason (record { cid = cid; among = among; names = cids })

one_known : (initial : Domains) (active : List Active) (log : List Removal) (gone : List Cid) (earlier : List Removal) (r : Removal) → IsWellFounded initial active log
    → AreKnown log gone earlier → ((p : Pair) → Contains r.reasons p → Contains (log_pairs earlier) p) → Known (NamesSome log gone r)
one_known initial active log gone earlier r founded are reasons = elim (member_known cid_known gone r.by) [
  | inl m ↦ inl (record { cid = r.by; among = m; names = by_itself r refl })
  | inr own ↦ elim (any_known (λ q. Contains r.reasons q.pair × NamesSome log gone q) earlier (λ q m. known_both (pair_known r.reasons q.pair) (are.known q m))) [
    | inl q ↦ inl (some_by_reason log gone r q.0 (are.logged q.0 q.1) q.2.0 q.2.1)
    | inr none ↦ inr (λ some. cids_none log gone some.cid some.among r own (λ q m reason named.
        let old = logged earlier q.pair (reasons q.pair reason) in
        let same : old.0 ≡ q = logged_once initial active log founded old.0 q (are.logged old.0 old.1) m old.2 in
        none old.0 old.1 (member_same r.reasons q.pair old.0.pair (sym old.2) reason, subst (λ z. NamesSome log gone z) (sym same) named)) some.names)
  ]
]

known_from : (initial : Domains) (active : List Active) (log : List Removal) (gone : List Cid) (earlier rest : List Removal) → IsWellFounded initial active log
    → AreKnown log gone earlier → ((r : Removal) → Contains rest r → Contains log r) → AreRight initial active earlier rest → (r : Removal) → Contains rest r → Known (NamesSome log gone r)
known_from initial active log gone earlier [] founded are sub right r m = absurd (member_nil r m)
known_from initial active log gone earlier (s ∷ rest) founded are sub right r m =
    let first : Known (NamesSome log gone s) = one_known initial active log gone earlier s founded are right.0.reasons in
    elim (member_cases s rest r m) [
      | inl e ↦ subst (λ z. Known (NamesSome log gone z)) e first
      | inr k ↦ known_from initial active log gone (earlier ++ s ∷ []) rest founded (record {
        logged = λ q n. elim (Contains-push_cases earlier s q n) [ inl o ↦ are.logged q o | inr e ↦ member_same log s q e (sub s (member_here s rest)) ];
        known = λ q n. elim (Contains-push_cases earlier s q n) [ inl o ↦ are.known q o | inr e ↦ subst (λ z. Known (NamesSome log gone z)) e first ];
      }) (λ q n. sub q (member_there s rest q n)) right.1 r k
    ]

pub some_known : (initial : Domains) (active : List Active) (log : List Removal) (gone : List Cid) → IsWellFounded initial active log → (r : Removal) → Contains log r → Known (NamesSome log gone r)
some_known initial active log gone founded r m =
    known_from initial active log gone [] log founded (record { logged = λ q n. absurd (member_nil q n); known = λ q n. absurd (member_nil q n) }) (λ q n. n) founded r m

pub names_known : (initial : Domains) (active : List Active) (log : List Removal) (cid : Cid) → IsWellFounded initial active log → (r : Removal) → Contains log r → Known (Names log cid r)
names_known initial active log cid founded r m =
    known_like (λ some. subst (λ c. Names log c r) (sym (member_single cid some.cid some.among)) some.names)
    (λ cids. record { cid = cid; among = member_here cid []; names = cids }) (some_known initial active log (cid ∷ []) founded r m)

-- ---- a withdrawal has one outcome

loses_from : (log : List Removal) (gone : List Cid) (rest : List Removal) → ((r : Removal) → Contains rest r → Known (NamesSome log gone r)) → (left : List Removal) × Loses log gone rest left
loses_from log gone [] known = ([], none_left)
loses_from log gone (r ∷ rest) known =
    let others = loses_from log gone rest (λ q m. known q (member_there r rest q m)) in
    elim (known r (member_here r rest)) [
      | inl cids ↦ (others.0, is_lost r rest others.0 cids others.1)
      | inr keeps ↦ (r ∷ others.0, is_kept r rest others.0 keeps others.1)
    ]

pub loses_some : (initial : Domains) (active : List Active) (log : List Removal) (gone : List Cid) → IsWellFounded initial active log → (left : List Removal) × Loses log gone log left
loses_some initial active log gone founded = loses_from log gone log (some_known initial active log gone founded)

-- the first removal is lost, or it stays
data FirstOf (log : List Removal) (gone : List Cid) (r : Removal) (rest left : List Removal) : Type 0 where
  goes : NamesSome log gone r → Loses log gone rest left → FirstOf log gone r rest left
  remains : (NamesSome log gone r → ⊥) → (others : List Removal) → left ≡ r ∷ others → Loses log gone rest others → FirstOf log gone r rest left

loses_of : (log : List Removal) (gone : List Cid) (r : Removal) (rest left : List Removal) → Loses log gone (r ∷ rest) left → FirstOf log gone r rest left
loses_of log gone _ _ _ (is_lost r rest left cids loses) = goes cids loses
loses_of log gone _ _ _ (is_kept r rest left keeps loses) = remains keeps left refl loses

loses_nil : (log : List Removal) (gone : List Cid) (left : List Removal) → Loses log gone [] left → left ≡ []
loses_nil log gone _ none_left = refl

pub loses_one : (log : List Removal) (gone : List Cid) (rest left other : List Removal) → Loses log gone rest left → Loses log gone rest other → left ≡ other
loses_one log gone [] left other one two = loses_nil log gone left one ∙ sym (loses_nil log gone other two)
loses_one log gone (r ∷ rest) left other one two = elim (loses_of log gone r rest left one) [
  | goes cids l ↦ elim (loses_of log gone r rest other two) [
    | goes n m ↦ loses_one log gone rest left other l m
    | remains keeps others e m ↦ absurd (keeps cids)
  ]
  | remains keeps others e l ↦ elim (loses_of log gone r rest other two) [
    | goes cids m ↦ absurd (keeps cids)
    | remains k others' f m ↦ e ∙ ap (λ t. r ∷ t) (loses_one log gone rest others others' l m) ∙ sym f
  ]
]

pub withdrawal_exists : (s : EngineState) (gone : List Cid) → IsValid s → (t : EngineState) × WithdrawsAll s gone t
withdrawal_exists s gone valid =
    let r = loses_some s.initial s.active s.log gone valid.founded in
    (withdrawn s gone r.0, record { left = r.0; loses = r.1; after = refl })

pub withdrawal_same : (s : EngineState) (gone : List Cid) (t u : EngineState) → WithdrawsAll s gone t → WithdrawsAll s gone u → t ≡ u
withdrawal_same s gone t u one two =
    one.after ∙ ap (λ l. withdrawn s gone l) (loses_one s.log gone s.log one.left two.left one.loses two.loses) ∙ sym two.after

-- ---- lists of ids

-- the ids with a known property among ids that rise
listed_from : (P : Cid → Type 0) (cids : List Cid) → Rises cids → ((c : Cid) → Contains cids c → Known (P c))
    → (list : List Cid) × Rises list × ((c : Cid) → Contains list c → Contains cids c × P c) × ((c : Cid) → Contains cids c → P c → Contains list c)
listed_from P [] rises known = ([], tt, λ c m. absurd (member_nil c m), λ c m p. m)
listed_from P (d ∷ cids) rises known =
    let others = listed_from P cids rises.1 (λ c m. known c (member_there d cids c m)) in
    elim (known d (member_here d cids)) [
      | inl p ↦ (
        d ∷ others.0,
        (all_members (λ c. cid_before d c ≡ true) others.0 (λ c m. All-contains (λ e. cid_before d e ≡ true) cids c rises.0 (others.2 c m).0), others.1),
        λ c m. elim (member_cases d others.0 c m) [
          | inl e ↦ (member_same (d ∷ cids) d c e (member_here d cids), subst P e p)
          | inr k ↦ (member_there d cids c (others.2 c k).0, (others.2 c k).1)
        ],
        λ c m q. elim (member_cases d cids c m) [
          | inl e ↦ member_same (d ∷ others.0) d c e (member_here d others.0)
          | inr k ↦ member_there d others.0 c (others.3 c k q)
        ],
      )
      | inr n ↦ (
        others.0,
        others.1,
        λ c m. (member_there d cids c (others.2 c m).0, (others.2 c m).1),
        λ c m q. elim (member_cases d cids c m) [
          | inl e ↦ absurd (n (subst P (sym e) q))
          | inr k ↦ others.3 c k q
        ],
      )
    ]

pub listed : (P : Cid → Type 0) (cids : List Cid) → Rises cids → ((c : Cid) → Contains cids c → Known (P c)) → ((c : Cid) → P c → Contains cids c) → (list : List Cid) × IsListOf P list
listed P cids rises known all =
    let r = listed_from P cids rises known in
    (r.0, record { rising = r.1; sound = λ c m. (r.2 c m).1; whole = λ c p. r.3 c (all c p) p })

active_named : (active : List Active) (c : Cid) → IsActive active c → Contains (cids_of active) c
active_named active c is = member_same (cids_of active) is.owner.cid c is.named (cid_active active is.owner is.posted)

-- the explanation of a removal
pub explanation_listed : (s : EngineState) → IsValid s → (r : Removal) → Contains s.log r → (list : List Cid) × IsListOf (λ c. Names s.log c r) list
explanation_listed s valid r m = listed (λ c. Names s.log c r) (cids_of s.active) valid.rising
    (λ c k. names_known s.initial s.active s.log c valid.founded r m)
    (λ c cids. active_named s.active c (cids_active s.initial s.active s.log c valid.founded r m cids))

-- the pairs of a well founded log are declared
declared_from : (initial : Domains) (active : List Active) (earlier rest : List Removal) → AreRight initial active earlier rest → (r : Removal) → Contains rest r → Has initial r.pair.var r.pair.value
declared_from initial active earlier [] right r m = absurd (member_nil r m)
declared_from initial active earlier (s ∷ rest) right r m = elim (member_cases s rest r m) [
  | inl e ↦ subst (λ (z : Removal). Has initial z.pair.var z.pair.value) e right.0.declared
  | inr k ↦ declared_from initial active (earlier ++ s ∷ []) rest right.1 r k
]

conflict_known : (s : EngineState) → IsValid s → (x : ℕ) (c : Cid) → Known (InConflict s x c)
conflict_known s valid x c =
    elim (any_known (λ r. (r.pair.var ≡ x) × Names s.log c r) s.log (λ r m. known_both (nat_known r.pair.var x) (names_known s.initial s.active s.log c valid.founded r m))) [
      | inl r ↦ inl (record {
        value = r.0.pair.value;
        declared = subst (λ y. Has s.initial y r.0.pair.value) r.2.0 (declared_from s.initial s.active [] s.log valid.founded r.0 r.1);
        names = record { removal = r.0; logged = r.1; is = λ i. record { var = r.2.0 i; value = r.0.pair.value }; names = r.2.1 };
      })
      | inr none ↦ inr (λ held. none held.names.removal held.names.logged (ap (λ (p : Pair). p.var) held.names.is, held.names.names))
    ]

pub conflict_listed : (s : EngineState) → IsValid s → (x : ℕ) → (list : List Cid) × IsListOf (InConflict s x) list
conflict_listed s valid x = listed (InConflict s x) (cids_of s.active) valid.rising (λ c k. conflict_known s valid x c) (λ c held. active_named s.active c (conflict_active s valid x c held))

justifier_known : (c : Cid) → Known (IsJustifier c)
justifier_known (Decide x) = inl tt
justifier_known (Not p) = inr (λ g. g)
justifier_known (User n) = inl tt

negation_known : (c : Cid) → Known ((p : Pair) × (c ≡ Not p))
negation_known (Decide x) = inr (λ r. cc (r.1))
negation_known (Not p) = inl (p, refl)
negation_known (User n) = inr (λ r. cc (r.1))

flat_known : (active : List Active) (K : Cid → Type 0) → ((c : Cid) → Known (K c)) → (c : Cid) → Known (InFlat active K c)
flat_known active K known c = elim (known_both (known c) (justifier_known c)) [
  | inl r ↦ inl (as_it_is r.0 r.1)
  | inr n ↦ elim (any_known (λ a. ((p : Pair) × (a.cid ≡ Not p)) × K a.cid × Contains a.justification c) active (λ a m. known_both3 (negation_known a.cid) (known a.cid) (member_known cid_known a.justification c))) [
    | inl r ↦ inl (in_place r.2.0.0 r.0 (subst K r.2.0.1 r.2.1) r.1 r.2.0.1 r.2.2)
    | inr none ↦ inr (λ flat. neither active K c n none flat)
  ]
]
  where
    known_both3 : {P Q R : Type 0} → Known P → Known Q → Known R → Known (P × Q × R)
    known_both3 p q r = elim p [
      | inr n ↦ inr (λ t. n t.0)
      | inl a ↦ elim q [
        | inr n ↦ inr (λ t. n t.1)
        | inl b ↦ elim r [ inr n ↦ inr (λ t. n t.2) | inl c ↦ inl (a, b, c) ]
      ]
    ]

    neither : (active : List Active) (K : Cid → Type 0) (c : Cid) → (K c × IsJustifier c → ⊥) → ((a : Active) → Contains active a → ((p : Pair) × (a.cid ≡ Not p)) × K a.cid × Contains a.justification c → ⊥) → InFlat active K c → ⊥
    neither active K c n none (as_it_is k justifier) = n (k, justifier)
    neither active K c n none (in_place p a k posted named held) = none a posted ((p, named), subst K (sym named) k, held)

pub flat_listed : (s : EngineState) → IsValid s → (x : ℕ) → (list : List Cid) × IsListOf (InFlatConflict s x) list
flat_listed s valid x = listed (InFlatConflict s x) (cids_of s.active) valid.rising (λ c k. flat_known s.active (InConflict s x) (conflict_known s valid x) c)
    (λ c held. active_named s.active c (flat_justifiers s valid x c held).1)

-- ---- who is pending after a withdrawal

woken_cases : (active : List Active) (pending : List Cid) (vars : List ℕ) (a : Active) → Rises (cids_of active) → Contains active a → Contains (woken active pending vars) a.cid → Contains pending a.cid ⊎ ((x : ℕ) × Contains vars x × Contains (scope a.con) x)
woken_cases active pending vars a rises m k =
    let r = woken_active active pending vars a.cid k in
    let same = single active rises r.0 a r.1 m r.2 in
    let awake = subst (λ b. is_awake pending vars b ≡ true) same r.3 in
    elim (or_cases (is_named pending a.cid) (list_any (λ x. is_over a.con x) vars) awake) [
      | inl t ↦ inl (named_member pending a.cid t)
      | inr t ↦ let q = any_member (λ x. is_over a.con x) vars t in inr (q.0, q.1, over_member a.con q.0 q.2)
    ]

pub withdrawal_wakes : (s t : EngineState) (gone : List Cid) (withdraws : WithdrawsAll s gone t) (a : Active) → IsValid s → IsValid t → Contains t.active a
    → (Contains t.pending a.cid → Contains s.pending a.cid ⊎ ((p : Pair) × Contains (lost_pairs s.log withdraws.left) p × Contains (scope a.con) p.var))
    × (Contains s.pending a.cid ⊎ ((p : Pair) × Contains (lost_pairs s.log withdraws.left) p × Contains (scope a.con) p.var) → Contains t.pending a.cid)
withdrawal_wakes s t gone withdraws a valid valid_t m =
    let active = without_cids gone s.active in
    let lost = lost_pairs s.log withdraws.left in
    let same : t.active ≡ active = ap (λ (z : EngineState). z.active) withdraws.after in
    let pending : t.pending ≡ woken active s.pending (vars_of lost) = ap (λ (z : EngineState). z.pending) withdraws.after in
    let m' : Contains active a = subst (λ l. Contains l a) same m in
    let rises : Rises (cids_of active) = subst (λ l. Rises (cids_of l)) same valid_t.rising in (
      λ k. elim (woken_cases active s.pending (vars_of lost) a rises m' (subst (λ l. Contains l a.cid) pending k)) [
        | inl j ↦ inl j
        | inr r ↦ let q = member_unmap (λ (p : Pair). p.var) lost r.0 r.1 in inr (q.0, q.1, subst (λ x. Contains (scope a.con) x) (sym q.2) r.2)
      ],
      λ r. subst (λ l. Contains l a.cid) (sym pending) (member_woken active s.pending (vars_of lost) a m' (elim r [
        | inl k ↦ awake_named s.pending (vars_of lost) a k
        | inr q ↦ awake_over s.pending (vars_of lost) a q.0.var (member_map (λ (p : Pair). p.var) lost q.0 q.1) q.2
      ])),
    )
