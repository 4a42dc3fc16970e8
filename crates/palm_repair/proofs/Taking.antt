-- The negations of a dropped nogood are withdrawn, and room is made.
use Rattle.std.proofs.Common.{◌≡◌, ℕ, ◌+◌, ◌<◌, ◌≤◌, Bool, true, false, not, cond, List, [], ◌∷◌, ◌++◌, filter, length, get_or, take, remove, Contains, ◌⊎◌, inl, inr, refl, sym, ap, ◌∙◌, subst, arith, nat_eq, eq-eqb, eqb-true, take_all}
use Rattle.std.proofs.lemmas.Bool.{cases_Bool, false≢true}
use Rattle.std.proofs.lemmas.List.{take_more}
use Rattle.std.proofs.lemmas.List.Elements.{Contains-append_cases, Contains-append_left, Contains-append_right}
use Rattle.palm_base.specs.declared.terms.Pair.{Pair}
use Rattle.palm_base.specs.declared.terms.Cid.{Cid}
use Rattle.palm_base.specs.declared.terms.Cid.TheVariants.{Not}
use Rattle.palm_base.proofs.cited.Members.{member_nil, member_here, member_there, member_same, member_single, member_map, member_unmap, member_filter, filter_member, filter_agree_members}
use Rattle.palm_base.specs.Tells.{Tells}
use Rattle.palm_model.specs.Event.{Withdraws, WithdrawsAll, gone_with, lost_pairs, vars_of, without_cids}
use Rattle.palm_model.specs.Log.{Active, IsActive, Removal, Loses, cids_of, is_named}
use Rattle.palm_model.specs.Log.Loses.{none_left, is_lost, is_kept}
use Rattle.palm_model.specs.State.{EngineState, IsValid, woken}
use Rattle.palm_events.proofs.cited.Names.{named_member, member_named}
use Rattle.palm_events.proofs.cited.States.{active_cid, cid_active, form_justifiers, member_without_cids, without_cids_member}
use Rattle.palm_engine.proofs.cited.Withdrawing.{loses_none, none_lost, withdraws_then, without_none}
use Rattle.palm_repair.specs.Posting.{Nogood, Origin, active_origins}
use Rattle.palm_repair.specs.Repair.{Drops, MakesRoom, negations_from, forced_by}
use Rattle.palm_repair.specs.Learned.{LearnedView, repair_state}
use Rattle.palm_repair.proofs.Reading.{at_member}

-- ---- withdrawals of the same ids

agree : (b c : Bool) → (b ≡ true → c ≡ true) → (c ≡ true → b ≡ true) → b ≡ c
agree true c to from = sym (to refl)
agree false true to from = from refl
agree false false to from = refl

loses_alike : (log : List Removal) (gone more : List Cid) → ((c : Cid) → Contains gone c → Contains more c) → ((c : Cid) → Contains more c → Contains gone c)
    → (rest left : List Removal) → Loses log gone rest left → Loses log more rest left
loses_alike log gone more to from _ _ none_left = none_left
loses_alike log gone more to from _ _ (is_lost r rest left cids loses) =
    is_lost r rest left (record { cid = cids.cid; among = to cids.cid cids.among; names = cids.names }) (loses_alike log gone more to from rest left loses)
loses_alike log gone more to from _ _ (is_kept r rest left keeps loses) =
    is_kept r rest left (λ some. keeps (record { cid = some.cid; among = from some.cid some.among; names = some.names })) (loses_alike log gone more to from rest left loses)

withdraws_alike : (s t : EngineState) (gone more : List Cid) → ((c : Cid) → Contains gone c → Contains more c) → ((c : Cid) → Contains more c → Contains gone c) → WithdrawsAll s gone t → WithdrawsAll s more t
withdraws_alike s t gone more to from withdraws =
    let left = withdraws.left in
    let active : without_cids gone s.active ≡ without_cids more s.active =
    filter_agree_members (λ (a : Active). not (is_named gone a.cid)) (λ (a : Active). not (is_named more a.cid)) s.active
    (λ a m. ap not (agree (is_named gone a.cid) (is_named more a.cid)
    (λ h. member_named more a.cid (to a.cid (named_member gone a.cid h)))
    (λ h. member_named gone a.cid (from a.cid (named_member more a.cid h))))) in
    record {
      left = left;
      loses = loses_alike s.log gone more to from s.log left withdraws.loses;
      after = withdraws.after ∙ ap (λ l. record s { active = l; log = left; pending = woken l s.pending (vars_of (lost_pairs s.log left)) }) active;
    }

-- no justification holds a negation, so nothing goes with one
alone : (s : EngineState) (p : Pair) → IsValid s → gone_with s.active (Not p) ≡ Not p ∷ []
alone s p valid = ap (λ l. Not p ∷ cids_of l) (none s.active (λ a m. m))
  where
    none : (active : List Active) → ((a : Active) → Contains active a → Contains s.active a) → filter (λ a. is_named a.justification (Not p)) active ≡ []
    none [] sub = refl
    none (a ∷ active) sub = elim (cases_Bool (is_named a.justification (Not p))) [
      | inl t ↦ absurd ((form_justifiers (length s.initial) s.active a.cid a.con a.justification (valid.formed a (sub a (member_here a active))).form (Not p) (named_member a.justification (Not p) t)).0)
      | inr f ↦ ap (λ b. cond b (a ∷ filter (λ c. is_named c.justification (Not p)) active) (filter (λ c. is_named c.justification (Not p)) active)) f ∙ none active (λ b m. sub b (member_there a active b m))
    ]

-- ---- one origin after another

-- of the negations whose origins were walked and are the nogood of this number, none is active, and nothing else went
pub record IsTaking (number : ℕ) (walked : List Origin) (s t : EngineState) : Type 0 where
  pub gone : List Cid
  pub withdraws : WithdrawsAll s gone t
  pub among : (c : Cid) → Contains gone c → Contains (negations_from number walked) c
  pub active : (c : Cid) → Contains gone c → IsActive s.active c
  pub done : (c : Cid) → Contains (negations_from number walked) c → IsActive t.active c → ⊥

withdraws_none : (s : EngineState) → IsValid s → WithdrawsAll s [] s
withdraws_none s valid =
    let active = without_none s.active in
    let vars : vars_of (lost_pairs s.log s.log) ≡ [] = no_members (vars_of (lost_pairs s.log s.log)) (none_lost s.log) in
    let pending : s.pending ≡ woken (without_cids [] s.active) s.pending (vars_of (lost_pairs s.log s.log)) = valid.waiting ∙ (λ i. woken (sym active i) s.pending (sym vars i)) in
    record { left = s.log; loses = loses_none s.log s.log; after = λ i. record s { active = sym active i; pending = pending i } }
  where
    no_members : {X : Type 0} (xs : List X) → ((x : X) → Contains xs x → ⊥) → xs ≡ []
    no_members [] none = refl
    no_members (x ∷ xs) none = absurd (none x (member_here x xs))

pub taking_starts : (number : ℕ) (s : EngineState) → IsValid s → IsTaking number [] s s
taking_starts number s valid = record {
  gone = [];
  withdraws = withdraws_none s valid;
  among = λ c m. absurd (member_nil c m);
  active = λ c m. absurd (member_nil c m);
  done = λ c m is. member_nil c m;
}

member_from : (number : ℕ) (origins : List Origin) (o : Origin) → Contains origins o → o.nogood ≡ number → Contains (negations_from number origins) (Not o.pair)
member_from number origins o m e = member_map (λ (q : Origin). Not q.pair) (filter (λ q. nat_eq q.nogood number) origins) o (member_filter (λ (q : Origin). nat_eq q.nogood number) origins o m (eq-eqb o.nogood number e))

from_member : (number : ℕ) (origins : List Origin) (c : Cid) → Contains (negations_from number origins) c → (o : Origin) × Contains origins o × (o.nogood ≡ number) × (Not o.pair ≡ c)
from_member number origins c m =
    let r = member_unmap (λ (q : Origin). Not q.pair) (filter (λ q. nat_eq q.nogood number) origins) c m in
    let f = filter_member (λ (q : Origin). nat_eq q.nogood number) origins r.0 r.1 in
    (r.0, f.0, eqb-true r.0.nogood number f.1, r.2)

more_from : (number : ℕ) (walked : List Origin) (o : Origin) (c : Cid) → Contains (negations_from number walked) c → Contains (negations_from number (walked ++ o ∷ [])) c
more_from number walked o c m =
    let r = from_member number walked c m in
    member_same (negations_from number (walked ++ o ∷ [])) (Not r.0.pair) c r.3 (member_from number (walked ++ o ∷ []) r.0 (Contains-append_left walked (o ∷ []) r.0 r.1) r.2)

last_from : (number : ℕ) (walked : List Origin) (o : Origin) (c : Cid) → Contains (negations_from number (walked ++ o ∷ [])) c → Contains (negations_from number walked) c ⊎ ((o.nogood ≡ number) × (Not o.pair ≡ c))
last_from number walked o c m =
    let r = from_member number (walked ++ o ∷ []) c m in
    elim (Contains-append_cases walked (o ∷ []) r.0 r.1) [
      | inl k ↦ inl (member_same (negations_from number walked) (Not r.0.pair) c r.3 (member_from number walked r.0 k r.2))
      | inr k ↦
          let e = member_single o r.0 k in
          inr (ap (λ (z : Origin). z.nogood) e ∙ r.2, ap (λ (z : Origin). Not z.pair) e ∙ r.3)
    ]

-- the origin is another nogood, or its negation is not active
taking_past : (number : ℕ) (walked : List Origin) (o : Origin) (s t : EngineState) → (o.nogood ≡ number → IsActive t.active (Not o.pair) → ⊥) → IsTaking number walked s t → IsTaking number (walked ++ o ∷ []) s t
taking_past number walked o s t quiet taking = record {
  gone = taking.gone;
  withdraws = taking.withdraws;
  among = λ c m. more_from number walked o c (taking.among c m);
  active = taking.active;
  done = λ c m is. elim (last_from number walked o c m) [
    | inl k ↦ taking.done c k is
    | inr e ↦ quiet e.0 (subst (IsActive t.active) (sym e.1) is)
  ];
}

-- its negation goes
taking_next : (number : ℕ) (walked : List Origin) (o : Origin) (s t u : EngineState) → IsValid s → IsValid t → o.nogood ≡ number → IsActive s.active (Not o.pair) → Withdraws t (Not o.pair) u
    → IsTaking number walked s t → IsTaking number (walked ++ o ∷ []) s u
taking_next number walked o s t u valid now e was withdraws taking =
    let one : WithdrawsAll t (Not o.pair ∷ []) u = subst (λ l. WithdrawsAll t l u) (alone t o.pair now) withdraws in
    let left = λ (a : Active) (m : Contains u.active a). without_cids_member (Not o.pair ∷ []) t.active a (subst (λ (z : EngineState). Contains z.active a) one.after m) in
    record {
      gone = taking.gone ++ Not o.pair ∷ [];
      withdraws = withdraws_then s t u taking.gone (Not o.pair ∷ []) valid.rising taking.withdraws one;
      among = λ c m. elim (Contains-append_cases taking.gone (Not o.pair ∷ []) c m) [
        | inl k ↦ more_from number walked o c (taking.among c k)
        | inr k ↦ member_same (negations_from number (walked ++ o ∷ [])) (Not o.pair) c (member_single (Not o.pair) c k)
            (member_from number (walked ++ o ∷ []) o (Contains-append_right walked (o ∷ []) o (member_here o [])) e)
      ];
      active = λ c m. elim (Contains-append_cases taking.gone (Not o.pair ∷ []) c m) [
        | inl k ↦ taking.active c k
        | inr k ↦ subst (IsActive s.active) (member_single (Not o.pair) c k) was
      ];
      done = λ c m is. elim (last_from number walked o c m) [
        | inl k ↦ taking.done c k (record { owner = is.owner; posted = (left is.owner is.posted).0; named = is.named })
        | inr f ↦ (left is.owner is.posted).1 (member_same (Not o.pair ∷ []) (Not o.pair) is.owner.cid (f.1 ∙ sym is.named) (member_here (Not o.pair) []))
      ];
    }

walked_one : (number : ℕ) (origins : List Origin) (i : ℕ) (o : Origin) (s t : EngineState) → i < length origins → o ≡ get_or origins i o → IsTaking number (take i origins ++ o ∷ []) s t → IsTaking number (take (i + 1) origins) s t
walked_one number origins i o s t lt is taking = subst (λ l. IsTaking number l s t) (ap (λ x. take i origins ++ x ∷ []) is ∙ sym (take_more origins i o lt)) taking

pub taken_past : (number : ℕ) (origins : List Origin) (i : ℕ) (o : Origin) (s t : EngineState) → i < length origins → o ≡ get_or origins i o → (o.nogood ≡ number → IsActive t.active (Not o.pair) → ⊥)
    → IsTaking number (take i origins) s t → IsTaking number (take (i + 1) origins) s t
taken_past number origins i o s t lt is quiet taking = walked_one number origins i o s t lt is (taking_past number (take i origins) o s t quiet taking)

pub taken_next : (number : ℕ) (origins : List Origin) (i : ℕ) (o : Origin) (s t u : EngineState) → i < length origins → o ≡ get_or origins i o → IsValid s → IsValid t → o.nogood ≡ number
    → ((q : Origin) → Contains origins q → IsActive s.active (Not q.pair)) → Withdraws t (Not o.pair) u → IsTaking number (take i origins) s t → IsTaking number (take (i + 1) origins) s u
taken_next number origins i o s t u lt is valid now e active withdraws taking =
    walked_one number origins i o s u lt is (taking_next number (take i origins) o s t u valid now e (active o (at_member origins i o lt is)) withdraws taking)

-- all were walked
pub taken_all : (number : ℕ) (origins : List Origin) (i : ℕ) (s t : EngineState) → length origins ≤ i → IsTaking number (take i origins) s t → WithdrawsAll s (forced_by s number origins) t
taken_all number origins i s t le walked =
    let taking : IsTaking number origins s t = subst (λ l. IsTaking number l s t) (take_all i origins le) walked in
    withdraws_alike s t taking.gone (forced_by s number origins)
    (λ c m.
    let is = taking.active c m in
    member_filter (λ d. is_named (cids_of s.active) d) (negations_from number origins) c (taking.among c m)
    (member_named (cids_of s.active) c (member_same (cids_of s.active) is.owner.cid c is.named (cid_active s.active is.owner is.posted))))
    (λ c m.
    let f = filter_member (λ d. is_named (cids_of s.active) d) (negations_from number origins) c m in
    let is = active_cid s.active c (named_member (cids_of s.active) c f.1) in
    elim (cases_Bool (is_named taking.gone c)) [
      | inl t' ↦ named_member taking.gone c t'
      | inr n ↦ absurd (taking.done c f.0 (record {
        owner = is.owner;
        posted = subst (λ (z : EngineState). Contains z.active is.owner) (sym taking.withdraws.after)
            (member_without_cids taking.gone s.active is.owner is.posted (λ k. false≢true (sym n ∙ member_named taking.gone c (member_same taking.gone is.owner.cid c is.named k))));
        named = is.named;
      }))
    ]) taking.withdraws

-- ---- room

pub room_made : (tabu : ℕ) (s t : EngineState) (decisions : List Pair) (before after : LearnedView) → 0 < tabu → length before.nogoods ≡ tabu → WithdrawsAll s (forced_by s before.dropped before.origins) t
    → after ≡ record before { nogoods = remove before.nogoods 0; origins = active_origins t.active before.origins; dropped = before.dropped + 1 }
    → MakesRoom tabu (repair_state s decisions before) (repair_state t decisions after)
room_made tabu s t decisions before after some full withdraws e = inl (full, by_list before.nogoods refl)
  where
    by_list : (nogoods : List Nogood) → before.nogoods ≡ nogoods → Drops (repair_state s decisions before) (repair_state t decisions after)
    by_list [] f = absurd (none full f)
      where
        none : length before.nogoods ≡ tabu → before.nogoods ≡ [] → ⊥
        none full f = let l = ap length f in omega (arith, some, full, l)
    by_list (oldest ∷ rest) f = record {
      oldest = oldest;
      rest = rest;
      are = f;
      engine = t;
      withdraws = withdraws;
      after = ap (repair_state t decisions) e ∙ ap (λ l. record (repair_state s decisions before) {
        search = record { engine = t; decisions = decisions };
        nogoods = remove l 0;
        origins = active_origins t.active before.origins;
        dropped = before.dropped + 1;
      }) f;
    }

pub room_left : (tabu : ℕ) (s : EngineState) (decisions : List Pair) (before : LearnedView) → length before.nogoods ≤ tabu → (length before.nogoods ≡ tabu → ⊥) → MakesRoom tabu (repair_state s decisions before) (repair_state s decisions before)
room_left tabu s decisions before few other = inr (omega (arith, few, other), refl)

-- a test for an active id is the one for an id among those of the active constraints
pub named_tells : (active : List Active) (cid : Cid) (b : Bool) → Tells b (IsActive active cid) → b ≡ is_named (cids_of active) cid
named_tells active cid true is = sym (member_named (cids_of active) cid (member_same (cids_of active) is.owner.cid cid is.named (cid_active active is.owner is.posted)))
named_tells active cid false none = elim (cases_Bool (is_named (cids_of active) cid)) [
  | inl t ↦ absurd (none (active_cid active cid (named_member (cids_of active) cid t)))
  | inr f ↦ sym f
]
