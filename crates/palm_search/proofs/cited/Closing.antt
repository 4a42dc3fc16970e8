-- Constraints that are a search's own are withdrawn one after another, until none is left.
use Rattle.std.proofs.Common.{◌≡◌, ℕ, ◌<◌, ◌≤◌, Bool, true, false, not, cond, List, [], ◌∷◌, ◌++◌, length, filter, Contains, inl, inr, refl, sym, ap, ◌∙◌, subst, arith}
use Rattle.std.proofs.lemmas.Bool.{cases_Bool, false≢true}
use Rattle.std.proofs.lemmas.List.Elements.{Contains-append_cases}
use Rattle.palm_base.specs.declared.terms.Pair.{Pair}
use Rattle.palm_base.specs.declared.terms.Cid.{Cid}
use Rattle.palm_base.specs.declared.terms.Cid.TheVariants.{Decide, Not, User}
use Rattle.palm_base.proofs.cited.Members.{member_nil, member_here, member_cases, member_same, member_unmap, filter_member, filter_agree_members}
use Rattle.palm_model.specs.Log.{Active, IsActive, Removal, Loses, cids_of, is_named}
use Rattle.palm_model.specs.Log.Loses.{none_left, is_lost, is_kept}
use Rattle.palm_model.specs.State.{EngineState, IsValid, is_user, woken}
use Rattle.palm_model.specs.Event.{Withdraws, WithdrawsAll, gone_with, lost_pairs, vars_of, without_cids}
use Rattle.palm_events.proofs.cited.Names.{named_member, member_named}
use Rattle.palm_events.proofs.cited.States.{without_cids_member, member_without_cids, held_not_justifier}
use Rattle.palm_engine.proofs.cited.Withdrawing.{loses_none, without_none, none_lost, withdraws_then}
use Rattle.palm_search.specs.Calls.{LetsGo}
use Rattle.palm_search.specs.Kept.{HasNone, HasOnlyUsers}
use Rattle.palm_search.specs.Search.{of_search, own_cids}
use Rattle.palm_search.proofs.cited.Deciding.{gone_itself}
use Rattle.palm_search.proofs.cited.Owning.{OwnsSearch, member_own, user_justifier}

pub no_members : {X : Type 0} (xs : List X) → ((x : X) → Contains xs x → ⊥) → xs ≡ []
no_members [] none = refl
no_members (x ∷ xs) none = absurd (none x (member_here x xs))

agree : (b c : Bool) → (b ≡ true → c ≡ true) → (c ≡ true → b ≡ true) → b ≡ c
agree true c to from = sym (to refl)
agree false true to from = from refl
agree false false to from = refl

-- ---- one after another

-- none of them
pub goes_none : (own : Cid → Bool) (s : EngineState) → IsValid s → LetsGo own s s
goes_none own s valid =
    let active = without_none s.active in
    let vars : vars_of (lost_pairs s.log s.log) ≡ [] = no_members (vars_of (lost_pairs s.log s.log)) (none_lost s.log) in
    let pending : s.pending ≡ woken (without_cids [] s.active) s.pending (vars_of (lost_pairs s.log s.log)) = valid.waiting ∙ (λ i. woken (sym active i) s.pending (sym vars i)) in
    record {
      gone = [];
      among = λ c m. absurd (member_nil c m);
      withdraws = record { left = s.log; loses = loses_none s.log s.log; after = λ i. record s { active = sym active i; pending = pending i } };
    }

-- one of them, with what rests on it
pub goes_one : (own : Cid → Bool) (s t : EngineState) (cid : Cid) → OwnsSearch own → IsValid s → IsActive s.active cid → own cid ≡ true → Withdraws s cid t → LetsGo own s t
goes_one own s t cid owns valid is mine withdraws = record {
  gone = gone_with s.active cid;
  among = λ c m. elim (member_cases cid (cids_of (filter (λ b. is_named b.justification cid) s.active)) c m) [
    | inl e ↦ member_same (own_cids own s.active) is.owner.cid c (is.named ∙ e) (member_own own s.active is.owner is.posted (subst (λ d. own d ≡ true) (sym is.named) mine))
    | inr k ↦
        let r = member_unmap (λ (b : Active). b.cid) (filter (λ b. is_named b.justification cid) s.active) c k in
        let f = filter_member (λ (b : Active). is_named b.justification cid) s.active r.0 r.1 in
        elim (cases_Bool (is_user r.0.cid)) [
          | inl t ↦ absurd (held_not_justifier (length s.initial) s.active r.0 cid (valid.formed r.0 f.0) (named_member r.0.justification cid f.1) (user_justifier r.0.cid t))
          | inr n ↦ member_same (own_cids own s.active) r.0.cid c r.2 (member_own own s.active r.0 f.0 (owns r.0.cid n))
        ]
  ];
  withdraws = withdraws;
}

-- what is active after a withdrawal was so before it
pub left_active : (own : Cid → Bool) (s t : EngineState) (goes : LetsGo own s t) (a : Active) → Contains t.active a → Contains s.active a × (Contains goes.gone a.cid → ⊥)
left_active own s t goes a m = without_cids_member goes.gone s.active a (subst (λ (z : EngineState). Contains z.active a) goes.withdraws.after m)

pub goes_then : (own : Cid → Bool) (s m t : EngineState) → IsValid s → LetsGo own s m → LetsGo own m t → LetsGo own s t
goes_then own s m t valid one two = record {
  gone = one.gone ++ two.gone;
  among = λ c k. elim (Contains-append_cases one.gone two.gone c k) [
    | inl j ↦ one.among c j
    | inr j ↦
        let r = member_unmap (λ (b : Active). b.cid) (filter (λ b. own b.cid) m.active) c (two.among c j) in
        let f = filter_member (λ (b : Active). own b.cid) m.active r.0 r.1 in
        member_same (own_cids own s.active) r.0.cid c r.2 (member_own own s.active r.0 (left_active own s m one r.0 f.0).0 f.1)
  ];
  withdraws = withdraws_then s m t one.gone two.gone valid.rising one.withdraws two.withdraws;
}

-- ---- until none is left

loses_alike : (log : List Removal) (gone more : List Cid) → ((c : Cid) → Contains gone c → Contains more c) → ((c : Cid) → Contains more c → Contains gone c)
    → (rest left : List Removal) → Loses log gone rest left → Loses log more rest left
loses_alike log gone more to from _ _ none_left = none_left
loses_alike log gone more to from _ _ (is_lost r rest left cids loses) =
    is_lost r rest left (record { cid = cids.cid; among = to cids.cid cids.among; names = cids.names }) (loses_alike log gone more to from rest left loses)
loses_alike log gone more to from _ _ (is_kept r rest left keeps loses) =
    is_kept r rest left (λ some. keeps (record { cid = some.cid; among = from some.cid some.among; names = some.names })) (loses_alike log gone more to from rest left loses)

-- where none of them is left, all of them went
pub gone_all : (own : Cid → Bool) (s t : EngineState) → LetsGo own s t → HasNone own t → WithdrawsAll s (own_cids own s.active) t
gone_all own s t goes none =
    let from : (c : Cid) → Contains (own_cids own s.active) c → Contains goes.gone c = λ c k.
    let r = member_unmap (λ (b : Active). b.cid) (filter (λ b. own b.cid) s.active) c k in
    let f = filter_member (λ (b : Active). own b.cid) s.active r.0 r.1 in
    member_same goes.gone r.0.cid c r.2 (member_gone own s t goes none r.0 f.0 f.1) in
    let left = goes.withdraws.left in
    let active : without_cids goes.gone s.active ≡ without_cids (own_cids own s.active) s.active =
    filter_agree_members (λ (a : Active). not (is_named goes.gone a.cid)) (λ (a : Active). not (is_named (own_cids own s.active) a.cid)) s.active
    (λ a m. ap not (agree (is_named goes.gone a.cid) (is_named (own_cids own s.active) a.cid)
    (λ h. member_named (own_cids own s.active) a.cid (goes.among a.cid (named_member goes.gone a.cid h)))
    (λ h. member_named goes.gone a.cid (from a.cid (named_member (own_cids own s.active) a.cid h))))) in
    record {
      left = left;
      loses = loses_alike s.log goes.gone (own_cids own s.active) goes.among from s.log left goes.withdraws.loses;
      after = goes.withdraws.after ∙ ap (λ l. record s { active = l; log = left; pending = woken l s.pending (vars_of (lost_pairs s.log left)) }) active;
    }
  where
    member_gone : (own : Cid → Bool) (s t : EngineState) (goes : LetsGo own s t) → HasNone own t → (a : Active) → Contains s.active a → own a.cid ≡ true → Contains goes.gone a.cid
    member_gone own s t goes none a m mine = elim (cases_Bool (is_named goes.gone a.cid)) [
      | inl t' ↦ named_member goes.gone a.cid t'
      | inr n ↦ absurd (false≢true (sym (none a (subst (λ (z : EngineState). Contains z.active a) (sym goes.withdraws.after)
          (member_without_cids goes.gone s.active a m (λ k. false≢true (sym n ∙ member_named goes.gone a.cid k))))) ∙ mine))
    ]

-- where no decision and no negation is active, only users are
pub users_left : (m t : EngineState) → LetsGo of_search m t → ((x : ℕ) → IsActive m.active (Decide x) → ⊥) → ((p : Pair) → IsActive t.active (Not p) → ⊥) → HasOnlyUsers t
users_left m t goes decided negated a k = by_cid a.cid refl
  where
    by_cid : (c : Cid) → a.cid ≡ c → is_user a.cid ≡ true
    by_cid (Decide x) e = absurd (decided x (record { owner = a; posted = (left_active of_search m t goes a k).0; named = e }))
    by_cid (Not p) e = absurd (negated p (record { owner = a; posted = k; named = e }))
    by_cid (User n) e = ap is_user e

-- ---- there are fewer each time

filter_le : {X : Type 0} (test : X → Bool) (xs : List X) → length (filter test xs) ≤ length xs
filter_le test [] = omega arith
filter_le test (x ∷ xs) = step (test x) (filter_le test xs)
  where
    step : (b : Bool) → length (filter test xs) ≤ length xs → length (cond b (x ∷ filter test xs) (filter test xs)) ≤ length (x ∷ xs)
    step true le = omega (arith, le)
    step false le = omega (arith, le)

filter_lt : {X : Type 0} (test : X → Bool) (xs : List X) (x : X) → Contains xs x → test x ≡ false → length (filter test xs) < length xs
filter_lt test [] x m f = absurd (member_nil x m)
filter_lt test (y ∷ xs) x m f = elim (member_cases y xs x m) [
  | inl e ↦
      let g : length (filter test (y ∷ xs)) ≡ length (filter test xs) = ap (λ b. length (cond b (y ∷ filter test xs) (filter test xs))) (ap test e ∙ f) in
      let le = filter_le test xs in
      omega (arith, g, le)
  | inr k ↦ step (test y) (filter_lt test xs x k f)
]
  where
    step : (b : Bool) → length (filter test xs) < length xs → length (cond b (y ∷ filter test xs) (filter test xs)) < length (y ∷ xs)
    step true lt = omega (arith, lt)
    step false lt = omega (arith, lt)

pub withdrawn_fewer : (s t : EngineState) (cid : Cid) → IsActive s.active cid → Withdraws s cid t → length t.active < length s.active
withdrawn_fewer s t cid is withdraws =
    let gone = gone_with s.active cid in
    let named = member_named gone is.owner.cid (member_same gone cid is.owner.cid (sym is.named) (gone_itself s.active cid)) in
    subst (λ (z : EngineState). length z.active < length s.active) (sym withdraws.after)
    (filter_lt (λ (a : Active). not (is_named gone a.cid)) s.active is.owner is.posted (ap not named))
