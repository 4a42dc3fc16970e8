-- Which cuts are active: turns and settlings leave them as they are, each cut is one more, and in the end none is left.
use Rattle.std.proofs.Common.{◌≡◌, ℕ, ℤ, pos, ◌+◌, ◌-◌, ◌≤◌, Bool, true, false, not, nat_le, List, length, filter, Contains, inl, inr, refl, sym, ap, ◌∙◌, subst, arith, below_more}
use Rattle.std.proofs.lemmas.Bool.{cases_Bool, false≢true, leb-true, not-true}
use Rattle.palm_base.specs.declared.terms.Pair.{Pair}
use Rattle.palm_base.specs.declared.terms.Cid.{Cid}
use Rattle.palm_base.specs.declared.terms.Cid.TheVariants.{Decide, Not, User}
use Rattle.palm_base.proofs.cited.Members.{member_same, member_unmap, filter_member}
use Rattle.palm_model.specs.Event.{Posts, Withdraws, WithdrawsAll, gone_with}
use Rattle.palm_model.specs.Log.{Active, IsActive}
use Rattle.palm_model.specs.State.{EngineState, IsValid, decision_of, is_user, negation_of}
use Rattle.palm_events.proofs.cited.States.{member_with_posted, member_without_cids, with_posted_cases, with_posted_here, without_cids_member}
use Rattle.palm_engine.specs.Settling.{Filters}
use Rattle.palm_search.specs.declared.turn.Turn.{Turn}
use Rattle.palm_search.specs.declared.turn.Turn.TheVariants.{Decide as TurnDecide, Undo as TurnUndo}
use Rattle.palm_search.specs.Calls.{LetsGo}
use Rattle.palm_search.specs.Kept.{HasNone}
use Rattle.palm_search.specs.Search.{of_search, own_cids, search_cids}
use Rattle.palm_search.specs.Turns.{SearchState, Takes, Undoes}
use Rattle.palm_search.proofs.cited.Closing.{gone_all, goes_then, left_active}
use Rattle.palm_search.proofs.cited.Deciding.{gone_itself, justifier_stays}
use Rattle.palm_search.proofs.cited.Owning.{gone_no_user, member_own, own_member, stays_other}
use Rattle.palm_best.specs.Cuts.{cut_of, is_own}
use Rattle.palm_best.specs.Improving.{HasCuts}
use Rattle.palm_best.specs.declared.limits.TheConstants.{FIRST_CUT}
use Rattle.palm_best.proofs.Owned.{cut_is_own, is_own_owns}

-- ---- users stay

-- the constraints of users are the same
pub record KeepsUsers (s t : EngineState) : Type 0 where
  pub stays : (a : Active) → is_user a.cid ≡ true → Contains s.active a → Contains t.active a
  pub back : (a : Active) → is_user a.cid ≡ true → Contains t.active a → Contains s.active a

users_then : (s m t : EngineState) → KeepsUsers s m → KeepsUsers m t → KeepsUsers s t
users_then s m t one two = record { stays = λ a user k. two.stays a user (one.stays a user k); back = λ a user k. one.back a user (two.back a user k) }

users_posted : (s : EngineState) (a : Active) (t : EngineState) → is_user a.cid ≡ false → Posts s a t → KeepsUsers s t
users_posted s a t other posts = record {
  stays = λ b user k. subst (λ (z : EngineState). Contains z.active b) (sym posts.after) (member_with_posted a s.active b posts.inactive k);
  back = λ b user k. elim (with_posted_cases a s.active b (subst (λ (z : EngineState). Contains z.active b) posts.after k)) [
    | inl e ↦ absurd (false≢true (sym other ∙ ap (λ (c : Active). is_user c.cid) e ∙ user))
    | inr j ↦ j
  ];
}

users_withdrawn : (s : EngineState) (gone : List Cid) (t : EngineState) → ((c : Cid) → Contains gone c → is_user c ≡ true → ⊥) → WithdrawsAll s gone t → KeepsUsers s t
users_withdrawn s gone t others withdraws = record {
  stays = λ b user k. subst (λ (z : EngineState). Contains z.active b) (sym withdraws.after) (member_without_cids gone s.active b k (λ j. others b.cid j user));
  back = λ b user k. (without_cids_member gone s.active b (subst (λ (z : EngineState). Contains z.active b) withdraws.after k)).0;
}

pub users_filtered : (s t : EngineState) → Filters s t → KeepsUsers s t
users_filtered s t filters = record { stays = λ b user k. subst (λ l. Contains l b) (sym filters.active) k; back = λ b user k. subst (λ l. Contains l b) filters.active k }

-- within an undoing
pub users_undone : (s : SearchState) (gone : Pair) (conflict : List Cid) (t : SearchState) (undoes : Undoes s gone conflict t) → IsValid s.engine → KeepsUsers s.engine undoes.middle
users_undone s gone conflict t undoes valid = users_withdrawn s.engine (gone_with s.engine.active (Decide gone.var)) undoes.middle (gone_no_user s.engine valid gone.var) undoes.withdraws

pub users_taken : (guided : Bool) (s : SearchState) (turn : Turn) (t : SearchState) → Takes guided s turn t → IsValid s.engine → KeepsUsers s.engine t.engine
users_taken guided s (TurnDecide pair pick) t takes valid = users_posted s.engine (decision_of pair) t.engine refl takes.posts
users_taken guided s (TurnUndo gone conflict) t takes valid =
    users_then s.engine takes.middle t.engine (users_undone s gone conflict t takes valid) (users_posted takes.middle (negation_of gone _) t.engine refl takes.posts)

-- all decisions and negations go
pub users_closed : (s t : EngineState) → WithdrawsAll s (search_cids s.active) t → KeepsUsers s t
users_closed s t withdraws = users_withdrawn s (search_cids s.active) t (λ c k user. false≢true (sym (ap not user) ∙ own_member of_search s.active c k)) withdraws

-- ---- so cuts do

active_kept : (s t : EngineState) → KeepsUsers s t → (c : Cid) → is_user c ≡ true → IsActive s.active c → IsActive t.active c
active_kept s t keeps c user is = record { owner = is.owner; posted = keeps.stays is.owner (ap is_user is.named ∙ user) is.posted; named = is.named }

active_back : (s t : EngineState) → KeepsUsers s t → (c : Cid) → is_user c ≡ true → IsActive t.active c → IsActive s.active c
active_back s t keeps c user is = record { owner = is.owner; posted = keeps.back is.owner (ap is_user is.named ∙ user) is.posted; named = is.named }

pub cuts_kept : (cuts : ℕ) (s t : EngineState) → KeepsUsers s t → HasCuts cuts s → HasCuts cuts t
cuts_kept cuts s t keeps has = record {
  posted = λ k lt. active_kept s t keeps (User (FIRST_CUT + k)) refl (has.posted k lt);
  none = λ k is. has.none k (active_back s t keeps (User (FIRST_CUT + k)) refl is);
}

pub cuts_none : (s : EngineState) → HasNone is_own s → HasCuts 0 s
cuts_none s none = record {
  posted = λ k lt. absurd (omega (arith, lt));
  none = λ k is. absurd (false≢true (sym (subst (λ d. is_own d ≡ false) is.named (none is.owner is.posted)) ∙ cut_is_own 0 k (pos 0)));
}

user_same : (m n : ℕ) → User m ≡ User n → m ≡ n
user_same m n e = cc

active_more : (s : EngineState) (a : Active) (t : EngineState) → Posts s a t → (c : Cid) → IsActive s.active c → IsActive t.active c
active_more s a t posts c is =
    record { owner = is.owner; posted = subst (λ (z : EngineState). Contains z.active is.owner) (sym posts.after) (member_with_posted a s.active is.owner posts.inactive is.posted); named = is.named }

-- one more
pub cuts_more : (target cuts : ℕ) (value : ℤ) (s t : EngineState) → Posts s (cut_of target cuts value) t → HasCuts cuts s → HasCuts (cuts + 1) t
cuts_more target cuts value s t posts has =
    let a = cut_of target cuts value in
    record {
      posted = below_more (λ k. IsActive t.active (User (FIRST_CUT + k))) cuts (λ k lt. active_more s a t posts (User (FIRST_CUT + k)) (has.posted k lt))
          (record { owner = a; posted = subst (λ (z : EngineState). Contains z.active a) (sym posts.after) (with_posted_here a s.active); named = refl });
      none = λ k is. elim (with_posted_cases a s.active is.owner (subst (λ (z : EngineState). Contains z.active is.owner) posts.after is.posted)) [
        | inl e ↦
            let same : FIRST_CUT + cuts ≡ FIRST_CUT + k = user_same (FIRST_CUT + cuts) (FIRST_CUT + k) (ap (λ (b : Active). b.cid) e ∙ is.named) in
            omega (arith, same)
        | inr j ↦ let lt = has.none k (record { owner = is.owner; posted = j; named = is.named }) in omega (arith, lt)
      ];
    }

-- ---- the last one goes

pub cuts_gone : (cuts : ℕ) (s t : EngineState) → IsValid s → Withdraws s (User (FIRST_CUT + cuts)) t → HasCuts (cuts + 1) s → HasCuts cuts t
cuts_gone cuts s t valid withdraws has =
    let last : Cid = User (FIRST_CUT + cuts) in
    let gone = gone_with s.active last in
    record {
      posted = λ k lt.
          let is = has.posted k (omega (arith, lt)) in
          let other : User (FIRST_CUT + k) ≡ last → ⊥ = λ e. let same = user_same (FIRST_CUT + k) (FIRST_CUT + cuts) e in omega (arith, same, lt) in
          let stays : Contains gone is.owner.cid → ⊥ = λ j. justifier_stays (length s.initial) s.active last valid.formed (User (FIRST_CUT + k)) tt other (subst (λ c. Contains gone c) is.named j) in
          record { owner = is.owner; posted = subst (λ (z : EngineState). Contains z.active is.owner) (sym withdraws.after) (member_without_cids gone s.active is.owner is.posted stays); named = is.named };
      none = λ k is.
          let r = without_cids_member gone s.active is.owner (subst (λ (z : EngineState). Contains z.active is.owner) withdraws.after is.posted) in
          let lt = has.none k (record { owner = is.owner; posted = r.0; named = is.named }) in
          let other : k ≡ cuts → ⊥ = λ e. r.1 (member_same gone last is.owner.cid (sym (is.named ∙ ap (λ n. User (FIRST_CUT + n)) e)) (gone_itself s.active last)) in
          omega (arith, lt, other);
    }

-- ---- none is left

search_own : (active : List Active) (c : Cid) → Contains (search_cids active) c → Contains (own_cids is_own active) c
search_own active c k =
    let r = member_unmap (λ (a : Active). a.cid) (filter (λ a. of_search a.cid) active) c k in
    let f = filter_member (λ (a : Active). of_search a.cid) active r.0 r.1 in
    member_same (own_cids is_own active) r.0.cid c r.2 (member_own is_own active r.0 f.0 (is_own_owns r.0.cid (not-true (is_user r.0.cid) f.1)))

-- no decision, no negation and no cut
none_left : (s m t : EngineState) → WithdrawsAll s (search_cids s.active) m → LetsGo is_own m t → HasCuts 0 t → HasNone is_own t
none_left s m t withdraws goes cuts a k = by_cid a.cid refl
  where
    user : is_user a.cid ≡ true
    user =
        let middle = (left_active is_own m t goes a k).0 in
        let r = without_cids_member (search_cids s.active) s.active a (subst (λ (z : EngineState). Contains z.active a) withdraws.after middle) in
        not_other (is_user a.cid) (stays_other of_search s.active a r.0 r.1)
      where
        not_other : (b : Bool) → not b ≡ false → b ≡ true
        not_other true e = refl
        not_other false e = absurd (false≢true (sym e))

    by_cid : (c : Cid) → a.cid ≡ c → is_own a.cid ≡ false
    by_cid (Decide x) e = absurd (false≢true (sym (ap is_user e) ∙ user))
    by_cid (Not p) e = absurd (false≢true (sym (ap is_user e) ∙ user))
    by_cid (User n) e = elim (cases_Bool (nat_le FIRST_CUT n)) [
      | inl t' ↦
          let le : FIRST_CUT ≤ n = leb-true FIRST_CUT n t' in
          let number : n ≡ FIRST_CUT + (n - FIRST_CUT) = omega (arith, le) in
          let lt = cuts.none (n - FIRST_CUT) (record { owner = a; posted = k; named = e ∙ ap User number }) in
          absurd (omega (arith, lt))
      | inr f ↦ ap is_own e ∙ f
    ]

-- the decisions and negations go, and then the cuts: so all that is a minimization's own went
pub closed_all : (s m t : EngineState) → IsValid s → WithdrawsAll s (search_cids s.active) m → LetsGo is_own m t → HasCuts 0 t → WithdrawsAll s (own_cids is_own s.active) t
closed_all s m t valid withdraws goes cuts =
    gone_all is_own s t (goes_then is_own s m t valid (record { gone = search_cids s.active; among = search_own s.active; withdraws = withdraws }) goes) (none_left s m t withdraws goes cuts)
