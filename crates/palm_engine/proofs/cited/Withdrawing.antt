-- Withdrawals one after another, and the negations that rest on an id.
use Rattle.std.proofs.Common.{◌≡◌, ℕ, zero, suc, Bool, true, false, not, ◌&&◌, cond, List, [], ◌∷◌, ◌++◌, filter, length, slice_get, take, drop, remove, Contains, Some, inl, inr, refl, sym, ap, ◌∙◌, subst}
use Rattle.std.specs.List.{list_any}
use Rattle.std.proofs.lemmas.Bool.{or_cases, and_from, and_parts}
use Rattle.std.proofs.lemmas.List.{map-append, append_assoc, append-nil, take-append-drop}
use Rattle.std.proofs.lemmas.List.Elements.{Contains-append_left, Contains-append_right, Contains-append_cases, filter-append}
use Rattle.palm_base.specs.declared.terms.Pair.{Pair}
use Rattle.palm_base.specs.declared.terms.Cid.{Cid}
use Rattle.palm_base.specs.declared.terms.Cid.TheVariants.{Decide}
use Rattle.palm_base.proofs.cited.Members.{member_nil, member_here, member_there, member_same, member_map, member_unmap, member_single, filter_agree_members}
use Rattle.palm_base.specs.Order.{Rises}
use Rattle.palm_model.specs.Log.{Active, Removal, Loses, cids_of, is_named}
use Rattle.palm_model.specs.Log.Loses.{none_left, is_kept}
use Rattle.palm_model.specs.State.{EngineState, IsJustifier, IsValid, is_awake, is_over, woken}
use Rattle.palm_model.specs.Event.{Withdraws, WithdrawsAll, gone_with, lost_pairs, vars_of, without_cids, withdrawn}
use Rattle.palm_model.proofs.cited.Supports.{any_member}
use Rattle.palm_base.proofs.cited.CidOrder.{rising_same}
use Rattle.palm_events.proofs.cited.Names.{named_member, member_not_named, not_named_member, single}
use Rattle.palm_events.proofs.cited.Scoped.{withdraws_scoped}
use Rattle.palm_events.proofs.cited.States.{awake_named, awake_over, member_woken, over_member, woken_active, woken_rises, without_cids_member, without_cids_rises, form_justifiers, held_not_justifier}
use Rattle.palm_events.proofs.cited.Valid.{withdraws_valid}
use Rattle.palm_explain.proofs.cited.Withdrawn.{adds_up, lost_in_two, two_lost, lost_logged}
use Rattle.palm_engine.specs.declared.filtering.Filtering.{Filtering}
use Rattle.palm_engine.specs.Changed.{PutsBack}
use Rattle.palm_engine.specs.Kept.{IsEngine, IsInStep, state_of}
use Rattle.palm_engine.specs.Posted.{resting_on}
use Rattle.palm_engine.proofs.Keeping.{put_back_kept, put_back_withdraws}
use Rattle.palm_engine.proofs.Scopes.{connected_is_active}

same_tests : (a b : Bool) → (a ≡ true → b ≡ true) → (b ≡ true → a ≡ true) → a ≡ b
same_tests true b to from = sym (to refl)
same_tests false true to from = from refl
same_tests false false to from = refl

-- ---- two withdrawals

filter_then : (s t u : Active → Bool) → ((a : Active) → s a ≡ (t a && u a)) → (active : List Active) → filter u (filter t active) ≡ filter s active
filter_then s t u same [] = refl
filter_then s t u same (a ∷ active) =
    by_tests (t a) (u a) refl ∙ sym (ap (λ b. cond b (a ∷ filter s active) (filter s active)) (same a) ∙ ap (λ l. cond (t a && u a) (a ∷ l) l) (sym (filter_then s t u same active)))
  where
    by_tests : (b c : Bool) → u a ≡ c → filter u (cond b (a ∷ filter t active) (filter t active)) ≡ cond (b && c) (a ∷ filter u (filter t active)) (filter u (filter t active))
    by_tests true c e = ap (λ d. cond d (a ∷ filter u (filter t active)) (filter u (filter t active))) e
    by_tests false c e = refl

without_both : (first then : List Cid) (active : List Active) → without_cids then (without_cids first active) ≡ without_cids (first ++ then) active
without_both first then active =
    filter_then (λ (a : Active). not (is_named (first ++ then) a.cid)) (λ (a : Active). not (is_named first a.cid)) (λ (a : Active). not (is_named then a.cid))
    (λ a. same_tests (not (is_named (first ++ then) a.cid)) (not (is_named first a.cid) && not (is_named then a.cid))
    (λ h. and_from (not (is_named first a.cid)) (not (is_named then a.cid))
    (member_not_named first a.cid (λ m. not_named_member (first ++ then) a.cid h (Contains-append_left first then a.cid m)))
    (member_not_named then a.cid (λ m. not_named_member (first ++ then) a.cid h (Contains-append_right first then a.cid m))))
    (λ h. let both = and_parts (not (is_named first a.cid)) (not (is_named then a.cid)) h in
    member_not_named (first ++ then) a.cid (λ m. elim (Contains-append_cases first then a.cid m) [
      | inl k ↦ not_named_member first a.cid both.0 k
      | inr k ↦ not_named_member then a.cid both.1 k
    ]))) active

-- a variable of pairs
var_of : (pairs : List Pair) (x : ℕ) → Contains (vars_of pairs) x → (p : Pair) × Contains pairs p × (p.var ≡ x)
var_of pairs x m = member_unmap (λ (p : Pair). p.var) pairs x m

more_vars : (pairs more : List Pair) → ((p : Pair) → Contains pairs p → Contains more p) → (x : ℕ) → Contains (vars_of pairs) x → Contains (vars_of more) x
more_vars pairs more sub x m =
    let r = var_of pairs x m in member_same (vars_of more) r.0.var x r.2 (member_map (λ (p : Pair). p.var) more r.0 (sub r.0 r.1))

pub withdraws_then : (s m t : EngineState) (first then : List Cid) → Rises (cids_of s.active) → WithdrawsAll s first m → WithdrawsAll m then t → WithdrawsAll s (first ++ then) t
withdraws_then s m t first then rises one two =
    let left = two.left in
    let log : m.log ≡ one.left = ap (λ (z : EngineState). z.log) one.after in
    let loses : Loses one.left then one.left left = subst (λ l. Loses l then l left) log two.loses in
    record {
      left = left;
      loses = adds_up s.log one.left left first then one.loses loses;
      after = two.after ∙ ap (λ (z : EngineState). withdrawn z then left) one.after ∙ same_state s one.left left first then rises one.loses loses;
    }
  where
    same_state : (s : EngineState) (middle left : List Removal) (first then : List Cid) → Rises (cids_of s.active) → Loses s.log first s.log middle → Loses middle then middle left
        → withdrawn (withdrawn s first middle) then left ≡ withdrawn s (first ++ then) left
    same_state s middle left first then rises one two =
        let between = without_cids first s.active in
        let active = without_cids then between in
        let all = without_cids (first ++ then) s.active in
        let vars = vars_of (lost_pairs s.log middle) in
        let more = vars_of (lost_pairs middle left) in
        let lost = vars_of (lost_pairs s.log left) in
        let same = without_both first then s.active in
        let between_rises = without_cids_rises first s.active rises in
        let pending : woken active (woken between s.pending vars) more ≡ woken active s.pending lost =
        rising_same (woken active (woken between s.pending vars) more) (woken active s.pending lost)
        (woken_rises active (woken between s.pending vars) more (without_cids_rises then between between_rises))
        (woken_rises active s.pending lost (without_cids_rises then between between_rises))
        (λ c k.
        let r = woken_active active (woken between s.pending vars) more c k in
        subst (Contains (woken active s.pending lost)) r.2 (member_woken active s.pending lost r.0 r.1
        (elim (or_cases (is_named (woken between s.pending vars) r.0.cid) (list_any (λ x. is_over r.0.con x) more) r.3) [
          | inl h ↦
              let b = woken_active between s.pending vars r.0.cid (named_member (woken between s.pending vars) r.0.cid h) in
              let e = single between between_rises b.0 r.0 b.1 (without_cids_member then between r.0 r.1).0 b.2 in
              let awake : is_awake s.pending vars r.0 ≡ true = subst (λ z. is_awake s.pending vars z ≡ true) e b.3 in
              elim (or_cases (is_named s.pending r.0.cid) (list_any (λ x. is_over r.0.con x) vars) awake) [
                | inl n ↦ awake_named s.pending lost r.0 (named_member s.pending r.0.cid n)
                | inr n ↦ let x = any_member (λ y. is_over r.0.con y) vars n in
                    awake_over s.pending lost r.0 x.0 (more_vars (lost_pairs s.log middle) (lost_pairs s.log left) (λ p j. two_lost s.log middle left first then one two p (inl j)) x.0 x.1) (over_member r.0.con x.0 x.2)
              ]
          | inr h ↦ let x = any_member (λ y. is_over r.0.con y) more h in
              awake_over s.pending lost r.0 x.0 (more_vars (lost_pairs middle left) (lost_pairs s.log left) (λ p j. two_lost s.log middle left first then one two p (inr j)) x.0 x.1) (over_member r.0.con x.0 x.2)
        ])))
        (λ c k.
        let r = woken_active active s.pending lost c k in
        let was = (without_cids_member then between r.0 r.1).0 in
        subst (Contains (woken active (woken between s.pending vars) more)) r.2 (member_woken active (woken between s.pending vars) more r.0 r.1
        (elim (or_cases (is_named s.pending r.0.cid) (list_any (λ x. is_over r.0.con x) lost) r.3) [
          | inl h ↦ awake_named (woken between s.pending vars) more r.0 (member_woken between s.pending vars r.0 was (awake_named s.pending vars r.0 (named_member s.pending r.0.cid h)))
          | inr h ↦
              let x = any_member (λ y. is_over r.0.con y) lost h in
              let p = var_of (lost_pairs s.log left) x.0 x.1 in
              let over = over_member r.0.con x.0 x.2 in
              elim (lost_in_two s.log middle left first then one two p.0 p.1) [
                | inl j ↦ awake_named (woken between s.pending vars) more r.0 (member_woken between s.pending vars r.0 was
                    (awake_over s.pending vars r.0 x.0 (member_same vars p.0.var x.0 p.2 (member_map (λ (q : Pair). q.var) (lost_pairs s.log middle) p.0 j)) over))
                | inr j ↦ awake_over (woken between s.pending vars) more r.0 x.0 (member_same more p.0.var x.0 p.2 (member_map (λ (q : Pair). q.var) (lost_pairs middle left) p.0 j)) over
              ]
        ]))) in
        let there : withdrawn (withdrawn s first middle) then left ≡ record s { active = active; log = left; pending = woken active s.pending lost } =
        ap (λ cids. record s { active = active; log = left; pending = cids }) pending in
        there ∙ ap (λ l. record s { active = l; log = left; pending = woken l s.pending lost }) same

-- ---- none at all

pub loses_none : (log rest : List Removal) → Loses log [] rest rest
loses_none log [] = none_left
loses_none log (r ∷ rest) = is_kept r rest rest (λ some. member_nil some.cid some.among) (loses_none log rest)

pub without_none : (active : List Active) → without_cids [] active ≡ active
without_none [] = refl
without_none (a ∷ active) = ap (λ l. a ∷ l) (without_none active)

pub none_lost : (log : List Removal) (x : ℕ) → Contains (vars_of (lost_pairs log log)) x → ⊥
none_lost log x m = let r = var_of (lost_pairs log log) x m in let l = lost_logged log log r.0 r.1 in l.1 l.0

pub withdraws_none : (f : Filtering) (active : List Active) → Rises (cids_of active) → IsInStep f active → WithdrawsAll (state_of f active) [] (state_of f active)
withdraws_none f active rises kept =
    let pending = f.agenda.pending in
    let vars = vars_of (lost_pairs f.log.log f.log.log) in
    let same : pending ≡ woken active pending vars =
    rising_same pending (woken active pending vars) kept.formed.pending_rising (woken_rises active pending vars rises)
    (λ c m.
    let is = connected_is_active active f.agenda.connected kept.connected c (kept.formed.pending_connected c m) in
    subst (Contains (woken active pending vars)) is.named (member_woken active pending vars is.owner is.posted (awake_named pending vars is.owner (member_same pending c is.owner.cid (sym is.named) m))))
    (λ c m.
    let r = woken_active active pending vars c m in
    elim (or_cases (is_named pending r.0.cid) (list_any (λ x. is_over r.0.con x) vars) r.3) [
      | inl t ↦ member_same pending r.0.cid c r.2 (named_member pending r.0.cid t)
      | inr t ↦ let x = any_member (λ y. is_over r.0.con y) vars t in absurd (none_lost f.log.log x.0 x.1)
    ]) in
    record {
      left = f.log.log;
      loses = loses_none f.log.log f.log.log;
      after = ap (λ cids. record (state_of f active) { pending = cids }) same
          ∙ ap (λ l. record (state_of f active) { active = l; pending = woken l pending vars }) (sym (without_none active));
    }

-- ---- one constraint is taken out

pub taken_out_kept : (f g : Filtering) (cid : Cid) (a : Active) (before after : List Active) → PutsBack f cid g → cid ≡ a.cid → after ≡ without_cids (a.cid ∷ []) before → IsInStep f before → IsInStep g after
taken_out_kept f g cid a before after puts named left kept =
    subst (IsInStep g) (ap (λ c. without_cids (c ∷ []) before) named ∙ sym left) (put_back_kept f g cid before puts kept)

pub taken_out_withdraws : (f g : Filtering) (cid : Cid) (a : Active) (before after : List Active) → Rises (cids_of before) → PutsBack f cid g → cid ≡ a.cid → after ≡ without_cids (a.cid ∷ []) before → IsInStep f before
    → WithdrawsAll (state_of f before) (a.cid ∷ []) (state_of g after)
taken_out_withdraws f g cid a before after rises puts named left kept =
    subst (λ l. WithdrawsAll (state_of f before) (a.cid ∷ []) (state_of g l)) (sym left)
    (subst (λ c. WithdrawsAll (state_of f before) (c ∷ []) (state_of g (without_cids (c ∷ []) before))) named (put_back_withdraws f g cid before rises puts kept))

-- ---- the constraints that rest on an id

pub resting_push : (active : List Active) (a : Active) (cid : Cid) → is_named a.justification cid ≡ true → resting_on (active ++ a ∷ []) cid ≡ resting_on active cid ++ a.cid ∷ []
resting_push active a cid rests =
    ap cids_of (filter-append (λ (b : Active). is_named b.justification cid) active (a ∷ []) ∙ ap (λ b. filter (λ (c : Active). is_named c.justification cid) active ++ cond b (a ∷ []) []) rests)
    ∙ map-append (λ (b : Active). b.cid) (filter (λ (b : Active). is_named b.justification cid) active) (a ∷ [])

pub resting_same : (active : List Active) (a : Active) (cid : Cid) → is_named a.justification cid ≡ false → resting_on (active ++ a ∷ []) cid ≡ resting_on active cid
resting_same active a cid stands =
    ap cids_of (filter-append (λ (b : Active). is_named b.justification cid) active (a ∷ []) ∙ ap (λ b. filter (λ (c : Active). is_named c.justification cid) active ++ cond b (a ∷ []) []) stands
    ∙ append-nil (filter (λ (c : Active). is_named c.justification cid) active))

-- constraints without justification rest on nothing
pub resting_none : (active : List Active) (cid : Cid) → ((a : Active) → Contains active a → a.justification ≡ []) → resting_on active cid ≡ []
resting_none [] cid none = refl
resting_none (a ∷ active) cid none =
    let e : is_named a.justification cid ≡ false = ap (λ cids. is_named cids cid) (none a (member_here a active)) in
    ap (λ b. cids_of (cond b (a ∷ filter (λ (c : Active). is_named c.justification cid) active) (filter (λ (c : Active). is_named c.justification cid) active))) e
    ∙ resting_none active cid (λ b m. none b (member_there a active b m))

pub resting_append : (front rest : List Active) (cid : Cid) → resting_on rest cid ≡ [] → resting_on (front ++ rest) cid ≡ resting_on front cid
resting_append front rest cid none =
    ap cids_of (filter-append (λ (b : Active). is_named b.justification cid) front rest)
    ∙ map-append (λ (b : Active). b.cid) (filter (λ (b : Active). is_named b.justification cid) front) (filter (λ (b : Active). is_named b.justification cid) rest)
    ∙ ap (λ cids. resting_on front cid ++ cids) none ∙ append-nil (resting_on front cid)

-- no constraint rests on itself, so all that rest on an id are still there when its own constraint is gone
pub resting_left : (s : EngineState) (cid : Cid) → IsValid s → resting_on (without_cids (cid ∷ []) s.active) cid ≡ resting_on s.active cid
resting_left s cid valid =
    ap cids_of (filter_then (λ (a : Active). is_named a.justification cid && not (is_named (cid ∷ []) a.cid)) (λ (a : Active). not (is_named (cid ∷ []) a.cid)) (λ (a : Active). is_named a.justification cid)
    (λ a. and_swap (is_named a.justification cid) (not (is_named (cid ∷ []) a.cid))) s.active
    ∙ filter_agree_members (λ (a : Active). is_named a.justification cid && not (is_named (cid ∷ []) a.cid)) (λ (a : Active). is_named a.justification cid) s.active
    (λ a m. same_tests (is_named a.justification cid && not (is_named (cid ∷ []) a.cid)) (is_named a.justification cid)
    (λ h. (and_parts (is_named a.justification cid) (not (is_named (cid ∷ []) a.cid)) h).0)
    (λ h. and_from (is_named a.justification cid) (not (is_named (cid ∷ []) a.cid)) h (member_not_named (cid ∷ []) a.cid (λ k.
    let held = named_member a.justification cid h in
    let justifier = (form_justifiers (length s.initial) s.active a.cid a.con a.justification (valid.formed a m).form cid held).0 in
    held_not_justifier (length s.initial) s.active a cid (valid.formed a m) held (subst IsJustifier (member_single cid a.cid k) justifier))))))
  where
    and_swap : (a b : Bool) → (a && b) ≡ (b && a)
    and_swap true true = refl
    and_swap true false = refl
    and_swap false true = refl
    and_swap false false = refl

-- the constraint, and then those that rest on it
pub withdraws_both : (s m t : EngineState) (cid : Cid) → IsValid s → m.active ≡ without_cids (cid ∷ []) s.active → WithdrawsAll s (cid ∷ []) m → WithdrawsAll m (resting_on m.active cid) t → Withdraws s cid t
withdraws_both s m t cid valid active one two =
    subst (λ cids. WithdrawsAll s (cid ∷ cids) t) (ap (λ l. resting_on l cid) active ∙ resting_left s cid valid)
    (withdraws_then s m t (cid ∷ []) (resting_on m.active cid) valid.rising one two)

-- ---- walking the negations

drop_removed : {X : Type 0} (xs : List X) (k : ℕ) → drop k (remove xs k) ≡ drop (suc k) xs
drop_removed [] zero = refl
drop_removed [] (suc k) = refl
drop_removed (x ∷ xs) zero = refl
drop_removed (x ∷ xs) (suc k) = drop_removed xs k

drop_here : (xs : List Active) (k : ℕ) (a : Active) → slice_get xs k ≡ Some a → drop k xs ≡ a ∷ drop (suc k) xs
drop_here [] k a e = cc
drop_here (x ∷ xs) zero a e = ap (λ z. z ∷ xs) (some_in x a e)
  where
    some_in : (x a : Active) → Some x ≡ Some a → x ≡ a
    some_in x a e = cc
drop_here (x ∷ xs) (suc k) a e = drop_here xs k a e

-- how far the walk over the constraints behind the decisions has come: the front is done
pub record IsWalked (f : Filtering) (before : List Active) (cid : Cid) (g : Filtering) (after : List Active) (place : ℕ) : Type 0 where
  pub kept : IsInStep g after
  pub rising : Rises (cids_of after)
  pub front : List Active
  pub parts : before ≡ front ++ drop place after
  pub behind : (a : Active) (x : ℕ) → Contains (drop place after) a → a.cid ≡ Decide x → ⊥
  pub withdraws : WithdrawsAll (state_of f before) (resting_on front cid) (state_of g after)
  pub checks : g.checks ≡ f.checks

-- the constraint at the place stays
pub walked_past : (f g : Filtering) (before after : List Active) (cid : Cid) (place : ℕ) (a : Active) → slice_get after place ≡ Some a → is_named a.justification cid ≡ false
    → IsWalked f before cid g after place → IsWalked f before cid g after (suc place)
walked_past f g before after cid place a e stands walked = record {
  kept = walked.kept;
  rising = walked.rising;
  front = walked.front ++ a ∷ [];
  parts = walked.parts ∙ ap (λ l. walked.front ++ l) (drop_here after place a e) ∙ sym (append_assoc walked.front (a ∷ []) (drop (suc place) after));
  behind = λ b x m. walked.behind b x (subst (λ l. Contains l b) (sym (drop_here after place a e)) (member_there a (drop (suc place) after) b m));
  withdraws = subst (λ cids. WithdrawsAll (state_of f before) cids (state_of g after)) (sym (resting_same walked.front a cid stands)) walked.withdraws;
  checks = walked.checks;
}

-- it goes
pub walked_out : (f g h : Filtering) (before middle after : List Active) (cid : Cid) (place : ℕ) (a : Active) → Rises (cids_of before) → slice_get middle place ≡ Some a → is_named a.justification cid ≡ true
    → after ≡ remove middle place → Rises (cids_of after) → IsInStep h after → WithdrawsAll (state_of g middle) (a.cid ∷ []) (state_of h after) → h.checks ≡ g.checks
    → IsWalked f before cid g middle place → IsWalked f before cid h after place
walked_out f g h before middle after cid place a rises e rests left rising kept withdraws checks walked =
    let rest : drop place after ≡ drop (suc place) middle = ap (drop place) left ∙ drop_removed middle place in
    record {
      kept = kept;
      rising = rising;
      front = walked.front ++ a ∷ [];
      parts = walked.parts ∙ ap (λ l. walked.front ++ l) (drop_here middle place a e) ∙ sym (append_assoc walked.front (a ∷ []) (drop (suc place) middle)) ∙ ap (λ l. (walked.front ++ a ∷ []) ++ l) (sym rest);
      behind = λ b x m. walked.behind b x (subst (λ l. Contains l b) (sym (drop_here middle place a e)) (member_there a (drop (suc place) middle) b (subst (λ l. Contains l b) rest m)));
      withdraws = subst (λ cids. WithdrawsAll (state_of f before) cids (state_of h after)) (sym (resting_push walked.front a cid rests))
          (withdraws_then (state_of f before) (state_of g middle) (state_of h after) (resting_on walked.front cid) (a.cid ∷ []) rises walked.withdraws withdraws);
      checks = checks ∙ walked.checks;
    }

-- behind the decisions the walk begins
pub walk_starts : (f : Filtering) (active : List Active) (cid : Cid) (place : ℕ) → Rises (cids_of active) → IsInStep f active → ((a : Active) → Contains (take place active) a → a.justification ≡ [])
    → ((a : Active) (x : ℕ) → Contains (drop place active) a → a.cid ≡ Decide x → ⊥) → IsWalked f active cid f active place
walk_starts f active cid place rises kept stands behind = record {
  kept = kept;
  rising = rises;
  front = take place active;
  parts = sym (take-append-drop place active);
  behind = behind;
  withdraws = subst (λ cids. WithdrawsAll (state_of f active) cids (state_of f active)) (sym (resting_none (take place active) cid stands)) (withdraws_none f active rises kept);
  checks = refl;
}

-- where the others rest on nothing it is over
pub walk_ends : (f g : Filtering) (before after : List Active) (cid : Cid) (place : ℕ) → IsWalked f before cid g after place → ((a : Active) → Contains (drop place after) a → a.justification ≡ [])
    → WithdrawsAll (state_of f before) (resting_on before cid) (state_of g after)
walk_ends f g before after cid place walked stands =
    subst (λ cids. WithdrawsAll (state_of f before) cids (state_of g after))
    (sym (ap (λ l. resting_on l cid) walked.parts ∙ resting_append walked.front (drop place after) cid (resting_none (drop place after) cid stands))) walked.withdraws

-- and the whole withdrawal
pub withdrawn_engine : (f m g : Filtering) (active middle after : List Active) (cid : Cid) (a : Active) → IsEngine f active → a.cid ≡ cid → middle ≡ without_cids (a.cid ∷ []) active
    → WithdrawsAll (state_of f active) (a.cid ∷ []) (state_of m middle) → WithdrawsAll (state_of m middle) (resting_on middle cid) (state_of g after) → IsInStep g after
    → IsEngine g after × Withdraws (state_of f active) cid (state_of g after)
withdrawn_engine f m g active middle after cid a engine named left one two kept =
    let withdraws = withdraws_both (state_of f active) (state_of m middle) (state_of g after) cid engine.valid (left ∙ ap (λ c. without_cids (c ∷ []) active) named)
    (subst (λ c. WithdrawsAll (state_of f active) (c ∷ []) (state_of m middle)) named one) two in (
      record {
        kept = kept;
        valid = withdraws_valid (state_of f active) (state_of g after) cid withdraws engine.valid;
        scoped = withdraws_scoped (state_of f active) (state_of g after) (gone_with active cid) withdraws engine.scoped;
      },
      withdraws,
    )
