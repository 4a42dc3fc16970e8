-- How much a settling may ask behind a withdrawal: what is pending then is over a variable of which a value came back.
use Rattle.std.proofs.Common.{◌≡◌, ℕ, ◌≤◌, ◌⊎◌, Option, Bool, true, false, List, [], ◌∷◌, filter, sum_by, Contains, inl, inr, refl, ap, ◌∙◌, subst, arith}
use Rattle.std.specs.List.{list_any}
use Rattle.std.proofs.lemmas.Bool.{or_cases}
use Rattle.std.proofs.lemmas.List.Sums.{sum_by-cons}
use Rattle.palm_base.specs.declared.terms.Pair.{Pair}
use Rattle.palm_base.specs.declared.terms.Cid.{Cid}
use Rattle.palm_base.specs.Order.{Rises}
use Rattle.palm_model.specs.Domains.{Domains}
use Rattle.palm_model.specs.Log.{Active, cids_of, is_named, log_pairs}
use Rattle.palm_model.specs.State.{EngineState, IsValid, is_over, woken}
use Rattle.palm_model.specs.Event.{Withdraws, lost_pairs, vars_of}
use Rattle.palm_model.proofs.cited.Supports.{any_member, member_any}
use Rattle.palm_events.proofs.cited.Names.{named_member, single}
use Rattle.palm_events.proofs.cited.States.{woken_active}
use Rattle.palm_events.proofs.cited.Valid.{withdraws_valid}
use Rattle.palm_engine.specs.Settling.{Revision, Settles}
use Rattle.palm_engine.specs.Work.{HasRestored, IsPaidBack, most_asked, most_asked_back, named_sizes, size_of, sizes_of}
use Rattle.palm_engine.proofs.Working.{none_sum, one_or_other, settling_paid, sums_below}

-- whether the constraint is over one of the variables
abbrev over_some : List ℕ → Active → Bool
over_some vars a = list_any (λ x. is_over a.con x) vars

-- constraints over some of the variables have no more pairs than those over each of them together
all_over : (initial : Domains) (active : List Active) (vars : List ℕ)
    → sizes_of initial (filter (over_some vars) active) ≤ sum_by (λ x. sizes_of initial (filter (λ a. is_over a.con x) active)) vars
all_over initial active [] = let z = none_sum (λ (a : Active). size_of initial a.con) active in omega (arith, z)
all_over initial active (x ∷ vars) =
    let rest = all_over initial active vars in
    let k = sums_below (λ (a : Active). size_of initial a.con) (over_some (x ∷ vars)) (λ a. false) (over_some vars) (λ a. is_over a.con x) active
    (λ a m. one_or_other (over_some (x ∷ vars) a) (over_some vars a) (is_over a.con x) (λ t. swap (or_cases (is_over a.con x) (over_some vars a) t))) in
    let z = none_sum (λ (a : Active). size_of initial a.con) active in
    let e = sum_by-cons (λ y. sizes_of initial (filter (λ a. is_over a.con y) active)) x vars in
    omega (arith, rest, k, z, e)
  where
    swap : {A B : Type 0} → A ⊎ B → B ⊎ A
    swap (inl a) = inr a
    swap (inr b) = inl b

-- what was woken for some variables, with nothing pending before, is over one of them
woken_over : (active : List Active) (woke vars : List ℕ) → Rises (cids_of active) → ((x : ℕ) → Contains woke x → Contains vars x) → (a : Active) → Contains active a
    → is_named (woken active [] woke) a.cid ≡ true → over_some vars a ≡ true
woken_over active woke vars rises among a m t =
    let r = woken_active active [] woke a.cid (named_member (woken active [] woke) a.cid t) in
    let same = single active rises r.0 a r.1 m r.2 in
    let some = any_member (λ x. is_over r.0.con x) woke r.3 in
    member_any (λ x. is_over a.con x) vars some.0 (among some.0 some.1) (subst (λ (b : Active). is_over b.con some.0 ≡ true) same some.2)

woken_sizes : (initial : Domains) (active : List Active) (woke vars : List ℕ) → Rises (cids_of active) → ((x : ℕ) → Contains woke x → Contains vars x)
    → sizes_of initial (filter (λ a. is_named (woken active [] woke) a.cid) active) ≤ sum_by (λ x. sizes_of initial (filter (λ a. is_over a.con x) active)) vars
woken_sizes initial active woke vars rises among =
    let k = sums_below (λ (a : Active). size_of initial a.con) (λ a. is_named (woken active [] woke) a.cid) (λ a. false) (over_some vars) (λ a. false) active
    (λ a m. one_or_other (is_named (woken active [] woke) a.cid) (over_some vars a) false (λ t. inl (woken_over active woke vars rises among a m t))) in
    let z = none_sum (λ (a : Active). size_of initial a.con) active in
    let over = all_over initial active vars in
    omega (arith, k, z, over)

-- a withdrawal at which nothing is pending leaves no more to ask
pub back_paid : (s m : EngineState) (cid : Cid) (pairs : List Pair) (vars : List ℕ) → IsValid s → s.pending ≡ [] → Withdraws s cid m → HasRestored s m vars
    → most_asked m pairs ≤ most_asked_back m vars pairs
back_paid s m cid pairs vars valid quiet withdraws restored =
    let rises : Rises (cids_of m.active) = (withdraws_valid s m cid withdraws valid).rising in
    let woke = vars_of (lost_pairs s.log m.log) in
    let pending : m.pending ≡ woken m.active [] woke = pending_back s m cid quiet withdraws in
    let k = woken_sizes m.initial m.active woke vars rises restored in
    let e = ap (λ (cids : List Cid). named_sizes m cids) pending in
    omega (arith, k, e)
  where
    pending_back : (s m : EngineState) (cid : Cid) → s.pending ≡ [] → Withdraws s cid m → m.pending ≡ woken m.active [] (vars_of (lost_pairs s.log m.log))
    pending_back s m cid quiet withdraws = rw withdraws.after (rw quiet refl)

-- nor does what is left where nothing was withdrawn
pub quiet_paid : (s : EngineState) (pairs : List Pair) (vars : List ℕ) → s.pending ≡ [] → most_asked s pairs ≤ most_asked_back s vars pairs
quiet_paid s pairs vars quiet =
    let none : named_sizes s s.pending ≡ 0 = ap (λ (cids : List Cid). named_sizes s cids) quiet ∙ none_sum (λ (a : Active). size_of s.initial a.con) s.active in
    omega (arith, none)

pub settling_paid_back : (limit : Option ℕ) (s m t : EngineState) (cid : Cid) (rs : List Revision) → IsValid s → s.pending ≡ [] → Withdraws s cid m → Settles limit m rs t
    → IsPaidBack s m rs t
settling_paid_back limit s m t cid rs valid quiet withdraws settles =
    let paid = settling_paid limit m rs t (withdraws_valid s m cid withdraws valid).rising settles in
    record {
      gained = paid.gained;
      log = paid.log;
      paid = paid.paid;
      back = λ vars restored. back_paid s m cid (log_pairs paid.gained) vars valid quiet withdraws restored;
    }
