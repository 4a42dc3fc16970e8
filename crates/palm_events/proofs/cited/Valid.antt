-- Every event and every silent step keeps a state valid.
use Rattle.std.proofs.Common.{◌≡◌, ℕ, not, ◌<◌, ◌≤◌, List, [], ◌∷◌, ◌++◌, length, Contains, ℤ, inl, inr, refl, sym, ap, subst, arith, length-append}
use Rattle.std.proofs.lemmas.List.{map-append}
use Rattle.std.proofs.lemmas.List.Elements.{All-append, All-nil, All-cons, Contains-append_cases, Contains-append_left}
use Rattle.palm_base.specs.declared.terms.Pair.{Pair}
use Rattle.palm_base.specs.declared.terms.Cid.{Cid}
use Rattle.palm_base.proofs.cited.Members.{member_nil, member_here, member_there, member_single, member_same, member_map, member_filter}
use Rattle.palm_model.specs.Domains.{Domains, Ascends, AllAscend, Has, is_among, without}
use Rattle.palm_model.specs.Constraint.{scope}
use Rattle.palm_base.specs.Order.{Rises}
use Rattle.palm_model.specs.Log.{Active, IsActive, Removal, IsRight, AreRight, Loses, cids_of, log_pairs}
use Rattle.palm_model.specs.Closure.{IsClosedBy}
use Rattle.palm_model.specs.State.{EngineState, FitsCid, IsValid, present, blank, without_cid}
use Rattle.palm_model.specs.Event.{Posts, WithdrawsAll, Withdraws, Removes, Calms, Declares, posted, withdrawn, removed, calmed, with_posted, without_cids, gone_with, lost_pairs, vars_of, removal_of}
use Rattle.palm_model.proofs.cited.Narrowing.{has_declared}
use Rattle.palm_model.proofs.cited.Supports.{not_true}
use Rattle.palm_model.proofs.cited.Without.{pair_of, among_member, without_has, has_without, without_grows}
use Rattle.palm_events.specs.Along.{KeepsJustifiers}
use Rattle.palm_events.specs.Reasons.{ReasonsAreRight}
use Rattle.palm_base.proofs.cited.CidOrder.{cid_known}
use Rattle.palm_events.proofs.cited.Names.{single}
use Rattle.palm_events.proofs.cited.Logs.{right_push, right_more, left_founded, left_member, logged, pair_logged}
use Rattle.palm_events.proofs.cited.Agreeing.{lacks_in, closed_in, more_has, has_more, values_of_more}
use Rattle.palm_events.proofs.cited.States.{waits, woken_waits, woken_rises, woken_active, asleep_before, asleep_over, without_cid_rises, without_cid_member, member_without_cid, with_posted_cases, member_with_posted, with_posted_rises, without_cids_member, member_without_cids, without_cids_rises, form_more, form_declared, gone_justifiers}
use Rattle.palm_events.proofs.cited.Reasons.{removal_right}

-- ---- what a valid state has

pub pending_active : (s : EngineState) → IsValid s → (c : Cid) → Contains s.pending c → IsActive s.active c
pending_active s valid c m =
    let r = woken_active s.active s.pending [] c (subst (λ cs. Contains cs c) valid.waiting m) in
    record { owner = r.0; posted = r.1; named = r.2 }

pub pending_rises : (s : EngineState) → IsValid s → Rises s.pending
pending_rises s valid = subst Rises (sym valid.waiting) (woken_rises s.active s.pending [] valid.rising)

pub active_declared : (s : EngineState) → IsValid s → (a : Active) → Contains s.active a → (x : ℕ) → Contains (scope a.con) x → x < length s.initial
active_declared s valid a m x over = form_declared (length s.initial) s.active a.cid a.con a.justification (valid.formed a m).form x over

-- ---- the state without constraints

pub blank_valid : (initial : Domains) → AllAscend initial → IsValid (blank initial)
blank_valid initial ascend = record {
  ascend = ascend;
  rising = tt;
  formed = λ a m. absurd (member_nil a m);
  founded = tt;
  waiting = refl;
  closed = λ a m n. absurd (member_nil a m);
}

-- ---- posting

still_active : (a : Active) (active : List Active) (c : Cid) → (IsActive active a.cid → ⊥) → IsActive active c → IsActive (with_posted a active) c
still_active a active c inactive is = record { owner = is.owner; posted = member_with_posted a active is.owner inactive is.posted; named = is.named }

formed_with : (n : ℕ) (a : Active) (active : List Active) (b : Active) → (IsActive active a.cid → ⊥) → FitsCid n active b → FitsCid n (with_posted a active) b
formed_with n a active b inactive formed = record {
  form = form_more n n active (with_posted a active) b.cid b.con b.justification (omega arith) (λ c m g is. still_active a active c inactive is) formed.form;
}

posted_valid : (s : EngineState) (a : Active) → (IsActive s.active a.cid → ⊥) → FitsCid (length s.initial) s.active a → IsValid s → IsValid (posted s a)
posted_valid s a inactive formed valid =
    let active = with_posted a s.active in
    let rising : Rises (cids_of active) = with_posted_rises a s.active valid.rising in
    record {
      ascend = valid.ascend;
      rising = rising;
      formed = λ b m. formed_with (length s.initial) a s.active b inactive (elim (with_posted_cases a s.active b m) [
        | inl e ↦ subst (λ c. FitsCid (length s.initial) s.active c) e formed
        | inr k ↦ valid.formed b k
      ]);
      founded = right_more s.initial s.active active (λ b m. member_with_posted a s.active b inactive m) [] s.log valid.founded;
      waiting = woken_waits active (a.cid ∷ s.pending) [] rising;
      closed = λ b m asleep.
          let quiet = asleep_before active (a.cid ∷ s.pending) [] b m asleep in
          elim (with_posted_cases a s.active b m) [
            | inl e ↦ absurd (quiet (member_same (a.cid ∷ s.pending) a.cid b.cid (ap (λ (c : Active). c.cid) e) (member_here a.cid s.pending)))
            | inr k ↦ valid.closed b k (λ p. quiet (member_there a.cid s.pending b.cid p))
          ];
    }

pub posts_valid : (s t : EngineState) (a : Active) → Posts s a t → IsValid s → IsValid t
posts_valid s t a posts valid = subst IsValid (sym posts.after) (posted_valid s a posts.inactive posts.formed valid)

-- ---- withdrawing

-- a withdrawal puts pairs back, and only over the restored variables
pub left_grows : (s : EngineState) (gone : List Cid) (left : List Removal) → Loses s.log gone s.log left → (x : ℕ) (v : ℤ) → Has (present s) x v → Has (without s.initial (log_pairs left)) x v
left_grows s gone left loses = without_grows s.initial (log_pairs s.log) (log_pairs left) (λ p m.
    let r = logged left p m in member_same (log_pairs s.log) r.0.pair p r.2 (pair_logged s.log r.0 (left_member s.log gone s.log left loses r.0 r.1)))

pub left_same : (s : EngineState) (left : List Removal) (x : ℕ) (v : ℤ) → (Contains (vars_of (lost_pairs s.log left)) x → ⊥) → Has (without s.initial (log_pairs left)) x v → Has (present s) x v
left_same s left x v untouched has =
    let r = without_has s.initial (log_pairs left) x v has in
    has_without s.initial (log_pairs s.log) x v r.0 (λ m. untouched
    (member_map (λ (p : Pair). p.var) (lost_pairs s.log left) (pair_of x v)
    (member_filter (λ p. not (is_among (log_pairs left) p.var p.value)) (log_pairs s.log) (pair_of x v) m
    (not_true (is_among (log_pairs left) x v) (λ t. r.1 (among_member (log_pairs left) x v t))))))

stays_active : (s : EngineState) (gone : List Cid) (c : Cid) → (Contains gone c → ⊥) → IsActive s.active c → IsActive (without_cids gone s.active) c
stays_active s gone c stays is = record {
  owner = is.owner;
  posted = member_without_cids gone s.active is.owner is.posted (λ m. stays (member_same gone is.owner.cid c is.named m));
  named = is.named;
}

withdrawn_valid : (s : EngineState) (gone : List Cid) (left : List Removal) → KeepsJustifiers s.active gone → Loses s.log gone s.log left → IsValid s → IsValid (withdrawn s gone left)
withdrawn_valid s gone left keeps loses valid =
    let active = without_cids gone s.active in
    let vars = vars_of (lost_pairs s.log left) in
    let rising : Rises (cids_of active) = without_cids_rises gone s.active valid.rising in
    record {
      ascend = valid.ascend;
      rising = rising;
      formed = λ a m.
          let r = without_cids_member gone s.active a m in
          record {
            form = form_more (length s.initial) (length s.initial) s.active active a.cid a.con a.justification (omega arith)
                (λ c k justifier is. stays_active s gone c (keeps a r.0 r.1 c k justifier) is) (valid.formed a r.0).form;
          };
      founded = left_founded s.initial s.active s.log gone left valid.founded loses;
      waiting = woken_waits active s.pending vars rising;
      closed = λ a m asleep.
          let r = without_cids_member gone s.active a m in
          let was = valid.closed a r.0 (asleep_before active s.pending vars a m asleep) in
          closed_in a.con (present s) (without s.initial (log_pairs left))
          (λ x v over has. left_grows s gone left loses x v has)
          (λ x v over has. left_same s left x v (λ at. asleep_over active s.pending vars a m asleep x at over) has) was;
    }

pub withdraws_all_valid : (s t : EngineState) (gone : List Cid) → KeepsJustifiers s.active gone → WithdrawsAll s gone t → IsValid s → IsValid t
withdraws_all_valid s t gone keeps withdraws valid = subst IsValid (sym withdraws.after) (withdrawn_valid s gone withdraws.left keeps withdraws.loses valid)

pub withdraws_valid : (s t : EngineState) (cid : Cid) → Withdraws s cid t → IsValid s → IsValid t
withdraws_valid s t cid withdraws valid = withdraws_all_valid s t (gone_with s.active cid) (gone_justifiers (length s.initial) s.active cid valid.formed) withdraws valid

-- ---- removing

pub removed_pairs_are : (s : EngineState) (a : Active) (p : Pair) → log_pairs (s.log ++ removal_of s a p ∷ []) ≡ log_pairs s.log ++ p ∷ []
removed_pairs_are s a p = map-append (λ (r : Removal). r.pair) s.log (removal_of s a p ∷ [])

pub removed_has : (s : EngineState) (a : Active) (p : Pair) (x : ℕ) (v : ℤ) → Has (present (removed s a p)) x v → Has (present s) x v
removed_has s a p x v has =
    let r = without_has s.initial (log_pairs (s.log ++ removal_of s a p ∷ [])) x v has in
    has_without s.initial (log_pairs s.log) x v r.0 (λ m. r.1 (subst (λ ps. Contains ps (pair_of x v)) (sym (removed_pairs_are s a p)) (Contains-append_left (log_pairs s.log) (p ∷ []) (pair_of x v) m)))

pub has_removed : (s : EngineState) (a : Active) (p : Pair) (x : ℕ) (v : ℤ) → (p ≡ pair_of x v → ⊥) → Has (present s) x v → Has (present (removed s a p)) x v
has_removed s a p x v other has =
    let r = without_has s.initial (log_pairs s.log) x v has in
    has_without s.initial (log_pairs (s.log ++ removal_of s a p ∷ [])) x v r.0 (λ m.
    elim (Contains-append_cases (log_pairs s.log) (p ∷ []) (pair_of x v) (subst (λ ps. Contains ps (pair_of x v)) (removed_pairs_are s a p) m)) [
      | inl k ↦ r.1 k
      | inr k ↦ other (member_single p (pair_of x v) k)
    ])

removed_valid : (s : EngineState) (a : Active) (p : Pair) → IsRight s.initial s.active s.log (removal_of s a p) → IsValid s → IsValid (removed s a p)
removed_valid s a p right valid = record {
  ascend = valid.ascend;
  rising = valid.rising;
  formed = valid.formed;
  founded = right_push s.initial s.active [] s.log (removal_of s a p) valid.founded right;
  waiting = woken_waits s.active s.pending (p.var ∷ []) valid.rising;
  closed = λ b m asleep.
      let was = valid.closed b m (asleep_before s.active s.pending (p.var ∷ []) b m asleep) in
      closed_in b.con (present s) (present (removed s a p))
      (λ x v over has. has_removed s a p x v (λ e. asleep_over s.active s.pending (p.var ∷ []) b m asleep p.var (member_here p.var []) (subst (λ y. Contains (scope b.con) y) (sym (ap (λ (q : Pair). q.var) e)) over)) has)
      (λ x v over has. removed_has s a p x v has) was;
}

pub removes_valid : ReasonsAreRight → (s t : EngineState) (a : Active) (p : Pair) → Removes s a p t → IsValid s → IsValid t
removes_valid right s t a p removes valid =
    subst IsValid (sym removes.after) (removed_valid s a p (removal_right right s t a p valid.ascend (valid.formed a removes.posted) removes) valid)

-- ---- between two events

calmed_valid : (s : EngineState) (a : Active) → Contains s.active a → IsClosedBy a.con (present s) → IsValid s → IsValid (calmed s a.cid)
calmed_valid s a posted closed valid = record {
  ascend = valid.ascend;
  rising = valid.rising;
  formed = valid.formed;
  founded = valid.founded;
  waiting = waits s.active (without_cid a.cid s.pending) valid.rising (without_cid_rises a.cid s.pending (pending_rises s valid))
      (λ c m. pending_active s valid c (without_cid_member a.cid s.pending c m).0);
  closed = λ b m asleep. elim (cid_known b.cid a.cid) [
    | inl e ↦ subst (λ (c : Active). IsClosedBy c.con (present s)) (single s.active valid.rising a b posted m (sym e)) closed
    | inr n ↦ valid.closed b m (λ k. asleep (member_without_cid a.cid s.pending b.cid k n))
  ];
}

pub calms_valid : (s t : EngineState) (a : Active) → Calms s a t → IsValid s → IsValid t
calms_valid s t a calms valid = subst IsValid (sym calms.after) (calmed_valid s a calms.posted calms.closed valid)

-- one more variable
length_more : (d : Domains) (vs : List ℤ) → length d ≤ length (d ++ vs ∷ [])
length_more d vs = omega (arith, length-append d (vs ∷ []))

has_in_more : (d : Domains) (x : ℕ) (v : ℤ) → x < length d → (vs : List ℤ) → Has d x v → Has (d ++ vs ∷ []) x v
has_in_more d x v lt vs has = subst (λ ws. Contains ws v) (sym (values_of_more d vs x lt)) has

right_declared : (initial : Domains) (vs : List ℤ) (active : List Active) → ((a : Active) → Contains active a → FitsCid (length initial) active a)
    → (earlier rest : List Removal) → AreRight initial active earlier rest → AreRight (initial ++ vs ∷ []) active earlier rest
right_declared initial vs active formed earlier [] right = tt
right_declared initial vs active formed earlier (r ∷ rest) right =
    let o = right.0 in
    let declared = form_declared (length initial) active o.owner.cid o.owner.con o.owner.justification (formed o.owner o.posted).form in (
      record {
        owner = o.owner;
        posted = o.posted;
        named = o.named;
        declared = has_in_more initial r.pair.var r.pair.value (has_declared initial r.pair.var r.pair.value o.declared) vs o.declared;
        fresh = o.fresh;
        reasons = o.reasons;
        lacks = lacks_in (without initial r.reasons) (without (initial ++ vs ∷ []) r.reasons) o.owner.con r.pair.var r.pair.value
            (λ y w over has. more_has initial vs r.reasons y w (declared y over) has) o.lacks;
      },
      right_declared initial vs active formed (earlier ++ r ∷ []) rest right.1,
    )

declared_valid : (s : EngineState) (values : List ℤ) → Ascends values → IsValid s → IsValid (record s { initial = s.initial ++ values ∷ [] })
declared_valid s values ascends valid =
    let pairs = log_pairs s.log in
    record {
      ascend = All-append Ascends s.initial (values ∷ []) valid.ascend (All-cons Ascends values [] ascends (All-nil Ascends));
      rising = valid.rising;
      formed = λ a m. record {
        form = form_more (length s.initial) (length (s.initial ++ values ∷ [])) s.active s.active a.cid a.con a.justification (length_more s.initial values) (λ c k justifier is. is) (valid.formed a m).form;
      };
      founded = right_declared s.initial values s.active valid.formed [] s.log valid.founded;
      waiting = valid.waiting;
      closed = λ a m asleep.
          closed_in a.con (present s) (without (s.initial ++ values ∷ []) pairs)
          (λ x v over has. has_more s.initial values pairs x v (active_declared s valid a m x over) has)
          (λ x v over has. more_has s.initial values pairs x v (active_declared s valid a m x over) has) (valid.closed a m asleep);
    }

pub declares_valid : (s t : EngineState) (values : List ℤ) → Declares s values t → IsValid s → IsValid t
declares_valid s t values declares valid = subst IsValid (sym declares.after) (declared_valid s values declares.ascend valid)
