-- The reason of a removal by an active constraint is right, over any declared value.
use Rattle.std.proofs.Common.{◌≡◌, ℕ, ◌<◌, List, [], length, Contains, ℤ, refl, sym, ◌∙◌, subst}
use Rattle.palm_model.proofs.cited.Formed.{well_formed_formed}
use Rattle.palm_reason.proofs.cited.Reasons.{reason_right}
use Rattle.palm_base.specs.declared.terms.Pair.{Pair}
use Rattle.palm_base.specs.declared.terms.Cid.{Cid}
use Rattle.palm_base.specs.declared.terms.Cid.TheVariants.{Decide, Not, User}
use Rattle.palm_base.proofs.cited.Members.{member_nil, member_single, all_members}
use Rattle.palm_model.specs.Domains.{Domains, Has, AllAscend, values_of, without}
use Rattle.palm_model.specs.Constraint.{scope}
use Rattle.palm_model.specs.Part.{scope_of}
use Rattle.palm_model.specs.Support.{LacksSupport}
use Rattle.palm_model.specs.Reason.{reason, AreFilled, IsReason}
use Rattle.palm_model.specs.Log.{Active, IsRight, log_pairs}
use Rattle.palm_model.specs.State.{EngineState, IsOfForm, FitsCid, AllFilled}
use Rattle.palm_model.specs.Event.{Removes, removal_of}
use Rattle.palm_model.specs.declared.constraint.Con.{Con}
use Rattle.palm_model.specs.declared.constraint.Con.TheVariants.{CompareConst}
use Rattle.palm_model.specs.declared.constraint.Op.{Op}
use Rattle.palm_model.specs.declared.part.Part.TheVariants.{CompareConst as CompareConstPart}
use Rattle.palm_model.proofs.cited.Without.{ascend_without, length_without, without_has, without_inside}
use Rattle.palm_events.specs.Reasons.{ReasonsAreRight}
use Rattle.palm_events.proofs.cited.Agreeing.{gone_member}
use Rattle.palm_events.proofs.cited.States.{form_declared}

-- ---- comparisons with a value need no reason

const_lacks : (d e : Domains) (y : ℕ) (op : Op) (w : ℤ) (x : ℕ) (v : ℤ) → Has d x v → LacksSupport d (CompareConst y op w) x v → LacksSupport e (CompareConst y op w) x v
const_lacks d e y op w x v has lacks =
    let is : CompareConstPart y op w ≡ lacks.part = member_single (CompareConstPart y op w) lacks.part lacks.is_part in
    let over : y ≡ x = member_single y x (subst (λ p. Contains (scope_of p) x) (sym is) lacks.over) in
    record {
      part = lacks.part;
      is_part = lacks.is_part;
      over = lacks.over;
      lacks = λ s. lacks.lacks (record {
        assignment = s.assignment;
        within = λ z m.
            let at : y ≡ z = member_single y z (subst (λ p. Contains (scope_of p) z) (sym is) m) in
            subst (λ u. Has d u (s.assignment u)) (sym over ∙ at) (subst (λ u. Has d x u) (sym s.gives) has);
        gives = s.gives;
        holds = s.holds;
      });
    }

const_reason : (initial now : Domains) (y : ℕ) (op : Op) (w : ℤ) (x : ℕ) (v : ℤ) → Has now x v → LacksSupport now (CompareConst y op w) x v
    → IsReason initial now (CompareConst y op w) x v []
const_reason initial now y op w x v has lacks = record {
  removed = λ p m. absurd (member_nil p m);
  others = λ p m. absurd (member_nil p m);
  lacks = const_lacks now (without initial []) y op w x v has lacks;
}

-- ---- the reason of any active constraint

filled_scope : (d : Domains) (xs : List ℕ) (n : ℕ) → length d ≡ n → AllFilled d → ((x : ℕ) → Contains xs x → x < n) → AreFilled d xs
filled_scope d xs n e filled declared = all_members (λ x. 0 < length (values_of d x)) xs (λ x m. filled x (subst (λ k. x < k) (sym e) (declared x m)))

reason_of_form : ReasonsAreRight → (initial : Domains) (pairs : List Pair) (active : List Active) (cid : Cid) (con : Con) (justification : List Cid) (x : ℕ) (v : ℤ)
    → AllAscend initial → IsOfForm (length initial) active cid con justification → AllFilled (without initial pairs)
    → Has (without initial pairs) x v → LacksSupport (without initial pairs) con x v
    → IsReason initial (without initial pairs) con x v (reason initial (without initial pairs) con x v)
reason_of_form right initial pairs active (Decide y) con justification x v ascend form filled has lacks =
    let now = without initial pairs in
    subst (λ c. IsReason initial now c x v (reason initial now c x v)) (sym form.1)
    (const_reason initial now y _ form.0 x v has (subst (λ c. LacksSupport now c x v) form.1 lacks))
reason_of_form right initial pairs active (Not p) con justification x v ascend form filled has lacks =
    let now = without initial pairs in
    subst (λ c. IsReason initial now c x v (reason initial now c x v)) (sym form.0)
    (const_reason initial now p.var _ p.value x v has (subst (λ c. LacksSupport now c x v) form.0 lacks))
reason_of_form right initial pairs active (User n) con justification x v ascend form filled has lacks =
    right initial (without initial pairs) con x v (record {
      initial_ascend = ascend;
      present_ascend = ascend_without initial pairs ascend;
      inside = without_inside initial pairs;
      formed = well_formed_formed (length initial) con form.0;
      present_value = has;
      lacks = lacks;
      filled = filled_scope (without initial pairs) (scope con) (length initial) (length_without initial pairs) filled (form_declared (length initial) active (User n) con justification form);
    })

-- a removal is right after the log
pub removal_right : ReasonsAreRight → (s t : EngineState) (a : Active) (p : Pair) → AllAscend s.initial → FitsCid (length s.initial) s.active a → Removes s a p t → IsRight s.initial s.active s.log (removal_of s a p)
removal_right right s t a p ascend formed removes =
    let pairs = log_pairs s.log in
    let ok = reason_of_form right s.initial pairs s.active a.cid a.con a.justification p.var p.value ascend formed.form removes.filled removes.has removes.lacks in
    record {
      owner = a;
      posted = removes.posted;
      named = refl;
      declared = (without_has s.initial pairs p.var p.value removes.has).0;
      fresh = (without_has s.initial pairs p.var p.value removes.has).1;
      reasons = λ q m. let r = ok.removed q m in gone_member s.initial pairs q.var q.value r.0 r.1;
      lacks = ok.lacks;
    }

-- the law of the reasons of all kinds
pub reasons_right : ReasonsAreRight
reasons_right initial now c x v wants = reason_right initial now c x v wants
