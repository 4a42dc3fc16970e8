-- Each step of the machine leaves the reasons of the log in the scopes of their constraints.
use Rattle.std.proofs.Common.{◌≡◌, ℕ, ◌<◌, ℤ, List, [], ◌∷◌, length, Contains, inl, inr, refl, sym, subst}
use Rattle.std.proofs.lemmas.List.Elements.{Contains-push_cases}
use Rattle.palm_base.specs.declared.terms.Pair.{Pair}
use Rattle.palm_base.specs.declared.terms.Cid.{Cid}
use Rattle.palm_base.specs.declared.terms.Cid.TheVariants.{Decide, Not, User}
use Rattle.palm_base.proofs.cited.Members.{member_nil, all_members}
use Rattle.palm_model.specs.Domains.{Domains, Has, AllAscend, values_of, without}
use Rattle.palm_model.specs.Constraint.{scope}
use Rattle.palm_model.specs.Support.{LacksSupport}
use Rattle.palm_model.specs.Reason.{reason}
use Rattle.palm_model.specs.Log.{Active, Removal, log_pairs}
use Rattle.palm_model.specs.Log.Names.{by_itself}
use Rattle.palm_model.specs.State.{EngineState, IsOfForm, IsValid, AllFilled, blank}
use Rattle.palm_model.specs.Event.{Posts, WithdrawsAll, Removes, Step, StepLeads, Runs, gone_with, removal_of}
use Rattle.palm_model.specs.Event.Event.{Post, Withdraw, Remove}
use Rattle.palm_model.specs.Event.Step.{Happens, Calm, Declare}
use Rattle.palm_model.specs.declared.constraint.Con.{Con}
use Rattle.palm_model.specs.declared.constraint.Con.TheVariants.{CompareConst}
use Rattle.palm_model.specs.declared.constraint.Op.{Op}
use Rattle.palm_model.specs.declared.constraint.Op.TheVariants.{Eq, Ne}
use Rattle.palm_model.proofs.cited.Formed.{well_formed_formed}
use Rattle.palm_model.proofs.cited.Without.{ascend_without, length_without, without_inside}
use Rattle.palm_events.specs.Scoped.{IsScoped, HasScopedReasons}
use Rattle.palm_events.proofs.cited.Logs.{left_member, left_keeps}
use Rattle.palm_events.proofs.cited.Reasons.{reasons_right}
use Rattle.palm_events.proofs.cited.Runs.{step_valid}
use Rattle.palm_events.proofs.cited.States.{form_declared, member_with_posted, member_without_cids}

-- ---- reasons

-- the pairs are of other variables of the scope
abbrev AreOfOthers : Con → ℕ → List Pair → Type 0
AreOfOthers con x pairs = (p : Pair) → Contains pairs p → Contains (scope con) p.var × (p.var ≡ x → ⊥)

module _ (initial : Domains) (pairs : List Pair) (x : ℕ) (v : ℤ) where
  -- a comparison with a value has no reasons
  const_others : (con : Con) (y : ℕ) (op : Op) (w : ℤ) → con ≡ CompareConst y op w → AreOfOthers con x (reason initial (without initial pairs) con x v)
  const_others con y op w e = subst (λ (c : Con). AreOfOthers c x (reason initial (without initial pairs) c x v)) (sym e) (λ p m. absurd (member_nil p m))

  reason_others : (active : List Active) (cid : Cid) (con : Con) (justification : List Cid) → AllAscend initial → IsOfForm (length initial) active cid con justification → AllFilled (without initial pairs)
      → Has (without initial pairs) x v → LacksSupport (without initial pairs) con x v → AreOfOthers con x (reason initial (without initial pairs) con x v)
  reason_others active (Decide y) con justification ascend form filled has lacks = const_others con y Eq form.0 form.1
  reason_others active (Not p) con justification ascend form filled has lacks = const_others con p.var Ne p.value form.0
  reason_others active (User n) con justification ascend form filled has lacks =
      let now : Domains = without initial pairs in
      let declared = form_declared (length initial) active (User n) con justification form in
      let right = reasons_right initial now con x v (record {
        initial_ascend = ascend;
        present_ascend = ascend_without initial pairs ascend;
        inside = without_inside initial pairs;
        formed = well_formed_formed (length initial) con form.0;
        present_value = has;
        lacks = lacks;
        filled = all_members (λ (y : ℕ). 0 < length (values_of now y)) (scope con) (λ y m. filled y (subst (λ (k : ℕ). y < k) (sym (length_without initial pairs)) (declared y m)));
      }) in
      right.others

-- ---- steps

pub blank_scoped : (initial : Domains) → HasScopedReasons (blank initial)
blank_scoped initial r m = absurd (member_nil r m)

pub posts_scoped : (s t : EngineState) (a : Active) → Posts s a t → HasScopedReasons s → HasScopedReasons t
posts_scoped s t a h scoped = subst HasScopedReasons (sym h.after) (λ r m.
    let is = scoped r m in
    record { owner = is.owner; posted = member_with_posted a s.active is.owner h.inactive is.posted; named = is.named; others = is.others })

-- a removal that stays does not name its own constraint among those that go
pub withdraws_scoped : (s t : EngineState) (gone : List Cid) → WithdrawsAll s gone t → HasScopedReasons s → HasScopedReasons t
withdraws_scoped s t gone h scoped = subst HasScopedReasons (sym h.after) (λ r m.
    let is = scoped r (left_member s.log gone s.log h.left h.loses r m) in
    record {
      owner = is.owner;
      posted = member_without_cids gone s.active is.owner is.posted (λ among.
          left_keeps s.log gone s.log h.left h.loses r m (record { cid = is.owner.cid; among = among; names = by_itself r (sym is.named) }));
      named = is.named;
      others = is.others;
    })

pub removes_scoped : (s t : EngineState) (a : Active) (p : Pair) → IsValid s → Removes s a p t → HasScopedReasons s → HasScopedReasons t
removes_scoped s t a p valid h scoped = subst HasScopedReasons (sym h.after) (λ r m. elim (Contains-push_cases s.log (removal_of s a p) r m) [
  | inl before ↦ scoped r before
  | inr e ↦ subst (λ (q : Removal). IsScoped s.active q) e (record {
    owner = a;
    posted = h.posted;
    named = refl;
    others = reason_others s.initial (log_pairs s.log) p.var p.value s.active a.cid a.con a.justification valid.ascend (valid.formed a h.posted).form h.filled h.has h.lacks;
  })
])

pub step_scoped : (s : EngineState) (step : Step) (t : EngineState) → StepLeads s step t → IsValid s → HasScopedReasons s → HasScopedReasons t
step_scoped s (Happens (Post a)) t h valid scoped = posts_scoped s t a h scoped
step_scoped s (Happens (Withdraw cid)) t h valid scoped = withdraws_scoped s t (gone_with s.active cid) h scoped
step_scoped s (Happens (Remove a p)) t h valid scoped = removes_scoped s t a p valid h scoped
step_scoped s (Calm a) t h valid scoped = subst HasScopedReasons (sym h.after) scoped
step_scoped s (Declare values) t h valid scoped = subst HasScopedReasons (sym h.after) scoped

pub run_scoped : (s : EngineState) (steps : List Step) (t : EngineState) → Runs s steps t → IsValid s → HasScopedReasons s → HasScopedReasons t
run_scoped s [] t run valid scoped = subst HasScopedReasons (sym run) scoped
run_scoped s (step ∷ steps) t run valid scoped =
    run_scoped run.0 steps t run.2 (step_valid reasons_right s step run.0 run.1 valid) (step_scoped s step run.0 run.1 valid scoped)
