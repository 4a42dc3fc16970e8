-- What marks tell: a removal has one exactly where its explanation holds the constraint.
use Rattle.std.proofs.Common.{◌≡◌, ℕ, zero, suc, ◌+◌, ◌<◌, Bool, true, false, List, map, Contains, Some, slice_get, inl, inr, refl, sym, ap, ◌∙◌, subst, arith}
use Rattle.std.proofs.lemmas.Bool.{false≢true}
use Rattle.palm_base.specs.Tells.{Tells}
use Rattle.palm_base.specs.declared.terms.Cid.{Cid}
use Rattle.palm_base.proofs.cited.Members.{member_get, member_same, member_unmap}
use Rattle.palm_model.specs.Log.{Names, Removal}
use Rattle.palm_model.specs.Log.Names.{by_itself, by_reason}
use Rattle.palm_explain.specs.declared.entry.Entry.{Entry}
use Rattle.palm_explain.specs.declared.rows.Row.{Row}
use Rattle.palm_explain.specs.Entries.{AreEntered, log_of, removal_of, written}
use Rattle.palm_explain.specs.Losing.{AreMarkedBy, marked_pairs, unmarked}
use Rattle.palm_explain.proofs.Keeping.{AreTold, entry_logged, entry_marked, marked_entry}
use Rattle.palm_explain.proofs.Marking.{entered_marked, log_unmarked}
use Rattle.palm_explain.proofs.Reasons.{map_place, pair_once, reason_entry, some_same}

module _ (entries : List Entry) (rows : List Row) (next : ℕ) (cid : Cid) (are : AreEntered entries rows next) (by : AreMarkedBy rows cid entries) where
  -- a mark comes up from what the constraint removed
  marked_names : (n : ℕ) (e : Entry) → Contains entries e → e.number < n → e.mark ≡ true → Names (log_of rows entries) cid (removal_of rows e)
  marked_names zero e m lt is = absurd (omega (arith, lt))
  marked_names (suc n) e m lt is = elim ((by e m).0 is) [
    | inl own ↦ by_itself (removal_of rows e) own
    | inr p ↦
        let f = marked_entry entries p.0 p.2 in
        let h = reason_entry entries rows next are e m p.0 p.1 in
        let same = ap (λ (z : Entry). z.number) (pair_once entries rows next are f.0 h.0 f.1 h.1 (f.2 ∙ sym h.2)) in
        let less = h.3 in
        by_reason (removal_of rows e) (removal_of rows f.0) (entry_logged rows entries f.0 f.1)
        (member_same (written rows e.number e.spans.items) p.0 f.0.pair (sym f.2) p.1)
        (marked_names n f.0 f.1 (omega (arith, same, less, lt)) f.3)
  ]

  names_marked : (r : Removal) → Names (log_of rows entries) cid r → (e : Entry) → Contains entries e → removal_of rows e ≡ r → e.mark ≡ true
  names_marked _ (by_itself r own) e m is = (by e m).1 (inl (ap (λ (z : Removal). z.by) is ∙ own))
  names_marked _ (by_reason r s logged reason names) e m is =
      let f = member_unmap (removal_of rows) entries s logged in
      let mark = names_marked s names f.0 f.1 f.2 in
      let pair : f.0.pair ≡ s.pair = ap (λ (z : Removal). z.pair) f.2 in
      (by e m).1 (inr (s.pair, subst (λ ps. Contains ps s.pair) (sym (ap (λ (z : Removal). z.reasons) is)) reason, member_same (marked_pairs entries) f.0.pair s.pair pair (entry_marked entries f.0 f.1 mark)))

  tells_by : (b : Bool) (P : Type 0) → (b ≡ true → P) → (P → b ≡ true) → Tells b P
  tells_by true P to back = to refl
  tells_by false P to back = λ p. false≢true (back p)

  pub told_names : AreTold rows entries cid
  told_names e m =
      tells_by e.mark (Names (log_of rows entries) cid (removal_of rows e)) (marked_names (e.number + 1) e m (omega arith)) (λ names. names_marked (removal_of rows e) names e m refl)

-- the same of the log without marks
pub told_at : (all entries : List Entry) (rows : List Row) (next : ℕ) (cid : Cid) (place : ℕ) (g e : Entry) → AreEntered all rows next → map unmarked entries ≡ all → AreMarkedBy rows cid entries
    → slice_get entries place ≡ Some g → slice_get all place ≡ Some e → Tells g.mark (Names (log_of rows all) cid (removal_of rows e))
told_at all entries rows next cid place g e are same by at was =
    let tells = told_names entries rows next cid (entered_marked all entries rows next same are) by g (member_get entries place g at) in
    let is : unmarked g ≡ e = some_same (unmarked g) e (sym (map_place unmarked entries place g at) ∙ ap (λ l. slice_get l place) same ∙ was) in
    let logs : log_of rows entries ≡ log_of rows all = sym (log_unmarked rows entries) ∙ ap (log_of rows) same in
    subst (λ l. Tells g.mark (Names l cid (removal_of rows e))) logs (subst (λ (z : Entry). Tells g.mark (Names (log_of rows entries) cid (removal_of rows z))) is tells)
