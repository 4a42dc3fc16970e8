-- The reason of a table: for each row that would give the value, its first removed entry.
use Rattle.std.proofs.Common.{◌≡◌, ℕ, ℤ, true, ◌&&◌, List, [], ◌∷◌, map, Contains, inl, inr, refl, sym, ap, ◌∙◌, subst}
use Rattle.std.specs.List.{list_any}
use Rattle.std.proofs.lemmas.Bool.{and_from}
use Rattle.palm_base.proofs.cited.Members.{member_here, filter_member, member_filter}
use Rattle.palm_base.specs.declared.terms.Pair.{Pair}
use Rattle.palm_model.specs.Domains.{Domains, Has, is_among, without}
use Rattle.palm_model.specs.Reason.{IsReason}
use Rattle.palm_model.specs.Removed.{removed_values, others}
use Rattle.palm_model.specs.Support.{HasSupport, LacksSupport}
use Rattle.palm_model.specs.Table.{are_there, first_missing, is_blocked_at, blocking_values, row_pairs, table_reason}
use Rattle.palm_model.specs.declared.constraint.Con.TheVariants.{Table}
use Rattle.palm_model.specs.declared.part.Part.TheVariants.{Table as TablePart}
use Rattle.palm_model.proofs.cited.Reasons.{removed_member, member_removed, all_pairs_member, member_all_pairs, others_member, member_others}
use Rattle.palm_model.proofs.cited.Supports.{member_any, member_among, lacking_by_part, part_unsupported, without_has}
use Rattle.palm_reason.proofs.cited.TableRows.{missing_cases, gives_among, there_gives, gives_there, entry_gives}
use Rattle.palm_reason.proofs.cited.TwoVariables.{lacking_over}

-- ---- the reason

module _ (initial present : Domains) (vars : List ℕ) (rows : List (List ℤ)) (x : ℕ) (v : ℤ) where
  abbrev why : List Pair
  why = table_reason initial present vars rows x v

  abbrev blocking : ℕ → List ℤ
  blocking y = blocking_values initial present vars rows x v y

  -- a row that would give the value has an entry among the reasons
  module _ (over : Contains vars x) (present_value : Has present x v) (a : ℕ → ℤ) (listed : Contains rows (map a vars)) (gives_v : a x ≡ v) (declared : (y : ℕ) → Contains vars y → Has initial y (a y)) where
    abbrev row : List ℤ
    row = map a vars

    missing_in : (p : Pair) → first_missing present (row_pairs vars row) ≡ p ∷ [] → Contains (row_pairs vars row) p → (Has present p.var p.value → ⊥) → Contains vars p.var × Contains why (record { var = p.var; value = a p.var })
    missing_in p first entry missing =
        let g = entry_gives vars a p entry in
        let has = gives_among vars a x v over gives_v in
        let all = gives_there vars a initial declared in
        let at_first : is_among (first_missing present (row_pairs vars row)) p.var p.value ≡ true =
        ap (λ ps. is_among ps p.var p.value) first ∙ member_among (p ∷ []) p.var p.value (member_here p []) in
        let blocked = and_from (is_among (row_pairs vars row) x v && are_there initial (row_pairs vars row)) (is_among (first_missing present (row_pairs vars row)) p.var p.value) (and_from (is_among (row_pairs vars row) x v) (are_there initial (row_pairs vars row)) has all) at_first in
        let blocks = member_any (is_blocked_at initial present vars x v p.var p.value) rows row listed blocked in
        let gone = member_removed initial present p.var p.value (subst (λ w. Has initial p.var w) g.1 (declared p.var g.0)) missing in
        let apart : p.var ≡ x → ⊥ = λ e. missing (subst (λ w. Has present p.var w) (sym gives_v ∙ sym (ap a e) ∙ g.1) (subst (λ y. Has present y v) (sym e) present_value)) in
        let in_why = member_all_pairs blocking (others vars x) p.var p.value (member_others vars x p.var g.0 apart)
        (member_filter (λ w. list_any (is_blocked_at initial present vars x v p.var w) rows) (removed_values initial present p.var) p.value gone blocks) in
        (g.0, subst (λ w. Contains why (record { var = p.var; value = w })) (sym g.1) in_why)

  why_lacks : Contains vars x → Has present x v → (HasSupport present (TablePart vars rows) x v → ⊥) → HasSupport (without initial why) (TablePart vars rows) x v → ⊥
  why_lacks over present_value lacks s =
      let a = s.assignment in
      let declared = λ (y : ℕ) (m : Contains vars y). (without_has initial why y (a y) (s.within y m)).0 in
      elim (missing_cases present (row_pairs vars (map a vars))) [
        | inl r ↦ lacks (record { assignment = a; within = there_gives vars a present r.0; gives = s.gives; holds = s.holds })
        | inr r ↦
            let m = missing_in over present_value a s.holds s.gives declared r.0 r.1 r.2 r.3 in
            (without_has initial why r.0.var (a r.0.var) (s.within r.0.var m.0)).1 m.1
      ]

  pub table_right : Has present x v → LacksSupport present (Table vars rows) x v → IsReason initial present (Table vars rows) x v why
  table_right present_value lacks =
      let over : Contains vars x = lacking_over present (Table vars rows) x v lacks in
      record {
        removed = λ p m.
            let r = all_pairs_member blocking (others vars x) p m in
            removed_member initial present p.var p.value (filter_member (λ w. list_any (is_blocked_at initial present vars x v p.var w) rows) (removed_values initial present p.var) p.value r.1).0;
        others = λ p m. others_member vars x p.var (all_pairs_member blocking (others vars x) p m).0;
        lacks = lacking_by_part (without initial why) (Table vars rows) (TablePart vars rows) x v refl over (why_lacks over present_value (part_unsupported present (Table vars rows) (TablePart vars rows) x v refl lacks));
      }
