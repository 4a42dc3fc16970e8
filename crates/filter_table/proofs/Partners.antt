-- The reason of a table of two columns: the declared values that stand beside the value.
use Rattle.std.proofs.Common.{◌≡◌, ℕ, zero, suc, ℤ, ◌-◌, Bool, true, cond, not, ◌&&◌, Some, List, [], ◌∷◌, length, map, flat_map, filter, slice_get, All, Contains, ◌⊎◌, inl, inr, refl, sym, ap, ◌∙◌, subst, arith, append-nil, eqb, eq-eqb, ne_eqb}
use Rattle.std.specs.List.{list_any}
use Rattle.std.proofs.lemmas.Bool.{and_from, and_parts}
use Rattle.std.proofs.lemmas.List.Elements.{All-contains}
use Rattle.palm_base.specs.declared.terms.Pair.{Pair}
use Rattle.palm_base.proofs.cited.Members.{member_here, member_same, member_single, member_take, filter_member, member_filter, nat_known}
use Rattle.palm_model.specs.Constraint.{Distinct}
use Rattle.palm_model.specs.Domains.{Domains, Has, is_among, values_of}
use Rattle.palm_model.specs.Reason.{WantsReason, reason}
use Rattle.palm_model.specs.Removed.{is_listed, others, pairs_of, removed_values}
use Rattle.palm_model.specs.Table.{row_pairs, are_there, first_missing, is_blocked_at, blocking_values}
use Rattle.palm_model.specs.declared.constraint.Con.TheVariants.{Table}
use Rattle.palm_model.specs.declared.part.Part.TheVariants.{Table as TablePart}
use Rattle.palm_model.proofs.cited.Ascending.{ascends_filter, ascends_at, ascending_same}
use Rattle.palm_model.proofs.cited.Reasons.{others_member, member_others, member_removed}
use Rattle.palm_model.proofs.cited.Supports.{any_member, member_any, member_among, among_member, part_unsupported}
use Rattle.palm_reason.proofs.cited.TableRows.{missing_cases, among_gives, there_gives, gives_there, entry_gives}
use Rattle.filter_table.proofs.Columned.{entry_of, row_is}

-- ---- the other one of two variables

is_first : (a b : ℕ) → (b ≡ a → ⊥) → others (a ∷ b ∷ []) a ≡ b ∷ []
is_first a b n =
    ap (λ t. cond (not t) (a ∷ cond (not (eqb b a)) (b ∷ []) []) (cond (not (eqb b a)) (b ∷ []) [])) (eq-eqb a a refl)
    ∙ ap (λ t. cond (not t) (b ∷ []) []) (ne_eqb b a n)

is_second : (a b : ℕ) → (a ≡ b → ⊥) → others (a ∷ b ∷ []) b ≡ a ∷ []
is_second a b n =
    ap (λ t. cond (not t) (a ∷ cond (not (eqb b b)) (b ∷ []) []) (cond (not (eqb b b)) (b ∷ []) [])) (ne_eqb a b n)
    ∙ ap (λ t. a ∷ cond (not t) (b ∷ []) []) (eq-eqb b b refl)

-- the variable beside that of a column
pub other_of_two : (vars : List ℕ) (x y k : ℕ) → length vars ≡ 2 → Distinct vars → slice_get vars k ≡ Some x → slice_get vars (1 - k) ≡ Some y → others vars x ≡ y ∷ []
other_of_two [] x y k two apart at beside = absurd (omega (arith, two))
other_of_two (a ∷ []) x y k two apart at beside = absurd (omega (arith, two))
other_of_two (a ∷ b ∷ c ∷ vars) x y k two apart at beside = absurd (omega (arith, two))
other_of_two (a ∷ b ∷ []) x y zero two apart at beside =
    let same : a ≡ x = cc in
    let next : b ≡ y = cc in
    ap (λ z. others (a ∷ b ∷ []) z) (sym same) ∙ is_first a b (λ e. apart.0 (member_same (b ∷ []) b a e (member_here b []))) ∙ ap (λ z. z ∷ []) next
other_of_two (a ∷ b ∷ []) x y (suc zero) two apart at beside =
    let same : b ≡ x = cc in
    let next : a ≡ y = cc in
    ap (λ z. others (a ∷ b ∷ []) z) (sym same) ∙ is_second a b (λ e. apart.0 (member_same (b ∷ []) b a (sym e) (member_here b []))) ∙ ap (λ z. z ∷ []) next
other_of_two (a ∷ b ∷ []) x y (suc (suc k)) two apart at beside = cc

-- ---- the values that stand beside a value that lacks support

-- whether a row has v in the column of x and w in that of y
abbrev pub stands_beside : List ℕ → List (List ℤ) → ℕ → ℤ → ℕ → ℤ → Bool
stands_beside vars rows x v y w = list_any (λ row. is_among (row_pairs vars row) x v && is_among (row_pairs vars row) y w) rows

module _ (initial present : Domains) (vars : List ℕ) (rows : List (List ℤ)) (x y : ℕ) (v : ℤ) (wants : WantsReason initial present (Table vars rows) x v) (long : All (λ row. length row ≡ length vars) rows) (one : others vars x ≡ y ∷ []) where
  abbrev beside : ℤ → Bool
  beside w = stands_beside vars rows x v y w

  abbrev blocks : ℤ → Bool
  blocks w = list_any (is_blocked_at initial present vars x v y w) rows

  partner : Contains vars y × (y ≡ x → ⊥)
  partner = others_member vars x y (subst (λ ys. Contains ys y) (sym one) (member_here y []))

  both : (z : ℕ) → Contains vars z → (x ≡ z) ⊎ (y ≡ z)
  both z m = elim (nat_known z x) [
    | inl e ↦ inl (sym e)
    | inr n ↦ inr (member_single y z (subst (λ ys. Contains ys z) one (member_others vars x z m n)))
  ]

  module _ (w : ℤ) (row : List ℤ) (listed : Contains rows row) (at_x : is_among (row_pairs vars row) x v ≡ true) (at_y : is_among (row_pairs vars row) y w ≡ true) where
    abbrev a : ℕ → ℤ
    a = entry_of vars row

    is : row ≡ map a vars
    is = row_is vars row wants.formed.distinct (All-contains (λ r. length r ≡ length vars) rows row long listed)

    gives_v : a x ≡ v
    gives_v = (among_gives vars a x v (subst (λ r. is_among (row_pairs vars r) x v ≡ true) is at_x)).1

    gives_w : a y ≡ w
    gives_w = (among_gives vars a y w (subst (λ r. is_among (row_pairs vars r) y w ≡ true) is at_y)).1

    within : (d : Domains) → Has d x v → Has d y w → (z : ℕ) → Contains vars z → Has d z (a z)
    within d has_v has_w z m = elim (both z m) [
      | inl e ↦ subst (λ t. Has d t (a t)) e (subst (Has d x) (sym gives_v) has_v)
      | inr e ↦ subst (λ t. Has d t (a t)) e (subst (Has d y) (sym gives_w) has_w)
    ]

    -- the partner is gone, since the value has no support
    gone : Has present y w → ⊥
    gone has =
        part_unsupported present (Table vars rows) (TablePart vars rows) x v refl wants.lacks
        (record { assignment = a; within = within present wants.present_value has; gives = gives_v; holds = member_same rows row (map a vars) is listed })

    -- so it is the first entry that is missing
    blocked : Has initial y w → is_blocked_at initial present vars x v y w row ≡ true
    blocked has =
        let pairs = row_pairs vars (map a vars) in
        let declared : are_there initial pairs ≡ true = gives_there vars a initial (within initial (wants.inside x v wants.present_value) has) in
        let first : is_among (first_missing present pairs) y w ≡ true = elim (missing_cases present pairs) [
          | inl r ↦ absurd (gone (subst (Has present y) gives_w (there_gives vars a present r.0 y partner.0)))
          | inr r ↦
              let g = entry_gives vars a r.0 r.2 in
              elim (both r.0.var g.0) [
                | inl e ↦ absurd (r.3 (subst (λ t. Has present t r.0.value) e (subst (Has present x) (sym gives_v ∙ ap a e ∙ g.1) wants.present_value)))
                | inr e ↦
                    let pair : r.0 ≡ record { var = y; value = w } = ap (λ t. record { var = t; value = r.0.value }) (sym e) ∙ ap (λ u. record { var = y; value = u }) (sym g.1 ∙ sym (ap a e) ∙ gives_w) in
                    ap (λ ps. is_among ps y w) (r.1 ∙ ap (λ (p : Pair). p ∷ []) pair) ∙ member_among (record { var = y; value = w } ∷ []) y w (member_here (record { var = y; value = w }) [])
              ]
        ] in
        subst (λ r. is_blocked_at initial present vars x v y w r ≡ true) (sym is)
        (and_from (is_among pairs x v && are_there initial pairs) (is_among (first_missing present pairs) y w)
        (and_from (is_among pairs x v) (are_there initial pairs) (subst (λ r. is_among (row_pairs vars r) x v ≡ true) is at_x) declared) first)

  partner_blocks : (w : ℤ) → Contains (filter beside (values_of initial y)) w → Contains (filter blocks (removed_values initial present y)) w
  partner_blocks w m =
      let r = filter_member beside (values_of initial y) w m in
      let s = any_member (λ row. is_among (row_pairs vars row) x v && is_among (row_pairs vars row) y w) rows r.1 in
      let t = and_parts (is_among (row_pairs vars s.0) x v) (is_among (row_pairs vars s.0) y w) s.2 in
      member_filter blocks (removed_values initial present y) w (member_removed initial present y w r.0 (gone w s.0 s.1 t.0 t.1))
      (member_any (is_blocked_at initial present vars x v y w) rows s.0 s.1 (blocked w s.0 s.1 t.0 t.1 r.0))

  blocks_partner : (w : ℤ) → Contains (filter blocks (removed_values initial present y)) w → Contains (filter beside (values_of initial y)) w
  blocks_partner w m =
      let r = filter_member blocks (removed_values initial present y) w m in
      let s = any_member (is_blocked_at initial present vars x v y w) rows r.1 in
      let pairs = row_pairs vars s.0 in
      let t = and_parts (is_among pairs x v && are_there initial pairs) (is_among (first_missing present pairs) y w) s.2 in
      let u = and_parts (is_among pairs x v) (are_there initial pairs) t.0 in
      let missing = λ (p : Pair). not (is_listed (values_of present p.var) p.value) in
      let at = (filter_member missing pairs (record { var = y; value = w }) (member_take 1 (filter missing pairs) (record { var = y; value = w }) (among_member (first_missing present pairs) y w t.1))).0 in
      member_filter beside (values_of initial y) w (filter_member (λ z. not (is_listed (values_of present y) z)) (values_of initial y) w r.0).0
      (member_any (λ row. is_among (row_pairs vars row) x v && is_among (row_pairs vars row) y w) rows s.0 s.1 (and_from (is_among pairs x v) (is_among pairs y w) u.0 (member_among pairs y w at)))

  partners_block : filter beside (values_of initial y) ≡ blocking_values initial present vars rows x v y
  partners_block =
      let up = ascends_at initial y wants.initial_ascend in
      ascending_same (filter beside (values_of initial y)) (filter blocks (removed_values initial present y))
      (ascends_filter beside (values_of initial y) up) (ascends_filter blocks (removed_values initial present y) (ascends_filter (λ z. not (is_listed (values_of present y) z)) (values_of initial y) up))
      partner_blocks blocks_partner

  pub partners_reason : pairs_of y (filter beside (values_of initial y)) ≡ reason initial present (Table vars rows) x v
  partners_reason =
      ap (pairs_of y) partners_block
      ∙ sym (append-nil (pairs_of y (blocking_values initial present vars rows x v y)))
      ∙ ap (flat_map (λ z. pairs_of z (blocking_values initial present vars rows x v z))) (sym one)
