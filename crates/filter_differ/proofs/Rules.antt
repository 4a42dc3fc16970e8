-- The reason of variables that differ as a rule: all but one of the declared values of a variable.
use Rattle.std.proofs.Common.{◌≡◌, ℕ, ℤ, pos, ◌+ℤ◌, true, false, not, ◌||◌, int_eq, List, [], ◌∷◌, filter, Contains, sym, ap, ◌∙◌, subst, arith, append-nil}
use Rattle.std.proofs.lemmas.Int.{ints}
use Rattle.palm_base.proofs.cited.Members.{member_here, filter_member, filter_agree_members, member_take}
use Rattle.palm_filter.specs.Rules.{declared_passing}
use Rattle.palm_model.specs.Differ.{differ_reason}
use Rattle.palm_model.specs.Domains.{Domains, values_of}
use Rattle.palm_model.specs.Removed.{is_alone, is_listed, others, pairs_of, removed_pairs, removed_values}
use Rattle.palm_model.proofs.cited.Reasons.{alone_only}
use Rattle.filter_differ.specs.Differ.{first_lone}

-- of values one of which is the only one, that one is listed
alone_listed : (vs : List ℤ) (v w : ℤ) → is_alone vs v ≡ true → is_listed vs w ≡ int_eq w v
alone_listed vs v w h = ap (λ us. is_listed us w) (alone_only vs v h) ∙ turned
  where
    turned : (int_eq v w || false) ≡ int_eq w v
    turned = grind (arith, ints)

module _ (initial present : Domains) (vars : List ℕ) (x : ℕ) (v : ℤ) (y : ℕ) (lone : first_lone present vars x v ≡ y ∷ []) where
  lone_alone : is_alone (values_of present y) v ≡ true
  lone_alone =
      let test = λ (z : ℕ). is_alone (values_of present z) v in
      (filter_member test (others vars x) y (member_take 1 (filter test (others vars x)) y (subst (λ ys. Contains ys y) (sym lone) (member_here y [])))).1

  -- all but v of the declared values of the lone variable are the reason
  pub lone_reason : declared_passing initial y (λ w. not (int_eq w (v +ℤ pos 0))) ≡ differ_reason initial present vars x v
  lone_reason =
      let same : v +ℤ pos 0 ≡ v = omega (arith, ints) in
      ap (pairs_of y) (filter_agree_members (λ w. not (int_eq w (v +ℤ pos 0))) (λ w. not (is_listed (values_of present y) w)) (values_of initial y)
      (λ w m. ap not (ap (int_eq w) same ∙ sym (alone_listed (values_of present y) v w lone_alone))))
      ∙ sym (append-nil (pairs_of y (removed_values initial present y)))
      ∙ ap (removed_pairs initial present) (sym lone)
