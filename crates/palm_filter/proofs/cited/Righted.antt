-- The reason that a filter wrote is a right one, by the law of the reasons, for what a store ensures of its values.
use Rattle.std.proofs.Common.{◌≡◌, ℕ, ℤ, List, length, All, sym, subst}
use Rattle.std.proofs.lemmas.List.{length-map}
use Rattle.palm_base.specs.Ascending.{Ascends}
use Rattle.palm_base.specs.declared.terms.Pair.{Pair}
use Rattle.palm_domain.specs.Rows.{Row, initial_of, present_of, IsPresent, IsDeclared}
use Rattle.palm_model.specs.Constraint.{scope, IsFormed, IsWellFormed}
use Rattle.palm_model.specs.Domains.{Has}
use Rattle.palm_model.specs.Reason.{AreFilled, IsReason, reason}
use Rattle.palm_model.specs.Support.{LacksSupport}
use Rattle.palm_model.specs.declared.constraint.Con.{Con}
use Rattle.palm_model.proofs.cited.Formed.{well_formed_formed}
use Rattle.palm_reason.proofs.cited.Reasons.{reason_right}

module _ (rows : List Row) (initial_ascend : All Ascends (initial_of rows)) (present_ascend : All Ascends (present_of rows)) (inside : (x : ℕ) (v : ℤ) → IsPresent rows x v → IsDeclared rows x v) where
  pub written_is_right : (c : Con) (x : ℕ) (v : ℤ) → IsWellFormed (length rows) c → Has (present_of rows) x v → LacksSupport (present_of rows) c x v → AreFilled (present_of rows) (scope c) → (out : List Pair) → out ≡ reason (initial_of rows) (present_of rows) c x v → IsReason (initial_of rows) (present_of rows) c x v out
  written_is_right c x v formed present lacks filled out e =
      subst (IsReason (initial_of rows) (present_of rows) c x v) (sym e)
      (reason_right (initial_of rows) (present_of rows) c x v (record {
        initial_ascend = initial_ascend;
        present_ascend = present_ascend;
        inside = inside;
        formed = subst (λ n. IsFormed n c) (sym (length-map rows (λ (r : Row). r.initial))) (well_formed_formed (length rows) c formed);
        present_value = present;
        lacks = lacks;
        filled = filled;
      }))
