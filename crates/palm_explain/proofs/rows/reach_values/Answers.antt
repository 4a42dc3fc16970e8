use Rattle.std.proofs.Common.{◌≡◌, ◌∙◌, ℕ, ℤ, Some, Contains, OnOk, set, slice_get, sym, ap, subst, arith}
use Rattle.std.proofs.lemmas.Option.{slice_get-get_or}
use Rattle.palm_explain.specs.Rows.{number_at, value_number}
use Rattle.palm_explain.proofs.Numbering.{number_set}
use Rattle.palm_explain.proofs.Stores.{on_ok}
use Rattle.palm_explain.proofs.rows.reach_values.Goals as goal

pub returns-clause-there : goal.returns-clause-there
returns-clause-there c =
    let rows = c.reach.new.rows.items in
    let x = c.var.inside.0 in
    let s = c.reach_each.new.self in
    let r = c.index_mut-row.result.now in
    let reached = c.in_ok-reach.ensures.reached in
    let at : slice_get rows x ≡ Some r = slice_get-get_or rows x r (omega (arith, reached)) ∙ ap Some (sym c.index_mut-row.ensures.value) in
    let var : x ≡ c.args.var = c.var.view_is in
    subst (λ y. OnOk c.reach_each.result ((v : ℤ) → Contains c.args.values.now v → (k : ℕ) × (number_at (set rows x s) (record { var = y; value = v }) ≡ Some k))) var
    (on_ok c.reach_each.result
    ((v : ℤ) → Contains c.args.values.now v → (k : ℕ) × (value_number s v ≡ Some k))
    ((v : ℤ) → Contains c.args.values.now v → (k : ℕ) × (number_at (set rows x s) (record { var = x; value = v }) ≡ Some k))
    (λ there v m. let k = there v m in (k.0, number_set rows x r s at v ∙ k.1))
    c.reach_each.ensures.there)
