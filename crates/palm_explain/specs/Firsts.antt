-- For each constraint a number that none of its entries comes before.
use Rattle.std.specs.Prelude.{◌≡◌, ℕ, ◌≤◌, List, [], ◌∷◌, length, Option, Some, None, if◌then◌else◌}
use Rattle.palm_base.specs.declared.terms.Cid.{Cid}
use Rattle.palm_base.specs.Order.{Rises, same_cid}
use Rattle.palm_explain.specs.declared.firsts.Firsts.{Firsts}

-- the number that stands beside the id
abbrev pub first_in : List Cid → List ℕ → Cid → Option ℕ
first_in [] numbers c = None
first_in (n ∷ cids) [] c = None
first_in (n ∷ cids) (k ∷ numbers) c = if same_cid n c then Some k else first_in cids numbers c

abbrev pub first_of : Firsts → Cid → Option ℕ
first_of f c = first_in f.cids.items f.numbers.items c

-- the number beside the id is at most this one
abbrev pub HasFirst : Firsts → Cid → ℕ → Type 0
HasFirst f c n = (k : ℕ) × (first_of f c ≡ Some k) × (k ≤ n)

-- the ids rise, and there is a number for each
pub record AreFormedFirsts (f : Firsts) : Type 0 where
  pub rises : Rises f.cids.items
  pub each : length f.numbers.items ≡ length f.cids.items
