-- What the answer of a test says.
use Rattle.std.specs.Prelude.{Bool, true, false}

-- true where P holds, and false where it does not
abbrev pub Tells : Bool → Type 0 → Type 0
Tells true P = P
Tells false P = P → ⊥
