-- Readers and writers of std with a count of faults.
use Rattle.std.specs.Prelude.{ℕ}

-- a reader or writer, and how many of its calls failed
pub record Counted (Inner : Type 0) : Type 0 where
  pub inner : Inner
  pub faults : ℕ
