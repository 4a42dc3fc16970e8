-- Whether a line goes beyond a limit is known.
use Rattle.std.proofs.Common.{ℕ, ◌<◌, ◌≤◌, pos, ◌-ℤ◌, length, ◌⊎◌, inl, inr, arith}
use Rattle.std.proofs.lemmas.Bool.{cases_lt}
use Rattle.std.proofs.lemmas.Int.{ints, by_lt_z}
use Rattle.palm_base.proofs.cited.Members.{Known}
use Rattle.palm_read.specs.Domain.{IsLarge}
use Rattle.palm_read.specs.Limits.{names_of, HasManyRows, IsBeyond}
use Rattle.palm_read.specs.declared.line.DomainText.{DomainText}
use Rattle.palm_read.specs.declared.line.DomainText.TheVariants.{Range, Set}
use Rattle.palm_read.specs.declared.line.Line.{Line}
use Rattle.palm_read.specs.declared.line.Line.TheVariants.{Var, VarIn, Add}
use Rattle.palm_read.specs.declared.line.Shape.{Shape}
use Rattle.palm_read.specs.declared.line.Shape.TheVariants.{Table, Element, Within}

pub known_either : {P Q : Type 0} → Known P → Known Q → Known (P ⊎ Q)
known_either p q = elim p [
  | inl a ↦ inl (inl a)
  | inr n ↦ elim q [ inl b ↦ inl (inr b) | inr m ↦ inr (λ r. elim r [ inl a ↦ n a | inr b ↦ m b ]) ]
]

pub above_known : (m n : ℕ) → Known (m < n)
above_known m n = elim (cases_lt m n) [ inl l ↦ inl l | inr g ↦ inr (λ l. absurd (omega (arith, l, g))) ]

pub most_known : (m n : ℕ) → Known (m ≤ n)
most_known m n = elim (cases_lt n m) [ inl l ↦ inr (λ g. absurd (omega (arith, l, g))) | inr g ↦ inl g ]

large_known : (domain : DomainText) → Known (IsLarge domain)
large_known (Range low high) = by_lt_z (high -ℤ low) (pos 256) (λ l. inr (λ h. absurd (omega (arith, ints, l, h)))) (λ g. inl g)
large_known (Set values) = above_known 256 (length values)

rows_known : (shape : Shape) → Known (HasManyRows shape)
rows_known (Table vars rows) = above_known 256 (length rows)
rows_known (Element outcome index entries) = above_known 256 (length entries)
rows_known (Within var domain) = large_known domain
rows_known _ = inr (λ h. h)

pub beyond_known : (line : Line) → Known (IsBeyond line)
beyond_known (Var name domain) = large_known domain
beyond_known (VarIn name universe domain) = known_either (large_known universe) (large_known domain)
beyond_known (Add name shape) = known_either (above_known 16 (length (names_of shape))) (rows_known shape)
beyond_known _ = inr (λ h. h)
