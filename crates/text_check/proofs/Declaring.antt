-- What is answered to a variable and to a constraint.
use Rattle.std.proofs.Common.{◌≡◌, ℕ, ◌≤◌, Some, None, List, length, Any, ◌⊎◌, inl, inr, sym, ap, ◌∙◌, subst}
use Rattle.palm_book.specs.Book.{Contents, HasConstraint, HasVariable, with_listed}
use Rattle.palm_book.specs.Named.{IsUnknownName, Resolves}
use Rattle.palm_book.specs.declared.limits.TheConstants.{MOST_CONSTRAINTS}
use Rattle.palm_model.specs.declared.constraint.Con.{Con}
use Rattle.palm_read.specs.Limits.{IsBeyond, names_of}
use Rattle.palm_read.specs.declared.line.DomainText.{DomainText}
use Rattle.palm_read.specs.declared.line.Line.TheVariants.{Add}
use Rattle.palm_read.specs.declared.line.Shape.{Shape}
use Rattle.palm_claim.specs.Own.{Meets, Own, family_of}
use Rattle.palm_claim.specs.Taking.{TakesStatement}
use Rattle.palm_claim.specs.declared.statement.Statement.TheVariants.{Variable, Constraint}
use Rattle.palm_claim.specs.declared.verdict.Cause.TheVariants.{Misdeclared, Beyond}
use Rattle.palm_claim.proofs.cited.Causes.{first_beyond, first_misdeclared, without_cause}

module _ {D P V : Type 0} (own : Own D P V) (d e : D) (book : Contents) (is : own.book d ≡ book) (name : List ℕ) where
  module _ (domain : DomainText) where
    module _ (may : own.MayDeclare d) where
      pub variable_misdeclared : HasVariable book name → TakesStatement (family_of own) d (Variable name domain) (Some Misdeclared) e
      variable_misdeclared has = first_misdeclared (Meets own d (Variable name domain)) (λ n. n may) (subst (λ (b : Contents). HasVariable b name) (sym is) has)

  module _ (shape : Shape) where
    module _ (may : own.MayList d) where
      pub constraint_misdeclared : HasConstraint book name ⊎ Any (IsUnknownName book.variables) (names_of shape) → TakesStatement (family_of own) d (Constraint name shape) (Some Misdeclared) e
      constraint_misdeclared wrong =
          first_misdeclared (Meets own d (Constraint name shape)) (λ n. n may)
          (subst (λ (b : Contents). HasConstraint b name ⊎ Any (IsUnknownName b.variables) (names_of shape)) (sym is) wrong)

      module _ (declared : HasConstraint book name ⊎ Any (IsUnknownName book.variables) (names_of shape) → ⊥) where
        still_declared : HasConstraint (own.book d) name ⊎ Any (IsUnknownName (own.book d).variables) (names_of shape) → ⊥
        still_declared wrong = declared (subst (λ (b : Contents). HasConstraint b name ⊎ Any (IsUnknownName b.variables) (names_of shape)) is wrong)

        pub constraint_beyond : IsBeyond (Add name shape) ⊎ (MOST_CONSTRAINTS ≤ length book.constraints) → TakesStatement (family_of own) d (Constraint name shape) (Some Beyond) e
        constraint_beyond beyond =
            first_beyond (Meets own d (Constraint name shape)) (λ n. n may) still_declared
            (subst (λ (b : Contents). IsBeyond (Add name shape) ⊎ (MOST_CONSTRAINTS ≤ length b.constraints)) (sym is) beyond)

        pub constraint_taken : (con : Con) → (IsBeyond (Add name shape) → ⊥) → (MOST_CONSTRAINTS ≤ length book.constraints → ⊥) → Resolves book.variables shape con
            → e ≡ own.listed d (with_listed book name con) → TakesStatement (family_of own) d (Constraint name shape) None e
        constraint_taken con within room says leads = (
          without_cause (Meets own d (Constraint name shape)) (λ n. n may) still_declared
              (λ b. elim b [ inl h ↦ within h | inr h ↦ room (subst (λ (c : Contents). MOST_CONSTRAINTS ≤ length c.constraints) is h) ]) (λ h. h) (λ h. h) (λ h. h),
          (
            con,
            subst (λ (b : Contents). Resolves b.variables shape con) (sym is) says,
            leads ∙ ap (λ (b : Contents). own.listed d (with_listed b name con)) (sym is),
          ),
        )
