-- Verdicts of families of texts that list variables and constraints and have phrases of their own: what they list is asked and told
-- as in any other, so it is enough to know it of their phrases.
use Rattle.std.proofs.Common.{◌≡◌, ◌≢◌, ℕ, ℤ, List, [], ◌∷◌, ◌++◌, get_or, length, AllPairs, Any, inl, inr, refl, sym, ap, ◌∙◌, subst, arith}
use Rattle.std.proofs.lemmas.List.{get_or_default}
use Rattle.std.proofs.lemmas.List.Quantifiers.{all_pairs_push}
use Rattle.palm_base.specs.First.{IsNone}
use Rattle.palm_base.proofs.cited.Members.{Known, known_not}
use Rattle.palm_book.specs.Book.{BookVar, Contents, with_listed, with_variable}
use Rattle.palm_book.specs.Named.{IsUnknownName}
use Rattle.palm_book.specs.declared.book.BookCon.{BookCon}
use Rattle.palm_book.specs.declared.limits.TheConstants.{MOST_VARIABLES, MOST_CONSTRAINTS}
use Rattle.palm_book.proofs.cited.Naming.{constraint_once, constraint_with, some_known}
use Rattle.palm_book.proofs.cited.Pairs.{Apart}
use Rattle.palm_model.specs.declared.constraint.Con.{Con}
use Rattle.palm_read.specs.Domain.{values_in}
use Rattle.palm_read.specs.Limits.{names_of}
use Rattle.palm_read.specs.declared.line.Line.TheVariants.{Var, Add}
use Rattle.palm_read.proofs.cited.KnownLimits.{beyond_known, known_either, most_known}
use Rattle.palm_claim.specs.Judging.{in_order}
use Rattle.palm_claim.specs.Own.{IsBeyondLimits, IsMisdeclared, IsOfPhrase, Leads, MayStand, Meets, MeetsBy, Own, family_of}
use Rattle.palm_claim.specs.Phrases.{ArePhrases}
use Rattle.palm_claim.specs.declared.statement.Statement.{Statement}
use Rattle.palm_claim.specs.declared.statement.Statement.TheVariants.{Comment, Variable, Constraint, Phrase}
use Rattle.palm_claim.specs.declared.verdict.Cause.{Cause}
use Rattle.palm_claim.specs.declared.verdict.Cause.TheVariants.{Malformed, Misdeclared, Beyond, Unproved, NotRight, NotReached}
use Rattle.palm_claim.proofs.cited.Asked.{constraint_known, known_never, named_all, unknown_known, variable_known}
use Rattle.palm_claim.proofs.cited.Judged.{IsKept, IsKnown, IsSingle}
use Rattle.palm_claim.proofs.cited.Saying.{each_said, one_saying}

-- ---- names that differ

abbrev pub ConstraintsApart : List BookCon → Type 0
ConstraintsApart constraints = AllPairs (λ (c e : BookCon). c.name ≢ e.name) constraints

-- no two variables of the book have one name, and no two constraints
pub record NamesApart (book : Contents) : Type 0 where
  pub variables : Apart book.variables
  pub constraints : ConstraintsApart book.constraints

-- a new variable's name differs from those before it
apart_more : (variables : List BookVar) (name : List ℕ) (values : List ℤ) → Apart variables → (Any (λ e. e.name ≡ name) variables → ⊥) → Apart (variables ++ record { name = name; values = values } ∷ [])
apart_more variables name values apart fresh =
    all_pairs_push (λ (e f : BookVar). e.name ≢ f.name) variables (record { name = name; values = values }) apart
    (λ k d lt same. fresh (k, get_or variables k d, lt, get_or_default variables k (get_or variables k d) d lt, same))

-- and so does a new constraint's
constraints_more : (cs : List BookCon) (c : BookCon) → ConstraintsApart cs → (Any (λ e. e.name ≡ c.name) cs → ⊥) → ConstraintsApart (cs ++ c ∷ [])
constraints_more cs c apart fresh =
    all_pairs_push (λ (a b : BookCon). a.name ≢ b.name) cs c apart
    (λ k d lt same. fresh (k, get_or cs k d, lt, get_or_default cs k (get_or cs k d) d lt, same))

pub none_apart : NamesApart (record { variables = []; constraints = [] })
none_apart = record { variables = λ i j d below lt. absurd (omega (arith, lt)); constraints = λ i j d below lt. absurd (omega (arith, lt)) }

-- what is listed stands in the book of the draft, and phrases leave the book as it is
pub record KeepsBook {D P V : Type 0} (own : Own D P V) : Type 0 where
  pub declared : (d : D) (book : Contents) → own.book (own.declared d book) ≡ book
  pub listed : (d : D) (book : Contents) → own.book (own.listed d book) ≡ book
  pub same : (d e : D) (phrase : P) → own.LeadsPhrase d phrase e → own.book e ≡ own.book d

-- what a phrase meets is known where its conditions are
pub meets_by_known : {D P : Type 0} (A B C E : D → P → Type 0) (d : D) (phrase : P) → Known (A d phrase) → Known (B d phrase) → Known (C d phrase) → Known (E d phrase)
    → (cause : Cause) → Known (MeetsBy A B C E d phrase cause)
meets_by_known A B C E d phrase a b c e Misdeclared = a
meets_by_known A B C E d phrase a b c e Unproved = b
meets_by_known A B C E d phrase a b c e NotRight = c
meets_by_known A B C E d phrase a b c e NotReached = e
meets_by_known A B C E d phrase a b c e _ = known_never

module _ {D P V : Type 0} (own : Own D P V) where
  module _ (keeps : KeepsBook own) where
    pub leads_apart : (d e : D) (s : Statement P) → NamesApart (own.book d) → IsNone (Meets own d s) in_order → Leads own d s e → NamesApart (own.book e)
    leads_apart d e Comment apart none leads = subst (λ (f : D). NamesApart (own.book f)) (sym leads) apart
    leads_apart d e (Variable name domain) apart none leads =
        let book = with_variable (own.book d) name (values_in domain) in
        let is : own.book e ≡ book = ap own.book leads ∙ keeps.declared d book in
        subst NamesApart (sym is) (record { variables = apart_more (own.book d).variables name (values_in domain) apart.variables none.1.0; constraints = apart.constraints })
    leads_apart d e (Constraint name shape) apart none leads =
        let book = with_listed (own.book d) name leads.0 in
        let is : own.book e ≡ book = ap own.book leads.2 ∙ keeps.listed d book in
        subst NamesApart (sym is) (record { variables = apart.variables; constraints = constraints_more (own.book d).constraints _ apart.constraints (λ a. none.1.0 (inl a)) })
    leads_apart d e (Phrase phrase) apart none leads = subst NamesApart (sym (keeps.same d e phrase leads)) apart

    -- no text has two verdicts, where no phrase leads to two drafts
    pub is_single : ArePhrases own.phrases → ((d e f : D) (phrase : P) → NamesApart (own.book d) → own.LeadsPhrase d phrase e → own.LeadsPhrase d phrase f → e ≡ f)
        → IsSingle (family_of own) (λ d. NamesApart (own.book d))
    is_single are once = record {
      kept = λ d e line s apart says none leads. leads_apart d e s apart none leads;
      one_saying = λ line a b p q. one_saying own.phrases are line a b p q;
      one_lead = one_lead;
    }
      where
        one_lead : (d e f : D) (s : Statement P) → NamesApart (own.book d) → Leads own d s e → Leads own d s f → e ≡ f
        one_lead d e f Comment apart p q = p ∙ sym q
        one_lead d e f (Variable name domain) apart p q = p ∙ sym q
        one_lead d e f (Constraint name shape) apart p q =
            let same : p.0 ≡ q.0 = constraint_once (own.book d).variables apart.variables p.0 q.0 p.1.declared q.1.declared (p.1.says ∙ sym q.1.says) in
            p.2 ∙ ap (λ (c : Con). own.listed d (with_listed (own.book d) name c)) same ∙ sym q.2
        one_lead d e f (Phrase phrase) apart p q = once d e f phrase apart p q

  -- every text has a verdict, where it is known whether a line may stand there, and what a phrase meets and leads to
  pub record ArePhrasesKnown (Keeps : D → Type 0) : Type 0 where
    pub declares : (d : D) → Known (own.MayDeclare d)
    pub lists : (d : D) → Known (own.MayList d)
    pub follows : (d : D) (phrase : P) → Known (own.MayFollow d phrase)
    pub meets : (d : D) (phrase : P) → Keeps d → (cause : Cause) → Known (own.MeetsPhrase d phrase cause)
    pub leads : (d : D) (phrase : P) → Keeps d → IsNone (Meets own d (Phrase phrase)) in_order → (e : D) × own.LeadsPhrase d phrase e

  module _ (Keeps : D → Type 0) (known : ArePhrasesKnown Keeps) where
    stand_known : (d : D) (s : Statement P) → Known (MayStand own d s)
    stand_known d Comment = inl tt
    stand_known d (Variable name domain) = known.declares d
    stand_known d (Constraint name shape) = known.lists d
    stand_known d (Phrase phrase) = known.follows d phrase

    misdeclared_known : (d : D) (s : Statement P) → Keeps d → Known (IsMisdeclared own d s)
    misdeclared_known d Comment keeps = known_never
    misdeclared_known d (Variable name domain) keeps = variable_known (own.book d) name
    misdeclared_known d (Constraint name shape) keeps =
        known_either (constraint_known (own.book d) name) (some_known (IsUnknownName (own.book d).variables) (names_of shape) (unknown_known (own.book d).variables))
    misdeclared_known d (Phrase phrase) keeps = known.meets d phrase keeps Misdeclared

    limits_known : (d : D) (s : Statement P) → Known (IsBeyondLimits own d s)
    limits_known d Comment = known_never
    limits_known d (Variable name domain) = known_either (beyond_known (Var name domain)) (most_known MOST_VARIABLES (length (own.book d).variables))
    limits_known d (Constraint name shape) = known_either (beyond_known (Add name shape)) (most_known MOST_CONSTRAINTS (length (own.book d).constraints))
    limits_known d (Phrase phrase) = known_never

    phrase_known : (d : D) (s : Statement P) → Keeps d → (cause : Cause) → Known (IsOfPhrase own d cause s)
    phrase_known d Comment keeps cause = known_never
    phrase_known d (Variable name domain) keeps cause = known_never
    phrase_known d (Constraint name shape) keeps cause = known_never
    phrase_known d (Phrase phrase) keeps cause = known.meets d phrase keeps cause

    meets_known : (d : D) (s : Statement P) → Keeps d → (cause : Cause) → Known (Meets own d s cause)
    meets_known d s keeps Malformed = known_not (stand_known d s)
    meets_known d s keeps Misdeclared = misdeclared_known d s keeps
    meets_known d s keeps Beyond = limits_known d s
    meets_known d s keeps Unproved = phrase_known d s keeps Unproved
    meets_known d s keeps NotRight = phrase_known d s keeps NotRight
    meets_known d s keeps NotReached = phrase_known d s keeps NotReached

    -- a line without a cause leads to a draft
    leads_on : (d : D) (s : Statement P) → Keeps d → IsNone (Meets own d s) in_order → (e : D) × Leads own d s e
    leads_on d Comment keeps none = (d, refl)
    leads_on d (Variable name domain) keeps none = (own.declared d (with_variable (own.book d) name (values_in domain)), refl)
    leads_on d (Constraint name shape) keeps none =
        let r = constraint_with (own.book d).variables shape (named_all (own.book d).variables (names_of shape) (λ a. none.1.0 (inr a))) in
        (own.listed d (with_listed (own.book d) name r.0), (r.0, r.1, refl))
    leads_on d (Phrase phrase) keeps none = known.leads d phrase keeps none

    pub is_known : ArePhrases own.phrases → IsKept (family_of own) Keeps → IsKnown (family_of own) Keeps
    is_known are kept = record {
      kept = kept;
      said = λ line. elim (each_said own.phrases are line) [ inl said ↦ inl said | inr none ↦ inr (λ r. none r.0 r.1) ];
      meets = λ d line s keeps says cause. meets_known d s keeps cause;
      leads = λ d line s keeps says none. leads_on d s keeps none;
    }
