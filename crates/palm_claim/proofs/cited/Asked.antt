-- Whatever is asked of names, steps and claims is known.
use Rattle.std.proofs.Common.{◌≡◌, ℕ, ℤ, List, All, Any, Contains, inl, inr, refl, ap, ◌∙◌, subst}
use Rattle.palm_base.specs.declared.terms.Pair.{Pair}
use Rattle.palm_base.proofs.cited.Members.{Known, all_members, any_known, int_known, known_both, known_like, known_not, list_known, member_known, nat_known}
use Rattle.palm_book.specs.Book.{Contents, BookVar, HasConstraint, HasVariable, initial_of}
use Rattle.palm_book.specs.Named.{IsDeclared, IsPair, IsUnknownName, IsVariable}
use Rattle.palm_book.specs.declared.book.BookCon.{BookCon}
use Rattle.palm_book.proofs.cited.Any.{any_member}
use Rattle.palm_model.specs.Domains.{Domains, values_of, without}
use Rattle.palm_model.specs.Part.{parts, scope_of}
use Rattle.palm_model.specs.Support.{HasSupport, LacksSupport}
use Rattle.palm_model.specs.declared.constraint.Con.{Con}
use Rattle.palm_model.specs.declared.part.Part.{Part}
use Rattle.palm_model.proofs.cited.Trials.{support_known}
use Rattle.palm_claim.specs.Step.{IsReached, IsRight, pairs_at}
use Rattle.palm_claim.specs.declared.verdict.Claim.{Claim}
use Rattle.palm_claim.specs.declared.verdict.Claim.TheVariants.{Gone, Conflict}
use Rattle.palm_book.proofs.cited.Naming.{name_known, some_known, variable_with}
use Rattle.palm_book.proofs.cited.Pairs.{Apart, variable_is, variable_known as has_variable}

-- ---- what is known in general

pub known_never : Known ⊥
known_never = inr (λ h. h)

pub pair_known : (p q : Pair) → Known (p ≡ q)
pair_known p q =
    let build : ℕ → ℤ → Pair = λ x v. record { var = x; value = v } in
    known_like (λ b. ap (λ (x : ℕ). build x p.value) b.0 ∙ ap (λ (v : ℤ). build q.var v) b.1)
    (λ e. (ap (λ (r : Pair). r.var) e, ap (λ (r : Pair). r.value) e)) (known_both (nat_known p.var q.var) (int_known p.value q.value))

-- what is not refuted and known is so
pub settled : {P : Type 0} → Known P → ((P → ⊥) → ⊥) → P
settled known twice = elim known [ inl h ↦ h | inr n ↦ absurd (twice n) ]

-- ---- declarations

pub variable_known : (book : Contents) (name : List ℕ) → Known (HasVariable book name)
variable_known book name = name_known (λ e. e.name) book.variables name

pub constraint_known : (book : Contents) (name : List ℕ) → Known (HasConstraint book name)
constraint_known book name = name_known (λ c. c.name) book.constraints name

pub declared_known : (variables : List BookVar) (name : List ℕ) (value : ℤ) → Known (IsDeclared variables name value)
declared_known variables name value =
    some_known (λ e. (e.name ≡ name) × Contains e.values value) variables (λ e. known_both (list_known nat_known e.name name) (member_known int_known e.values value))

pub unknown_known : (variables : List BookVar) (name : List ℕ) → Known (IsUnknownName variables name)
unknown_known variables name = known_not (name_known (λ e. e.name) variables name)

pub named_all : (variables : List BookVar) (names : List (List ℕ)) → (Any (IsUnknownName variables) names → ⊥) → All (λ name. Any (λ e. e.name ≡ name) variables) names
named_all variables names none =
    all_members (λ name. Any (λ e. e.name ≡ name) variables) names (λ name m.
    settled (name_known (λ e. e.name) variables name) (λ unknown. none (any_member (IsUnknownName variables) names name m unknown)))

-- a declared name and value are those of a pair
pub pair_with : (variables : List BookVar) (name : List ℕ) (value : ℤ) → IsDeclared variables name value → (pair : Pair) × IsPair variables name value pair
pair_with variables name value a =
    let x = variable_with variables name (a.0, a.1, a.2, a.3, a.4.0) in
    (record { var = x.0; value = value }, record { variable = record { declared = x.1; named = x.2 }; gives = refl })

-- ---- steps and claims

pub lacks_known : (d : Domains) (c : Con) (x : ℕ) (v : ℤ) → Known (LacksSupport d c x v)
lacks_known d c x v =
    let Lacks : Part → Type 0 = λ p. Contains (scope_of p) x × (HasSupport d p x v → ⊥) in
    elim (any_known Lacks (parts c) (λ p m. known_both (member_known nat_known (scope_of p) x) (known_not (support_known d p x v)))) [
      | inl r ↦ inl (record { part = r.0; is_part = r.1; over = r.2.0; lacks = r.2.1 })
      | inr none ↦ inr (λ l. none l.part l.is_part (l.over, l.lacks))
    ]

pub right_known : (book : Contents) (proved : List Pair) (pair : Pair) (by : List ℕ) (reasons : List ℕ) → Known (IsRight book proved pair by reasons)
right_known book proved pair by reasons =
    let d : Domains = without (initial_of book) (pairs_at proved reasons) in
    let Owns : BookCon → Type 0 = λ c. (c.name ≡ by) × LacksSupport d c.con pair.var pair.value in
    elim (any_known Owns book.constraints (λ c m. known_both (list_known nat_known c.name by) (lacks_known d c.con pair.var pair.value))) [
      | inl r ↦ inl (record { owner = r.0; listed = r.1; named = r.2.0; lacks = r.2.1 })
      | inr none ↦ inr (λ h. none h.owner h.listed (h.named, h.lacks))
    ]

pub reached_known : (book : Contents) (proved : List Pair) (claim : Claim) → Known (IsReached book proved claim)
reached_known book proved (Gone pair) = member_known pair_known proved pair
reached_known book proved (Conflict x) =
    let At : ℤ → Type 0 = λ v. Contains proved (record { var = x; value = v }) in
    elim (any_known (λ v. At v → ⊥) (values_of (initial_of book) x) (λ v m. known_not (member_known pair_known proved (record { var = x; value = v })))) [
      | inl r ↦ inr (λ all. r.2 (all r.0 r.1))
      | inr none ↦ inl (λ v has. elim (member_known pair_known proved (record { var = x; value = v })) [ inl m ↦ m | inr out ↦ absurd (none v has out) ])
    ]

-- ---- what a name stands for

-- what is asked of the one variable that a name stands for
pub asked_of_variable : (variables : List BookVar) (name : List ℕ) (Wrong : ℕ → Type 0) → Apart variables → ((x : ℕ) → Known (Wrong x))
    → Known ((x : ℕ) × IsVariable variables name x × Wrong x)
asked_of_variable variables name Wrong apart known = elim (name_known (λ e. e.name) variables name) [
  | inl a ↦
      let x = variable_with variables name a in
      let is : IsVariable variables name x.0 = record { declared = x.1; named = x.2 } in
      elim (known x.0) [
        | inl wrong ↦ inl (x.0, is, wrong)
        | inr fine ↦ inr (λ q. fine (subst Wrong (variable_is variables name q.0 x.0 apart q.1 is) q.2))
      ]
  | inr none ↦ inr (λ q. none (has_variable variables name q.0 q.1))
]

-- and of the one pair, where a value is given too
pub asked_of_pair : (variables : List BookVar) (name : List ℕ) (value : ℤ) (Wrong : Pair → Type 0) → Apart variables → ((p : Pair) → Known (Wrong p))
    → Known ((pair : Pair) × IsPair variables name value pair × Wrong pair)
asked_of_pair variables name value Wrong apart known =
    let pair : ℕ → ℤ → Pair = λ x v. record { var = x; value = v } in
    elim (asked_of_variable variables name (λ x. Wrong (pair x value)) apart (λ x. known (pair x value))) [
      | inl r ↦ inl (pair r.0 value, record { variable = r.1; gives = refl }, r.2)
      | inr none ↦ inr (λ q. none (q.0.var, q.1.variable, subst (λ (v : ℤ). Wrong (pair q.0.var v)) q.1.gives q.2))
    ]
