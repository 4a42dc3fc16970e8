-- The filters of the constraints of a book that an engine has on loan.
use Rattle.std.proofs.Common.{◌≡◌, ℕ, ◌+◌, ◌-◌, ◌<◌, ◌≤◌, Bool, Bor, false, true, List, [], ◌∷◌, ◌++◌, Contains, Option, None, Some, drop, length, get_or, slice_get, take, inl, inr, refl, sym, ap, ◌∙◌, subst, arith}
use Rattle.std.specs.Option.{IfSome, MatchOption}
use Rattle.std.proofs.lemmas.Bool.{cases_eq}
use Rattle.std.proofs.lemmas.List.{get_or_append_left, get_or_past, get_or-append_right}
use Rattle.std.proofs.lemmas.List.Elements.{Contains-append_right}
use Rattle.std.proofs.lemmas.Option.{none-some, same_Some}
use Rattle.palm_base.proofs.cited.Members.{member_here}
use Rattle.palm_base.specs.declared.terms.Cid.TheVariants.{User}
use Rattle.palm_book.specs.Book.{Contents, user_at}
use Rattle.palm_book.specs.declared.book.BookCon.{BookCon}
use Rattle.palm_kind.specs.Kind.{con_of}
use Rattle.palm_kind.specs.declared.kind.Kind.{Kind}
use Rattle.palm_model.specs.Log.{Active, IsActive}
use Rattle.palm_model.specs.State.{EngineState, user_of}
use Rattle.palm_model.specs.declared.constraint.Con.{Con}
use Rattle.palm_reduce.specs.Kept.{CanLend, con_of_kept}
use Rattle.palm_reduce.specs.Marked.{marked, with_marks}
use Rattle.palm_reduce.specs.Walked.{actives}
use Rattle.palm_reduce.proofs.Filling.{entry_same}
use Rattle.palm_reduce.proofs.Splitting.{split_active}
use Rattle.palm_reduce.proofs.cited.Marking.{marked_here}

-- ---- what the engine lends

-- the filter of an active constraint means that constraint
pub lent_is : (active : List Active) (number : ℕ) (kind : Option (Bor Kind)) → MatchOption kind (IsActive active (User number) → ⊥) (λ f. Contains active (user_of number (con_of f.now)))
    → IfSome kind (λ f. (a : Active) → Contains active a → a.cid ≡ User number → a ≡ user_of number (con_of f.now)) → (con : Con) → Contains active (user_of number con) → con_of_kept kind ≡ Some con
lent_is active number None none only con m = absurd (none (record { owner = user_of number con; posted = m; named = refl }))
lent_is active number (Some f) is only con m = ap (λ (a : Active). Some a.con) (sym (only (user_of number con) m refl))

-- a marked constraint is active in an engine that can lend the filters of the marked ones
pub can_lend_at : (book : Contents) (marks : List Bool) (s : EngineState) → length marks ≡ length book.constraints → CanLend (marked book marks) s
    → (place : ℕ) (c : BookCon) → slice_get book.constraints place ≡ Some c → get_or marks place false ≡ true → Contains s.active (user_of c.number c.con)
can_lend_at book marks s whole lends place c at on =
    let cs = with_marks book.constraints marks in
    let entry : BookCon = record c { active = true } in
    lends (user_at c) (subst (λ (z : List Active). Contains z (user_at c)) (sym (split_active cs place entry (marked_here book.constraints marks place c true whole at on) refl))
    (Contains-append_right (actives (take place cs)) (user_at c ∷ actives (drop (place + 1) cs)) (user_at c) (member_here (user_at c) (actives (drop (place + 1) cs)))))

-- ---- what is kept

-- a filter of each marked constraint before a place is kept
abbrev pub AreKeptBefore : List BookCon → List Bool → ℕ → List (Option (Bor Kind)) → Type 0
AreKeptBefore cs marks next kept = (place : ℕ) → place < next → get_or marks place false ≡ true → (c : BookCon) → slice_get cs place ≡ Some c → con_of_kept (get_or kept place None) ≡ Some c.con

pub kept_none : (cs : List BookCon) (marks : List Bool) (kept : List (Option (Bor Kind))) → AreKeptBefore cs marks 0 kept
kept_none cs marks kept place lt on c at = absurd (omega (arith, lt))

at_end : (kept : List (Option (Bor Kind))) (k : Option (Bor Kind)) (next : ℕ) → length kept ≡ next → get_or (kept ++ k ∷ []) next None ≡ k
at_end kept k next full =
    let none : next - next ≡ 0 = omega arith in
    get_or-append_right kept (k ∷ []) next next None full (omega arith) ∙ ap (λ (n : ℕ). get_or (k ∷ []) n None) none

-- one more place
pub kept_next : (cs : List BookCon) (marks : List Bool) (next : ℕ) (kept : List (Option (Bor Kind))) (k : Option (Bor Kind)) (con : BookCon) → length kept ≡ next → slice_get cs next ≡ Some con
    → (get_or marks next false ≡ true → con_of_kept k ≡ Some con.con) → AreKeptBefore cs marks next kept → AreKeptBefore cs marks (next + 1) (kept ++ k ∷ [])
kept_next cs marks next kept k con full stands new before place lt on c at = elim (cases_eq place next) [
  | inl e ↦
      subst (λ (n : ℕ). con_of_kept (get_or (kept ++ k ∷ []) n None) ≡ Some c.con) (sym e)
      (ap con_of_kept (at_end kept k next full)
      ∙ new (subst (λ (n : ℕ). get_or marks n false ≡ true) e on)
      ∙ ap (λ (d : BookCon). Some d.con) (entry_same cs next con c stands (subst (λ (n : ℕ). slice_get cs n ≡ Some c) e at)))
  | inr n ↦
      let earlier : place < next = omega (arith, lt, n) in
      ap con_of_kept (get_or_append_left kept (k ∷ []) None place (subst (λ m. place < m) (sym full) earlier)) ∙ before place earlier on c at
]

-- what is kept at a place where a filter is asked for
pub kept_within : (kept : List (Option (Bor Kind))) (place : ℕ) (con : Con) → con_of_kept (get_or kept place None) ≡ Some con → length kept ≤ place → ⊥
kept_within kept place con is past = none-some con (sym (ap con_of_kept (get_or_past kept place None past)) ∙ is)

pub kept_some : (kept : Option (Bor Kind)) (con : Con) → con_of_kept kept ≡ Some con → kept ≡ None → ⊥
kept_some kept con is none = none-some con (sym (ap con_of_kept none) ∙ is)

pub same_con : (o : Option Con) (c d : Con) → o ≡ Some c → o ≡ Some d → c ≡ d
same_con o c d is too = same_Some c d (sym is ∙ too)
