-- An engine is filled with the variables and the active constraints of a book.
use Rattle.std.proofs.Common.{◌≡◌, ℕ, zero, suc, ◌+◌, ◌<◌, ◌≤◌, Bool, true, false, List, [], ◌∷◌, ◌++◌, map, take, drop, length, get_or, slice_get, Some, All, Contains, ℤ, ◌⊎◌, inl, inr, refl, sym, ap, ◌∙◌, subst, arith}
use Rattle.std.specs.Prelude.{◌↔◌}
use Rattle.std.proofs.lemmas.Option.{get_or_from_slice_get}
use Rattle.std.proofs.lemmas.List.{length-map, length-take, take_all, take_more}
use Rattle.palm_base.proofs.cited.Members.{member_here, member_nil, member_same}
use Rattle.palm_base.specs.declared.terms.Cid.{Cid}
use Rattle.palm_book.specs.Book.{AreValues, Contents, BookVar, IsBook, active_of, initial_of, user_at, values_at}
use Rattle.palm_book.specs.declared.book.BookCon.{BookCon}
use Rattle.palm_model.specs.Constraint.{IsWellFormed, scope}
use Rattle.palm_model.specs.Domains.{Domains}
use Rattle.palm_model.specs.Event.{Declares, Posts, with_posted}
use Rattle.palm_model.specs.Log.{Active, IsActive}
use Rattle.palm_model.specs.State.{EngineState, blank, user_of}
use Rattle.palm_model.specs.declared.constraint.Con.{Con}
use Rattle.palm_events.proofs.cited.States.{member_with_posted, with_posted_cases, with_posted_here}
use Rattle.std.proofs.lemmas.List.Elements.{Contains-append_left, Contains-append_right, Contains-push, Contains-push_cases}
use Rattle.palm_reduce.specs.Marked.{marked, with_marks}
use Rattle.palm_reduce.specs.Walked.{HasMarked, HasOnly, actives}
use Rattle.palm_reduce.proofs.cited.Marking.{marked_length}
use Rattle.palm_reduce.proofs.Splitting.{apart, earlier_active, earlier_relaxed, split_active}

-- ---- variables

pub row_values : (book : Contents) → IsBook book → (x : ℕ) → x < length book.variables → AreValues (values_at book.variables x)
row_values book is x lt = is.values x (record { name = []; values = [] }) lt

read_values : (variables : List BookVar) (x : ℕ) → x < length variables → get_or (map (λ e. e.values) variables) x [] ≡ values_at variables x
read_values [] x lt = absurd (omega (arith, lt))
read_values (e ∷ variables) zero lt = refl
read_values (e ∷ variables) (suc x) lt = read_values variables x (omega (arith, lt))

next_values : (book : Contents) (x : ℕ) → x < length book.variables → take (x + 1) (initial_of book) ≡ take x (initial_of book) ++ values_at book.variables x ∷ []
next_values book x lt =
    let within : x < length (initial_of book) = subst (λ n. x < n) (sym (length-map book.variables (λ (e : BookVar). e.values))) lt in
    take_more (initial_of book) x [] within ∙ ap (λ (vs : List ℤ). take x (initial_of book) ++ vs ∷ []) (read_values book.variables x lt)

pub declares_next : (book : Contents) (x : ℕ) → x < length book.variables → (s t : EngineState) → s ≡ blank (take x (initial_of book)) → Declares s (values_at book.variables x) t
    → t ≡ blank (take (x + 1) (initial_of book))
declares_next book x lt s t is declares =
    declares.after
    ∙ ap (λ (z : EngineState). record z { initial = z.initial ++ values_at book.variables x ∷ [] }) is
    ∙ ap (λ (d : Domains). blank d) (sym (next_values book x lt))

pub declared_all : (book : Contents) (x : ℕ) → length book.variables ≤ x → (s : EngineState) → s ≡ blank (take x (initial_of book)) → s ≡ blank (initial_of book)
declared_all book x le s is =
    is ∙ ap (λ (d : Domains). blank d) (take_all x (initial_of book) (omega (arith, length-map book.variables (λ (e : BookVar). e.values), le)))

-- there is room for one more
pub few_declared : (book : Contents) (x : ℕ) (s : EngineState) → s ≡ blank (take x (initial_of book)) → length s.initial ≤ x
few_declared book x s is =
    subst (λ (z : EngineState). length z.initial ≤ x) (sym is) (omega (arith, length-take x (initial_of book)))

-- ---- constraints

pub scope_declared : (book : Contents) (c : BookCon) → IsWellFormed (length book.variables) c.con → (initial : Domains) → initial ≡ initial_of book → (con : Con) → con ≡ c.con → All (λ x. x < length initial) (scope con)
scope_declared book c formed initial is con e =
    subst (λ (d : Con). All (λ x. x < length initial) (scope d)) (sym e)
    (subst (λ n. All (λ x. x < n) (scope c.con)) (sym (ap length is ∙ length-map book.variables (λ (v : BookVar). v.values))) formed.declared)

pub posts_same : (s t : EngineState) (c : BookCon) (con : Con) → con ≡ c.con → Posts s (user_of c.number con) t → Posts s (user_at c) t
posts_same s t c con e posts = subst (λ (d : Con). Posts s (user_of c.number d) t) e posts

-- the constraint at a place is one
pub entry_same : (cs : List BookCon) (i : ℕ) (c d : BookCon) → slice_get cs i ≡ Some c → slice_get cs i ≡ Some d → c ≡ d
entry_same cs i c d at too = sym (get_or_from_slice_get cs i c c at) ∙ get_or_from_slice_get cs i d c too

pub posts_at : (s t : EngineState) (cs : List BookCon) (i : ℕ) (c d : BookCon) (con : Con) → slice_get cs i ≡ Some c → con ≡ c.con → Posts s (user_of c.number con) t → slice_get cs i ≡ Some d → Posts s (user_at d) t
posts_at s t cs i c d con at e posts too = subst (λ (z : BookCon). Posts s (user_at z) t) (entry_same cs i c d at too) (posts_same s t c con e posts)

-- an engine has the variables of a book, and of its active constraints those under these ids and those before a place
pub record HasFirst (book : Contents) (cids : List Cid) (place : ℕ) (s : EngineState) : Type 0 where
  pub initial : s.initial ≡ initial_of book
  pub active : (a : Active) → Contains s.active a ↔ ((Contains (active_of book) a × Contains cids a.cid) ⊎ Contains (actives (take place book.constraints)) a)

pub first_none : (book : Contents) (marks : List Bool) (cids : List Cid) (s : EngineState) → HasOnly book marks cids s → HasFirst (marked book marks) cids 0 s
first_none book marks cids s only = record {
  initial = only.initial;
  active = λ a. (λ m. inl ((only.active a).0 m), λ m. elim m [ inl k ↦ (only.active a).1 k | inr k ↦ absurd (member_nil a k) ]);
}

pub first_all : (book : Contents) (marks : List Bool) (cids : List Cid) (i : ℕ) (s : EngineState) → length book.constraints ≤ i → HasFirst (marked book marks) cids i s → HasMarked book marks s
first_all book marks cids i s le has = record {
  initial = has.initial;
  active = λ a. (
    λ m. elim ((has.active a).0 m) [ inl k ↦ k.0 | inr k ↦ subst (λ (z : List Active). Contains z a) all k ],
    λ m. (has.active a).1 (inr (subst (λ (z : List Active). Contains z a) (sym all) m)),
  );
}
  where
    all : actives (take i (with_marks book.constraints marks)) ≡ active_of (marked book marks)
    all = ap actives (take_all i (with_marks book.constraints marks) (omega (arith, marked_length book.constraints marks, le)))

module _ (book : Contents) (is : IsBook book) (cids : List Cid) (i : ℕ) (c : BookCon) (at : slice_get book.constraints i ≡ Some c) (s : EngineState) (has : HasFirst book cids i s) where
  abbrev Under : Active → Type 0
  Under a = Contains (active_of book) a × Contains cids a.cid

  abbrev before : List Active
  before = actives (take i book.constraints)

  pub first_relaxed : c.active ≡ false → HasFirst book cids (i + 1) s
  first_relaxed off = record {
    initial = has.initial;
    active = subst (λ (z : List Active). (a : Active) → Contains s.active a ↔ (Under a ⊎ Contains z a)) (sym (earlier_relaxed book.constraints i c at off)) has.active;
  }

  module _ (on : c.active ≡ true) where
    in_book : Contains (active_of book) (user_at c)
    in_book = subst (λ (z : List Active). Contains z (user_at c)) (sym (split_active book.constraints i c at on))
        (Contains-append_right before (user_at c ∷ actives (drop (i + 1) book.constraints)) (user_at c) (member_here (user_at c) (actives (drop (i + 1) book.constraints))))

    first_next : (t : EngineState) → t.initial ≡ initial_of book → ((a : Active) → Contains t.active a ↔ (Under a ⊎ Contains (before ++ user_at c ∷ []) a)) → HasFirst book cids (i + 1) t
    first_next t initial active = record {
      initial = initial;
      active = subst (λ (z : List Active). (a : Active) → Contains t.active a ↔ (Under a ⊎ Contains z a)) (sym (earlier_active book.constraints i c at on)) active;
    }

    -- those that the engine has are among those with one more
    still : (a : Active) → Contains s.active a → Under a ⊎ Contains (before ++ user_at c ∷ []) a
    still a m = elim ((has.active a).0 m) [ inl k ↦ inl k | inr k ↦ inr (Contains-append_left before (user_at c ∷ []) a k) ]

    -- a constraint that the engine has already
    pub first_there : Contains cids (user_at c).cid → HasFirst book cids (i + 1) s
    first_there among = first_next s has.initial (λ a. (
      still a,
      λ m. elim m [
        | inl k ↦ (has.active a).1 (inl k)
        | inr k ↦ elim (Contains-push_cases before (user_at c) a k) [
          | inl n ↦ (has.active a).1 (inr n)
          | inr e ↦ member_same s.active (user_at c) a e ((has.active (user_at c)).1 (inl (in_book, among)))
        ]
      ],
    ))

    module _ (other : Contains cids (user_at c).cid → ⊥) where
      pub not_yet : IsActive s.active (user_at c).cid → ⊥
      not_yet a = elim ((has.active a.owner).0 a.posted) [
        | inl k ↦ other (subst (Contains cids) a.named k.1)
        | inr k ↦ apart book is i c at on a.owner (inl k) a.named
      ]

      -- one that is posted
      pub first_posted : (t : EngineState) → Posts s (user_at c) t → HasFirst book cids (i + 1) t
      first_posted t posts = first_next t (ap (λ (z : EngineState). z.initial) posts.after ∙ has.initial) (λ a. (
        λ m. elim (with_posted_cases (user_at c) s.active a (subst (λ (z : List Active). Contains z a) t_active m)) [
          | inl e ↦ inr (member_same (before ++ user_at c ∷ []) (user_at c) a e (Contains-push before (user_at c)))
          | inr k ↦ still a k
        ],
        λ m. subst (λ (z : List Active). Contains z a) (sym t_active) (elim m [
          | inl k ↦ member_with_posted (user_at c) s.active a not_yet ((has.active a).1 (inl k))
          | inr k ↦ elim (Contains-push_cases before (user_at c) a k) [
            | inl n ↦ member_with_posted (user_at c) s.active a not_yet ((has.active a).1 (inr n))
            | inr e ↦ member_same (with_posted (user_at c) s.active) (user_at c) a e (with_posted_here (user_at c) s.active)
          ]
        ]),
      ))
        where
          t_active : t.active ≡ with_posted (user_at c) s.active
          t_active = ap (λ (z : EngineState). z.active) posts.after
