-- A book whose active constraints are those at marked places.
use Rattle.std.proofs.Common.{◌≡◌, ◌≢◌, ℕ, zero, suc, ◌<◌, ◌≤◌, Bool, false, List, [], ◌∷◌, map, length, get_or, slice_get, Some, All, AllPairs, refl, sym, ap, ◌∙◌, subst, arith}
use Rattle.std.proofs.lemmas.List.Elements.{All-nil, All-cons, All-head, All-tail, All-weaker}
use Rattle.std.proofs.lemmas.List.Kept.{AllPairs-cons}
use Rattle.std.proofs.lemmas.Option.{slice_get-get_or, slice_get_within}
use Rattle.palm_read.specs.Name.{IsNameText}
use Rattle.palm_model.specs.Constraint.{IsWellFormed}
use Rattle.palm_book.specs.Book.{Contents, IsBook}
use Rattle.palm_book.specs.declared.limits.TheConstants.{MOST_CONSTRAINTS}
use Rattle.palm_book.specs.declared.book.BookCon.{BookCon}
use Rattle.palm_reduce.specs.Marked.{marked, with_marks}

pub marked_length : (cs : List BookCon) (marks : List Bool) → length (with_marks cs marks) ≡ length cs
marked_length [] marks = refl
marked_length (c ∷ cs) [] = ap suc (marked_length cs [])
marked_length (c ∷ cs) (m ∷ marks) = ap suc (marked_length cs marks)

-- the constraint at a place
pub marked_at : (cs : List BookCon) (marks : List Bool) (i : ℕ) (c : BookCon) (m : Bool) → slice_get cs i ≡ Some c → slice_get marks i ≡ Some m
    → slice_get (with_marks cs marks) i ≡ Some (record c { active = m })
marked_at [] marks i c m at mark = cc
marked_at (d ∷ cs) [] i c m at mark = cc
marked_at (d ∷ cs) (n ∷ marks) zero c m at mark = cc
marked_at (d ∷ cs) (n ∷ marks) (suc i) c m at mark = marked_at cs marks i c m at mark

pub marked_here : (cs : List BookCon) (marks : List Bool) (i : ℕ) (c : BookCon) (b : Bool) → length marks ≡ length cs → slice_get cs i ≡ Some c → get_or marks i false ≡ b
    → slice_get (with_marks cs marks) i ≡ Some (record c { active = b })
marked_here cs marks i c b whole at is =
    marked_at cs marks i c b at (slice_get-get_or marks i false (subst (λ n. i < n) (sym whole) (slice_get_within cs i c at)) ∙ ap Some is)

-- a constraint stands at each place
pub entry_within : (cs : List BookCon) (i : ℕ) → i < length cs → (c : BookCon) × (slice_get cs i ≡ Some c)
entry_within [] i lt = absurd (omega (arith, lt))
entry_within (c ∷ cs) zero lt = (c, refl)
entry_within (c ∷ cs) (suc i) lt = entry_within cs i (omega (arith, lt))

-- with the marks of the active ones it is the same book
pub active_marked : (cs : List BookCon) → with_marks cs (map (λ (c : BookCon). c.active) cs) ≡ cs
active_marked [] = refl
active_marked (c ∷ cs) = ap (λ (z : List BookCon). c ∷ z) (active_marked cs)

pub same_marked : (book : Contents) (marks : List Bool) → marks ≡ map (λ (c : BookCon). c.active) book.constraints → marked book marks ≡ book
same_marked book marks e =
    ap (λ (z : List BookCon). record book { constraints = z }) (ap (λ (z : List Bool). with_marks book.constraints z) e ∙ active_marked book.constraints)

-- ---- it is a book

-- what does not speak of activity still holds
all_marked : (P : BookCon → Type 0) → ((c : BookCon) (m : Bool) → P c → P (record c { active = m })) → (cs : List BookCon) (marks : List Bool) → All P cs → All P (with_marks cs marks)
all_marked P still [] marks all = All-nil P
all_marked P still (c ∷ cs) [] all = All-cons P _ (with_marks cs []) (still c _ (All-head P c cs all)) (all_marked P still cs [] (All-tail P c cs all))
all_marked P still (c ∷ cs) (m ∷ marks) all = All-cons P _ (with_marks cs marks) (still c m (All-head P c cs all)) (all_marked P still cs marks (All-tail P c cs all))

tail_pairs : (R : BookCon → BookCon → Type 0) (c : BookCon) (cs : List BookCon) → AllPairs R (c ∷ cs) → AllPairs R cs
tail_pairs R c cs pairs = λ i j d before within. pairs (suc i) (suc j) d (omega (arith, before)) (omega (arith, within))

head_pairs : (R : BookCon → BookCon → Type 0) (c : BookCon) (cs : List BookCon) → AllPairs R (c ∷ cs) → All (R c) cs
head_pairs R c cs pairs = λ k d lt. pairs 0 (suc k) d (omega arith) (omega (arith, lt))

later : (R : BookCon → BookCon → Type 0) → ((c d : BookCon) (m n : Bool) → R c d → R (record c { active = m }) (record d { active = n })) → (c : BookCon) (m : Bool) (cs : List BookCon) (marks : List Bool) → AllPairs R (c ∷ cs) → All (R (record c { active = m })) (with_marks cs marks)
later R still c m cs marks pairs =
    all_marked (R (record c { active = m })) (λ d n r. still (record c { active = m }) d m n r) cs marks
    (All-weaker (R c) (R (record c { active = m })) (λ d r. still c d m d.active r) cs (head_pairs R c cs pairs))

pairs_marked : (R : BookCon → BookCon → Type 0) → ((c d : BookCon) (m n : Bool) → R c d → R (record c { active = m }) (record d { active = n })) → (cs : List BookCon) (marks : List Bool) → AllPairs R cs → AllPairs R (with_marks cs marks)
pairs_marked R still [] marks pairs = pairs
pairs_marked R still (c ∷ cs) [] pairs =
    AllPairs-cons R (record c { active = false }) (with_marks cs []) (later R still c false cs [] pairs) (pairs_marked R still cs [] (tail_pairs R c cs pairs))
pairs_marked R still (c ∷ cs) (m ∷ marks) pairs =
    AllPairs-cons R (record c { active = m }) (with_marks cs marks) (later R still c m cs marks pairs) (pairs_marked R still cs marks (tail_pairs R c cs pairs))

pub marked_is_book : (book : Contents) (marks : List Bool) → IsBook book → IsBook (marked book marks)
marked_is_book book marks is = record {
  few_variables = is.few_variables;
  few_constraints = subst (λ n. n ≤ MOST_CONSTRAINTS) (sym (marked_length book.constraints marks)) is.few_constraints;
  variable_names = is.variable_names;
  values = is.values;
  different_variables = is.different_variables;
  constraint_names = all_marked (λ c. IsNameText c.name) (λ c m e. e) book.constraints marks is.constraint_names;
  different_constraints = pairs_marked (λ c d. c.name ≢ d.name) (λ c d m n e. e) book.constraints marks is.different_constraints;
  rising = pairs_marked (λ c d. c.number < d.number) (λ c d m n e. e) book.constraints marks is.rising;
  formed = all_marked (λ c. IsWellFormed (length book.variables) c.con) (λ c m e. e) book.constraints marks is.formed;
}
