-- The ids of the constraints at marked places.
use Rattle.std.proofs.Common.{◌≡◌, ◌+◌, ◌≤◌, ℕ, Bool, true, false, List, [], ◌∷◌, ◌++◌, map, filter, take, get_or, length, slice_get, Some, ap, ◌∙◌, arith, append-nil}
use Rattle.std.proofs.lemmas.List.{map-append, take_all, take_more}
use Rattle.std.proofs.lemmas.List.Elements.{filter-append}
use Rattle.std.proofs.lemmas.Option.{get_or_from_slice_get, slice_get_within}
use Rattle.palm_base.specs.declared.terms.Cid.TheVariants.{User}
use Rattle.palm_book.specs.Book.{user_at}
use Rattle.palm_book.specs.declared.book.BookCon.{BookCon}
use Rattle.palm_model.specs.Log.{Active, cids_of}
use Rattle.palm_reduce.specs.Marked.{with_marks}
use Rattle.palm_reduce.specs.Walked.{actives}
use Rattle.palm_reduce.proofs.cited.Marking.{marked_here, marked_length}

actives_joined : (xs ys : List BookCon) → actives (xs ++ ys) ≡ actives xs ++ actives ys
actives_joined xs ys =
    ap (λ (z : List BookCon). map user_at z) (filter-append (λ (c : BookCon). c.active) xs ys)
    ∙ map-append user_at (filter (λ (c : BookCon). c.active) xs) (filter (λ (c : BookCon). c.active) ys)

before_next : (cs : List BookCon) (i : ℕ) (c : BookCon) → slice_get cs i ≡ Some c → take (i + 1) cs ≡ take i cs ++ c ∷ []
before_next cs i c at = take_more cs i c (slice_get_within cs i c at) ∙ ap (λ (d : BookCon). take i cs ++ d ∷ []) (get_or_from_slice_get cs i c c at)

module _ (cs : List BookCon) (marks : List Bool) (i : ℕ) (c : BookCon) (at : slice_get cs i ≡ Some c) (whole : length marks ≡ length cs) where
  next : (b : Bool) → get_or marks i false ≡ b → actives (take (i + 1) (with_marks cs marks)) ≡ actives (take i (with_marks cs marks)) ++ actives (record c { active = b } ∷ [])
  next b is =
      ap actives (before_next (with_marks cs marks) i (record c { active = b }) (marked_here cs marks i c b whole at is))
      ∙ actives_joined (take i (with_marks cs marks)) (record c { active = b } ∷ [])

  pub marked_more : get_or marks i false ≡ true → cids_of (actives (take (i + 1) (with_marks cs marks))) ≡ cids_of (actives (take i (with_marks cs marks))) ++ User c.number ∷ []
  marked_more on =
      ap (λ (z : List Active). cids_of z) (next true on)
      ∙ map-append (λ (a : Active). a.cid) (actives (take i (with_marks cs marks))) (user_at c ∷ [])

  pub marked_same : get_or marks i false ≡ false → cids_of (actives (take (i + 1) (with_marks cs marks))) ≡ cids_of (actives (take i (with_marks cs marks)))
  marked_same off = ap (λ (z : List Active). cids_of z) (next false off ∙ append-nil (actives (take i (with_marks cs marks))))

pub marked_whole : (cs : List BookCon) (marks : List Bool) (i : ℕ) → length cs ≤ i → actives (take i (with_marks cs marks)) ≡ actives (with_marks cs marks)
marked_whole cs marks i le = ap actives (take_all i (with_marks cs marks) (omega (arith, marked_length cs marks, le)))
