-- One more constraint is marked.
use Rattle.std.proofs.Common.{◌≡◌, ◌<◌, ℕ, zero, suc, Bool, true, false, cond, List, [], ◌∷◌, ◌++◌, filter, get_or, set, length, slice_get, Some, Contains, refl, sym, ap, ◌∙◌, subst, arith, inl, inr}
use Rattle.std.proofs.lemmas.Bool.{false≢true, lt-ltb}
use Rattle.palm_base.proofs.cited.CidOrder.{before_then, not_before_itself}
use Rattle.palm_base.proofs.cited.Members.{filter_member, member_cases, member_here, member_nil, member_there, member_unmap}
use Rattle.palm_base.specs.Order.{cid_before}
use Rattle.palm_base.specs.declared.terms.Cid.{Cid}
use Rattle.palm_base.specs.declared.terms.Cid.TheVariants.{User}
use Rattle.palm_book.specs.Book.{user_at}
use Rattle.palm_book.specs.declared.book.BookCon.{BookCon}
use Rattle.palm_model.specs.Event.{with_posted}
use Rattle.palm_model.specs.Log.{Active, IsActive}
use Rattle.palm_reduce.specs.Marked.{with_marks}
use Rattle.palm_reduce.specs.Walked.{actives}
use Rattle.palm_prefer.proofs.Weighing.{Rising, number_before, same_place}

-- ---- a constraint among others by rising id

not_back : (a b : Cid) → cid_before a b ≡ true → cid_before b a ≡ false
not_back a b e = no (cid_before b a) (λ t. not_before_itself a (before_then a b a e t))
  where
    no : (b : Bool) → (b ≡ true → ⊥) → b ≡ false
    no true h = absurd (h refl)
    no false h = refl

none_pass : (test : Active → Bool) (xs : List Active) → ((b : Active) → Contains xs b → test b ≡ false) → filter test xs ≡ []
none_pass test [] each = refl
none_pass test (x ∷ xs) each =
    ap (λ (b : Bool). cond b (x ∷ filter test xs) (filter test xs)) (each x (member_here x xs)) ∙ none_pass test xs (λ b m. each b (member_there x xs b m))

all_pass : (test : Active → Bool) (xs : List Active) → ((b : Active) → Contains xs b → test b ≡ true) → filter test xs ≡ xs
all_pass test [] each = refl
all_pass test (x ∷ xs) each =
    ap (λ (b : Bool). cond b (x ∷ filter test xs) (filter test xs)) (each x (member_here x xs)) ∙ ap (λ (ys : List Active). x ∷ ys) (all_pass test xs (λ b m. each b (member_there x xs b m)))

-- before all of them
posted_first : (a : Active) (xs : List Active) → ((b : Active) → Contains xs b → cid_before a.cid b.cid ≡ true) → with_posted a xs ≡ a ∷ xs
posted_first a xs each =
    ap (λ (ys : List Active). ys ++ a ∷ filter (λ (b : Active). cid_before a.cid b.cid) xs) (none_pass (λ (b : Active). cid_before b.cid a.cid) xs (λ b m. not_back a.cid b.cid (each b m)))
    ∙ ap (λ (ys : List Active). a ∷ ys) (all_pass (λ (b : Active). cid_before a.cid b.cid) xs each)

-- behind the first of them
posted_later : (a b : Active) (xs : List Active) → cid_before b.cid a.cid ≡ true → with_posted a (b ∷ xs) ≡ b ∷ with_posted a xs
posted_later a b xs e =
    ap (λ (z : Bool). cond z (b ∷ filter (λ (d : Active). cid_before d.cid a.cid) xs) (filter (λ (d : Active). cid_before d.cid a.cid) xs) ++ a ∷ filter (λ (d : Active). cid_before a.cid d.cid) (b ∷ xs)) e
    ∙ ap (λ (z : Bool). b ∷ (filter (λ (d : Active). cid_before d.cid a.cid) xs ++ a ∷ cond z (b ∷ filter (λ (d : Active). cid_before a.cid d.cid) xs) (filter (λ (d : Active). cid_before a.cid d.cid) xs)))
    (not_back b.cid a.cid e)

-- ---- the members

-- a member stands at a place, and its mark is its activity
marked_member : (cs : List BookCon) (marks : List Bool) (d : BookCon) → Contains (with_marks cs marks) d → (i : ℕ) × (c : BookCon) × (slice_get cs i ≡ Some c) × (record c { active = get_or marks i false } ≡ d)
marked_member [] marks d m = absurd (member_nil d m)
marked_member (c ∷ cs) [] d m = elim (member_cases (record c { active = false }) (with_marks cs []) d m) [
  | inl e ↦ (0, c, refl, e)
  | inr k ↦ let r = marked_member cs [] d k in (suc r.0, r.1, r.2, nothing r.0 r.1 d r.3)
]
  where
    nothing : (i : ℕ) (c d : BookCon) → record c { active = get_or [] i false } ≡ d → record c { active = get_or [] (suc i) false } ≡ d
    nothing zero c d e = e
    nothing (suc i) c d e = e
marked_member (c ∷ cs) (m ∷ marks) d h = elim (member_cases (record c { active = m }) (with_marks cs marks) d h) [
  | inl e ↦ (0, c, refl, e)
  | inr k ↦ let r = marked_member cs marks d k in (suc r.0, r.1, r.2, r.3)
]

pub active_member : (cs : List BookCon) (marks : List Bool) (a : Active) → Contains (actives (with_marks cs marks)) a → (i : ℕ) × (c : BookCon) × (slice_get cs i ≡ Some c) × (get_or marks i false ≡ true) × (user_at c ≡ a)
active_member cs marks a m =
    let r = member_unmap user_at (filter (λ (c : BookCon). c.active) (with_marks cs marks)) a m in
    let f = filter_member (λ (c : BookCon). c.active) (with_marks cs marks) r.0 r.1 in
    let s = marked_member cs marks r.0 f.0 in
    (s.0, s.1, s.2, ap (λ (d : BookCon). d.active) s.3 ∙ f.1, ap user_at s.3 ∙ r.2)

-- an unmarked constraint is not among them
pub not_active : (cs : List BookCon) → Rising cs → (marks : List Bool) (p : ℕ) (c : BookCon) → slice_get cs p ≡ Some c → get_or marks p false ≡ false → IsActive (actives (with_marks cs marks)) (user_at c).cid → ⊥
not_active cs rising marks p c at off a =
    let r = active_member cs marks a.owner a.posted in
    let same : User r.1.number ≡ User c.number = ap (λ (z : Active). z.cid) r.4 ∙ a.named in
    let place = same_place cs rising r.0 p r.1 c r.2 at (cc) in
    false≢true (sym off ∙ subst (λ k. get_or marks k false ≡ true) place r.3)

pub unjustified : (cs : List BookCon) (marks : List Bool) (a : Active) → Contains (actives (with_marks cs marks)) a → a.justification ≡ []
unjustified cs marks a m =
    let r = active_member cs marks a m in
    ap (λ (z : Active). z.justification) (sym r.4)

-- ---- one more mark

pub joined : (cs : List BookCon) → Rising cs → (marks : List Bool) (p : ℕ) (c : BookCon) → slice_get cs p ≡ Some c → length marks ≡ length cs → get_or marks p false ≡ false
    → actives (with_marks cs (set marks p true)) ≡ with_posted (user_at c) (actives (with_marks cs marks))
joined [] rising marks p c at whole off = cc
joined (d ∷ cs) rising [] p c at whole off = absurd (omega (arith, whole))
joined (d ∷ cs) rising (true ∷ marks) zero c at whole off = cc
joined (d ∷ cs) rising (false ∷ marks) zero c at whole off =
    let same : d ≡ c = cc in
    ap (λ (z : BookCon). user_at z ∷ actives (with_marks cs marks)) same
    ∙ sym (posted_first (user_at c) (actives (with_marks cs marks)) (λ b m.
    let r = active_member cs marks b m in
    let l = number_before (d ∷ cs) rising 0 (suc r.0) d r.1 refl r.2 (omega arith) in
    subst (λ (z : Active). cid_before (user_at c).cid z.cid ≡ true) r.4 (lt-ltb c.number r.1.number (subst (λ (z : BookCon). z.number < r.1.number) same l))))
joined (d ∷ cs) rising (m ∷ marks) (suc p) c at whole off =
    step m (joined cs (λ i j x before within. rising (suc i) (suc j) x (omega (arith, before)) (omega (arith, within))) marks p c at (omega (arith, whole)) off)
  where
    step : (m : Bool) → actives (with_marks cs (set marks p true)) ≡ with_posted (user_at c) (actives (with_marks cs marks))
        → actives (with_marks (d ∷ cs) (m ∷ set marks p true)) ≡ with_posted (user_at c) (actives (with_marks (d ∷ cs) (m ∷ marks)))
    step true e =
        let l = number_before (d ∷ cs) rising 0 (suc p) d c refl at (omega arith) in
        ap (λ (z : List Active). user_at d ∷ z) e ∙ sym (posted_later (user_at c) (user_at d) (actives (with_marks cs marks)) (lt-ltb d.number c.number l))
    step false e = e
