-- Which constraints have a weight.
use Rattle.std.proofs.Common.{◌≡◌, ◌≢◌, ◌+◌, ◌<◌, ◌==◌, ◌&&◌, ◌||◌, not, ℕ, zero, suc, Bool, true, false, cond, List, [], ◌∷◌, ◌++◌, map, filter, take, get_or, set, length, slice_get, Some, Option, IfSome, All, AllPairs, Contains, refl, sym, ap, ◌∙◌, subst, arith, eq-eqb, eqb-true, inl, inr}
use Rattle.std.proofs.lemmas.Bool.{cases_lt}
use Rattle.std.proofs.lemmas.List.{get_or-take, get_or_default, length-take, take_more}
use Rattle.std.proofs.lemmas.List.Elements.{All-contains}
use Rattle.std.proofs.lemmas.List.Folds.{list_any-append}
use Rattle.std.proofs.lemmas.Option.{get_or_from_slice_get, slice_get-get_or, slice_get_within}
use Rattle.palm_base.proofs.cited.Members.{map_agree, member_cases, member_here, member_nil, member_there}
use Rattle.palm_book.specs.Book.{user_at}
use Rattle.palm_book.specs.declared.book.BookCon.{BookCon}
use Rattle.palm_model.specs.Log.{Active}
use Rattle.palm_reduce.specs.Marked.{with_marks}
use Rattle.palm_reduce.specs.Walked.{actives}
use Rattle.palm_prefer.specs.Preferred.{has_weight, is_hard, weight_of}
use Rattle.palm_prefer.specs.Walked.{con_at}
use Rattle.palm_prefer.specs.declared.weights.Weight.{Weight}

-- ---- constraints by rising number

abbrev pub Rising : List BookCon → Type 0
Rising cs = AllPairs (λ (c d : BookCon). c.number < d.number) cs

pub number_before : (cs : List BookCon) → Rising cs → (i j : ℕ) (c d : BookCon) → slice_get cs i ≡ Some c → slice_get cs j ≡ Some d → i < j → c.number < d.number
number_before cs rising i j c d at too lt =
    subst (λ (z : BookCon). z.number < d.number) (get_or_from_slice_get cs i c c at)
    (subst (λ (z : BookCon). (get_or cs i c).number < z.number) (get_or_from_slice_get cs j d c too) (rising i j c lt (slice_get_within cs j d too)))

-- one number stands at one place
pub same_place : (cs : List BookCon) → Rising cs → (i j : ℕ) (c d : BookCon) → slice_get cs i ≡ Some c → slice_get cs j ≡ Some d → c.number ≡ d.number → i ≡ j
same_place cs rising i j c d at too same = elim (cases_lt i j) [
  | inl lt ↦ let l = number_before cs rising i j c d at too lt in absurd (omega (arith, l, same))
  | inr ge ↦ elim (cases_lt j i) [
    | inl lt ↦ let l = number_before cs rising j i d c too at lt in absurd (omega (arith, l, same))
    | inr le ↦ omega (arith, ge, le)
  ]
]

pub same_con : (cs : List BookCon) → Rising cs → (i j : ℕ) (c d : BookCon) → slice_get cs i ≡ Some c → slice_get cs j ≡ Some d → c.number ≡ d.number → c ≡ d
same_con cs rising i j c d at too same =
    let e = same_place cs rising i j c d at too same in
    sym (get_or_from_slice_get cs i c c at) ∙ get_or_from_slice_get cs i d c (subst (λ k. slice_get cs k ≡ Some d) (sym e) too)

pub entry_within : (cs : List BookCon) (i : ℕ) → i < length cs → (c : BookCon) × (slice_get cs i ≡ Some c)
entry_within [] i lt = absurd (omega (arith, lt))
entry_within (c ∷ cs) zero lt = (c, refl)
entry_within (c ∷ cs) (suc i) lt = entry_within cs i (omega (arith, lt))

-- what is said of the constraint at a place
pub at_number : (cs : List BookCon) (i : ℕ) (c : BookCon) (n : ℕ) → slice_get cs i ≡ Some c → IfSome (slice_get cs i) (λ d. d.number ≡ n) → c.number ≡ n
at_number cs i c n at is = subst (λ (o : Option BookCon). IfSome o (λ d. d.number ≡ n)) at is

pub con_is : (cs : List BookCon) (i : ℕ) → i < length cs → slice_get cs i ≡ Some (con_at cs i)
con_is cs i lt = slice_get-get_or cs i _ lt

-- ---- one more weight

eqb_false : (m n : ℕ) → (m ≡ n → ⊥) → (m == n) ≡ false
eqb_false m n ne = no (m == n) (λ t. ne (eqb-true m n t))
  where
    no : (b : Bool) → (b ≡ true → ⊥) → b ≡ false
    no true h = absurd (h refl)
    no false h = refl

and_false : (b : Bool) → (b && false) ≡ false
and_false true = refl
and_false false = refl

or_false : (b : Bool) → (b || false) ≡ b
or_false true = refl
or_false false = refl

or_true : (b : Bool) → (b || true) ≡ true
or_true true = refl
or_true false = refl

one_weight : (w : Weight) (c : BookCon) (b : Bool) → (w.number == c.number) ≡ b → has_weight (w ∷ []) c ≡ b
one_weight w c b e = ap (λ (z : Bool). z || false) e ∙ or_false b

pub hard_other : (ws : List Weight) (w : Weight) (c : BookCon) → (c.number ≡ w.number → ⊥) → is_hard ws c ≡ is_hard (ws ++ w ∷ []) c
hard_other ws w c ne =
    ap (λ (z : Bool). c.active && not z)
    (sym (list_any-append (λ (v : Weight). v.number == c.number) ws (w ∷ []) ∙ ap (λ (z : Bool). has_weight ws c || z) (one_weight w c false (eqb_false w.number c.number (λ e. ne (sym e)))) ∙ or_false (has_weight ws c)))

pub hard_found : (ws : List Weight) (w : Weight) (c : BookCon) → c.number ≡ w.number → false ≡ is_hard (ws ++ w ∷ []) c
hard_found ws w c e =
    sym (ap (λ (z : Bool). c.active && not z)
    (list_any-append (λ (v : Weight). v.number == c.number) ws (w ∷ []) ∙ ap (λ (z : Bool). has_weight ws c || z) (one_weight w c true (eq-eqb w.number c.number (sym e))) ∙ or_true (has_weight ws c))
    ∙ and_false c.active)

pub hard_others : (cs : List BookCon) (ws : List Weight) (w : Weight) → All (λ c. c.number ≢ w.number) cs → map (is_hard ws) cs ≡ map (is_hard (ws ++ w ∷ [])) cs
hard_others cs ws w all = map_agree (is_hard ws) (is_hard (ws ++ w ∷ [])) cs (λ c m. hard_other ws w c (All-contains (λ (d : BookCon). d.number ≢ w.number) cs c all m))

pub hard_next : (cs : List BookCon) → Rising cs → (ws : List Weight) (w : Weight) (p : ℕ) (c : BookCon) → slice_get cs p ≡ Some c → c.number ≡ w.number
    → set (map (is_hard ws) cs) p false ≡ map (is_hard (ws ++ w ∷ [])) cs
hard_next [] rising ws w p c at e = cc
hard_next (d ∷ cs) rising ws w zero c at e =
    let same : d ≡ c = cc in
    ap (λ (z : Bool). z ∷ map (is_hard ws) cs) (hard_found ws w d (ap (λ (z : BookCon). z.number) same ∙ e))
    ∙ ap (λ (zs : List Bool). is_hard (ws ++ w ∷ []) d ∷ zs)
    (hard_others cs ws w (λ k x lt n. let l = rising 0 (suc k) x (omega arith) (omega (arith, lt)) in let s = ap (λ (z : BookCon). z.number) same in omega (arith, l, s, e, n)))
hard_next (d ∷ cs) rising ws w (suc p) c at e =
    let l = number_before (d ∷ cs) rising 0 (suc p) d c refl at (omega arith) in
    ap (λ (z : Bool). z ∷ set (map (is_hard ws) cs) p false) (hard_other ws w d (λ n. omega (arith, l, e, n)))
    ∙ ap (λ (zs : List Bool). is_hard (ws ++ w ∷ []) d ∷ zs)
    (hard_next cs (λ i j x before within. rising (suc i) (suc j) x (omega (arith, before)) (omega (arith, within))) ws w p c at e)

-- no earlier weight is of the same constraint
pub earlier_differ : (ws : List Weight) → AllPairs (λ v w. v.number ≢ w.number) ws → (i : ℕ) (d : Weight) → i < length ws → (v : Weight) → Contains (take i ws) v → v.number ≡ (get_or ws i d).number → ⊥
earlier_differ ws different i d lt v m e =
    let short : m.0 < i = omega (arith, m.1, length-take i ws) in
    different m.0 i v short lt
    (ap (λ (w : Weight). w.number) (sym (get_or-take i ws m.0 v short) ∙ m.2) ∙ e ∙ ap (λ (w : Weight). w.number) (get_or_default ws i d v lt))

-- a loop over the weights takes one more
pub next_weight : (ws : List Weight) (i : ℕ) (d : Weight) → i < length ws → take (i + 1) ws ≡ take i ws ++ get_or ws i d ∷ []
next_weight ws i d lt = take_more ws i d lt

pub hard_step : (cs : List BookCon) → Rising cs → (ws : List Weight) (w : Weight) (more : List Weight) (marks now : List Bool) (p : ℕ) → more ≡ ws ++ w ∷ [] → marks ≡ map (is_hard ws) cs
    → IfSome (slice_get cs p) (λ c. c.number ≡ w.number) → p < length cs → now ≡ set marks p false → now ≡ map (is_hard more) cs
hard_step cs rising ws w more marks now p e is found lt set_is =
    let r = entry_within cs p lt in
    set_is ∙ ap (λ (z : List Bool). set z p false) is ∙ hard_next cs rising ws w p r.0 r.1 (at_number cs p r.0 w.number r.1 found) ∙ ap (λ (z : List Weight). map (is_hard z) cs) (sym e)

pub hard_skip : (cs : List BookCon) (ws : List Weight) (w : Weight) (more : List Weight) (marks now : List Bool) → more ≡ ws ++ w ∷ [] → marks ≡ map (is_hard ws) cs
    → All (λ c. c.number ≢ w.number) cs → now ≡ marks → now ≡ map (is_hard more) cs
hard_skip cs ws w more marks now e is none same = same ∙ is ∙ hard_others cs ws w none ∙ ap (λ (z : List Weight). map (is_hard z) cs) (sym e)

-- the marked ones are the hard ones
pub hard_marked : (cs : List BookCon) (ws : List Weight) → actives (with_marks cs (map (is_hard ws) cs)) ≡ map user_at (filter (is_hard ws) cs)
hard_marked [] ws = refl
hard_marked (c ∷ cs) ws =
    both (is_hard ws c) (is_hard ws c) (filter (λ (d : BookCon). d.active) (with_marks cs (map (is_hard ws) cs))) (filter (is_hard ws) cs) (hard_marked cs ws)
  where
    both : (b m : Bool) (xs ys : List BookCon) → map user_at xs ≡ map user_at ys → map user_at (cond b (record c { active = m } ∷ xs) xs) ≡ map user_at (cond b (c ∷ ys) ys)
    both true m xs ys e = ap (λ (z : List Active). user_at c ∷ z) e
    both false m xs ys e = e

-- ---- the weight of a constraint

pub weight_there : (ws : List Weight) (c : BookCon) (w : Weight) → Contains ws w → w.number ≡ c.number → has_weight ws c ≡ true
weight_there [] c w m e = absurd (member_nil w m)
weight_there (v ∷ ws) c w m e = elim (member_cases v ws w m) [
  | inl s ↦ ap (λ (z : Bool). z || has_weight ws c) (eq-eqb v.number c.number (ap (λ (z : Weight). z.number) s ∙ e))
  | inr k ↦ ap (λ (z : Bool). (v.number == c.number) || z) (weight_there ws c w k e) ∙ or_true (v.number == c.number)
]

pub weight_found : (ws : List Weight) (c : BookCon) → has_weight ws c ≡ true → (w : Weight) × Contains ws w × (w.number ≡ c.number)
weight_found [] c e = cc
weight_found (v ∷ ws) c e = first (v.number == c.number) refl (λ f. weight_found ws c (sym (ap (λ (z : Bool). z || has_weight ws c) f) ∙ e))
  where
    first : (b : Bool) → (v.number == c.number) ≡ b → ((v.number == c.number) ≡ false → (w : Weight) × Contains ws w × (w.number ≡ c.number)) → (w : Weight) × Contains (v ∷ ws) w × (w.number ≡ c.number)
    first true t later = (v, member_here v ws, eqb-true v.number c.number t)
    first false f later = let r = later f in (r.0, member_there v ws r.0 r.1, r.2)

pub weighed_soft : (ws : List Weight) (c : BookCon) → has_weight ws c ≡ true → is_hard ws c ≡ false
weighed_soft ws c e = ap (λ (b : Bool). c.active && not b) e ∙ and_false c.active

-- with different numbers it is the weight of each of them
pub weighs : (ws : List Weight) → AllPairs (λ v w. v.number ≢ w.number) ws → (c : BookCon) (w : Weight) → Contains ws w → w.number ≡ c.number → weight_of ws c ≡ w.weight
weighs [] different c w m e = absurd (member_nil w m)
weighs (v ∷ ws) different c w m e = elim (member_cases v ws w m) [
  | inl s ↦ ap (λ (b : Bool). cond b v.weight (weight_of ws c)) (eq-eqb v.number c.number (ap (λ (z : Weight). z.number) s ∙ e)) ∙ ap (λ (z : Weight). z.weight) s
  | inr k ↦
      let apart = All-contains (λ (u : Weight). v.number ≢ u.number) ws w (λ i d lt. different 0 (suc i) d (omega arith) (omega (arith, lt))) k in
      ap (λ (b : Bool). cond b v.weight (weight_of ws c)) (eqb_false v.number c.number (λ n. apart (n ∙ sym e)))
      ∙ weighs ws (λ i j d before within. different (suc i) (suc j) d (omega (arith, before)) (omega (arith, within))) c w k e
]
