-- What is preferred is one.
use Rattle.std.proofs.Common.{◌≡◌, suc, List, [], ◌∷◌, ◌++◌, AllPairs, Contains, inl, inr, refl, sym, ap, ◌∙◌, subst, arith}
use Rattle.std.proofs.lemmas.List.Elements.{All-contains}
use Rattle.palm_base.proofs.cited.Members.{member_cases, member_here, member_nil, member_tail, member_there}
use Rattle.palm_base.specs.declared.terms.Cid.{Cid}
use Rattle.palm_book.specs.Book.{Contents, initial_of, user_at}
use Rattle.palm_book.specs.declared.book.BookCon.{BookCon}
use Rattle.palm_laws.proofs.cited.Reducing.{minimal_one}
use Rattle.palm_model.specs.Domains.{Domains}
use Rattle.palm_model.specs.Event.{with_posted}
use Rattle.palm_model.specs.Log.{Active, cids_of}
use Rattle.palm_model.specs.Minimal.{AreConflict, IsMinimalConflict}
use Rattle.palm_prefer.specs.Preferred.{GoesBefore, IsOrder, IsPreferred, Walks, hard}
use Rattle.palm_prefer.specs.Preferred.Walks.{starts, joins, leaves}
use Rattle.palm_prefer.specs.declared.answer.LeftOut.{LeftOut}
use Rattle.palm_prefer.specs.declared.answer.Preferred.{Preferred}
use Rattle.palm_prefer.specs.declared.answer.Preferred.TheVariants.{Hard, Kept}
use Rattle.palm_prefer.specs.declared.weights.Weight.{Weight}

-- ---- related in pairs

-- the first one to each later one
pub pairs_first : {X : Type 0} (R : X → X → Type 0) (x : X) (xs : List X) → AllPairs R (x ∷ xs) → (y : X) → Contains xs y → R x y
pairs_first R x xs pairs y m = All-contains (R x) xs y (λ k d lt. pairs 0 (suc k) d (omega arith) (omega (arith, lt))) m

-- and these among them
pub pairs_rest : {X : Type 0} (R : X → X → Type 0) (x : X) (xs : List X) → AllPairs R (x ∷ xs) → AllPairs R xs
pairs_rest R x xs pairs = λ i j d before within. pairs (suc i) (suc j) d (omega (arith, before)) (omega (arith, within))

-- ---- the order

not_both : (ws : List Weight) (c d : BookCon) → GoesBefore ws c d → GoesBefore ws d c → ⊥
not_both ws c d one two = elim one [
  | inl lt ↦ elim two [ inl gt ↦ omega (arith, lt, gt) | inr same ↦ let e = same.0 in omega (arith, lt, e) ]
  | inr same ↦ elim two [ inl gt ↦ let e = same.0 in omega (arith, gt, e) | inr too ↦ let l = same.1 in let g = too.1 in omega (arith, l, g) ]
]

same_order : (ws : List Weight) (xs ys : List BookCon) → AllPairs (GoesBefore ws) xs → AllPairs (GoesBefore ws) ys → ((c : BookCon) → Contains xs c → Contains ys c) → ((c : BookCon) → Contains ys c → Contains xs c) → xs ≡ ys
same_order ws [] [] fall too to back = refl
same_order ws [] (y ∷ ys) fall too to back = absurd (member_nil y (back y (member_here y ys)))
same_order ws (x ∷ xs) [] fall too to back = absurd (member_nil x (to x (member_here x xs)))
same_order ws (x ∷ xs) (y ∷ ys) fall too to back =
    let first : x ≡ y = elim (member_cases y ys x (to x (member_here x xs))) [
      | inl e ↦ sym e
      | inr m ↦ elim (member_cases x xs y (back y (member_here y ys))) [
        | inl e ↦ e
        | inr n ↦ absurd (not_both ws x y (pairs_first (GoesBefore ws) x xs fall y n) (pairs_first (GoesBefore ws) y ys too x m))
      ]
    ] in
    ap (λ (z : BookCon). z ∷ xs) first
    ∙ ap (λ (zs : List BookCon). y ∷ zs) (same_order ws xs ys (pairs_rest (GoesBefore ws) x xs fall) (pairs_rest (GoesBefore ws) y ys too)
    (λ c m. member_tail y ys c (λ e. let b = pairs_first (GoesBefore ws) x xs fall c m in let s = subst (λ (z : BookCon). GoesBefore ws z c) (first ∙ e) b in not_both ws c c s s) (to c (member_there x xs c m)))
    (λ c m. member_tail x xs c (λ e. let b = pairs_first (GoesBefore ws) y ys too c m in let s = subst (λ (z : BookCon). GoesBefore ws z c) (sym first ∙ e) b in not_both ws c c s s) (back c (member_there y ys c m))))

pub one_order : (book : Contents) (ws : List Weight) (order other : List BookCon) → IsOrder book ws order → IsOrder book ws other → order ≡ other
one_order book ws order other is too =
    same_order ws order other is.falling too.falling (λ c m. (too.each c).1 ((is.each c).0 m)) (λ c m. (is.each c).1 ((too.each c).0 m))

-- ---- the walk

last_same : (xs ys : List BookCon) (x y : BookCon) → xs ++ x ∷ [] ≡ ys ++ y ∷ [] → (xs ≡ ys) × (x ≡ y)
last_same [] [] x y e = (refl, cc)
last_same [] (b ∷ []) x y e = cc
last_same [] (b ∷ c ∷ ys) x y e = cc
last_same (a ∷ []) [] x y e = cc
last_same (a ∷ b ∷ xs) [] x y e = cc
last_same (a ∷ xs) (b ∷ ys) x y e =
    let head : a ≡ b = cc in
    let tails : xs ++ x ∷ [] ≡ ys ++ y ∷ [] = cc in
    let r = last_same xs ys x y tails in
    (ap (λ (z : BookCon). z ∷ xs) head ∙ ap (λ (zs : List BookCon). b ∷ zs) r.0, r.1)

none_last : (xs : List BookCon) (x : BookCon) → [] ≡ xs ++ x ∷ [] → ⊥
none_last [] x e = cc
none_last (a ∷ xs) x e = cc

abbrev Same : List Active → List Active → List LeftOut → List LeftOut → Type 0
Same kept other left others = (kept ≡ other) × (left ≡ others)

one_walk : (initial : Domains) (first : List Active) (walked also : List BookCon) (kept other : List Active) (left others : List LeftOut)
    → Walks initial first walked kept left → Walks initial first also other others → walked ≡ also → Same kept other left others
one_walk initial first _ _ _ _ _ _ starts starts e = (refl, refl)
one_walk initial first _ _ _ _ _ _ starts (joins walked c kept left before none) e = absurd (none_last walked c e)
one_walk initial first _ _ _ _ _ _ starts (leaves walked c kept left conflict before minimal) e = absurd (none_last walked c e)
one_walk initial first _ _ _ _ _ _ (joins walked c kept left before none) starts e = absurd (none_last walked c (sym e))
one_walk initial first _ _ _ _ _ _ (leaves walked c kept left conflict before minimal) starts e = absurd (none_last walked c (sym e))
one_walk initial first _ _ _ _ _ _ (joins walked c kept left before none) (joins also d other others too never) e =
    let l = last_same walked also c d e in
    let r = one_walk initial first walked also kept other left others before too l.0 in
    (ap (λ (z : BookCon). with_posted (user_at z) kept) l.1 ∙ ap (λ (z : List Active). with_posted (user_at d) z) r.0, r.1)
one_walk initial first _ _ _ _ _ _ (joins walked c kept left before none) (leaves also d other others conflict too minimal) e =
    let l = last_same walked also c d e in
    let r = one_walk initial first walked also kept other left others before too l.0 in
    absurd (none (subst (λ (z : List Active). AreConflict initial z)
    (sym (ap (λ (z : BookCon). with_posted (user_at z) kept) l.1 ∙ ap (λ (z : List Active). with_posted (user_at d) z) r.0)) minimal.holds))
one_walk initial first _ _ _ _ _ _ (leaves walked c kept left conflict before minimal) (joins also d other others too never) e =
    let l = last_same walked also c d e in
    let r = one_walk initial first walked also kept other left others before too l.0 in
    absurd (never (subst (λ (z : List Active). AreConflict initial z)
    (ap (λ (z : BookCon). with_posted (user_at z) kept) l.1 ∙ ap (λ (z : List Active). with_posted (user_at d) z) r.0) minimal.holds))
one_walk initial first _ _ _ _ _ _ (leaves walked c kept left conflict before minimal) (leaves also d other others conflict2 too minimal2) e =
    let l = last_same walked also c d e in
    let r = one_walk initial first walked also kept other left others before too l.0 in
    let same = ap (λ (z : BookCon). with_posted (user_at z) kept) l.1 ∙ ap (λ (z : List Active). with_posted (user_at d) z) r.0 in
    let conflicts = minimal_one (AreConflict initial) (with_posted (user_at d) other) conflict conflict2 (subst (λ (z : List Active). IsMinimalConflict initial z conflict) same minimal) minimal2 in
    let one : LeftOut = record { number = c.number; conflict = conflict } in
    let two : LeftOut = record { number = d.number; conflict = conflict2 } in
    let outs : one ≡ two = ap (λ (z : BookCon). record { number = z.number; conflict = conflict }) l.1 ∙ ap (λ (z : List Cid). record { number = d.number; conflict = z }) conflicts in
    (r.0, ap (λ (z : List LeftOut). z ++ one ∷ []) r.1 ∙ ap (λ (z : LeftOut). others ++ z ∷ []) outs)

pub one_answer : (book : Contents) (weights : List Weight) (preferred other : Preferred) → IsPreferred book weights preferred → IsPreferred book weights other → preferred ≡ other
one_answer book weights (Hard conflict) (Hard conflict2) is too = ap Hard (minimal_one (AreConflict (initial_of book)) (hard book weights) conflict conflict2 is too)
one_answer book weights (Hard conflict) (Kept keep left) is too = absurd (too.free is.holds)
one_answer book weights (Kept keep left) (Hard conflict) is too = absurd (is.free too.holds)
one_answer book weights (Kept keep left) (Kept keep2 left2) is too =
    let r = one_walk (initial_of book) (hard book weights) is.order too.order is.kept too.kept left left2 is.walk too.walk (one_order book weights is.order too.order is.ordered too.ordered) in
    ap (λ (z : List Cid). Kept z left) (is.named ∙ ap (λ (z : List Active). cids_of z) r.0 ∙ sym too.named) ∙ ap (λ (z : List LeftOut). Kept keep2 z) r.1
