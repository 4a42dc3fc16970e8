-- Something is preferred: the constraints with a weight have an order, and a walk over them gets past each.
use Rattle.std.proofs.Common.{◌≡◌, ◌<◌, ◌&&◌, Bool, List, [], ◌∷◌, ◌++◌, filter, AllPairs, Contains, ◌⊎◌, inl, inr, refl, sym, ap, ◌∙◌, subst, arith, append_assoc, append-nil}
use Rattle.std.specs.Prelude.{◌↔◌}
use Rattle.std.proofs.lemmas.Bool.{and_parts, cases_lt}
use Rattle.std.proofs.lemmas.List.Elements.{All-nil}
use Rattle.std.proofs.lemmas.List.Kept.{AllPairs-cons, AllPairs-filter}
use Rattle.palm_base.proofs.cited.Members.{all_members, filter_member, member_cases, member_filter, member_here, member_same, member_there}
use Rattle.palm_book.proofs.cited.Actives.{initial_ascend}
use Rattle.palm_book.specs.Book.{Contents, IsBook, initial_of, user_at}
use Rattle.palm_book.specs.declared.book.BookCon.{BookCon}
use Rattle.palm_laws.proofs.cited.Growing.{conflict_known}
use Rattle.palm_laws.proofs.cited.Reducing.{minimal_some}
use Rattle.palm_model.specs.Domains.{AllAscend, Domains}
use Rattle.palm_model.specs.Event.{with_posted}
use Rattle.palm_model.specs.Log.{Active, cids_of}
use Rattle.palm_model.specs.Minimal.{AreConflict}
use Rattle.palm_prefer.specs.Preferred.{GoesBefore, IsOrder, IsPreferred, Walks, hard, has_weight, weight_of}
use Rattle.palm_prefer.specs.Preferred.Walks.{starts, joins, leaves}
use Rattle.palm_prefer.specs.declared.answer.LeftOut.{LeftOut}
use Rattle.palm_prefer.specs.declared.answer.Preferred.{Preferred}
use Rattle.palm_prefer.specs.declared.answer.Preferred.TheVariants.{Hard, Kept}
use Rattle.palm_prefer.specs.declared.weights.Weight.{Weight}
use Rattle.palm_prefer.proofs.cited.Uniqueness.{pairs_first, pairs_rest}

-- ---- the order

-- of two constraints with different numbers one goes before the other
one_before : (ws : List Weight) (c d : BookCon) → (c.number ≡ d.number → ⊥) → GoesBefore ws c d ⊎ GoesBefore ws d c
one_before ws c d apart = elim (cases_lt (weight_of ws d) (weight_of ws c)) [
  | inl more ↦ inl (inl more)
  | inr le ↦ elim (cases_lt (weight_of ws c) (weight_of ws d)) [
    | inl less ↦ inr (inl less)
    | inr ge ↦
        let same : weight_of ws c ≡ weight_of ws d = omega (arith, le, ge) in
        elim (cases_lt c.number d.number) [
          | inl lower ↦ inl (inr (same, lower))
          | inr up ↦ elim (cases_lt d.number c.number) [
            | inl higher ↦ inr (inr (sym same, higher))
            | inr down ↦ absurd (apart (omega (arith, up, down)))
          ]
        ]
  ]
]

before_both : (ws : List Weight) (c d e : BookCon) → GoesBefore ws c d → GoesBefore ws d e → GoesBefore ws c e
before_both ws c d e one two = elim one [
  | inl lt ↦ elim two [ inl l ↦ inl (omega (arith, lt, l)) | inr r ↦ let s = r.0 in inl (omega (arith, lt, s)) ]
  | inr q ↦ elim two [
    | inl l ↦ let s = q.0 in inl (omega (arith, l, s))
    | inr r ↦ let l = q.1 in let k = r.1 in inr (q.0 ∙ r.0, omega (arith, l, k))
  ]
]

-- the same constraints, each before all later ones
record IsFalling (ws : List Weight) (cs order : List BookCon) : Type 0 where
  same : (c : BookCon) → Contains order c ↔ Contains cs c
  falling : AllPairs (GoesBefore ws) order

-- one more constraint at its place
inserted : (ws : List Weight) (c : BookCon) (cs : List BookCon) → AllPairs (GoesBefore ws) cs → ((d : BookCon) → Contains cs d → c.number ≡ d.number → ⊥) → (order : List BookCon) × IsFalling ws (c ∷ cs) order
inserted ws c [] falling apart = (c ∷ [], record { same = λ d. (λ m. m, λ m. m); falling = AllPairs-cons (GoesBefore ws) c [] (All-nil (GoesBefore ws c)) falling })
inserted ws c (x ∷ cs) falling apart = elim (one_before ws c x (apart x (member_here x cs))) [
  | inl first ↦ (
    c ∷ x ∷ cs,
    record {
      same = λ d. (λ m. m, λ m. m);
      falling = AllPairs-cons (GoesBefore ws) c (x ∷ cs)
          (all_members (GoesBefore ws c) (x ∷ cs) (λ d m. elim (member_cases x cs d m) [
            | inl e ↦ subst (GoesBefore ws c) e first
            | inr k ↦ before_both ws c x d first (pairs_first (GoesBefore ws) x cs falling d k)
          ])) falling;
    },
  )
  | inr behind ↦
      let r = inserted ws c cs (pairs_rest (GoesBefore ws) x cs falling) (λ d m. apart d (member_there x cs d m)) in (
        x ∷ r.0,
        record {
          same = λ d. (
            λ m. elim (member_cases x r.0 d m) [
              | inl e ↦ member_there c (x ∷ cs) d (member_same (x ∷ cs) x d e (member_here x cs))
              | inr k ↦ elim (member_cases c cs d ((r.1.same d).0 k)) [
                | inl e ↦ member_same (c ∷ x ∷ cs) c d e (member_here c (x ∷ cs))
                | inr n ↦ member_there c (x ∷ cs) d (member_there x cs d n)
              ]
            ],
            λ m. elim (member_cases c (x ∷ cs) d m) [
              | inl e ↦ member_there x r.0 d ((r.1.same d).1 (member_same (c ∷ cs) c d e (member_here c cs)))
              | inr k ↦ elim (member_cases x cs d k) [
                | inl e ↦ member_same (x ∷ r.0) x d e (member_here x r.0)
                | inr n ↦ member_there x r.0 d ((r.1.same d).1 (member_there c cs d n))
              ]
            ],
          );
          falling = AllPairs-cons (GoesBefore ws) x r.0
              (all_members (GoesBefore ws x) r.0 (λ d m. elim (member_cases c cs d ((r.1.same d).0 m)) [
                | inl e ↦ subst (GoesBefore ws x) e behind
                | inr k ↦ pairs_first (GoesBefore ws) x cs falling d k
              ])) r.1.falling;
        },
      )
]

falling_some : (ws : List Weight) (cs : List BookCon) → AllPairs (λ (c d : BookCon). c.number < d.number) cs → (order : List BookCon) × IsFalling ws cs order
falling_some ws [] rising = ([], record { same = λ d. (λ m. m, λ m. m); falling = λ i j d before within. absurd (omega (arith, within)) })
falling_some ws (c ∷ cs) rising =
    let r = falling_some ws cs (pairs_rest (λ (x y : BookCon). x.number < y.number) c cs rising) in
    let s = inserted ws c r.0 r.1.falling (λ d m e. let l = pairs_first (λ (x y : BookCon). x.number < y.number) c cs rising d ((r.1.same d).0 m) in omega (arith, l, e)) in (
      s.0,
      record {
        same = λ d. (
          λ m. elim (member_cases c r.0 d ((s.1.same d).0 m)) [
            | inl e ↦ member_same (c ∷ cs) c d e (member_here c cs)
            | inr k ↦ member_there c cs d ((r.1.same d).0 k)
          ],
          λ m. (s.1.same d).1 (elim (member_cases c cs d m) [
            | inl e ↦ member_same (c ∷ r.0) c d e (member_here c r.0)
            | inr k ↦ member_there c r.0 d ((r.1.same d).1 k)
          ]),
        );
        falling = s.1.falling;
      },
    )

pub order_exists : (book : Contents) (weights : List Weight) → IsBook book → (order : List BookCon) × IsOrder book weights order
order_exists book weights is =
    let soft : BookCon → Bool = λ c. c.active && has_weight weights c in
    let r = falling_some weights (filter soft book.constraints) (AllPairs-filter (λ (c d : BookCon). c.number < d.number) soft book.constraints is.rising) in (
      r.0,
      record {
        each = λ c. (
          λ m.
              let f = filter_member soft book.constraints c ((r.1.same c).0 m) in
              let both = and_parts c.active (has_weight weights c) f.1 in
              record { among = f.0; active = both.0; weighed = both.1 },
          λ is_soft. (r.1.same c).1 (member_filter soft book.constraints c is_soft.among (ap (λ (b : Bool). b && has_weight weights c) is_soft.active ∙ is_soft.weighed)),
        );
        falling = r.1.falling;
      },
    )

-- ---- the walk

module _ (initial : Domains) (ascend : AllAscend initial) (first : List Active) where
  -- a walk that goes on leads somewhere
  abbrev Ends : List BookCon → Type 0
  Ends walked = (kept : List Active) × (left : List LeftOut) × Walks initial first walked kept left

  walk_on : (walked later : List BookCon) (kept : List Active) (left : List LeftOut) → Walks initial first walked kept left → Ends (walked ++ later)
  walk_on walked [] kept left walk = subst Ends (sym (append-nil walked)) (kept, left, walk)
  walk_on walked (c ∷ later) kept left walk = subst Ends (append_assoc walked (c ∷ []) later)
      (elim (conflict_known initial ascend (with_posted (user_at c) kept)) [
        | inl holds ↦
            let m = minimal_some (AreConflict initial) (conflict_known initial ascend) (with_posted (user_at c) kept) holds in
            walk_on (walked ++ c ∷ []) later kept (left ++ record { number = c.number; conflict = m.0 } ∷ []) (leaves walked c kept left m.0 walk m.1)
        | inr none ↦ walk_on (walked ++ c ∷ []) later (with_posted (user_at c) kept) left (joins walked c kept left walk none)
      ])

-- ---- both

pub preferred_exists : (book : Contents) (weights : List Weight) → IsBook book → (preferred : Preferred) × IsPreferred book weights preferred
preferred_exists book weights is =
    let initial = initial_of book in
    let ascend = initial_ascend book is in
    elim (conflict_known initial ascend (hard book weights)) [
      | inl holds ↦ let m = minimal_some (AreConflict initial) (conflict_known initial ascend) (hard book weights) holds in (Hard m.0, m.1)
      | inr free ↦
          let o = order_exists book weights is in
          let w = walk_on initial ascend (hard book weights) [] o.0 (hard book weights) [] starts in
          (Kept (cids_of w.0) w.1, record { free = free; order = o.0; ordered = o.1; kept = w.0; walk = w.2; named = refl })
    ]
