-- Which constraints are pending while one of them is being revised.
use Rattle.std.proofs.Common.{◌≡◌, ℕ, Bool, true, false, List, [], ◌∷◌, Contains, ◌⊎◌, inl, inr, refl, sym, ap, ◌∙◌, subst}
use Rattle.std.specs.List.{list_any}
use Rattle.std.proofs.lemmas.Bool.{or_cases}
use Rattle.palm_base.specs.declared.terms.Cid.{Cid}
use Rattle.palm_base.proofs.cited.Members.{member_nil, member_here, member_there, member_cases, member_single, member_same, filter_agree_members}
use Rattle.palm_model.specs.Constraint.{scope}
use Rattle.palm_model.specs.Log.{Active, cids_of, is_named}
use Rattle.palm_model.specs.State.{is_over, is_awake, woken, without_cid}
use Rattle.palm_model.proofs.cited.Supports.{any_member}
use Rattle.palm_base.proofs.cited.CidOrder.{cid_known}
use Rattle.palm_events.proofs.cited.Names.{named_member}
use Rattle.palm_events.proofs.cited.States.{over_member, awake_named, awake_over, woken_active, member_woken, without_cid_member, member_without_cid}

-- the constraint was pending, or is over one of the variables
abbrev pub IsAwake : List Cid → List ℕ → Active → Type 0
IsAwake pending vars a = Contains pending a.cid ⊎ ((x : ℕ) × Contains vars x × Contains (scope a.con) x)

awake_is : (pending : List Cid) (vars : List ℕ) (a : Active) → is_awake pending vars a ≡ true → IsAwake pending vars a
awake_is pending vars a t = elim (or_cases (is_named pending a.cid) (list_any (λ x. is_over a.con x) vars) t) [
  | inl k ↦ inl (named_member pending a.cid k)
  | inr k ↦ let r = any_member (λ x. is_over a.con x) vars k in inr (r.0, r.1, over_member a.con r.0 r.2)
]

is_awake_so : (pending : List Cid) (vars : List ℕ) (a : Active) → IsAwake pending vars a → is_awake pending vars a ≡ true
is_awake_so pending vars a h = elim h [
  | inl m ↦ awake_named pending vars a m
  | inr r ↦ awake_over pending vars a r.0 r.1 r.2
]

same_tests : (b c : Bool) → (b ≡ true → c ≡ true) → (c ≡ true → b ≡ true) → b ≡ c
same_tests true c to back = sym (to refl)
same_tests false true to back = back refl
same_tests false false to back = refl

-- what is woken are the same ids where the same constraints are awake
pub woken_same : (active : List Active) (ps qs : List Cid) (xs ys : List ℕ) → ((a : Active) → Contains active a → IsAwake ps xs a → IsAwake qs ys a) → ((a : Active) → Contains active a → IsAwake qs ys a → IsAwake ps xs a)
    → woken active ps xs ≡ woken active qs ys
woken_same active ps qs xs ys to back =
    ap cids_of (filter_agree_members (is_awake ps xs) (is_awake qs ys) active (λ a m.
    same_tests (is_awake ps xs a) (is_awake qs ys a)
    (λ t. is_awake_so qs ys a (to a m (awake_is ps xs a t)))
    (λ t. is_awake_so ps xs a (back a m (awake_is qs ys a t)))))

-- an id that was taken is pending again as soon as it is counted
pub taken_woken : (active : List Active) (pending : List Cid) (cid : Cid) → Contains pending cid → pending ≡ woken active pending [] → woken active (cid ∷ without_cid cid pending) [] ≡ pending
taken_woken active pending cid has waiting = woken_same active (cid ∷ without_cid cid pending) pending [] []
    (λ a m h. elim h [
      | inl k ↦ inl (elim (member_cases cid (without_cid cid pending) a.cid k) [
        | inl e ↦ member_same pending cid a.cid e has
        | inr n ↦ (without_cid_member cid pending a.cid n).0
      ])
      | inr r ↦ absurd (member_nil r.0 r.1)
    ])
    (λ a m h. elim h [
      | inl k ↦ inl (elim (cid_known a.cid cid) [
        | inl e ↦ member_same (cid ∷ without_cid cid pending) cid a.cid (sym e) (member_here cid (without_cid cid pending))
        | inr n ↦ member_there cid (without_cid cid pending) a.cid (member_without_cid cid pending a.cid k n)
      ])
      | inr r ↦ absurd (member_nil r.0 r.1)
    ])
    ∙ sym waiting

-- an id that is pending need not be counted
pub pending_woken : (active : List Active) (pending : List Cid) (cid : Cid) → Contains pending cid → pending ≡ woken active pending [] → woken active (cid ∷ pending) [] ≡ pending
pending_woken active pending cid has waiting = woken_same active (cid ∷ pending) pending [] []
    (λ a m h. elim h [
      | inl k ↦ inl (elim (member_cases cid pending a.cid k) [ inl e ↦ member_same pending cid a.cid e has | inr n ↦ n ])
      | inr r ↦ absurd (member_nil r.0 r.1)
    ])
    (λ a m h. elim h [
      | inl k ↦ inl (member_there cid pending a.cid k)
      | inr r ↦ absurd (member_nil r.0 r.1)
    ])
    ∙ sym waiting

-- some active constraint of this id is over the variable
abbrev pub IsOver : List Active → ℕ → Cid → Type 0
IsOver active x c = (a : Active) × Contains active a × (a.cid ≡ c) × Contains (scope a.con) x

-- the constraints over a variable are woken beside one that is being revised
pub woken_beside : (active : List Active) (before after : List Cid) (cid : Cid) (x : ℕ)
    → ((a b : Active) → Contains active a → Contains active b → a.cid ≡ b.cid → a ≡ b)
    → ((c : Cid) → Contains after c → Contains before c ⊎ IsOver active x c) → ((c : Cid) → Contains before c → Contains after c) → ((c : Cid) → IsOver active x c → Contains after c)
    → woken active (cid ∷ after) [] ≡ woken active (woken active (cid ∷ before) []) (x ∷ [])
woken_beside active before after cid x single only stay over = woken_same active (cid ∷ after) (woken active (cid ∷ before) []) [] (x ∷ [])
    (λ a m h. elim h [
      | inl k ↦ elim (member_cases cid after a.cid k) [
        | inl e ↦ inl (member_woken active (cid ∷ before) [] a m (awake_named (cid ∷ before) [] a (member_same (cid ∷ before) cid a.cid e (member_here cid before))))
        | inr n ↦ elim (only a.cid n) [
          | inl b ↦ inl (member_woken active (cid ∷ before) [] a m (awake_named (cid ∷ before) [] a (member_there cid before a.cid b)))
          | inr o ↦ inr (x, member_here x [], subst (λ (b : Active). Contains (scope b.con) x) (single o.0 a o.1 m o.2) o.3)
        ]
      ]
      | inr r ↦ absurd (member_nil r.0 r.1)
    ])
    (λ a m h. elim h [
      | inl k ↦
          let r = woken_active active (cid ∷ before) [] a.cid k in
          elim (awake_is (cid ∷ before) [] r.0 r.3) [
            | inl n ↦ elim (member_cases cid before a.cid (member_same (cid ∷ before) r.0.cid a.cid r.2 n)) [
              | inl e ↦ inl (member_same (cid ∷ after) cid a.cid e (member_here cid after))
              | inr b ↦ inl (member_there cid after a.cid (stay a.cid b))
            ]
            | inr none ↦ absurd (member_nil none.0 none.1)
          ]
      | inr r ↦
          let e = member_single x r.0 r.1 in
          inl (member_there cid after a.cid (over a.cid (a, m, refl, subst (λ y. Contains (scope a.con) y) (sym e) r.2)))
    ])
