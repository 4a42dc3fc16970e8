-- The active constraints of a book in which one constraint is added, turned on or off, or taken out.
use Rattle.std.proofs.Common.{◌≡◌, ℕ, zero, suc, ◌<◌, Bool, true, false, Some, List, [], ◌∷◌, ◌++◌, filter, get_or, slice_get, remove, AllPairs, Contains, ◌⊎◌, inl, inr, refl, sym, ap, ◌∙◌, subst, arith}
use Rattle.std.proofs.lemmas.Option.{same_Some, none-some}
use Rattle.std.proofs.lemmas.Bool.{false≢true}
use Rattle.std.proofs.lemmas.List.Elements.{Contains-push, Contains-push_cases, Contains-append_left}
use Rattle.palm_base.specs.declared.terms.Cid.{Cid}
use Rattle.palm_base.specs.declared.terms.Cid.TheVariants.{User}
use Rattle.palm_base.proofs.cited.Members.{member_nil, member_here, member_there, member_cases, member_same, member_map, member_unmap, member_filter, filter_member, member_get, remove_member}
use Rattle.palm_model.specs.Log.{Active, IsActive, cids_of, is_named}
use Rattle.palm_model.specs.Event.{with_posted, without_cids, gone_with}
use Rattle.palm_book.specs.Book.{Contents, IsBook, user_at, active_of, with_active}
use Rattle.palm_book.specs.declared.book.BookCon.{BookCon}
use Rattle.palm_book.proofs.cited.Actives.{actives_rise}
use Rattle.palm_events.proofs.cited.States.{active_cid, with_posted_cases, with_posted_here, member_with_posted, with_posted_rises, without_cids_member, member_without_cids, without_cids_rises}
use Rattle.palm_events.proofs.cited.Undone.{active_same}

-- ---- the constraint at a place, and the others

-- the constraint turned on or off
abbrev pub turned : BookCon → Bool → BookCon
turned c b = record c { active = b }

pub split_place : (cs : List BookCon) (place : ℕ) (c d : BookCon) → slice_get cs place ≡ Some c → Contains cs d → (c ≡ d) ⊎ Contains (remove cs place) d
split_place [] place c d at m = absurd (member_nil d m)
split_place (b ∷ cs) zero c d at m = elim (member_cases b cs d m) [ inl e ↦ inl (sym (same_Some b c at) ∙ e) | inr k ↦ inr k ]
split_place (b ∷ cs) (suc place) c d at m = elim (member_cases b cs d m) [
  | inl e ↦ inr (member_same (b ∷ remove cs place) b d e (member_here b (remove cs place)))
  | inr k ↦ elim (split_place cs place c d at k) [ inl e ↦ inl e | inr r ↦ inr (member_there b (remove cs place) d r) ]
]

pub turned_cases : (cs : List BookCon) (place : ℕ) (b : Bool) (c d : BookCon) → slice_get cs place ≡ Some c → Contains (with_active cs place b) d → (turned c b ≡ d) ⊎ Contains (remove cs place) d
turned_cases [] place b c d at m = absurd (member_nil d m)
turned_cases (a ∷ cs) zero b c d at m = elim (member_cases (turned a b) cs d m) [
  | inl e ↦ inl (ap (λ (x : BookCon). turned x b) (sym (same_Some a c at)) ∙ e)
  | inr k ↦ inr k
]
turned_cases (a ∷ cs) (suc place) b c d at m = elim (member_cases a (with_active cs place b) d m) [
  | inl e ↦ inr (member_same (a ∷ remove cs place) a d e (member_here a (remove cs place)))
  | inr k ↦ elim (turned_cases cs place b c d at k) [ inl e ↦ inl e | inr r ↦ inr (member_there a (remove cs place) d r) ]
]

pub turned_here : (cs : List BookCon) (place : ℕ) (b : Bool) (c : BookCon) → slice_get cs place ≡ Some c → Contains (with_active cs place b) (turned c b)
turned_here [] place b c at = absurd (none-some c at)
turned_here (a ∷ cs) zero b c at =
    member_same (turned a b ∷ cs) (turned a b) (turned c b) (ap (λ (x : BookCon). turned x b) (same_Some a c at)) (member_here (turned a b) cs)
turned_here (a ∷ cs) (suc place) b c at = member_there a (with_active cs place b) (turned c b) (turned_here cs place b c at)

pub turned_there : (cs : List BookCon) (place : ℕ) (b : Bool) (d : BookCon) → Contains (remove cs place) d → Contains (with_active cs place b) d
turned_there [] place b d m = absurd (member_nil d (remove_member [] place d m))
turned_there (a ∷ cs) zero b d m = member_there (turned a b) cs d m
turned_there (a ∷ cs) (suc place) b d m = elim (member_cases a (remove cs place) d m) [
  | inl e ↦ member_same (a ∷ with_active cs place b) a d e (member_here a (with_active cs place b))
  | inr k ↦ member_there a (with_active cs place b) d (turned_there cs place b d k)
]

-- ---- numbers that rise

abbrev pub AreRising : List BookCon → Type 0
AreRising cs = AllPairs (λ (c d : BookCon). c.number < d.number) cs

first_below : (b : BookCon) (cs : List BookCon) (d : BookCon) → AreRising (b ∷ cs) → Contains cs d → b.number < d.number
first_below b cs d rising m =
    let k : ℕ = m.0 in
    let at : get_or cs k d ≡ d = m.2 in
    subst (λ (x : BookCon). b.number < x.number) at (rising 0 (suc k) d (omega arith) (omega (arith, m.1)))

rising_tail : (b : BookCon) (cs : List BookCon) → AreRising (b ∷ cs) → AreRising cs
rising_tail b cs rising = λ i j d before within. rising (suc i) (suc j) d (omega (arith, before)) (omega (arith, within))

-- the other constraints have other numbers
pub apart : (cs : List BookCon) (place : ℕ) (c d : BookCon) → AreRising cs → slice_get cs place ≡ Some c → Contains (remove cs place) d → d.number ≡ c.number → ⊥
apart [] place c d rising at m e = none-some c at
apart (b ∷ cs) zero c d rising at m e =
    let lt : b.number < d.number = first_below b cs d rising m in
    let s : b.number ≡ c.number = ap (λ (x : BookCon). x.number) (same_Some b c at) in
    omega (arith, lt, s, e)
apart (b ∷ cs) (suc place) c d rising at m e = elim (member_cases b (remove cs place) d m) [
  | inl s ↦
      let lt : b.number < c.number = first_below b cs c rising (member_get cs place c at) in
      let f : b.number ≡ d.number = ap (λ (x : BookCon). x.number) s in
      omega (arith, lt, f, e)
  | inr k ↦ apart cs place c d (rising_tail b cs rising) at k e
]

-- ---- members of the active constraints

pub active_member : (book : Contents) (a : Active) → Contains (active_of book) a → (c : BookCon) × Contains book.constraints c × (c.active ≡ true) × (user_at c ≡ a)
active_member book a m =
    let r = member_unmap user_at (filter (λ (c : BookCon). c.active) book.constraints) a m in
    let k = filter_member (λ (c : BookCon). c.active) book.constraints r.0 r.1 in
    (r.0, k.0, k.1, r.2)

pub member_active : (book : Contents) (c : BookCon) → Contains book.constraints c → c.active ≡ true → Contains (active_of book) (user_at c)
member_active book c m on =
    member_map user_at (filter (λ (d : BookCon). d.active) book.constraints) c (member_filter (λ (d : BookCon). d.active) book.constraints c m on)

active_as : (book : Contents) (c : BookCon) (a : Active) → user_at c ≡ a → Contains book.constraints c → c.active ≡ true → Contains (active_of book) a
active_as book c a e m on = member_same (active_of book) (user_at c) a e (member_active book c m on)

pub user_same : (m n : ℕ) → User m ≡ User n → m ≡ n
user_same m n e = cc

-- with a constraint of a book nothing else goes
pub gone_alone : (book : Contents) (cid x : Cid) → Contains (gone_with (active_of book) cid) x → cid ≡ x
gone_alone book cid x m = elim (member_cases cid (cids_of (filter (λ (a : Active). is_named a.justification cid) (active_of book))) x m) [
  | inl e ↦ e
  | inr k ↦
      let is = active_cid (filter (λ (a : Active). is_named a.justification cid) (active_of book)) x k in
      let held = filter_member (λ (a : Active). is_named a.justification cid) (active_of book) is.owner is.posted in
      let c = active_member book is.owner held.0 in
      let f : false ≡ true = subst (λ (a : Active). is_named a.justification cid ≡ true) (sym c.3) held.1 in
      absurd (false≢true f)
]

-- ---- what changes

module _ (book : Contents) (is : IsBook book) where
  -- one more constraint that is active
  pub active_added : (c : BookCon) → c.active ≡ true → IsBook (record book { constraints = book.constraints ++ c ∷ [] })
      → (IsActive (active_of book) (User c.number) → ⊥) → with_posted (user_at c) (active_of book) ≡ active_of (record book { constraints = book.constraints ++ c ∷ [] })
  active_added c on more inactive =
      let next : Contents = record book { constraints = book.constraints ++ c ∷ [] } in
      active_same (with_posted (user_at c) (active_of book)) (active_of next)
      (with_posted_rises (user_at c) (active_of book) (actives_rise book is)) (actives_rise next more)
      (λ a m. elim (with_posted_cases (user_at c) (active_of book) a m) [
        | inl e ↦ active_as next c a e (Contains-push book.constraints c) on
        | inr k ↦ let r = active_member book a k in active_as next r.0 a r.3 (Contains-append_left book.constraints (c ∷ []) r.0 r.1) r.2
      ])
      (λ a m. let r = active_member next a m in elim (Contains-push_cases book.constraints c r.0 r.1) [
        | inl k ↦ member_with_posted (user_at c) (active_of book) a inactive (active_as book r.0 a r.3 k r.2)
        | inr e ↦ member_same (with_posted (user_at c) (active_of book)) (user_at c) a (ap user_at e ∙ r.3) (with_posted_here (user_at c) (active_of book))
      ])

  module _ (place : ℕ) (c : BookCon) (at : slice_get book.constraints place ≡ Some c) where
    relaxed_not : (d : BookCon) → c.active ≡ false → c ≡ d → d.active ≡ true → ⊥
    relaxed_not d off e on = false≢true (sym off ∙ ap (λ (x : BookCon). x.active) e ∙ on)

    pub relaxed_inactive : c.active ≡ false → IsActive (active_of book) (User c.number) → ⊥
    relaxed_inactive off active =
        let r = active_member book active.owner active.posted in
        let e : User r.0.number ≡ User c.number = ap (λ (x : Active). x.cid) r.3 ∙ active.named in
        elim (split_place book.constraints place c r.0 at r.1) [
          | inl s ↦ relaxed_not r.0 off s r.2
          | inr k ↦ apart book.constraints place c r.0 is.rising at k (user_same r.0.number c.number e)
        ]

    -- a relaxed constraint that is turned on
    pub active_enforced : c.active ≡ false → IsBook (record book { constraints = with_active book.constraints place true })
        → (IsActive (active_of book) (User c.number) → ⊥) → with_posted (user_at c) (active_of book) ≡ active_of (record book { constraints = with_active book.constraints place true })
    active_enforced off more inactive =
        let next : Contents = record book { constraints = with_active book.constraints place true } in
        active_same (with_posted (user_at c) (active_of book)) (active_of next)
        (with_posted_rises (user_at c) (active_of book) (actives_rise book is)) (actives_rise next more)
        (λ a m. elim (with_posted_cases (user_at c) (active_of book) a m) [
          | inl e ↦ active_as next (turned c true) a e (turned_here book.constraints place true c at) refl
          | inr k ↦ let r = active_member book a k in elim (split_place book.constraints place c r.0 at r.1) [
            | inl e ↦ absurd (relaxed_not r.0 off e r.2)
            | inr j ↦ active_as next r.0 a r.3 (turned_there book.constraints place true r.0 j) r.2
          ]
        ])
        (λ a m. let r = active_member next a m in elim (turned_cases book.constraints place true c r.0 at r.1) [
          | inl e ↦ member_same (with_posted (user_at c) (active_of book)) (user_at c) a (ap user_at e ∙ r.3) (with_posted_here (user_at c) (active_of book))
          | inr k ↦ member_with_posted (user_at c) (active_of book) a inactive (active_as book r.0 a r.3 (remove_member book.constraints place r.0 k) r.2)
        ])

    -- the active ones are those at the other places
    active_less : (next : Contents) → IsBook next → ((d : BookCon) → Contains (remove book.constraints place) d → Contains next.constraints d)
        → ((d : BookCon) → Contains next.constraints d → d.active ≡ true → Contains (remove book.constraints place) d)
        → without_cids (gone_with (active_of book) (User c.number)) (active_of book) ≡ active_of next
    active_less next fewer to from =
        let gone = gone_with (active_of book) (User c.number) in
        active_same (without_cids gone (active_of book)) (active_of next)
        (without_cids_rises gone (active_of book) (actives_rise book is)) (actives_rise next fewer)
        (λ a m.
        let w = without_cids_member gone (active_of book) a m in
        let r = active_member book a w.0 in
        elim (split_place book.constraints place c r.0 at r.1) [
          | inl e ↦ absurd (w.1 (member_same gone (User c.number) a.cid (ap (λ (x : Active). x.cid) (ap user_at e ∙ r.3))
              (member_here (User c.number) (cids_of (filter (λ (x : Active). is_named x.justification (User c.number)) (active_of book))))))
          | inr k ↦ active_as next r.0 a r.3 (to r.0 k) r.2
        ])
        (λ a m.
        let r = active_member next a m in
        let k = from r.0 r.1 r.2 in
        member_without_cids gone (active_of book) a (active_as book r.0 a r.3 (remove_member book.constraints place r.0 k) r.2) (λ g.
        let e : User c.number ≡ User r.0.number = gone_alone book (User c.number) a.cid g ∙ sym (ap (λ (x : Active). x.cid) r.3) in
        apart book.constraints place c r.0 is.rising at k (sym (user_same c.number r.0.number e))))

    -- an active constraint that is turned off
    pub active_relaxed : IsBook (record book { constraints = with_active book.constraints place false })
        → without_cids (gone_with (active_of book) (User c.number)) (active_of book) ≡ active_of (record book { constraints = with_active book.constraints place false })
    active_relaxed more =
        active_less (record book { constraints = with_active book.constraints place false }) more
        (λ d k. turned_there book.constraints place false d k)
        (λ d k on. elim (turned_cases book.constraints place false c d at k) [
          | inl e ↦ absurd (false≢true (ap (λ (x : BookCon). x.active) e ∙ on))
          | inr j ↦ j
        ])

    -- an active constraint that is taken out
    pub active_retracted : IsBook (record book { constraints = remove book.constraints place })
        → without_cids (gone_with (active_of book) (User c.number)) (active_of book) ≡ active_of (record book { constraints = remove book.constraints place })
    active_retracted more = active_less (record book { constraints = remove book.constraints place }) more (λ d k. k) (λ d k on. k)

    -- a relaxed constraint that is taken out
    pub active_alike : c.active ≡ false → IsBook (record book { constraints = remove book.constraints place }) → active_of book ≡ active_of (record book { constraints = remove book.constraints place })
    active_alike off more =
        let next : Contents = record book { constraints = remove book.constraints place } in
        active_same (active_of book) (active_of next) (actives_rise book is) (actives_rise next more)
        (λ a m. let r = active_member book a m in elim (split_place book.constraints place c r.0 at r.1) [
          | inl e ↦ absurd (relaxed_not r.0 off e r.2)
          | inr k ↦ active_as next r.0 a r.3 k r.2
        ])
        (λ a m. let r = active_member next a m in active_as book r.0 a r.3 (remove_member book.constraints place r.0 r.1) r.2)
