-- The engine of a walk, and its laws.
use Rattle.std.proofs.Common.{◌≡◌, ℕ, List, [], ◌∷◌, ◌++◌, filter, get_or, set, length, slice_get, Some, Contains, Bool, true, false, inl, inr, refl, sym, ap, ◌∙◌, subst, ◌⊎◌}
use Rattle.std.specs.Prelude.{◌↔◌}
use Rattle.std.proofs.lemmas.List.{get_or-set_other, set-get_or, set-set}
use Rattle.std.proofs.lemmas.Option.{get_or_from_slice_get}
use Rattle.std.proofs.lemmas.Bool.{cases_eq, false≢true}
use Rattle.palm_base.proofs.cited.Members.{filter_member, member_cases, member_here, member_same, member_unmap}
use Rattle.palm_base.specs.declared.terms.Cid.{Cid}
use Rattle.palm_base.specs.Order.{Rises}
use Rattle.palm_events.proofs.cited.States.{member_with_posted, member_without_cids, with_posted_cases, with_posted_here, without_cids_member}
use Rattle.palm_laws.proofs.cited.Reducing.{minimal_rises}
use Rattle.palm_model.specs.Event.{Posts, Withdraws, gone_with, with_posted, without_cids}
use Rattle.palm_model.specs.Log.{Active, IsActive, cids_of, is_named}
use Rattle.palm_model.specs.Minimal.{AreConflict, IsMinimalConflict}
use Rattle.palm_model.specs.State.{EngineState}
use Rattle.palm_book.specs.Book.{Contents, IsBook, active_of, initial_of, user_at}
use Rattle.palm_book.specs.declared.book.BookCon.{BookCon}
use Rattle.palm_book.proofs.cited.Actives.{actives_rise}
use Rattle.palm_reduce.specs.Kept.{AreKept, IsKeptAt}
use Rattle.palm_reduce.specs.Marked.{marked}
use Rattle.palm_reduce.specs.Walked.{AreSame, HasMarked, HasOnly}
use Rattle.palm_reduce.specs.declared.kinds.Kinds.{Kinds}
use Rattle.palm_reduce.proofs.cited.Marking.{marked_is_book}
use Rattle.palm_prefer.specs.Preferred.{Walks}
use Rattle.palm_prefer.specs.Preferred.Walks.{joins, leaves}
use Rattle.palm_prefer.specs.declared.answer.LeftOut.{LeftOut}
use Rattle.palm_prefer.proofs.cited.Keeping.{own}
use Rattle.palm_prefer.proofs.Joining.{joined, not_active, unjustified}

pub inactive_same : (xs ys : List Active) → AreSame xs ys → (cid : Cid) → (IsActive ys cid → ⊥) → IsActive xs cid → ⊥
inactive_same xs ys same cid off a = off (record { owner = a.owner; posted = (same a.owner).0 a.posted; named = a.named })

module _ (a : Active) (xs ys : List Active) (same : AreSame xs ys) (off : IsActive ys a.cid → ⊥) where
  -- one more in both
  pub posted_same : AreSame (with_posted a xs) (with_posted a ys)
  posted_same b = (
    λ m. elim (with_posted_cases a xs b m) [
      | inl e ↦ member_same (with_posted a ys) a b e (with_posted_here a ys)
      | inr k ↦ member_with_posted a ys b off ((same b).0 k)
    ],
    λ m. elim (with_posted_cases a ys b m) [
      | inl e ↦ member_same (with_posted a xs) a b e (with_posted_here a xs)
      | inr k ↦ member_with_posted a xs b (inactive_same xs ys same a.cid off) ((same b).1 k)
    ],
  )

-- ---- withdrawn from a conflict

-- an engine has those under these ids of some constraints and one more
module _ (a : Active) (ys : List Active) (cids : List Cid) (off : IsActive ys a.cid → ⊥) (alone : a.justification ≡ []) (plain : (b : Active) → Contains ys b → b.justification ≡ [])
    (u v : EngineState) (only : (b : Active) → Contains u.active b ↔ (Contains (with_posted a ys) b × Contains cids b.cid)) (withdraws : Withdraws u a.cid v) where
  v_active : v.active ≡ without_cids (gone_with u.active a.cid) u.active
  v_active = ap (λ (z : EngineState). z.active) withdraws.after

  now_cases : (b : Active) → Contains u.active b → (a ≡ b) ⊎ Contains ys b
  now_cases b m = with_posted_cases a ys b ((only b).0 m).0

  now_plain : (b : Active) → Contains u.active b → b.justification ≡ []
  now_plain b m = elim (now_cases b m) [
    | inl e ↦ ap (λ (z : Active). z.justification) (sym e) ∙ alone
    | inr k ↦ plain b k
  ]

  -- nothing else goes with it
  gone_alone : (d : Cid) → Contains (gone_with u.active a.cid) d → a.cid ≡ d
  gone_alone d m = elim (member_cases a.cid (cids_of (filter (λ (b : Active). is_named b.justification a.cid) u.active)) d m) [
    | inl e ↦ e
    | inr k ↦
        let r = member_unmap (λ (b : Active). b.cid) (filter (λ (b : Active). is_named b.justification a.cid) u.active) d k in
        let f = filter_member (λ (b : Active). is_named b.justification a.cid) u.active r.0 r.1 in
        absurd (false≢true (subst (λ (z : List Cid). is_named z a.cid ≡ true) (now_plain r.0 f.0) f.1))
  ]

  -- the others under these ids stay
  pub withdrawn_only : (b : Active) → Contains v.active b ↔ (Contains ys b × Contains cids b.cid)
  withdrawn_only b = (
    λ m.
        let k = without_cids_member (gone_with u.active a.cid) u.active b (subst (λ (z : List Active). Contains z b) v_active m) in
        elim (now_cases b k.0) [
          | inl e ↦ absurd (k.1 (member_same (gone_with u.active a.cid) a.cid b.cid (ap (λ (z : Active). z.cid) e)
              (member_here a.cid (cids_of (filter (λ (d : Active). is_named d.justification a.cid) u.active)))))
          | inr n ↦ (n, ((only b).0 k.0).1)
        ],
    λ both. subst (λ (z : List Active). Contains z b) (sym v_active)
        (member_without_cids (gone_with u.active a.cid) u.active b ((only b).1 (member_with_posted a ys b off both.0, both.1))
        (λ g. off (record { owner = b; posted = both.0; named = sym (gone_alone b.cid g) }))),
  )

-- ---- past a constraint

same_from : (xs ys zs : List Active) → xs ≡ ys → AreSame ys zs → AreSame xs zs
same_from xs ys zs e same b = (λ m. (same b).0 (subst (λ (z : List Active). Contains z b) e m), λ m. subst (λ (z : List Active). Contains z b) (sym e) ((same b).1 m))

same_to : (xs ys zs : List Active) → AreSame xs ys → ys ≡ zs → AreSame xs zs
same_to xs ys zs same e b = (λ m. subst (λ (z : List Active). Contains z b) e ((same b).0 m), λ m. (same b).1 (subst (λ (z : List Active). Contains z b) (sym e) m))

-- one more filter is kept
pub kept_more : (book : Contents) (kinds : Kinds) (marks : List Bool) (place : ℕ) → AreKept book marks kinds → IsKeptAt book place kinds → AreKept book (set marks place true) kinds
kept_more book kinds marks place kept here other on = elim (cases_eq other place) [
  | inl e ↦ subst (λ (n : ℕ). IsKeptAt book n kinds) (sym e) here
  | inr n ↦ kept other (sym (get_or-set_other marks place other true false n) ∙ on)
]

pub entry_same : (cs : List BookCon) (i : ℕ) (c d : BookCon) → slice_get cs i ≡ Some c → slice_get cs i ≡ Some d → c ≡ d
entry_same cs i c d at too = sym (get_or_from_slice_get cs i c c at) ∙ get_or_from_slice_get cs i d c too

module _ (book : Contents) (is : IsBook book) (marks : List Bool) (place : ℕ) (c : BookCon) (at : slice_get book.constraints place ≡ Some c) (off : get_or marks place false ≡ false) where
  abbrev kept : List Active
  kept = active_of (marked book marks)

  pub not_kept : IsActive kept (user_at c).cid → ⊥
  not_kept = not_active book.constraints is.rising marks place c at off

  pub marks_back : set (set marks place true) place false ≡ marks
  marks_back = set-set marks place true false ∙ ap (λ (b : Bool). set marks place b) (sym off) ∙ set-get_or marks place false

  pub kept_back : (kinds : Kinds) → AreKept book marks kinds → AreKept book (set (set marks place true) place false) kinds
  kept_back kinds kept = subst (λ (z : List Bool). AreKept book z kinds) (sym marks_back) kept

  pub free_back : (AreConflict (initial_of book) kept → ⊥) → AreConflict (initial_of book) (active_of (marked book (set (set marks place true) place false))) → ⊥
  free_back free = subst (λ (z : List Bool). AreConflict (initial_of book) (active_of (marked book z)) → ⊥) (sym marks_back) free

  module _ (whole : length marks ≡ length book.constraints) where
    more_kept : active_of (marked book (set marks place true)) ≡ with_posted (user_at c) kept
    more_kept = joined book.constraints is.rising marks place c at whole off

    -- the engine has one more
    pub more_filled : (s t : EngineState) → HasMarked book marks s → Posts s (user_at c) t → HasMarked book (set marks place true) t
    more_filled s t filled posts = record {
      initial = ap (λ (z : EngineState). z.initial) posts.after ∙ filled.initial;
      active = same_to t.active (with_posted (user_at c) kept) (active_of (marked book (set marks place true)))
          (same_from t.active (with_posted (user_at c) s.active) (with_posted (user_at c) kept) (ap (λ (z : EngineState). z.active) posts.after)
          (posted_same (user_at c) s.active kept filled.active not_kept)) (sym more_kept);
    }

    -- it joins
    pub joins_now : (start : List Active) (walked : List BookCon) (left : List LeftOut) → Walks (initial_of book) start walked kept left
        → (AreConflict (initial_of book) (active_of (marked book (set marks place true))) → ⊥) → Walks (initial_of book) start (walked ++ c ∷ []) (active_of (marked book (set marks place true))) left
    joins_now start walked left before none =
        subst (λ (z : List Active). Walks (initial_of book) start (walked ++ c ∷ []) z left) (sym more_kept)
        (joins walked c kept left before (subst (λ (z : List Active). AreConflict (initial_of book) z → ⊥) more_kept none))

    module _ (conflict : List Cid) (minimal : IsMinimalConflict (initial_of book) (active_of (marked book (set marks place true))) conflict) where
      minimal_more : IsMinimalConflict (initial_of book) (with_posted (user_at c) kept) conflict
      minimal_more = subst (λ (z : List Active). IsMinimalConflict (initial_of book) z conflict) more_kept minimal

      -- it is left out
      pub leaves_now : (start : List Active) (walked : List BookCon) (left now : List LeftOut) → Walks (initial_of book) start walked kept left → now ≡ left ++ record { number = c.number; conflict = conflict } ∷ []
          → Walks (initial_of book) start (walked ++ c ∷ []) (active_of (marked book (set (set marks place true) place false))) now
      leaves_now start walked left now before pushed =
          subst (λ (z : List Bool). Walks (initial_of book) start (walked ++ c ∷ []) (active_of (marked book z)) now) (sym marks_back)
          (subst (λ (z : List LeftOut). Walks (initial_of book) start (walked ++ c ∷ []) kept z) (sym pushed)
          (leaves walked c kept left conflict before minimal_more))

      pub rises_now : Rises conflict
      rises_now = minimal_rises (AreConflict (initial_of book)) (active_of (marked book (set marks place true))) conflict minimal
          (actives_rise (marked book (set marks place true)) (marked_is_book book (set marks place true) is))

      module _ (u : EngineState) (only : HasOnly book (set marks place true) conflict u) where
        -- the engine has it, since without it there is no conflict
        pub is_there : (AreConflict (initial_of book) kept → ⊥) → IsActive u.active (user_at c).cid
        is_there free = record {
          owner = user_at c;
          posted = (only.active (user_at c)).1 (subst (λ (z : List Active). Contains z (user_at c)) (sym more_kept) (with_posted_here (user_at c) kept), own (initial_of book) kept c conflict free minimal_more);
          named = refl;
        }

        -- without it the engine has only the others of the conflict
        pub back_only : (v : EngineState) → Withdraws u (user_at c).cid v → HasOnly book (set (set marks place true) place false) conflict v
        back_only v withdraws = subst (λ (z : List Bool). HasOnly book z conflict v) (sym marks_back) (record {
          initial = ap (λ (z : EngineState). z.initial) withdraws.after ∙ only.initial;
          active = withdrawn_only (user_at c) kept conflict not_kept refl (unjustified book.constraints marks) u v
              (subst (λ (z : List Active). (b : Active) → Contains u.active b ↔ (Contains z b × Contains conflict b.cid)) more_kept only.active) withdraws;
        })
