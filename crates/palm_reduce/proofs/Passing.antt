-- The walk goes past a constraint.
use Rattle.std.proofs.Common.{◌≡◌, ℕ, ◌+◌, Bool, true, false, List, [], ◌∷◌, ◌++◌, filter, take, drop, length, slice_get, Some, Contains, reverse, ◌⊎◌, inl, inr, refl, sym, ap, ◌∙◌, subst, arith, append_assoc}
use Rattle.std.proofs.lemmas.List.{append-nil, drop_all, reverse-append, take_all}
use Rattle.std.proofs.lemmas.List.Elements.{Contains-append_left, Contains-append_right, Contains-append_cases}
use Rattle.std.proofs.lemmas.Bool.{false≢true}
use Rattle.palm_base.specs.Tells.{Tells}
use Rattle.palm_base.specs.declared.terms.Cid.{Cid}
use Rattle.palm_base.specs.declared.terms.Cid.TheVariants.{User}
use Rattle.palm_base.proofs.cited.Members.{member_here, member_there, member_cases, member_map, member_same, member_unmap, filter_member}
use Rattle.palm_book.specs.Book.{Contents, IsBook, active_of, initial_of, user_at}
use Rattle.palm_book.specs.declared.book.BookCon.{BookCon}
use Rattle.palm_book.proofs.cited.Actives.{actives_rise}
use Rattle.palm_model.specs.Event.{Posts, Withdraws, gone_with, with_posted, without_cids}
use Rattle.palm_model.specs.Log.{Active, IsActive, cids_of, is_named}
use Rattle.palm_model.specs.Minimal.{IsMinimal, WalkLeaves}
use Rattle.palm_model.specs.Minimal.WalkLeaves.{walked_none, walked_out, walked_in}
use Rattle.palm_model.specs.State.{EngineState}
use Rattle.palm_laws.proofs.cited.Reducing.{left_within}
use Rattle.palm_events.proofs.cited.States.{member_with_posted, member_without_cids, with_posted_cases, with_posted_here, without_cids_member}
use Rattle.palm_reduce.specs.Marked.{marked}
use Rattle.palm_reduce.specs.Properties.{HasProperty, IsCore, MayBeAsked}
use Rattle.palm_reduce.specs.Walked.{AreSame, HasOnly, HasWalked, actives}
use Rattle.palm_reduce.specs.declared.property.Property.{Property}
use Rattle.palm_reduce.specs.declared.reduce.Found.{Found}
use Rattle.palm_reduce.proofs.Asking.{allowed_at, property_same, tells_at}
use Rattle.palm_reduce.proofs.Cores.{core_holds, core_more}
use Rattle.palm_reduce.proofs.Splitting.{apart, earlier_active, earlier_relaxed, later_active, later_relaxed, one_under, split_active, unjustified}

-- ---- the lists

pub same_then : (xs ys zs : List Active) → AreSame xs ys → ys ≡ zs → AreSame xs zs
same_then xs ys zs same e a = (λ m. member_in ys zs a e ((same a).0 m), λ m. (same a).1 (member_in zs ys a (sym e) m))
  where
    member_in : (us vs : List Active) (a : Active) → us ≡ vs → Contains us a → Contains vs a
    member_in us vs a e m = subst (λ (z : List Active). Contains z a) e m

-- ---- the first step and the last

pub walk_starts : (property : Property) (book : Contents) (found : Found) (s : EngineState) → found.cids.items ≡ [] → s.initial ≡ initial_of book → AreSame s.active (active_of book) → IsCore property (initial_of book) (active_of book) found.core
    → HasWalked property book (length book.constraints) found s
walk_starts property book found s new initial same core =
    let all : take (length book.constraints) book.constraints ≡ book.constraints = take_all (length book.constraints) book.constraints (omega arith) in
    let none : drop (length book.constraints) book.constraints ≡ [] = drop_all (length book.constraints) book.constraints (omega arith) in
    record {
      left = [];
      walk = subst (λ (z : List BookCon). WalkLeaves (HasProperty property (initial_of book)) (actives (take (length book.constraints) book.constraints)) (actives z) []) (sym none)
          (walked_none (actives (take (length book.constraints) book.constraints)));
      named = ap reverse new;
      initial = initial;
      core = core_more property (initial_of book) (active_of book) s.active found.core (λ a named m. (same a).1 m) core;
      active = same_then s.active (active_of book) (actives (take (length book.constraints) book.constraints) ++ []) same
          (ap actives (sym all) ∙ sym (append-nil (actives (take (length book.constraints) book.constraints))));
    }

pub walk_ends : (property : Property) (book : Contents) (place : ℕ) (core : List Cid) (found : Found) (s : EngineState) → place ≡ 0 → IsCore property (initial_of book) (active_of book) core → HasWalked property book place found s
    → IsMinimal (HasProperty property (initial_of book)) (active_of book) (reverse found.cids.items)
walk_ends property book place core found s done is walked = record {
  holds = core_holds property (initial_of book) (active_of book) core is;
  left = walked.left;
  walk = subst (λ (n : ℕ). WalkLeaves (HasProperty property (initial_of book)) (actives (take n book.constraints)) (actives (drop n book.constraints)) walked.left) done walked.walk;
  named = walked.named;
}

-- what the walk found is what the engine has
pub walk_only : (property : Property) (book : Contents) (marks : List Bool) → IsBook (marked book marks) → (place : ℕ) (found : Found) (s : EngineState) → place ≡ 0 → HasWalked property (marked book marks) place found s
    → HasOnly book marks (reverse found.cids.items) s
walk_only property book marks is place found s done walked = record {
  initial = walked.initial;
  active = λ a. (
    λ m. let k = (now a).0 m in (within a k, subst (λ (ns : List Cid). Contains ns a.cid) (sym walked.named) (member_map (λ (b : Active). b.cid) walked.left a k)),
    λ both.
        let r = member_unmap (λ (b : Active). b.cid) walked.left a.cid (subst (λ (ns : List Cid). Contains ns a.cid) walked.named both.1) in
        (now a).1 (member_same walked.left r.0 a (one_under (active_of (marked book marks)) (actives_rise (marked book marks) is) r.0 a (within r.0 r.1) both.0 r.2) r.1),
  );
}
  where
    now : AreSame s.active walked.left
    now = subst (λ (n : ℕ). AreSame s.active (actives (take n (marked book marks).constraints) ++ walked.left)) done walked.active

    P : List Active → Type 0
    P = HasProperty property (initial_of book)

    within : (a : Active) → Contains walked.left a → Contains (active_of (marked book marks)) a
    within = left_within P [] (active_of (marked book marks)) walked.left
        (subst (λ (n : ℕ). WalkLeaves P (actives (take n (marked book marks).constraints)) (actives (drop n (marked book marks).constraints)) walked.left) done walked.walk)

-- ---- one step

module _ (property : Property) (book : Contents) (is : IsBook book) (place : ℕ) (found : Found) (s : EngineState) (walked : HasWalked property book (place + 1) found s) (c : BookCon) (at : slice_get book.constraints place ≡ Some c) where
  abbrev before : List Active
  before = actives (take place book.constraints)

  abbrev after : List Active
  after = actives (drop (place + 1) book.constraints)

  -- ---- a relaxed constraint

  pub passes_relaxed : c.active ≡ false → HasWalked property book place found s
  passes_relaxed off =
      let e = earlier_relaxed book.constraints place c at off in
      record {
        left = walked.left;
        walk = subst (λ (z : List Active). WalkLeaves (HasProperty property (initial_of book)) before z walked.left) (sym (later_relaxed book.constraints place c at off))
            (subst (λ (z : List Active). WalkLeaves (HasProperty property (initial_of book)) z after walked.left) e walked.walk);
        named = walked.named;
        initial = walked.initial;
        active = same_then s.active (actives (take (place + 1) book.constraints) ++ walked.left) (before ++ walked.left) walked.active (ap (λ (z : List Active). z ++ walked.left) e);
        core = walked.core;
      }

  -- ---- an active one

  module _ (on : c.active ≡ true) where
    now_active : AreSame s.active (before ++ user_at c ∷ walked.left)
    now_active = same_then s.active (actives (take (place + 1) book.constraints) ++ walked.left) (before ++ user_at c ∷ walked.left) walked.active
        (ap (λ (z : List Active). z ++ walked.left) (earlier_active book.constraints place c at on) ∙ append_assoc before (user_at c ∷ []) walked.left)

    pub is_there : IsActive s.active (user_at c).cid
    is_there = record {
      owner = user_at c;
      posted = (now_active (user_at c)).1 (Contains-append_right before (user_at c ∷ walked.left) (user_at c) (member_here (user_at c) walked.left));
      named = refl;
    }

    walk_now : WalkLeaves (HasProperty property (initial_of book)) (before ++ user_at c ∷ []) after walked.left
    walk_now = subst (λ (z : List Active). WalkLeaves (HasProperty property (initial_of book)) z after walked.left) (earlier_active book.constraints place c at on) walked.walk

    rest_cases : (b : Active) → Contains (before ++ walked.left) b → Contains before b ⊎ Contains after b
    rest_cases b m = elim (Contains-append_cases before walked.left b m) [
      | inl k ↦ inl k
      | inr k ↦ inr (left_within (HasProperty property (initial_of book)) (before ++ user_at c ∷ []) after walked.left walk_now b k)
    ]

    -- the rest has not the id
    rest_apart : (b : Active) → Contains (before ++ walked.left) b → b.cid ≡ (user_at c).cid → ⊥
    rest_apart b m e = apart book is place c at on b (rest_cases b m) e

    rest_now : (b : Active) → Contains (before ++ walked.left) b → Contains s.active b
    rest_now b m = (now_active b).1 (elim (Contains-append_cases before walked.left b m) [
      | inl k ↦ Contains-append_left before (user_at c ∷ walked.left) b k
      | inr k ↦ Contains-append_right before (user_at c ∷ walked.left) b (member_there (user_at c) walked.left b k)
    ])

    now_cases : (b : Active) → Contains s.active b → (user_at c ≡ b) ⊎ Contains (before ++ walked.left) b
    now_cases b m = elim (Contains-append_cases before (user_at c ∷ walked.left) b ((now_active b).0 m)) [
      | inl k ↦ inr (Contains-append_left before walked.left b k)
      | inr k ↦ elim (member_cases (user_at c) walked.left b k) [
        | inl e ↦ inl e
        | inr n ↦ inr (Contains-append_right before walked.left b n)
      ]
    ]

    rest_in_book : (b : Active) → Contains (before ++ walked.left) b → Contains (active_of book) b
    rest_in_book b m = subst (λ (z : List Active). Contains z b) (sym (split_active book.constraints place c at on)) (elim (rest_cases b m) [
      | inl k ↦ Contains-append_left before (user_at c ∷ after) b k
      | inr k ↦ Contains-append_right before (user_at c ∷ after) b (member_there (user_at c) after b k)
    ])

    now_unjustified : (b : Active) → Contains s.active b → b.justification ≡ []
    now_unjustified b m = elim (now_cases b m) [
      | inl e ↦ ap (λ (z : Active). z.justification) (sym e)
      | inr k ↦ elim (rest_cases b k) [
        | inl n ↦ unjustified (take place book.constraints) b n
        | inr n ↦ unjustified (drop (place + 1) book.constraints) b n
      ]
    ]

    -- nothing else goes with it
    gone_alone : (d : Cid) → Contains (gone_with s.active (user_at c).cid) d → (user_at c).cid ≡ d
    gone_alone d m = elim (member_cases (user_at c).cid (cids_of (filter (λ (b : Active). is_named b.justification (user_at c).cid) s.active)) d m) [
      | inl e ↦ e
      | inr k ↦
          let r = member_unmap (λ (b : Active). b.cid) (filter (λ (b : Active). is_named b.justification (user_at c).cid) s.active) d k in
          let f = filter_member (λ (b : Active). is_named b.justification (user_at c).cid) s.active r.0 r.1 in
          absurd (false≢true (subst (λ (z : List Cid). is_named z (user_at c).cid ≡ true) (now_unjustified r.0 f.0) f.1))
    ]

    module _ (t : EngineState) (withdraws : Withdraws s (user_at c).cid t) where
      t_active : t.active ≡ without_cids (gone_with s.active (user_at c).cid) s.active
      t_active = ap (λ (z : EngineState). z.active) withdraws.after

      -- the rest is still there
      pub rest_active : AreSame t.active (before ++ walked.left)
      rest_active b = (
        λ m.
            let k = without_cids_member (gone_with s.active (user_at c).cid) s.active b (subst (λ (z : List Active). Contains z b) t_active m) in
            elim (now_cases b k.0) [
              | inl e ↦ absurd (k.1 (member_same (gone_with s.active (user_at c).cid) (user_at c).cid b.cid (ap (λ (z : Active). z.cid) e)
                  (member_here (user_at c).cid (cids_of (filter (λ (d : Active). is_named d.justification (user_at c).cid) s.active)))))
              | inr n ↦ n
            ],
        λ m. subst (λ (z : List Active). Contains z b) (sym t_active)
            (member_without_cids (gone_with s.active (user_at c).cid) s.active b (rest_now b m) (λ g. rest_apart b m (sym (gone_alone b.cid g)))),
      )

      -- the known core stands without a constraint that is not of it
      pub rest_core : (Contains found.core (user_at c).cid → ⊥) → IsCore property (initial_of book) t.active found.core
      rest_core other = core_more property (initial_of book) s.active t.active found.core (λ b named m. elim (now_cases b m) [
        | inl e ↦ absurd (other (subst (Contains found.core) (ap (λ (z : Active). z.cid) (sym e)) named))
        | inr k ↦ (rest_active b).1 k
      ]) walked.core

      pub rest_initial : t.initial ≡ initial_of book
      rest_initial = ap (λ (z : EngineState). z.initial) withdraws.after ∙ walked.initial

      pub allowed_rest : MayBeAsked property (initial_of book) (active_of book) → MayBeAsked property t.initial t.active
      allowed_rest allowed =
          allowed_at property t.initial (initial_of book) t.active (active_of book) rest_initial (λ b m. rest_in_book b ((rest_active b).0 m)) allowed

      -- a state with these constraints, as after a settling
      module _ (u : EngineState) (u_initial : u.initial ≡ t.initial) (u_active : u.active ≡ t.active) where
        settled_active : AreSame u.active (before ++ walked.left)
        settled_active b = (
          λ m. (rest_active b).0 (subst (λ (z : List Active). Contains z b) u_active m),
          λ m. subst (λ (z : List Active). Contains z b) (sym u_active) ((rest_active b).1 m),
        )

        -- it is left out
        pub passes_out : (core : List Cid) → IsCore property (initial_of book) u.active core → HasWalked property book place (record { cids = found.cids; core = core }) u
        passes_out core is_core = record {
          left = walked.left;
          walk = subst (λ (z : List Active). WalkLeaves (HasProperty property (initial_of book)) before z walked.left) (sym (later_active book.constraints place c at on))
              (walked_out before (user_at c) after walked.left walk_now
              (property_same property (initial_of book) u.active (before ++ walked.left) settled_active true (core_holds property (initial_of book) u.active core is_core)));
          named = walked.named;
          initial = u_initial ∙ rest_initial;
          active = settled_active;
          core = is_core;
        }

        pub is_gone : IsActive u.active (user_at c).cid → ⊥
        is_gone a = rest_apart a.owner ((settled_active a.owner).0 a.posted) a.named

        -- whether the rest has the property
        pub rest_tells : (b : Bool) → Tells b (HasProperty property t.initial t.active) → Tells b (HasProperty property (initial_of book) (before ++ walked.left))
        rest_tells b tells =
            tells_at property t.initial (initial_of book) t.active (before ++ walked.left) rest_initial rest_active b tells

        -- it stays
        module _ (v : EngineState) (posts : Posts u (user_at c) v) where
          v_active : v.active ≡ with_posted (user_at c) u.active
          v_active = ap (λ (z : EngineState). z.active) posts.after

          v_initial : v.initial ≡ u.initial
          v_initial = ap (λ (z : EngineState). z.initial) posts.after

          posted_active : AreSame v.active (before ++ user_at c ∷ walked.left)
          posted_active b = (
            λ m. elim (with_posted_cases (user_at c) u.active b (subst (λ (z : List Active). Contains z b) v_active m)) [
              | inl e ↦ member_same (before ++ user_at c ∷ walked.left) (user_at c) b e
                  (Contains-append_right before (user_at c ∷ walked.left) (user_at c) (member_here (user_at c) walked.left))
              | inr k ↦ (now_active b).0 (rest_now b ((settled_active b).0 k))
            ],
            λ m. subst (λ (z : List Active). Contains z b) (sym v_active) (elim (now_cases b ((now_active b).1 m)) [
              | inl e ↦ member_same (with_posted (user_at c) u.active) (user_at c) b e (with_posted_here (user_at c) u.active)
              | inr k ↦ member_with_posted (user_at c) u.active b is_gone ((settled_active b).1 k)
            ]),
          )

          pub passes_in : (after_push : Found) → after_push.cids.items ≡ found.cids.items ++ User c.number ∷ [] → after_push.core ≡ found.core
              → (HasProperty property (initial_of book) (before ++ walked.left) → ⊥) → HasWalked property book place after_push v
          passes_in after_push pushed same lacks = record {
            left = user_at c ∷ walked.left;
            walk = subst (λ (z : List Active). WalkLeaves (HasProperty property (initial_of book)) before z (user_at c ∷ walked.left)) (sym (later_active book.constraints place c at on))
                (walked_in before (user_at c) after walked.left walk_now lacks);
            named = ap reverse pushed ∙ reverse-append found.cids.items (User c.number ∷ []) ∙ ap (λ (z : List Cid). User c.number ∷ z) walked.named;
            initial = v_initial ∙ u_initial ∙ rest_initial;
            active = posted_active;
            core = subst (IsCore property (initial_of book) v.active) (sym same)
                (core_more property (initial_of book) s.active v.active found.core (λ b named m. (posted_active b).1 ((now_active b).0 m)) walked.core);
          }
