-- What is preferred names constraints of the book.
use Rattle.std.proofs.Common.{◌≡◌, List, [], filter, All, Contains, refl, ap, subst}
use Rattle.std.proofs.lemmas.List.Elements.{All-contains}
use Rattle.palm_base.proofs.cited.Members.{all_members, filter_member, member_unmap}
use Rattle.palm_base.specs.declared.terms.Cid.{Cid}
use Rattle.palm_base.specs.declared.terms.Cid.TheVariants.{User}
use Rattle.palm_book.proofs.cited.Any.{any_member}
use Rattle.palm_book.specs.Book.{Contents, HasNumber, IsUser, active_of, initial_of, user_at}
use Rattle.palm_book.specs.declared.book.BookCon.{BookCon}
use Rattle.palm_laws.proofs.cited.Reducing.{left_within}
use Rattle.palm_model.specs.Log.{Active}
use Rattle.palm_model.specs.Minimal.{AreConflict, IsMinimalConflict}
use Rattle.palm_prefer.specs.Preferred.{IsKept, IsPreferred, hard}
use Rattle.palm_prefer.specs.declared.answer.LeftOut.{LeftOut}
use Rattle.palm_prefer.specs.declared.answer.Preferred.TheVariants.{Hard}
use Rattle.palm_prefer.specs.declared.weights.Weight.{Weight}
use Rattle.palm_prefer.proofs.cited.Keeping.{all_left, conflicts_hold, hard_active, order_active, walked_active}

-- an active constraint of the book is a user's
active_user : (book : Contents) (a : Active) → Contains (active_of book) a → IsUser book a.cid
active_user book a m =
    let r = member_unmap user_at (filter (λ (c : BookCon). c.active) book.constraints) a m in
    let f = filter_member (λ (c : BookCon). c.active) book.constraints r.0 r.1 in
    subst (IsUser book) (ap (λ (z : Active). z.cid) r.2) (any_member (λ (c : BookCon). c.number ≡ r.0.number) book.constraints r.0 f.0 refl)

minimal_users : (book : Contents) (among : List Active) (conflict : List Cid) → ((a : Active) → Contains among a → Contains (active_of book) a) → IsMinimalConflict (initial_of book) among conflict → All (IsUser book) conflict
minimal_users book among conflict sub minimal = all_members (IsUser book) conflict (λ cid m.
    let r = member_unmap (λ (a : Active). a.cid) minimal.left cid (subst (λ (z : List Cid). Contains z cid) minimal.named m) in
    subst (IsUser book) r.2 (active_user book r.0 (sub r.0 (left_within (AreConflict (initial_of book)) [] among minimal.left minimal.walk r.0 r.1))))

pub hard_users : (book : Contents) (weights : List Weight) (conflict : List Cid) → IsPreferred book weights (Hard conflict) → All (IsUser book) conflict
hard_users book weights conflict minimal = minimal_users book (hard book weights) conflict (hard_active book weights) minimal

-- ---- those that are kept and left out

module _ (book : Contents) (weights : List Weight) (keep : List Cid) (left : List LeftOut) (kept : IsKept book weights keep left) where
  pub kept_active : (a : Active) → Contains kept.kept a → Contains (active_of book) a
  kept_active = walked_active (initial_of book) (active_of book) (hard book weights) kept.order kept.kept left (hard_active book weights) (order_active book weights kept.order kept.ordered) kept.walk

  pub keep_users : All (IsUser book) keep
  keep_users = all_members (IsUser book) keep (λ cid m.
      let r = member_unmap (λ (a : Active). a.cid) kept.kept cid (subst (λ (z : List Cid). Contains z cid) kept.named m) in
      subst (IsUser book) r.2 (active_user book r.0 (kept_active r.0 r.1)))

  pub left_users : All (λ out. All (IsUser book) out.conflict) left
  left_users = all_left book (All (IsUser book)) (minimal_users book) (hard book weights) kept.order kept.kept left (hard_active book weights) (order_active book weights kept.order kept.ordered) kept.walk

  pub left_numbers : All (λ out. HasNumber book out.number) left
  left_numbers = all_members (λ (out : LeftOut). HasNumber book out.number) left (λ out m.
      All-contains (IsUser book) out.conflict (User out.number)
      (All-contains (λ (o : LeftOut). All (IsUser book) o.conflict) left out left_users m)
      (All-contains (λ (o : LeftOut). Contains o.conflict (User o.number)) left out (conflicts_hold book weights keep left kept) m))
