-- An engine gets the variables and the constraints of a book one by one.
use Rattle.std.proofs.Common.{◌≡◌, ℕ, ◌+◌, ◌<◌, ◌≤◌, List, [], ◌∷◌, ◌++◌, map, take, length, get_or, slice_get, Some, AllPairs, Contains, filter, inl, inr, sym, ap, ◌∙◌, subst, arith}
use Rattle.std.specs.Prelude.{◌↔◌}
use Rattle.std.proofs.lemmas.List.{get_or-take, length-take, map-append, take_all, take_more}
use Rattle.std.proofs.lemmas.List.Elements.{Contains-append_left, Contains-push, Contains-push_cases}
use Rattle.std.proofs.lemmas.Option.{get_or_from_slice_get, slice_get_within}
use Rattle.palm_base.specs.declared.terms.Cid.TheVariants.{User}
use Rattle.palm_base.proofs.cited.Members.{filter_member, member_map, member_nil, member_same, member_unmap}
use Rattle.palm_book.specs.Book.{Contents, AreValues, IsBook, user_at, values_at}
use Rattle.palm_book.specs.declared.book.BookCon.{BookCon}
use Rattle.palm_events.proofs.cited.States.{member_with_posted, with_posted_cases, with_posted_here}
use Rattle.palm_model.specs.Event.{Posts, with_posted}
use Rattle.palm_model.specs.Log.{Active, IsActive}
use Rattle.palm_model.specs.State.{EngineState, user_of}
use Rattle.palm_model.specs.declared.constraint.Con.{Con}
use Rattle.palm_reduce.specs.Kept.{CanLend}

pub row_values : (book : Contents) → IsBook book → (x : ℕ) → x < length book.variables → AreValues (values_at book.variables x)
row_values book is x lt = is.values x (record { name = []; values = [] }) lt

-- the constraints before a place have lower numbers
earlier : (cs : List BookCon) → AllPairs (λ c d. c.number < d.number) cs → (place : ℕ) (c : BookCon) → slice_get cs place ≡ Some c → (d : BookCon) → Contains (take place cs) d → d.number < c.number
earlier cs rising place c at d m =
    let lt : m.0 < place = omega (arith, m.1, length-take place cs) in
    let here : get_or cs m.0 d ≡ d = sym (get_or-take place cs m.0 d lt) ∙ m.2 in
    subst (λ (z : BookCon). z.number < c.number) here
    (subst (λ (z : BookCon). (get_or cs m.0 d).number < z.number) (get_or_from_slice_get cs place c d at) (rising m.0 place d lt (slice_get_within cs place c at)))

number_of : (m n : ℕ) → User m ≡ User n → m ≡ n
number_of m n e = cc

-- the engine has so many variables, and exactly the constraints before a place
pub record HasFirst (cs : List BookCon) (variables place : ℕ) (s : EngineState) : Type 0 where
  pub count : length s.initial ≡ variables
  pub active : (a : Active) → Contains s.active a ↔ Contains (map user_at (take place cs)) a

pub first_none : (cs : List BookCon) (variables : ℕ) (s : EngineState) → length s.initial ≡ variables → s.active ≡ [] → HasFirst cs variables 0 s
first_none cs variables s full none = record {
  count = full;
  active = λ a. (λ m. subst (λ (z : List Active). Contains z a) none m, λ m. absurd (member_nil a m));
}

module _ (cs : List BookCon) (variables place : ℕ) (c : BookCon) (at : slice_get cs place ≡ Some c) (s : EngineState) (has : HasFirst cs variables place s) where
  abbrev before : List Active
  before = map user_at (take place cs)

  one_more : map user_at (take (place + 1) cs) ≡ before ++ user_at c ∷ []
  one_more =
      ap (map user_at) (take_more cs place c (slice_get_within cs place c at) ∙ ap (λ (d : BookCon). take place cs ++ d ∷ []) (get_or_from_slice_get cs place c c at))
      ∙ map-append user_at (take place cs) (c ∷ [])

  pub not_yet : AllPairs (λ c d. c.number < d.number) cs → IsActive s.active (User c.number) → ⊥
  not_yet rising is =
      let r = member_unmap user_at (take place cs) is.owner ((has.active is.owner).0 is.posted) in
      let same = number_of r.0.number c.number (ap (λ (a : Active). a.cid) r.2 ∙ is.named) in
      let lower = earlier cs rising place c at r.0 r.1 in
      omega (arith, same, lower)

  -- one that is posted
  pub first_posted : AllPairs (λ c d. c.number < d.number) cs → (con : Con) → con ≡ c.con → (t : EngineState) → Posts s (user_of c.number con) t → HasFirst cs variables (place + 1) t
  first_posted rising con same t posts = record {
    count = ap (λ (z : EngineState). length z.initial) posts.after ∙ has.count;
    active = λ a. (
      λ m. subst (λ (z : List Active). Contains z a) (sym one_more) (elim (with_posted_cases (user_at c) s.active a (subst (λ (z : List Active). Contains z a) t_active m)) [
        | inl e ↦ member_same (before ++ user_at c ∷ []) (user_at c) a e (Contains-push before (user_at c))
        | inr k ↦ Contains-append_left before (user_at c ∷ []) a ((has.active a).0 k)
      ]),
      λ m. subst (λ (z : List Active). Contains z a) (sym t_active) (elim (Contains-push_cases before (user_at c) a (subst (λ (z : List Active). Contains z a) one_more m)) [
        | inl k ↦ member_with_posted (user_at c) s.active a (not_yet rising) ((has.active a).1 k)
        | inr e ↦ member_same (with_posted (user_at c) s.active) (user_at c) a e (with_posted_here (user_at c) s.active)
      ]),
    );
  }
    where
      t_active : t.active ≡ with_posted (user_at c) s.active
      t_active = ap (λ (z : EngineState). z.active) posts.after ∙ ap (λ (d : Con). with_posted (user_of c.number d) s.active) same

pub all_lend : (book : Contents) (variables place : ℕ) (s : EngineState) → length book.constraints ≤ place → HasFirst book.constraints variables place s → CanLend book s
all_lend book variables place s le has a m =
    let r = member_unmap user_at (filter (λ (c : BookCon). c.active) book.constraints) a m in
    let listed = (filter_member (λ (c : BookCon). c.active) book.constraints r.0 r.1).0 in
    (has.active a).1 (subst (λ (z : List BookCon). Contains (map user_at z) a) (sym (take_all place book.constraints le))
    (member_same (map user_at book.constraints) (user_at r.0) a r.2 (member_map user_at book.constraints r.0 listed)))
