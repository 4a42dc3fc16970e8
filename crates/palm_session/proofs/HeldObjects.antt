-- The numbers of objects, and the chosen one, as a session holds them.
use Rattle.std.proofs.Common.{◌≡◌, ℕ, ◌==◌, Bool, true, false, not, if◌then◌else◌, Option, None, Some, List, Contains, IfSome, inl, inr, refl, ap, subst, ◌∙◌}
use Rattle.palm_base.proofs.cited.Members.{nat_known, member_known, filter_member, member_filter}
use Rattle.palm_book.specs.Book.{Contents}
use Rattle.palm_engine.specs.Engine.{View}
use Rattle.palm_search.specs.Calls.{SearchView}
use Rattle.palm_read.specs.declared.mode.Mode.{Mode}
use Rattle.palm_prefer.specs.declared.weights.Weight.{Weight}
use Rattle.palm_session.specs.Effects.{without_guide, without_order}
use Rattle.palm_session.specs.Objects.{ObjectsView, numbers_of, without_number, chosen_without, without_object}
use Rattle.palm_session.specs.Serving.{DeskView, desk_of}
use Rattle.palm_session.specs.State.{SessionState, IsHeld}

-- a number that is not missing is there
pub listed : (numbers : List ℕ) (number : ℕ) → ((Contains numbers number → ⊥) → ⊥) → Contains numbers number
listed numbers number there = elim (member_known nat_known numbers number) [ inl m ↦ m | inr n ↦ absurd (there n) ]

-- the numbers that are left were there before
pub left_inside : (number : ℕ) (numbers : List ℕ) (n : ℕ) → Contains (without_number number numbers) n → Contains numbers n
left_inside number numbers n m = (filter_member (λ (k : ℕ). not (k == number)) numbers n m).0

-- the chosen one that is left is there
pub left_chosen : (number : ℕ) (numbers : List ℕ) (chosen : Option ℕ) → IfSome chosen (Contains numbers) → IfSome (chosen_without number chosen) (Contains (without_number number numbers))
left_chosen number numbers None there = tt
left_chosen number numbers (Some n) there = by (n == number) refl
  where
    by : (b : Bool) → (n == number) ≡ b → IfSome (if b then None else Some n) (Contains (without_number number numbers))
    by true e = tt
    by false e = member_filter (λ (k : ℕ). not (k == number)) numbers n there (ap not e)

-- other guides, and another one chosen
pub held_guides : (s : SessionState) (numbers : List ℕ) (chosen : Option ℕ) → IfSome chosen (Contains numbers) → IsHeld s → IsHeld (record s { guides = numbers; guide = chosen })
held_guides s numbers chosen there is = record {
  book = is.book;
  weights = is.weights;
  accepted = is.accepted;
  numbered = is.numbered;
  guide = there;
  order = is.order;
  initial = is.initial;
  active = is.active;
  valid = is.valid;
}

-- other orders, and another one chosen
pub held_orders : (s : SessionState) (numbers : List ℕ) (chosen : Option ℕ) → IfSome chosen (Contains numbers) → IsHeld s → IsHeld (record s { orders = numbers; order = chosen })
held_orders s numbers chosen there is = record {
  book = is.book;
  weights = is.weights;
  accepted = is.accepted;
  numbered = is.numbered;
  guide = is.guide;
  order = there;
  initial = is.initial;
  active = is.active;
  valid = is.valid;
}

-- ---- an object is dropped

with_guides : (s : SessionState) (ns ms : List ℕ) (a b : Option ℕ) → ns ≡ ms → a ≡ b → ◌≡◌ {A = SessionState} (record s { guides = ns; guide = a }) (record s { guides = ms; guide = b })
with_guides s ns ms a b e f =
    ap (λ (ks : List ℕ). record s { guides = ks; guide = a }) e ∙ ap (λ (o : Option ℕ). record s { guides = ms; guide = o }) f

with_orders : (s : SessionState) (ns ms : List ℕ) (a b : Option ℕ) → ns ≡ ms → a ≡ b → ◌≡◌ {A = SessionState} (record s { orders = ns; order = a }) (record s { orders = ms; order = b })
with_orders s ns ms a b e f =
    ap (λ (ks : List ℕ). record s { orders = ks; order = a }) e ∙ ap (λ (o : Option ℕ). record s { orders = ms; order = o }) f

module _ {G O : Type 0} (mode : Mode) (book : Contents) (weights : List Weight) (engine : View) (accepted : ℕ) (paused : Bool) (guides : ObjectsView G) (orders : ObjectsView O) (search : SearchView) (d : DeskView G O) (is : desk_of mode book weights engine accepted paused guides orders search ≡ d) (number : ℕ) where
  pub guide_dropped : (left : ObjectsView G) → left ≡ without_object number guides → numbers_of left.places ≡ without_number number (numbers_of guides.places)
      → (desk_of mode book weights engine accepted paused left orders search).state ≡ without_guide d.state number
  guide_dropped left e numbers =
      subst (λ (z : DeskView G O). (desk_of mode book weights engine accepted paused left orders search).state ≡ without_guide z.state number) is
      (with_guides (desk_of mode book weights engine accepted paused guides orders search).state (numbers_of left.places) (without_number number (numbers_of guides.places)) left.chosen (chosen_without number guides.chosen) numbers
      (ap (λ (v : ObjectsView G). v.chosen) e))

  pub order_dropped : (left : ObjectsView O) → left ≡ without_object number orders → numbers_of left.places ≡ without_number number (numbers_of orders.places)
      → (desk_of mode book weights engine accepted paused guides left search).state ≡ without_order d.state number
  order_dropped left e numbers =
      subst (λ (z : DeskView G O). (desk_of mode book weights engine accepted paused guides left search).state ≡ without_order z.state number) is
      (with_orders (desk_of mode book weights engine accepted paused guides orders search).state (numbers_of left.places) (without_number number (numbers_of orders.places)) left.chosen (chosen_without number orders.chosen) numbers
      (ap (λ (v : ObjectsView O). v.chosen) e))
