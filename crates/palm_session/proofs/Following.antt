-- What follows a change that does not wait.
use Rattle.std.proofs.Common.{◌≡◌, ℕ, ◌-◌, ◌≤◌, Bool, false, List, Option, None, Some, length, refl, sym, ap, subst, arith, if◌then◌else◌}
use Rattle.palm_base.specs.declared.limits.TheConstants.{LAST_COUNT}
use Rattle.palm_book.specs.Book.{Contents}
use Rattle.palm_engine.specs.Engine.{View, HasAsked}
use Rattle.palm_engine.specs.Following.{HasSettledBy}
use Rattle.palm_engine.specs.Settling.{FitsOrder}
use Rattle.palm_engine.specs.declared.settle.Settle.{Settle}
use Rattle.palm_search.specs.Calls.{SearchView}
use Rattle.palm_read.specs.declared.mode.Mode.{Mode}
use Rattle.palm_prefer.specs.declared.weights.Weight.{Weight}
use Rattle.palm_session.specs.Led.{Guiding, Ordering, LeadsOn}
use Rattle.palm_session.specs.Objects.{HeldObjects, ObjectsView, LendsChosen, chosen_object}
use Rattle.palm_session.specs.Effects.{Settled, Next, Filters, Rests, unless_paused, with_engine, with_search}
use Rattle.palm_session.specs.Serving.{AsksWithin, DeskView, Ran, Followed, desk_of}
use Rattle.palm_session.specs.State.{SessionState}

module _ {G O : Type 0} (guiding : Guiding G) (ordering : Ordering O) (s t : SessionState) (before after : HeldObjects G O) where
  pub ran_followed : (told asked : ℕ) → s.paused ≡ false → Ran ordering s None told before t after asked → Followed guiding ordering s (unless_paused s) before t after asked
  ran_followed told asked awake ran =
      let e : unless_paused s ≡ Filters None = ap (λ (b : Bool). if b then Rests else Filters None) awake in
      record {
        effect = Settled ran.count;
        leads = subst (λ (w : Next). LeadsOn guiding ordering s w (Settled ran.count) before t after) (sym e) ran.filters;
        asks = subst (λ (w : Next). AsksWithin s.engine w t.engine asked) (sym e) ran.asks;
      }

-- no more revisions run than the limit says, so as many are told as ran
pub steps_told : {G O : Type 0} (ordering : Ordering O) (s : SessionState) (limit told : ℕ) (before : HeldObjects G O) (t : SessionState) (after : HeldObjects G O) (asked : ℕ)
    → limit ≤ LAST_COUNT → (ran : Ran ordering s (Some limit) told before t after asked) → told ≡ ran.count
steps_told ordering s limit told before t after asked few ran =
    let settles = ran.filters.settles in
    let within : length settles.revisions ≤ limit = settles.settles.within in
    omega (arith, ran.told_is, settles.counted, within, few)

-- ---- a desk whose objects were lent

-- lent objects have the same numbers
module _ {G O : Type 0} (mode : Mode) (book : Contents) (weights : List Weight) (engine after : View) (accepted : ℕ) (paused : Bool) (guides others : ObjectsView G) (orders more : ObjectsView O) (search done : SearchView) where
  settled_state : LendsChosen orders more
      → (desk_of mode book weights after accepted paused guides more search).state ≡ with_engine (desk_of mode book weights engine accepted paused guides orders search).state after.state
  settled_state lends = rw (lends.numbers, lends.chosen) refl

  pub lent_state : LendsChosen guides others → LendsChosen orders more
      → (desk_of mode book weights after accepted paused others more done).state ≡ with_search (desk_of mode book weights engine accepted paused guides orders search).state done.journal after.state
  lent_state one two = rw (one.numbers, one.chosen, two.numbers, two.chosen) refl

-- an engine that has settled by a lent order, among what a desk holds
pub settled_desk : {G O : Type 0} (ordering : Ordering O) (mode : Mode) (book : Contents) (weights : List Weight) (engine after : View) (accepted : ℕ) (paused : Bool) (guides : ObjectsView G) (orders more : ObjectsView O) (search : SearchView) (d : DeskView G O)
    (limit : Option ℕ) (answer : Settle) (was now : ℕ) → desk_of mode book weights engine accepted paused guides orders search ≡ d → LendsChosen orders more
    → HasSettledBy ordering limit (chosen_object orders) (chosen_object more) answer engine after → HasAsked engine.state after.state was now
    → Ran ordering d.state limit after.revisions d.objects (desk_of mode book weights after accepted paused guides more search).state (desk_of mode book weights after accepted paused guides more search).objects (now - was)
settled_desk {G = G} {O = O} ordering mode book weights engine after accepted paused guides orders more search d limit answer was now is lends by asked =
    let e = desk_of mode book weights after accepted paused guides more search in
    let settled = by.settled in
    subst (λ (z : DeskView G O). Ran ordering z.state limit after.revisions z.objects e.state e.objects (now - was)) is (record {
      count = length settled.revisions;
      filters = record {
        settles = record { revisions = settled.revisions; settles = settled.settles; fits = subst (λ (b : Bool). FitsOrder b settled.revisions) lends.there settled.fits; counted = refl };
        followed = by.followed;
        state = settled_state mode book weights engine after accepted paused guides guides orders more search search lends;
        orders = lends;
        guides = refl;
      };
      told_is = settled.counted;
      asks = (asked.gained, asked.log, omega (arith, asked.later, asked.paid));
    })
