-- A session that was just made.
use Rattle.std.proofs.Common.{◌≡◌, ℕ, List, [], false, length, refl, sym, subst, arith}
use Rattle.std.proofs.lemmas.List.Elements.{All-nil}
use Rattle.palm_book.specs.Book.{Contents}
use Rattle.palm_engine.specs.Engine.{View}
use Rattle.palm_model.specs.State.{blank}
use Rattle.palm_prefer.specs.declared.weights.Weight.{Weight}
use Rattle.palm_search.specs.Calls.{SearchView}
use Rattle.palm_read.specs.declared.mode.Mode.TheVariants.{First}
use Rattle.palm_session.specs.Feeding.{IsSession, view_of}
use Rattle.palm_session.specs.Objects.{HeldObjects, ObjectsView, all_placed, numbered}
use Rattle.palm_session.specs.Feeding.{IsUnfinished}
use Rattle.palm_session.specs.Serving.{DeskView, desk_of}
use Rattle.palm_session.specs.State.{fresh}
use Rattle.palm_session.proofs.Places.{placed_numbers}
use Rattle.palm_session.proofs.cited.LawsOfStates.{fresh_is}

none_kept : IsUnfinished []
none_kept = record { few = omega arith; unbroken = All-nil (λ b. b ≡ 10 → ⊥) }

pub made_session : {G O : Type 0} (guides orders : List ℕ) (objects : HeldObjects G O) (d : DeskView G O) (bytes : List ℕ) → d ≡ record { state = fresh guides orders; checks = 0; objects = objects } → bytes ≡ []
    → IsSession (view_of d bytes false)
made_session {G = G} {O = O} guides orders objects d bytes e none =
    subst (λ (x : DeskView G O). IsSession (view_of x bytes false)) (sym e)
    (subst (λ (x : List ℕ). IsSession (view_of {G = G} {O = O} (record { state = fresh guides orders; checks = 0; objects = objects }) x false)) (sym none)
    (record { unfinished = none_kept; state = λ open_still. fresh_is guides orders; counted = omega arith }))

-- a desk that was just made
pub made_desk : {G O : Type 0} (gs : List G) (os : List O) (n m : ℕ) (guides : ObjectsView G) (orders : ObjectsView O) (book : Contents) (weights : List Weight) (engine : View) (search : SearchView)
    → n ≡ length gs → m ≡ length os → guides ≡ all_placed gs → orders ≡ all_placed os → book ≡ record { variables = []; constraints = [] } → weights ≡ [] → engine.state ≡ blank [] → engine.checks ≡ 0 → search.journal ≡ []
    → desk_of First book weights engine 0 false guides orders search ≡ record { state = fresh (numbered n) (numbered m); checks = 0; objects = record { guides = all_placed gs; orders = all_placed os } }
made_desk gs os n m guides orders book weights engine search long wide one two none light still unasked empty =
    rw (one, two, none, light, still, unasked, empty, placed_numbers gs n long, placed_numbers os m wide) refl
