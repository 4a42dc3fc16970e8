-- Only constraints of users are active, also after one more is posted and after a settling.
use Rattle.std.proofs.Common.{◌≡◌, Option, None, true, Contains, inl, inr, sym, ap, ◌∙◌, subst}
use Rattle.std.specs.Prelude.{Result, Ok, Err, OnOk, OnErr, IfOk}
use Rattle.palm_model.specs.Log.{Active}
use Rattle.palm_model.specs.State.{EngineState, is_user}
use Rattle.palm_model.specs.Event.{Posts}
use Rattle.palm_events.proofs.cited.States.{with_posted_cases}
use Rattle.palm_engine.specs.Engine.{View}
use Rattle.palm_engine.specs.Following.{Hearing, HasSettledBy}
use Rattle.palm_engine.specs.declared.settle.Settle.{Settle}
use Rattle.palm_engine.proofs.cited.Settled.{settling_filters}
use Rattle.palm_search.specs.Kept.{HasOnlyUsers}

pub posted_users : (s t : EngineState) (a : Active) → is_user a.cid ≡ true → Posts s a t → HasOnlyUsers s → HasOnlyUsers t
posted_users s t a user posts only b m = elim (with_posted_cases a s.active b (subst (λ (z : EngineState). Contains z.active b) posts.after m)) [
  | inl e ↦ ap (λ (c : Active). is_user c.cid) (sym e) ∙ user
  | inr k ↦ only b k
]

-- a call that posts, or leaves all as it is
pub either_way : {T E : Type 0} (P Q R : Type 0) (result : Result T E) → OnOk result P → OnErr result Q → (P → R) → (Q → R) → R
either_way P Q R (Ok x) p q f g = f p
either_way P Q R (Err e) p q f g = g q

pub same_users : (s t : EngineState) → t.active ≡ s.active → HasOnlyUsers s → HasOnlyUsers t
same_users s t e only b m = only b (subst (λ l. Contains l b) e m)

pub settled_users : {O E : Type 0} (follows : Hearing → Option O → Option O → Type 0) (first last : Option O) (result : Result Settle E) (before after : View) → IfOk result (λ answer. HasSettledBy follows None first last answer before after)
    → HasOnlyUsers before.state → OnOk result (HasOnlyUsers after.state)
settled_users follows first last (Ok answer) before after by only = same_users before.state after.state (settling_filters None before.state by.settled.revisions after.state by.settled.settles).active only
settled_users follows first last (Err e) before after by only = tt
