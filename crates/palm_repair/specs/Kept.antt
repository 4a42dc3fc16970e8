-- What a repair keeps from turn to turn.
use Rattle.std.specs.Prelude.{◌≡◌, ℕ, ◌+◌, true, List, [], ◌∷◌, ◌++◌, length, Contains}
use Rattle.palm_base.specs.declared.terms.Pair.{Pair}
use Rattle.palm_base.specs.declared.terms.Cid.{Cid}
use Rattle.palm_base.specs.declared.terms.Cid.TheVariants.{Not}
use Rattle.palm_model.specs.Domains.{Assignment, Has}
use Rattle.palm_model.specs.Constraint.{Distinct}
use Rattle.palm_model.specs.Closure.{IsSolution}
use Rattle.palm_model.specs.Log.{Active, IsActive, Named}
use Rattle.palm_model.specs.State.{EngineState, is_user}
use Rattle.palm_model.specs.Event.{vars_of}
use Rattle.palm_events.specs.Along.{IsStill}
use Rattle.palm_search.specs.Kept.{IsSearching}
use Rattle.palm_repair.specs.Posting.{Nogood, Origin, RepairState, undecided, justification}

-- ---- nogoods

-- the users are active, the pairs are declared ones of different variables, and no assignment that satisfies the users
-- has all the pairs
pub record IsNogood (s : EngineState) (nogood : Nogood) : Type 0 where
  pub users : (c : Cid) → Contains nogood.users c → (is_user c ≡ true) × IsActive s.active c
  pub declared : (p : Pair) → Contains nogood.pairs p → Has s.initial p.var p.value
  pub distinct : Distinct (vars_of nogood.pairs)
  pub refuted : (a : Assignment) → IsSolution s.initial (Named s.active (Contains nogood.users)) a
      → ((p : Pair) → Contains nogood.pairs p → a p.var ≡ p.value) → ⊥

-- the listed nogood has this number: as many were dropped or are older
pub record IsNumbered (s : RepairState) (number : ℕ) (nogood : Nogood) : Type 0 where
  pub older : List Nogood
  pub newer : List Nogood
  pub are : s.nogoods ≡ older ++ nogood ∷ newer
  pub counts : number ≡ s.dropped + length older

-- ---- negations

-- the negation of the pair came from a listed nogood that holds the pair, and has the justification of this nogood
pub record ComesFrom (s : RepairState) (p : Pair) (held : List Cid) : Type 0 where
  pub number : ℕ
  pub nogood : Nogood
  pub origin : Contains s.origins (record { pair = p; nogood = number })
  pub numbered : IsNumbered s number nogood
  pub holds : Contains nogood.pairs p
  pub justified : held ≡ justification nogood p

-- each active negation comes from a listed nogood, and the origins are those of active negations, one for each
pub record HasOrigins (s : RepairState) : Type 0 where
  pub comes : (a : Active) (p : Pair) → Contains s.search.engine.active a → a.cid ≡ Not p → ComesFrom s p a.justification
  pub active : (o : Origin) → Contains s.origins o → IsActive s.search.engine.active (Not o.pair)
  pub single : (o q : Origin) → Contains s.origins o → Contains s.origins q → o.pair ≡ q.pair → o ≡ q

-- ---- states

-- the engine and its decisions are those of a search, so all active negations are justified; the listed nogoods are
-- nogoods, each active negation comes from one of them, and each variable has a weight
pub record IsRepairing (s : RepairState) : Type 0 where
  pub searching : IsSearching s.search
  pub nogoods : (nogood : Nogood) → Contains s.nogoods nogood → IsNogood s.search.engine nogood
  pub origins : HasOrigins s
  pub weighed : length s.weights ≡ length s.search.engine.initial

-- not all pairs of the nogood are decided
abbrev pub HasUndecided : List Pair → Nogood → Type 0
HasUndecided decisions nogood = (p : Pair) × Contains (undecided decisions nogood) p

-- no listed nogood has all its pairs decided
abbrev pub HasNoneWhole : RepairState → Type 0
HasNoneWhole s = (nogood : Nogood) → Contains s.nogoods nogood → HasUndecided s.search.decisions nogood

-- what holds after posting: no listed nogood has all its pairs decided, and where one pair alone is left, its negation
-- is active
pub record IsPosted (s : RepairState) : Type 0 where
  pub none_whole : HasNoneWhole s
  pub forced : (nogood : Nogood) (p : Pair) → Contains s.nogoods nogood → undecided s.search.decisions nogood ≡ p ∷ []
      → IsActive s.search.engine.active (Not p)

-- what holds between two turns; nothing is pending then, or a domain is empty
pub record IsAtTurn (s : RepairState) : Type 0 where
  pub repairing : IsRepairing s
  pub posted : IsPosted s
  pub still : IsStill s.search.engine
