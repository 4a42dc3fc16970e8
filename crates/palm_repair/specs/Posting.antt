-- Nogoods, and the negations that are posted for them.
use Rattle.std.specs.Prelude.{◌≡◌, ℕ, ◌+◌, ◌⊎◌, Bool, not, List, [], ◌∷◌, ◌++◌, map, flat_map, filter, nat_eq}
use Rattle.std.specs.List.{list_any}
use Rattle.palm_model.specs.State.{EngineState, is_user, negation_of}
use Rattle.palm_base.specs.declared.terms.Pair.{Pair}
use Rattle.palm_base.specs.declared.terms.Cid.{Cid}
use Rattle.palm_base.specs.declared.terms.Cid.TheVariants.{Decide, Not, User}
use Rattle.palm_base.specs.Order.{same_pair}
use Rattle.palm_model.specs.Log.{Active, IsActive, is_named, cids_of}
use Rattle.palm_model.specs.Event.{Posts}
use Rattle.palm_search.specs.Turns.{SearchState}

-- ---- nogoods

-- the decided pairs and the users of one flat conflict
pub record Nogood : Type 0 where
  pub pairs : List Pair
  pub users : List Cid

-- the decision under the id, as a pair
abbrev pub pairs_under : List Pair → Cid → List Pair
pairs_under decisions (Decide x) = filter (λ p. nat_eq p.var x) decisions
pairs_under decisions (Not p) = []
pairs_under decisions (User n) = []

-- the nogood of a flat conflict
abbrev pub nogood_of : List Pair → List Cid → Nogood
nogood_of decisions conflict = record { pairs = flat_map (pairs_under decisions) conflict; users = filter is_user conflict }

-- ---- the state

-- the nogood from which the present posting of a negation came: nogoods are numbered from 0 in the order in which they
-- were appended
pub record Origin : Type 0 where
  pub pair : Pair
  pub nogood : ℕ

-- what a repair holds beside the search: the listed nogoods with the oldest first, where the active negations come
-- from, one weight for each variable, and how many nogoods were dropped, which is the number of the oldest listed one
pub record RepairState : Type 0 where
  pub search : SearchState
  pub nogoods : List Nogood
  pub origins : List Origin
  pub weights : List ℕ
  pub dropped : ℕ

-- ---- posting

-- whether the pair is one of the decisions
abbrev pub is_decided : List Pair → Pair → Bool
is_decided decisions p = list_any (λ q. same_pair q p) decisions

-- the pairs that are not decided
abbrev pub undecided : List Pair → Nogood → List Pair
undecided decisions nogood = filter (λ p. not (is_decided decisions p)) nogood.pairs

-- why the pair cannot hold: the decisions of the other pairs, and the users
abbrev pub justification : Nogood → Pair → List Cid
justification nogood p = map (λ q. Decide q.var) (filter (λ q. not (same_pair q p)) nogood.pairs) ++ nogood.users

-- the origins of the negations that are still active
abbrev pub active_origins : List Active → List Origin → List Origin
active_origins active origins = filter (λ o. is_named (cids_of active) (Not o.pair)) origins

-- the negation of the pair comes from this nogood from now on
abbrev pub with_origin : Pair → ℕ → List Origin → List Origin
with_origin p number origins = record { pair = p; nogood = number } ∷ filter (λ o. not (same_pair o.pair p)) origins

-- the negation of the pair is posted for the nogood
pub record PostsNegation (s : RepairState) (number : ℕ) (nogood : Nogood) (p : Pair) (t : RepairState) : Type 0 where
  pub posts : Posts s.search.engine (negation_of p (justification nogood p)) t.search.engine
  pub after : t ≡ record s { search = record { engine = t.search.engine; decisions = s.search.decisions }; origins = with_origin p number s.origins }

-- with exactly one undecided pair, the negation of that pair is posted where it is not active; else nothing happens
abbrev pub PostsFor : RepairState → ℕ → Nogood → List Pair → RepairState → Type 0
PostsFor s number nogood [] t = t ≡ s
PostsFor s number nogood (p ∷ []) t =
    (IsActive s.search.engine.active (Not p) × (t ≡ s)) ⊎ PostsNegation s number nogood p t
PostsFor s number nogood (p ∷ q ∷ pairs) t = t ≡ s

-- the listed nogoods are walked from the oldest on; the first of these has the number
abbrev pub PostsFrom : RepairState → ℕ → List Nogood → RepairState → Type 0
PostsFrom s number [] t = t ≡ s
PostsFrom s number (nogood ∷ nogoods) t =
    (m : RepairState) × PostsFor s number nogood (undecided s.search.decisions nogood) m × PostsFrom m (number + 1) nogoods t

-- negations are posted for all listed nogoods
abbrev pub PostsAll : RepairState → RepairState → Type 0
PostsAll s t = PostsFrom s s.dropped s.nogoods t

-- negations are posted for the oldest of the listed nogoods, up to some place, and the engine is as it is then
pub record PostsSome (s : RepairState) (t : EngineState) : Type 0 where
  pub walked : List Nogood
  pub others : List Nogood
  pub are : s.nogoods ≡ walked ++ others
  pub last : RepairState
  pub posts : PostsFrom s s.dropped walked last
  pub is : t ≡ last.search.engine
