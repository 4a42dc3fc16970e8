-- Sets of ids.
use Rattle.std.specs.Prelude.{◌≡◌, ◌⊎◌, ℕ, ◌<◌, ◌^◌, List, ◌++◌, Contains}
use Rattle.palm_base.specs.declared.terms.Pair.{Pair}
use Rattle.palm_base.specs.declared.terms.Cid.{Cid}
use Rattle.palm_base.specs.declared.terms.Cid.TheVariants.{Decide, Not, User}
use Rattle.palm_base.specs.Order.{Rises}
use Rattle.palm_explain.specs.declared.places.PlaceWord.{PlaceWord}
use Rattle.palm_explain.specs.declared.cid_set.Numbered.{Numbered}
use Rattle.palm_explain.specs.declared.cid_set.Numbered.TheVariants.{Decisions, Users}
use Rattle.palm_explain.specs.Places.{HasPlace, IsIn}
use Rattle.palm_model.specs.Log.{IsListOf}

-- decisions by their variables, negations, and users by their numbers
pub record CidMembers : Type 0 where
  pub decisions : List PlaceWord
  pub negations : List Cid
  pub users : List PlaceWord

-- the id is in the set
abbrev pub IsMember : CidMembers → Cid → Type 0
IsMember ids (Decide x) = HasPlace ids.decisions x
IsMember ids (Not p) = Contains ids.negations (Not p)
IsMember ids (User n) = HasPlace ids.users n

-- the id of the decision on the variable, or of the user with the number
abbrev pub id_of : Numbered → ℕ → Cid
id_of Decisions x = Decide x
id_of Users n = User n

-- the id is one of these, by one of the numbers
abbrev pub IsIdIn : Numbered → List PlaceWord → Cid → Type 0
IsIdIn ids words cid = (n : ℕ) × (cid ≡ id_of ids n) × HasPlace words n

-- the id is one of these, by a number of the word
abbrev pub IsIdOf : Numbered → PlaceWord → Cid → Type 0
IsIdOf ids word cid = (n : ℕ) × (cid ≡ id_of ids n) × IsIn word n

-- each stands for an id: the variables and the numbers are small, and the list has negations alone
pub record AreMembers (decisions : List PlaceWord) (negations : List Cid) (users : List PlaceWord) : Type 0 where
  pub variables : (x : ℕ) → HasPlace decisions x → x < 2 ^ 32
  pub rising : Rises negations
  pub negated : (c : Cid) → Contains negations c → (p : Pair) × (c ≡ Not p)
  pub numbers : (n : ℕ) → HasPlace users n → n < 2 ^ 32

-- all with the one property or with the other
pub record IsJoined (before more after : Cid → Type 0) : Type 0 where
  pub sound : (c : Cid) → after c → before c ⊎ more c
  pub first : (c : Cid) → before c → after c
  pub second : (c : Cid) → more c → after c

-- the ids of the one set, those with the property, and no others
abbrev pub Adds : CidMembers → (Cid → Type 0) → CidMembers → Type 0
Adds before more after = IsJoined (IsMember before) more (IsMember after)

-- the ids of the one set, some of those with the property, and no others
pub record AddsSome (before : CidMembers) (more : Cid → Type 0) (after : CidMembers) : Type 0 where
  pub sound : (c : Cid) → IsMember after c → IsMember before c ⊎ more c
  pub first : (c : Cid) → IsMember before c → IsMember after c

-- behind the ids of the one list stand those with the property, by rising id
pub record HasAppended (before : List Cid) (P : Cid → Type 0) (after : List Cid) : Type 0 where
  pub more : List Cid
  pub behind : after ≡ before ++ more
  pub listed : IsListOf P more
