-- What holds of all of two lists, one behind the other, holds of all of each.
use Rattle.std.proofs.Common.{List, ◌++◌, All}
use Rattle.std.proofs.lemmas.List.Elements.{All-contains, Contains-append_left, Contains-append_right}
use Rattle.palm_base.proofs.cited.Members.{all_members}

pub all_left : {X : Type 0} (P : X → Type 0) (xs ys : List X) → All P (xs ++ ys) → All P xs
all_left P xs ys h = all_members P xs (λ x m. All-contains P (xs ++ ys) x h (Contains-append_left xs ys x m))

pub all_right : {X : Type 0} (P : X → Type 0) (xs ys : List X) → All P (xs ++ ys) → All P ys
all_right P xs ys h = all_members P ys (λ x m. All-contains P (xs ++ ys) x h (Contains-append_right xs ys x m))
