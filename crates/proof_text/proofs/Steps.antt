-- The pair of a right step is not in closed domains that fit what is assumed.
use Rattle.std.proofs.Common.{List, inl, inr, sym, subst}
use Rattle.palm_base.specs.declared.terms.Pair.{Pair}
use Rattle.palm_book.specs.Book.{Contents, initial_of}
use Rattle.palm_model.specs.Closure.{IsClosed}
use Rattle.palm_model.specs.Domains.{Domains, Has, IsInside, without}
use Rattle.palm_model.specs.declared.constraint.Con.{Con}
use Rattle.palm_model.proofs.cited.Trials.{support_grows}
use Rattle.palm_model.proofs.cited.Without.{has_without, pair_of}
use Rattle.palm_claim.specs.Step.{Given, IsRightBy, pairs_at}
use Rattle.palm_claim.specs.declared.ground.Ground.{Ground}
use Rattle.palm_claim.specs.declared.ground.Ground.TheVariants.{By, Assumed, OfLemma}
use Rattle.palm_claim.proofs.cited.Asked.{pair_known}
use Rattle.proof_text.specs.Sound.{Fits, IsBacked, LacksEach}

pub right_lacks : (book : Contents) (given : Given) (E : Con → Type 0) (proved : List Pair) (pair : Pair) (ground : Ground) (d : Domains)
    → IsInside d (initial_of book) → IsClosed E d → Fits given.pairs d → LacksEach d proved
    → IsBacked book given proved E d ground → IsRightBy book given proved pair ground → Has d pair.var pair.value → ⊥
right_lacks book given E proved pair (By name reasons) d inside closed fits lacks backed right has =
    let gone : List Pair = pairs_at proved reasons in
    let narrow : IsInside d (without (initial_of book) gone) = λ x v h.
    has_without (initial_of book) gone x v (inside x v h) (λ m. lacks (pair_of x v) (backed.0 (pair_of x v) m) h) in
    right.lacks.lacks (support_grows d (without (initial_of book) gone) right.lacks.part pair.var pair.value narrow
    (closed right.owner.con right.lacks.part (backed.1 right.owner right.listed right.named) right.lacks.is_part pair.var pair.value right.lacks.over has))
right_lacks book given E proved pair Assumed d inside closed fits lacks backed right has =
    right.value (sym (fits.only right.other pair.value right.given (subst (λ x. Has d x pair.value) (sym right.var) has)))
right_lacks book given E proved pair (OfLemma number) d inside closed fits lacks backed right has =
    backed right.pairs right.stands (λ q m. elim (pair_known q pair) [
      | inl e ↦ subst (λ (r : Pair). Has d r.var r.value) (sym e) has
      | inr n ↦ fits.held q (right.others q m n)
    ])
