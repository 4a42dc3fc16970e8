-- The grounds of steps: the reader reads just the tokens of one.
use Rattle.std.proofs.Common.{◌≡◌, ℕ, Some, List, [], ◌∷◌, codes, refl, sym, ap, subst, inl, inr}
use Rattle.palm_read.specs.declared.tokens.TokenKind.TheVariants.{Digits}
use Rattle.palm_read.specs.Piece.{Natural, digits_number}
use Rattle.palm_read.specs.Reader.Steps.{and_then, when, choose, front_text, token_at, behind, keyword_at}
use Rattle.palm_read.specs.Token.{Lexeme}
use Rattle.palm_read.proofs.cited.Begins.{Begins, over, begins_over, by_digits, by_keyword, by_name, keyword_first, name_first, natural_first}
use Rattle.palm_read.proofs.cited.Front.{and_then_some, when_some, guard_some, token_at-cons, name_at-cons}
use Rattle.palm_claim.specs.declared.ground.Ground.{Ground}
use Rattle.palm_claim.specs.declared.ground.Ground.TheVariants.{By, Assumed, OfLemma}
use Rattle.palm_claim.proofs.cited.Phrases.{number_from, number_pieces, number_to, reasons_again, reasons_takes}
use Rattle.palm_claim.proofs.cited.Saying.{Taken, taken_as}
use Rattle.proof_text.specs.Reader.{by_at, ground_at, lemma_number_at, of_lemma_at}
use Rattle.proof_text.specs.Statement.{IsGroundInRange, IsLemmaNumber, ground_pieces}

-- ---- numbers of lemmas

lemma_number_takes : (tokens : List Lexeme) (x : ℕ × List Lexeme) → lemma_number_at tokens ≡ Some x → Taken number_pieces IsLemmaNumber tokens x
unfolding lemma_number_at
lemma_number_takes tokens x e =
    let digits = and_then_some e in
    let g = guard_some digits.2 in
    let number = digits_number digits.0.0 in
    taken_as number_pieces IsLemmaNumber tokens (number, digits.0.1) x g.1 (by_digits digits.1 over, number_from 18446744073709551615 number g.0)

lemma_number_again : (k : ℕ) (tokens : List Lexeme) → IsLemmaNumber k → Begins tokens (Natural k ∷ []) [] → lemma_number_at tokens ≡ Some (k, [])
unfolding lemma_number_at and_then choose
lemma_number_again k tokens is b =
    let d = natural_first b in
    let made : ℕ → ℕ × List Lexeme = λ n. (n, []) in
    rw (d.2, token_at-cons Digits d.0 d.1, number_to 18446744073709551615 (digits_number d.0) (subst IsLemmaNumber d.3 is), begins_over d.4) (ap (λ n. Some (made n)) (sym d.3))

-- ---- grounds

abbrev TakenGround : List Lexeme → Ground × List Lexeme → Type 0
TakenGround tokens x = Taken ground_pieces IsGroundInRange tokens x

by_takes : (tokens back : List Lexeme) (x : Ground × List Lexeme) → keyword_at (codes "by") tokens ≡ Some back → by_at back ≡ Some x → TakenGround tokens x
unfolding by_at
by_takes tokens back x k e =
    let name = and_then_some e in
    let reasons = and_then_some name.2 in
    let r = reasons_takes name.0.1 reasons.0 reasons.1 in
    taken_as ground_pieces IsGroundInRange tokens (By name.0.0 reasons.0.0, reasons.0.1) x reasons.2 (by_keyword k (by_name name.1 r.0), r.1)

of_lemma_takes : (tokens : List Lexeme) (x : Ground × List Lexeme) → of_lemma_at tokens ≡ Some x → TakenGround tokens x
unfolding of_lemma_at
of_lemma_takes tokens x e =
    let rest = and_then_some e in
    let number = and_then_some rest.2 in
    let n = lemma_number_takes rest.0 number.0 number.1 in
    taken_as ground_pieces IsGroundInRange tokens (OfLemma number.0.0, number.0.1) x number.2 (by_keyword rest.1 n.0, n.1)

pub ground_takes : (tokens : List Lexeme) (x : Ground × List Lexeme) → ground_at tokens ≡ Some x → TakenGround tokens x
unfolding ground_at
ground_takes tokens x e =
    elim (when_some e) [
      | inl w ↦ by_takes tokens w.0 x w.1 w.2
      | inr u ↦ elim (when_some u.1) [
        | inl w ↦ taken_as ground_pieces IsGroundInRange tokens (Assumed, w.0) x w.2 (by_keyword w.1 over, tt)
        | inr w ↦ of_lemma_takes tokens x w.1
      ]
    ]

pub ground_again : (ground : Ground) (tokens : List Lexeme) → IsGroundInRange ground → Begins tokens (ground_pieces ground) [] → ground_at tokens ≡ Some (ground, [])
unfolding ground_at by_at of_lemma_at behind token_at front_text and_then when choose
ground_again (By name reasons) tokens range b =
    let k = keyword_first b in
    let n = name_first k.2 in
    rw (k.1, n.1, name_at-cons name n.0 n.2, reasons_again reasons n.0 range n.3) refl
ground_again Assumed tokens range b = let k = keyword_first b in rw (k.1, begins_over k.2) refl
ground_again (OfLemma number) tokens range b = let k = keyword_first b in rw (k.1, lemma_number_again number k.0 range k.2) refl
