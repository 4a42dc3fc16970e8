-- What was taken of a source that tells its bytes, and counts that rose.
use Rattle.std.proofs.Common.{◌≡◌, ℕ, ◌+◌, List, ◌++◌, length, take, Option, Some, None, sym, ap, ◌∙◌, subst, arith, length-append}
use Rattle.std.proofs.Math.Seq.{take-append_seam}
use Rattle.palm_base.specs.Streams.{Consumes, Rose}

-- a count that stood, and then rose
pub rose_after : (a b c : ℕ) → b ≡ a → Rose b c → Rose a c
rose_after a b c e r = subst (λ (n : ℕ). Rose n c) e r

-- where the source tells its bytes, it is known which were taken
taken_once : (left : List ℕ) (now_left : Option (List ℕ)) (a b : List ℕ) → Consumes (Some left) now_left a → Consumes (Some left) now_left b → a ≡ b
taken_once left None a b t u = absurd t
taken_once left (Some n) a b t u =
    let la : length left ≡ length a + length n = ap length t ∙ length-append a n in
    let lb : length left ≡ length b + length n = ap length u ∙ length-append b n in
    let same : length a ≡ length b = omega (arith, la, lb) in
    sym (take-append_seam a n) ∙ ap (λ (z : List ℕ). take (length a) z) (sym t ∙ u)
    ∙ ap (λ (k : ℕ). take k (b ++ n)) same ∙ take-append_seam b n

pub told_once : (before after : Option (List ℕ)) (left a b : List ℕ) → before ≡ Some left → Consumes before after a → Consumes before after b
    → a ≡ b
told_once before after left a b told t u =
    taken_once left after a b (subst (λ (z : Option (List ℕ)). Consumes z after a) told t)
    (subst (λ (z : Option (List ℕ)). Consumes z after b) told u)
