-- One write after another, and one read after another.
use Rattle.std.proofs.Common.{◌≡◌, ℕ, ◌-◌, List, [], ◌++◌, length, take, drop, Option, Some, None, refl, sym, ◌∙◌, ap, append_assoc, append-nil, arith}
use Rattle.std.proofs.lemmas.List.{take-append-drop}
use Rattle.std.proofs.lemmas.Slice.{between_to_end}
use Rattle.palm_base.specs.Streams.{Appended, Consumes}

-- nothing was written
pub appended_nothing : (a : Option (List ℕ)) → Appended a a []
appended_nothing None = tt
appended_nothing (Some x) = sym (append-nil x)

-- what was written in two steps
pub appended_both : (a b c : Option (List ℕ)) (x y : List ℕ) → Appended a b x → Appended b c y → Appended a c (x ++ y)
appended_both a b None x y p q = tt
appended_both None None (Some w) x y p q = q
appended_both None (Some v) (Some w) x y p q = absurd p
appended_both (Some u) None (Some w) x y p q = absurd q
appended_both (Some u) (Some v) (Some w) x y p q = q ∙ ap (λ z. z ++ y) p ∙ append_assoc u x y

-- nothing was taken
pub consumes_nothing : (a : Option (List ℕ)) → Consumes a a []
consumes_nothing None = tt
consumes_nothing (Some x) = refl

-- what was taken in two steps
pub consumes_both : (a b c : Option (List ℕ)) (x y : List ℕ) → Consumes a b x → Consumes b c y → Consumes a c (x ++ y)
consumes_both None b c x y p q = tt
consumes_both (Some u) None c x y p q = absurd p
consumes_both (Some u) (Some v) None x y p q = absurd q
consumes_both (Some u) (Some v) (Some w) x y p q = p ∙ ap (λ z. x ++ z) q ∙ sym (append_assoc x y w)

-- a text of which a front was written, after some more bytes of it
pub front_more : (text front rest : List ℕ) (n : ℕ) → text ≡ front ++ rest → text ≡ (front ++ take n rest) ++ take (length rest - n) (drop n rest)
front_more text front rest n e =
    e ∙ ap (λ z. front ++ z) (sym (take-append-drop n rest)) ∙ sym (append_assoc front (take n rest) (drop n rest))
    ∙ ap (λ z. (front ++ take n rest) ++ z) (sym (between_to_end rest n (length rest) (omega arith)))
