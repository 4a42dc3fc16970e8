-- The texts of what passes a test, one after another.
use Rattle.std.proofs.Common.{◌≡◌, ℕ, ◌+◌, ◌≤◌, Bool, true, false, cond, Some, List, [], ◌∷◌, ◌++◌, length, take, drop, filter, flat_map, Result, Ok, Err, sym, ap, ◌∙◌, append-nil}
use Rattle.std.specs.Prelude.{slice_get}
use Rattle.std.specs.Result.{IsErrAnd}
use Rattle.std.proofs.lemmas.Grind.{flat_map-append}
use Rattle.std.proofs.lemmas.List.{take-append-drop, take_all, take_more}
use Rattle.std.proofs.lemmas.List.Elements.{filter-append}
use Rattle.std.proofs.lemmas.Option.{get_or_from_slice_get, slice_get_within}
use Rattle.palm_base.specs.Streams.{SinkState}
use Rattle.palm_lang.specs.Writer.{Wrote}
use Rattle.palm_lang.specs.declared.stop.WriteStop.{WriteStop}
use Rattle.palm_lang.specs.declared.writer.Writer.{Writer}
use Rattle.palm_lang.proofs.cited.Wrote.{wrote_front, wrote_text, wrote_then}

-- one more of the first members
pub take_some : {X : Type 0} (xs : List X) (i : ℕ) (x : X) → slice_get xs i ≡ Some x → take i xs ++ x ∷ [] ≡ take (i + 1) xs
take_some {X} xs i x at =
    ap (λ (y : X). take i xs ++ y ∷ []) (sym (get_or_from_slice_get xs i x x at)) ∙ sym (take_more xs i x (slice_get_within xs i x at))

module _ {X : Type 0} (f : X → List ℕ) (p : X → Bool) where
  abbrev texts : List X → List ℕ
  texts xs = flat_map f (filter p xs)

  texts_both : (xs ys : List X) → texts (xs ++ ys) ≡ texts xs ++ texts ys
  texts_both xs ys = ap (λ (zs : List X). flat_map f zs) (filter-append p xs ys) ∙ flat_map-append f (filter p xs) (filter p ys)

  texts_one : (b : Bool) (x : X) → p x ≡ b → cond b (f x) [] ≡ texts (x ∷ [])
  texts_one true x e = sym (ap (λ (c : Bool). flat_map f (cond c (x ∷ []) [])) e ∙ append-nil (f x))
  texts_one false x e = sym (ap (λ (c : Bool). flat_map f (cond c (x ∷ []) [])) e)

  module _ (xs : List X) (k : ℕ) (x : X) (at : slice_get xs k ≡ Some x) where
    texts_more : (b : Bool) → p x ≡ b → texts (take k xs) ++ cond b (f x) [] ≡ texts (take (k + 1) xs)
    texts_more b e =
        ap (λ (t : List ℕ). texts (take k xs) ++ t) (texts_one b x e) ∙ sym (texts_both (take k xs) (x ∷ []))
        ∙ ap (λ (ys : List X). texts ys) (take_some xs k x at)

    module _ {K : Type 0} {state : K → SinkState} where
      pub wrote_passed : {T U : Type 0} {w0 w1 w2 : Writer K} {t : T} {r : Result U WriteStop} → p x ≡ true
          → Wrote state w0 w1 (flat_map f (filter p (take k xs))) (Ok t) → Wrote state w1 w2 (f x) r → Wrote state w0 w2 (flat_map f (filter p (take (k + 1) xs))) r
      wrote_passed e a b = wrote_text (texts_more true e) (wrote_then a b)

      pub wrote_failed : {T : Type 0} {w0 w1 : Writer K} {r : Result T WriteStop} → p x ≡ false
          → Wrote state w0 w1 (flat_map f (filter p (take k xs))) r → Wrote state w0 w1 (flat_map f (filter p (take (k + 1) xs))) r
      wrote_failed e a = wrote_text (sym (append-nil (texts (take k xs))) ∙ texts_more false e) a

      -- a stop in one of them, handed on
      pub wrote_stopped : {T U V : Type 0} {w0 w1 w2 : Writer K} {t : T} {stop : WriteStop} {r : Result V WriteStop} → p x ≡ true → IsErrAnd r (λ s. s ≡ stop)
          → Wrote state w0 w1 (flat_map f (filter p (take k xs))) (Ok t) → Wrote {T = U} state w1 w2 (f x) (Err stop) → Wrote state w0 w2 (flat_map f (filter p xs)) r
      wrote_stopped e handed a b =
          wrote_text (sym (texts_both (take (k + 1) xs) (drop (k + 1) xs)) ∙ ap (λ (ys : List X). texts ys) (take-append-drop (k + 1) xs))
          (wrote_front (texts (drop (k + 1) xs)) handed (wrote_passed e a b))

  -- all of them
  pub wrote_filtered : {K T : Type 0} {state : K → SinkState} {w0 w1 : Writer K} {r : Result T WriteStop} (xs : List X) (k : ℕ) → length xs ≤ k
      → Wrote state w0 w1 (flat_map f (filter p (take k xs))) r → Wrote state w0 w1 (flat_map f (filter p xs)) r
  wrote_filtered xs k le a = wrote_text (ap (λ (ys : List X). texts ys) (take_all k xs le)) a
