-- One text of a writer after another.
use Rattle.std.proofs.Common.{◌≡◌, ℕ, ◌+◌, ◌<◌, ◌≤◌, List, [], ◌++◌, length, take, drop, get_or, flat_map, Result, Ok, Err, refl, sym, ap, ◌∙◌}
use Rattle.std.specs.Borrow.{MutBor}
use Rattle.std.specs.Result.{IsErrAnd}
use Rattle.std.proofs.lemmas.Result.{err_from_is_err_and}
use Rattle.std.proofs.lemmas.List.{take-append-drop, take_all, take_more, flat_map_more}
use Rattle.std.proofs.lemmas.Grind.{flat_map-append}
use Rattle.palm_base.specs.Streams.{SinkState}
use Rattle.palm_lang.specs.Writer.{Wrote}
use Rattle.palm_lang.specs.declared.stop.WriteStop.{WriteStop}
use Rattle.palm_lang.specs.declared.stop.WriteStop.TheVariants.{NoMemory}
use Rattle.palm_lang.specs.declared.writer.Writer.{Writer}
use Rattle.palm_lang.proofs.cited.Writes.{writes_front, writes_none, writes_nothing, writes_text, writes_then}

module _ {K : Type 0} {state : K → SinkState} where
  -- the same text
  pub wrote_text : {T : Type 0} {w0 w1 : Writer K} {x y : List ℕ} {r : Result T WriteStop} → x ≡ y → Wrote state w0 w1 x r → Wrote state w0 w1 y r
  wrote_text e a = record { sink = a.sink; writes = writes_text _ _ _ _ _ e a.writes }

  -- no text
  pub wrote_none : {T : Type 0} (w : Writer K) (t : T) → Wrote state w w [] (Ok t)
  wrote_none w t = record { sink = refl; writes = writes_none (state w.out.now) t }

  -- the last of a longer text
  pub wrote_then : {T U : Type 0} {w0 w1 w2 : Writer K} {x y : List ℕ} {t : T} {r : Result U WriteStop}
      → Wrote state w0 w1 x (Ok t) → Wrote state w1 w2 y r → Wrote state w0 w2 (x ++ y) r
  wrote_then a b = record { sink = b.sink ∙ a.sink; writes = writes_then _ _ _ _ _ _ _ a.writes b.writes }

  -- a stop in the first of two texts, handed on
  pub wrote_front : {T U : Type 0} {w0 w1 : Writer K} {x : List ℕ} {stop : WriteStop} {r : Result U WriteStop} (y : List ℕ)
      → IsErrAnd r (λ s. s ≡ stop) → Wrote {T = T} state w0 w1 x (Err stop) → Wrote state w0 w1 (x ++ y) r
  wrote_front {w0} {w1} {x} {stop} {r} y handed a =
      let p = err_from_is_err_and r handed in
      record { sink = a.sink; writes = rw (p.1, p.2) (writes_front _ _ x y stop a.writes) }

  -- a stop in the second of three texts, handed on
  pub wrote_within : {T U V : Type 0} {w0 w1 w2 : Writer K} {x y : List ℕ} {t : T} {stop : WriteStop} {r : Result V WriteStop} (z : List ℕ)
      → IsErrAnd r (λ s. s ≡ stop) → Wrote state w0 w1 x (Ok t) → Wrote {T = U} state w1 w2 y (Err stop) → Wrote state w0 w2 ((x ++ y) ++ z) r
  wrote_within z handed a b = wrote_front z handed (wrote_then a b)

  -- want of memory before a text, handed on
  pub wrote_nothing : {T : Type 0} {r : Result T WriteStop} (w0 w1 : Writer K) (text : List ℕ) → w1.out ≡ w0.out → IsErrAnd r (λ s. s ≡ NoMemory) → Wrote state w0 w1 text r
  wrote_nothing {r = r} w0 w1 text same handed =
      let p = err_from_is_err_and r handed in
      record { sink = ap (λ (out : MutBor K). out.ghost_name) same; writes = rw (p.1, p.2) (rw same (writes_nothing (state w0.out.now) text)) }

-- the texts of a list's members, one after another
module _ {X : Type 0} (f : X → List ℕ) (xs : List X) (i : ℕ) where
  texts_more : (d : X) → i < length xs → flat_map f (take i xs) ++ f (get_or xs i d) ≡ flat_map f (take (i + 1) xs)
  texts_more d lt = flat_map_more f [] (take i xs) (get_or xs i d) ∙ ap (λ ys. flat_map f ys) (sym (take_more xs i d lt))

  texts_split : (d : X) → i < length xs → (flat_map f (take i xs) ++ f (get_or xs i d)) ++ flat_map f (drop (i + 1) xs) ≡ flat_map f xs
  texts_split d lt =
      ap (λ (t : List ℕ). t ++ flat_map f (drop (i + 1) xs)) (texts_more d lt)
      ∙ sym (flat_map-append f (take (i + 1) xs) (drop (i + 1) xs)) ∙ ap (λ (ys : List X). flat_map f ys) (take-append-drop (i + 1) xs)

  module _ {K : Type 0} {state : K → SinkState} where
    -- one more of them
    pub wrote_more : {T U : Type 0} {w0 w1 w2 : Writer K} {t : T} {r : Result U WriteStop} (d : X) → i < length xs
        → Wrote state w0 w1 (flat_map f (take i xs)) (Ok t) → Wrote state w1 w2 (f (get_or xs i d)) r → Wrote state w0 w2 (flat_map f (take (i + 1) xs)) r
    wrote_more d lt a b = wrote_text (texts_more d lt) (wrote_then a b)

    -- a stop in one of them, handed on
    pub wrote_part : {T U V : Type 0} {w0 w1 w2 : Writer K} {t : T} {stop : WriteStop} {r : Result V WriteStop} (d : X) → i < length xs → IsErrAnd r (λ s. s ≡ stop)
        → Wrote state w0 w1 (flat_map f (take i xs)) (Ok t) → Wrote {T = U} state w1 w2 (f (get_or xs i d)) (Err stop) → Wrote state w0 w2 (flat_map f xs) r
    wrote_part d lt handed a b = wrote_text (texts_split d lt) (wrote_within (flat_map f (drop (i + 1) xs)) handed a b)

    -- all of them
    pub wrote_all : {T : Type 0} {w0 w1 : Writer K} {r : Result T WriteStop} → length xs ≤ i → Wrote state w0 w1 (flat_map f (take i xs)) r → Wrote state w0 w1 (flat_map f xs) r
    wrote_all le a = wrote_text (ap (λ (ys : List X). flat_map f ys) (take_all i xs le)) a
