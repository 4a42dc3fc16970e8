-- Reading items one after another: how a step goes on, and what a loop keeps.
use Rattle.std.proofs.Common.{◌≡◌, ℕ, zero, suc, ◌<◌, Option, Some, None, Err, List, [], ◌∷◌, ◌++◌, length, map, option_map, subst, inl, inr, refl, sym, ap, ◌∙◌, arith, append_assoc}
use Rattle.std.proofs.lemmas.List.{append-nil, map_push, map-id}
use Rattle.std.proofs.lemmas.Option.{same_Some}
use Rattle.palm_read.specs.declared.parse.LineError.{LineError}
use Rattle.palm_read.specs.declared.parse.LineError.TheVariants.{Bytes, Form as NoForm, Range, Empty, Repeated, NoMemory}
use Rattle.std.specs.List.{flat_map, AllByRecursion}
use Rattle.palm_read.specs.Token.{Lexeme}
use Rattle.palm_read.specs.Piece.{Piece}
use Rattle.palm_read.proofs.cited.Front.{and_then_some, when_some}
use Rattle.palm_read.proofs.cited.Begins.{Begins, over, begins_over, begins_then, begins_split, begins_length}
use Rattle.palm_read.specs.Reader.Lists.{many, many_at}
use Rattle.palm_read.specs.Reader.Steps.{Reading, and_then, when}
use Rattle.palm_read.specs.Reader.Held.{Holds, Gives}

-- each item takes a token at least
abbrev pub Shortens : {A : Type 0} → (List Lexeme → Reading (Option A)) → Type 0
Shortens {A} item = (tokens rest : List Lexeme) (a : A) → item tokens ≡ Some (Some a, rest) → length rest < length tokens

-- what a step makes of an item, where the others are read so
abbrev step_of : {A : Type 0} → (List Lexeme → Reading (List A)) → Option A × List Lexeme → Reading (List A)
step_of others next = when next.0 (λ a. and_then (others next.1) (λ more. Some (a ∷ more.0, more.1))) (Some ([], next.1))

module _ {A : Type 0} (item : List Lexeme → Reading (Option A)) (short : Shortens item) where
  many-room : (m n : ℕ) (tokens : List Lexeme) → length tokens < m → length tokens < n → many item m tokens ≡ many item n tokens
  unfolding many and_then when
  many-room zero n tokens h k = absurd (omega arith)
  many-room (suc m) zero tokens h k = absurd (omega arith)
  many-room (suc m) (suc n) tokens h k = go (item tokens) refl (λ rest lt. many-room m n rest (omega arith) (omega arith))
    where
      go : (next : Reading (Option A)) → item tokens ≡ next → ((rest : List Lexeme) → length rest < length tokens → many item m rest ≡ many item n rest) → and_then next (step_of (many item m)) ≡ and_then next (step_of (many item n))
      go None e same = refl
      go (Some (None, rest)) e same = refl
      go (Some (Some a, rest)) e same = ap (λ r. and_then r (λ others. Some (a ∷ others.0, others.1))) (same rest (short tokens rest a e))

  pub many_at-more : (tokens rest : List Lexeme) (a : A) → item tokens ≡ Some (Some a, rest) → many_at item tokens ≡ and_then (many_at item rest) (λ others. Some (a ∷ others.0, others.1))
  unfolding many_at many and_then when
  many_at-more tokens rest a e =
      let lt : length rest < length tokens = short tokens rest a e in
      rw e (ap (λ r. and_then r (λ others. Some (a ∷ others.0, others.1))) (many-room (length tokens) (suc (length rest)) rest (omega arith) (omega arith)))

pub many_at-over : {A : Type 0} (item : List Lexeme → Reading (Option A)) (tokens rest : List Lexeme) → item tokens ≡ Some (None, rest) → many_at item tokens ≡ Some ([], rest)
unfolding many_at many and_then when
many_at-over item tokens rest e = rw e refl

pub many_at-fails : {A : Type 0} (item : List Lexeme → Reading (Option A)) (tokens : List Lexeme) → item tokens ≡ None → many_at item tokens ≡ None
unfolding many_at many and_then
many_at-fails item tokens e = rw e refl

-- what was read before, and what is still read
abbrev pub with_front : {A : Type 0} → List A → Reading (List A) → Reading (List A)
with_front front reading = and_then reading (λ more. Some (front ++ more.0, more.1))

with_front-nil : {A : Type 0} (reading : Reading (List A)) → with_front [] reading ≡ reading
unfolding and_then
with_front-nil None = refl
with_front-nil (Some x) = refl

with_front-cons : {A : Type 0} (front : List A) (a : A) (reading : Reading (List A)) → with_front front (and_then reading (λ others. Some (a ∷ others.0, others.1))) ≡ with_front (front ++ a ∷ []) reading
unfolding and_then
with_front-cons front a None = refl
with_front-cons front a (Some x) = ap (λ xs. Some (xs, x.1)) (sym (append_assoc front (a ∷ []) x.0))

-- what a loop keeps: the items so far, seen by view, stand behind what was given, and the loop goes on as it began
pub record Running {A X : Type 0} (item : List Lexeme → Reading (Option A)) (view : A → X) (start now : List Lexeme) (given kept : List X) : Type 0 where
  pub front : List A
  pub so_far : with_front front (many_at item now) ≡ many_at item start
  pub holds : kept ≡ given ++ map view front

pub running_start : {A X : Type 0} (item : List Lexeme → Reading (Option A)) (view : A → X) (start : List Lexeme) (given : List X) → Running item view start start given given
running_start item view start given = record { front = []; so_far = with_front-nil (many_at item start); holds = sym (append-nil given) }

-- one more item
pub running_more : {A X : Type 0} (item : List Lexeme → Reading (Option A)) (short : Shortens item) (view : A → X) (start now rest : List Lexeme) (given kept : List X) (x : X) → Running item view start now given kept → Holds (option_map view) (Some x) rest (item now) → Running item view start rest given (kept ++ x ∷ [])
running_more item short view start now rest given kept x r h = go h.form h.read h.is
  where
    go : (form : Option _) → item now ≡ Some (form, rest) → Some x ≡ option_map view form → Running item view start rest given (kept ++ x ∷ [])
    go None read is = absurd cc
    go (Some a) read is = record {
      front = r.front ++ a ∷ [];
      so_far = sym (with_front-cons r.front a (many_at item rest)) ∙ sym (ap (with_front r.front) (many_at-more item short now rest a read)) ∙ r.so_far;
      holds = rw (r.holds, map_push) (append_assoc given (map view r.front) (x ∷ []) ∙ ap (λ y. given ++ (map view r.front ++ y ∷ [])) (same_Some x (view a) is));
    }

pub running_shorter : {A X : Type 0} (item : List Lexeme → Reading (Option A)) (short : Shortens item) (view : A → X) (now rest : List Lexeme) (x : X) → Holds (option_map view) (Some x) rest (item now) → length rest < length now
running_shorter item short view now rest x h = go h.form h.read h.is
  where
    go : (form : Option _) → item now ≡ Some (form, rest) → Some x ≡ option_map view form → length rest < length now
    go None read is = absurd cc
    go (Some a) read is = short now rest a read

-- no item is left
pub running_over : {A X : Type 0} (item : List Lexeme → Reading (Option A)) (view : A → X) (start now rest : List Lexeme) (given kept : List X) → Running item view start now given kept → Holds (option_map view) None rest (item now) → Holds (λ more. given ++ map view more) kept rest (many_at item start)
unfolding and_then
running_over item view start now rest given kept r h = go h.form h.read h.is
  where
    go : (form : Option _) → item now ≡ Some (form, rest) → None ≡ option_map view form → Holds (λ more. given ++ map view more) kept rest (many_at item start)
    go (Some a) read is = absurd cc
    go None read is = record {
      form = r.front;
      read = sym r.so_far ∙ ap (with_front r.front) (many_at-over item now rest read) ∙ ap (λ xs. Some (xs, rest)) (append-nil r.front);
      is = r.holds;
    }

-- the same where the items are kept as they are
pub plain_over : {A : Type 0} (kept : List A) (rest : List Lexeme) (reading : Reading (List A)) → Holds (λ more. [] ++ map (λ a. a) more) kept rest reading → Holds (λ items. items) kept rest reading
plain_over kept rest reading h = record { form = h.form; read = h.read; is = h.is ∙ map-id h.form }

-- an item fails
pub running_fails : {A X : Type 0} (item : List Lexeme → Reading (Option A)) (view : A → X) (start now rest : List Lexeme) (given kept : List X) (e : LineError) → Running item view start now given kept → Gives (option_map view) (Err e) rest (item now) → Gives (λ more. given ++ map view more) (Err e) rest (many_at item start)
unfolding and_then
running_fails item view start now rest given kept NoForm r h = sym r.so_far ∙ ap (with_front r.front) (many_at-fails item now h)
running_fails item view start now rest given kept NoMemory r h = tt
running_fails item view start now rest given kept Bytes r h = h
running_fails item view start now rest given kept Range r h = h
running_fails item view start now rest given kept Empty r h = h
running_fails item view start now rest given kept Repeated r h = h

-- ---- a list of items is the pieces of all of them

-- an item reads just these pieces, of values that fit, and where it reads none it takes none
pub record IsItem {A : Type 0} (item : List Lexeme → Reading (Option A)) (spelling : A → List Piece) (Fits : A → Type 0) : Type 0 where
  pub takes : (tokens rest : List Lexeme) (a : A) → item tokens ≡ Some (Some a, rest) → Begins tokens (spelling a) rest × Fits a
  pub leaves : (tokens rest : List Lexeme) → item tokens ≡ Some (None, rest) → rest ≡ tokens
  pub again : (tokens rest : List Lexeme) (a : A) → Fits a → Begins tokens (spelling a) rest → item tokens ≡ Some (Some a, rest)
  pub some : (a : A) → 0 < length (spelling a)

pub item_shortens : {A : Type 0} {item : List Lexeme → Reading (Option A)} {spelling : A → List Piece} {Fits : A → Type 0} → IsItem item spelling Fits → Shortens item
item_shortens i tokens rest a e = omega (arith, begins_length (i.takes tokens rest a e).0, i.some a)

module _ {A : Type 0} (item : List Lexeme → Reading (Option A)) (spelling : A → List Piece) (Fits : A → Type 0) (is : IsItem item spelling Fits) where
  many_takes : (n : ℕ) (tokens : List Lexeme) (x : List A × List Lexeme) → many item n tokens ≡ Some x → Begins tokens (flat_map spelling x.0) x.1 × AllByRecursion Fits x.0
  unfolding many
  many_takes zero tokens x e = absurd cc
  many_takes (suc n) tokens x e =
      let Taken : List A × List Lexeme → Type 0 = λ y. Begins tokens (flat_map spelling y.0) y.1 × AllByRecursion Fits y.0 in
      let a = and_then_some e in
      elim (when_some a.2) [
        | inl w ↦
            let v = and_then_some w.2 in
            let t = is.takes tokens a.0.1 w.0 (a.1 ∙ ap (λ o. Some (o, a.0.1)) w.1) in
            let more = many_takes n a.0.1 v.0 v.1 in
            let made : List A × List Lexeme = (w.0 ∷ v.0.0, v.0.1) in
            let same : made ≡ x = same_Some made x v.2 in
            subst Taken same (begins_then t.0 more.0, (t.1, more.1))
        | inr w ↦
            let left = is.leaves tokens a.0.1 (a.1 ∙ ap (λ o. Some (o, a.0.1)) w.0) in
            let made : List A × List Lexeme = ([], a.0.1) in
            let same : made ≡ x = same_Some made x w.1 in
            let none : Taken ([], tokens) = (over, tt) in
            subst Taken (ap (λ ts. ([], ts)) (sym left) ∙ same) none
      ]

  pub many_at_takes : (tokens : List Lexeme) (x : List A × List Lexeme) → many_at item tokens ≡ Some x → Begins tokens (flat_map spelling x.0) x.1 × AllByRecursion Fits x.0
  unfolding many_at
  many_at_takes tokens x e = many_takes (suc (length tokens)) tokens x e

  pub many_at_again : (xs : List A) (tokens rest : List Lexeme) → AllByRecursion Fits xs → Begins tokens (flat_map spelling xs) rest → item rest ≡ Some (None, rest) → many_at item tokens ≡ Some (xs, rest)
  unfolding and_then
  many_at_again [] tokens rest fits b stop = many_at-over item tokens rest (rw (begins_over b) stop)
  many_at_again (a ∷ xs) tokens rest fits b stop =
      let s = begins_split (spelling a) (flat_map spelling xs) b in
      many_at-more item (item_shortens is) tokens s.0 a (is.again tokens s.0 a fits.0 s.1) ∙ rw (many_at_again xs s.0 rest fits.1 s.2 stop) refl
