-- A whole text that was sent to a sink with a prefix.
use Rattle.std.proofs.Common.{◌≡◌, ℕ, ◌<◌, Bool, true, false, Option, Some, None, List, [], ◌∷◌, ◌++◌, length, take, drop, refl, sym, ap, ◌∙◌, subst, arith, append_assoc, append-nil}
use Rattle.std.proofs.lemmas.List.{length-append, take-append-drop}
use Rattle.std.proofs.lemmas.Option.{none-some}
use Rattle.palm_base.specs.Streams.{Appended}
use Rattle.palm_lang.specs.Writing.{AppendedUntil}
use Rattle.palm_lang.specs.declared.stop.WriteStop.{WriteStop}
use Rattle.palm_lang.specs.declared.stop.WriteStop.TheVariants.{WriteFault, NoMemory}
use Rattle.palm_hub.specs.Marked.{begins_line, marked_from, marked}
use Rattle.palm_hub.specs.Prefixed.{begun, due_at, rebuilt_from, sent_of, told}
use Rattle.palm_hub.proofs.Marks.{marked_append}
use Rattle.palm_hub.proofs.Prefixing.{IsRight, built_of, none_sent}

-- ---- what stands there behind a text

-- behind the base: the marked text, and so much of the prefix of a next line
text_written : (base later : Option (List ℕ)) (p text : List ℕ) (torn : Bool) (shown : ℕ) → IsRight base p torn shown later
    → Appended (told base p base) (told base p later) text
    → Appended base later (marked p text ++ begun (begins_line true text) shown p)
text_written base None p text torn shown right a = tt
text_written None (Some later) p text torn shown right a = absurd (none-some later right.built)
text_written (Some base) (Some later) p text torn shown right a =
    let sent : sent_of base p later ≡ text = a ∙ ap (λ s. s ++ text) (none_sent base p) in
    (built_of base p torn shown later right).is ∙ ap (λ s. rebuilt_from base p s shown) sent

-- where nothing tore the sink, nothing of a prefix stands behind the marked text
text_whole : (base later : Option (List ℕ)) (p text : List ℕ) (shown : ℕ) → IsRight base p false shown later
    → Appended (told base p base) (told base p later) text → Appended base later (marked p text)
text_whole base None p text shown right a = tt
text_whole None (Some later) p text shown right a = absurd (none-some later right.built)
text_whole (Some base) (Some later) p text shown right a =
    let sent : sent_of base p later ≡ text = a ∙ ap (λ s. s ++ text) (none_sent base p) in
    let built = built_of base p false shown later right in
    let proper = built.proper ∙ ap (λ s. due_at (begins_line true s) p false shown) sent in
    let none = by (begins_line true text) proper in
    text_written (Some base) (Some later) p text false shown right a
    ∙ ap (λ t. base ++ (marked p text ++ t)) none ∙ ap (λ t. base ++ t) (append-nil (marked p text))
  where
    by : (start : Bool) → shown ≡ due_at start p false shown → begun start shown p ≡ []
    by true e = ap (λ k. take k p) e
    by false e = refl

-- the same with what a sink holds of itself
pub text_marked : (base later : Option (List ℕ)) (p text : List ℕ) (torn : Bool) (shown : ℕ) → torn ≡ false
    → IsRight base p torn shown later
    → Appended (told base p base) (told base p later) text → Appended base later (marked p text)
text_marked base later p text torn shown whole right a =
    text_whole base later p text shown (subst (λ t. IsRight base p t shown later) whole right) a

-- ---- a text until a stop

-- the rest of a marked text, of which so much of the prefix of a next line stands there
abbrev rest_of : Bool → ℕ → List ℕ → List ℕ → List ℕ
rest_of true shown p back = drop shown p ++ marked_from p false back
rest_of false shown p back = marked_from p false back

rest_behind : (start : Bool) (shown : ℕ) (p back : List ℕ) → 0 < length back
    → begun start shown p ++ rest_of start shown p back ≡ marked_from p start back
rest_behind start shown p [] some = absurd (omega (arith, some))
rest_behind true shown p (b ∷ back) some =
    sym (append_assoc (take shown p) (drop shown p) (marked_from p false (b ∷ back)))
    ∙ ap (λ t. t ++ marked_from p false (b ∷ back)) (take-append-drop shown p)
rest_behind false shown p (b ∷ back) some = refl

rest_some : (start : Bool) (shown : ℕ) (p back : List ℕ) → 0 < length back → 0 < length (rest_of start shown p back)
rest_some start shown p [] some = absurd (omega (arith, some))
rest_some true shown p (b ∷ back) some = omega (arith, length-append (drop shown p) (marked_from p false (b ∷ back)))
rest_some false shown p (b ∷ back) some = omega arith

-- until a fault of writing, which may tear the sink
until_fault : (base later : Option (List ℕ)) (p text : List ℕ) (torn : Bool) (shown : ℕ) → IsRight base p torn shown later
    → AppendedUntil WriteFault (told base p base) (told base p later) text → AppendedUntil WriteFault base later (marked p text)
until_fault base later p text torn shown right u =
    let start = begins_line true u.front in
    record {
      front = marked p u.front ++ begun start shown p;
      back = rest_of start shown p u.back;
      whole = ap (marked p) u.whole ∙ marked_append p true u.front u.back
          ∙ ap (λ t. marked p u.front ++ t) (sym (rest_behind start shown p u.back u.left))
          ∙ sym (append_assoc (marked p u.front) (begun start shown p) (rest_of start shown p u.back));
      left = rest_some start shown p u.back u.left;
      written = text_written base later p u.front torn shown right u.written;
    }

-- until want of memory, which does not
until_memory : (base later : Option (List ℕ)) (p text : List ℕ) (torn : Bool) (shown : ℕ) → torn ≡ false
    → IsRight base p torn shown later
    → AppendedUntil NoMemory (told base p base) (told base p later) text → AppendedUntil NoMemory base later (marked p text)
until_memory base later p text torn shown whole right u = record {
  front = marked p u.front;
  back = marked_from p (begins_line true u.front) u.back;
  whole = ap (marked p) u.whole ∙ marked_append p true u.front u.back;
  left = tt;
  written = text_marked base later p u.front torn shown whole right u.written;
}

pub until_stop : (stop : WriteStop) (base later : Option (List ℕ)) (p text : List ℕ) (torn : Bool) (shown : ℕ)
    → (stop ≡ NoMemory → torn ≡ false)
    → IsRight base p torn shown later → AppendedUntil stop (told base p base) (told base p later) text
    → AppendedUntil stop base later (marked p text)
until_stop WriteFault base later p text torn shown whole right u = until_fault base later p text torn shown right u
until_stop NoMemory base later p text torn shown whole right u = until_memory base later p text torn shown (whole refl) right u
