-- What a sink with a prefix knows of the sink behind it, from write to write.
use Rattle.std.proofs.Common.{◌≡◌, ℕ, ◌<◌, ◌≤◌, ◌-◌, Bool, true, false, cond, ◌&&◌, ◌||◌, is_err, MatchResult, Option, Some, None, Result, Ok, Err, List, [], ◌++◌, length, take, drop, refl, sym, ap, ◌∙◌, subst, arith, append_assoc, append-nil}
use Rattle.std.proofs.lemmas.Bool.{le-ltb, ltb-false}
use Rattle.std.proofs.lemmas.List.{drop_all, length-take-le, take-append-drop, take-take}
use Rattle.std.proofs.lemmas.Option.{same_Some, none-some}
use Rattle.palm_base.specs.Counts.{one_more}
use Rattle.palm_base.specs.Streams.{Appended, HasCause, Rose}
use Rattle.palm_hub.specs.Marked.{begins_line, marked_from, marked}
use Rattle.palm_hub.specs.Prefixed.{Extends, IsInLine, IsLineOf, WritesMarked, bare, begun, due_at, due, is_calm, rebuilt_from, rebuilt, sent_of, shown_behind, told}
use Rattle.palm_hub.proofs.Marks.{begins_behind, marked_append, marked_line, sent_back, take_in_line, take_then}

-- ---- what was built

module _ (base p : List ℕ) where
  -- the text was built of the bytes that were sent, and as much of the prefix of the next line stands there as is due
  pub record IsBuilt (torn : Bool) (shown : ℕ) (sent text : List ℕ) : Type 0 where
    pub is : text ≡ rebuilt_from base p sent shown
    pub proper : shown ≡ due_at (begins_line true sent) p torn shown

  -- in a line the whole prefix stands there
  whole_in_line : (torn start : Bool) (shown : ℕ) → shown ≡ due_at start p torn shown → start ≡ false → shown ≡ length p
  whole_in_line torn start shown e is = e ∙ ap (λ s. due_at s p torn shown) is

  -- the rest of the prefix and bytes of a line behind what was built
  built_more : (start : Bool) (sent bytes : List ℕ) (shown : ℕ) → begins_line true sent ≡ start → (start ≡ false → shown ≡ length p)
      → 0 < length bytes → IsInLine bytes
      → (base ++ (marked p sent ++ begun start shown p)) ++ (drop shown p ++ bytes) ≡ base ++ marked p (sent ++ bytes)
  built_more start sent bytes shown is whole some line =
      append_assoc base (marked p sent ++ begun start shown p) (drop shown p ++ bytes)
      ∙ ap (λ t. base ++ t) (append_assoc (marked p sent) (begun start shown p) (drop shown p ++ bytes) ∙ ap (λ t. marked p sent ++ t) next
      ∙ ap (λ s. marked p sent ++ marked_from p s bytes) (sym is) ∙ sym (marked_append p true sent bytes))
    where
      both : (s : Bool) → (s ≡ false → shown ≡ length p) → begun s shown p ++ drop shown p ≡ cond s p []
      both true w = take-append-drop shown p
      both false w = drop_all shown p (omega (arith, w refl))

      next : begun start shown p ++ (drop shown p ++ bytes) ≡ marked_from p start bytes
      next =
          sym (append_assoc (begun start shown p) (drop shown p) bytes) ∙ ap (λ t. t ++ bytes) (both start whole)
          ∙ sym (marked_line p bytes start some line)

  -- behind bytes of a line nothing stands but these
  built_end : (sent bytes : List ℕ) → 0 < length bytes
      → rebuilt_from base p (sent ++ bytes) (shown_behind p bytes) ≡ base ++ marked p (sent ++ bytes)
  built_end sent bytes some =
      ap (λ s. base ++ (marked p (sent ++ bytes) ++ begun s (shown_behind p bytes) p)) (begins_behind sent bytes some)
      ∙ ap (λ r. base ++ (marked p (sent ++ bytes) ++ r)) (nothing (begins_line false bytes))
      ∙ ap (λ t. base ++ t) (append-nil (marked p (sent ++ bytes)))
    where
      nothing : (s : Bool) → begun s (cond s 0 (length p)) p ≡ []
      nothing true = refl
      nothing false = refl

  due_end : (torn : Bool) (sent bytes : List ℕ) → 0 < length bytes
      → shown_behind p bytes ≡ due_at (begins_line true (sent ++ bytes)) p torn (shown_behind p bytes)
  due_end torn sent bytes some =
      subst (λ s. shown_behind p bytes ≡ due_at s p torn (shown_behind p bytes)) (sym (begins_behind sent bytes some))
      (by (begins_line false bytes) torn)
    where
      by : (s t : Bool) → cond s 0 (length p) ≡ due_at s p t (cond s 0 (length p))
      by true true = refl
      by true false = refl
      by false t = refl

  -- bytes of a line were written behind the prefix
  built_bytes : (torn : Bool) (shown : ℕ) (sent text bytes later : List ℕ) → IsBuilt torn shown sent text → 0 < length bytes
      → IsInLine bytes
      → later ≡ text ++ (drop shown p ++ bytes) → IsBuilt torn (shown_behind p bytes) (sent ++ bytes) later
  built_bytes torn shown sent text bytes later built some line e = record {
    is = e ∙ ap (λ t. t ++ (drop shown p ++ bytes)) built.is
        ∙ built_more (begins_line true sent) sent bytes shown refl (whole_in_line torn (begins_line true sent) shown built.proper) some line
        ∙ sym (built_end sent bytes some);
    proper = due_end torn sent bytes some;
  }

  -- a failure left more of the prefix
  built_torn : (torn : Bool) (shown more : ℕ) (sent text later : List ℕ) → IsBuilt torn shown sent text → shown ≤ more
      → more ≤ length p
      → later ≡ text ++ take (more - shown) (drop shown p) → IsBuilt true more sent later
  built_torn torn shown more sent text later built further few e = record {
    is = e ∙ ap (λ t. t ++ take (more - shown) (drop shown p)) built.is
        ∙ append_assoc base (marked p sent ++ begun start shown p) (take (more - shown) (drop shown p))
        ∙ ap (λ t. base ++ t) (append_assoc (marked p sent) (begun start shown p) (take (more - shown) (drop shown p))
        ∙ ap (λ t. marked p sent ++ t) (joined start refl));
    proper = full start refl;
  }
    where
      start : Bool
      start = begins_line true sent

      whole : start ≡ false → shown ≡ length p
      whole is = whole_in_line torn start shown built.proper is

      joined : (s : Bool) → start ≡ s → begun s shown p ++ take (more - shown) (drop shown p) ≡ begun s more p
      joined true is = take_then shown more p further
      joined false is = let n : more - shown ≡ 0 = omega (arith, whole is) in ap (λ k. take k (drop shown p)) n

      full : (s : Bool) → start ≡ s → more ≡ due_at s p true more
      full true is = refl
      full false is = omega (arith, whole is)

-- ---- what is told

-- what a sink with a prefix knows, as far as it is told
pub record IsRight (base : Option (List ℕ)) (p : List ℕ) (torn : Bool) (shown : ℕ) (now : Option (List ℕ)) : Type 0 where
  pub few : shown ≤ length p
  pub built : rebuilt base p shown now ≡ now
  pub proper : shown ≡ due base p torn shown now

-- what was built is what is told to be built
pub built_of : (base p : List ℕ) (torn : Bool) (shown : ℕ) (text : List ℕ) → IsRight (Some base) p torn shown (Some text)
    → IsBuilt base p torn shown (sent_of base p text) text
built_of base p torn shown text right = record { is = sym (same_Some _ _ right.built); proper = right.proper }

pub sent_is : (base p : List ℕ) (torn : Bool) (shown : ℕ) (sent text : List ℕ) → IsBuilt base p torn shown sent text
    → sent_of base p text ≡ sent
sent_is base p torn shown sent text built = ap (sent_of base p) built.is ∙ sent_back base p sent shown

right_of : (base p : List ℕ) (torn : Bool) (shown : ℕ) (sent text : List ℕ) → shown ≤ length p → IsBuilt base p torn shown sent text
    → IsRight (Some base) p torn shown (Some text)
right_of base p torn shown sent text few built =
    let same = sent_is base p torn shown sent text built in
    record {
      few = few;
      built = ap Some (ap (λ s. rebuilt_from base p s shown) same ∙ sym built.is);
      proper = subst (λ s. shown ≡ due_at (begins_line true s) p torn shown) (sym same) built.proper;
    }

-- nothing was sent yet
pub none_sent : (base p : List ℕ) → sent_of base p base ≡ []
none_sent base p = ap (bare p) (drop_all (length base) base (omega arith))

pub right_at_first : (base : Option (List ℕ)) (p : List ℕ) → IsRight base p false 0 base
right_at_first None p = record { few = omega arith; built = refl; proper = refl }
right_at_first (Some base) p = right_of base p false 0 [] base (omega arith) (record { is = sym (append-nil base); proper = refl })

-- ---- one write

-- a write of a sink with a prefix: it tells the first bytes of the piece, and knows again what it knew
pub record IsPassed {E : Type 0} (base now later : Option (List ℕ)) (p piece : List ℕ) (torn : Bool) (after : ℕ) (result : Result ℕ E) : Type 0 where
  pub right : IsRight base p torn after later
  pub writes : MatchResult result (λ n. (0 < n) × (n ≤ length piece) × Appended (told base p now) (told base p later) (take n piece))
      (λ _. Appended (told base p now) (told base p later) [])

or_false : (torn : Bool) → torn ≡ (torn || false)
or_false true = refl
or_false false = refl

or_true : (torn : Bool) → true ≡ (torn || true)
or_true true = refl
or_true false = refl

shown_few : (p bytes : List ℕ) → shown_behind p bytes ≤ length p
shown_few p bytes = by (begins_line false bytes)
  where
    by : (s : Bool) → cond s 0 (length p) ≤ length p
    by true = omega arith
    by false = omega arith

bytes_passed : (base now later : Option (List ℕ)) (p bytes : List ℕ) (torn : Bool) (shown : ℕ) → IsRight base p torn shown now
    → 0 < length bytes → IsInLine bytes → Appended now later (drop shown p ++ bytes)
    → IsRight base p torn (shown_behind p bytes) later × Appended (told base p now) (told base p later) bytes
bytes_passed base now None p bytes torn shown right some line w = (record { few = shown_few p bytes; built = refl; proper = refl }, tt)
bytes_passed base None (Some later) p bytes torn shown right some line w = absurd w
bytes_passed None (Some text) (Some later) p bytes torn shown right some line w = absurd (none-some text right.built)
bytes_passed (Some base) (Some text) (Some later) p bytes torn shown right some line w =
    let sent = sent_of base p text in
    let built = built_bytes base p torn shown sent text bytes later (built_of base p torn shown text right) some line w in
    let shown_then = shown_behind p bytes in
    let all = sent ++ bytes in
    (right_of base p torn shown_then all later (shown_few p bytes) built, sent_is base p torn shown_then all later built)

nothing_passed : (base now later : Option (List ℕ)) (p : List ℕ) (torn : Bool) (shown more : ℕ) → IsRight base p torn shown now
    → Extends now later p shown more → IsRight base p true more later × Appended (told base p now) (told base p later) []
nothing_passed base now None p torn shown more right e = (record { few = e.few; built = refl; proper = refl }, tt)
nothing_passed base None (Some later) p torn shown more right e = absurd e.written
nothing_passed None (Some text) (Some later) p torn shown more right e = absurd (none-some text right.built)
nothing_passed (Some base) (Some text) (Some later) p torn shown more right e =
    let sent = sent_of base p text in
    let built = built_torn base p torn shown more sent text later (built_of base p torn shown text right) e.further e.few e.written in
    (right_of base p true more sent later e.few built, sent_is base p true more sent later built ∙ sym (append-nil sent))

passed : {E : Type 0} (base now later : Option (List ℕ)) (p piece line : List ℕ) (torn : Bool) (shown after : ℕ) (result : Result ℕ E)
    → IsRight base p torn shown now → IsLineOf line piece → WritesMarked now later p shown line after result
    → IsPassed base now later p piece (torn || is_err result) after result
passed base now later p piece line torn shown after (Ok count) right of_piece w =
    let some : 0 < length (take count line) = omega (arith, w.some, w.few, length-take-le count line w.few) in
    let both = bytes_passed base now later p (take count line) torn shown right some (take_in_line count line of_piece.in_line) w.written in
    let front = ap (take count) of_piece.front ∙ take-take count (length line) piece w.few in
    record {
      right = subst (λ t. IsRight base p t after later) (or_false torn)
          (subst (λ k. IsRight base p torn k later) (sym w.shown_then) both.0);
      writes = (w.some, omega (arith, w.few, of_piece.few), subst (Appended (told base p now) (told base p later)) front both.1);
    }
passed base now later p piece line torn shown after (Err e) right of_piece w =
    let both = nothing_passed base now later p torn shown after right w in
    record { right = subst (λ t. IsRight base p t after later) (or_true torn) both.0; writes = both.1 }

-- a failure tears it
pub line_passed : {E : Type 0} (base now later : Option (List ℕ)) (p prefix piece line : List ℕ) (torn failed : Bool) (shown after : ℕ)
    (result : Result ℕ E)
    → prefix ≡ p → failed ≡ is_err result → IsRight base p torn shown now → IsLineOf line piece
    → WritesMarked now later prefix shown line after result
    → IsPassed base now later p piece (torn || failed) after result
line_passed {E} base now later p prefix piece line torn failed shown after result same is right of_piece w =
    let written = subst (λ q. WritesMarked {E = E} now later q shown line after result) same w in
    subst (λ f. IsPassed base now later p piece (torn || f) after result) (sym is)
    (passed base now later p piece line torn shown after result right of_piece written)

-- ---- faults

-- a count that rose once has risen
calm_later : (first before now : ℕ) → before ≤ now → is_calm first before ≡ false → is_calm first now ≡ false
calm_later first before now later e = le-ltb now (one_more first) (omega (arith, ltb-false before (one_more first) e, later))

rose_first : (first before now : ℕ) → first ≤ before → Rose before now → is_calm first now ≡ false
rose_first first before now le more = le-ltb now (one_more first) (omega (arith, le, more))

rose : {E : Type 0} (first before now : ℕ) (torn : Bool) (result : Result ℕ E) → first ≤ before → HasCause before now result
    → (torn && is_calm first before) ≡ false → ((torn || is_err result) && is_calm first now) ≡ false
rose first before now true result le cause e = calm_later first before now cause.later e
rose first before now false (Ok n) le cause e = refl
rose first before now false (Err f) le cause e = rose_first first before now le cause.failed

-- where a sink is torn, its count of faults has risen since it was made
pub torn_rose : {E : Type 0} (first before now : ℕ) (torn failed : Bool) (result : Result ℕ E) → failed ≡ is_err result
    → first ≤ before
    → HasCause before now result → (torn && is_calm first before) ≡ false → ((torn || failed) && is_calm first now) ≡ false
torn_rose first before now torn failed result is le cause e =
    subst (λ f. ((torn || f) && is_calm first now) ≡ false) (sym is) (rose first before now torn result le cause e)
