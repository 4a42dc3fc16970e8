-- To whom a line goes: what its first bytes decide whatever follows, and what the first name of its tokens says. And what a
-- carriage return does at the end of a line.
use Rattle.std.proofs.Common.{◌≡◌, ◌≢◌, ℕ, ◌+◌, ◌-◌, ◌<◌, ◌≤◌, nat_eq, get_or, Bool, true, false, cond, Some, None, List, [], ◌∷◌, ◌++◌, length, take, drop, All, refl, sym, ap, ◌∙◌, subst, arith, append_assoc, length-append}
use Rattle.std.specs.List.{slice_get}
use Rattle.std.proofs.lemmas.Bool.{both_ways}
use Rattle.std.proofs.lemmas.Bool.Decides.{nat_tests}
use Rattle.std.proofs.lemmas.List.{append_cancel_left, drop-drop, drop_at, get_or-append-add, take_at}
use Rattle.std.proofs.lemmas.List.Elements.{All-head, All-take}
use Rattle.std.proofs.lemmas.Option.{same_Some}
use Rattle.std.proofs.Math.Seq.{take-append-add}
use Rattle.palm_read.specs.Bytes.{after_blanks, is_blank, is_letter, is_note, is_word_byte}
use Rattle.palm_read.specs.Lines.{HasNoFeed, without_return}
use Rattle.palm_read.specs.Name.{IsNameText}
use Rattle.palm_read.specs.Piece.{word}
use Rattle.palm_read.specs.Token.{Lexeme, tokens_of}
use Rattle.palm_read.specs.Reader.Steps.{name_at}
use Rattle.palm_read.proofs.cited.Front.{name_at-cons, name_is}
use Rattle.palm_read.proofs.cited.SoundLines.{IsWordy, name_text, wordy_tokens}
use Rattle.palm_read.proofs.cited.TokenLemmas.{tokens_of-word}
use Rattle.palm_hub.specs.Addressing.{Addresses, IsHubComment, IsNameless}
use Rattle.palm_hub.specs.Standing.{Holds}
use Rattle.palm_hub.specs.declared.limits.TheConstants.{MOST_HEAD_BYTES}

-- ---- blanks in front

-- behind blanks alone stands what follows them
pub blanks_on : (head more : List ℕ) → after_blanks head ≡ [] → after_blanks (head ++ more) ≡ after_blanks more
blanks_on [] more blank = refl
blanks_on (b ∷ bs) more blank = go (is_blank b) (blanks_on bs more) blank
  where
    go : (t : Bool) → (after_blanks bs ≡ [] → after_blanks (bs ++ more) ≡ after_blanks more) → cond t (after_blanks bs) (b ∷ bs) ≡ []
        → cond t (after_blanks (bs ++ more)) (b ∷ (bs ++ more)) ≡ after_blanks more
    go true shorter e = shorter e
    go false shorter e = absurd cc

-- where a byte is no blank, what follows stands at the end
some_on : (head more : List ℕ) → after_blanks head ≢ [] → after_blanks (head ++ more) ≡ after_blanks head ++ more
some_on [] more some = absurd (some refl)
some_on (b ∷ bs) more some = go (is_blank b) (some_on bs more) some
  where
    go : (t : Bool) → (after_blanks bs ≢ [] → after_blanks (bs ++ more) ≡ after_blanks bs ++ more) → cond t (after_blanks bs) (b ∷ bs) ≢ []
        → cond t (after_blanks (bs ++ more)) (b ∷ (bs ++ more)) ≡ cond t (after_blanks bs) (b ∷ bs) ++ more
    go true shorter n = shorter n
    go false shorter n = refl

-- the first byte of blanks is one
first_blank : (b : ℕ) (bs : List ℕ) → after_blanks (b ∷ bs) ≡ [] → is_blank b ≡ true
first_blank b bs blank = go (is_blank b) blank
  where
    go : (t : Bool) → cond t (after_blanks bs) (b ∷ bs) ≡ [] → t ≡ true
    go true e = refl
    go false e = absurd cc

-- ---- comments

-- blanks alone are a comment
pub blank_is_comment : (head : List ℕ) → after_blanks head ≡ [] → IsHubComment head
blank_is_comment head blank = ap is_note blank

-- what is no comment has a byte that is no blank
pub speaks : (head : List ℕ) → (IsHubComment head → ⊥) → after_blanks head ≢ []
speaks head says blank = says (blank_is_comment head blank)

-- the first byte tells
note_on : (xs more : List ℕ) → xs ≢ [] → is_note (xs ++ more) ≡ is_note xs
note_on [] more some = absurd (some refl)
note_on (b ∷ bs) more some = refl

-- a byte that is no blank tells whether the line is a comment
note_decided : (head more : List ℕ) → after_blanks head ≢ [] → is_note (after_blanks (head ++ more)) ≡ is_note (after_blanks head)
note_decided head more some = ap is_note (some_on head more some) ∙ note_on (after_blanks head) more some

-- a comment stays one whatever follows
pub comment_on : (head rest : List ℕ) → after_blanks head ≢ [] → IsHubComment head → IsHubComment (head ++ rest)
comment_on head rest some comment = note_decided head rest some ∙ comment

-- and what is no comment becomes none
pub says_on : (head rest : List ℕ) → (IsHubComment head → ⊥) → IsHubComment (head ++ rest) → ⊥
says_on head rest says comment = says (sym (note_decided head rest (speaks head says)) ∙ comment)

-- ---- names

-- what follows goes on the line
pub addresses_on : {content name line : List ℕ} (more : List ℕ) → Addresses content name line → Addresses (content ++ more) name (line ++ more)
addresses_on {name = name} {line = line} more a = record {
  named = a.named;
  gap = a.gap;
  is_gap = a.is_gap;
  whole = ap (λ (z : List ℕ). z ++ more) a.whole ∙ append_assoc name (a.gap ∷ line) more;
}

-- a name is short enough
name_short : (name : List ℕ) → IsNameText name → length name ≤ 32
name_short [] named = absurd named
name_short (b ∷ bs) named = named.2.short

-- bytes that are longer than what stands before a byte have that byte
front_has : (head rest name line : List ℕ) (gap : ℕ) → head ++ rest ≡ name ++ gap ∷ line → length name < length head
    → (behind : List ℕ) × (head ≡ name ++ gap ∷ behind)
front_has [] rest name line gap e lt = absurd (omega (arith, lt))
front_has (c ∷ cs) rest [] line gap e lt = let same : c ≡ gap = cc in (cs, ap (λ (z : ℕ). z ∷ cs) same)
front_has (c ∷ cs) rest (d ∷ ds) line gap e lt =
    let same : c ≡ d = cc in
    let others : cs ++ rest ≡ ds ++ gap ∷ line = cc in
    let r = front_has cs rest ds line gap others (omega (arith, lt)) in
    let left : cs ≡ ds ++ gap ∷ r.0 = r.1 in
    (r.0, cc)

-- so many bytes tell whether a name and a space or a tab stand in front
pub nameless_on : (head rest : List ℕ) → MOST_HEAD_BYTES ≤ length head → IsNameless head → IsNameless (head ++ rest)
nameless_on head rest long nameless = record {
  says = says_on head rest nameless.says;
  none = λ name line a.
      let r = front_has head rest name line a.gap a.whole (omega (arith, long, name_short name a.named)) in
      nameless.none name r.0 (record { named = a.named; gap = a.gap; is_gap = a.is_gap; whole = r.1 });
}

-- a letter is no blank
letter_no_blank : (b : ℕ) → is_letter b ≡ true → is_blank b ≡ false
letter_no_blank b letter = grind (arith, nat_tests)

-- no name begins with a blank
unnamed_behind_blank : (b : ℕ) (bs name line : List ℕ) → is_blank b ≡ true → Addresses (b ∷ bs) name line → ⊥
unnamed_behind_blank b bs [] line blank a = a.named
unnamed_behind_blank b bs (c ∷ cs) line blank a =
    let whole = a.whole in
    let same : b ≡ c = cc in
    both_ways (is_blank c) (letter_no_blank c a.named.0) (ap is_blank (sym same) ∙ blank)

-- a line that begins with a blank and is no comment is nameless
pub behind_blanks_nameless : (head more : List ℕ) → after_blanks head ≡ [] → 0 < length head → (IsHubComment more → ⊥) → (rest : List ℕ)
    → IsNameless (head ++ (more ++ rest))
behind_blanks_nameless [] more blank some says rest = absurd (omega (arith, some))
behind_blanks_nameless (b ∷ bs) more blank some says rest = record {
  says = λ comment. says_on more rest says (sym (ap is_note (blanks_on (b ∷ bs) (more ++ rest) blank)) ∙ comment);
  none = λ name line a. unnamed_behind_blank b (bs ++ (more ++ rest)) name line (first_blank b bs blank) a;
}

-- ---- the first name of the tokens

-- a blank goes on no word
blank_ends_word : (b : ℕ) → is_blank b ≡ true → is_word_byte b ≡ false
blank_ends_word b blank = grind (arith, nat_tests)

-- a name before a blank is the first name of the tokens
name_tokens : (name : List ℕ) (gap : ℕ) (line : List ℕ) → IsNameText name → is_blank gap ≡ true
    → name_at (tokens_of (name ++ gap ∷ line)) ≡ Some (name, tokens_of (gap ∷ line))
name_tokens [] gap line named blank = absurd named
name_tokens (b ∷ bs) gap line named blank =
    ap name_at (tokens_of-word b bs (gap ∷ line) named.0 named.1 (blank_ends_word gap blank))
    ∙ name_at-cons (b ∷ bs) (tokens_of (gap ∷ line)) named.2

-- the name that a line begins with is the one that is read
pub name_read : (head name line : List ℕ) (a : Addresses head name line) → name_at (tokens_of head) ≡ Some (name, tokens_of (a.gap ∷ line))
name_read head name line a = ap (λ (z : List ℕ). name_at (tokens_of z)) a.whole ∙ name_tokens name a.gap line a.named a.is_gap

-- where none is read, a line begins with none
pub unread : (head : List ℕ) → name_at (tokens_of head) ≡ None → (name line : List ℕ) → Addresses head name line → ⊥
unread head none name line a = let read = name_read head name line a in absurd cc

-- and it is the only one
same_name : (head name : List ℕ) (left : List Lexeme) → name_at (tokens_of head) ≡ Some (name, left) → (other line : List ℕ)
    → Addresses head other line → other ≡ name
same_name head name left read other line a =
    let again = name_read head other line a in
    let pair : List ℕ × List Lexeme = (name, left) in
    let one : List ℕ × List Lexeme = (other, tokens_of (a.gap ∷ line)) in
    let same : one ≡ pair = same_Some one pair (sym again ∙ read) in
    ap (λ (z : List ℕ × List Lexeme). z.0) same

-- a line begins with no name where the one that is read does not stand in front
pub not_in_front : (head name : List ℕ) (left : List Lexeme) → name_at (tokens_of head) ≡ Some (name, left) → ((rest : List ℕ) → head ≢ name ++ rest)
    → (other line : List ℕ) → Addresses head other line → ⊥
not_in_front head name left read apart other line a =
    let same = same_name head name left read other line a in
    apart (a.gap ∷ line) (a.whole ∙ ap (λ (z : List ℕ). z ++ a.gap ∷ line) same)

-- a name that was read is a name's text
read_named : (head name : List ℕ) (left : List Lexeme) → name_at (tokens_of head) ≡ Some (name, left) → IsNameText name
read_named head name left read =
    let is = name_is (tokens_of head) (name, left) read in
    let wordy : All IsWordy (word name ∷ left) = subst (All IsWordy) is.0 (wordy_tokens head) in
    name_text name (All-head IsWordy (word name) left wordy refl) is.1

-- the name that was read stands in front, and a space or a tab behind it
pub read_addresses : (head name rest : List ℕ) (left : List Lexeme) (gap : ℕ) → name_at (tokens_of head) ≡ Some (name, left) → head ≡ name ++ rest
    → slice_get rest 0 ≡ Some gap → is_blank gap ≡ true → Addresses head (take (length name) head) (drop (length name + 1) head)
read_addresses head name [] left gap read front first blank = absurd cc
read_addresses head name (b ∷ bs) left gap read front first blank =
    let same : b ≡ gap = same_Some b gap first in
    let begins : take (length name) head ≡ name = ap (take (length name)) front ∙ take_at name (b ∷ bs) (length name) refl in
    let left_of : drop (length name) head ≡ b ∷ bs = ap (drop (length name)) front ∙ drop_at name (b ∷ bs) (length name) refl in
    let behind : drop (length name + 1) head ≡ bs = sym (drop-drop 1 (length name) head) ∙ ap (drop 1) left_of in
    record {
      named = subst IsNameText (sym begins) (read_named head name left read);
      gap = b;
      is_gap = ap is_blank same ∙ blank;
      whole = rw (begins, behind) front;
    }

-- and where a line begins with a name, it is that one, and the byte behind it is the space or the tab
behind_read : (head name rest : List ℕ) (left : List Lexeme) → name_at (tokens_of head) ≡ Some (name, left) → head ≡ name ++ rest
    → (other line : List ℕ) (a : Addresses head other line) → slice_get rest 0 ≡ Some a.gap
behind_read head name rest left read front other line a =
    let same = same_name head name left read other line a in
    let whole : name ++ rest ≡ name ++ a.gap ∷ line = sym front ∙ a.whole ∙ ap (λ (z : List ℕ). z ++ a.gap ∷ line) same in
    ap (λ (z : List ℕ). slice_get z 0) (append_cancel_left name rest (a.gap ∷ line) whole)

-- a line begins with no name where nothing stands behind the one that is read
pub nothing_behind : (head name rest : List ℕ) (left : List Lexeme) → name_at (tokens_of head) ≡ Some (name, left) → head ≡ name ++ rest
    → slice_get rest 0 ≡ None → (other line : List ℕ) → Addresses head other line → ⊥
nothing_behind head name rest left read front none other line a = let some = behind_read head name rest left read front other line a in absurd cc

-- nor where no space and no tab does
pub other_behind : (head name rest : List ℕ) (left : List Lexeme) (gap : ℕ) → name_at (tokens_of head) ≡ Some (name, left) → head ≡ name ++ rest
    → slice_get rest 0 ≡ Some gap → is_blank gap ≡ false → (other line : List ℕ) → Addresses head other line → ⊥
other_behind head name rest left gap read front first apart other line a =
    let same : gap ≡ a.gap = same_Some gap a.gap (sym first ∙ behind_read head name rest left read front other line a) in
    both_ways (is_blank gap) apart (ap is_blank same ∙ a.is_gap)

-- ---- carriage returns

-- no line feed is added
pub unbroken_without_return : (line : List ℕ) → HasNoFeed line → HasNoFeed (without_return line)
unbroken_without_return line unbroken = go (nat_eq (get_or line (length line - 1) 0) 13)
  where
    go : (t : Bool) → HasNoFeed (cond t (take (length line - 1) line) line)
    go true = All-take (λ b. b ≢ 10) (length line - 1) line unbroken
    go false = unbroken

-- what stands before a byte does not matter
pub without_return-append : (front : List ℕ) (b : ℕ) (bs : List ℕ) → without_return (front ++ b ∷ bs) ≡ front ++ without_return (b ∷ bs)
without_return-append front b bs =
    let long : length (front ++ b ∷ bs) - 1 ≡ length front + (length (b ∷ bs) - 1) = omega (arith, length-append front (b ∷ bs)) in
    rw (long, get_or-append-add front (b ∷ bs) (length (b ∷ bs) - 1) 0, take-append-add front (b ∷ bs) (length (b ∷ bs) - 1))
    (go (nat_eq (get_or (b ∷ bs) (length (b ∷ bs) - 1) 0) 13) (take (length (b ∷ bs) - 1) (b ∷ bs)))
  where
    go : (t : Bool) (shorter : List ℕ) → cond t (front ++ shorter) (front ++ b ∷ bs) ≡ front ++ cond t shorter (b ∷ bs)
    go true shorter = refl
    go false shorter = refl

-- before the first byte none waits
pub holds_nothing : Holds [] [] false
holds_nothing = record { shown = refl; whole = refl }

-- what stands before a byte stands before what is held of it
pub holds_on : (front : List ℕ) {piece content : List ℕ} {held : Bool} → 0 < length piece → Holds piece content held
    → Holds (front ++ piece) (front ++ content) held
holds_on front {piece} {content} {held} some h = record {
  shown = shown piece some ∙ ap (λ (z : List ℕ). front ++ z) h.shown;
  whole = whole held h.whole;
}
  where
    shown : (xs : List ℕ) → 0 < length xs → without_return (front ++ xs) ≡ front ++ without_return xs
    shown [] none = absurd (omega (arith, none))
    shown (b ∷ bs) none = without_return-append front b bs

    whole : (t : Bool) → piece ≡ cond t (content ++ 13 ∷ []) content → front ++ piece ≡ cond t (front ++ content ++ 13 ∷ []) (front ++ content)
    whole true e = ap (λ (z : List ℕ). front ++ z) e ∙ sym (append_assoc front content (13 ∷ []))
    whole false e = ap (λ (z : List ℕ). front ++ z) e
