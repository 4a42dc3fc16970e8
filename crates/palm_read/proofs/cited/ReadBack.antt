-- A printed line reads back as the same line.
use Rattle.std.proofs.Common.{◌≡◌, ℕ, ◌≤◌, false, List, length, refl, sym, subst, arith}
use Rattle.std.proofs.lemmas.List.Elements.{recursion_from_All}
use Rattle.palm_read.specs.Bounds.{IsWithin}
use Rattle.palm_read.specs.Bytes.{after_blanks, is_note}
use Rattle.palm_read.specs.Token.{tokens_of}
use Rattle.palm_read.specs.Form.{Form, DeclareForm}
use Rattle.palm_read.specs.Grammar.{pieces, IsProper}
use Rattle.palm_read.specs.Limits.{IsInRange, HasNothing, HasRepeat, IsBeyond, numbers}
use Rattle.palm_read.specs.Modes.{Allows}
use Rattle.palm_read.specs.Reading.{line_of, IsRead, a_comment, a_form}
use Rattle.palm_read.specs.Text.{line_words, text_of}
use Rattle.palm_read.specs.declared.line.Line.{Line}
use Rattle.palm_read.specs.declared.mode.Mode.{Mode}
use Rattle.palm_read.proofs.cited.SoundLines.{wordy_tokens}
use Rattle.palm_read.proofs.cited.Layouts.{words_spell, words_plain, words_short}
use Rattle.palm_read.proofs.Canonical.{canonical, canonical_line, canonical_allowed, canonical_proper, canonical_something, canonical_once, canonical_range}
use Rattle.palm_read.proofs.Ranges.{numbers_within}
use Rattle.palm_read.proofs.cited.PrintedParts.{HasNames, has_names}
use Rattle.palm_read.proofs.PrintedForms.{words_line}

-- each line but a comment is printed with a word in front
says_something : (form : Form) → is_note (after_blanks (text_of (line_of form))) ≡ false
says_something (DeclareForm name domain) = refl
says_something _ = refl

-- the line of a form is printed so that it reads back
pub form_read : (mode : Mode) (form : Form) → IsProper form → Allows mode (line_of form) → IsInRange (line_of form) → (HasNothing (line_of form) → ⊥) → (HasRepeat (line_of form) → ⊥) → (IsBeyond (line_of form) → ⊥) → HasNames (pieces form) → IsRead mode (text_of (line_of form)) (line_of form)
form_read mode form proper allowed range some once near names =
    let printed = words_line form proper some (recursion_from_All IsWithin (numbers form) (numbers_within form range)) names near in
    let words = line_words (line_of form) in
    let short : length (text_of (line_of form)) ≤ 65536 = omega (arith, words_short words (pieces (canonical form)) printed) in
    a_form (canonical form) (record { short = short; says = says_something form; plain = words_plain words (pieces (canonical form)) printed })
    (record { proper = canonical_proper form proper; spells = words_spell words (pieces (canonical form)) printed })
    (canonical_allowed mode form allowed) (canonical_range form range) (canonical_something form some) (canonical_once form once) (sym (canonical_line form))

pub read_back : (mode : Mode) (bytes : List ℕ) (line : Line) → IsRead mode bytes line → (IsBeyond line → ⊥) → IsRead mode (text_of line) line
read_back mode bytes line (a_comment c) near = a_comment (record { short = omega arith; note = refl })
read_back mode bytes line (a_form form plain f allowed range some once e) near =
    let names = has_names (pieces form) (tokens_of bytes) (wordy_tokens bytes) f.spells in
    subst (λ l. IsRead mode (text_of l) l) (sym e) (form_read mode form f.proper allowed range some once (λ b. near (subst IsBeyond (sym e) b)) names)
