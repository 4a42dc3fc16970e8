-- To which session a hub line goes.
use Rattle.std.specs.Prelude.{◌≡◌, ℕ, true, List, ◌∷◌, ◌++◌}
use Rattle.palm_read.specs.Bytes.{after_blanks, is_blank, is_note}
use Rattle.palm_read.specs.Name.{IsNameText}

-- nothing, or `#`, stands behind the blanks in front, however long the line is
abbrev pub IsHubComment : List ℕ → Type 0
IsHubComment bytes = is_note (after_blanks bytes) ≡ true

-- a name, a space or a tab, and a line for the session of that name
pub record Addresses (bytes name line : List ℕ) : Type 0 where
  pub named : IsNameText name
  pub gap : ℕ
  pub is_gap : is_blank gap ≡ true
  pub whole : bytes ≡ name ++ gap ∷ line

-- the line is no comment, and begins with no name before a space or a tab
pub record IsNameless (bytes : List ℕ) : Type 0 where
  pub says : IsHubComment bytes → ⊥
  pub none : (name line : List ℕ) → Addresses bytes name line → ⊥
