-- A text has lines in one way. Where a line stands first in it, it is the first of them, and lines with their line feeds are
-- cut apart again.
use Rattle.std.proofs.Common.{◌≡◌, ◌≢◌, ℕ, zero, suc, ◌+◌, ◌-◌, ◌<◌, true, false, cond, nat_eq, List, [], ◌∷◌, ◌++◌, length, get_or, take, drop, map, flat_map, All, Contains, inl, inr, refl, sym, ap, ◌∙◌, subst, append_assoc, append-nil, arith}
use Rattle.std.specs.Prelude.{slice_range}
use Rattle.std.proofs.lemmas.Bool.{false≢true, ne_eqb}
use Rattle.std.proofs.lemmas.List.{drop_all, length-drop, map-append}
use Rattle.std.proofs.lemmas.Grind.{flat_map-append}
use Rattle.std.proofs.lemmas.List.Elements.{All-nil, All-cons, All-append, All-head, All-tail, All-contains, All-weaker, Contains-append_right}
use Rattle.palm_base.proofs.cited.Members.{nat_known, member_here}
use Rattle.palm_read.specs.Bytes.{is_plain}
use Rattle.palm_read.specs.Lines.{ended, HasNoFeed, Cuts, without_return, last_line, AreLines, IsNextFeed, IsNextLine}

-- ---- a text is cut in one way

abbrev IsNoFeed : ℕ → Type 0
IsNoFeed b = b ≢ 10

-- what stands before the first line feed, and what behind it
split_once : (a b x y : List ℕ) → HasNoFeed a → HasNoFeed b → a ++ 10 ∷ x ≡ b ++ 10 ∷ y → (a ≡ b) × (x ≡ y)
split_once [] [] x y na nb e = let t : x ≡ y = cc in (refl, t)
split_once [] (c ∷ b) x y na nb e = let h : c ≡ 10 = cc in absurd (All-head IsNoFeed c b nb h)
split_once (c ∷ a) [] x y na nb e = let h : c ≡ 10 = cc in absurd (All-head IsNoFeed c a na h)
split_once (c ∷ a) (d ∷ b) x y na nb e =
    let h : c ≡ d = cc in
    let t : a ++ 10 ∷ x ≡ b ++ 10 ∷ y = cc in
    let r = split_once a b x y (All-tail IsNoFeed c a na) (All-tail IsNoFeed d b nb) t in
    let s : a ≡ b = r.0 in
    let both : c ∷ a ≡ d ∷ b = cc in
    (both, r.1)

-- a text that begins with a line
begins : (line : List ℕ) (lines : List (List ℕ)) (rest : List ℕ) → flat_map ended (line ∷ lines) ++ rest ≡ line ++ 10 ∷ (flat_map ended lines ++ rest)
begins line lines rest = append_assoc (ended line) (flat_map ended lines) rest ∙ append_assoc line (10 ∷ []) (flat_map ended lines ++ rest)

-- what has no line feed begins with no line
unbegun : (rest line more : List ℕ) → HasNoFeed rest → rest ≡ line ++ 10 ∷ more → ⊥
unbegun rest line more none e =
    let m : Contains (line ++ 10 ∷ more) 10 = Contains-append_right line (10 ∷ more) 10 (member_here 10 more) in
    All-contains IsNoFeed rest 10 none (subst (λ (z : List ℕ). Contains z 10) (sym e) m) refl

cuts_once : (xs ys : List (List ℕ)) (x y : List ℕ) → flat_map ended xs ++ x ≡ flat_map ended ys ++ y → All HasNoFeed xs → All HasNoFeed ys → HasNoFeed x → HasNoFeed y → (xs ≡ ys) × (x ≡ y)
cuts_once [] [] x y e ns ms n m = (refl, e)
cuts_once [] (l ∷ ls) x y e ns ms n m = absurd (unbegun x l (flat_map ended ls ++ y) n (e ∙ begins l ls y))
cuts_once (l ∷ ls) [] x y e ns ms n m = absurd (unbegun y l (flat_map ended ls ++ x) m (sym e ∙ begins l ls x))
cuts_once (k ∷ ks) (l ∷ ls) x y e ns ms n m =
    let s = split_once k l (flat_map ended ks ++ x) (flat_map ended ls ++ y) (All-head HasNoFeed k ks ns) (All-head HasNoFeed l ls ms) (sym (begins k ks x) ∙ e ∙ begins l ls y) in
    let r = cuts_once ks ls x y s.1 (All-tail HasNoFeed k ks ns) (All-tail HasNoFeed l ls ms) n m in
    let a : k ≡ l = s.0 in
    let b : ks ≡ ls = r.0 in
    let both : k ∷ ks ≡ l ∷ ls = cc in
    (both, r.1)

pub lines_once : (text : List ℕ) (xs ys : List (List ℕ)) → AreLines text xs → AreLines text ys → xs ≡ ys
lines_once text xs ys a b =
    let r = cuts_once a.ended_lines b.ended_lines a.rest b.rest (sym a.cuts.whole ∙ b.cuts.whole) a.cuts.unbroken b.cuts.unbroken a.cuts.unfinished b.cuts.unfinished in
    a.all ∙ ap (λ (z : List (List ℕ)). map without_return z ++ last_line a.rest) r.0
    ∙ ap (λ (z : List ℕ). map without_return b.ended_lines ++ last_line z) r.1 ∙ sym b.all

-- ---- and it can be cut

abbrev HasCut : List ℕ → Type 0
HasCut text = (lines : List (List ℕ)) × (rest : List ℕ) × Cuts text lines rest

-- one more byte in front, which is no line feed
cut_byte : (b : ℕ) (text : List ℕ) (lines : List (List ℕ)) (rest : List ℕ) → IsNoFeed b → Cuts text lines rest → HasCut (b ∷ text)
cut_byte b text [] rest n c = (
  [],
  b ∷ rest,
  record {
    whole = ap (λ (z : List ℕ). b ∷ z) c.whole;
    unbroken = All-nil HasNoFeed;
    unfinished = All-cons IsNoFeed b rest n c.unfinished;
  },
)
cut_byte b text (l ∷ ls) rest n c = (
  (b ∷ l) ∷ ls,
  rest,
  record {
    whole = ap (λ (z : List ℕ). b ∷ z) c.whole;
    unbroken = All-cons HasNoFeed (b ∷ l) ls (All-cons IsNoFeed b l n (All-head HasNoFeed l ls c.unbroken)) (All-tail HasNoFeed l ls c.unbroken);
    unfinished = c.unfinished;
  },
)

-- a line feed in front
cut_feed : (b : ℕ) (text : List ℕ) (lines : List (List ℕ)) (rest : List ℕ) → b ≡ 10 → Cuts text lines rest → HasCut (b ∷ text)
cut_feed b text lines rest e c = (
  [] ∷ lines,
  rest,
  record {
    whole = ap (λ (z : ℕ). z ∷ text) e ∙ ap (λ (z : List ℕ). 10 ∷ z) c.whole;
    unbroken = All-cons HasNoFeed [] lines (All-nil IsNoFeed) c.unbroken;
    unfinished = c.unfinished;
  },
)

has_cut : (text : List ℕ) → HasCut text
has_cut [] = ([], [], record { whole = refl; unbroken = All-nil HasNoFeed; unfinished = All-nil IsNoFeed })
has_cut (b ∷ text) =
    let r = has_cut text in
    elim (nat_known b 10) [ inl e ↦ cut_feed b text r.0 r.1 e r.2 | inr n ↦ cut_byte b text r.0 r.1 n r.2 ]

pub has_lines : (text : List ℕ) → (lines : List (List ℕ)) × AreLines text lines
has_lines text =
    let r = has_cut text in
    (map without_return r.0 ++ last_line r.1, record { ended_lines = r.0; rest = r.1; cuts = r.2; all = refl })

-- the lines of a text whose first ones are known, each with its line feed
pub text_lines : (text : List ℕ) (lines : List (List ℕ)) (rest : List ℕ) → text ≡ flat_map ended lines ++ rest → All HasNoFeed lines
    → (others : List (List ℕ)) × AreLines text (map without_return lines ++ others)
text_lines text lines rest whole unbroken =
    let c = has_cut rest in (
      map without_return c.0 ++ last_line c.1,
      record {
        ended_lines = lines ++ c.0;
        rest = c.1;
        cuts = record {
          whole = whole ∙ ap (λ (z : List ℕ). flat_map ended lines ++ z) c.2.whole ∙ sym (append_assoc (flat_map ended lines) (flat_map ended c.0) c.1)
              ∙ ap (λ (z : List ℕ). z ++ c.1) (sym (flat_map-append ended lines c.0));
          unbroken = All-append HasNoFeed lines c.0 unbroken c.2.unbroken;
          unfinished = c.2.unfinished;
        };
        all = sym (append_assoc (map without_return lines) (map without_return c.0) (last_line c.1))
            ∙ ap (λ (z : List (List ℕ)). z ++ last_line c.1) (sym (map-append without_return lines c.0));
      },
    )

-- ---- the first line of a text

-- a text without bytes has no lines
pub no_lines : AreLines [] []
no_lines = record { ended_lines = []; rest = []; cuts = record { whole = refl; unbroken = All-nil HasNoFeed; unfinished = All-nil IsNoFeed }; all = refl }

-- a line with its feed
pub line_to_feed : (text : List ℕ) (from end : ℕ) → IsNextFeed text from end → IsNextLine text from (without_return (slice_range text from end)) (end + 1)
line_to_feed text from end is = record {
  further = omega (arith, is.from_on);
  within = omega (arith, is.within);
  before = λ lines a.
      let line : List ℕ = slice_range text from end in
      record {
        ended_lines = line ∷ a.ended_lines;
        rest = a.rest;
        cuts = record {
          whole = is.line ∙ ap (λ (z : List ℕ). ended line ++ z) a.cuts.whole ∙ sym (append_assoc (ended line) (flat_map ended a.ended_lines) a.rest);
          unbroken = All-cons HasNoFeed line a.ended_lines is.unbroken a.cuts.unbroken;
          unfinished = a.cuts.unfinished;
        };
        all = ap (λ (z : List (List ℕ)). without_return line ∷ z) a.all;
      };
}

-- bytes without a line feed are one line
one_line : (line : List ℕ) → 0 < length line → HasNoFeed line → AreLines line (without_return line ∷ [])
one_line [] some unbroken = absurd (omega (arith, some))
one_line (b ∷ bs) some unbroken = record { ended_lines = []; rest = b ∷ bs; cuts = record { whole = refl; unbroken = All-nil HasNoFeed; unfinished = unbroken }; all = refl }

-- the last line, which has none
pub line_to_end : (text : List ℕ) (from : ℕ) → from < length text → HasNoFeed (drop from text) → IsNextLine text from (without_return (drop from text)) (length text)
line_to_end text from lt unbroken =
    let some : 0 < length (drop from text) = omega (arith, length-drop from text, lt) in
    let over : drop (length text) text ≡ [] = drop_all (length text) text (omega arith) in
    record {
      further = lt;
      within = omega arith;
      before = λ lines a.
          let none : lines ≡ [] = lines_once [] lines [] (subst (λ (z : List ℕ). AreLines z lines) over a) no_lines in
          subst (λ (z : List (List ℕ)). AreLines (drop from text) (without_return (drop from text) ∷ z)) (sym none) (one_line (drop from text) some unbroken);
    }

-- where no byte is left, no line is
pub no_lines_left : (text : List ℕ) (from : ℕ) → drop from text ≡ [] → AreLines (drop from text) []
no_lines_left text from none = subst (λ (z : List ℕ). AreLines z []) (sym none) no_lines

-- ---- lines with their line feeds

-- a byte of a plain line ends no line
not_feed : (b : ℕ) → is_plain b ≡ true → b ≢ 10
not_feed b plain e = false≢true (sym (ap is_plain e) ∙ plain)

not_return : (b : ℕ) → is_plain b ≡ true → nat_eq b 13 ≡ false
not_return b plain = ne_eqb b 13 (λ e. false≢true (sym (ap is_plain e) ∙ plain))

abbrev pub IsOfPlain : List ℕ → Type 0
IsOfPlain line = All (λ b. is_plain b ≡ true) line

-- the last byte of a plain line is no carriage return
last_plain : (line : List ℕ) (k : ℕ) → IsOfPlain line → nat_eq (get_or line k 0) 13 ≡ false
last_plain [] k plain = refl
last_plain (b ∷ bs) zero plain = not_return b (All-head (λ c. is_plain c ≡ true) b bs plain)
last_plain (b ∷ bs) (suc k) plain = last_plain bs k (All-tail (λ c. is_plain c ≡ true) b bs plain)

same_line : (line : List ℕ) → IsOfPlain line → without_return line ≡ line
same_line line plain = ap (λ t. cond t (take (length line - 1) line) line) (last_plain line (length line - 1) plain)

same_lines : (lines : List (List ℕ)) → All IsOfPlain lines → map without_return lines ≡ lines
same_lines [] plain = refl
same_lines (line ∷ lines) plain =
    ap (λ (l : List ℕ). l ∷ map without_return lines) (same_line line (All-head IsOfPlain line lines plain))
    ∙ ap (λ (ls : List (List ℕ)). line ∷ ls) (same_lines lines (All-tail IsOfPlain line lines plain))

-- ended lines of plain bytes are cut apart
pub ended_lines : (lines : List (List ℕ)) → All IsOfPlain lines → AreLines (flat_map ended lines) lines
ended_lines lines plain = record {
  ended_lines = lines;
  rest = [];
  cuts = record {
    whole = sym (append-nil (flat_map ended lines));
    unbroken = All-weaker IsOfPlain HasNoFeed (λ line. All-weaker (λ b. is_plain b ≡ true) IsNoFeed not_feed line) lines plain;
    unfinished = All-nil IsNoFeed;
  };
  all = sym (append-nil (map without_return lines) ∙ same_lines lines plain);
}
