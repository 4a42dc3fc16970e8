-- Words that no command has.
use Rattle.std.proofs.Common.{◌≡◌, ℕ, Bool, true, false, nat_eq, List, [], ◌∷◌, map, get_or, All, Any, Contains, Option, Some, None, IfNone, codes, Global, String, string_bytes, refl, sym, ap, ◌∙◌, subst, arith, inl, inr}
use Rattle.std.specs.Str.{bytes_eq}
use Rattle.std.proofs.lemmas.Bool.Decides.{nat_tests}
use Rattle.std.proofs.lemmas.Slice.Eq.{bytes_eq-Decides}
use Rattle.std.proofs.lemmas.List.Elements.{All-map}
use Rattle.palm_base.proofs.cited.Members.{all_members, member_cases, member_single, member_map}
use Rattle.palm_base.specs.Numbers.{AreDigits, digits_number}
use Rattle.palm_cli.specs.Generator.{IsSize}
use Rattle.palm_cli.specs.Words.{IsRun, IsJudge, IsGen, IsNoCommand, BeginsWithDash, IsApart, word_of}
use Rattle.palm_cli.specs.declared.words.Evidence.{Evidence}
use Rattle.palm_cli.specs.declared.words.Evidence.TheVariants.{Certificate, Proof}

-- a word that does not begin with `-`
abbrev pub IsBare : List ℕ → Type 0
IsBare [] = Unit {0}
IsBare (b ∷ bytes) = nat_eq b 45 ≡ false

bare_byte : (b : ℕ) (t : Bool) → nat_eq b 45 ≡ t → (b ≡ 45 → ⊥) → nat_eq b 45 ≡ false
bare_byte b true e n = absurd (n (grind (arith, nat_tests, e)))
bare_byte b false e n = e

bare_word : (w : List ℕ) → (IsApart w → ⊥) → IsBare w
bare_word [] n = tt
bare_word (b ∷ bytes) n = bare_byte b (nat_eq b 45) refl (λ e. n (inl e))

pub bare_words : (words : List (List ℕ)) → (Any IsApart words → ⊥) → All IsBare words
bare_words words n = all_members IsBare words (λ w m. bare_word w (λ a. n (m.0, w, m.1, m.2, a)))

-- ---- the words of a command are not apart

apart_name : (name : List ℕ) (b : ℕ) (bytes : List ℕ) → name ≡ b ∷ bytes → (b ≡ 45 → ⊥) → bytes_eq name (codes "help") ≡ false → IsApart name → ⊥
apart_name name b bytes e other f (inl dash) = other (subst BeginsWithDash e dash)
apart_name name b bytes e other f (inr help) =
    let t : bytes_eq name (codes "help") ≡ true = (bytes_eq-Decides name (codes "help")).1 help in
    let c : true ≡ false = sym t ∙ f in
    cc

run_stays : IsApart (codes "run") → ⊥
run_stays a = apart_name (codes "run") 114 (codes "un") refl (λ e. absurd (omega (arith, e))) refl a

judge_stays : (evidence : Evidence) → IsApart (word_of evidence) → ⊥
judge_stays Certificate a = apart_name (codes "check") 99 (codes "heck") refl (λ e. absurd (omega (arith, e))) refl a
judge_stays Proof a = apart_name (codes "proof") 112 (codes "roof") refl (λ e. absurd (omega (arith, e))) refl a

gen_stays : IsApart (codes "gen") → ⊥
gen_stays a = apart_name (codes "gen") 103 (codes "en") refl (λ e. absurd (omega (arith, e))) refl a

digits_stay : (w : List ℕ) → AreDigits w → IsApart w → ⊥
digits_stay [] d a = absurd (omega (arith, d.some))
digits_stay (b ∷ bytes) d (inl e) = absurd (omega (arith, (d.each 0 0 d.some).0, e))
digits_stay (b ∷ bytes) d (inr e) =
    let h : b ≡ 104 = ap (λ (xs : List ℕ). get_or xs 0 0) e in
    absurd (omega (arith, (d.each 0 0 d.some).1, h))

pub apart_words : (words : List (List ℕ)) → Any IsApart words → IsNoCommand words
apart_words words a =
    let m : Contains words a.1 = (a.0, a.2, a.3) in
    record {
      no_run = λ e.
          let is : codes "run" ≡ a.1 = member_single (codes "run") a.1 (subst (λ (z : List (List ℕ)). Contains z a.1) e m) in
          run_stays (subst IsApart (sym is) a.4);
      no_judge = λ evidence e.
          let is : word_of evidence ≡ a.1 = member_single (word_of evidence) a.1 (subst (λ (z : List (List ℕ)). Contains z a.1) e m) in
          judge_stays evidence (subst IsApart (sym is) a.4);
      no_gen = λ size g.
          elim (member_cases (codes "gen") (g.word ∷ []) a.1 (subst (λ (z : List (List ℕ)). Contains z a.1) g.whole m)) [
            | inl is ↦ gen_stays (subst IsApart (sym is) a.4)
            | inr rest ↦ digits_stay g.word g.tells.digits (subst IsApart (sym (member_single g.word a.1 rest)) a.4)
          ];
    }

-- ---- over the words as they are passed

pub none_apart : (words : List (String Global)) → All (λ s. IsApart (string_bytes s) → ⊥) words → Any IsApart (map string_bytes words) → ⊥
none_apart words h a = (subst (λ (w : List ℕ). IsApart w → ⊥) a.3 (All-map (λ w. IsApart w → ⊥) string_bytes words h a.0 a.1 a.2)) a.4

pub one_apart : (words : List (String Global)) (s : String Global) → Contains words s → IsApart (string_bytes s) → Any IsApart (map string_bytes words)
one_apart words s m a =
    let n : Contains (map string_bytes words) (string_bytes s) = member_map string_bytes words s m in
    (n.0, string_bytes s, n.1, n.2, a)

-- ---- sizes

second : (a b : List ℕ) → codes "gen" ∷ a ∷ [] ≡ codes "gen" ∷ b ∷ [] → a ≡ b
second a b e = ap (λ (xs : List (List ℕ)). get_or xs 1 []) e

-- words name one number of queens
pub one_size : (words : List (List ℕ)) (m n : ℕ) → IsGen words m → IsGen words n → m ≡ n
one_size words m n g h = sym g.tells.number ∙ ap digits_number (second g.word h.word (sym g.whole ∙ h.whole)) ∙ h.tells.number

-- a list of one word is none of two
lengths : (a b c : List ℕ) → a ∷ [] ≡ b ∷ c ∷ [] → ⊥
lengths a b c e = cc

-- and no two commands
pub run_no_gen : (words : List (List ℕ)) (n : ℕ) → IsRun words → IsGen words n → ⊥
run_no_gen words n r g = lengths (codes "run") (codes "gen") g.word (sym r ∙ g.whole)

pub judge_no_gen : (words : List (List ℕ)) (evidence : Evidence) (n : ℕ) → IsJudge words evidence → IsGen words n → ⊥
judge_no_gen words evidence n j g = lengths (word_of evidence) (codes "gen") g.word (sym j ∙ g.whole)

only : (a b : List ℕ) → a ∷ [] ≡ b ∷ [] → a ≡ b
only a b e = ap (λ (xs : List (List ℕ)). get_or xs 0 []) e

differs : (a b : List ℕ) → bytes_eq a b ≡ false → a ≡ b → ⊥
differs a b f e = let t : bytes_eq a b ≡ true = (bytes_eq-Decides a b).1 e in cc

run_is_no_judge : (evidence : Evidence) → codes "run" ≡ word_of evidence → ⊥
run_is_no_judge Certificate e = differs (codes "run") (codes "check") refl e
run_is_no_judge Proof e = differs (codes "run") (codes "proof") refl e

pub run_no_judge : (words : List (List ℕ)) (evidence : Evidence) → IsRun words → IsJudge words evidence → ⊥
run_no_judge words evidence r j = run_is_no_judge evidence (only (codes "run") (word_of evidence) (sym r ∙ j))

same_word : (a b : Evidence) → word_of a ≡ word_of b → a ≡ b
same_word Certificate Certificate e = refl
same_word Certificate Proof e = absurd (differs (codes "check") (codes "proof") refl e)
same_word Proof Certificate e = absurd (differs (codes "proof") (codes "check") refl e)
same_word Proof Proof e = refl

-- words judge a text as one thing
pub one_evidence : (words : List (List ℕ)) (a b : Evidence) → IsJudge words a → IsJudge words b → a ≡ b
one_evidence words a b i j = same_word a b (only (word_of a) (word_of b) (sym i ∙ j))

-- a word alone that is no command's
pub other_alone : (word : List ℕ) → (word ≡ codes "run" → ⊥) → (word ≡ codes "check" → ⊥) → (word ≡ codes "proof" → ⊥) → IsNoCommand (word ∷ [])
other_alone word r c p = record {
  no_run = λ e. r (only word (codes "run") e);
  no_judge = no_judge;
  no_gen = λ n g. lengths word (codes "gen") g.word g.whole;
}
  where
    no_judge : (evidence : Evidence) → IsJudge (word ∷ []) evidence → ⊥
    no_judge Certificate e = c (only word (codes "check") e)
    no_judge Proof e = p (only word (codes "proof") e)

-- the words `gen` and another one
abbrev pub HasSize : List (List ℕ) → List ℕ → Type 0
HasSize words word = words ≡ codes "gen" ∷ word ∷ []

pub gen_by : (words : List (List ℕ)) (word : List ℕ) (n : ℕ) → HasSize words word → IsSize word n → IsGen words n
gen_by words word n e s = record { word = word; whole = e; tells = s }

pub no_gen_by : (words : List (List ℕ)) (word : List ℕ) → HasSize words word → ((n : ℕ) → IsSize word n → ⊥) → IsNoCommand words
no_gen_by words word e none = record {
  no_run = λ r. lengths (codes "run") (codes "gen") word (sym r ∙ e);
  no_judge = λ evidence j. lengths (word_of evidence) (codes "gen") word (sym j ∙ e);
  no_gen = λ n g. none n (subst (λ (w : List ℕ). IsSize w n) (second g.word word (sym g.whole ∙ e)) g.tells);
}

-- what holds where there is nothing
pub if_none : {X : Type 0} (P : Type 0) (o : Option X) → P → IfNone o P
if_none P None p = p
if_none P (Some x) p = tt
