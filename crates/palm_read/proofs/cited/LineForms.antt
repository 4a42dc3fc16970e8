-- The forms of a line: the reader reads just the tokens of one, so a line has at most one form.
use Rattle.std.proofs.Common.{◌≡◌, ℕ, ℤ, true, false, Option, Some, None, List, [], ◌∷◌, ◌++◌, codes, refl, sym, ap, ◌∙◌, subst, inl, inr}
use Rattle.std.specs.Str.{bytes_eq}
use Rattle.std.proofs.lemmas.Bool.{and_parts, and_right}
use Rattle.std.proofs.lemmas.Option.{same_Some, none-some}
use Rattle.palm_read.specs.declared.tokens.TokenKind.TheVariants.{Word, Digits, Sign}
use Rattle.palm_read.specs.Token.{Lexeme}
use Rattle.palm_read.specs.Domain.{domain_pieces, DomainForm}
use Rattle.palm_read.specs.Grammar.{shape_pieces, budget_pieces, pieces, IsProperShape, IsProper, IsForm}
use Rattle.palm_read.specs.Piece.{Piece, Keyword, Named, Mark, Integer, Numeral, word}
use Rattle.palm_read.specs.Form.{ShapeForm, Form, HeaderForm, DeclareForm, DeclareInForm, AddForm, RelaxForm, EnforceForm, RetractForm, DomainsForm, DomainOfForm, ListForm, LogForm, WhyForm, ConflictForm, MinimalConflictForm, MinimalForm, PauseForm, ResumeForm, StepForm, SolveDbtForm, SolveRepairForm, ProveForm, MinimizeForm, PreferForm, PreferNoneForm, PreferredForm, CertForm, CertConflictForm, GuideForm, GuideNoneForm, OrderForm, OrderNoneForm, DropGuideForm, DropOrderForm, QuitForm}
use Rattle.palm_read.specs.Reader.Lines.{header_at, declare_at, declare_in_at, add_at, named_at, numbered_at, pair_at, query_at, choice_at, drop_at, dbt_at, repair_at, solve_at, prove_at, minimize_at, prefer_at, bare_at, search_form_at, line_at, form_at}
use Rattle.palm_read.specs.Reader.Steps.{Reading, and_then, when, choose, is_empty, front_text, token_at, behind, keyword_at, is_name, name_at}
use Rattle.palm_read.proofs.cited.Front.{Starts, digits_first, minus_first, and_then_some, when_some, choose_some, guard_some, same_text, name_is, behind-cons, name_at-cons, integer_at-starts}
use Rattle.palm_read.proofs.cited.Begins.{Begins, over, begins_over, begins_then, begins_split, begins_from_spells, spells_from_begins, by_keyword, by_mark, by_numeral, by_name, by_integer, keyword_first, mark_first, numeral_first, name_first, integer_first}
use Rattle.palm_read.proofs.ShapeForms.{domain_takes, domain_again, shape_takes, shape_again}

-- the tokens begin with the pieces of the form, which is a proper one, and go on with the rest
abbrev Taken : List Lexeme → Form × List Lexeme → Type 0
Taken tokens x = Begins tokens (pieces x.0) x.1 × IsProper x.0

moved : (tokens : List Lexeme) (made x : Form × List Lexeme) → ◌≡◌ {A = Reading Form} (Some made) (Some x) → Taken tokens made → Taken tokens x
moved tokens made x e t = subst (Taken tokens) (same_Some made x e) t

nothing : {tokens : List Lexeme} {x : Form × List Lexeme} → ◌≡◌ {A = Reading Form} None (Some x) → Taken tokens x
nothing {x = x} e = absurd (none-some x e)

-- ---- a form is read only where its pieces stand

header_takes : (tokens back : List Lexeme) (x : Form × List Lexeme) → keyword_at (codes "palm") tokens ≡ Some back → header_at back ≡ Some x → Taken tokens x
unfolding header_at
header_takes tokens back x k e =
    let two = and_then_some e in
    moved tokens (HeaderForm, two.0) x two.2 (by_keyword k (by_numeral two.1 over), tt)

declare_takes : (tokens back : List Lexeme) (x : Form × List Lexeme) → keyword_at (codes "var") tokens ≡ Some back → declare_at back ≡ Some x → Taken tokens x
unfolding declare_at declare_in_at
declare_takes tokens back x k e =
    let name = and_then_some e in
    let domain = and_then_some name.2 in
    let taken = domain_takes name.0.1 domain.0 domain.1 in
    elim (when_some domain.2) [
      | inl w ↦
          let inner = and_then_some w.2 in
          moved tokens (DeclareInForm name.0.0 domain.0.0 inner.0.0, inner.0.1) x inner.2
          (by_keyword k (by_name name.1 (begins_then taken (by_keyword w.1 (domain_takes w.0 inner.0 inner.1)))), tt)
      | inr w ↦ moved tokens (DeclareForm name.0.0 domain.0.0, domain.0.1) x w.1 (by_keyword k (by_name name.1 taken), tt)
    ]

add_takes : (tokens back : List Lexeme) (x : Form × List Lexeme) → keyword_at (codes "add") tokens ≡ Some back → add_at back ≡ Some x → Taken tokens x
unfolding add_at
add_takes tokens back x k e =
    let name = and_then_some e in
    let colon = and_then_some name.2 in
    let shape = and_then_some colon.2 in
    let taken = shape_takes colon.0 shape.0 shape.1 in
    moved tokens (AddForm name.0.0 shape.0.0, shape.0.1) x shape.2 (by_keyword k (by_name name.1 (by_mark colon.1 taken.0)), taken.1)

-- a form with a name alone, with a number alone, with both
named_takes : (text : List ℕ) (form : List ℕ → Form) → ((name : List ℕ) → pieces (form name) ≡ Keyword text ∷ Named name ∷ []) → ((name : List ℕ) → IsProper (form name)) → (tokens back : List Lexeme) (x : Form × List Lexeme) → keyword_at text tokens ≡ Some back → named_at form back ≡ Some x → Taken tokens x
unfolding named_at
named_takes text form spelled proper tokens back x k e =
    let name = and_then_some e in
    let begins = subst (λ ps. Begins tokens ps name.0.1) (sym (spelled name.0.0)) (by_keyword k (by_name name.1 over)) in
    moved tokens (form name.0.0, name.0.1) x name.2 (begins, proper name.0.0)

numbered_takes : (first : List Piece) (form : ℤ → Form) → ((number : ℤ) → pieces (form number) ≡ first ++ Integer number ∷ []) → ((number : ℤ) → IsProper (form number)) → (tokens back : List Lexeme) (x : Form × List Lexeme) → Begins tokens first back → numbered_at form back ≡ Some x → Taken tokens x
unfolding numbered_at
numbered_takes first form spelled proper tokens back x b e =
    let number = and_then_some e in
    let begins = subst (λ ps. Begins tokens ps number.0.1) (sym (spelled number.0.0)) (begins_then b (by_integer number.1 over)) in
    moved tokens (form number.0.0, number.0.1) x number.2 (begins, proper number.0.0)

pair_takes : (text : List ℕ) (form : List ℕ → ℤ → Form) → ((name : List ℕ) (value : ℤ) → pieces (form name value) ≡ Keyword text ∷ Named name ∷ Integer value ∷ []) → ((name : List ℕ) (value : ℤ) → IsProper (form name value)) → (tokens back : List Lexeme) (x : Form × List Lexeme) → keyword_at text tokens ≡ Some back → pair_at form back ≡ Some x → Taken tokens x
unfolding pair_at
pair_takes text form spelled proper tokens back x k e =
    let name = and_then_some e in
    let value = and_then_some name.2 in
    let begins = subst (λ ps. Begins tokens ps value.0.1) (sym (spelled name.0.0 value.0.0)) (by_keyword k (by_name name.1 (by_integer value.1 over))) in
    moved tokens (form name.0.0 value.0.0, value.0.1) x value.2 (begins, proper name.0.0 value.0.0)

-- a name that is the word `conflict`
pub conflict_word : (tokens : List Lexeme) (x : List ℕ × List Lexeme) → name_at tokens ≡ Some x → x.0 ≡ codes "conflict" → keyword_at (codes "conflict") tokens ≡ Some x.1
conflict_word tokens x e same =
    let is = (name_is tokens x e).0 in
    ap (keyword_at (codes "conflict")) (is ∙ ap (λ w. word w ∷ x.1) same) ∙ behind-cons Word (codes "conflict") x.1

query_takes : (text : List ℕ) (conflict : Form) (form : List ℕ → ℤ → Form) → (pieces conflict ≡ Keyword text ∷ Keyword (codes "conflict") ∷ []) → IsProper conflict → ((name : List ℕ) (value : ℤ) → pieces (form name value) ≡ Keyword text ∷ Named name ∷ Integer value ∷ []) → ((name : List ℕ) (value : ℤ) → IsProper (form name value)) → (tokens back : List Lexeme) (x : Form × List Lexeme) → keyword_at text tokens ≡ Some back → query_at conflict form back ≡ Some x → Taken tokens x
unfolding query_at
query_takes text conflict form alone fine spelled proper tokens back x k e =
    let name = and_then_some e in
    elim (choose_some name.2) [
      | inl w ↦
          let same = same_text name.0.0 (codes "conflict") (and_parts (bytes_eq name.0.0 (codes "conflict")) (is_empty name.0.1) w.0).0 in
          let begins = subst (λ ps. Begins tokens ps name.0.1) (sym alone) (by_keyword k (by_keyword (conflict_word back name.0 name.1 same) over)) in
          moved tokens (conflict, name.0.1) x w.1 (begins, fine)
      | inr w ↦
          let value = and_then_some w.1 in
          let begins = subst (λ ps. Begins tokens ps value.0.1) (sym (spelled name.0.0 value.0.0)) (by_keyword k (by_name name.1 (by_integer value.1 over))) in
          moved tokens (form name.0.0 value.0.0, value.0.1) x value.2 (begins, proper name.0.0 value.0.0)
    ]

choice_takes : (first : List Piece) (alone : Form) (form : ℤ → Form) → (pieces alone ≡ first ++ Keyword (codes "none") ∷ []) → IsProper alone → ((number : ℤ) → pieces (form number) ≡ first ++ Integer number ∷ []) → ((number : ℤ) → IsProper (form number)) → (tokens back : List Lexeme) (x : Form × List Lexeme) → Begins tokens first back → choice_at alone form back ≡ Some x → Taken tokens x
unfolding choice_at
choice_takes first alone form none fine spelled proper tokens back x b e =
    elim (when_some e) [
      | inl w ↦
          let begins = subst (λ ps. Begins tokens ps w.0) (sym none) (begins_then b (by_keyword w.1 over)) in
          moved tokens (alone, w.0) x w.2 (begins, fine)
      | inr w ↦ numbered_takes first form spelled proper tokens back x b w.1
    ]

drop_takes : (tokens back : List Lexeme) (x : Form × List Lexeme) → keyword_at (codes "drop") tokens ≡ Some back → drop_at back ≡ Some x → Taken tokens x
unfolding drop_at
drop_takes tokens back x k e =
    elim (when_some e) [
      | inl w ↦ numbered_takes (Keyword (codes "drop") ∷ Keyword (codes "guide") ∷ []) DropGuideForm (λ n. refl) (λ n. tt) tokens w.0 x (by_keyword k (by_keyword w.1 over)) w.2
      | inr v ↦ elim (when_some v.1) [
        | inl w ↦ numbered_takes (Keyword (codes "drop") ∷ Keyword (codes "order") ∷ []) DropOrderForm (λ n. refl) (λ n. tt) tokens w.0 x (by_keyword k (by_keyword w.1 over)) w.2
        | inr w ↦ nothing w.1
      ]
    ]

dbt_takes : (tokens back : List Lexeme) (x : Form × List Lexeme) → Begins tokens (Keyword (codes "solve") ∷ Keyword (codes "dbt") ∷ []) back → dbt_at back ≡ Some x → Taken tokens x
unfolding dbt_at
dbt_takes tokens back x b e =
    elim (when_some e) [
      | inl w ↦
          let budget = and_then_some w.2 in
          moved tokens (SolveDbtForm (Some budget.0.0), budget.0.1) x budget.2 (begins_then b (by_keyword w.1 (by_integer budget.1 over)), tt)
      | inr w ↦ moved tokens (SolveDbtForm None, back) x w.1 (b, tt)
    ]

repair_takes : (tokens back : List Lexeme) (x : Form × List Lexeme) → Begins tokens (Keyword (codes "solve") ∷ Keyword (codes "repair") ∷ []) back → repair_at back ≡ Some x → Taken tokens x
unfolding repair_at
repair_takes tokens back x b e =
    let first = and_then_some e in
    let tabu = and_then_some first.2 in
    let second = and_then_some tabu.2 in
    let budget = and_then_some second.2 in
    moved tokens (SolveRepairForm tabu.0.0 budget.0.0, budget.0.1) x budget.2 (begins_then b (by_keyword first.1 (by_integer tabu.1 (by_keyword second.1 (by_integer budget.1 over)))), tt)

solve_takes : (tokens back : List Lexeme) (x : Form × List Lexeme) → keyword_at (codes "solve") tokens ≡ Some back → solve_at back ≡ Some x → Taken tokens x
unfolding solve_at
solve_takes tokens back x k e =
    elim (when_some e) [
      | inl w ↦ dbt_takes tokens w.0 x (by_keyword k (by_keyword w.1 over)) w.2
      | inr v ↦ elim (when_some v.1) [
        | inl w ↦ repair_takes tokens w.0 x (by_keyword k (by_keyword w.1 over)) w.2
        | inr w ↦ nothing w.1
      ]
    ]

prove_takes : (tokens back : List Lexeme) (x : Form × List Lexeme) → keyword_at (codes "prove") tokens ≡ Some back → prove_at back ≡ Some x → Taken tokens x
unfolding prove_at
prove_takes tokens back x k e =
    let word = and_then_some e in
    let budget = and_then_some word.2 in
    moved tokens (ProveForm budget.0.0, budget.0.1) x budget.2 (by_keyword k (by_keyword word.1 (by_integer budget.1 over)), tt)

minimize_takes : (tokens back : List Lexeme) (x : Form × List Lexeme) → keyword_at (codes "minimize") tokens ≡ Some back → minimize_at back ≡ Some x → Taken tokens x
unfolding minimize_at
minimize_takes tokens back x k e =
    let name = and_then_some e in
    let word = and_then_some name.2 in
    let budget = and_then_some word.2 in
    moved tokens (MinimizeForm name.0.0 budget.0.0, budget.0.1) x budget.2 (by_keyword k (by_name name.1 (by_keyword word.1 (by_integer budget.1 over))), tt)

-- the constraint's name stands before the choice
prefer_takes : (tokens back : List Lexeme) (x : Form × List Lexeme) → keyword_at (codes "prefer") tokens ≡ Some back → prefer_at back ≡ Some x → Taken tokens x
unfolding prefer_at
prefer_takes tokens back x k e =
    let name = and_then_some e in
    choice_takes (Keyword (codes "prefer") ∷ Named name.0.0 ∷ []) (PreferNoneForm name.0.0) (PreferForm name.0.0) refl tt (λ n. refl) (λ n. tt) tokens name.0.1 x (by_keyword k (by_name name.1 over)) name.2

bare_takes : (tokens : List Lexeme) (x : Form × List Lexeme) → bare_at tokens ≡ Some x → Taken tokens x
unfolding bare_at
bare_takes tokens x e =
    elim (when_some e) [
      | inl w ↦ moved tokens (DomainsForm, w.0) x w.2 (by_keyword w.1 over, tt)
      | inr w1 ↦ elim (when_some w1.1) [
        | inl w ↦ moved tokens (ListForm, w.0) x w.2 (by_keyword w.1 over, tt)
        | inr w2 ↦ elim (when_some w2.1) [
          | inl w ↦ moved tokens (LogForm, w.0) x w.2 (by_keyword w.1 over, tt)
          | inr w3 ↦ elim (when_some w3.1) [
            | inl w ↦ moved tokens (ConflictForm, w.0) x w.2 (by_keyword w.1 over, tt)
            | inr w4 ↦ elim (when_some w4.1) [
              | inl w ↦ moved tokens (PauseForm, w.0) x w.2 (by_keyword w.1 over, tt)
              | inr w5 ↦ elim (when_some w5.1) [
                | inl w ↦ moved tokens (ResumeForm, w.0) x w.2 (by_keyword w.1 over, tt)
                | inr w6 ↦ elim (when_some w6.1) [
                  | inl w ↦ moved tokens (PreferredForm, w.0) x w.2 (by_keyword w.1 over, tt)
                  | inr w7 ↦ elim (when_some w7.1) [
                    | inl w ↦ moved tokens (QuitForm, w.0) x w.2 (by_keyword w.1 over, tt)
                    | inr w ↦ nothing w.1
                  ]
                ]
              ]
            ]
          ]
        ]
      ]
    ]

search_form_takes : (tokens : List Lexeme) (x : Form × List Lexeme) → search_form_at tokens ≡ Some x → Taken tokens x
unfolding search_form_at
search_form_takes tokens x e =
    elim (when_some e) [
      | inl w ↦ solve_takes tokens w.0 x w.1 w.2
      | inr w1 ↦ elim (when_some w1.1) [
        | inl w ↦ prove_takes tokens w.0 x w.1 w.2
        | inr w2 ↦ elim (when_some w2.1) [
          | inl w ↦ minimize_takes tokens w.0 x w.1 w.2
          | inr w3 ↦ elim (when_some w3.1) [
            | inl w ↦ choice_takes (Keyword (codes "guide") ∷ []) GuideNoneForm GuideForm refl tt (λ n. refl) (λ n. tt) tokens w.0 x (by_keyword w.1 over) w.2
            | inr w4 ↦ elim (when_some w4.1) [
              | inl w ↦ choice_takes (Keyword (codes "order") ∷ []) OrderNoneForm OrderForm refl tt (λ n. refl) (λ n. tt) tokens w.0 x (by_keyword w.1 over) w.2
              | inr w5 ↦ elim (when_some w5.1) [
                | inl w ↦ drop_takes tokens w.0 x w.1 w.2
                | inr w ↦ bare_takes tokens x w.1
              ]
            ]
          ]
        ]
      ]
    ]

line_takes : (tokens : List Lexeme) (x : Form × List Lexeme) → line_at tokens ≡ Some x → Taken tokens x
unfolding line_at
line_takes tokens x e =
    elim (when_some e) [
      | inl w ↦ declare_takes tokens w.0 x w.1 w.2
      | inr w1 ↦ elim (when_some w1.1) [
        | inl w ↦ add_takes tokens w.0 x w.1 w.2
        | inr w2 ↦ elim (when_some w2.1) [
          | inl w ↦ named_takes (codes "relax") RelaxForm (λ n. refl) (λ n. tt) tokens w.0 x w.1 w.2
          | inr w3 ↦ elim (when_some w3.1) [
            | inl w ↦ named_takes (codes "enforce") EnforceForm (λ n. refl) (λ n. tt) tokens w.0 x w.1 w.2
            | inr w4 ↦ elim (when_some w4.1) [
              | inl w ↦ named_takes (codes "retract") RetractForm (λ n. refl) (λ n. tt) tokens w.0 x w.1 w.2
              | inr w5 ↦ elim (when_some w5.1) [
                | inl w ↦ prefer_takes tokens w.0 x w.1 w.2
                | inr w6 ↦ elim (when_some w6.1) [
                  | inl w ↦ named_takes (codes "domain") DomainOfForm (λ n. refl) (λ n. tt) tokens w.0 x w.1 w.2
                  | inr w7 ↦ elim (when_some w7.1) [
                    | inl w ↦ pair_takes (codes "why") WhyForm (λ n v. refl) (λ n v. tt) tokens w.0 x w.1 w.2
                    | inr w8 ↦ elim (when_some w8.1) [
                      | inl w ↦ query_takes (codes "minimal") MinimalConflictForm MinimalForm refl tt (λ n v. refl) (λ n v. tt) tokens w.0 x w.1 w.2
                      | inr w9 ↦ elim (when_some w9.1) [
                        | inl w ↦ query_takes (codes "cert") CertConflictForm CertForm refl tt (λ n v. refl) (λ n v. tt) tokens w.0 x w.1 w.2
                        | inr w10 ↦ elim (when_some w10.1) [
                          | inl w ↦ numbered_takes (Keyword (codes "step") ∷ []) StepForm (λ n. refl) (λ n. tt) tokens w.0 x (by_keyword w.1 over) w.2
                          | inr w11 ↦ elim (when_some w11.1) [
                            | inl w ↦ header_takes tokens w.0 x w.1 w.2
                            | inr w ↦ search_form_takes tokens x w.1
                          ]
                        ]
                      ]
                    ]
                  ]
                ]
              ]
            ]
          ]
        ]
      ]
    ]

pub empty_is : (tokens : List Lexeme) → is_empty tokens ≡ true → tokens ≡ []
empty_is [] e = refl
empty_is (t ∷ ts) e = absurd cc

-- what is read is a form
pub form_takes : (tokens : List Lexeme) (form : Form) → form_at tokens ≡ Some form → IsForm tokens form
unfolding form_at
form_takes tokens form e =
    let line = and_then_some e in
    let last = guard_some line.2 in
    let taken = line_takes tokens line.0 line.1 in
    let same : line.0.0 ≡ form = same_Some _ _ last.1 in
    let ended = empty_is line.0.1 last.0 in
    record {
      proper = subst IsProper same taken.1;
      spells = spells_from_begins (subst (λ rest. Begins tokens (pieces form) rest) ended (subst (λ f. Begins tokens (pieces f) line.0.1) same taken.0));
    }

-- ---- and where its pieces stand it is read

-- the line's reading, where nothing is left
ended : (tokens : List Lexeme) (form : Form) → line_at tokens ≡ Some (form, []) → form_at tokens ≡ Some form
unfolding form_at and_then choose
ended tokens form e = rw e refl

header_again : (back : List Lexeme) → Begins back (Numeral (codes "2") ∷ []) [] → header_at back ≡ Some (HeaderForm, [])
unfolding header_at and_then
header_again back b =
    let n = numeral_first b in
    rw (n.1, behind-cons Digits (codes "2") n.0, begins_over n.2) refl

no_word : (text : List ℕ) → keyword_at text [] ≡ None
unfolding behind token_at front_text and_then
no_word text = refl

declare_again : (name : List ℕ) (domain : DomainForm) (back : List Lexeme) → Begins back (Named name ∷ domain_pieces domain) [] → declare_at back ≡ Some (DeclareForm name domain, [])
unfolding declare_at and_then when
declare_again name domain back b =
    let n = name_first b in
    rw (n.1, name_at-cons name n.0 n.2, domain_again domain n.0 [] n.3, no_word (codes "in")) refl

declare_in_again : (name : List ℕ) (universe domain : DomainForm) (back : List Lexeme) → Begins back (Named name ∷ (domain_pieces universe ++ Keyword (codes "in") ∷ domain_pieces domain)) [] → declare_at back ≡ Some (DeclareInForm name universe domain, [])
unfolding declare_at declare_in_at and_then when
declare_in_again name universe domain back b =
    let n = name_first b in
    let s = begins_split (domain_pieces universe) (Keyword (codes "in") ∷ domain_pieces domain) n.3 in
    let k = keyword_first s.2 in
    rw (n.1, name_at-cons name n.0 n.2, domain_again universe n.0 s.0 s.1, k.1, behind-cons Word (codes "in") k.0, domain_again domain k.0 [] k.2) refl

add_again : (name : List ℕ) (shape : ShapeForm) (back : List Lexeme) → IsProperShape shape → Begins back (Named name ∷ Mark (codes ":") ∷ shape_pieces shape) [] → add_at back ≡ Some (AddForm name shape, [])
unfolding add_at and_then
add_again name shape back proper b =
    let n = name_first b in
    let m = mark_first n.3 in
    rw (n.1, name_at-cons name n.0 n.2, m.1, behind-cons Sign (codes ":") m.0, shape_again shape m.0 proper m.2) refl

named_again : (form : List ℕ → Form) (name : List ℕ) (back : List Lexeme) → Begins back (Named name ∷ []) [] → named_at form back ≡ Some (form name, [])
unfolding named_at and_then
named_again form name back b =
    let n = name_first b in
    rw (n.1, name_at-cons name n.0 n.2, begins_over n.3) refl

numbered_again : (form : ℤ → Form) (number : ℤ) (back : List Lexeme) → Begins back (Integer number ∷ []) [] → numbered_at form back ≡ Some (form number, [])
unfolding numbered_at and_then
numbered_again form number back b =
    let i = integer_first b in
    rw (integer_at-starts i.1, begins_over i.2) refl

pair_again : (form : List ℕ → ℤ → Form) (name : List ℕ) (value : ℤ) (back : List Lexeme) → Begins back (Named name ∷ Integer value ∷ []) [] → pair_at form back ≡ Some (form name value, [])
unfolding pair_at and_then
pair_again form name value back b =
    let n = name_first b in
    let i = integer_first n.3 in
    rw (n.1, name_at-cons name n.0 n.2, integer_at-starts i.1, begins_over i.2) refl

starts_some : {tokens rest : List Lexeme} {z : ℤ} → Starts tokens z rest → is_empty tokens ≡ false
starts_some digits_first = refl
starts_some minus_first = refl

query_again : (conflict : Form) (form : List ℕ → ℤ → Form) (name : List ℕ) (value : ℤ) (back : List Lexeme) → Begins back (Named name ∷ Integer value ∷ []) [] → query_at conflict form back ≡ Some (form name value, [])
unfolding query_at and_then choose
query_again conflict form name value back b =
    let n = name_first b in
    let i = integer_first n.3 in
    rw (n.1, name_at-cons name n.0 n.2, and_right (bytes_eq name (codes "conflict")) (is_empty n.0) (starts_some i.1), integer_at-starts i.1, begins_over i.2) refl

query_alone : (conflict : Form) (form : List ℕ → ℤ → Form) (back : List Lexeme) → Begins back (Keyword (codes "conflict") ∷ []) [] → query_at conflict form back ≡ Some (conflict, [])
unfolding query_at name_at is_name token_at front_text and_then choose
query_alone conflict form back b =
    let k = keyword_first b in
    rw (k.1, begins_over k.2) refl

starts_no_word : {tokens rest : List Lexeme} {z : ℤ} (text : List ℕ) → Starts tokens z rest → keyword_at text tokens ≡ None
unfolding behind token_at front_text and_then choose
starts_no_word text digits_first = refl
starts_no_word text minus_first = refl

choice_again : (alone : Form) (form : ℤ → Form) (number : ℤ) (back : List Lexeme) → Begins back (Integer number ∷ []) [] → choice_at alone form back ≡ Some (form number, [])
unfolding choice_at when
choice_again alone form number back b =
    let i = integer_first b in
    rw (starts_no_word (codes "none") i.1) (numbered_again form number back b)

choice_alone : (alone : Form) (form : ℤ → Form) (back : List Lexeme) → Begins back (Keyword (codes "none") ∷ []) [] → choice_at alone form back ≡ Some (alone, [])
unfolding choice_at when
choice_alone alone form back b =
    let k = keyword_first b in
    rw (k.1, behind-cons Word (codes "none") k.0, begins_over k.2) refl

dbt_again : (budget : Option ℤ) (back : List Lexeme) → Begins back (budget_pieces budget) [] → dbt_at back ≡ Some (SolveDbtForm budget, [])
unfolding dbt_at when and_then
dbt_again None back b = rw (begins_over b, no_word (codes "budget")) refl
dbt_again (Some n) back b =
    let k = keyword_first b in
    let i = integer_first k.2 in
    rw (k.1, behind-cons Word (codes "budget") k.0, integer_at-starts i.1, begins_over i.2) refl

repair_again : (tabu budget : ℤ) (back : List Lexeme) → Begins back (Keyword (codes "tabu") ∷ Integer tabu ∷ Keyword (codes "budget") ∷ Integer budget ∷ []) [] → repair_at back ≡ Some (SolveRepairForm tabu budget, [])
unfolding repair_at and_then
repair_again tabu budget back b =
    let k = keyword_first b in
    let i = integer_first k.2 in
    let l = keyword_first i.2 in
    let j = integer_first l.2 in
    rw (k.1, behind-cons Word (codes "tabu") k.0, integer_at-starts i.1, l.1, behind-cons Word (codes "budget") l.0, integer_at-starts j.1, begins_over j.2) refl

prove_again : (budget : ℤ) (back : List Lexeme) → Begins back (Keyword (codes "budget") ∷ Integer budget ∷ []) [] → prove_at back ≡ Some (ProveForm budget, [])
unfolding prove_at and_then
prove_again budget back b =
    let k = keyword_first b in
    let i = integer_first k.2 in
    rw (k.1, behind-cons Word (codes "budget") k.0, integer_at-starts i.1, begins_over i.2) refl

minimize_again : (target : List ℕ) (budget : ℤ) (back : List Lexeme) → Begins back (Named target ∷ Keyword (codes "budget") ∷ Integer budget ∷ []) [] → minimize_at back ≡ Some (MinimizeForm target budget, [])
unfolding minimize_at and_then
minimize_again target budget back b =
    let n = name_first b in
    let k = keyword_first n.3 in
    let i = integer_first k.2 in
    rw (n.1, name_at-cons target n.0 n.2, k.1, behind-cons Word (codes "budget") k.0, integer_at-starts i.1, begins_over i.2) refl

prefer_again : (name : List ℕ) (weight : ℤ) (back : List Lexeme) → Begins back (Named name ∷ Integer weight ∷ []) [] → prefer_at back ≡ Some (PreferForm name weight, [])
unfolding prefer_at and_then
prefer_again name weight back b =
    let n = name_first b in
    rw (n.1, name_at-cons name n.0 n.2) (choice_again (PreferNoneForm name) (PreferForm name) weight n.0 n.3)

prefer_alone : (name : List ℕ) (back : List Lexeme) → Begins back (Named name ∷ Keyword (codes "none") ∷ []) [] → prefer_at back ≡ Some (PreferNoneForm name, [])
unfolding prefer_at and_then
prefer_alone name back b =
    let n = name_first b in
    rw (n.1, name_at-cons name n.0 n.2) (choice_alone (PreferNoneForm name) (PreferForm name) n.0 n.3)

-- the reader finds its way by the first words
module _ (tokens : List Lexeme) where
  line_again : (form : Form) → IsProper form → Begins tokens (pieces form) [] → line_at tokens ≡ Some (form, [])
  unfolding line_at search_form_at bare_at solve_at drop_at behind token_at front_text and_then when choose
  line_again HeaderForm proper b = let k = keyword_first b in rw k.1 (header_again k.0 k.2)
  line_again (DeclareForm name domain) proper b = let k = keyword_first b in rw k.1 (declare_again name domain k.0 k.2)
  line_again (DeclareInForm name universe domain) proper b = let k = keyword_first b in rw k.1 (declare_in_again name universe domain k.0 k.2)
  line_again (AddForm name shape) proper b = let k = keyword_first b in rw k.1 (add_again name shape k.0 proper k.2)
  line_again (RelaxForm name) proper b = let k = keyword_first b in rw k.1 (named_again RelaxForm name k.0 k.2)
  line_again (EnforceForm name) proper b = let k = keyword_first b in rw k.1 (named_again EnforceForm name k.0 k.2)
  line_again (RetractForm name) proper b = let k = keyword_first b in rw k.1 (named_again RetractForm name k.0 k.2)
  line_again DomainsForm proper b = let k = keyword_first b in rw (k.1, begins_over k.2) refl
  line_again (DomainOfForm name) proper b = let k = keyword_first b in rw k.1 (named_again DomainOfForm name k.0 k.2)
  line_again ListForm proper b = let k = keyword_first b in rw (k.1, begins_over k.2) refl
  line_again LogForm proper b = let k = keyword_first b in rw (k.1, begins_over k.2) refl
  line_again (WhyForm name value) proper b = let k = keyword_first b in rw k.1 (pair_again WhyForm name value k.0 k.2)
  line_again ConflictForm proper b = let k = keyword_first b in rw (k.1, begins_over k.2) refl
  line_again MinimalConflictForm proper b = let k = keyword_first b in rw k.1 (query_alone MinimalConflictForm MinimalForm k.0 k.2)
  line_again (MinimalForm name value) proper b = let k = keyword_first b in rw k.1 (query_again MinimalConflictForm MinimalForm name value k.0 k.2)
  line_again PauseForm proper b = let k = keyword_first b in rw (k.1, begins_over k.2) refl
  line_again ResumeForm proper b = let k = keyword_first b in rw (k.1, begins_over k.2) refl
  line_again (StepForm number) proper b = let k = keyword_first b in rw k.1 (numbered_again StepForm number k.0 k.2)
  line_again (SolveDbtForm budget) proper b =
      let k = keyword_first b in
      let l = keyword_first k.2 in
      rw (k.1, l.1) (dbt_again budget l.0 l.2)
  line_again (SolveRepairForm tabu budget) proper b =
      let k = keyword_first b in
      let l = keyword_first k.2 in
      rw (k.1, l.1) (repair_again tabu budget l.0 l.2)
  line_again (ProveForm budget) proper b = let k = keyword_first b in rw k.1 (prove_again budget k.0 k.2)
  line_again (MinimizeForm target budget) proper b = let k = keyword_first b in rw k.1 (minimize_again target budget k.0 k.2)
  line_again (PreferForm name weight) proper b = let k = keyword_first b in rw k.1 (prefer_again name weight k.0 k.2)
  line_again (PreferNoneForm name) proper b = let k = keyword_first b in rw k.1 (prefer_alone name k.0 k.2)
  line_again PreferredForm proper b = let k = keyword_first b in rw (k.1, begins_over k.2) refl
  line_again (CertForm name value) proper b = let k = keyword_first b in rw k.1 (query_again CertConflictForm CertForm name value k.0 k.2)
  line_again CertConflictForm proper b = let k = keyword_first b in rw k.1 (query_alone CertConflictForm CertForm k.0 k.2)
  line_again (GuideForm number) proper b = let k = keyword_first b in rw k.1 (choice_again GuideNoneForm GuideForm number k.0 k.2)
  line_again GuideNoneForm proper b = let k = keyword_first b in rw k.1 (choice_alone GuideNoneForm GuideForm k.0 k.2)
  line_again (OrderForm number) proper b = let k = keyword_first b in rw k.1 (choice_again OrderNoneForm OrderForm number k.0 k.2)
  line_again OrderNoneForm proper b = let k = keyword_first b in rw k.1 (choice_alone OrderNoneForm OrderForm k.0 k.2)
  line_again (DropGuideForm number) proper b =
      let k = keyword_first b in
      let l = keyword_first k.2 in
      rw (k.1, l.1) (numbered_again DropGuideForm number l.0 l.2)
  line_again (DropOrderForm number) proper b =
      let k = keyword_first b in
      let l = keyword_first k.2 in
      rw (k.1, l.1) (numbered_again DropOrderForm number l.0 l.2)
  line_again QuitForm proper b = let k = keyword_first b in rw (k.1, begins_over k.2) refl

-- what is a form is read
pub form_again : (tokens : List Lexeme) (form : Form) → IsForm tokens form → form_at tokens ≡ Some form
form_again tokens form is = ended tokens form (line_again tokens form is.proper (begins_from_spells (pieces form) tokens is.spells))

-- no two forms have the same tokens
pub one_form : (tokens : List Lexeme) (f g : Form) → IsForm tokens f → IsForm tokens g → f ≡ g
one_form tokens f g h k = same_Some f g (sym (form_again tokens f h) ∙ form_again tokens g k)
