-- Domains and constraints: their readers read just the pieces of one.
use Rattle.std.proofs.Common.{◌≡◌, ℕ, ℤ, ◌<◌, ◌≤◌, Bool, true, false, Option, Some, None, List, [], ◌∷◌, ◌++◌, length, map, codes, All, refl, sym, ap, ◌∙◌, subst, arith, inl, inr}
use Rattle.std.specs.Bool.{⊤}
use Rattle.std.specs.List.{flat_map}
use Rattle.std.specs.Str.{bytes_eq}
use Rattle.std.proofs.lemmas.Bool.{false_from_ne_true}
use Rattle.std.proofs.lemmas.List.Elements.{All-from_recursion, recursion_from_All}
use Rattle.std.proofs.lemmas.Option.{same_Some}
use Rattle.palm_model.specs.Linear.{IsLinearOp}
use Rattle.palm_model.specs.declared.constraint.Op.{Op}
use Rattle.palm_model.specs.declared.constraint.Op.TheVariants.{Eq, Ne, Lt, Le, Gt, Ge}
use Rattle.palm_read.specs.declared.tokens.TokenKind.TheVariants.{Word, Sign}
use Rattle.palm_read.specs.Token.{Lexeme}
use Rattle.palm_read.specs.Comparison.{offset_pieces, OffsetForm, NoOffset, Plus, Minus}
use Rattle.palm_read.specs.Count.{target_pieces, TargetForm, Number, Variable}
use Rattle.palm_read.specs.Domain.{domain_pieces, DomainForm, Interval, Members}
use Rattle.palm_read.specs.Grammar.{shape_pieces, IsProperShape}
use Rattle.palm_read.specs.Linear.{linear_unsigned_term, linear_first_term, linear_terms, TermForm}
use Rattle.palm_read.specs.Name.{IsName}
use Rattle.palm_read.specs.Piece.{Named, Mark, Integer, word, sign, op_text, in_parentheses}
use Rattle.palm_read.specs.Form.{ShapeForm, CompareVarForm, CompareConstForm, LinearForm, TableForm, ElementForm, CountForm, DifferForm, WithinForm}
use Rattle.palm_read.specs.Reader.Lists.{next_name, next_row}
use Rattle.palm_read.specs.Reader.Shapes.{linear_next_term, linear_first_term_at, linear_terms_at, interval_at, domain_at, offset_at, comparison_at, within_at, of_name_at, is_linear_op, linear_at, table_at, element_at, target_at, count_at, differ_at, shape_at}
use Rattle.palm_read.specs.Reader.Steps.{and_then, when, choose, front_text, token_at, behind, keyword_at, mark_at, name_at, op_of, op_at}
use Rattle.palm_read.proofs.cited.Front.{and_then_some, when_some, choose_some, guard_some, same_text, token_is, behind-cons, name_at-cons, natural_at-cons, integer_at-starts}
use Rattle.palm_read.proofs.cited.Begins.{Begins, over, begins_over, begins_then, begins_split, by_keyword, by_mark, by_name, by_natural, by_integer, keyword_first, mark_first, name_first, natural_first, integer_first}
use Rattle.palm_read.proofs.cited.Many.{many_at_takes, many_at_again}
use Rattle.palm_read.proofs.cited.Names.{all_fit, end_stops_names, names_again, names_takes, starts_no_name}
use Rattle.palm_read.proofs.Items.{values_takes, values_again, starts_no_mark, behind_other, HasWidth, row_item, term_takes, term_again, term_pieces, term_item}

-- ---- domains

interval_takes : (tokens : List Lexeme) (x : DomainForm × List Lexeme) → interval_at tokens ≡ Some x → Begins tokens (domain_pieces x.0) x.1
unfolding interval_at
interval_takes tokens x e =
    let Taken : DomainForm × List Lexeme → Type 0 = λ y. Begins tokens (domain_pieces y.0) y.1 in
    let low = and_then_some e in
    let dots = and_then_some low.2 in
    let high = and_then_some dots.2 in
    let made : DomainForm × List Lexeme = (Interval low.0.0 high.0.0, high.0.1) in
    let taken : Taken made = by_integer low.1 (by_mark dots.1 (by_integer high.1 over)) in
    subst Taken (same_Some made x high.2) taken

pub domain_takes : (tokens : List Lexeme) (x : DomainForm × List Lexeme) → domain_at tokens ≡ Some x → Begins tokens (domain_pieces x.0) x.1
unfolding domain_at
domain_takes tokens x e =
    let Taken : DomainForm × List Lexeme → Type 0 = λ y. Begins tokens (domain_pieces y.0) y.1 in
    elim (when_some e) [
      | inl w ↦
          let values = and_then_some w.2 in
          let made : DomainForm × List Lexeme = (Members values.0.0, values.0.1) in
          let taken : Taken made = by_mark w.1 (values_takes (codes "}") w.0 values.0 values.1) in
          subst Taken (same_Some made x values.2) taken
      | inr w ↦ interval_takes tokens x w.1
    ]

pub domain_again : (d : DomainForm) (tokens rest : List Lexeme) → Begins tokens (domain_pieces d) rest → domain_at tokens ≡ Some (d, rest)
unfolding domain_at interval_at when and_then
domain_again (Interval low high) tokens rest b =
    let l = integer_first b in
    let m = mark_first l.2 in
    let h = integer_first m.2 in
    rw (starts_no_mark (codes "{") refl l.1, integer_at-starts l.1, m.1, behind-cons Sign (codes "..") m.0, integer_at-starts h.1, begins_over h.2) refl
domain_again (Members values) tokens rest b =
    let m = mark_first b in
    rw (m.1, behind-cons Sign (codes "{") m.0, values_again (codes "}") refl refl values m.0 rest m.2) refl

-- ---- relations and offsets

op_of_is : (text : List ℕ) (op : Op) → op_of text ≡ Some op → text ≡ op_text op
unfolding op_of
op_of_is text op e =
    elim (choose_some e) [
      | inl w ↦ same_text text _ w.0 ∙ ap op_text (same_Some _ _ w.1)
      | inr w1 ↦ elim (choose_some w1.1) [
        | inl w ↦ same_text text _ w.0 ∙ ap op_text (same_Some _ _ w.1)
        | inr w2 ↦ elim (choose_some w2.1) [
          | inl w ↦ same_text text _ w.0 ∙ ap op_text (same_Some _ _ w.1)
          | inr w3 ↦ elim (choose_some w3.1) [
            | inl w ↦ same_text text _ w.0 ∙ ap op_text (same_Some _ _ w.1)
            | inr w4 ↦ elim (choose_some w4.1) [
              | inl w ↦ same_text text _ w.0 ∙ ap op_text (same_Some _ _ w.1)
              | inr w5 ↦
                  let w = guard_some w5.1 in
                  same_text text _ w.0 ∙ ap op_text (same_Some _ _ w.1)
            ]
          ]
        ]
      ]
    ]

op_takes : (tokens : List Lexeme) (x : Op × List Lexeme) → op_at tokens ≡ Some x → mark_at (op_text x.0) tokens ≡ Some x.1
unfolding op_at
op_takes tokens x e =
    let text = and_then_some e in
    let op = and_then_some text.2 in
    let made : Op × List Lexeme = (op.0, text.0.1) in
    let same : made ≡ x = same_Some made x op.2 in
    let is = token_is Sign tokens text.0 text.1 in
    let Taken : Op × List Lexeme → Type 0 = λ y. mark_at (op_text y.0) tokens ≡ Some y.1 in
    let spelled : tokens ≡ sign (op_text op.0) ∷ text.0.1 = is ∙ ap (λ w. sign w ∷ text.0.1) (op_of_is text.0.0 op.0 op.1) in
    let taken : Taken made = ap (mark_at (op_text op.0)) spelled ∙ behind-cons Sign (op_text op.0) text.0.1 in
    subst Taken same taken

op_again : (op : Op) (rest : List Lexeme) → op_at (sign (op_text op) ∷ rest) ≡ Some (op, rest)
unfolding op_at op_of token_at front_text choose and_then
op_again Eq rest = refl
op_again Ne rest = refl
op_again Lt rest = refl
op_again Le rest = refl
op_again Gt rest = refl
op_again Ge rest = refl

offset_takes : (tokens : List Lexeme) (x : OffsetForm × List Lexeme) → offset_at tokens ≡ Some x → Begins tokens (offset_pieces x.0) x.1
unfolding offset_at
offset_takes tokens x e =
    let Taken : OffsetForm × List Lexeme → Type 0 = λ y. Begins tokens (offset_pieces y.0) y.1 in
    elim (when_some e) [
      | inl w ↦
          let n = and_then_some w.2 in
          let made : OffsetForm × List Lexeme = (Plus n.0.0, n.0.1) in
          let taken : Taken made = by_mark w.1 (by_natural n.1 over) in
          subst Taken (same_Some made x n.2) taken
      | inr v ↦ elim (when_some v.1) [
        | inl w ↦
            let n = and_then_some w.2 in
            let made : OffsetForm × List Lexeme = (Minus n.0.0, n.0.1) in
            let taken : Taken made = by_mark w.1 (by_natural n.1 over) in
            subst Taken (same_Some made x n.2) taken
        | inr w ↦
            let made : OffsetForm × List Lexeme = (NoOffset, tokens) in
            let taken : Taken made = over in
            subst Taken (same_Some made x w.1) taken
      ]
    ]

no_mark : (text : List ℕ) → mark_at text [] ≡ None
unfolding behind token_at front_text and_then
no_mark text = refl

offset_again : (k : OffsetForm) (tokens : List Lexeme) → Begins tokens (offset_pieces k) [] → offset_at tokens ≡ Some (k, [])
unfolding offset_at when and_then
offset_again NoOffset tokens b = rw (begins_over b, no_mark (codes "+"), no_mark (codes "-")) refl
offset_again (Plus n) tokens b =
    let m = mark_first b in
    let d = natural_first m.2 in
    let made : ℕ → OffsetForm × List Lexeme = λ c. (Plus c, []) in
    rw (m.1, behind-cons Sign (codes "+") m.0, d.2, natural_at-cons d.0 d.1, begins_over d.4) (ap (λ c. Some (made c)) (sym d.3))
offset_again (Minus n) tokens b =
    let m = mark_first b in
    let d = natural_first m.2 in
    let made : ℕ → OffsetForm × List Lexeme = λ c. (Minus c, []) in
    rw (m.1, behind_other (codes "-") (codes "+") m.0 refl, behind-cons Sign (codes "-") m.0, d.2, natural_at-cons d.0 d.1, begins_over d.4) (ap (λ c. Some (made c)) (sym d.3))

-- ---- comparisons

abbrev pub Proper : ShapeForm × List Lexeme → List Lexeme → Type 0
Proper x tokens = Begins tokens (shape_pieces x.0) x.1 × IsProperShape x.0

comparison_takes : (tokens : List Lexeme) (left : List ℕ × List Lexeme) (x : ShapeForm × List Lexeme) → name_at tokens ≡ Some left → comparison_at left.0 left.1 ≡ Some x → Proper x tokens
unfolding comparison_at
comparison_takes tokens left x n e =
    let op = and_then_some e in
    let relation = op_takes left.1 op.0 op.1 in
    elim (when_some op.2) [
      | inl w ↦
          let offset = and_then_some w.2 in
          let made : ShapeForm × List Lexeme = (CompareVarForm left.0 op.0.0 w.0.0 offset.0.0, offset.0.1) in
          let taken : Proper made tokens = (by_name n (by_mark relation (by_name w.1 (offset_takes w.0.1 offset.0 offset.1))), tt) in
          subst (λ y. Proper y tokens) (same_Some made x offset.2) taken
      | inr w ↦
          let value = and_then_some w.1 in
          let made : ShapeForm × List Lexeme = (CompareConstForm left.0 op.0.0 value.0.0, value.0.1) in
          let taken : Proper made tokens = (by_name n (by_mark relation (by_integer value.1 over)), tt) in
          subst (λ y. Proper y tokens) (same_Some made x value.2) taken
    ]

-- a sign in front is no word
sign_no_word : (text w : List ℕ) (rest : List Lexeme) → keyword_at w (sign text ∷ rest) ≡ None
unfolding behind token_at front_text and_then choose
sign_no_word text w rest = refl

compare_var_again : (left : List ℕ) (op : Op) (right : List ℕ) (k : OffsetForm) (tokens : List Lexeme) → Begins tokens (shape_pieces (CompareVarForm left op right k)) [] → of_name_at tokens ≡ Some (CompareVarForm left op right k, [])
unfolding of_name_at comparison_at when and_then
compare_var_again left op right k tokens b =
    let l = name_first b in
    let m = mark_first l.3 in
    let r = name_first m.2 in
    rw (l.1, name_at-cons left l.0 l.2, m.1, sign_no_word (op_text op) (codes "in") m.0, op_again op m.0, r.1, name_at-cons right r.0 r.2, offset_again k r.0 r.3) refl

compare_const_again : (left : List ℕ) (op : Op) (value : ℤ) (tokens : List Lexeme) → Begins tokens (shape_pieces (CompareConstForm left op value)) [] → of_name_at tokens ≡ Some (CompareConstForm left op value, [])
unfolding of_name_at comparison_at when and_then
compare_const_again left op value tokens b =
    let l = name_first b in
    let m = mark_first l.3 in
    let v = integer_first m.2 in
    rw (l.1, name_at-cons left l.0 l.2, m.1, sign_no_word (op_text op) (codes "in") m.0, op_again op m.0, starts_no_name v.1, integer_at-starts v.1, begins_over v.2) refl

-- ---- within

of_name_takes : (tokens : List Lexeme) (x : ShapeForm × List Lexeme) → of_name_at tokens ≡ Some x → Proper x tokens
unfolding of_name_at within_at
of_name_takes tokens x e =
    let name = and_then_some e in
    elim (when_some name.2) [
      | inl w ↦
          let domain = and_then_some w.2 in
          let made : ShapeForm × List Lexeme = (WithinForm name.0.0 domain.0.0, domain.0.1) in
          let taken : Proper made tokens = (by_name name.1 (by_keyword w.1 (domain_takes w.0 domain.0 domain.1)), tt) in
          subst (λ y. Proper y tokens) (same_Some made x domain.2) taken
      | inr w ↦ comparison_takes tokens name.0 x name.1 w.1
    ]

within_again : (var : List ℕ) (domain : DomainForm) (tokens : List Lexeme) → Begins tokens (shape_pieces (WithinForm var domain)) [] → of_name_at tokens ≡ Some (WithinForm var domain, [])
unfolding of_name_at within_at when and_then
within_again var domain tokens b =
    let l = name_first b in
    let k = keyword_first l.3 in
    rw (l.1, name_at-cons var l.0 l.2, k.1, behind-cons Word (codes "in") k.0, domain_again domain k.0 [] k.2) refl

-- ---- names

sign_stops_names : (text : List ℕ) (rest : List Lexeme) → next_name (sign text ∷ rest) ≡ Some (None, sign text ∷ rest)
unfolding next_name name_at token_at front_text and_then when choose
sign_stops_names text rest = refl

-- ---- sums

linear_first_term_takes : (tokens : List Lexeme) (x : TermForm × List Lexeme) → linear_first_term_at tokens ≡ Some x → Begins tokens (linear_first_term x.0.minus (linear_unsigned_term x.0.factor x.0.name)) x.1
unfolding linear_first_term_at
linear_first_term_takes tokens x e =
    elim (when_some e) [
      | inl w ↦
          let t = term_takes true w.0 x w.2 in
          subst (λ m. Begins tokens (linear_first_term m (linear_unsigned_term x.0.factor x.0.name)) x.1) (sym t.1) (by_mark w.1 t.0)
      | inr w ↦
          let t = term_takes false tokens x w.1 in
          subst (λ m. Begins tokens (linear_first_term m (linear_unsigned_term x.0.factor x.0.name)) x.1) (sym t.1) t.0
    ]

-- a term without `-` does not begin with it
term_no_minus : (factor : Option ℕ) (name : List ℕ) (tokens rest : List Lexeme) → Begins tokens (linear_unsigned_term factor name) rest → mark_at (codes "-") tokens ≡ None
unfolding behind token_at front_text and_then choose
term_no_minus None name tokens rest b = let n = name_first b in rw n.1 refl
term_no_minus (Some k) name tokens rest b = let d = natural_first b in rw d.2 refl

linear_first_term_again : (minus : Bool) (factor : Option ℕ) (name : List ℕ) (tokens rest : List Lexeme) → Begins tokens (linear_first_term minus (linear_unsigned_term factor name)) rest → linear_first_term_at tokens ≡ Some (record { minus = minus; factor = factor; name = name }, rest)
unfolding linear_first_term_at when
linear_first_term_again true factor name tokens rest b =
    let m = mark_first b in
    rw (m.1, behind-cons Sign (codes "-") m.0) (term_again true factor name m.0 rest m.2)
linear_first_term_again false factor name tokens rest b =
    rw (term_no_minus factor name tokens rest b) (term_again false factor name tokens rest b)

terms_takes : (tokens : List Lexeme) (x : List TermForm × List Lexeme) → linear_terms_at tokens ≡ Some x → Begins tokens (linear_terms x.0) x.1 × (0 < length x.0)
unfolding linear_terms_at
terms_takes tokens x e =
    let Taken : List TermForm × List Lexeme → Type 0 = λ y. Begins tokens (linear_terms y.0) y.1 × (0 < length y.0) in
    let first = and_then_some e in
    let others = and_then_some first.2 in
    let made : List TermForm × List Lexeme = (first.0.0 ∷ others.0.0, others.0.1) in
    let more = many_at_takes linear_next_term term_pieces (λ _. ⊤) term_item first.0.1 others.0 others.1 in
    let taken : Taken made = (begins_then (linear_first_term_takes tokens first.0 first.1) more.0, omega arith) in
    subst Taken (same_Some made x others.2) taken

relation_stops_terms : (op : Op) (rest : List Lexeme) → linear_next_term (sign (op_text op) ∷ rest) ≡ Some (None, sign (op_text op) ∷ rest)
unfolding linear_next_term behind token_at front_text and_then when choose
relation_stops_terms Eq rest = refl
relation_stops_terms Ne rest = refl
relation_stops_terms Lt rest = refl
relation_stops_terms Le rest = refl
relation_stops_terms Gt rest = refl
relation_stops_terms Ge rest = refl

terms_again : (t : TermForm) (ts : List TermForm) (tokens rest : List Lexeme) → Begins tokens (linear_terms (t ∷ ts)) rest → linear_next_term rest ≡ Some (None, rest) → linear_terms_at tokens ≡ Some (t ∷ ts, rest)
unfolding linear_terms_at and_then
terms_again t ts tokens rest b stop =
    let s = begins_split (linear_first_term t.minus (linear_unsigned_term t.factor t.name)) (flat_map term_pieces ts) b in
    rw (linear_first_term_again t.minus t.factor t.name tokens s.0 s.1, many_at_again linear_next_term term_pieces (λ _. ⊤) term_item ts s.0 rest (all_fit ts) s.2 stop) refl

sum_op : (op : Op) → is_linear_op op ≡ true → IsLinearOp op
sum_op Eq e = (λ h. cc, λ h. cc)
sum_op Ne e = (λ h. cc, λ h. cc)
sum_op Lt e = absurd cc
sum_op Le e = (λ h. cc, λ h. cc)
sum_op Gt e = absurd cc
sum_op Ge e = (λ h. cc, λ h. cc)

is_linear_op-sum : (op : Op) → IsLinearOp op → is_linear_op op ≡ true
is_linear_op-sum Eq h = refl
is_linear_op-sum Ne h = refl
is_linear_op-sum Lt h = absurd (h.0 refl)
is_linear_op-sum Le h = refl
is_linear_op-sum Gt h = absurd (h.1 refl)
is_linear_op-sum Ge h = refl

linear_takes : (tokens back : List Lexeme) (x : ShapeForm × List Lexeme) → keyword_at (codes "sum") tokens ≡ Some back → linear_at back ≡ Some x → Proper x tokens
unfolding linear_at
linear_takes tokens back x k e =
    let terms = and_then_some e in
    let op = and_then_some terms.2 in
    let fits = guard_some op.2 in
    let bound = and_then_some fits.1 in
    let made : ShapeForm × List Lexeme = (LinearForm terms.0.0 op.0.0 bound.0.0, bound.0.1) in
    let sum = terms_takes back terms.0 terms.1 in
    let taken : Proper made tokens = (by_keyword k (begins_then sum.0 (by_mark (op_takes terms.0.1 op.0 op.1) (by_integer bound.1 over))), (sum.1, sum_op op.0.0 fits.0)) in
    subst (λ y. Proper y tokens) (same_Some made x bound.2) taken

linear_again : (terms : List TermForm) (op : Op) (bound : ℤ) (back : List Lexeme) → (0 < length terms) × IsLinearOp op → Begins back (linear_terms terms ++ Mark (op_text op) ∷ Integer bound ∷ []) [] → linear_at back ≡ Some (LinearForm terms op bound, [])
unfolding linear_at and_then choose
linear_again [] op bound back proper b = absurd (omega (arith, proper.0))
linear_again (t ∷ ts) op bound back proper b =
    let s = begins_split (linear_terms (t ∷ ts)) (Mark (op_text op) ∷ Integer bound ∷ []) b in
    let m = mark_first s.2 in
    let i = integer_first m.2 in
    let stop : linear_next_term s.0 ≡ Some (None, s.0) = rw m.1 (relation_stops_terms op m.0) in
    rw (terms_again t ts back s.0 s.1 stop, m.1, op_again op m.0, is_linear_op-sum op proper.1, integer_at-starts i.1, begins_over i.2) refl

-- ---- tables

end_stops_rows : (width : ℕ) → next_row width [] ≡ Some (None, [])
unfolding next_row behind token_at front_text and_then when
end_stops_rows width = refl

table_takes : (tokens back : List Lexeme) (x : ShapeForm × List Lexeme) → keyword_at (codes "table") tokens ≡ Some back → table_at back ≡ Some x → Proper x tokens
unfolding table_at
table_takes tokens back x k e =
    let vars = and_then_some e in
    let colon = and_then_some vars.2 in
    let rows = and_then_some colon.2 in
    let width = length vars.0.0 in
    let made : ShapeForm × List Lexeme = (TableForm vars.0.0 rows.0.0, rows.0.1) in
    let names = names_takes 1 back vars.0 vars.1 in
    let all = many_at_takes (next_row width) in_parentheses (HasWidth width) (row_item width) colon.0 rows.0 rows.1 in
    let taken : Proper made tokens = (by_keyword k (begins_then names.0 (by_mark colon.1 all.0)), (names.1, All-from_recursion (HasWidth width) rows.0.0 all.1)) in
    subst (λ y. Proper y tokens) (same_Some made x rows.2) taken

table_again : (vars : List (List ℕ)) (rows : List (List ℤ)) (back : List Lexeme) → (0 < length vars) × All (λ row. length row ≡ length vars) rows → Begins back (map Named vars ++ Mark (codes ":") ∷ flat_map in_parentheses rows) [] → table_at back ≡ Some (TableForm vars rows, [])
unfolding table_at and_then
table_again vars rows back proper b =
    let s = begins_split (map Named vars) (Mark (codes ":") ∷ flat_map in_parentheses rows) b in
    let m = mark_first s.2 in
    let stop : next_name s.0 ≡ Some (None, s.0) = rw m.1 (sign_stops_names (codes ":") m.0) in
    let width = length vars in
    let all = many_at_again (next_row width) in_parentheses (HasWidth width) (row_item width) rows m.0 [] (recursion_from_All (HasWidth width) rows proper.1) m.2 (end_stops_rows width) in
    rw (names_again 1 vars back s.0 proper.0 s.1 stop, m.1, behind-cons Sign (codes ":") m.0, all) refl

-- ---- elements

element_takes : (tokens back : List Lexeme) (x : ShapeForm × List Lexeme) → keyword_at (codes "element") tokens ≡ Some back → element_at back ≡ Some x → Proper x tokens
unfolding element_at
element_takes tokens back x k e =
    let outcome = and_then_some e in
    let index = and_then_some outcome.2 in
    let open_at = and_then_some index.2 in
    let entries = and_then_some open_at.2 in
    let made : ShapeForm × List Lexeme = (ElementForm outcome.0.0 index.0.0 entries.0.0, entries.0.1) in
    let taken : Proper made tokens = (by_keyword k (by_name outcome.1 (by_name index.1 (by_mark open_at.1 (values_takes (codes ")") open_at.0 entries.0 entries.1)))), tt) in
    subst (λ y. Proper y tokens) (same_Some made x entries.2) taken

element_again : (outcome index : List ℕ) (entries : List ℤ) (back : List Lexeme) → Begins back (Named outcome ∷ Named index ∷ in_parentheses entries) [] → element_at back ≡ Some (ElementForm outcome index entries, [])
unfolding element_at and_then
element_again outcome index entries back b =
    let o = name_first b in
    let i = name_first o.3 in
    let m = mark_first i.3 in
    rw (o.1, name_at-cons outcome o.0 o.2, i.1, name_at-cons index i.0 i.2, m.1, behind-cons Sign (codes "(") m.0, values_again (codes ")") refl refl entries m.0 [] m.2) refl

-- ---- counts

target_takes : (tokens : List Lexeme) (x : TargetForm × List Lexeme) → target_at tokens ≡ Some x → Begins tokens (target_pieces x.0) x.1
unfolding target_at
target_takes tokens x e =
    let Taken : TargetForm × List Lexeme → Type 0 = λ y. Begins tokens (target_pieces y.0) y.1 in
    elim (when_some e) [
      | inl w ↦
          let made : TargetForm × List Lexeme = (Variable w.0.0, w.0.1) in
          let taken : Taken made = by_name w.1 over in
          subst Taken (same_Some made x w.2) taken
      | inr w ↦
          let value = and_then_some w.1 in
          let made : TargetForm × List Lexeme = (Number value.0.0, value.0.1) in
          let taken : Taken made = by_integer value.1 over in
          subst Taken (same_Some made x value.2) taken
    ]

target_again : (t : TargetForm) (tokens rest : List Lexeme) → Begins tokens (target_pieces t) rest → target_at tokens ≡ Some (t, rest)
unfolding target_at when and_then
target_again (Number value) tokens rest b =
    let v = integer_first b in
    rw (starts_no_name v.1, integer_at-starts v.1, begins_over v.2) refl
target_again (Variable name) tokens rest b =
    let n = name_first b in
    rw (n.1, name_at-cons name n.0 n.2, begins_over n.3) refl

count_takes : (tokens back : List Lexeme) (x : ShapeForm × List Lexeme) → keyword_at (codes "count") tokens ≡ Some back → count_at back ≡ Some x → Proper x tokens
unfolding count_at
count_takes tokens back x k e =
    let value = and_then_some e in
    let vars = and_then_some value.2 in
    let op = and_then_some vars.2 in
    let target = and_then_some op.2 in
    let made : ShapeForm × List Lexeme = (CountForm value.0.0 vars.0.0 op.0.0 target.0.0, target.0.1) in
    let names = names_takes 1 value.0.1 vars.0 vars.1 in
    let taken : Proper made tokens = (by_keyword k (by_integer value.1 (begins_then names.0 (by_mark (op_takes vars.0.1 op.0 op.1) (target_takes op.0.1 target.0 target.1)))), names.1) in
    subst (λ y. Proper y tokens) (same_Some made x target.2) taken

count_again : (value : ℤ) (vars : List (List ℕ)) (op : Op) (target : TargetForm) (back : List Lexeme) → 0 < length vars → Begins back (Integer value ∷ (map Named vars ++ Mark (op_text op) ∷ target_pieces target)) [] → count_at back ≡ Some (CountForm value vars op target, [])
unfolding count_at and_then
count_again value vars op target back proper b =
    let v = integer_first b in
    let s = begins_split (map Named vars) (Mark (op_text op) ∷ target_pieces target) v.2 in
    let m = mark_first s.2 in
    let stop : next_name s.0 ≡ Some (None, s.0) = rw m.1 (sign_stops_names (op_text op) m.0) in
    rw (integer_at-starts v.1, names_again 1 vars v.0 s.0 proper s.1 stop, m.1, op_again op m.0, target_again target m.0 [] m.2) refl

-- ---- different variables

differ_takes : (tokens back : List Lexeme) (x : ShapeForm × List Lexeme) → keyword_at (codes "differ") tokens ≡ Some back → differ_at back ≡ Some x → Proper x tokens
unfolding differ_at
differ_takes tokens back x k e =
    let vars = and_then_some e in
    let made : ShapeForm × List Lexeme = (DifferForm vars.0.0, vars.0.1) in
    let names = names_takes 2 back vars.0 vars.1 in
    let taken : Proper made tokens = (by_keyword k names.0, names.1) in
    subst (λ y. Proper y tokens) (same_Some made x vars.2) taken

differ_again : (vars : List (List ℕ)) (back : List Lexeme) → 2 ≤ length vars → Begins back (map Named vars) [] → differ_at back ≡ Some (DifferForm vars, [])
unfolding differ_at and_then
differ_again vars back proper b = rw (names_again 2 vars back [] proper b end_stops_names) refl

-- ---- constraints

pub shape_takes : (tokens : List Lexeme) (x : ShapeForm × List Lexeme) → shape_at tokens ≡ Some x → Proper x tokens
unfolding shape_at
shape_takes tokens x e =
    elim (when_some e) [
      | inl w ↦ linear_takes tokens w.0 x w.1 w.2
      | inr w1 ↦ elim (when_some w1.1) [
        | inl w ↦ table_takes tokens w.0 x w.1 w.2
        | inr w2 ↦ elim (when_some w2.1) [
          | inl w ↦ element_takes tokens w.0 x w.1 w.2
          | inr w3 ↦ elim (when_some w3.1) [
            | inl w ↦ count_takes tokens w.0 x w.1 w.2
            | inr w4 ↦ elim (when_some w4.1) [
              | inl w ↦ differ_takes tokens w.0 x w.1 w.2
              | inr w ↦ of_name_takes tokens x w.1
            ]
          ]
        ]
      ]
    ]

-- a word in front that is not the one looked for
pub other_word : (w text : List ℕ) (rest : List Lexeme) → (w ≡ text → ⊥) → keyword_at text (word w ∷ rest) ≡ None
unfolding behind token_at front_text and_then choose
other_word w text rest ne = rw (false_from_ne_true (bytes_eq w text) (λ e. ne (same_text w text e))) refl

-- a constraint that begins with a name
named_shape : (name : List ℕ) (tokens back : List Lexeme) → IsName name → tokens ≡ word name ∷ back → shape_at tokens ≡ of_name_at tokens
unfolding shape_at when
named_shape name tokens back n e =
    rw (
      e,
      other_word name (codes "sum") back (λ same. n.free (inl same)),
      other_word name (codes "table") back (λ same. n.free (inr (inl same))),
      other_word name (codes "element") back (λ same. n.free (inr (inr (inl same)))),
      other_word name (codes "count") back (λ same. n.free (inr (inr (inr (inl same))))),
      other_word name (codes "differ") back (λ same. n.free (inr (inr (inr (inr (inl same)))))),
    ) refl

pub shape_again : (s : ShapeForm) (tokens : List Lexeme) → IsProperShape s → Begins tokens (shape_pieces s) [] → shape_at tokens ≡ Some (s, [])
unfolding shape_at behind token_at front_text and_then when choose
shape_again (CompareVarForm left op right k) tokens proper b =
    let l = name_first b in
    named_shape left tokens l.0 l.2 l.1 ∙ compare_var_again left op right k tokens b
shape_again (CompareConstForm left op value) tokens proper b =
    let l = name_first b in
    named_shape left tokens l.0 l.2 l.1 ∙ compare_const_again left op value tokens b
shape_again (WithinForm var domain) tokens proper b =
    let l = name_first b in
    named_shape var tokens l.0 l.2 l.1 ∙ within_again var domain tokens b
shape_again (LinearForm terms op bound) tokens proper b =
    let k = keyword_first b in
    rw k.1 (linear_again terms op bound k.0 proper k.2)
shape_again (TableForm vars rows) tokens proper b =
    let k = keyword_first b in
    rw k.1 (table_again vars rows k.0 proper k.2)
shape_again (ElementForm outcome index entries) tokens proper b =
    let k = keyword_first b in
    rw k.1 (element_again outcome index entries k.0 k.2)
shape_again (CountForm value vars op target) tokens proper b =
    let k = keyword_first b in
    rw k.1 (count_again value vars op target k.0 proper k.2)
shape_again (DifferForm vars) tokens proper b =
    let k = keyword_first b in
    rw k.1 (differ_again vars k.0 proper k.2)
