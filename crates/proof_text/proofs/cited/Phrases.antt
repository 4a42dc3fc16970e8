-- The phrases of proofs: the reader reads just the tokens of one, and none of them is a form of a session.
use Rattle.std.proofs.Common.{◌≡◌, true, Some, None, List, [], codes, refl, subst, arith, inl, inr}
use Rattle.std.proofs.lemmas.List.Elements.{All-from_recursion, recursion_from_All}
use Rattle.palm_model.specs.Limits.{IsValue}
use Rattle.palm_read.specs.declared.tokens.TokenKind.TheVariants.{Sign}
use Rattle.palm_read.specs.Reader.Lines.{header_at as session_header_at, bare_at, form_at, line_at, numbered_at, search_form_at}
use Rattle.palm_read.specs.Reader.Steps.{Reading, and_then, when, choose, front_text, token_at, behind, integer_at, keyword_at, name_at, natural_at}
use Rattle.palm_read.specs.Token.{Lexeme}
use Rattle.palm_read.proofs.cited.Names.{end_stops_names, moved, names_again, names_takes, not_none, not_some, same_item, same_rest}
use Rattle.palm_read.proofs.cited.Begins.{Begins, over, begins_over, by_integer, by_keyword, by_mark, by_name, integer_first, keyword_first, mark_first, name_first}
use Rattle.palm_read.proofs.cited.Front.{and_then_some, when_some, behind-cons, name_at-cons}
use Rattle.palm_read.proofs.cited.Many.{IsItem, many_at_takes, many_at_again}
use Rattle.palm_claim.specs.Phrases.{ArePhrases, is_worded}
use Rattle.palm_claim.specs.Reader.{header_at}
use Rattle.palm_claim.proofs.cited.Phrases.{header_takes, header_tokens, value_again, value_takes}
use Rattle.palm_claim.proofs.cited.Saying.{Taken, by_pieces, taken_as}
use Rattle.proof_text.specs.Reader.{lemma_at, next_pair, phrase_at, step_at, users_at, wipe_at}
use Rattle.proof_text.specs.Statement.{AreInRange, pair_pieces, phrase_pieces, phrases}
use Rattle.proof_text.specs.declared.statement.NamedPair.{NamedPair}
use Rattle.proof_text.specs.declared.statement.ProofPhrase.{ProofPhrase}
use Rattle.proof_text.specs.declared.statement.ProofPhrase.TheVariants.{Header, Lemma, Step, Wipe, Users, End}
use Rattle.proof_text.proofs.Grounds.{ground_again, ground_takes}

-- ---- pairs

abbrev HasValue : NamedPair → Type 0
HasValue p = IsValue p.value

pair_takes : (tokens rest : List Lexeme) (a : NamedPair) → next_pair tokens ≡ Some (Some a, rest) → Begins tokens (pair_pieces a) rest × HasValue a
unfolding next_pair
pair_takes tokens rest a e =
    elim (when_some e) [
      | inl w ↦
          let mark = and_then_some w.2 in
          let value = and_then_some mark.2 in
          let v = value_takes mark.0 value.0 value.1 in
          let p : NamedPair = record { name = w.0.0; value = value.0.0 } in
          (moved pair_pieces tokens p a value.0.1 rest value.2 (by_name w.1 (by_mark mark.1 (by_integer v.0 over))), subst HasValue (same_item p a value.0.1 rest value.2).0 v.1)
      | inr w ↦ absurd (not_some a tokens rest w.1)
    ]

pair_leaves : (tokens rest : List Lexeme) → next_pair tokens ≡ Some (None, rest) → rest ≡ tokens
unfolding next_pair
pair_leaves tokens rest e =
    elim (when_some e) [
      | inl w ↦ let value = and_then_some (and_then_some w.2).2 in absurd (not_none (record { name = w.0.0; value = value.0.0 }) value.0.1 rest value.2)
      | inr w ↦ same_rest {A = NamedPair} tokens rest w.1
    ]

pair_again : (tokens rest : List Lexeme) (a : NamedPair) → HasValue a → Begins tokens (pair_pieces a) rest → next_pair tokens ≡ Some (Some a, rest)
unfolding next_pair and_then when
pair_again tokens rest a is b =
    let n = name_first b in
    let m = mark_first n.3 in
    let i = integer_first m.2 in
    rw (n.1, name_at-cons a.name n.0 n.2, m.1, behind-cons Sign (codes "=") m.0, value_again i.1 is, begins_over i.2) refl

pub pair_item : IsItem next_pair pair_pieces HasValue
pair_item = record {
  takes = pair_takes;
  leaves = pair_leaves;
  again = pair_again;
  some = λ a. omega arith;
}

no_pair : next_pair [] ≡ Some (None, [])
unfolding next_pair name_at token_at front_text and_then when
no_pair = refl

-- ---- forms

abbrev TakenPhrase : List Lexeme → ProofPhrase × List Lexeme → Type 0
TakenPhrase tokens x = Taken phrase_pieces AreInRange tokens x

taken : (tokens : List Lexeme) (made x : ProofPhrase × List Lexeme) → ◌≡◌ {A = Reading ProofPhrase} (Some made) (Some x) → TakenPhrase tokens made → TakenPhrase tokens x
taken = taken_as phrase_pieces AreInRange

-- a step, its pair and its ground
step_takes : (tokens back : List Lexeme) (x : ProofPhrase × List Lexeme) → keyword_at (codes "step") tokens ≡ Some back → step_at back ≡ Some x → TakenPhrase tokens x
unfolding step_at
step_takes tokens back x k e =
    let name = and_then_some e in
    let value = and_then_some name.2 in
    let ground = and_then_some value.2 in
    let v = value_takes name.0.1 value.0 value.1 in
    let g = ground_takes value.0.1 ground.0 ground.1 in
    taken tokens (Step name.0.0 value.0.0 ground.0.0, ground.0.1) x ground.2 (by_keyword k (by_name name.1 (by_integer v.0 g.0)), (v.1, g.1))

phrase_takes : (tokens : List Lexeme) (x : ProofPhrase × List Lexeme) → phrase_at tokens ≡ Some x → TakenPhrase tokens x
unfolding phrase_at lemma_at wipe_at users_at
phrase_takes tokens x e =
    elim (when_some e) [
      | inl w ↦ step_takes tokens w.0 x w.1 w.2
      | inr u ↦ elim (when_some u.1) [
        | inl w ↦
            let pairs = and_then_some w.2 in
            let t = many_at_takes next_pair pair_pieces HasValue pair_item w.0 pairs.0 pairs.1 in
            taken tokens (Lemma pairs.0.0, pairs.0.1) x pairs.2 (by_keyword w.1 t.0, All-from_recursion HasValue pairs.0.0 t.1)
        | inr v ↦ elim (when_some v.1) [
          | inl w ↦ let name = and_then_some w.2 in taken tokens (Wipe name.0.0, name.0.1) x name.2 (by_keyword w.1 (by_name name.1 over), tt)
          | inr y ↦ elim (when_some y.1) [
            | inl w ↦
                let names = and_then_some w.2 in
                taken tokens (Users names.0.0, names.0.1) x names.2 (by_keyword w.1 (names_takes 0 w.0 names.0 names.1).0, tt)
            | inr z ↦ elim (when_some z.1) [
              | inl w ↦ taken tokens (End, w.0) x w.2 (by_keyword w.1 over, tt)
              | inr w ↦ let rest = and_then_some w.1 in taken tokens (Header, rest.0) x rest.2 (header_takes (codes "proof") tokens rest.0 rest.1, tt)
            ]
          ]
        ]
      ]
    ]

-- ---- and where a phrase stands it is read

-- the reader finds its way by the first word
phrase_again : (tokens : List Lexeme) (s : ProofPhrase) → Begins tokens (phrase_pieces s) [] → AreInRange s → phrase_at tokens ≡ Some (s, [])
unfolding phrase_at header_at step_at lemma_at wipe_at users_at behind token_at front_text and_then when choose
phrase_again tokens Header b range = rw (header_tokens (codes "proof") tokens b) refl
phrase_again tokens (Lemma pairs) b range =
    let k = keyword_first b in
    rw (k.1, many_at_again next_pair pair_pieces HasValue pair_item pairs k.0 [] (recursion_from_All HasValue pairs range) k.2 no_pair) refl
phrase_again tokens (Step name value ground) b range =
    let k = keyword_first b in
    let n = name_first k.2 in
    let i = integer_first n.3 in
    rw (k.1, n.1, name_at-cons name n.0 n.2, value_again i.1 range.0, ground_again ground i.0 range.1 i.2) refl
phrase_again tokens (Wipe name) b range = let k = keyword_first b in let n = name_first k.2 in rw (k.1, n.1, name_at-cons name n.0 n.2, begins_over n.3) refl
phrase_again tokens (Users names) b range = let k = keyword_first b in rw (k.1, names_again 0 names k.0 [] (omega arith) k.2 end_stops_names) refl
phrase_again tokens End b range = let k = keyword_first b in rw (k.1, begins_over k.2) refl

-- each begins with a word, and none is a form of a session
worded : (s : ProofPhrase) → is_worded (phrase_pieces s) ≡ true
worded End = refl
worded _ = refl

no_form : (tokens : List Lexeme) (s : ProofPhrase) → Begins tokens (phrase_pieces s) [] → form_at tokens ≡ None
unfolding form_at line_at session_header_at numbered_at search_form_at bare_at integer_at natural_at behind token_at front_text and_then when choose
no_form tokens Header b = rw (header_tokens (codes "proof") tokens b) refl
no_form tokens (Lemma pairs) b = rw (keyword_first b).1 refl
no_form tokens (Step name value ground) b = let k = keyword_first b in rw (k.1, (name_first k.2).1) refl
no_form tokens (Wipe name) b = rw (keyword_first b).1 refl
no_form tokens (Users names) b = rw (keyword_first b).1 refl
no_form tokens End b = rw (keyword_first b).1 refl

pub are_phrases : ArePhrases phrases
are_phrases = by_pieces phrases phrase_takes phrase_again worded no_form
