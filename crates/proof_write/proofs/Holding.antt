-- The words of the decisions that are held, one after another.
use Rattle.std.proofs.Common.{◌≡◌, ℕ, ◌+◌, ◌<◌, Bool, true, false, cond, List, [], ◌∷◌, ◌++◌, length, take, get_or, map, Contains, codes, inl, inr, refl, sym, ap, ◌∙◌, append-nil}
use Rattle.std.proofs.lemmas.Bool.{cases_Bool}
use Rattle.std.proofs.lemmas.Grind.{flat_map-append}
use Rattle.std.proofs.lemmas.List.{map-append}
use Rattle.std.proofs.lemmas.List.Elements.{filter_more}
use Rattle.palm_base.specs.declared.terms.Pair.{Pair}
use Rattle.palm_base.specs.declared.terms.Cid.{Cid}
use Rattle.palm_base.specs.declared.terms.Cid.TheVariants.{Decide}
use Rattle.palm_base.specs.Tells.{Tells}
use Rattle.palm_book.specs.Book.{BookVar}
use Rattle.palm_events.proofs.cited.Names.{member_named, named_member}
use Rattle.palm_model.specs.Log.{is_named}
use Rattle.palm_read.specs.Words.{after_spaces}
use Rattle.proof_run.specs.Lemma.{held_decisions, pair_word}

-- whether it is held is what is told
pub told_named : (cids : List Cid) (c : Cid) (b : Bool) → Tells b (Contains cids c) → b ≡ is_named cids c
told_named cids c true told = sym (member_named cids c told)
told_named cids c false told = elim (cases_Bool (is_named cids c)) [
  | inl t ↦ absurd (told (named_member cids c t))
  | inr f ↦ sym f
]

module _ (variables : List BookVar) (held : List Cid) where
  abbrev pub held_words : List Pair → List ℕ
  held_words decisions = after_spaces (map (pair_word variables) (held_decisions decisions held))

  words_both : (ps qs : List Pair) → after_spaces (map (pair_word variables) (ps ++ qs)) ≡ after_spaces (map (pair_word variables) ps) ++ after_spaces (map (pair_word variables) qs)
  words_both ps qs =
      ap (λ (ws : List (List ℕ)). after_spaces ws) (map-append (pair_word variables) ps qs)
      ∙ flat_map-append (λ (w : List ℕ). codes " " ++ w) (map (pair_word variables) ps) (map (pair_word variables) qs)

  words_one : (b : Bool) (p : Pair) → after_spaces (map (pair_word variables) (cond b (p ∷ []) [])) ≡ cond b (codes " " ++ pair_word variables p) []
  words_one true p = append-nil (codes " " ++ pair_word variables p)
  words_one false p = refl

  -- one more decision, by whether it is held
  pub held_more : (decisions : List Pair) (i : ℕ) (p : Pair) (b : Bool) → i < length decisions → p ≡ get_or decisions i p → b ≡ is_named held (Decide p.var)
      → held_words (take (i + 1) decisions) ≡ held_words (take i decisions) ++ cond b (codes " " ++ pair_word variables p) []
  held_more decisions i p b lt is told =
      ap (λ (ps : List Pair). after_spaces (map (pair_word variables) ps)) (filter_more (λ (q : Pair). is_named held (Decide q.var)) decisions i p lt)
      ∙ words_both (held_decisions (take i decisions) held) (cond (is_named held (Decide (get_or decisions i p).var)) (get_or decisions i p ∷ []) [])
      ∙ ap (λ (q : Pair). held_words (take i decisions) ++ after_spaces (map (pair_word variables) (cond (is_named held (Decide q.var)) (q ∷ []) []))) (sym is)
      ∙ ap (λ (t : List ℕ). held_words (take i decisions) ++ t) (words_one (is_named held (Decide p.var)) p ∙ ap (λ (t : Bool). cond t (codes " " ++ pair_word variables p) []) (sym told))
