-- The text of a lemma, by what was made of it.
use Rattle.std.proofs.Common.{◌≡◌, ℕ, ℤ, Bool, false, cond, List, [], ◌∷◌, ◌++◌, flat_map, refl, ap, ◌∙◌}
use Rattle.palm_base.specs.declared.terms.Pair.{Pair}
use Rattle.palm_base.specs.declared.terms.Cid.{Cid}
use Rattle.palm_base.specs.declared.terms.Cid.TheVariants.{Decide, Not, User}
use Rattle.palm_book.specs.Book.{Contents}
use Rattle.palm_cert.specs.Certificate.{steps_of}
use Rattle.palm_cert.specs.Needs.{removals_at}
use Rattle.palm_cert.proofs.cited.Stepped.{steps_found}
use Rattle.palm_explain.specs.Explanations.{IsLinked}
use Rattle.palm_explain.specs.Needed.{AreNeeded, pairs_with}
use Rattle.palm_model.specs.Domains.{values_of}
use Rattle.palm_model.specs.Log.{Removal, is_named}
use Rattle.palm_model.specs.State.{EngineState}
use Rattle.palm_search.specs.Turns.{decided_vars}
use Rattle.proof_run.specs.Lemma.{held_decisions, lemma_line, step_line, text_of_lemma, wipe_line, wiped_by}

-- the removals at the places are those that the emptied variable needs
pub lemma_made : (book : Contents) (undone pairs ps : List Pair) (s : EngineState) (log : List Removal) (places : List ℕ) (values : List ℤ) (x y : ℕ) → ps ≡ pairs → log ≡ s.log → values ≡ values_of s.initial y
    → IsLinked log → AreNeeded log (pairs_with y values) places → y ≡ x
    → lemma_line book.variables ps ++ flat_map (step_line book undone (removals_at log places)) (removals_at log places) ++ wipe_line book.variables y ≡ text_of_lemma book undone pairs (wiped_by s x) x
lemma_made book undone pairs ps s log places values x y held logged valued linked are same =
    let text = λ (steps : List Removal). text_of_lemma book undone pairs steps y in
    ap (λ (qs : List Pair). text_of_lemma book undone qs (removals_at log places) y) held
    ∙ ap text (steps_found log (pairs_with y values) places linked are) ∙ ap (λ (l : List Removal). text (steps_of l (pairs_with y values))) logged
    ∙ ap (λ (vs : List ℤ). text (steps_of s.log (pairs_with y vs))) valued ∙ ap (λ (z : ℕ). text_of_lemma book undone pairs (wiped_by s z) z) same

-- ---- without decisions

none_named : (cids : List Cid) → decided_vars cids ≡ [] → (x : ℕ) → is_named cids (Decide x) ≡ false
none_named [] none x = refl
none_named (Decide y ∷ cids) none x = cc
none_named (Not p ∷ cids) none x = none_named cids none x
none_named (User n ∷ cids) none x = none_named cids none x

pub none_held : (cids : List Cid) → decided_vars cids ≡ [] → (decisions : List Pair) → held_decisions decisions cids ≡ []
none_held cids none [] = refl
none_held cids none (d ∷ decisions) =
    ap (λ (b : Bool). cond b (d ∷ held_decisions decisions cids) (held_decisions decisions cids)) (none_named cids none d.var) ∙ none_held cids none decisions
