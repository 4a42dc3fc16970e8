-- What the calls of a search keep.
use Rattle.std.proofs.Common.{◌≡◌, ℕ, suc, Some, List, [], ◌∷◌, ◌++◌, slice_get, get_or, take, drop, Contains, refl, sym, ap, ◌∙◌, subst}
use Rattle.std.proofs.lemmas.List.{append-nil}
use Rattle.std.proofs.lemmas.List.Elements.{Contains-push}
use Rattle.std.proofs.lemmas.Option.{get_or_from_slice_get}
use Rattle.palm_base.specs.declared.terms.Pair.{Pair}
use Rattle.palm_base.specs.declared.terms.Cid.{Cid}
use Rattle.palm_base.specs.declared.terms.Cid.TheVariants.{Decide}
use Rattle.palm_base.proofs.cited.Members.{member_nil, member_get}
use Rattle.palm_model.specs.Domains.{Domains}
use Rattle.palm_model.specs.Log.{IsActive}
use Rattle.palm_model.specs.State.{EngineState, IsValid, IsSettled, present, decision_of}
use Rattle.palm_model.specs.Event.{Posts, Withdraws}
use Rattle.palm_search.specs.declared.turn.Pick.{Pick}
use Rattle.palm_search.specs.Calls.{SearchView, TakesBack, search_state}
use Rattle.palm_search.specs.Turns.{SearchState, IsDecided}
use Rattle.palm_search.specs.Kept.{HasDecisions}
use Rattle.palm_search.proofs.cited.Deciding.{decided_has, withdrawn_has, same_state}
use Rattle.palm_search.proofs.cited.Going.{open_undecided, decided_lawful}
use Rattle.palm_search.proofs.cited.Showing.{split_place}

-- ---- deciding

-- the variable of the pair that is decided is not decided yet
pub decided_free : (s : SearchState) (d : Domains) (pick : Pick) (p : Pair) → IsValid s.engine → HasDecisions s → IsSettled s.engine → d ≡ present s.engine → IsDecided d pick p → IsActive s.engine.active (Decide p.var) → ⊥
decided_free s d pick p valid has settled e decided is =
    let decided' : IsDecided (present s.engine) pick p = subst (λ z. IsDecided z pick p) e decided in
    open_undecided s valid has settled.quiet p.var (decided_lawful (present s.engine) pick p decided').is_open is

pub decision_posted : (s t : EngineState) (before after : SearchView) (p : Pair) → HasDecisions (search_state s before) → Posts s (decision_of p) t → after.decisions ≡ before.decisions ++ p ∷ []
    → HasDecisions (search_state t after)
decision_posted s t before after p has posts e =
    subst HasDecisions (same_state (search_state t after) (before.decisions ++ p ∷ []) e)
    (decided_has (search_state s before) p t (ap (λ (z : EngineState). z.active) posts.after) posts.inactive has)

-- ---- undoing

pub removed_stood : (decisions : List Pair) (k : ℕ) (p gone : Pair) → slice_get decisions k ≡ Some p → gone ≡ get_or decisions k gone → slice_get decisions k ≡ Some gone
removed_stood decisions k p gone e g = e ∙ ap Some (sym (g ∙ get_or_from_slice_get decisions k p gone e))

pub decision_active : (s : SearchState) (p : Pair) → HasDecisions s → Contains s.decisions p → IsActive s.engine.active (Decide p.var)
decision_active s p has m = record { owner = decision_of p; posted = has.active p m; named = refl }

pub stood_active : (s : SearchState) (k : ℕ) (p : Pair) → HasDecisions s → slice_get s.decisions k ≡ Some p → IsActive s.engine.active (Decide p.var)
stood_active s k p has e = decision_active s p has (member_get s.decisions k p e)

-- the other decisions stay
pub back_has : (conflict : List Cid) (k : ℕ) (s t : EngineState) (before after : SearchView) → IsValid s → HasDecisions (search_state s before) → TakesBack conflict k s before t after → HasDecisions (search_state t after)
back_has conflict k s t before after valid has back =
    let earlier = take k before.decisions in
    let later = drop (suc k) before.decisions in
    subst HasDecisions (same_state (search_state t after) (earlier ++ later) back.decisions)
    (withdrawn_has (search_state s before) back.gone earlier later t (split_place before.decisions k back.gone back.stood) (ap (λ (z : EngineState). z.active) back.withdraws.after) valid has)

-- ---- closing

pub last_active : (s : SearchState) (front : List Pair) (p : Pair) → HasDecisions s → s.decisions ≡ front ++ p ∷ [] → IsActive s.engine.active (Decide p.var)
last_active s front p has e = decision_active s p has (subst (λ l. Contains l p) (sym e) (Contains-push front p))

pub last_withdrawn : (s : SearchState) (t : EngineState) (front : List Pair) (p : Pair) → IsValid s.engine → HasDecisions s → s.decisions ≡ front ++ p ∷ [] → Withdraws s.engine (Decide p.var) t
    → HasDecisions (record { engine = t; decisions = front })
last_withdrawn s t front p valid has e withdraws =
    subst (λ l. HasDecisions (record { engine = t; decisions = l })) (append-nil front)
    (withdrawn_has s p front [] t e (ap (λ (z : EngineState). z.active) withdraws.after) valid has)

pub none_decided : (s : SearchState) → HasDecisions s → s.decisions ≡ [] → (x : ℕ) → IsActive s.engine.active (Decide x) → ⊥
none_decided s has e x is =
    let r = has.taken is.owner x is.posted is.named in
    member_nil r.0 (subst (λ l. Contains l r.0) e r.1)
