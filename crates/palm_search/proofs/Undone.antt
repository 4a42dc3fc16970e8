-- An undoing: the latest decision of a conflict, and its negation.
use Rattle.std.proofs.Common.{◌≡◌, ℕ, suc, None, Some, is_some, true, List, slice_get, get_or, take, drop, Contains, refl, sym, ap, ◌∙◌, subst, arith}
use Rattle.std.specs.Prelude.{Option, MatchOption}
use Rattle.std.proofs.lemmas.Option.{get_or_from_slice_get}
use Rattle.palm_base.specs.declared.terms.Pair.{Pair}
use Rattle.palm_base.specs.declared.terms.Cid.{Cid}
use Rattle.palm_base.specs.declared.terms.Cid.TheVariants.{Decide, Not}
use Rattle.palm_base.proofs.cited.Members.{member_same, member_get, member_place}
use Rattle.palm_model.specs.Domains.{Has}
use Rattle.palm_model.specs.Log.{IsActive}
use Rattle.palm_model.specs.State.{AreJustifiers, EngineState, IsValid, without_cid, negation_of}
use Rattle.palm_model.specs.Event.{Posts, gone_with, posted, without_cids}
use Rattle.palm_model.proofs.cited.Narrowing.{has_declared}
use Rattle.palm_search.specs.Calls.{SearchView, TakesBack, search_state}
use Rattle.palm_search.specs.Kept.{HasDecisions, HasDeclared, HasNoneNegated}
use Rattle.palm_search.specs.Turning.{IsLatestAt}
use Rattle.palm_search.specs.Turns.{SearchState, HasFlatConflict, Undoes}
use Rattle.palm_search.proofs.FlatConflict.{conflict_decided}
use Rattle.palm_search.proofs.cited.Deciding.{apart_not, posted_has}
use Rattle.palm_search.proofs.cited.Going.{negation_before, rest_justifiers}
use Rattle.palm_search.proofs.cited.Showing.{at_drop, some_same, split_place}

-- ---- the latest decision

-- where the flat conflict holds a decision, there is a latest one
pub latest_found : (s : SearchState) (conflict : List Cid) (x : ℕ) (place : Option ℕ) (decisions : List Pair) (cids : List Cid) → IsValid s.engine → HasDecisions s → HasFlatConflict s.engine conflict → Contains conflict (Decide x)
    → decisions ≡ s.decisions → cids ≡ conflict → MatchOption place ((p : Pair) → Contains decisions p → Contains cids (Decide p.var) → ⊥) (IsLatestAt decisions cids) → is_some place ≡ true
latest_found s conflict x None decisions cids valid has flat held ed en none =
    let r = conflict_decided s conflict x valid has flat held in
    absurd (none r.0 (subst (λ l. Contains l r.0) (sym ed) r.1) (subst (λ l. Contains l (Decide r.0.var)) (sym en) r.2))
latest_found s conflict x (Some place) decisions cids valid has flat held ed en found = refl

pub latest_at : (found : Option ℕ) (place : ℕ) (decisions wanted : List Pair) (cids conflict : List Cid) → decisions ≡ wanted → cids ≡ conflict → found ≡ Some place
    → MatchOption found ((p : Pair) → Contains decisions p → Contains cids (Decide p.var) → ⊥) (IsLatestAt decisions cids) → IsLatestAt wanted conflict place
latest_at found place decisions wanted cids conflict ed en ef latest =
    subst (λ l. IsLatestAt wanted l place) en (subst (λ l. IsLatestAt l cids place) ed (
    subst (λ o. MatchOption o ((p : Pair) → Contains decisions p → Contains cids (Decide p.var) → ⊥) (IsLatestAt decisions cids)) ef latest))

pub removed_is : (decisions : List Pair) (k : ℕ) (gone p : Pair) → slice_get decisions k ≡ Some gone → p ≡ get_or decisions k p → gone ≡ p
removed_is decisions k gone p e g = sym (g ∙ get_or_from_slice_get decisions k gone p e)

-- ---- the negation

undone_active : (conflict : List Cid) (k : ℕ) (s m : EngineState) (before after : SearchView) (back : TakesBack conflict k s before m after)
    → m.active ≡ without_cids (gone_with s.active (Decide back.gone.var)) s.active
undone_active conflict k s m before after back = ap (λ (z : EngineState). z.active) back.withdraws.after

pub undone_inactive : (conflict : List Cid) (k : ℕ) (s m : EngineState) (before after : SearchView) (back : TakesBack conflict k s before m after) → HasNoneNegated (search_state s before) → IsActive m.active (Not back.gone) → ⊥
undone_inactive conflict k s m before after back none is =
    none back.gone (member_get before.decisions k back.gone back.stood) (negation_before (search_state s before) back.gone m (undone_active conflict k s m before after back) back.gone is)

pub undone_declared : (conflict : List Cid) (k : ℕ) (s m : EngineState) (before after : SearchView) (back : TakesBack conflict k s before m after) → HasDeclared (search_state s before) → Has m.initial back.gone.var back.gone.value
undone_declared conflict k s m before after back declared =
    subst (λ (z : EngineState). Has z.initial back.gone.var back.gone.value) (sym back.withdraws.after) (declared.decided back.gone (member_get before.decisions k back.gone back.stood))

pub undone_justifiers : (conflict : List Cid) (k : ℕ) (s m : EngineState) (before after : SearchView) (back : TakesBack conflict k s before m after) → IsValid s → HasFlatConflict s conflict
    → AreJustifiers m.active (without_cid (Decide back.gone.var) conflict)
undone_justifiers conflict k s m before after back valid flat =
    rest_justifiers (search_state s before) valid back.gone conflict flat m (undone_active conflict k s m before after back)

-- an undoing whose withdrawal leads to m
pub record UndoneAt (m : EngineState) (s : SearchState) (gone : Pair) (conflict : List Cid) (t : SearchState) : Type 0 where
  pub undoes : Undoes s gone conflict t
  pub middle : undoes.middle ≡ m

-- with the negation it is the turn
pub undone_turn : (conflict : List Cid) (k : ℕ) (s m t : EngineState) (before after : SearchView) (back : TakesBack conflict k s before m after) → HasFlatConflict s conflict → IsLatestAt before.decisions conflict k
    → Posts m (negation_of back.gone (without_cid (Decide back.gone.var) conflict)) t → UndoneAt m (search_state s before) back.gone conflict (search_state t after)
undone_turn conflict k s m t before after back flat latest posts =
    let held = latest.holds in
    let same : held.pair ≡ back.gone = some_same held.pair back.gone (sym held.stands ∙ back.stood) in
    record {
      undoes = record {
        flat = flat;
        latest = record {
          earlier = take k before.decisions;
          later = drop (suc k) before.decisions;
          are = split_place before.decisions k back.gone back.stood;
          held = member_same conflict (Decide held.pair.var) (Decide back.gone.var) (ap (λ (p : Pair). Decide p.var) same) held.held;
          latest = λ p m'.
              let j = member_place (drop (suc k) before.decisions) p m' in
              let r = at_drop (suc k) before.decisions j.0 p j.1 in
              let le = r.1 in
              latest.latest r.0 p (omega (arith, le)) r.2;
          others = back.decisions;
        };
        middle = m;
        withdraws = back.withdraws;
        posts = posts;
      };
      middle = refl;
    }

-- the negation can be posted
pub undone_posts : (conflict : List Cid) (k : ℕ) (s m : EngineState) (before after : SearchView) (back : TakesBack conflict k s before m after) → IsValid s → HasNoneNegated (search_state s before) → HasDeclared (search_state s before)
    → HasFlatConflict s conflict → let a = negation_of back.gone (without_cid (Decide back.gone.var) conflict) in Posts m a (posted m a)
undone_posts conflict k s m before after back valid none declared flat = record {
  inactive = undone_inactive conflict k s m before after back none;
  formed = record {
    form = (
      refl,
      has_declared m.initial back.gone.var back.gone.value (undone_declared conflict k s m before after back declared),
      undone_justifiers conflict k s m before after back valid flat,
    );
  };
  after = refl;
}

-- and the decisions stay those that are active
pub negated_has : (m t : EngineState) (after : SearchView) (p : Pair) (justification : List Cid) → Posts m (negation_of p justification) t → HasDecisions (search_state m after) → HasDecisions (search_state t after)
negated_has m t after p justification posts has = posted_has (search_state m after) (negation_of p justification) t (ap (λ (z : EngineState). z.active) posts.after) posts.inactive (λ x. apart_not p x) has
