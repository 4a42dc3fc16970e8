-- Turns and settlings keep the engine valid and all negations justified.
use Rattle.std.proofs.Common.{◌≡◌, ℕ, ◌<◌, None, Bool, true, List, [], ◌∷◌, length, Contains, All, inl, inr, refl, sym, ap, subst}
use Rattle.palm_base.specs.declared.terms.Pair.{Pair}
use Rattle.palm_base.specs.declared.terms.Cid.{Cid}
use Rattle.palm_base.specs.declared.terms.Cid.TheVariants.{Decide, Not}
use Rattle.palm_base.proofs.cited.Members.{member_nil, member_here, member_single}
use Rattle.palm_model.specs.Domains.{Assignment, Has}
use Rattle.palm_model.specs.Part.{Holds, Satisfies}
use Rattle.palm_model.specs.Closure.{IsSolution}
use Rattle.palm_model.specs.Log.{Active, Named}
use Rattle.palm_model.specs.State.{EngineState, IsValid, without_cid, is_user, decision_of, negation_of}
use Rattle.palm_model.specs.Event.{Step, Runs, without_cids, gone_with}
use Rattle.palm_model.specs.Event.Event.{Post, Withdraw, Remove}
use Rattle.palm_model.specs.Event.Step.{Happens, Calm, Declare}
use Rattle.palm_model.specs.Conflict.{InFlatConflict, IsFlatConflict, IsJustified, AreJustified}
use Rattle.palm_model.specs.declared.constraint.Con.TheVariants.{CompareConst}
use Rattle.palm_model.specs.declared.constraint.Op.TheVariants.{Eq, Ne}
use Rattle.palm_model.specs.declared.part.Part.TheVariants.{CompareConst as CompareConstPart}
use Rattle.palm_events.specs.Along.{IsFiltering, IsJustifiedPosting}
use Rattle.palm_events.specs.Reasons.{ReasonsAreRight}
use Rattle.std.proofs.lemmas.Bool.{false≢true}
use Rattle.std.proofs.lemmas.List.Elements.{All-head, All-tail, Contains-append_right}
use Rattle.palm_base.proofs.cited.CidOrder.{cid_known}
use Rattle.palm_events.proofs.cited.Names.{single}
use Rattle.palm_events.proofs.cited.States.{member_without_cids, member_without_cid}
use Rattle.palm_events.proofs.cited.Valid.{posts_valid, withdraws_valid}
use Rattle.palm_events.proofs.cited.Runs.{step_valid}
use Rattle.palm_events.proofs.cited.Conflicts.{flat_unsolved, flat_justifiers, step_justified}
use Rattle.palm_engine.specs.Settling.{Filters}
use Rattle.palm_engine.proofs.cited.Settled.{settling_filters, filters_valid}
use Rattle.palm_search.specs.declared.turn.Pick.{Pick}
use Rattle.palm_search.specs.declared.turn.Turn.{Turn}
use Rattle.palm_search.specs.declared.turn.Turn.TheVariants.{Decide as TurnDecide, Undo as TurnUndo}
use Rattle.palm_search.specs.Turns.{SearchState, Decides, Undoes, Takes, SettlesAfter, Follows, Turns}
use Rattle.palm_search.specs.Search.{begun}
use Rattle.palm_search.specs.Kept.{HasOnlyUsers, IsSearching}
use Rattle.palm_search.proofs.cited.Deciding.{decides_has, undoes_has, settles_has, decides_declared, undoes_declared, settles_declared, justifier_stays, not_negation}

-- ---- filtering

run_justified : ReasonsAreRight → (s : EngineState) (steps : List Step) (t : EngineState) → All IsFiltering steps → Runs s steps t → IsValid s → AreJustified s → AreJustified t
run_justified right s [] t filtering run valid justified = subst AreJustified (sym run) justified
run_justified right s (step ∷ steps) t filtering run valid justified =
    run_justified right run.0 steps t (All-tail IsFiltering step steps filtering) run.2 (step_valid right s step run.0 run.1 valid)
    (step_justified s step run.0 run.1 valid (posts_none s step (All-head IsFiltering step steps filtering)) justified)
  where
    posts_none : (s : EngineState) (step : Step) → IsFiltering step → IsJustifiedPosting s step
    posts_none s (Happens (Post a)) filtering = absurd filtering
    posts_none s (Happens (Withdraw cid)) filtering = tt
    posts_none s (Happens (Remove a p)) filtering = tt
    posts_none s (Calm a) filtering = tt
    posts_none s (Declare values) filtering = tt

filters_keep : ReasonsAreRight → (s t : EngineState) → Filters s t → IsValid s → AreJustified s → IsValid t × AreJustified t
filters_keep right s t filters valid justified = (filters_valid right s t filters valid, run_justified right s filters.steps t filters.filtering filters.run valid justified)

pub settles_keep : ReasonsAreRight → (ordered : Bool) (s t : SearchState) → SettlesAfter ordered s t → IsSearching s → IsSearching t
settles_keep right ordered s t settles searching =
    let filters = settling_filters None s.engine settles.revisions t.engine settles.settles in
    let kept = filters_keep right s.engine t.engine filters searching.valid searching.justified in
    record {
      valid = kept.0;
      justified = kept.1;
      decisions = settles_has s t filters.active settles.decisions searching.decisions;
      declared = settles_declared s t filters.active filters.initial settles.decisions searching.declared;
    }

-- ---- deciding

decides_keep : (guided : Bool) (s : SearchState) (p : Pair) (pick : Pick) (t : SearchState) → Decides guided s p pick t → IsSearching s → IsSearching t
decides_keep guided s p pick t turn searching = record {
  valid = posts_valid s.engine t.engine (decision_of p) turn.posts searching.valid;
  justified = step_justified s.engine (Happens (Post (decision_of p))) t.engine turn.posts searching.valid (λ q e. absurd (not_negation p.var q e)) searching.justified;
  decisions = decides_has guided s p pick t turn searching.decisions;
  declared = decides_declared guided s p pick t turn searching.declared;
}

-- ---- undoing

pub satisfies_decision : (b : Assignment) (p : Pair) → b p.var ≡ p.value → Satisfies b (CompareConst p.var Eq p.value)
satisfies_decision b p e part m = subst (λ q. Holds q b) (member_single (CompareConstPart p.var Eq p.value) part m) e

pub satisfies_negation : (b : Assignment) (p : Pair) → (b p.var ≡ p.value → ⊥) → Satisfies b (CompareConst p.var Ne p.value)
satisfies_negation b p n part m = subst (λ q. Holds q b) (member_single (CompareConstPart p.var Ne p.value) part m) n

-- what satisfies the rest of the flat conflict and the decision satisfies all of it
rest_solves : (s : SearchState) (gone : Pair) (conflict : List Cid) (x : ℕ) (middle : EngineState) → IsSearching s → Contains s.decisions gone → IsFlatConflict s.engine x conflict
    → middle.initial ≡ s.engine.initial → middle.active ≡ without_cids (gone_with s.engine.active (Decide gone.var)) s.engine.active → (b : Assignment) → b gone.var ≡ gone.value
    → IsSolution middle.initial (Named middle.active (Contains (without_cid (Decide gone.var) conflict))) b → IsSolution s.engine.initial (Named s.engine.active (InFlatConflict s.engine x)) b
rest_solves s gone conflict x middle searching taken flat ei ea b at solution = record {
  within = subst (λ d. (y : ℕ) → y < length d → Has d y (b y)) ei solution.within;
  satisfies = λ c named.
      let a = named.owner in
      subst (λ d. Satisfies b d) named.is (elim (cid_known a.cid (Decide gone.var)) [
        | inl e ↦
            let same : decision_of gone ≡ a = single s.engine.active searching.valid.rising (decision_of gone) a (searching.decisions.active gone taken) named.posted (sym e) in
            subst (λ (d : Active). Satisfies b d.con) same (satisfies_decision b gone at)
        | inr ne ↦
            let justifier = (flat_justifiers s.engine searching.valid x a.cid named.named).0 in
            let stays = justifier_stays (length s.engine.initial) s.engine.active (Decide gone.var) searching.valid.formed a.cid justifier ne in
            solution.satisfies a.con (record {
              owner = a;
              posted = subst (λ l. Contains l a) (sym ea) (member_without_cids (gone_with s.engine.active (Decide gone.var)) s.engine.active a named.posted stays);
              is = refl;
              named = member_without_cid (Decide gone.var) conflict a.cid (flat.whole a.cid named.named) ne;
            })
      ]);
}

gone_justified : (s : SearchState) (gone : Pair) (conflict : List Cid) (t : SearchState) (turn : Undoes s gone conflict t) → IsSearching s
    → IsJustified turn.middle.initial turn.middle.active (negation_of gone (without_cid (Decide gone.var) conflict))
gone_justified s gone conflict t turn searching b solution = satisfies_negation b gone (λ at.
    flat_unsolved s.engine searching.valid searching.justified turn.flat.var turn.flat.empty b
    (rest_solves s gone conflict turn.flat.var turn.middle searching
    (subst (λ l. Contains l gone) (sym turn.latest.are) (Contains-append_right turn.latest.earlier (gone ∷ turn.latest.later) gone (member_here gone turn.latest.later)))
    turn.flat.is (ap (λ (z : EngineState). z.initial) turn.withdraws.after) (ap (λ (z : EngineState). z.active) turn.withdraws.after) b at solution))

undoes_keep : (s : SearchState) (gone : Pair) (conflict : List Cid) (t : SearchState) → Undoes s gone conflict t → IsSearching s → IsSearching t
undoes_keep s gone conflict t turn searching =
    let valid = withdraws_valid s.engine turn.middle (Decide gone.var) turn.withdraws searching.valid in
    let justified = step_justified s.engine (Happens (Withdraw (Decide gone.var))) turn.middle turn.withdraws searching.valid tt searching.justified in
    record {
      valid = posts_valid turn.middle t.engine (negation_of gone (without_cid (Decide gone.var) conflict)) turn.posts valid;
      justified = step_justified turn.middle (Happens (Post (negation_of gone (without_cid (Decide gone.var) conflict)))) t.engine turn.posts valid (λ p e. gone_justified s gone conflict t turn searching) justified;
      decisions = undoes_has s gone conflict t turn searching.valid searching.decisions;
      declared = undoes_declared s gone conflict t turn searching.declared;
    }

-- ---- turns

pub takes_keep : (guided : Bool) (s : SearchState) (turn : Turn) (t : SearchState) → Takes guided s turn t → IsSearching s → IsSearching t
takes_keep guided s (TurnDecide pair pick) t takes searching = decides_keep guided s pair pick t takes searching
takes_keep guided s (TurnUndo gone conflict) t takes searching = undoes_keep s gone conflict t takes searching

pub follows_keep : ReasonsAreRight → (guided ordered : Bool) (s : SearchState) (turn : Turn) (t : SearchState) → Follows guided ordered s turn t → IsSearching s → IsSearching t
follows_keep right guided ordered s turn t follows searching =
    settles_keep right ordered follows.middle t follows.settles (takes_keep guided s turn follows.middle follows.takes searching)

pub turns_keep : ReasonsAreRight → (guided ordered : Bool) (s : SearchState) (turns : List Turn) (t : SearchState) → Turns guided ordered s turns t → IsSearching s → IsSearching t
turns_keep right guided ordered s [] t run searching = subst IsSearching (sym run) searching
turns_keep right guided ordered s (turn ∷ turns) t run searching = turns_keep right guided ordered run.0 turns t run.2 (follows_keep right guided ordered s turn run.0 run.1 searching)

pub user_not : (c : Cid) (p : Pair) → is_user c ≡ true → c ≡ Not p → ⊥
user_not c p t e = false≢true (subst (λ d. is_user d ≡ true) e t)

pub user_not_decision : (c : Cid) (x : ℕ) → is_user c ≡ true → c ≡ Decide x → ⊥
user_not_decision c x t e = false≢true (subst (λ d. is_user d ≡ true) e t)

-- a valid state without decisions and negations begins a search
pub begins : (s : EngineState) → IsValid s → HasOnlyUsers s → IsSearching (begun s)
begins s valid users = record {
  valid = valid;
  justified = λ a p m e. absurd (user_not a.cid p (users a m) e);
  decisions = record {
    active = λ p m. absurd (member_nil p m);
    taken = λ a x m e. absurd (user_not_decision a.cid x (users a m) e);
    distinct = tt;
  };
  declared = record {
    decided = λ p m. absurd (member_nil p m);
    negated = λ a p m e. absurd (user_not a.cid p (users a m) e);
  };
}
