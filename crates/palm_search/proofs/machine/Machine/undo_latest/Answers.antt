use Rattle.std.proofs.Common.{◌≡◌, ◌<◌, arith, length, get_or, inl, inr, refl, sym, ap, ◌∙◌, subst}
use Rattle.std.proofs.lemmas.Option.{slice_get_within}
use Rattle.std.proofs.lemmas.Result.{on_err_weaker, on_ok_weaker}
use Rattle.palm_base.specs.declared.terms.Cid.TheVariants.{Decide, Not}
use Rattle.palm_base.specs.declared.terms.Pair.{Pair}
use Rattle.palm_engine.specs.Engine.{View}
use Rattle.palm_engine.proofs.cited.Results.{on_either}
use Rattle.palm_model.specs.Domains.{Has}
use Rattle.palm_model.specs.Event.{Posts, posted}
use Rattle.palm_model.specs.Log.{IsActive}
use Rattle.palm_model.specs.State.{AreJustifiers, without_cid, negation_of}
use Rattle.palm_search.specs.Calls.{search_state}
use Rattle.palm_search.specs.Kept.{HasDecisions}
use Rattle.palm_search.specs.Turning.{Hears}
use Rattle.palm_search.specs.Turning.IsCutUndoing.{cut_within}
use Rattle.palm_search.specs.Turns.{decided_vars}
use Rattle.palm_search.proofs.cited.Results.{on_err}
use Rattle.palm_search.proofs.Undone.{latest_at, latest_found, negated_has, removed_is, undone_declared, undone_justifiers, undone_inactive, undone_posts, undone_turn}
use Rattle.palm_search.proofs.machine.Machine.undo_latest.Goals as goal

-- ---- the latest decision

pub unwrap-place-requires : goal.unwrap-place-requires
unwrap-place-requires g c =
    let searching = c.requires.between.searching in
    latest_found (search_state c.args.self.now.engine.now.state c.args.self.now.search.now) c.args.conflict.now c.requires.held.0 c.latest.result c.decisions.result.now c.as_slice.result.now searching.valid searching.decisions c.requires.flat c.requires.held.1
    c.decisions.ensures c.as_slice.ensures c.latest.ensures

pub bounds-decisions-place : goal.bounds-decisions-place
bounds-decisions-place g c =
    let held = (latest_at c.latest.result c.unwrap-place.result _ _ _ _ c.decisions.ensures c.as_slice.ensures c.unwrap-place.ensures c.latest.ensures).holds in
    subst (λ l. c.unwrap-place.result < length l) (sym c.decisions-2.ensures) (slice_get_within c.args.self.now.search.now.decisions c.unwrap-place.result held.pair held.stands)

pub offset_bounds-decisions-place : goal.offset_bounds-decisions-place
offset_bounds-decisions-place g c =
    let held = (latest_at c.latest.result c.unwrap-place.result _ _ _ _ c.decisions.ensures c.as_slice.ensures c.unwrap-place.ensures c.latest.ensures).holds in
    let within : c.unwrap-place.result < length c.decisions-2.result.now = subst (λ l. c.unwrap-place.result < length l) (sym c.decisions-2.ensures) (slice_get_within c.args.self.now.search.now.decisions c.unwrap-place.result held.pair held.stands) in
    let small = c.decisions-2.type_inv.1 in
    omega (arith, within, small)

-- ---- it is undone

pub undo-requires-clause-decisions : goal.undo-requires-clause-decisions
undo-requires-clause-decisions g c = c.requires.between.searching.decisions

pub undo-requires-clause-flat : goal.undo-requires-clause-flat
undo-requires-clause-flat g c = c.requires.flat

pub undo-requires-clause-held : goal.undo-requires-clause-held
undo-requires-clause-held g c = (latest_at c.latest.result c.unwrap-place.result _ _ _ _ c.decisions.ensures c.as_slice.ensures c.unwrap-place.ensures c.latest.ensures).holds

-- ---- its pair is forbidden

pub forbid-requires-clause-inactive : goal.forbid-requires-clause-inactive
forbid-requires-clause-inactive g c =
    let before = c.args.self.now.search.now in
    let place = c.unwrap-place.result in
    let gone = c.index-decisions-place.result in
    let back = c.in_ok-undo.ensures.ok in
    let same = removed_is before.decisions place back.gone gone back.stood (c.index-decisions-place.is ∙ ap (λ l. get_or l place gone) c.decisions-2.ensures) in
    subst (λ (p : Pair). IsActive c.undo.new.engine.state.active (Not p) → ⊥) same
    (undone_inactive c.args.conflict.now place c.args.self.now.engine.now.state c.undo.new.engine.state before c.undo.new.self back c.requires.between.unnegated)

pub forbid-requires-clause-declared : goal.forbid-requires-clause-declared
forbid-requires-clause-declared g c =
    let before = c.args.self.now.search.now in
    let place = c.unwrap-place.result in
    let gone = c.index-decisions-place.result in
    let back = c.in_ok-undo.ensures.ok in
    let same = removed_is before.decisions place back.gone gone back.stood (c.index-decisions-place.is ∙ ap (λ l. get_or l place gone) c.decisions-2.ensures) in
    subst (λ (p : Pair). Has c.undo.new.engine.state.initial p.var p.value) same
    (undone_declared c.args.conflict.now place c.args.self.now.engine.now.state c.undo.new.engine.state before c.undo.new.self back c.requires.between.searching.declared)

pub forbid-requires-clause-justifiers : goal.forbid-requires-clause-justifiers
forbid-requires-clause-justifiers g c =
    let conflict = c.args.conflict.now in
    let before = c.args.self.now.search.now in
    let place = c.unwrap-place.result in
    let gone = c.index-decisions-place.result in
    let back = c.in_ok-undo.ensures.ok in
    let same = removed_is before.decisions place back.gone gone back.stood (c.index-decisions-place.is ∙ ap (λ l. get_or l place gone) c.decisions-2.ensures) in
    let rest : c.as_slice-4.result.now ≡ without_cid (Decide gone.var) conflict = c.as_slice-4.ensures ∙ c.in_ok-rest.ensures ∙ ap (without_cid (Decide gone.var)) c.as_slice-2.ensures in
    let active = c.undo.new.engine.state.active in
    subst (AreJustifiers active) (sym rest) (subst (λ (p : Pair). AreJustifiers active (without_cid (Decide p.var) conflict)) same
    (undone_justifiers conflict place c.args.self.now.engine.now.state c.undo.new.engine.state before c.undo.new.self back c.requires.between.searching.valid c.requires.flat))

-- ---- the turn

pub returns-clause-ok : goal.returns-clause-ok
returns-clause-ok g c =
    let conflict = c.args.conflict.now in
    let s = c.args.self.now.engine.now.state in
    let m = c.undo.new.engine.state in
    let t = c.forbid.new.self.state in
    let before = c.args.self.now.search.now in
    let after = c.undo.new.self in
    let place = c.unwrap-place.result in
    let gone = c.index-decisions-place.result in
    let back = c.in_ok-undo.ensures.ok in
    let same = removed_is before.decisions place back.gone gone back.stood (c.index-decisions-place.is ∙ ap (λ l. get_or l place gone) c.decisions-2.ensures) in
    let rest : c.as_slice-4.result.now ≡ without_cid (Decide gone.var) conflict = c.as_slice-4.ensures ∙ c.in_ok-rest.ensures ∙ ap (without_cid (Decide gone.var)) c.as_slice-2.ensures in
    let latest = latest_at c.latest.result place _ _ _ _ c.decisions.ensures c.as_slice.ensures c.unwrap-place.ensures c.latest.ensures in
    on_ok_weaker c.forbid.result (λ posts. (
      back.gone,
      record {
        takes = (undone_turn conflict place s m t before after back c.requires.flat latest
            (subst (λ (p : Pair). Posts m (negation_of p (without_cid (Decide p.var) conflict)) t) (sym same) (subst (λ l. Posts m (negation_of gone l) t) rest posts))).undoes;
        journal = back.journal;
      },
    )) c.forbid.ensures.ok

pub returns-clause-told : goal.returns-clause-told
returns-clause-told g c =
    on_ok_weaker c.forbid.result (λ posts. subst (λ l. Hears g.G.Guide.hears g.G.Guide.state (decided_vars l) c.args.self.now.guide.now c.tell_decided.new.guide) c.as_slice-3.ensures c.in_ok-tell_decided.ensures.ok) c.forbid.ensures.ok

pub returns-clause-err : goal.returns-clause-err
returns-clause-err g c =
    let conflict = c.args.conflict.now in
    let s = c.args.self.now.engine.now.state in
    let m = c.undo.new.engine.state in
    let before = c.args.self.now.search.now in
    let after = c.undo.new.self in
    let place = c.unwrap-place.result in
    let back = c.in_ok-undo.ensures.ok in
    let between = c.requires.between in
    let latest = latest_at c.latest.result place _ _ _ _ c.decisions.ensures c.as_slice.ensures c.unwrap-place.ensures c.latest.ensures in
    let negation = negation_of back.gone (without_cid (Decide back.gone.var) conflict) in
    let posts = undone_posts conflict place s m before after back between.searching.valid between.unnegated between.searching.declared c.requires.flat in
    let turn = undone_turn conflict place s m (posted m negation) before after back c.requires.flat latest posts in
    on_err_weaker c.forbid.result (λ e. cut_within back.gone (search_state (posted m negation) after) turn.undoes back.journal (ap (λ (v : View). v.state) e ∙ sym turn.middle)) c.forbid.ensures.err

-- ---- what the guide was told where memory ran out

pub returns-in_err-rest-clause-stopped : goal.returns-in_err-rest-clause-stopped
returns-in_err-rest-clause-stopped g c = on_err _ c.from_residual.result (inl (refl, refl))

pub returns-in_err-tell_decided-clause-stopped : goal.returns-in_err-tell_decided-clause-stopped
returns-in_err-tell_decided-clause-stopped g c = on_err _ c.from_residual-in_err-tell_decided.result (inl (c.in_err-tell_decided.ensures.err, refl))

pub returns-in_err-undo-clause-stopped : goal.returns-in_err-undo-clause-stopped
returns-in_err-undo-clause-stopped g c =
    on_err _ c.from_residual-in_err-undo.result
    (inr (subst (λ l. Hears g.G.Guide.hears g.G.Guide.state (decided_vars l) c.args.self.now.guide.now c.tell_decided.new.guide) c.as_slice-3.ensures c.in_ok-tell_decided.ensures.ok))

pub returns-clause-stopped : goal.returns-clause-stopped
returns-clause-stopped g c =
    on_err _ c.forbid.result (inr (subst (λ l. Hears g.G.Guide.hears g.G.Guide.state (decided_vars l) c.args.self.now.guide.now c.tell_decided.new.guide) c.as_slice-3.ensures c.in_ok-tell_decided.ensures.ok))

pub returns-clause-keeps : goal.returns-clause-keeps
returns-clause-keeps g c =
    let m = c.undo.new.engine.state in
    let t = c.forbid.new.self.state in
    let after = c.undo.new.self in
    let gone = c.index-decisions-place.result in
    let rest = c.as_slice-4.result.now in
    let has = c.in_ok-undo.ensures.decisions in
    let undone = c.undo.ensures.counts in
    let forbidden = c.forbid.ensures.counts in
    record {
      quiet = record {
        holds = record { engine = refl; search = refl; guide = refl; order = refl; steps = refl };
        order = refl;
        steps = refl;
        counts = record { revisions = forbidden.revisions ∙ undone.revisions; checks = forbidden.checks ∙ undone.checks };
        stays = c.tell_decided.ensures.stays;
      };
      decisions = on_either c.forbid.result (Posts m (negation_of gone rest) t) (c.forbid.new.self ≡ c.undo.new.engine) (HasDecisions (search_state t after)) c.forbid.ensures.ok c.forbid.ensures.err
          (λ posts. negated_has m t after gone rest posts has)
          (λ e. subst (λ (v : View). HasDecisions (search_state v.state after)) (sym e) has);
    }
