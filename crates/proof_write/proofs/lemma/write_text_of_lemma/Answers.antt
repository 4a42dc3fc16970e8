use Rattle.std.proofs.Common.{◌<◌, ◌++◌, ◌∙◌, ℕ, List, All, length, flat_map, refl, sym, ap, subst, append_assoc}
use Rattle.palm_base.specs.declared.terms.Pair.{Pair}
use Rattle.palm_cert.proofs.cited.Logged.{log_of_book}
use Rattle.palm_explain.specs.Needed.{AreNeeded, pairs_with}
use Rattle.palm_lang.proofs.cited.Wrote.{wrote_front, wrote_nothing, wrote_text, wrote_then, wrote_within}
use Rattle.palm_search.specs.Calls.{search_state}
use Rattle.proof_run.specs.Lemma.{held_decisions, lemma_line, step_line, wipe_line, wiped_by}
use Rattle.proof_write.specs.Fitting.{IsNamed}
use Rattle.proof_write.proofs.Fitting.{decisions_declared, emptied_declared, emptied_values}
use Rattle.proof_write.proofs.Lemmas.{lemma_made}
use Rattle.proof_write.proofs.lemma.write_text_of_lemma.Goals as goal

pub initial-requires : goal.initial-requires
initial-requires g c = emptied_declared c.args.book.now (search_state c.args.engine.now.state c.args.search.now) c.requires.fits c.in-Some.var c.in-Some.ensures.empty

pub write_wipe-requires : goal.write_wipe-requires
write_wipe-requires g c = emptied_declared c.args.book.now (search_state c.args.engine.now.state c.args.search.now) c.requires.fits c.in-Some.var c.in-Some.ensures.empty

pub write_front-requires : goal.write_front-requires
write_front-requires g c =
    subst (λ (ds : List Pair). All (λ p. p.var < length c.args.book.now.variables) ds) (sym c.decisions.ensures)
    (decisions_declared c.args.book.now (search_state c.args.engine.now.state c.args.search.now) c.requires.fits)

pub write_steps-requires-clause-steps : goal.write_steps-requires-clause-steps
write_steps-requires-clause-steps g c =
    record { pairs = pairs_with c.in-Some.var c.as_slice.result.now; linked = c.removals.ensures.linked; needed = subst (λ (places : List ℕ). AreNeeded c.log-log.result.now.log (pairs_with c.in-Some.var c.as_slice.result.now) places) (sym c.deref.ensures.value) c.in_ok-needed.ensures.ok }

pub write_steps-requires-clause-logged : goal.write_steps-requires-clause-logged
write_steps-requires-clause-logged g c =
    rw c.log-log.ensures (log_of_book c.args.engine.now.state c.args.book.now c.store.ensures.valid c.requires.fits.initial (IsNamed c.args.book.now) c.requires.fits.users)

pub returns-in_err-write_front-clause-lemma : goal.returns-in_err-write_front-clause-lemma
returns-in_err-write_front-clause-lemma g c undone x are empty =
    let book = c.args.book.now in
    let s = c.args.engine.now.state in
    let held = c.args.held.now in
    let second = flat_map (step_line book undone (wiped_by s x)) (wiped_by s x) in
    let third = wipe_line book.variables x in
    let same = ap (λ (ds : List Pair). lemma_line book.variables (held_decisions ds held)) c.decisions.ensures in
    wrote_front {T = Unit {0}} third c.from_residual.ensures.1 (wrote_front second refl (wrote_text same c.in_err-write_front.ensures))

pub returns-in_err-needed-clause-lemma : goal.returns-in_err-needed-clause-lemma
returns-in_err-needed-clause-lemma g c undone x are empty =
    let book = c.args.book.now in
    let s = c.args.engine.now.state in
    let held = c.args.held.now in
    let first = lemma_line book.variables (held_decisions c.args.search.now.decisions held) in
    let second = flat_map (step_line book undone (wiped_by s x)) (wiped_by s x) in
    let third = wipe_line book.variables x in
    let same = ap (λ (ds : List Pair). lemma_line book.variables (held_decisions ds held)) c.decisions.ensures in
    wrote_text (sym (append_assoc first second third))
    (wrote_then (wrote_text same c.in_ok-write_front.ensures) (wrote_nothing _ _ (second ++ third) refl c.from_residual-in_err-needed.ensures.1))

pub returns-in_err-write_steps-clause-lemma : goal.returns-in_err-write_steps-clause-lemma
returns-in_err-write_steps-clause-lemma g c undone x are empty =
    let book = c.args.book.now in
    let s = c.args.engine.now.state in
    let held = c.args.held.now in
    let y = c.in-Some.var in
    let values = c.as_slice.ensures ∙ c.initial.ensures ∙ emptied_values book (search_state s c.args.search.now) c.requires.fits y in
    let text = lemma_made book undone (held_decisions c.args.search.now.decisions held) (held_decisions c.decisions.result.now held) s c.log-log.result.now.log c.deref.result.now c.as_slice.result.now x y
    (ap (λ (ds : List Pair). held_decisions ds held) c.decisions.ensures) c.log-log.ensures values c.removals.ensures.linked (subst (λ (places : List ℕ). AreNeeded c.log-log.result.now.log (pairs_with c.in-Some.var c.as_slice.result.now) places) (sym c.deref.ensures.value) c.in_ok-needed.ensures.ok) (sym (c.in-Some.ensures.only x empty)) in
    wrote_text text (wrote_within (wipe_line book.variables y) c.from_residual-in_err-write_steps.ensures.1 c.in_ok-write_front.ensures (c.in_err-write_steps.ensures undone are))

pub returns-clause-lemma : goal.returns-clause-lemma
returns-clause-lemma g c undone x are empty =
    let book = c.args.book.now in
    let s = c.args.engine.now.state in
    let held = c.args.held.now in
    let y = c.in-Some.var in
    let values = c.as_slice.ensures ∙ c.initial.ensures ∙ emptied_values book (search_state s c.args.search.now) c.requires.fits y in
    let text = lemma_made book undone (held_decisions c.args.search.now.decisions held) (held_decisions c.decisions.result.now held) s c.log-log.result.now.log c.deref.result.now c.as_slice.result.now x y
    (ap (λ (ds : List Pair). held_decisions ds held) c.decisions.ensures) c.log-log.ensures values c.removals.ensures.linked (subst (λ (places : List ℕ). AreNeeded c.log-log.result.now.log (pairs_with c.in-Some.var c.as_slice.result.now) places) (sym c.deref.ensures.value) c.in_ok-needed.ensures.ok) (sym (c.in-Some.ensures.only x empty)) in
    wrote_text text (wrote_then (wrote_then c.in_ok-write_front.ensures (c.in_ok-write_steps.ensures undone are)) c.write_wipe.ensures)
