use Rattle.std.proofs.Common.{◌∙◌, sym, ap, subst}
use Rattle.palm_model.specs.Log.{log_pairs}
use Rattle.palm_explain.specs.Entries.{log_of}
use Rattle.palm_explain.specs.Explanations.{AreSpanned, Explanations}
use Rattle.palm_explain.specs.Rows.{number_at}
use Rattle.palm_explain.proofs.Reasons.{pair_entry}
use Rattle.palm_explain.proofs.Spanned.{entered_known, list_spanned}
use Rattle.palm_explain.proofs.store.ExplainStore.enter.Goals as goal

pub spans_of-requires-clause-removed : goal.spans_of-requires-clause-removed
spans_of-requires-clause-removed c p m =
    let rows = c.self.inside.rows.items in
    let e = pair_entry rows c.self.inside.log.items p ((rw (← c.self.view_is) at c.requires.earlier) p m) in
    (e.0.number, ap (λ rs. number_at rs p) c.deref.ensures.value ∙ ap (number_at rows) (sym e.2) ∙ c.self.invariant.entered.found e.0 e.1)

pub returns-clause-ok : goal.returns-clause-ok
returns-clause-ok c =
    c.enter_spans.ensures.ok c.args.reasons.now
    (subst (λ ss. AreSpanned (log_pairs c.args.self.now.log) ss c.args.reasons.now) (sym c.as_slice.ensures)
    (subst (λ (v : Explanations). AreSpanned (log_pairs v.log) c.in_ok-spans.spans.items c.args.reasons.now) c.self.view_is
    (list_spanned c.self.inside.rows.items c.self.inside.next (log_pairs (log_of c.self.inside.rows.items c.self.inside.log.items)) (entered_known c.self.inside.log.items c.self.inside.rows.items c.self.inside.next c.self.invariant.entered) c.in_ok-spans.spans.items c.args.reasons.now (rw (← c.self.view_is) at c.requires.earlier) (rw c.deref.ensures.value at c.in_ok-spans.ensures c.self.inside.next))))
