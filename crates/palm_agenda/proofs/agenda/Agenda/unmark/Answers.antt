use Rattle.std.proofs.Common.{◌∙◌, ap, subst, sym}
use Rattle.palm_agenda.specs.Agenda.{changed_at, connected_cids, unmarked}
use Rattle.palm_agenda.specs.Flags.{flagged}
use Rattle.palm_agenda.specs.Kept.{IsShown}
use Rattle.palm_agenda.proofs.cited.Keeping.{keeps_at, keeps_unmarked, kept_after, cids_kept}
use Rattle.palm_agenda.proofs.Alone.{heedful_kept}
use Rattle.palm_agenda.proofs.agenda.Agenda.unmark.Goals as goal

pub invariant_of-self : goal.invariant_of-self
invariant_of-self c = (
  rw c.unmark_taken.ensures
      (kept_after (changed_at c.args.taken.now.cid (unmarked c.args.place)) (keeps_at c.args.taken.now.cid (unmarked c.args.place) (keeps_unmarked c.args.place)) c.self.inside.connections c.self.inside.over.items c.self.inside.pending.flags _ c.self.invariant.0),
  subst (IsShown c.self.inside.is_shown c.self.inside.shown.items)
      (sym (ap (λ ds. flagged (connected_cids ds) c.self.inside.pending.flags) c.unmark_taken.ensures
      ∙ ap (λ cids. flagged cids c.self.inside.pending.flags) (cids_kept (changed_at c.args.taken.now.cid (unmarked c.args.place)) (keeps_at c.args.taken.now.cid (unmarked c.args.place) (keeps_unmarked c.args.place)) c.self.inside.connections)))
      c.self.invariant.1,
  tt,
  heedful_kept (changed_at c.args.taken.now.cid (unmarked c.args.place)) (keeps_at c.args.taken.now.cid (unmarked c.args.place) (keeps_unmarked c.args.place)) c.self.inside.heedful.items c.self.inside.connections _ c.unmark_taken.ensures c.self.invariant.3,
)

pub returns-clause-pending : goal.returns-clause-pending
returns-clause-pending c =
    rw (← c.self.view_is)
    (ap (λ ds. flagged (connected_cids ds) c.self.inside.pending.flags) c.unmark_taken.ensures
    ∙ ap (λ cids. flagged cids c.self.inside.pending.flags) (cids_kept (changed_at c.args.taken.now.cid (unmarked c.args.place)) (keeps_at c.args.taken.now.cid (unmarked c.args.place) (keeps_unmarked c.args.place)) c.self.inside.connections))
