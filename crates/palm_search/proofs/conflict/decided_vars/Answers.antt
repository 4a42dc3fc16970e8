use Rattle.std.proofs.Common.{[], ◌∷◌, ◌++◌, sym, ap, ◌∙◌}
use Rattle.std.proofs.lemmas.List.{append-nil}
use Rattle.palm_search.specs.Turns.{decided_vars}
use Rattle.palm_search.proofs.FlatConflict.{decided_more, no_variable}
use Rattle.palm_search.proofs.conflict.decided_vars.Goals as goal
use Rattle.palm_search.proofs.conflict.decided_vars.Goals.{in-Decide+in_ok-push, in_default}

pub loop-cid-preserved : goal.loop-cid-preserved
loop-cid-preserved c =
    let cids = c.args.cids.now in
    let vars = c.loop-cid.vars in
    let cid = c.cid-item.result in
    elim c.match-cid.branch [
      | in-Decide+in_ok-push w ↦ decided_more cids c.loop-cid.cid-index cid vars c.match-cid.vars c.loop-cid-test.true c.cid-item.is c.loop-cid.invariant
          (w.vars-is ∙ w.in_ok-push.ensures.ok ∙ ap (λ n. vars ++ decided_vars (n ∷ [])) (sym w.in-Decide.is))
      | in_default w ↦ decided_more cids c.loop-cid.cid-index cid vars c.match-cid.vars c.loop-cid-test.true c.cid-item.is c.loop-cid.invariant
          (w.vars-is ∙ sym (append-nil vars) ∙ ap (λ l. vars ++ l) (sym (no_variable cid w.in_default.not-Decide)))
    ]
