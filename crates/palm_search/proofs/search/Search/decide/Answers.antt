use Rattle.std.proofs.Common.{[], ◌∷◌, ◌++◌, sym, ap, ◌∙◌, subst}
use Rattle.palm_domain.specs.Rows.{present_of}
use Rattle.palm_search.specs.Calls.{SearchView, search_state}
use Rattle.palm_search.specs.Turns.{IsDecided}
use Rattle.palm_search.proofs.Calling.{decided_free, decision_posted}
use Rattle.palm_search.proofs.search.Search.decide.Goals as goal

pub assume-requires-clause-free : goal.assume-requires-clause-free
assume-requires-clause-free g c =
    let d = present_of c.store-2.result.now in
    let decided = subst (λ p. IsDecided d c.in_ok-pick.pick p) (sym c.copy.ensures) c.decided_pair-pair.ensures in
    decided_free (search_state c.args.engine.now.state c.args.self.now) d c.in_ok-pick.pick c.copy.result c.store-2.ensures.valid c.requires.decisions c.requires.settled c.store-2.ensures.present decided

pub returns-clause-decisions : goal.returns-clause-decisions
returns-clause-decisions g c =
    let before = c.in_ok-reserve.ensures.items ∙ ap (λ (v : SearchView). v.decisions) c.self.view_is in
    let pair = c.copy-2.ensures ∙ sym c.copy.ensures in
    decision_posted c.args.engine.now.state c.assume.new.self.state c.args.self.now (record { decisions = c.append.new.items.items; journal = c.append-2.new.items.items }) c.copy.result
    c.requires.decisions c.in_ok-assume.ensures.ok (c.append.ensures ∙ (λ i. before i ++ pair i ∷ []))
