use Rattle.std.proofs.Common.{◌≡◌, [], ◌∷◌, ◌++◌, get_or, ap, ◌∙◌}
use Rattle.std.specs.Prelude.{remove}
use Rattle.palm_search.specs.declared.turn.Turn.TheVariants.{Undo}
use Rattle.palm_search.specs.Calls.{SearchView, search_state}
use Rattle.palm_search.proofs.Calling.{back_has, removed_stood, stood_active}
use Rattle.palm_search.proofs.search.Search.undo.Goals as goal

pub withdraw-requires : goal.withdraw-requires
withdraw-requires g c =
    let gone = c.remove-gone.result in
    let decisions : c.self.inside.decisions.items ≡ c.args.self.now.decisions = ap (λ (v : SearchView). v.decisions) c.self.view_is in
    let stood = removed_stood c.args.self.now.decisions c.args.index c.requires.held.pair gone c.requires.held.stands (c.remove-gone.ensures.value ∙ ap (λ l. get_or l c.args.index gone) decisions) in
    stood_active (search_state c.args.engine.now.state c.args.self.now) c.args.index gone c.requires.decisions stood

pub returns-clause-ok : goal.returns-clause-ok
returns-clause-ok g c =
    let gone = c.remove-gone.result in
    let decisions : c.self.inside.decisions.items ≡ c.args.self.now.decisions = ap (λ (v : SearchView). v.decisions) c.self.view_is in
    record {
      gone = gone;
      stood = removed_stood c.args.self.now.decisions c.args.index c.requires.held.pair gone c.requires.held.stands (c.remove-gone.ensures.value ∙ ap (λ l. get_or l c.args.index gone) decisions);
      withdraws = c.withdraw.ensures.withdraws;
      decisions = c.remove-gone.ensures.items ∙ ap (λ l. remove l c.args.index) decisions;
      journal = c.append.ensures ∙ (λ i. (c.in_ok-reserve.ensures.items ∙ ap (λ (v : SearchView). v.journal) c.self.view_is) i ++ Undo gone (c.in_ok-conflict.ensures i) ∷ []);
    }

pub returns-clause-decisions : goal.returns-clause-decisions
returns-clause-decisions g c =
    back_has c.args.conflict.now c.args.index c.args.engine.now.state c.withdraw.new.self.state c.args.self.now
    (record { decisions = c.remove-gone.new.self.items; journal = c.append.new.items.items }) c.store-store.ensures.valid c.requires.decisions (returns-clause-ok g c)
