use Rattle.palm_search.proofs.cited.Closing.{goes_then, gone_all, users_left}
use Rattle.palm_search.specs.Search.{of_search}
use Rattle.palm_search.proofs.cited.Leaving.{users_none}
use Rattle.palm_search.proofs.search.Search.close.Goals as goal

pub returns-clause-withdraws : goal.returns-clause-withdraws
returns-clause-withdraws g c =
    let before = c.args.engine.now.state in
    let middle = c.withdraw_decisions.new.engine.state in
    let after = c.withdraw_negations.new.engine.state in
    let decisions = c.withdraw_decisions.ensures in
    let negations = c.withdraw_negations.ensures in
    gone_all of_search before after (goes_then of_search before middle after decisions.before decisions.gone negations.gone) (users_none after (users_left middle after negations.gone decisions.none negations.none))
