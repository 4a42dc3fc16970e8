use Rattle.palm_search.proofs.cited.Joining.{joined_searching, joined_measure}
use Rattle.palm_search.proofs.laws.bound.posting_users_keeps_searching.Goals as goal

pub returns : goal.returns
returns c = record {
  searching = λ s t a user posts same searching. joined_searching s a t user posts same searching;
  rises = λ s t a user posts same. joined_measure s a t posts same;
}
