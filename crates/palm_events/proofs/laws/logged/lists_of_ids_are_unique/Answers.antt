use Rattle.palm_base.proofs.cited.CidOrder.{rising_same}
use Rattle.palm_events.proofs.laws.logged.lists_of_ids_are_unique.Goals as goal

pub returns : goal.returns
returns c = λ xs ys rx ry same. rising_same xs ys rx ry (λ n m. (same n).0 m) (λ n m. (same n).1 m)
