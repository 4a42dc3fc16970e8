use Rattle.std.proofs.Common.{◌*◌, ◌^◌, ◌%◌, inl, inr, arith}
use Rattle.std.proofs.lemmas.Nat.{one_shl}
use Rattle.palm_explain.proofs.PlaceSets.{one_in, one_only}
use Rattle.palm_explain.proofs.Stores.{on_ok}
use Rattle.palm_explain.proofs.places.Places.add.Goals as goal

pub returns-clause-there : goal.returns-clause-there
returns-clause-there c =
    on_ok c.add_word.result _ _ (λ there. there c.args.place (one_in c.args.place (1 * 2 ^ (c.args.place % 64) % 2 ^ 64) (one_shl (c.args.place % 64) 64 (omega arith)))) c.add_word.ensures.there

pub returns-clause-only : goal.returns-clause-only
returns-clause-only c p h = elim (c.add_word.ensures.only p h) [
  | inl old ↦ inl old
  | inr is ↦ inr (one_only c.args.place (1 * 2 ^ (c.args.place % 64) % 2 ^ 64) (one_shl (c.args.place % 64) 64 (omega arith)) p is)
]
