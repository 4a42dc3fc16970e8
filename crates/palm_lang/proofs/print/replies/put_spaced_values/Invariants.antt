use Rattle.std.proofs.Common.{◌≡◌, ◌++◌, codes, flat_map, take}
use Rattle.std.specs.Fmt.{signed_decimal}
use Rattle.palm_lang.proofs.print.replies.put_spaced_values.Given as goal

abbrev pub invariant-loop-value : goal.invariant-loop-value
invariant-loop-value l = l.out.items ≡ l.fn.out.items ++ flat_map (λ v. codes " " ++ signed_decimal v) (take l.value-index l.values)
