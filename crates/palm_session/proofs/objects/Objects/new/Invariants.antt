use Rattle.std.proofs.Common.{◌≡◌, ◌++◌, ◌∷◌, None, Some, map}
use Rattle.palm_session.proofs.objects.Objects.new.Given as goal

-- those that are in their places, and those that are still to come
abbrev pub invariant-loop-object : goal.invariant-loop-object
invariant-loop-object g l = l.places.items ++ map Some l.object-iterator.rest.items ≡ None ∷ map Some l.fn.objects.items
