-- The constraint of a filter of any kind.
use Rattle.palm_model.specs.declared.constraint.Con.{Con}
use Rattle.palm_kind.specs.declared.kind.Kind.{Kind}
use Rattle.palm_kind.specs.declared.kind.Kind.TheVariants.{Compare, Linear, Table, Element, Count, Differ, Within}

abbrev pub con_of : Kind → Con
con_of (Compare filter) = filter
con_of (Linear filter) = filter
con_of (Table filter) = filter
con_of (Element filter) = filter
con_of (Count filter) = filter
con_of (Differ filter) = filter
con_of (Within filter) = filter
