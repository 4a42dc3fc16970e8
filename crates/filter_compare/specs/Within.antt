-- The constraint that a variable has one of some values.
use Rattle.palm_model.specs.declared.constraint.Con.{Con}
use Rattle.palm_model.specs.declared.constraint.Con.TheVariants.{Within}
use Rattle.filter_compare.specs.declared.within.Membership.{Membership}

abbrev pub within_of : Membership → Con
within_of m = Within m.var m.values
