-- Where a reason is wanted of any constraint, the stated list is one.
use Rattle.std.proofs.Common.{ℕ, ℤ, refl}
use Rattle.palm_model.specs.Domains.{Domains}
use Rattle.palm_model.specs.Reason.{IsReason, WantsReason, reason}
use Rattle.palm_model.specs.declared.constraint.Con.{Con}
use Rattle.palm_model.specs.declared.constraint.Con.TheVariants.{CompareVar, CompareConst, Linear, Table, Element, Count, Differ, Within}
use Rattle.palm_model.specs.declared.part.Part.TheVariants.{CompareConst as CompareConstPart, Within as WithinPart}
use Rattle.palm_reason.proofs.ComparisonReason.{comparison_right}
use Rattle.palm_reason.proofs.OneVariable.{own_right}
use Rattle.palm_reason.proofs.cited.CountReason.{count_right}
use Rattle.palm_reason.proofs.cited.DifferReason.{differ_right}
use Rattle.palm_reason.proofs.cited.ElementReason.{element_right}
use Rattle.palm_reason.proofs.cited.LinearReason.{linear_right}
use Rattle.palm_reason.proofs.TableReason.{table_right}

pub reason_right : (initial present : Domains) (c : Con) (x : ℕ) (v : ℤ) → WantsReason initial present c x v → IsReason initial present c x v (reason initial present c x v)
reason_right initial present (CompareVar left op right offset) x v w = comparison_right initial present left op right offset v x w.formed.distinct w.present_value w.lacks
reason_right initial present (CompareConst left op value) x v w = own_right initial present (CompareConst left op value) (CompareConstPart left op value) left x v refl refl w.present_value w.lacks
reason_right initial present (Linear terms op bound) x v w = linear_right initial present terms op bound x v w.formed.distinct w.filled w.present_value w.lacks
reason_right initial present (Table vars rows) x v w = table_right initial present vars rows x v w.present_value w.lacks
reason_right initial present (Element outcome index entries) x v w = element_right initial present outcome index entries v x w.formed.distinct w.present_value w.lacks
reason_right initial present (Count value vars op target) x v w = count_right initial present value vars op target x v w.present_ascend w.formed.distinct w.filled w.present_value w.lacks
reason_right initial present (Differ vars) x v w = differ_right initial present vars x v w.formed.distinct w.present_ascend w.filled w.present_value w.lacks
reason_right initial present (Within var values) x v w = own_right initial present (Within var values) (WithinPart var values) var x v refl refl w.present_value w.lacks
