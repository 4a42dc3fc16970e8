-- The parts of a constraint, and when an assignment satisfies them. The words of each kind stand in the file of its name.
use Rattle.std.specs.Prelude.{ℕ, List, [], ◌∷◌, Contains}
use Rattle.palm_model.specs.Domains.{Assignment}
use Rattle.palm_model.specs.Comparison.{HoldsCompareConst, HoldsCompareVar, comparison_scope}
use Rattle.palm_model.specs.Linear.{HoldsLinear, linear_parts, term_vars}
use Rattle.palm_model.specs.Table.{HoldsTable}
use Rattle.palm_model.specs.Element.{HoldsElement, element_scope}
use Rattle.palm_model.specs.Count.{HoldsCount, count_scope}
use Rattle.palm_model.specs.Differ.{HoldsDiffer, differ_parts}
use Rattle.palm_model.specs.Within.{HoldsWithin}
use Rattle.palm_model.specs.declared.constraint.Con.{Con}
use Rattle.palm_model.specs.declared.constraint.Con.TheVariants.{CompareVar, CompareConst, Linear, Table, Element, Count, Differ, Within}
use Rattle.palm_model.specs.declared.part.Part.{Part}
use Rattle.palm_model.specs.declared.part.Part.TheVariants.{CompareVar as CompareVarPart, CompareConst as CompareConstPart, Linear as LinearPart, Table as TablePart, Element as ElementPart, Count as CountPart, Differ as DifferPart, Within as WithinPart}

-- the variables of a part
abbrev pub scope_of : Part → List ℕ
scope_of (CompareVarPart left op right offset) = comparison_scope left right
scope_of (CompareConstPart var op value) = var ∷ []
scope_of (LinearPart terms op bound) = term_vars terms
scope_of (TablePart vars rows) = vars
scope_of (ElementPart outcome index entries) = element_scope outcome index
scope_of (CountPart value vars op target) = count_scope vars target
scope_of (DifferPart first second) = first ∷ second ∷ []
scope_of (WithinPart var values) = var ∷ []

-- the assignment satisfies the part
abbrev pub Holds : Part → Assignment → Type 0
Holds (CompareVarPart left op right offset) a = HoldsCompareVar left op right offset a
Holds (CompareConstPart var op value) a = HoldsCompareConst var op value a
Holds (LinearPart terms op bound) a = HoldsLinear terms op bound a
Holds (TablePart vars rows) a = HoldsTable vars rows a
Holds (ElementPart outcome index entries) a = HoldsElement outcome index entries a
Holds (CountPart value vars op target) a = HoldsCount value vars op target a
Holds (DifferPart first second) a = HoldsDiffer first second a
Holds (WithinPart var values) a = HoldsWithin var values a

-- the parts of a constraint
abbrev pub parts : Con → List Part
parts (CompareVar left op right offset) = CompareVarPart left op right offset ∷ []
parts (CompareConst left op value) = CompareConstPart left op value ∷ []
parts (Linear terms op bound) = linear_parts terms op bound
parts (Table vars rows) = TablePart vars rows ∷ []
parts (Element outcome index entries) = ElementPart outcome index entries ∷ []
parts (Count value vars op target) = CountPart value vars op target ∷ []
parts (Differ vars) = differ_parts vars
parts (Within var values) = WithinPart var values ∷ []

-- the assignment satisfies every part of the constraint
abbrev pub Satisfies : Assignment → Con → Type 0
Satisfies a c = (p : Part) → Contains (parts c) p → Holds p a
