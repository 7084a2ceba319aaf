-- The constraints that are filtered by what each variable may keep.
use Rattle.std.specs.Prelude.{◌≡◌}
use Rattle.qc_model.specs.declared.problem.Pred.TheVariants.{SetIn, SetInReif, ArrayIntMinimum, ArrayIntMaximum}
use Rattle.qc_model.specs.Content.{Rule}
use Rattle.prop_element.specs.Choices.{IsChoiceRule}
use Rattle.prop_element.specs.Elements.{IsElementRule}
use Rattle.prop_element.specs.Tables.{IsTableRule}
use Rattle.prop_element.specs.declared.forms.Form.{Form}
use Rattle.prop_element.specs.declared.forms.Form.TheVariants.{Member, ToldMember, Least, Greatest, Element, Row, Choice}

abbrev pub IsOfForm : Form → Rule → Type 0
IsOfForm Member c = c.pred ≡ SetIn
IsOfForm ToldMember c = c.pred ≡ SetInReif
IsOfForm Least c = c.pred ≡ ArrayIntMinimum
IsOfForm Greatest c = c.pred ≡ ArrayIntMaximum
IsOfForm Element c = IsElementRule c
IsOfForm Row c = IsTableRule c
IsOfForm Choice c = IsChoiceRule c
