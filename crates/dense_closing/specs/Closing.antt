-- The greatest closed box within a box.
use Rattle.std.specs.Prelude.{List, IsTrue}
use Rattle.qc_model.specs.Content.{Rule}
use Rattle.qc_model.specs.Domains.{Box, is_sub_box}
use Rattle.dense_closing.specs.Takes.{Takes, is_closed_by}

-- small is within the box and closed for the constraints, and every closed box within the box is within it
pub record IsGreatestClosed (takes : Takes) (cs : List Rule) (box small : Box) : Type 0 where
  pub within : IsTrue (is_sub_box small box)
  pub closed : IsTrue (is_closed_by takes cs small)
  pub greatest : (b : Box) → IsTrue (is_sub_box b box) → IsTrue (is_closed_by takes cs b) → IsTrue (is_sub_box b small)
