-- What advice promises is kept by smaller boxes.
use Rattle.std.proofs.Common.{◌≡◌, ℕ, true, false}
use Rattle.std.specs.Prelude.{slice_get, Some}
use Rattle.qc_model.specs.Content.{Game, Rule}
use Rattle.qc_model.specs.Domains.{Box, has_empty, is_sub_box}
use Rattle.qc_model.specs.Valid.{IsValid}
use Rattle.model_arguments.specs.Asked.{is_box_of}
use Rattle.dense_quiet.specs.declared.seeing.Advice.{Advice}
use Rattle.dense_quiet.specs.declared.seeing.Advice.TheVariants.{Room, Filled, Ends}
use Rattle.dense_quiet.specs.Advice.{AdviceTells}
use Rattle.dense_quiet.proofs.PastRoom.{tells_smaller}

pub advice_smaller : (g : Game) → IsValid g → (k : ℕ) (c : Rule) (a : Advice) (small box : Box) → slice_get g.constraints k ≡ Some c → is_box_of g small ≡ true → is_sub_box small box ≡ true → has_empty small ≡ false → AdviceTells a c box → AdviceTells a c small
advice_smaller g v k c (Room r) small box e d s f h = (h.0, tells_smaller g v k c r small box e d s f h.1)
advice_smaller g v k c (Filled s) small box e d b f h = h
advice_smaller g v k c Ends small box e d s f h = h
