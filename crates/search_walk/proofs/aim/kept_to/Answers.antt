use Rattle.std.proofs.Common.{◌≡◌, rules, w64, pos, negsuc, false}
use Rattle.std.specs.Prelude.{int_lt}
use Rattle.std.specs.Int.{int_max, int_min}
use Rattle.std.proofs.lemmas.Int.{to_z-of_z}
use mir.Val.{SFits}
use Rattle.search_walk.proofs.Ruling.{kept_is}
use Rattle.search_walk.proofs.aim.kept_to.Goals as goal

pub returns : goal.returns
returns c =
    let lo : SFits w64 c.args.lo = search rules in
    let hi : SFits w64 c.args.hi = search rules in
    let low : SFits w64 c.max.result = search rules in
    let high : SFits w64 c.min.result = search rules in
    let low_is : c.max.result ≡ int_max c.args.lo (negsuc 999999999) = simp to_z-of_z at c.max.ensures.value in
    let high_is : c.min.result ≡ int_min c.args.hi (pos 1000000000) = simp to_z-of_z at c.min.ensures.value in
    let above : int_lt (pos 1000000000) c.args.lo ≡ false = simp to_z-of_z at c.if-lo-gt-LARGEST.false in
    let below : int_lt c.args.hi (negsuc 999999999) ≡ false = simp to_z-of_z at c.if-hi.false in
    simp to_z-of_z (kept_is c.args.aim c.args.lo c.args.hi c.max.result c.min.result low_is high_is above below)
