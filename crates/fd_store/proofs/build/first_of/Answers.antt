use Rattle.std.proofs.Common.{get_or, sym, subst}
use Rattle.std.specs.Prelude.{pos}
use Rattle.std.proofs.lemmas.Int.{to_z-of_z}
use mir.Val.{SFits}
use mir.Syntax.{w64}
use Rattle.fd_store.proofs.ListSpan.{first_is, least_fits}
use Rattle.fd_store.proofs.build.first_of.Goals as goal

pub returns : goal.returns
returns c =
    let ns = c.args.numbers.now in
    let fits : SFits w64 (get_or c.args.numbers.now 0 (pos 0)) = subst (SFits w64) (sym (first_is ns c.requires)) (least_fits ns c.requires) in
    simp to_z-of_z (first_is ns c.requires)
