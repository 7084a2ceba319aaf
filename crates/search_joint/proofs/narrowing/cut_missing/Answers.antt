use Rattle.std.proofs.Common.{◌≡◌, rules}
use Rattle.std.proofs.lemmas.Int.{to_z-of_z}
use mir.Val.{SFits}
use mir.Syntax.{w64}
use Rattle.qc_model.specs.Domains.{box_without}
use Rattle.search_joint.proofs.Narrower.{one_gone}
use Rattle.search_joint.proofs.narrowing.cut_missing.Goals as goal

pub returns-clause-missing : goal.returns-clause-missing
returns-clause-missing c = λ h.
    let v_fits : SFits w64 c.args.v = search rules in
    let content : c.cut.new.store.box ≡ box_without c.args.store.now.box c.args.x.0 c.args.v c.args.v = simp to_z-of_z at c.in_ok-cut.ensures.content in
    absurd (one_gone c.args.store.now.box c.cut.new.store.box c.args.x.0 c.args.v c.requires.var content h)
