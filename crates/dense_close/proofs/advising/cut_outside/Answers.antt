use Rattle.qc_model.specs.Domains.{declared_box}
use Rattle.dense_closing.proofs.Within.{sub_self}
use Rattle.dense_close.proofs.Barred.{sure_after}
use Rattle.dense_close.proofs.advising.cut_outside.Goals as goal

pub cut_above-high-requires-clause-told : goal.cut_above-high-requires-clause-told
cut_above-high-requires-clause-told c =
    let g = c.args.problem.now in
    let box = c.args.remains.now.box in
    let cut = c.cut_below-low.ensures.cut in
    sure_after c.args.kept g c.args.c.0 c.args.x.0 box c.cut_below-low.new.remains.box cut.count cut.others (cut.fewer box (sub_self box (declared_box g) c.requires.declared)) c.requires.told
