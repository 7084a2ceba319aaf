use Rattle.std.proofs.Common.{◌≡◌, rules, get_or, refl}
use Rattle.std.specs.Prelude.{pos}
use Rattle.std.proofs.lemmas.Int.{to_z-of_z}
use mir.Val.{SFits}
use mir.Syntax.{w64}
use Rattle.qc_model.specs.Domains.{box_within}
use Rattle.dense_alike.proofs.LaidOut.{none_laid, one_laid}
use Rattle.dense_alike.proofs.laying.lay.Goals as goal

pub loop-k-init : goal.loop-k-init
loop-k-init c = none_laid c.args.problem.now c.args.remains.now c.args.values.now c.known.ensures.domains c.requires.declared

pub loop-k-preserved : goal.loop-k-preserved
loop-k-preserved c =
    let g = c.args.problem.now in
    let old = c.args.remains.now in
    let now = c.loop-k.remains in
    let new = c.keep.new.self in
    let vs = c.args.values.now in
    let k = c.loop-k.k in
    let v = get_or vs k (pos 0) in
    let v_fits : SFits w64 v = search rules in
    let content : new.box ≡ box_within now.box k v v = simp to_z-of_z at c.keep.ensures.content in
    one_laid g old now new vs k v c.requires.lie c.requires.within c.loop-k-test.true refl c.loop-k.invariant c.requires.declared content c.keep.ensures.past c.keep.ensures.fewer c.known.ensures.domains
