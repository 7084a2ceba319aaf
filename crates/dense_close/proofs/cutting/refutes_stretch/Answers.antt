use Rattle.std.proofs.Common.{◌≡◌, rules, false}
use Rattle.std.proofs.lemmas.Int.{to_z-of_z}
use mir.Val.{SFits}
use mir.Syntax.{w64}
use Rattle.qc_model.specs.Domains.{values_left, values_within, box_within, is_none_left}
use Rattle.qc_model.specs.Refuted.{refuted_by}
use Rattle.dense_close.proofs.Cuts.{asked}
use Rattle.dense_close.proofs.cutting.refutes_stretch.Goals as goal

pub refutes_in-requires-clause-asked : goal.refutes_in-requires-clause-asked
refutes_in-requires-clause-asked c = λ r e. asked c.args.problem.now c.known.ensures c.args.store.now.box c.requires.declared c.requires.full c.args.c.0 r e

pub refutes_in-requires-clause-left : goal.refutes_in-requires-clause-left
refutes_in-requires-clause-left c =
    let low : SFits w64 c.args.s.low = search rules in
    let high : SFits w64 c.args.s.high = search rules in
    let left : is_none_left (values_within c.args.s.low c.args.s.high (values_left c.args.store.now.box c.args.x.0)) ≡ false = c.requires.left in
    simp to_z-of_z left

pub returns : goal.returns
returns c = λ r e.
    let low : SFits w64 c.args.s.low = search rules in
    let high : SFits w64 c.args.s.high = search rules in
    let told : c.refutes_in.result ≡ refuted_by r (box_within c.args.store.now.box c.args.x.0 c.args.s.low c.args.s.high) = simp to_z-of_z at (c.refutes_in.ensures r e) in
    told
