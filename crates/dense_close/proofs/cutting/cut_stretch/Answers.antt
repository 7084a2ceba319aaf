use Rattle.std.proofs.Common.{rules, ◌≡◌, subst}
use Rattle.std.specs.Prelude.{◌≤ℤ◌}
use Rattle.std.proofs.lemmas.Int.{to_z-of_z}
use mir.Val.{SFits}
use mir.Syntax.{w64}
use Rattle.qc_model.specs.Domains.{box_without}
use Rattle.fd_store.specs.Held.{Held}
use Rattle.model_arguments.proofs.Kept.{reaches}
use Rattle.dense_close.specs.Cutting.{IsStretch, IsBarred, end_of}
use Rattle.dense_close.proofs.Cuts.{stretch_barred, cut_step, less_after}
use Rattle.dense_close.proofs.cutting.cut_stretch.Goals as goal

pub returns-clause-cut : goal.returns-clause-cut
returns-clause-cut c =
    let g = c.args.problem.now in
    let box = c.args.remains.now.box in
    let s = c.args.s in
    let value = c.end_of-value.result in
    let v_fits : SFits w64 value = search rules in
    let low_fits : SFits w64 s.low = search rules in
    let high_fits : SFits w64 s.high = search rules in
    let is : value ≡ end_of c.args.end box c.args.x.0 = subst (λ (h : Held). value ≡ end_of c.args.end h.box c.args.x.0) c.store.ensures c.end_of-value.ensures in
    let low : s.low ≤ℤ value = reaches value s.low (simp to_z-of_z at c.if-value-low.false) in
    let high : value ≤ℤ s.high = reaches s.high value (simp to_z-of_z at c.if-high-value.false) in
    let content : c.cut.new.self.box ≡ box_without box c.args.x.0 s.low s.high = simp to_z-of_z at c.cut.ensures.content in
    let barred : IsBarred g c.args.c.0 c.args.x.0 box s.low s.high = c.requires.barred in
    let stretch : IsStretch g c.args.c.0 c.args.x.0 box s.low s.high = stretch_barred c.args.end g c.args.c.0 box c.args.x.0 s.low s.high value c.requires.x c.requires.full is low high barred in
    cut_step g c.known.ensures c.args.c.0 c.args.x.0 box s.low s.high c.cut.new.self.box c.requires.declared c.requires.full stretch content

pub returns-clause-gone : goal.returns-clause-gone
returns-clause-gone c =
    let g = c.args.problem.now in
    let box = c.args.remains.now.box in
    let s = c.args.s in
    let value = c.end_of-value.result in
    let v_fits : SFits w64 value = search rules in
    let low_fits : SFits w64 s.low = search rules in
    let high_fits : SFits w64 s.high = search rules in
    let is : value ≡ end_of c.args.end box c.args.x.0 = subst (λ (h : Held). value ≡ end_of c.args.end h.box c.args.x.0) c.store.ensures c.end_of-value.ensures in
    let low : s.low ≤ℤ value = reaches value s.low (simp to_z-of_z at c.if-value-low.false) in
    let high : value ≤ℤ s.high = reaches s.high value (simp to_z-of_z at c.if-high-value.false) in
    let content : c.cut.new.self.box ≡ box_without box c.args.x.0 s.low s.high = simp to_z-of_z at c.cut.ensures.content in
    let barred : IsBarred g c.args.c.0 c.args.x.0 box s.low s.high = c.requires.barred in
    let stretch : IsStretch g c.args.c.0 c.args.x.0 box s.low s.high = stretch_barred c.args.end g c.args.c.0 box c.args.x.0 s.low s.high value c.requires.x c.requires.full is low high barred in
    less_after g c.args.c.0 c.args.x.0 box s.low s.high c.cut.new.self.box c.requires.x stretch content
