use Rattle.std.proofs.Common.{rules, ◌≡◌, ◌∙◌, sym, subst, true, false}
use Rattle.std.specs.Prelude.{◌≤ℤ◌, slice_get, Some}
use Rattle.std.proofs.lemmas.Int.{to_z-of_z}
use mir.Val.{SFits}
use mir.Syntax.{w64}
use Rattle.qc_model.specs.Content.{Rule}
use Rattle.qc_model.specs.Domains.{values_left, values_within, box_within, box_without, is_none_left}
use Rattle.qc_model.specs.Refuted.{refuted_by}
use Rattle.fd_store.specs.Held.{Held}
use Rattle.model_arguments.proofs.Kept.{reaches}
use Rattle.dense_close.specs.Cutting.{IsStretch, end_of}
use Rattle.dense_close.proofs.Cuts.{stretch_of, some_spanned, cut_step, less_after}
use Rattle.dense_close.proofs.cutting.cut_refuted.Goals as goal

pub refutes_stretch-requires-clause-left : goal.refutes_stretch-requires-clause-left
refutes_stretch-requires-clause-left c =
    let box = c.args.remains.now.box in
    let s = c.args.s in
    let value = c.end_of-value.result in
    let v_fits : SFits w64 value = search rules in
    let low_fits : SFits w64 s.low = search rules in
    let high_fits : SFits w64 s.high = search rules in
    let is : value ≡ end_of c.args.end box c.args.x.0 = subst (λ (h : Held). value ≡ end_of c.args.end h.box c.args.x.0) c.store.ensures c.end_of-value.ensures in
    let low : s.low ≤ℤ value = reaches value s.low (simp to_z-of_z at c.if-value-low.false) in
    let high : value ≤ℤ s.high = reaches s.high value (simp to_z-of_z at c.if-high-value.false) in
    subst (λ (h : Held). is_none_left (values_within s.low s.high (values_left h.box c.args.x.0)) ≡ false) (sym c.store-2.ensures)
    (some_spanned c.args.end box c.args.x.0 s.low s.high c.requires.x c.requires.full (subst (λ v. s.low ≤ℤ v) is low) (subst (λ v. v ≤ℤ s.high) is high))

pub returns-clause-cut : goal.returns-clause-cut
returns-clause-cut c =
    let g = c.args.problem.now in
    let box = c.args.remains.now.box in
    let s = c.args.s in
    let value = c.end_of-value.result in
    let v_fits : SFits w64 value = search rules in
    let low_fits : SFits w64 s.low = search rules in
    let high_fits : SFits w64 s.high = search rules in
    let is : value ≡ end_of c.args.end box c.args.x.0 = subst (λ (h : Held). value ≡ end_of c.args.end h.box c.args.x.0) c.store.ensures c.end_of-value.ensures in
    let low : s.low ≤ℤ value = reaches value s.low (simp to_z-of_z at c.if-value-low.false) in
    let high : value ≤ℤ s.high = reaches s.high value (simp to_z-of_z at c.if-high-value.false) in
    let content : c.cut.new.self.box ≡ box_without box c.args.x.0 s.low s.high = simp to_z-of_z at c.cut.ensures.content in
    let refuted : (r : Rule) → slice_get g.constraints c.args.c.0 ≡ Some r → refuted_by r (box_within box c.args.x.0 s.low s.high) ≡ true =
    subst (λ (h : Held). (r : Rule) → slice_get g.constraints c.args.c.0 ≡ Some r → refuted_by r (box_within h.box c.args.x.0 s.low s.high) ≡ true) c.store-2.ensures
    (λ r q. sym (c.refutes_stretch.ensures r q) ∙ c.if-not-refutes_stretch.false) in
    let stretch : IsStretch g c.args.c.0 c.args.x.0 box s.low s.high =
    stretch_of c.args.end g c.args.c.0 box c.args.x.0 s.low s.high c.requires.x c.requires.full (subst (λ v. s.low ≤ℤ v) is low) (subst (λ v. v ≤ℤ s.high) is high) refuted in
    cut_step g c.known.ensures c.args.c.0 c.args.x.0 box s.low s.high c.cut.new.self.box c.requires.declared c.requires.full stretch content

pub returns-clause-gone : goal.returns-clause-gone
returns-clause-gone c =
    let g = c.args.problem.now in
    let box = c.args.remains.now.box in
    let s = c.args.s in
    let value = c.end_of-value.result in
    let v_fits : SFits w64 value = search rules in
    let low_fits : SFits w64 s.low = search rules in
    let high_fits : SFits w64 s.high = search rules in
    let is : value ≡ end_of c.args.end box c.args.x.0 = subst (λ (h : Held). value ≡ end_of c.args.end h.box c.args.x.0) c.store.ensures c.end_of-value.ensures in
    let low : s.low ≤ℤ value = reaches value s.low (simp to_z-of_z at c.if-value-low.false) in
    let high : value ≤ℤ s.high = reaches s.high value (simp to_z-of_z at c.if-high-value.false) in
    let content : c.cut.new.self.box ≡ box_without box c.args.x.0 s.low s.high = simp to_z-of_z at c.cut.ensures.content in
    let refuted : (r : Rule) → slice_get g.constraints c.args.c.0 ≡ Some r → refuted_by r (box_within box c.args.x.0 s.low s.high) ≡ true =
    subst (λ (h : Held). (r : Rule) → slice_get g.constraints c.args.c.0 ≡ Some r → refuted_by r (box_within h.box c.args.x.0 s.low s.high) ≡ true) c.store-2.ensures
    (λ r q. sym (c.refutes_stretch.ensures r q) ∙ c.if-not-refutes_stretch.false) in
    let stretch : IsStretch g c.args.c.0 c.args.x.0 box s.low s.high =
    stretch_of c.args.end g c.args.c.0 box c.args.x.0 s.low s.high c.requires.x c.requires.full (subst (λ v. s.low ≤ℤ v) is low) (subst (λ v. v ≤ℤ s.high) is high) refuted in
    less_after g c.args.c.0 c.args.x.0 box s.low s.high c.cut.new.self.box c.requires.x stretch content
