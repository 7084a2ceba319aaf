use Rattle.std.proofs.Common.{rules, ◌≡◌, ◌∙◌, sym, subst, true}
use Rattle.std.specs.Prelude.{◌≤ℤ◌}
use Rattle.std.proofs.lemmas.Int.{to_z-of_z}
use mir.Val.{SFits}
use mir.Syntax.{w64}
use Rattle.qc_model.specs.Domains.{values_left, least_value, greatest_value}
use Rattle.qc_model.specs.Valid.{is_number}
use Rattle.model_arguments.proofs.Kept.{through}
use Rattle.dense_close.specs.Cutting.{IsInside, IsStretch, end_of}
use Rattle.dense_close.proofs.Cuts.{stretch_one, stretch_of, some_spanned, inside_one, least_small, greatest_small, itself}
use Rattle.dense_close.proofs.cutting.grown.Goals as goal

pub returns-then-size-le-FEW_VALUES : goal.returns-then-size-le-FEW_VALUES
returns-then-size-le-FEW_VALUES c =
    let v = c.end_of-value.result in
    let fits : SFits w64 v = search rules in
    let box = c.args.store.now.box in
    let one : IsStretch c.args.problem.now c.args.c.0 c.args.x.0 box v v =
    stretch_one c.args.end c.args.problem.now c.args.c.0 box c.args.x.0 v c.requires.declared c.requires.full c.requires.x c.end_of-value.ensures c.requires.refuted in
    simp to_z-of_z one

pub loop-init : goal.loop-init
loop-init c =
    let v = c.end_of-value.result in
    let fits : SFits w64 v = search rules in
    let box = c.args.store.now.box in
    let one : IsStretch c.args.problem.now c.args.c.0 c.args.x.0 box v v =
    stretch_one c.args.end c.args.problem.now c.args.c.0 box c.args.x.0 v c.requires.declared c.requires.full c.requires.x c.end_of-value.ensures c.requires.refuted in
    let within : IsInside (least_value (values_left box c.args.x.0)) (greatest_value (values_left box c.args.x.0)) v v = inside_one c.args.end box c.args.x.0 v c.requires.x c.requires.full c.end_of-value.ensures in
    let low : v ≤ℤ end_of c.args.end box c.args.x.0 = itself v (end_of c.args.end box c.args.x.0) c.end_of-value.ensures in
    let high : end_of c.args.end box c.args.x.0 ≤ℤ v = itself (end_of c.args.end box c.args.x.0) v (sym c.end_of-value.ensures) in
    record { refuted = simp to_z-of_z one; within = simp to_z-of_z within; low = simp to_z-of_z low; high = simp to_z-of_z high }

pub longer-more-requires-clause-least : goal.longer-more-requires-clause-least
longer-more-requires-clause-least c =
    let v = c.min-least.result in
    let fits : SFits w64 v = search rules in
    let small : is_number v ≡ true = subst (λ n. is_number n ≡ true) (sym c.min-least.ensures) (least_small c.args.store.now.box c.args.x.0 c.requires.x c.requires.full c.known.ensures.numbers) in
    simp to_z-of_z small

pub longer-more-requires-clause-greatest : goal.longer-more-requires-clause-greatest
longer-more-requires-clause-greatest c =
    let v = c.max-greatest.result in
    let fits : SFits w64 v = search rules in
    let small : is_number v ≡ true = subst (λ n. is_number n ≡ true) (sym c.max-greatest.ensures) (greatest_small c.args.store.now.box c.args.x.0 c.requires.x c.requires.full c.known.ensures.numbers) in
    simp to_z-of_z small

pub refutes_stretch-requires-clause-left : goal.refutes_stretch-requires-clause-left
refutes_stretch-requires-clause-left c =
    let i = c.loop.invariant in
    let e = end_of c.args.end c.args.store.now.box c.args.x.0 in
    let m = c.longer-more.result in
    some_spanned c.args.end c.args.store.now.box c.args.x.0 m.low m.high c.requires.x c.requires.full (through m.low c.loop.s.low e c.longer-more.ensures.low i.low) (through e c.loop.s.high m.high i.high c.longer-more.ensures.high)

pub loop-preserved : goal.loop-preserved
loop-preserved c =
    let i = c.loop.invariant in
    let box = c.args.store.now.box in
    let e = end_of c.args.end box c.args.x.0 in
    let m = c.longer-more.result in
    let least : SFits w64 c.min-least.result = search rules in
    let greatest : SFits w64 c.max-greatest.result = search rules in
    let inside : IsInside c.min-least.result c.max-greatest.result c.longer-more.result.low c.longer-more.result.high = simp to_z-of_z at c.longer-more.ensures.inside in
    let low = through m.low c.loop.s.low e c.longer-more.ensures.low i.low in
    let high = through e c.loop.s.high m.high i.high c.longer-more.ensures.high in
    record {
      refuted = stretch_of c.args.end c.args.problem.now c.args.c.0 box c.args.x.0 m.low m.high c.requires.x c.requires.full low high (λ r q. sym (c.refutes_stretch.ensures r q) ∙ c.if-not-refutes_stretch.false);
      within = subst (λ a. IsInside a (greatest_value (values_left box c.args.x.0)) c.longer-more.result.low c.longer-more.result.high) c.min-least.ensures (subst (λ b. IsInside c.min-least.result b c.longer-more.result.low c.longer-more.result.high) c.max-greatest.ensures inside);
      low = low;
      high = high;
    }
