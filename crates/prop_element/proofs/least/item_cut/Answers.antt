use Rattle.std.proofs.Common.{◌∙◌, rules, sym, subst, ℤ}
use Rattle.std.specs.Prelude.{pos}
use Rattle.std.proofs.lemmas.Int.{to_z-of_z}
use mir.Val.{SFits}
use mir.Syntax.{w64}
use Rattle.qc_model.specs.declared.problem.Arg.TheVariants.{Var}
use Rattle.qc_model.specs.Domains.{greatest_value}
use Rattle.qc_model.specs.Refuted.{left_to}
use Rattle.qc_model.proofs.Readable.{first, second}
use Rattle.qc_refuter.proofs.Terms.{open_at}
use Rattle.model_arguments.specs.Repeats.{same_variable}
use Rattle.prop_element.specs.Hulls.{IsHull}
use Rattle.prop_element.specs.Extremes.{item_at}
use Rattle.prop_element.proofs.LeastHulls.{item_alone, item_free}
use Rattle.prop_element.proofs.least.item_cut.Goals as goal

pub arg_cut-requires-clause-open : goal.arg_cut-requires-clause-open
arg_cut-requires-clause-open c = open_at c.args.store.now.box c.args.items.now c.args.k (Var (record { 0 = 0 })) c.requires.place c.requires.open

pub arg_cut-requires-2-clause-open : goal.arg_cut-requires-2-clause-open
arg_cut-requires-2-clause-open c = open_at c.args.store.now.box c.args.items.now c.args.k (Var (record { 0 = 0 })) c.requires.place c.requires.open

pub arg_cut-requires-clause-hull : goal.arg_cut-requires-clause-hull
arg_cut-requires-clause-hull c x e =
    let low_fits : SFits w64 c.least-low.result = search rules in
    let high_fits : SFits w64 c.greatest-high.result = search rules in
    let r = c.args.rule.now in
    let box = c.args.store.now.box in
    let items = c.args.items.now in
    let s = same_variable (item_at items c.args.p) (item_at items c.args.k) in
    let t = sym c.is_only.ensures ∙ c.if-is_only.true in
    let h = item_alone r box c.args.m items c.args.p c.args.k x c.requires.first c.requires.open c.requires.least c.requires.ready c.requires.place e (c.requires.alone (first c.args.alone s t)) (second c.args.alone s t) in
    let L : ℤ → Type 0 = λ z. IsHull r box x.0 z (greatest_value (left_to box c.args.m)) in
    let H : ℤ → Type 0 = λ z. IsHull r box x.0 c.least-low.result z in
    simp to_z-of_z (subst H (sym c.greatest-high.ensures) (subst L (sym c.least-low.ensures) h))

pub arg_cut-requires-2-clause-hull : goal.arg_cut-requires-2-clause-hull
arg_cut-requires-2-clause-hull c x e =
    let low_fits : SFits w64 c.least-low.result = search rules in
    let r = c.args.rule.now in
    let box = c.args.store.now.box in
    let items = c.args.items.now in
    let t = sym c.is_only.ensures ∙ c.if-is_only.false in
    let h = item_free r box c.args.m items c.args.p c.args.k x c.args.alone c.requires.first c.requires.open c.requires.least c.requires.ready c.requires.place e c.requires.other t in
    let L : ℤ → Type 0 = λ z. IsHull r box x.0 z (pos 1000000000) in
    simp to_z-of_z (subst L (sym c.least-low.ensures) h)
