use Rattle.std.proofs.Common.{◌≡◌, rules, sym, subst, true, ℤ}
use Rattle.std.proofs.lemmas.Int.{to_z-of_z}
use mir.Val.{SFits}
use mir.Syntax.{w64}
use Rattle.qc_model.specs.declared.problem.Arg.{Arg}
use Rattle.qc_model.specs.Domains.{least_value, greatest_value}
use Rattle.qc_model.specs.Refuted.{left_to}
use Rattle.qc_refuter.specs.Met.{is_open}
use Rattle.model_arguments.proofs.Kept.{through}
use Rattle.prop_element.specs.Hulls.{IsHull}
use Rattle.prop_element.specs.Extremes.{IsLeast, item_at}
use Rattle.prop_element.proofs.Moved.{less_by, most_by, open_item}
use Rattle.prop_element.proofs.LeastHulls.{low_refuted, high_refuted, m_hull}
use Rattle.prop_element.proofs.least.least_cut.Goals as goal

pub any_cut-requires-clause-refuted : goal.any_cut-requires-clause-refuted
any_cut-requires-clause-refuted c =
    let low_fits : SFits w64 c.least-low.result = search rules in
    let m_fits : SFits w64 c.greatest.result = search rules in
    let box = c.args.store.now.box in
    let t = simp to_z-of_z at c.if-greatest-low.true in
    low_refuted c.args.rule.now box c.args.m c.args.items.now c.lowest-p.result c.requires.least c.lowest-p.ensures
    (less_by c.greatest.result c.least-low.result (greatest_value (left_to box c.args.m)) (least_value (left_to box (item_at c.args.items.now c.lowest-p.result))) c.greatest.ensures c.least-low.ensures t)

pub any_cut-requires-then-high-least-clause-refuted : goal.any_cut-requires-then-high-least-clause-refuted
any_cut-requires-then-high-least-clause-refuted c =
    let high_fits : SFits w64 c.greatest-high.result = search rules in
    let m_fits : SFits w64 c.least.result = search rules in
    let box = c.args.store.now.box in
    let t = simp to_z-of_z at c.if-high-least.true in
    high_refuted c.args.rule.now box c.args.m c.args.items.now c.lowest_top-q.result c.requires.least c.lowest_top-q.ensures.place
    (less_by c.greatest-high.result c.least.result (greatest_value (left_to box (item_at c.args.items.now c.lowest_top-q.result))) (least_value (left_to box c.args.m)) c.greatest-high.ensures c.least.ensures t)

pub arg_cut-requires-clause-hull : goal.arg_cut-requires-clause-hull
arg_cut-requires-clause-hull c x e =
    let low_fits : SFits w64 c.least-low.result = search rules in
    let high_fits : SFits w64 c.greatest-high.result = search rules in
    let r = c.args.rule.now in
    let box = c.args.store.now.box in
    let items = c.args.items.now in
    let M : Arg → Type 0 = λ z. IsLeast r z items in
    let h = m_hull r box x items c.lowest-p.result c.lowest_top-q.result (subst (λ z. is_open box z ≡ true) e c.requires.first) c.requires.open (subst M e c.requires.least) c.lowest-p.ensures c.lowest_top-q.ensures in
    let L : ℤ → Type 0 = λ z. IsHull r box x.0 z (greatest_value (left_to box (item_at items c.lowest_top-q.result))) in
    let H : ℤ → Type 0 = λ z. IsHull r box x.0 c.least-low.result z in
    simp to_z-of_z (subst H (sym c.greatest-high.ensures) (subst L (sym c.least-low.ensures) h))

pub items_cut-requires-clause-ready : goal.items_cut-requires-clause-ready
items_cut-requires-clause-ready c =
    let low_fits : SFits w64 c.least-low.result = search rules in
    let high_fits : SFits w64 c.greatest-high.result = search rules in
    let top_fits : SFits w64 c.greatest.result = search rules in
    let m_fits : SFits w64 c.least.result = search rules in
    let box = c.args.store.now.box in
    let items = c.args.items.now in
    let m = left_to box c.args.m in
    let t = simp to_z-of_z at c.if-greatest-low.false in
    let u = simp to_z-of_z at c.if-high-least.false in
    let top = greatest_value (left_to box (item_at items c.lowest_top-q.result)) in
    record {
      place = c.lowest-p.ensures.place;
      reached = most_by c.greatest.result c.least-low.result (greatest_value m) (least_value (left_to box (item_at items c.lowest-p.result))) c.greatest.ensures c.least-low.ensures t;
      over = λ j h. through (least_value m) top (greatest_value (left_to box (item_at items j))) (most_by c.greatest-high.result c.least.result top (least_value m) c.greatest-high.ensures c.least.ensures u) (c.lowest_top-q.ensures.all j h);
      kept = c.in_default.ensures.none;
    }

pub least-low-requires : goal.least-low-requires
least-low-requires c = open_item c.args.store.now.box c.args.items.now c.lowest-p.result c.requires.open c.lowest-p.ensures.place

pub greatest-high-requires : goal.greatest-high-requires
greatest-high-requires c = open_item c.args.store.now.box c.args.items.now c.lowest_top-q.result c.requires.open c.lowest_top-q.ensures.place
