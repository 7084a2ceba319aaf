use Rattle.std.proofs.Common.{◌≡◌, rules, sym, subst, true, ℤ}
use Rattle.std.proofs.lemmas.Int.{to_z-of_z}
use mir.Val.{SFits}
use mir.Syntax.{w64}
use Rattle.qc_model.specs.declared.problem.Arg.{Arg}
use Rattle.qc_model.specs.Domains.{greatest_value, least_value}
use Rattle.qc_model.specs.Refuted.{left_to}
use Rattle.qc_refuter.specs.Met.{is_open}
use Rattle.model_arguments.proofs.Kept.{through}
use Rattle.prop_element.specs.Hulls.{IsHull}
use Rattle.prop_element.specs.Extremes.{IsGreatest, item_at}
use Rattle.prop_element.proofs.Moved.{less_by, most_by, open_item}
use Rattle.prop_element.proofs.GreatestHulls.{high_refuted, low_refuted, m_hull}
use Rattle.prop_element.proofs.greatest.greatest_cut.Goals as goal

pub any_cut-requires-clause-refuted : goal.any_cut-requires-clause-refuted
any_cut-requires-clause-refuted c =
    let low_fits : SFits w64 c.greatest-high.result = search rules in
    let m_fits : SFits w64 c.least.result = search rules in
    let box = c.args.store.now.box in
    let t = simp to_z-of_z at c.if-high-least.true in
    high_refuted c.args.rule.now box c.args.m c.args.items.now c.highest-p.result c.requires.greatest c.highest-p.ensures
    (less_by c.greatest-high.result c.least.result (greatest_value (left_to box (item_at c.args.items.now c.highest-p.result))) (least_value (left_to box c.args.m)) c.greatest-high.ensures c.least.ensures t)

pub any_cut-requires-then-greatest-low-clause-refuted : goal.any_cut-requires-then-greatest-low-clause-refuted
any_cut-requires-then-greatest-low-clause-refuted c =
    let high_fits : SFits w64 c.least-low.result = search rules in
    let m_fits : SFits w64 c.greatest.result = search rules in
    let box = c.args.store.now.box in
    let t = simp to_z-of_z at c.if-greatest-low.true in
    low_refuted c.args.rule.now box c.args.m c.args.items.now c.highest_bottom-q.result c.requires.greatest c.highest_bottom-q.ensures.place
    (less_by c.greatest.result c.least-low.result (greatest_value (left_to box c.args.m)) (least_value (left_to box (item_at c.args.items.now c.highest_bottom-q.result))) c.greatest.ensures c.least-low.ensures t)

pub arg_cut-requires-clause-hull : goal.arg_cut-requires-clause-hull
arg_cut-requires-clause-hull c x e =
    let low_fits : SFits w64 c.greatest-high.result = search rules in
    let high_fits : SFits w64 c.least-low.result = search rules in
    let r = c.args.rule.now in
    let box = c.args.store.now.box in
    let items = c.args.items.now in
    let M : Arg → Type 0 = λ z. IsGreatest r z items in
    let h = m_hull r box x items c.highest-p.result c.highest_bottom-q.result (subst (λ z. is_open box z ≡ true) e c.requires.first) c.requires.open (subst M e c.requires.greatest) c.highest-p.ensures c.highest_bottom-q.ensures in
    let L : ℤ → Type 0 = λ z. IsHull r box x.0 (least_value (left_to box (item_at items c.highest_bottom-q.result))) z in
    let H : ℤ → Type 0 = λ z. IsHull r box x.0 z c.greatest-high.result in
    simp to_z-of_z (subst H (sym c.least-low.ensures) (subst L (sym c.greatest-high.ensures) h))

pub items_cut-requires-clause-ready : goal.items_cut-requires-clause-ready
items_cut-requires-clause-ready c =
    let low_fits : SFits w64 c.greatest-high.result = search rules in
    let high_fits : SFits w64 c.least-low.result = search rules in
    let top_fits : SFits w64 c.least.result = search rules in
    let m_fits : SFits w64 c.greatest.result = search rules in
    let box = c.args.store.now.box in
    let items = c.args.items.now in
    let m = left_to box c.args.m in
    let t = simp to_z-of_z at c.if-high-least.false in
    let u = simp to_z-of_z at c.if-greatest-low.false in
    let top = least_value (left_to box (item_at items c.highest_bottom-q.result)) in
    record {
      place = c.highest-p.ensures.place;
      reached = most_by c.greatest-high.result c.least.result (greatest_value (left_to box (item_at items c.highest-p.result))) (least_value m) c.greatest-high.ensures c.least.ensures t;
      under = λ j h. through (least_value (left_to box (item_at items j))) top (greatest_value m) (c.highest_bottom-q.ensures.all j h) (most_by c.greatest.result c.least-low.result (greatest_value m) top c.greatest.ensures c.least-low.ensures u);
      kept = c.in_default.ensures.none;
    }

pub greatest-high-requires : goal.greatest-high-requires
greatest-high-requires c = open_item c.args.store.now.box c.args.items.now c.highest-p.result c.requires.open c.highest-p.ensures.place

pub least-low-requires : goal.least-low-requires
least-low-requires c = open_item c.args.store.now.box c.args.items.now c.highest_bottom-q.result c.requires.open c.highest_bottom-q.ensures.place
