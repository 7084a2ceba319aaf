use Rattle.std.proofs.Common.{◌≡◌, rules, subst, true, arith, get_or, length, map, sym, ◌∙◌}
use Rattle.std.specs.Prelude.{pos}
use Rattle.std.proofs.lemmas.Int.{to_z-of_z}
use mir.Val.{SFits}
use mir.Syntax.{w64}
use Rattle.qc_model.specs.declared.problem.Arg.TheVariants.{Var}
use Rattle.qc_model.specs.Holds.{rows}
use Rattle.qc_model.specs.Refuted.{left_to}
use Rattle.qc_refuter.specs.Met.{is_open}
use Rattle.qc_refuter.proofs.Terms.{open_at}
use Rattle.prop_base.specs.Closed.{keeps_arg}
use Rattle.prop_element.proofs.Moved.{all_each, open_item, none_there, some_there}
use Rattle.prop_element.proofs.Rows.{none_refuted, column_hull, lowest_of_all, highest_of_all}
use Rattle.prop_element.proofs.tables.columns_cut.Goals as goal

pub returns-clause-none : goal.returns-clause-none
returns-clause-none c = all_each (keeps_arg c.args.rule.now c.args.store.now.box) c.args.items.now (λ j h. c.loop-k.invariant j (omega arith))

pub any_cut-requires-clause-refuted : goal.any_cut-requires-clause-refuted
any_cut-requires-clause-refuted c = none_refuted c.args.rule.now c.args.store.now.box c.args.items.now (rows (length c.args.items.now) c.args.numbers.now) c.requires.table c.in_default.ensures.none

pub arg_cut-requires-clause-hull : goal.arg_cut-requires-clause-hull
arg_cut-requires-clause-hull c x e =
    let box = c.args.store.now.box in
    let items = c.args.items.now in
    let w = length items in
    let k = c.loop-k.k in
    let ds = map (left_to box) items in
    let rs = rows w c.args.numbers.now in
    let first = c.in-Some.first.now in
    let later = rows w c.in-Some.later.now in
    let low = c.end_rows.result.0.now in
    let high = c.end_rows.result.1.now in
    let low_fits : SFits w64 (get_or low k (pos 0)) = search rules in
    let high_fits : SFits w64 (get_or high k (pos 0)) = search rules in
    let o = open_at box items k (Var (record { 0 = 0 })) (omega arith) c.requires.items in
    simp to_z-of_z (column_hull c.args.rule.now box items rs x k low high (subst (λ z. is_open box z ≡ true) e o) c.requires.table (omega arith) e
    (lowest_of_all ds k low first rs later c.in-Some.ensures.some c.end_rows.ensures.lowest)
    (highest_of_all ds k high first rs later c.in-Some.ensures.some c.end_rows.ensures.highest))

pub arg_cut-requires-clause-open : goal.arg_cut-requires-clause-open
arg_cut-requires-clause-open c = open_item c.args.store.now.box c.args.items.now c.loop-k.k c.requires.items c.loop-k-test.true

pub returns-then-is_empty-clause-none : goal.returns-then-is_empty-clause-none
returns-then-is_empty-clause-none c = none_there (keeps_arg c.args.rule.now c.args.store.now.box) c.args.items.now (sym c.is_empty.ensures ∙ c.if-is_empty.true)

pub any_cut-requires-clause-first : goal.any_cut-requires-clause-first
any_cut-requires-clause-first c = open_item c.args.store.now.box c.args.items.now 0 c.requires.items (some_there c.args.items.now (sym c.is_empty.ensures ∙ c.if-is_empty.false))
