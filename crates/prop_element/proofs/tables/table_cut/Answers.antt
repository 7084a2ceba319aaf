use Rattle.std.proofs.Common.{◌∙◌, sym, ap, subst, length, List, ℤ, Option, None, Some}
use Rattle.std.specs.Prelude.{IfNone}
use Rattle.std.specs.List.{list_all}
use Rattle.qc_model.specs.declared.problem.Arg.{Arg}
use Rattle.qc_model.specs.Holds.{rows}
use Rattle.model_arguments.specs.Written.{args_at, ints_at}
use Rattle.qc_refuter.specs.Met.{is_open}
use Rattle.prop_base.specs.Closed.{keeps_arg}
use Rattle.prop_element.specs.Tables.{IsTable}
use Rattle.prop_element.proofs.Shapes.{table_open, table_is}
use Rattle.prop_element.proofs.tables.table_cut.Goals as goal

pub columns_cut-requires-clause-items : goal.columns_cut-requires-clause-items
columns_cut-requires-clause-items c =
    let box = c.args.store.now.box in
    let xs = c.items_at-items.ensures ∙ ap (λ l. args_at l 0) c.arguments-args.ensures in
    ap (list_all (is_open box)) xs ∙ table_open c.args.problem.now c.args.rule.now box c.known.ensures.domains c.requires.asked c.requires.table.pred

pub columns_cut-requires-clause-table : goal.columns_cut-requires-clause-table
columns_cut-requires-clause-table c =
    let r = c.args.rule.now in
    let xs = c.items_at-items.ensures ∙ ap (λ l. args_at l 0) c.arguments-args.ensures in
    let ns = c.numbers_at-numbers.ensures ∙ ap (λ l. ints_at l 1) c.arguments-args.ensures in
    let X : List Arg → Type 0 = λ z. IsTable r z (rows (length z) c.numbers_at-numbers.result.now) in
    let N : List ℤ → Type 0 = λ z. IsTable r (args_at r.args 0) (rows (length (args_at r.args 0)) z) in
    subst X (sym xs) (subst N (sym ns) (table_is c.args.problem.now.variables r c.requires.asked.rule c.requires.table.pred c.requires.table.once))

map_none : {X A B : Type 0} (r : Option X) → IfNone r A → (A → B) → IfNone r B
map_none None p f = f p
map_none (Some x) p f = tt

pub returns-clause-none : goal.returns-clause-none
returns-clause-none c =
    let r = c.args.rule.now in
    let box = c.args.store.now.box in
    let xs = c.items_at-items.ensures ∙ ap (λ l. args_at l 0) c.arguments-args.ensures in
    let t = table_is c.args.problem.now.variables r c.requires.asked.rule c.requires.table.pred c.requires.table.once in
    map_none c.columns_cut.result c.columns_cut.ensures.none (λ k. t.own box (ap (list_all (keeps_arg r box)) (sym xs) ∙ k))
