use Rattle.std.proofs.Common.{◌≡◌, ◌∙◌, rules, arith, get_or, true}
use Rattle.std.specs.Prelude.{pos}
use Rattle.std.proofs.lemmas.Int.{to_z-of_z}
use mir.Val.{SFits}
use mir.Syntax.{w64}
use Rattle.qc_model.specs.declared.problem.Arg.TheVariants.{Var}
use Rattle.qc_refuter.proofs.Terms.{open_at}
use Rattle.qc_refuter.proofs.Places.{entry_fits}
use Rattle.qc_model.specs.Domains.{has_value}
use Rattle.qc_model.specs.Refuted.{left_to}
use Rattle.prop_element.proofs.tables.is_row.Goals as goal

pub has-requires : goal.has-requires
has-requires c = open_at c.args.store.now.box c.args.items.now c.loop-k.k (Var (record { 0 = 0 })) (omega arith) c.requires.items

pub loop-k-preserved : goal.loop-k-preserved
loop-k-preserved c =
    let box = c.args.store.now.box in
    let k = c.loop-k.k in
    let n_fits : SFits w64 (get_or c.args.row.now k (pos 0)) = search rules in
    let e = simp to_z-of_z at c.has.ensures in
    let f : has_value (left_to box (get_or c.args.items.now k (Var (record { 0 = 0 })))) (get_or c.args.row.now k (pos 0)) ≡ true = cc in
    entry_fits box c.args.items.now c.args.row.now k (Var (record { 0 = 0 })) (omega arith) (omega arith) f ∙ c.loop-k.invariant
