use Rattle.std.proofs.Common.{◌≡◌, sym, subst, rules, true}
use Rattle.std.proofs.lemmas.Int.{to_z-of_z}
use mir.Val.{SFits}
use mir.Syntax.{w64}
use Rattle.qc_model.specs.Refuted.{left_to}
use Rattle.qc_model.specs.Valid.{is_number}
use Rattle.qc_refuter.proofs.EndsRead.{from_least}
use Rattle.qc_refuter.proofs.Terms.{least_small, greatest_small}
use Rattle.dense_quiet.proofs.differing.ends_of.Goals as goal

pub width-requires-clause-high : goal.width-requires-clause-high
width-requires-clause-high c =
    let l_fits : SFits w64 c.least.result = search rules in
    simp to_z-of_z (subst (λ z. is_number z ≡ true) (sym c.least.ensures) (least_small (left_to c.args.store.now.box c.args.item) c.requires))

pub width-requires-clause-order : goal.width-requires-clause-order
width-requires-clause-order c =
    let l_fits : SFits w64 c.least.result = search rules in
    simp to_z-of_z (from_least c.least.result (subst (λ z. is_number z ≡ true) (sym c.least.ensures) (least_small (left_to c.args.store.now.box c.args.item) c.requires)))

pub width-requires-2-clause-high : goal.width-requires-2-clause-high
width-requires-2-clause-high c =
    let g_fits : SFits w64 c.greatest.result = search rules in
    simp to_z-of_z (subst (λ z. is_number z ≡ true) (sym c.greatest.ensures) (greatest_small (left_to c.args.store.now.box c.args.item) c.requires))

pub width-requires-2-clause-order : goal.width-requires-2-clause-order
width-requires-2-clause-order c =
    let g_fits : SFits w64 c.greatest.result = search rules in
    simp to_z-of_z (from_least c.greatest.result (subst (λ z. is_number z ≡ true) (sym c.greatest.ensures) (greatest_small (left_to c.args.store.now.box c.args.item) c.requires)))
