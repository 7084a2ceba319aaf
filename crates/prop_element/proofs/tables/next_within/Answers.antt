use Rattle.std.proofs.Common.{◌≡◌, ◌∙◌, sym, rules, arith, get_or, true, false}
use Rattle.std.specs.Prelude.{pos}
use Rattle.std.proofs.lemmas.Int.{to_z-of_z}
use mir.Val.{SFits}
use mir.Syntax.{w64}
use Rattle.qc_model.specs.Holds.{rows}
use Rattle.qc_model.proofs.Rows.{rows_end}
use Rattle.prop_element.specs.Tables.{has_entry}
use Rattle.prop_element.proofs.Rows.{walk_more, walk_found, walk_end, rows_cut}
use Rattle.prop_element.proofs.tables.next_within.Goals as goal

pub returns-then-is_from-clause-some : goal.returns-then-is_from-clause-some
returns-then-is_from-clause-some c =
    let w = c.args.width in
    let rest = c.loop-rest.rest.now in
    let row = c.split_at.result.0.now in
    let later = c.split_at.result.1.now in
    let p = has_entry c.args.k c.args.from c.args.to in
    let some = c.requires in
    let test = c.loop-rest-test.true in
    let from_fits : SFits w64 c.args.from = search rules in
    let to_fits : SFits w64 c.args.to = search rules in
    let n_fits : SFits w64 (get_or row c.args.k (pos 0)) = search rules in
    let e = rows_cut w rest row later (omega (arith, some)) (omega (arith, test)) c.split_at.ensures.front c.split_at.ensures.back in
    let t : p row ≡ true = simp to_z-of_z at (sym c.is_from.ensures ∙ c.if-is_from.true) in
    walk_found p (rows w c.args.numbers.now) (rows w rest) (rows w later) row e t (simp to_z-of_z at c.loop-rest.invariant.walk)

pub loop-rest-preserved : goal.loop-rest-preserved
loop-rest-preserved c =
    let w = c.args.width in
    let rest = c.loop-rest.rest.now in
    let row = c.split_at.result.0.now in
    let later = c.split_at.result.1.now in
    let p = has_entry c.args.k c.args.from c.args.to in
    let some = c.requires in
    let test = c.loop-rest-test.true in
    let back = c.split_at.ensures.back_len in
    let fewer = c.loop-rest.invariant.fewer in
    let from_fits : SFits w64 c.args.from = search rules in
    let to_fits : SFits w64 c.args.to = search rules in
    let n_fits : SFits w64 (get_or row c.args.k (pos 0)) = search rules in
    let e = rows_cut w rest row later (omega (arith, some)) (omega (arith, test)) c.split_at.ensures.front c.split_at.ensures.back in
    let f : p row ≡ false = simp to_z-of_z at (sym c.is_from.ensures ∙ c.if-is_from.false) in
    record {
      walk = simp to_z-of_z (walk_more p (rows w c.args.numbers.now) (rows w rest) (rows w later) row e f (simp to_z-of_z at c.loop-rest.invariant.walk));
      fewer = omega (arith, back, fewer, test);
    }

pub returns-clause-none : goal.returns-clause-none
returns-clause-none c =
    let w = c.args.width in
    let rest = c.loop-rest.rest.now in
    let test = c.loop-rest-test.false in
    let from_fits : SFits w64 c.args.from = search rules in
    let to_fits : SFits w64 c.args.to = search rules in
    walk_end (has_entry c.args.k c.args.from c.args.to) (rows w c.args.numbers.now) (rows w rest) (rows_end w rest (omega (arith, test))) (simp to_z-of_z at c.loop-rest.invariant.walk)
