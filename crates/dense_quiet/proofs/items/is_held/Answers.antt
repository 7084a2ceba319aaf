use Rattle.std.proofs.Common.{rules, ◌≡◌, ◌+◌, ◌&&◌, ◌∙◌, sym, get_or, arith}
use Rattle.std.specs.Prelude.{pos}
use Rattle.std.proofs.lemmas.Int.{to_z-of_z}
use mir.Val.{SFits}
use mir.Syntax.{w64}
use Rattle.qc_model.specs.declared.problem.Arg.TheVariants.{Var}
use Rattle.qc_model.specs.Domains.{has_value}
use Rattle.qc_model.specs.Refuted.{left_to}
use Rattle.dense_quiet.proofs.ItemPlaces.{held_at, got_at}
use Rattle.dense_quiet.proofs.items.is_held.Goals as goal

pub returns-then-place_holds : goal.returns-then-place_holds
returns-then-place_holds c = λ h.
    let k = c.loop-k.k in
    let v = c.args.value in
    let xs = c.args.items.now in
    let box = c.args.store.now.box in
    let b = left_to box c.args.b in
    let a = get_or xs k (Var (record { 0 = 0 })) in
    let v_fits : SFits w64 v = search rules in
    let held : c.place_holds.result ≡ (has_value (left_to box a) v && has_value b (pos (k + 1))) = simp to_z-of_z at c.place_holds.ensures in
    held_at box b xs k a v (got_at xs k (Var (record { 0 = 0 })) (omega (arith, c.loop-k-test.true, c.min-end.ensures))) (sym held ∙ c.if-place_holds.true)
