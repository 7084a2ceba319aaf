use Rattle.std.proofs.Common.{rules, ◌≡◌, ◌+◌, ◌&&◌, ◌∙◌, sym, get_or, arith}
use Rattle.std.specs.Prelude.{pos}
use Rattle.std.specs.Ordering.{int_eq}
use Rattle.std.proofs.lemmas.Int.{to_z-of_z}
use mir.Val.{SFits}
use mir.Syntax.{w64}
use Rattle.qc_model.specs.Domains.{has_value}
use Rattle.qc_model.specs.Refuted.{left_to}
use Rattle.dense_quiet.proofs.Places.{named_at}
use Rattle.dense_quiet.proofs.elements.some_place_names.Goals as goal

pub returns-then-place_names : goal.returns-then-place_names
returns-then-place_names c = λ h.
    let k = c.loop-k.k in
    let v = c.args.value in
    let ns = c.args.numbers.now in
    let b = left_to c.args.store.now.box c.args.b in
    let v_fits : SFits w64 v = search rules in
    let n_fits : SFits w64 (get_or ns k (pos 0)) = search rules in
    let named : c.place_names.result ≡ (int_eq (get_or ns k (pos 0)) v && has_value b (pos (k + 1))) = simp to_z-of_z at c.place_names.ensures in
    named_at b ns k v (omega (arith, c.loop-k-test.true, c.min-end.ensures)) (sym named ∙ c.if-place_names.true)
