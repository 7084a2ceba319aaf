use Rattle.std.proofs.Common.{rules, ◌≡◌, true, ap, [], ◌∷◌}
use Rattle.std.specs.Prelude.{pos}
use Rattle.std.proofs.lemmas.Int.{to_z-of_z}
use mir.Val.{SFits}
use mir.Syntax.{w64}
use Rattle.qc_model.specs.Left.{some_item_in}
use Rattle.qc_model.specs.Ranges.{Range}
use Rattle.qc_model.specs.Refuted.{left_to}
use Rattle.dense_quiet.proofs.Places.{from_least, from_greatest}
use Rattle.dense_quiet.proofs.elements.is_named.Goals as goal

pub returns-then-end_names : goal.returns-then-end_names
returns-then-end_names c = λ h.
    let p = c.args.places.least in
    let v = c.args.value in
    let ns = c.args.numbers.now in
    let p_fits : SFits w64 p = search rules in
    let v_fits : SFits w64 v = search rules in
    let named : some_item_in (pos 1) (p ∷ []) ns (v ∷ []) ≡ true = simp to_z-of_z at (c.end_names.ensures c.if-end_names.true) in
    from_least (left_to c.args.store.now.box c.args.b) (v ∷ []) p ns c.requires.b (ap (λ (r : Range). r.from) c.requires.places) named

pub returns-then-end_names-2 : goal.returns-then-end_names-2
returns-then-end_names-2 c = λ h.
    let p = c.args.places.greatest in
    let v = c.args.value in
    let ns = c.args.numbers.now in
    let p_fits : SFits w64 p = search rules in
    let v_fits : SFits w64 v = search rules in
    let named : some_item_in (pos 1) (p ∷ []) ns (v ∷ []) ≡ true = simp to_z-of_z at (c.end_names-2.ensures c.if-end_names-2.true) in
    from_greatest (left_to c.args.store.now.box c.args.b) (v ∷ []) p ns c.requires.b (ap (λ (r : Range). r.to) c.requires.places) named
