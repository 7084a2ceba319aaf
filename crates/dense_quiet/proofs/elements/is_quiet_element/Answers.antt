use Rattle.std.proofs.Common.{rules, ◌≡◌, true, ap, subst, [], ◌∷◌}
use Rattle.std.specs.Prelude.{pos}
use Rattle.std.proofs.lemmas.Int.{to_z-of_z}
use mir.Val.{SFits}
use mir.Syntax.{w64}
use Rattle.qc_model.specs.Left.{some_item_in}
use Rattle.qc_model.specs.Ranges.{Range}
use Rattle.qc_model.specs.Refuted.{left_to}
use Rattle.model_arguments.specs.Written.{arg_at}
use Rattle.dense_quiet.specs.Quiet.{SparesTwo, misses_number}
use Rattle.dense_quiet.proofs.Places.{element_spares}
use Rattle.dense_quiet.proofs.elements.is_quiet_element.Goals as goal

pub returns : goal.returns
returns c = λ h ok.
    let args = c.args.args.now in
    let box = c.args.store.now.box in
    let x = c.arg_met-b.result in
    let y = c.arg_met-c.result in
    let ns = c.numbers_at-numbers.result.now in
    let p = c.ends_of-places.result in
    let l = c.ends_of-left.result in
    let pl_fits : SFits w64 p.least = search rules in
    let pg_fits : SFits w64 p.greatest = search rules in
    let ll_fits : SFits w64 l.least = search rules in
    let lg_fits : SFits w64 l.greatest = search rules in
    let first : some_item_in (pos 1) (p.least ∷ []) ns (left_to box y) ≡ true = simp to_z-of_z at (c.end_names.ensures c.if-not-end_names.false) in
    let last : some_item_in (pos 1) (p.greatest ∷ []) ns (left_to box y) ≡ true = simp to_z-of_z at (c.end_names-2.ensures c.if-not-end_names-2.false) in
    let low : some_item_in (pos 1) (left_to box x) ns (l.least ∷ []) ≡ true = simp to_z-of_z at (c.is_named.ensures c.if-not-is_named.false) in
    let high : some_item_in (pos 1) (left_to box x) ns (l.greatest ∷ []) ≡ true = simp to_z-of_z at (c.is_named-2.ensures h) in
    let spares : SparesTwo (misses_number ns) ok x y box =
    element_spares ok x y box ns c.arg_met-b.ensures.«open»
    (subst (λ z. some_item_in (pos 1) (z ∷ []) ns (left_to box y) ≡ true) (ap (λ (r : Range). r.from) c.ends_of-places.ensures) first)
    (subst (λ z. some_item_in (pos 1) (z ∷ []) ns (left_to box y) ≡ true) (ap (λ (r : Range). r.to) c.ends_of-places.ensures) last)
    (subst (λ z. some_item_in (pos 1) (left_to box x) ns (z ∷ []) ≡ true) (ap (λ (r : Range). r.from) c.ends_of-left.ensures) low)
    (subst (λ z. some_item_in (pos 1) (left_to box x) ns (z ∷ []) ≡ true) (ap (λ (r : Range). r.to) c.ends_of-left.ensures) high) in
    subst (λ ns. SparesTwo (misses_number ns) ok (arg_at args 0) (arg_at args 2) box) c.numbers_at-numbers.ensures
    (subst (λ x. SparesTwo (misses_number ns) ok x (arg_at args 2) box) c.arg_met-b.ensures.is
    (subst (λ y. SparesTwo (misses_number ns) ok x y box) c.arg_met-c.ensures.is spares))
