use Rattle.std.proofs.Common.{rules, ◌≡◌, ◌∙◌, sym, ap}
use Rattle.std.proofs.lemmas.Int.{to_z-of_z}
use mir.Val.{SFits}
use mir.Syntax.{w64}
use Rattle.qc_model.specs.Domains.{has_value}
use Rattle.qc_model.specs.Ranges.{Range}
use Rattle.qc_model.specs.Refuted.{left_to}
use Rattle.dense_quiet.proofs.Shared.{least_shared, least_shares}
use Rattle.dense_quiet.proofs.items.have_common.Goals as goal

pub returns-then-has : goal.returns-then-has
returns-then-has c = λ h.
    let box = c.args.store.now.box in
    let v = c.ends_of.result.least in
    let fits : SFits w64 v = search rules in
    let there : c.has.result ≡ has_value (left_to box c.args.other) v = simp to_z-of_z at c.has.ensures in
    least_shared (left_to box c.args.one) (left_to box c.args.other) v c.requires.one (ap (λ (r : Range). r.from) c.ends_of.ensures) (sym there ∙ c.if-has.true)

pub returns : goal.returns
returns c = λ h.
    let box = c.args.store.now.box in
    let v = c.ends_of-2.result.least in
    let fits : SFits w64 v = search rules in
    let there : c.has-2.result ≡ has_value (left_to box c.args.one) v = simp to_z-of_z at c.has-2.ensures in
    least_shares (left_to box c.args.one) (left_to box c.args.other) v c.requires.other (ap (λ (r : Range). r.from) c.ends_of-2.ensures) (sym there ∙ h)
