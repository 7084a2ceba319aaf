use Rattle.std.proofs.Common.{◌≡◌, false, true, rules, subst, ℤ}
use Rattle.std.proofs.lemmas.Int.{to_z-of_z}
use mir.Val.{SFits}
use mir.Syntax.{w64}
use Rattle.qc_model.specs.Domains.{is_none_left, values_left, values_within}
use Rattle.fd_store.specs.Held.{Held}
use Rattle.check_box.proofs.remains.Remains.may_reach_up.Goals as goal

pub returns : goal.returns
returns c =
    let fits : SFits w64 c.args.lo = search rules in
    let x = c.args.x.0 in
    let none : c.reaches_up.result ≡ false → (hi : ℤ) → is_none_left (values_within c.args.lo hi (values_left c.self.inside.store.box x)) ≡ true = simp to_z-of_z at c.reaches_up.ensures in
    λ e hi. subst (λ (h : Held). is_none_left (values_within c.args.lo hi (values_left h.box x)) ≡ true) c.self.view_is (none e hi)
