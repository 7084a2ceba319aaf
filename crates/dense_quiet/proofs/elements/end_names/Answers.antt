use Rattle.std.proofs.Common.{rules, ◌≡◌, ◌<◌, ◌-◌, ◌∙◌, sym, false, length, get_or}
use Rattle.std.specs.Prelude.{pos, int_lt, unsigned_abs}
use Rattle.std.proofs.lemmas.Int.{to_z-of_z}
use mir.Val.{SFits}
use mir.Syntax.{w64}
use Rattle.qc_model.specs.Domains.{has_value}
use Rattle.qc_model.specs.Refuted.{left_to}
use Rattle.dense_quiet.proofs.Places.{end_in}
use Rattle.dense_quiet.proofs.elements.end_names.Goals as goal

pub returns : goal.returns
returns c = λ h.
    let p = c.args.place in
    let ns = c.args.numbers.now in
    let p_fits : SFits w64 p = search rules in
    let n_fits : SFits w64 (get_or ns (unsigned_abs p - 1) (pos 0)) = search rules in
    let above : int_lt p (pos 1) ≡ false = simp to_z-of_z at c.if-place-lt1.false in
    let inside : unsigned_abs p - 1 < length ns = simp to_z-of_z at c.if-k-numbers.false in
    let there : c.has.result ≡ has_value (left_to c.args.store.now.box c.args.c) (get_or ns (unsigned_abs p - 1) (pos 0)) = simp to_z-of_z at c.has.ensures in
    end_in p ns (left_to c.args.store.now.box c.args.c) above inside (sym there ∙ h)
