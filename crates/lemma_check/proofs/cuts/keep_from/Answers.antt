use Rattle.std.proofs.Common.{◌≡◌, ◌∙◌, subst, rules, true, false, pos, ◌-ℤ◌}
use Rattle.std.specs.Prelude.{negsuc, int_lt}
use Rattle.std.specs.List.{list_all}
use Rattle.std.proofs.lemmas.Int.{to_z-of_z}
use mir.Val.{SFits}
use mir.Syntax.{w64}
use Rattle.qc_model.specs.Domains.{box_without, values_left}
use Rattle.qc_model.specs.Valid.{is_number}
use Rattle.fd_store.specs.Held.{Held}
use Rattle.lemma_check.proofs.Narrowing.{cut_below, none_below}
use Rattle.lemma_check.proofs.cuts.keep_from.Goals as goal

pub returns-then-lo-gt-LEAST-clause-content : goal.returns-then-lo-gt-LEAST-clause-content
returns-then-lo-gt-LEAST-clause-content c =
    let lo : SFits w64 c.args.lo = search rules in
    let before : SFits w64 (c.args.lo -ℤ pos 1) = search rules in
    let box = c.args.remains.now.box in
    let numbers : list_all is_number (values_left box c.args.x.0) ≡ true = subst (λ (h : Held). list_all is_number (values_left h.box c.args.x.0) ≡ true) c.store.ensures c.known.ensures.numbers in
    let content : c.cut.new.self.box ≡ box_without box c.args.x.0 (negsuc 999999999) (c.args.lo -ℤ pos 1) = simp to_z-of_z at c.cut.ensures.content in
    content ∙ cut_below box c.args.x.0 c.args.lo numbers

pub returns-else-lo-gt-LEAST-clause-content : goal.returns-else-lo-gt-LEAST-clause-content
returns-else-lo-gt-LEAST-clause-content c =
    let lo : SFits w64 c.args.lo = search rules in
    let box = c.args.remains.now.box in
    let numbers : list_all is_number (values_left box c.args.x.0) ≡ true = subst (λ (h : Held). list_all is_number (values_left h.box c.args.x.0) ≡ true) c.store.ensures c.known.ensures.numbers in
    let least : int_lt (negsuc 999999999) c.args.lo ≡ false = simp to_z-of_z at c.if-lo-gt-LEAST.false in
    none_below box c.args.x.0 c.args.lo numbers least
