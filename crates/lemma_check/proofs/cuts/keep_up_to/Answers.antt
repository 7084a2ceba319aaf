use Rattle.std.proofs.Common.{◌≡◌, ◌∙◌, subst, rules, true, false, pos, ◌+ℤ◌}
use Rattle.std.specs.Prelude.{int_lt}
use Rattle.std.specs.List.{list_all}
use Rattle.std.proofs.lemmas.Int.{to_z-of_z}
use mir.Val.{SFits}
use mir.Syntax.{w64}
use Rattle.qc_model.specs.Domains.{box_without, values_left}
use Rattle.qc_model.specs.Valid.{is_number}
use Rattle.fd_store.specs.Held.{Held}
use Rattle.lemma_check.proofs.Narrowing.{cut_above, none_above}
use Rattle.lemma_check.proofs.cuts.keep_up_to.Goals as goal

pub returns-then-hi-lt-MOST-clause-content : goal.returns-then-hi-lt-MOST-clause-content
returns-then-hi-lt-MOST-clause-content c =
    let hi : SFits w64 c.args.hi = search rules in
    let after : SFits w64 (c.args.hi +ℤ pos 1) = search rules in
    let box = c.args.remains.now.box in
    let numbers : list_all is_number (values_left box c.args.x.0) ≡ true = subst (λ (h : Held). list_all is_number (values_left h.box c.args.x.0) ≡ true) c.store.ensures c.known.ensures.numbers in
    let content : c.cut.new.self.box ≡ box_without box c.args.x.0 (c.args.hi +ℤ pos 1) (pos 1000000000) = simp to_z-of_z at c.cut.ensures.content in
    content ∙ cut_above box c.args.x.0 c.args.hi numbers

pub returns-else-hi-lt-MOST-clause-content : goal.returns-else-hi-lt-MOST-clause-content
returns-else-hi-lt-MOST-clause-content c =
    let hi : SFits w64 c.args.hi = search rules in
    let box = c.args.remains.now.box in
    let numbers : list_all is_number (values_left box c.args.x.0) ≡ true = subst (λ (h : Held). list_all is_number (values_left h.box c.args.x.0) ≡ true) c.store.ensures c.known.ensures.numbers in
    let most : int_lt c.args.hi (pos 1000000000) ≡ false = simp to_z-of_z at c.if-hi-lt-MOST.false in
    none_above box c.args.x.0 c.args.hi numbers most
