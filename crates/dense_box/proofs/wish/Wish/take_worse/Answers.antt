use Rattle.std.proofs.Common.{◌≡◌, ◌∙◌, sym, ap, subst, true, set}
use Rattle.std.specs.Prelude.{pos, negsuc}
use Rattle.std.specs.List.{list_all}
use Rattle.qc_model.specs.declared.problem.Sense.{Sense}
use Rattle.qc_model.specs.Domains.{values_left, box_without}
use Rattle.qc_model.specs.Valid.{is_number}
use Rattle.fd_store.specs.Held.{Held}
use Rattle.dense_tree.specs.Steps.{no_worse}
use Rattle.box_laws.proofs.Numbers.{passed_after, passed_before}
use Rattle.dense_box.proofs.Worse.{none_above, none_below}
use Rattle.dense_box.proofs.wish.Wish.take_worse.Goals as goal

pub returns-in-Min-clause-content : goal.returns-in-Min-clause-content
returns-in-Min-clause-content c =
    let box = c.args.remains.now.box in
    let x = c.args.self.now.variable.0 in
    let vs = values_left box x in
    let numbers : list_all is_number vs ≡ true = subst (λ (h : Held). list_all is_number (values_left h.box x) ≡ true) c.store.ensures c.known.ensures.numbers in
    c.cut.ensures.content
    ∙ (ap (λ l. box_without box x l (pos 1000000000)) (passed_after c.args.v c.requires.number)
    ∙ (ap (set box x) (none_above c.args.v vs numbers) ∙ ap (λ (s : Sense). set box x (no_worse s c.args.v vs)) (sym c.in-Min.is)))

pub returns-in-Max-clause-content : goal.returns-in-Max-clause-content
returns-in-Max-clause-content c =
    let box = c.args.remains.now.box in
    let x = c.args.self.now.variable.0 in
    let vs = values_left box x in
    let numbers : list_all is_number vs ≡ true = subst (λ (h : Held). list_all is_number (values_left h.box x) ≡ true) c.store.ensures c.known.ensures.numbers in
    c.cut-in-Max.ensures.content
    ∙ (ap (λ l. box_without box x (negsuc 999999999) l) (passed_before c.args.v c.requires.number)
    ∙ (ap (set box x) (none_below c.args.v vs numbers) ∙ ap (λ (s : Sense). set box x (no_worse s c.args.v vs)) (sym c.in-Max.is)))
