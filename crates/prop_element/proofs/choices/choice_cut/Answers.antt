use Rattle.std.proofs.Common.{◌≤◌, ◌∙◌, sym, ap, subst, List, length}
use Rattle.std.specs.List.{list_all}
use Rattle.qc_model.specs.declared.problem.Arg.{Arg}
use Rattle.model_arguments.specs.Written.{arg_at, args_at}
use Rattle.qc_refuter.specs.Met.{is_open}
use Rattle.prop_element.specs.Choices.{IsChoice}
use Rattle.prop_element.proofs.Shapes.{choice_open, choice_is}
use Rattle.prop_element.proofs.choices.choice_cut.Goals as goal

pub chosen_cut-requires-clause-first : goal.chosen_cut-requires-clause-first
chosen_cut-requires-clause-first c =
    let box = c.args.store.now.box in
    let a = c.one_at-a.ensures ∙ ap (λ l. arg_at l 0) c.arguments-args.ensures in
    ap (is_open box) a ∙ (choice_open c.args.problem.now c.args.rule.now box c.known.ensures.domains c.requires.asked c.requires.choice.pred).first

pub chosen_cut-requires-clause-items : goal.chosen_cut-requires-clause-items
chosen_cut-requires-clause-items c =
    let box = c.args.store.now.box in
    let xs = c.items_at-items.ensures ∙ ap (λ l. args_at l 1) c.arguments-args.ensures in
    ap (list_all (is_open box)) xs ∙ (choice_open c.args.problem.now c.args.rule.now box c.known.ensures.domains c.requires.asked c.requires.choice.pred).items

pub chosen_cut-requires-clause-few : goal.chosen_cut-requires-clause-few
chosen_cut-requires-clause-few c =
    let box = c.args.store.now.box in
    let xs = c.items_at-items.ensures ∙ ap (λ l. args_at l 1) c.arguments-args.ensures in
    subst (λ n. n ≤ 1000) (sym (ap length xs)) (choice_open c.args.problem.now c.args.rule.now box c.known.ensures.domains c.requires.asked c.requires.choice.pred).few

pub chosen_cut-requires-clause-last : goal.chosen_cut-requires-clause-last
chosen_cut-requires-clause-last c =
    let box = c.args.store.now.box in
    let r = c.one_at-r.ensures ∙ ap (λ l. arg_at l 2) c.arguments-args.ensures in
    ap (is_open box) r ∙ (choice_open c.args.problem.now c.args.rule.now box c.known.ensures.domains c.requires.asked c.requires.choice.pred).last

pub chosen_cut-requires-clause-choice : goal.chosen_cut-requires-clause-choice
chosen_cut-requires-clause-choice c =
    let u = c.args.rule.now in
    let a = c.one_at-a.ensures ∙ ap (λ l. arg_at l 0) c.arguments-args.ensures in
    let xs = c.items_at-items.ensures ∙ ap (λ l. args_at l 1) c.arguments-args.ensures in
    let r = c.one_at-r.ensures ∙ ap (λ l. arg_at l 2) c.arguments-args.ensures in
    let A : Arg → Type 0 = λ z. IsChoice u z c.items_at-items.result.now c.one_at-r.result in
    let X : List Arg → Type 0 = λ z. IsChoice u (arg_at u.args 0) z c.one_at-r.result in
    let R : Arg → Type 0 = λ z. IsChoice u (arg_at u.args 0) (args_at u.args 1) z in
    subst A (sym a) (subst X (sym xs) (subst R (sym r) (choice_is c.args.problem.now.variables u c.requires.asked.rule c.requires.choice.pred c.requires.choice.once)))
