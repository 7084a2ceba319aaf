use Rattle.std.proofs.Common.{◌≡◌, sym, ap, ◌∙◌, subst, true}
use Rattle.std.specs.Prelude.{OnOk, Some, flat_map}
use Rattle.std.specs.List.{list_all}
use Rattle.qc_model.specs.declared.problem.Argument.TheVariants.{Many}
use Rattle.qc_model.specs.Arguments.{arg_variables, argument_variables}
use Rattle.prop_engine.specs.Watching.{is_watched}
use Rattle.prop_engine.proofs.Watched.{all_flat_ok}
use Rattle.prop_engine.proofs.watching.Watches.watch_argument.Goals as goal

pub returns-in-Many-clause-watched : goal.returns-in-Many-clause-watched
returns-in-Many-clause-watched c =
    let p = is_watched c.watch_array.new.self c.args.c.0 in
    let w = all_flat_ok c.watch_array.result p arg_variables c.items.result.now c.watch_array.ensures.watched in
    subst (λ a. OnOk c.watch_array.result (list_all p (argument_variables a) ≡ true)) (sym c.in-Many.is) (subst (λ xs. OnOk c.watch_array.result (list_all p (flat_map arg_variables xs) ≡ true)) c.items.ensures w)

pub watch_array-requires-clause-place : goal.watch_array-requires-clause-place
watch_array-requires-clause-place c = c.requires.place ∙ (ap Some c.in-Many.is ∙ ap (λ xs. Some (Many xs)) (sym c.items.ensures))
