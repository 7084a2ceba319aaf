use Rattle.std.proofs.Common.{◌≤◌, ap, sym, subst, ◌∙◌, List, length, IsTrue}
use Rattle.std.specs.List.{list_all}
use Rattle.qc_model.specs.declared.problem.Arg.{Arg}
use Rattle.qc_model.specs.Valid.{is_number}
use Rattle.model_evaluation.specs.Evaluation.{item_values}
use Rattle.model_evaluation.proofs.Valued.{items_written, items_are_few, items_are_small}
use Rattle.model_evaluation.proofs.reading.items_at.Goals as goal

pub returns : goal.returns
returns c =
    let vs = c.args.values.now in
    let args = c.args.args.now in
    let found = sym c.items_at.ensures in
    let Few : List Arg → Type 0 = λ xs. length xs ≤ 1000 in
    let Small : List Arg → Type 0 = λ xs. IsTrue (list_all is_number (item_values vs xs)) in
    record {
      items = ap (item_values vs) c.items_at.ensures ∙ items_written vs args c.args.place;
      few = subst Few found (items_are_few vs args c.args.place c.requires);
      small = subst Small found (items_are_small vs args c.args.place c.requires);
    }
