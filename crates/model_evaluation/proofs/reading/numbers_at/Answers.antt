use Rattle.std.proofs.Common.{sym, subst, ◌∙◌, List, IsTrue, ℤ}
use Rattle.std.specs.List.{list_all}
use Rattle.qc_model.specs.Valid.{is_number}
use Rattle.model_evaluation.proofs.Valued.{numbers_written, numbers_are_small}
use Rattle.model_evaluation.proofs.reading.numbers_at.Goals as goal

pub returns : goal.returns
returns c =
    let vs = c.args.values.now in
    let args = c.args.args.now in
    let Small : List ℤ → Type 0 = λ ns. IsTrue (list_all is_number ns) in
    record {
      items = c.numbers_at.ensures ∙ numbers_written vs args c.args.place;
      small = subst Small (sym c.numbers_at.ensures) (numbers_are_small vs args c.args.place c.requires);
    }
