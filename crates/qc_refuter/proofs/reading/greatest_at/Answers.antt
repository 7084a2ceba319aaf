use Rattle.std.proofs.Common.{ap, sym, ◌∙◌, is_some}
use Rattle.std.proofs.lemmas.Int.{to_z-of_z}
use mir.Val.{SFits}
use mir.Syntax.{w64}
use Rattle.qc_model.specs.Domains.{greatest_value}
use Rattle.qc_refuter.specs.Met.{seen}
use Rattle.qc_refuter.proofs.ReadAt.{one_there, one_open, none_there}
use Rattle.qc_refuter.proofs.reading.greatest_at.Goals as goal

pub greatest-requires : goal.greatest-requires
greatest-requires c = one_open (seen c.args.view.now) c.args.args.now c.args.place c.in-Some-One.field-0.now c.in-Some-One.arg c.in-Some-One.ensures.lookup.0 c.in-Some-One.ensures.lookup.1 c.in-Some-One.field-0-is c.requires

pub returns-in-Some-One : goal.returns-in-Some-One
returns-in-Some-One c =
    let fits : SFits w64 c.greatest.result = record { sfits = c.greatest.type_inv } in
    simp to_z-of_z (c.greatest.ensures ∙ ap greatest_value (one_there (seen c.args.view.now) c.args.args.now c.args.place c.in-Some-One.field-0.now c.in-Some-One.arg c.in-Some-One.ensures.lookup.0 c.in-Some-One.ensures.lookup.1 c.in-Some-One.field-0-is))

pub returns-in_default-2 : goal.returns-in_default-2
returns-in_default-2 c = ap greatest_value (none_there (seen c.args.view.now) c.args.args.now c.args.place (sym c.get.ensures.lookup.0 ∙ ap is_some c.in_default.is))
