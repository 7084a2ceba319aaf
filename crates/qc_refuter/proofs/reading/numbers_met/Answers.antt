use Rattle.std.proofs.Common.{sym, subst, ◌∙◌, true, ◌≡◌, List, ℤ}
use Rattle.std.specs.List.{list_all}
use Rattle.qc_model.specs.Valid.{is_number}
use Rattle.qc_refuter.proofs.ReadAt.{numbers_there, numbers_small}
use Rattle.qc_refuter.specs.Met.{seen}
use Rattle.qc_refuter.proofs.reading.numbers_met.Goals as goal

pub returns-in-Some-Numbers-clause-items : goal.returns-in-Some-Numbers-clause-items
returns-in-Some-Numbers-clause-items c = c.items.ensures ∙ numbers_there (seen c.args.view.now) c.args.args.now c.args.place c.in-Some-Numbers.field-0.now c.in-Some-Numbers.items c.in-Some-Numbers.ensures.lookup.0 c.in-Some-Numbers.ensures.lookup.1 c.in-Some-Numbers.field-0-is

pub returns-in-Some-Numbers-clause-small : goal.returns-in-Some-Numbers-clause-small
returns-in-Some-Numbers-clause-small c = subst (λ (ns : List ℤ). list_all is_number ns ≡ true) (sym c.items.ensures) (numbers_small (seen c.args.view.now) c.args.args.now c.args.place c.in-Some-Numbers.field-0.now c.in-Some-Numbers.items c.in-Some-Numbers.ensures.lookup.0 c.in-Some-Numbers.ensures.lookup.1 c.in-Some-Numbers.field-0-is c.requires)
