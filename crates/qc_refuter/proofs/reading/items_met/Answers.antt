use Rattle.std.proofs.Common.{◌≤◌, length, map, ap, sym, subst, ◌∙◌, true, ◌≡◌, List}
use Rattle.std.specs.List.{list_all}
use Rattle.qc_model.specs.declared.problem.Arg.{Arg}
use Rattle.qc_model.specs.Refuted.{left_to}
use Rattle.qc_refuter.specs.Met.{is_open}
use Rattle.qc_refuter.proofs.ReadAt.{many_there, many_few, many_open}
use Rattle.qc_refuter.specs.Met.{seen}
use Rattle.qc_refuter.proofs.reading.items_met.Goals as goal

pub returns-in-Some-Many-clause-items : goal.returns-in-Some-Many-clause-items
returns-in-Some-Many-clause-items c = ap (map (left_to (seen c.args.view.now))) c.items.ensures ∙ many_there (seen c.args.view.now) c.args.args.now c.args.place c.in-Some-Many.field-0.now c.in-Some-Many.items c.in-Some-Many.ensures.lookup.0 c.in-Some-Many.ensures.lookup.1 c.in-Some-Many.field-0-is

pub returns-in-Some-Many-clause-few : goal.returns-in-Some-Many-clause-few
returns-in-Some-Many-clause-few c = subst (λ (xs : List Arg). length xs ≤ 1000) (sym c.items.ensures) (many_few (seen c.args.view.now) c.args.args.now c.args.place c.in-Some-Many.field-0.now c.in-Some-Many.items c.in-Some-Many.ensures.lookup.0 c.in-Some-Many.ensures.lookup.1 c.in-Some-Many.field-0-is c.requires)

pub returns-in-Some-Many-clause-open : goal.returns-in-Some-Many-clause-open
returns-in-Some-Many-clause-open c = subst (λ (xs : List Arg). list_all (is_open (seen c.args.view.now)) xs ≡ true) (sym c.items.ensures) (many_open (seen c.args.view.now) c.args.args.now c.args.place c.in-Some-Many.field-0.now c.in-Some-Many.items c.in-Some-Many.ensures.lookup.0 c.in-Some-Many.ensures.lookup.1 c.in-Some-Many.field-0-is c.requires)
