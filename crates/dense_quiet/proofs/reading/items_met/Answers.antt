use Rattle.std.proofs.Common.{◌≡◌, ◌∙◌, ◌≤◌, true, List, length, sym, subst}
use Rattle.std.specs.List.{list_all}
use Rattle.qc_model.specs.declared.problem.Arg.{Arg}
use Rattle.qc_refuter.specs.Met.{is_open}
use Rattle.dense_quiet.proofs.ReadAt.{many_there, many_few, many_open}
use Rattle.dense_quiet.proofs.reading.items_met.Goals as goal

pub returns-in-Some-Many-clause-is : goal.returns-in-Some-Many-clause-is
returns-in-Some-Many-clause-is c = c.items.ensures ∙ many_there c.args.args.now c.args.place c.in-Some-Many.field-0.now c.in-Some-Many.items c.in-Some-Many.ensures.lookup.0 c.in-Some-Many.ensures.lookup.1 c.in-Some-Many.field-0-is

pub returns-in-Some-Many-clause-few : goal.returns-in-Some-Many-clause-few
returns-in-Some-Many-clause-few c =
    subst (λ (xs : List Arg). length xs ≤ 1000) (sym c.items.ensures) (many_few c.args.store.now.box c.args.args.now c.args.place c.in-Some-Many.field-0.now c.in-Some-Many.items c.in-Some-Many.ensures.lookup.0 c.in-Some-Many.ensures.lookup.1 c.in-Some-Many.field-0-is c.requires)

pub returns-in-Some-Many-clause-open : goal.returns-in-Some-Many-clause-open
returns-in-Some-Many-clause-open c =
    subst (λ (xs : List Arg). list_all (is_open c.args.store.now.box) xs ≡ true) (sym c.items.ensures)
    (many_open c.args.store.now.box c.args.args.now c.args.place c.in-Some-Many.field-0.now c.in-Some-Many.items c.in-Some-Many.ensures.lookup.0 c.in-Some-Many.ensures.lookup.1 c.in-Some-Many.field-0-is c.requires)
