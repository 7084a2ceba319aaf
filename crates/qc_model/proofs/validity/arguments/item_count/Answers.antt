use Rattle.std.proofs.Common.{◌∙◌, ap, length}
use Rattle.qc_model.specs.Valid.{item_count}
use Rattle.qc_model.proofs.Looking.{found_there, none_there}
use Rattle.qc_model.proofs.validity.arguments.item_count.Goals as goal

pub returns-in-Some-One : goal.returns-in-Some-One
returns-in-Some-One c =
    let l = c.in-Some-One.ensures.lookup in
    ap item_count (found_there c.args.args.now c.args.place c.in-Some-One.field-0.now _ l.0 l.1 c.in-Some-One.field-0-is)

pub returns-in-Some-Many : goal.returns-in-Some-Many
returns-in-Some-Many c =
    let l = c.in-Some-Many.ensures.lookup in
    ap (λ xs. length xs) c.items.ensures ∙ ap item_count (found_there c.args.args.now c.args.place c.in-Some-Many.field-0.now _ l.0 l.1 c.in-Some-Many.field-0-is)

pub returns-in-Some-Numbers : goal.returns-in-Some-Numbers
returns-in-Some-Numbers c =
    let l = c.in-Some-Numbers.ensures.lookup in
    ap (λ xs. length xs) c.items-in-Some-Numbers.ensures ∙ ap item_count (found_there c.args.args.now c.args.place c.in-Some-Numbers.field-0.now _ l.0 l.1 c.in-Some-Numbers.field-0-is)

pub returns-in-Some-Members : goal.returns-in-Some-Members
returns-in-Some-Members c =
    let l = c.in-Some-Members.ensures.lookup in
    ap item_count (found_there c.args.args.now c.args.place c.in-Some-Members.field-0.now _ l.0 l.1 c.in-Some-Members.field-0-is)

pub returns-in-None : goal.returns-in-None
returns-in-None c = ap item_count (none_there c.args.args.now c.args.place c.in-None.ensures.lookup.0)
