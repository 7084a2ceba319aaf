use Rattle.std.proofs.Common.{length, map, Option, None, Some}
use Rattle.std.specs.Prelude.{IfNone}
use Rattle.qc_model.specs.Holds.{rows}
use Rattle.qc_model.specs.Refuted.{left_to}
use Rattle.prop_element.proofs.Rows.{no_row_fits}
use Rattle.prop_element.proofs.tables.first_row.Goals as goal

map_none : {X A B : Type 0} (r : Option X) → IfNone r A → (A → B) → IfNone r B
map_none None p f = f p
map_none (Some x) p f = tt

pub returns-clause-none : goal.returns-clause-none
returns-clause-none c =
    map_none c.next_row.result c.next_row.ensures.none (no_row_fits (map (left_to c.args.store.now.box) c.args.items.now) c.args.key (rows (length c.args.items.now) c.args.numbers.now))
