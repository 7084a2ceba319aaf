use Rattle.std.proofs.Common.{◌≡◌, Option, Some, None, true}
use Rattle.std.specs.Prelude.{IfNone}
use Rattle.std.specs.List.{list_all}
use Rattle.qc_model.specs.Closed.{keeps_ends}
use Rattle.qc_model.specs.Content.{Rule}
use Rattle.qc_model.specs.Domains.{Box}
use Rattle.prop_base.specs.Closed.{keeps_argument}
use Rattle.prop_base.specs.declared.cuts.Cut.{Cut}
use Rattle.prop_base.proofs.Keeps.{keeps_all}
use Rattle.prop_base.proofs.ends.EndsCutter.next_cut.Goals as goal

none_kept : (c : Rule) (box : Box) (r : Option Cut) → IfNone r (list_all (keeps_argument c box) c.args ≡ true) → IfNone r (keeps_ends box c ≡ true)
none_kept c box None h = keeps_all c box h
none_kept c box (Some k) h = h

pub returns-clause-none : goal.returns-clause-none
returns-clause-none g c = none_kept c.args.rule.now c.args.store.now.box c.find_cut.result c.find_cut.ensures.none
