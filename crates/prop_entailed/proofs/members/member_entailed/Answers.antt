use Rattle.std.proofs.Common.{ap, ◌∙◌, ℤ, Bool}
use Rattle.std.specs.Prelude.{not}
use Rattle.qc_model.specs.Arguments.{members}
use Rattle.qc_model.specs.Domains.{set_has}
use Rattle.qc_model.specs.Left.{left_at}
use Rattle.std.specs.List.{list_any}
use Rattle.qc_refuter.specs.Met.{lefts}
use Rattle.qc_refuter.proofs.Walks.{all_passed}
use Rattle.prop_entailed.proofs.members.member_entailed.Goals as goal

pub returns : goal.returns
returns c =
    let args = lefts c.args.store.now.box c.args.args.now in
    let out : ℤ → Bool = λ v. not (set_has (members args 1) v) in
    ap not (c.some_other.ensures ∙ ap (list_any out) c.arg_met.ensures.left) ∙ all_passed (set_has (members args 1)) (left_at args 0)
