use Rattle.std.proofs.Common.{◌≡◌, true, false, subst, sym}
use Rattle.qc_model.specs.Valid.{IsValid}
use Rattle.model_generated.proofs.Valid.{generated_is_valid}
use Rattle.model_generated.proofs.make.generated.Goals as goal

pub unreachable-requires : goal.unreachable-requires
unreachable-requires c =
    let k : false ≡ true = c.in-None.ensures.exact.1 (subst IsValid (sym c.in_ok-make_draft.ensures) (generated_is_valid c.args.n)) in
    cc
