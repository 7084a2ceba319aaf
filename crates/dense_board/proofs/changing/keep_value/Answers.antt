use Rattle.std.proofs.Common.{◌≡◌, ◌∙◌, ap, subst, true}
use Rattle.std.specs.List.{list_all}
use Rattle.qc_model.specs.Domains.{values_left}
use Rattle.qc_model.specs.Valid.{is_number}
use Rattle.fd_store.specs.Held.{Held}
use Rattle.model_arguments.proofs.Values.{value_passes}
use Rattle.box_laws.proofs.Numbers.{passed_number}
use Rattle.dense_board.proofs.changing.keep_value.Goals as goal

pub keep-requires-clause-first : goal.keep-requires-clause-first
keep-requires-clause-first c =
    let vs = values_left c.args.remains.now.box c.args.x.0 in
    let numbers : list_all is_number vs ≡ true = subst (λ (h : Held). list_all is_number (values_left h.box c.args.x.0) ≡ true) c.store.ensures c.known.ensures.numbers in
    let number = value_passes is_number vs c.args.v numbers c.requires.left in
    ap is_number (passed_number c.args.v number) ∙ number

pub keep-requires-clause-last : goal.keep-requires-clause-last
keep-requires-clause-last c =
    let vs = values_left c.args.remains.now.box c.args.x.0 in
    let numbers : list_all is_number vs ≡ true = subst (λ (h : Held). list_all is_number (values_left h.box c.args.x.0) ≡ true) c.store.ensures c.known.ensures.numbers in
    let number = value_passes is_number vs c.args.v numbers c.requires.left in
    ap is_number (passed_number c.args.v number) ∙ number
