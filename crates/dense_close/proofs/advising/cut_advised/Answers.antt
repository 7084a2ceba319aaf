use Rattle.std.proofs.Common.{subst, sym}
use Rattle.fd_store.specs.Held.{Held}
use Rattle.model_arguments.specs.Asked.{IsAsked}
use Rattle.qc_model.specs.Arguments.{variables_of}
use Rattle.qc_model.specs.Lists.{Distinct}
use Rattle.dense_quiet.specs.Advice.{AdviceTells}
use Rattle.dense_quiet.specs.Guessing.{IsKept}
use Rattle.dense_close.proofs.Cuts.{asked}
use Rattle.dense_close.proofs.Indexed.{some_at}
use Rattle.dense_close.proofs.Looked.{one_rule}
use Rattle.dense_close.proofs.advising.cut_advised.Goals as goal

pub cut_term-requires-clause-room : goal.cut_term-requires-clause-room
cut_term-requires-clause-room c =
    let box = c.args.remains.now.box in
    let r = some_at c.args.problem.now.constraints c.args.c.0 c.requires.c in
    (subst (λ a. AdviceTells a r.0 box) c.in-Room.is (c.requires.tells r.0 r.1)).0

pub cut_term-requires-clause-tells : goal.cut_term-requires-clause-tells
cut_term-requires-clause-tells c = λ r e. (subst (λ a. AdviceTells a r c.args.remains.now.box) c.in-Room.is (c.requires.tells r e)).1

pub kept_by_ends-kept-requires : goal.kept_by_ends-kept-requires
kept_by_ends-kept-requires c =
    let g = c.args.problem.now in
    subst (λ (h : Held). IsAsked g c.constraint.result.now h.box) (sym c.store.ensures) (asked g c.known.ensures c.args.remains.now.box c.requires.declared c.requires.full c.args.c.0 c.constraint.result.now c.constraint.ensures)

pub cut_outside-requires-clause-told : goal.cut_outside-requires-clause-told
cut_outside-requires-clause-told c = λ sure.
    let g = c.args.problem.now in
    let r = c.constraint.result.now in
    let box = c.args.remains.now.box in
    let s = c.kept_by_ends-kept.result.stretch in
    let apart : Distinct (variables_of r.args) = subst (λ a. AdviceTells a r box) c.in-Ends.is (c.requires.tells r c.constraint.ensures) in
    let kept : IsKept r c.args.x.0 box s.low s.high = subst (λ (h : Held). IsKept r c.args.x.0 h.box s.low s.high) c.store.ensures (c.kept_by_ends-kept.ensures.kept sure apart) in
    one_rule g c.args.c.0 r c.constraint.ensures (λ z. IsKept z c.args.x.0 box s.low s.high) kept
