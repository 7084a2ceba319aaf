use Rattle.std.proofs.Common.{◌≡◌, ◌∙◌, sym, true, false, arith}
use Rattle.std.proofs.lemmas.Int.{to_z-of_z}
use Rattle.zero_sum.specs.Refusals.{HasRoom}
use Rattle.zero_sum.proofs.Valid.{draft_is_valid}
use Rattle.zero_sum.proofs.made.bounded.Goals as goal

pub unreachable-requires : goal.unreachable-requires
unreachable-requires c =
    let fits = c.ranges.v in
    let room : HasRoom c.args.problem.now c.args.v = (sym (simp to_z-of_z at c.is_number.ensures) ∙ c.if-not-is_number.false, omega arith) in
    let valid = draft_is_valid c.args.problem.now c.in_ok-bounded_draft.field-0 c.args.stake c.args.v c.known.ensures c.requires room (simp to_z-of_z at c.in_ok-bounded_draft.ensures) in
    let k : false ≡ true = c.in-None.ensures.exact.1 valid in
    cc
