use Rattle.std.proofs.Common.{◌≡◌, ◌++◌, arith, append_assoc, get_or, pos}
use Rattle.std.proofs.lemmas.Grind.{common_steps}
use Rattle.std.proofs.lemmas.Int.{to_z-of_z}
use Rattle.qc_model.specs.Canonical.{literal_text}
use Rattle.qc_print.proofs.arguments.put_other_literals.Goals as goal

pub loop-number-preserved : goal.loop-number-preserved
loop-number-preserved c =
    let v = get_or c.args.numbers.now c.loop-number.number-index (pos 0) in
    let told : c.put_literal.new.out.items ≡ c.push.new.self.items ++ literal_text c.args.sort v = grind (arith, to_z-of_z, c.in_ok-put_literal.ensures) in
    grind (arith, common_steps, told, append_assoc)
