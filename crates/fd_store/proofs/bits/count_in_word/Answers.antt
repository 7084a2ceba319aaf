use Rattle.std.proofs.Common.{◌∙◌, arith}
use Rattle.std.specs.Prelude.{◌==◌, ◌&&◌}
use Rattle.std.specs.Int.{bit_at}
use Rattle.fd_store.specs.Places.{is_inside, count_of_word}
use Rattle.fd_store.proofs.Counts.{ones_are, count_agree}
use Rattle.fd_store.proofs.bits.count_in_word.Goals as goal

pub returns : goal.returns
unfolding count_of_word
returns c =
    ones_are 64 c.picked.result (omega arith)
    ∙ count_agree (λ i. (bit_at c.args.word i == 1) && is_inside c.args.a c.args.e i) (λ i. bit_at c.picked.result i == 1) 64 c.picked.ensures
