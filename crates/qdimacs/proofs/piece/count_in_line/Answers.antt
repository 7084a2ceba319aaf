use Rattle.std.proofs.Common.{◌≡◌, length, not, arith, sym, get_or, eq-eqb, ap, ◌∙◌}
use Rattle.std.proofs.lemmas.List.Sums.{prefix_len_is}
use Rattle.qdimacs.specs.Tokens.{is_in_line}
use Rattle.qdimacs.proofs.piece.count_in_line.Goals as goal

pub returns-then-byte-eq10-clause-count : goal.returns-then-byte-eq10-clause-count
returns-then-byte-eq10-clause-count c =
    sym (prefix_len_is is_in_line c.args.bytes.now c.loop-i.i 0 (omega arith) c.loop-i.invariant (λ _. ap not (eq-eqb (get_or c.args.bytes.now c.loop-i.i 0) 10 c.if-byte-eq10.true)))

pub returns-clause-count : goal.returns-clause-count
returns-clause-count c =
    let end : length c.args.bytes.now ≡ c.loop-i.i = omega arith in
    end ∙ sym (prefix_len_is is_in_line c.args.bytes.now c.loop-i.i 0 (omega arith) c.loop-i.invariant (λ h. absurd (omega arith)))
