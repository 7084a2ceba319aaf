use Rattle.std.proofs.Common.{◌≡◌, length, false, arith, rules, sym, get_or, ◌∙◌}
use Rattle.std.proofs.lemmas.List.Sums.{prefix_len_is}
use Rattle.qdimacs.specs.Tokens.{is_in_token}
use Rattle.qdimacs.proofs.piece.count_in_token.Goals as goal

pub returns-then-not-is_in_token-clause-count : goal.returns-then-not-is_in_token-clause-count
returns-then-not-is_in_token-clause-count c =
    let here : is_in_token (get_or c.args.bytes.now c.loop-i.i 0) ≡ false = sym c.is_in_token.ensures ∙ (search rules) in
    sym (prefix_len_is is_in_token c.args.bytes.now c.loop-i.i 0 (omega arith) c.loop-i.invariant (λ _. here))

pub returns-clause-count : goal.returns-clause-count
returns-clause-count c =
    let end : length c.args.bytes.now ≡ c.loop-i.i = omega arith in
    end ∙ sym (prefix_len_is is_in_token c.args.bytes.now c.loop-i.i 0 (omega arith) c.loop-i.invariant (λ h. absurd (omega arith)))
