use Rattle.std.proofs.Common.{◌≡◌, length, false, arith, rules, sym, get_or, ◌∙◌}
use Rattle.std.proofs.lemmas.List.Sums.{prefix_len_is}
use Rattle.qc_model.specs.Names.{is_word_byte}
use Rattle.qc_tokens.proofs.bytes.count_word_bytes.Goals as goal

pub returns-then-not-is_word_byte-clause-count : goal.returns-then-not-is_word_byte-clause-count
returns-then-not-is_word_byte-clause-count c =
    let here : is_word_byte (get_or c.args.bytes.now c.loop-i.i 0) ≡ false = sym c.is_word_byte.ensures ∙ (search rules) in
    sym (prefix_len_is is_word_byte c.args.bytes.now c.loop-i.i 0 (omega arith) c.loop-i.invariant (λ _. here))

pub returns-clause-count : goal.returns-clause-count
returns-clause-count c =
    let end : length c.args.bytes.now ≡ c.loop-i.i = omega arith in
    end ∙ sym (prefix_len_is is_word_byte c.args.bytes.now c.loop-i.i 0 (omega arith) c.loop-i.invariant (λ h. absurd (omega arith)))
