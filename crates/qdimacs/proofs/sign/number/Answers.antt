use Rattle.std.proofs.Common.{sym, ◌∙◌}
use Rattle.qdimacs.proofs.Digits.{is_number_from, all_digits_from}
use Rattle.qdimacs.proofs.sign.number.Goals as goal

pub value-requires-clause-digits : goal.value-requires-clause-digits
value-requires-clause-digits c =
    all_digits_from c.args.bytes.now c.in-Some.first.now c.in-Some.rest.now c.in-Some.ensures.cases.0 c.if-first-ge49.true c.if-first-le57.true (sym c.are_digits.ensures ∙ c.if-are_digits.true)

pub returns-then-are_digits : goal.returns-then-are_digits
returns-then-are_digits c =
    is_number_from c.args.bytes.now c.in-Some.first.now c.in-Some.rest.now c.value.result c.in-Some.ensures.cases.0 c.if-first-ge49.true c.if-first-le57.true c.if-rest-le8.true (sym c.are_digits.ensures ∙ c.if-are_digits.true) c.value.ensures
