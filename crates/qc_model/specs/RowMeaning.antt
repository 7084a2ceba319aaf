-- What a predicate of the code says, as a meaning.
use Rattle.std.specs.Prelude.{cond}
use Rattle.qc_model.specs.declared.predicates.Meaning.{Meaning as MeaningOfCode}
use Rattle.qc_model.specs.declared.predicates.Meaning.TheVariants.{Equal, Different, AtMost, Below, SumEqual, SumDifferent, SumAtMost, Plus, Times, AbsoluteValue, Smaller, Greater, Quotient, Remainder, Element, VariableElement, Minimum, Maximum, Member, Both, Either, ExactlyOne, AllItems, SomeItem, OddItems, Clause, AllDifferent, Table}
use Rattle.qc_model.specs.declared.predicates.Said.{Said}
use Rattle.qc_model.specs.Meaning.{Meaning, equal, different, at_most, below, sum_equal, sum_different, sum_at_most, plus, times, absolute_value, smaller, greater, quotient, remainder, element, variable_element, minimum, maximum, member, both, either, exactly_one, all_items, some_item, odd_items, clause, all_different, table, reified}

-- a meaning of the code, and one with its last argument for its truth
abbrev pub plain_meaning : MeaningOfCode → Meaning
plain_meaning Equal = equal
plain_meaning Different = different
plain_meaning AtMost = at_most
plain_meaning Below = below
plain_meaning SumEqual = sum_equal
plain_meaning SumDifferent = sum_different
plain_meaning SumAtMost = sum_at_most
plain_meaning Plus = plus
plain_meaning Times = times
plain_meaning AbsoluteValue = absolute_value
plain_meaning Smaller = smaller
plain_meaning Greater = greater
plain_meaning Quotient = quotient
plain_meaning Remainder = remainder
plain_meaning Element = element
plain_meaning VariableElement = variable_element
plain_meaning Minimum = minimum
plain_meaning Maximum = maximum
plain_meaning Member = member
plain_meaning Both = both
plain_meaning Either = either
plain_meaning ExactlyOne = exactly_one
plain_meaning AllItems = all_items
plain_meaning SomeItem = some_item
plain_meaning OddItems = odd_items
plain_meaning Clause = clause
plain_meaning AllDifferent = all_different
plain_meaning Table = table

abbrev pub row_meaning : Said → Meaning
row_meaning s = cond s.reified (reified (plain_meaning s.meaning)) (plain_meaning s.meaning)
