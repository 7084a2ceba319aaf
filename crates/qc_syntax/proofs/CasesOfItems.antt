-- Worked cases of reading: a text that is written as a problem is, and is refused for what its items say.
use Rattle.std.proofs.Common.{refl, ℕ, zero, suc, ◌+◌, List, [], ◌∷◌, ◌++◌, None, Some, codes, pos, negsuc}
use Rattle.std.specs.List.{repeat}
use Rattle.qc_model.specs.declared.problem.Sense.TheVariants.{Min}
use Rattle.text_grammar.specs.declared.tree.One.TheVariants.{Name as OneName, Number as OneNumber}
use Rattle.text_grammar.specs.declared.tree.Members.TheVariants.{Range}
use Rattle.text_grammar.specs.declared.tree.DomainText.TheVariants.{Members as MembersDomain}
use Rattle.text_grammar.specs.declared.tree.ArgumentText.TheVariants.{One as OneArgument, Array}
use Rattle.text_grammar.specs.declared.tree.FoldText.TheVariants.{Sum as SumFold, Greatest as GreatestFold}
use Rattle.text_grammar.specs.declared.tree.Item.{Item}
use Rattle.text_grammar.specs.declared.tree.Item.TheVariants.{Exists as ExistsItem, Forall as ForallItem, Goal as GoalItem, Variable, Aggregate as AggregateItem, Constraint}
use Rattle.text_resolve.specs.declared.refusal.RefusalKind.TheVariants.{DuplicateName as NameRepeated, UnknownName as NameUnknown, UnknownPredicate as PredicateUnknown, WrongArguments as ArgumentsWrong, OutOfRange as NumberFar, EmptyDomain as DomainEmpty, TooWide as DomainWide, TooMany as Excess, NotVisible as Hidden, BottleneckFirst as Followed}
use Rattle.qc_syntax.specs.declared.fault.Refused13.TheVariants.{DuplicateName, UnknownName, UnknownPredicate, WrongArguments, OutOfRange, EmptyDomain, TooWide, TooMany, NotVisible, BottleneckFirst}
use Rattle.text_resolve.specs.Draft.{game_of}
use Rattle.qc_syntax.specs.Reads.{Reads, Refuses}
use Rattle.qc_syntax.proofs.CaseWords.{reading, word, figure, faulty, read}

abbrev twice : List ℕ
twice = codes "exists; var 0..1: x; var 0..1: x; goal; solve;"

abbrev twice_items : List Item
twice_items =
    ExistsItem 0 None ∷
    Variable 8 (MembersDomain (Range (figure 12 (pos 0)) (figure 15 (pos 1)))) (word 18 19) ∷
    Variable 21 (MembersDomain (Range (figure 25 (pos 0)) (figure 28 (pos 1)))) (word 31 32) ∷
    GoalItem ∷
    []

-- a name that is declared twice is refused where it is declared again
declared_twice : Refuses twice DuplicateName 31
unfolding reading
declared_twice = faulty twice twice_items NameRepeated 31 refl refl (record { arranged = refl; written = refl }) refl

abbrev undeclared : List ℕ
undeclared = codes "goal; constraint int_le(x,1); solve;"

abbrev undeclared_items : List Item
undeclared_items =
    GoalItem ∷ Constraint 6 (word 17 23) (OneArgument (OneName (word 24 25)) ∷ OneArgument (OneNumber (figure 26 (pos 1))) ∷ []) ∷ []

-- a name that is declared nowhere is refused where it is used
declared_nowhere : Refuses undeclared UnknownName 24
unfolding reading
declared_nowhere = faulty undeclared undeclared_items NameUnknown 24 refl refl (record { arranged = refl; written = refl }) refl

abbrev power : List ℕ
power = codes "goal; constraint int_pow(2,2,4); solve;"

abbrev power_items : List Item
power_items =
    GoalItem ∷
    Constraint 6 (word 17 24) (OneArgument (OneNumber (figure 25 (pos 2))) ∷ OneArgument (OneNumber (figure 27 (pos 2))) ∷ OneArgument (OneNumber (figure 29 (pos 4))) ∷ []) ∷
    []

-- a constraint of no predicate is refused at its name, even if it would hold
no_predicate : Refuses power UnknownPredicate 17
unfolding reading
no_predicate = faulty power power_items PredicateUnknown 17 refl refl (record { arranged = refl; written = refl }) refl

abbrev short : List ℕ
short = codes "goal; constraint int_le(1); solve;"

abbrev short_items : List Item
short_items = GoalItem ∷ Constraint 6 (word 17 23) (OneArgument (OneNumber (figure 24 (pos 1))) ∷ []) ∷ []

-- a constraint with too few arguments is refused at its name
too_few_arguments : Refuses short WrongArguments 17
unfolding reading
too_few_arguments = faulty short short_items ArgumentsWrong 17 refl refl (record { arranged = refl; written = refl }) refl

abbrev far : List ℕ
far = codes "exists; var 1000000001..1000000001: x; goal; solve;"

abbrev far_items : List Item
far_items =
    ExistsItem 0 None ∷
    Variable 8 (MembersDomain (Range (figure 12 (pos 1000000001)) (figure 24 (pos 1000000001)))) (word 36 37) ∷
    GoalItem ∷
    []

-- a number above 1,000,000,000 is refused where it begins, though 64 bits hold it
past_the_numbers : Refuses far OutOfRange 12
unfolding reading
past_the_numbers = faulty far far_items NumberFar 12 refl refl (record { arranged = refl; written = refl }) refl

abbrev downwards : List ℕ
downwards = codes "exists; var 3..1: x; goal; solve;"

abbrev downwards_items : List Item
downwards_items =
    ExistsItem 0 None ∷ Variable 8 (MembersDomain (Range (figure 12 (pos 3)) (figure 15 (pos 1)))) (word 18 19) ∷ GoalItem ∷ []

-- a range from a number down to a lesser one has no value, so a variable of it is refused where the domain begins
no_value : Refuses downwards EmptyDomain 12
unfolding reading
no_value = faulty downwards downwards_items DomainEmpty 12 refl refl (record { arranged = refl; written = refl }) refl

abbrev wide : List ℕ
wide = codes "exists; var 0..1048576: x; goal; solve;"

abbrev wide_items : List Item
wide_items =
    ExistsItem 0 None ∷ Variable 8 (MembersDomain (Range (figure 12 (pos 0)) (figure 15 (pos 1048576)))) (word 24 25) ∷ GoalItem ∷ []

-- a domain of 1,048,577 values is one value too wide, and is refused where it begins
one_too_wide : Refuses wide TooWide 12
unfolding reading
one_too_wide = faulty wide wide_items DomainWide 12 refl refl (record { arranged = refl; written = refl }) refl

-- 65 universal scopes, with nothing in them
abbrev many : List ℕ
many = repeat 65 (codes "forall; ") ++ codes "goal; solve;"

-- so many heads of universal scopes, the first at this place
abbrev heads : ℕ → ℕ → List Item
heads zero at = []
heads (suc n) at = ForallItem at ∷ heads n (at + 8)

-- a scope after 64 others is refused where it begins
scope_65 : Refuses many TooMany 512
unfolding reading
scope_65 = faulty many (heads 65 0 ++ GoalItem ∷ []) Excess 512 refl refl (record { arranged = refl; written = refl }) refl

abbrev skipped : List ℕ
skipped = codes "exists minimize g; forall; forall; var 0..1: t; aggregate g = sum(t); goal; solve;"

abbrev skipped_items : List Item
skipped_items =
    ExistsItem 0 (Some (record { sense = Min; target = word 16 17 })) ∷
    ForallItem 19 ∷
    ForallItem 27 ∷
    Variable 35 (MembersDomain (Range (figure 39 (pos 0)) (figure 42 (pos 1)))) (word 45 46) ∷
    AggregateItem 48 (word 58 59) SumFold (word 66 67) ∷
    GoalItem ∷
    []

-- a condition sees the aggregate of the next universal scope alone: one past it is refused where the condition names it
past_the_next : Refuses skipped NotVisible 16
unfolding reading
past_the_next = faulty skipped skipped_items Hidden 16 refl refl (record { arranged = refl; written = refl }) refl

-- a sum is asked for after the greatest: the nearer condition is asked for first
abbrev greatest_first : List ℕ
greatest_first = codes "exists minimize s; exists minimize m; forall; var 1..2: t; aggregate s = sum(z); aggregate m = greatest(w) else 0; exists; var 0..3: z; var 0..3: w; constraint int_lin_le([1,-1,-1],[t,z,w],0); goal; solve;"

abbrev greatest_first_items : List Item
greatest_first_items =
    ExistsItem 0 (Some (record { sense = Min; target = word 16 17 })) ∷
    ExistsItem 19 (Some (record { sense = Min; target = word 35 36 })) ∷
    ForallItem 38 ∷
    Variable 46 (MembersDomain (Range (figure 50 (pos 1)) (figure 53 (pos 2)))) (word 56 57) ∷
    AggregateItem 59 (word 69 70) SumFold (word 77 78) ∷
    AggregateItem 81 (word 91 92) (GreatestFold (figure 112 (pos 0))) (word 104 105) ∷
    ExistsItem 115 None ∷
    Variable 123 (MembersDomain (Range (figure 127 (pos 0)) (figure 130 (pos 3)))) (word 133 134) ∷
    Variable 136 (MembersDomain (Range (figure 140 (pos 0)) (figure 143 (pos 3)))) (word 146 147) ∷
    Constraint 149 (word 160 170) (
    Array 171 (OneNumber (figure 172 (pos 1)) ∷ OneNumber (figure 174 (negsuc 0)) ∷ OneNumber (figure 177 (negsuc 0)) ∷ []) ∷
    Array 181 (OneName (word 182 183) ∷ OneName (word 184 185) ∷ OneName (word 186 187) ∷ []) ∷
    OneArgument (OneNumber (figure 189 (pos 0))) ∷
    []
    ) ∷
    GoalItem ∷
    []

-- so the greatest is refused where it begins
greatest_before_sum : Refuses greatest_first BottleneckFirst 81
unfolding reading
greatest_before_sum = faulty greatest_first greatest_first_items Followed 81 refl refl (record { arranged = refl; written = refl }) refl

abbrev second : List ℕ
second = codes "forall; var 0..1: t; aggregate f = sum(t); aggregate g = sum(t); goal; solve;"

abbrev second_items : List Item
second_items =
    ForallItem 0 ∷
    Variable 8 (MembersDomain (Range (figure 12 (pos 0)) (figure 15 (pos 1)))) (word 18 19) ∷
    AggregateItem 21 (word 31 32) SumFold (word 39 40) ∷
    AggregateItem 43 (word 53 54) SumFold (word 61 62) ∷
    GoalItem ∷
    []

-- a scope may have a second aggregate
second_aggregate : Reads second (game_of second second_items)
unfolding reading
second_aggregate = read second second_items (game_of second second_items) refl refl (record { arranged = refl; written = refl }) refl refl
