use Rattle.std.proofs.Common.{sym, subst}
use Rattle.proof_text.specs.declared.front.Front.{Front}
use Rattle.proof_text.specs.Fronts.{FrontGoes}
use Rattle.proof_text.proofs.front.read_front.Goals as goal

pub returns-in-Letters : goal.returns-in-Letters
returns-in-Letters c = λ version. subst (λ (front : Front). FrontGoes version front c.args.byte c.word_byte.result) (sym c.in-Letters.is) (c.word_byte.ensures version)

pub returns-in-Digit : goal.returns-in-Digit
returns-in-Digit c = λ version. subst (λ (front : Front). FrontGoes version front c.args.byte c.digit_byte.result) (sym c.in-Digit.is) (c.digit_byte.ensures version)

pub returns-in-FirstEnd : goal.returns-in-FirstEnd
returns-in-FirstEnd c = λ version. subst (λ (front : Front). FrontGoes version front c.args.byte c.first_end.result) (sym c.in-FirstEnd.is) (c.first_end.ensures version)

pub returns-in-SecondLine : goal.returns-in-SecondLine
returns-in-SecondLine c = λ version. subst (λ (front : Front). FrontGoes version front c.args.byte c.second_line.result) (sym c.in-SecondLine.is) (c.second_line.ensures version)

pub returns-in-Optimum : goal.returns-in-Optimum
returns-in-Optimum c = λ version. subst (λ (front : Front). FrontGoes version front c.args.byte c.optimum_byte.result) (sym c.in-Optimum.is) (c.optimum_byte.ensures version)

pub returns-in-Value : goal.returns-in-Value
returns-in-Value c = λ version. subst (λ (front : Front). FrontGoes version front c.args.byte c.value_byte.result) (sym c.in-Value.is) (c.value_byte.ensures version)

pub returns-in-Turns : goal.returns-in-Turns
returns-in-Turns c = λ version. subst (λ (front : Front). FrontGoes version front c.args.byte c.turns_byte.result) (sym c.in-Turns.is) (c.turns_byte.ensures version)
