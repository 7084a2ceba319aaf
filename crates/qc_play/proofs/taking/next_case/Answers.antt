use Rattle.std.proofs.Common.{◌∙◌, sym, ap, subst, arith, rules, ◌∷◌, Some}
use Rattle.std.proofs.lemmas.Int.{to_z-of_z}
use mir.Val.{SFits}
use mir.Syntax.{w64}
use Rattle.qc_play.specs.Beginnings.{IsNextCase}
use Rattle.qc_play.proofs.PartLines.{cases_some, cases_dot, cases_range, cases_other, next_some, fewer_left}
use Rattle.qc_play.proofs.taking.next_case.Goals as goal

pub take-first-requires : goal.take-first-requires
take-first-requires c = let r = c.requires in cases_some c.args.lines.now r.0 r.1 r.2

pub take-requires : goal.take-requires
take-requires c =
    let r = c.requires in
    let h = cases_range c.in-Range.hi r.0 r.1 c.take-first.new.self (ap (λ l. l ∷ c.take-first.new.self) (sym c.in-Range.is) ∙ (sym c.take-first.ensures ∙ r.2)) in
    next_some _ c.take-first.new.self r.0 r.1 h

pub returns-in-Dot-clause-cases : goal.returns-in-Dot-clause-cases
returns-in-Dot-clause-cases c bs rest h = cases_dot bs rest c.take-first.new.self (ap (λ l. l ∷ c.take-first.new.self) (sym c.in-Dot.is) ∙ (sym c.take-first.ensures ∙ h))

pub returns-in-Range-clause-cases : goal.returns-in-Range-clause-cases
returns-in-Range-clause-cases c = λ bs rest h.
    let fits : SFits w64 c.in-Range.hi = search rules in
    simp to_z-of_z
    (subst (λ ls. IsNextCase (Some c.in-Range.hi) ls bs rest) c.take.ensures (cases_range c.in-Range.hi bs rest c.take-first.new.self (ap (λ l. l ∷ c.take-first.new.self) (sym c.in-Range.is) ∙ (sym c.take-first.ensures ∙ h))))

pub returns-in-Range-clause-shorter : goal.returns-in-Range-clause-shorter
returns-in-Range-clause-shorter c =
    let a = fewer_left c.take-first.result c.take-first.new.self c.args.lines.now c.take-first.ensures in
    let b = fewer_left c.take.result c.take.new.self c.take-first.new.self c.take.ensures in
    omega (arith, a, b)

pub returns-in_default : goal.returns-in_default
returns-in_default c =
    let less = fewer_left c.take-first.result c.take-first.new.self c.args.lines.now c.take-first.ensures in
    record {
      cases = λ bs rest h. cases_other bs rest c.take-first.new.self c.take-first.result c.in_default.not-Dot c.in_default.not-Range (sym c.take-first.ensures ∙ h);
      shorter = less;
    }
