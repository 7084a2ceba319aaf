use Rattle.std.proofs.Common.{◌≡◌, ◌∷◌, sym, subst}
use Rattle.check_lines.specs.Passed.{is_in_case}
use Rattle.check_lines.proofs.nesting.is_case.Goals as goal

pub returns-in-Next : goal.returns-in-Next
returns-in-Next c = λ fs. subst (λ f. c.is_branch.result ≡ is_in_case (f ∷ c.args.around ∷ fs)) (sym c.in-Next.is) (c.is_branch.ensures c.in-Next.horizon fs)
