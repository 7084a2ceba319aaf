use Rattle.std.proofs.Common.{◌≡◌, ◌∙◌, ap, subst, Some, ◌∷◌}
use Rattle.check_lines.specs.declared.open.Open.TheVariants.{Next}
use Rattle.check_lines.specs.Places.{rest}
use Rattle.check_lines.specs.Machine.{game_of, before_of}
use Rattle.check_lines.specs.Telling.{Tells}
use Rattle.check_lines.proofs.Closes.{scope_is_part, scope_is_root}
use Rattle.check_lines.proofs.machine.Machine.close_part.Goals as goal

pub returns-in-Some-Next-clause-tells : goal.returns-in-Some-Next-clause-tells
returns-in-Some-Next-clause-tells c = λ n d es xs p.
    let m = c.args.self.now in
    let b = c.in-Some-Next in
    let first : m.nesting ≡ Next b.field-0-0 ∷ rest m.nesting = b.ensures.some ∙ ap (λ f. f ∷ rest m.nesting) b.field-0-is in
    subst (λ q. Tells c.close_scope.new.self (Some q)) (scope_is_part (game_of m) m.remains m.values.items m.joins d m.number m.horizon b.field-0-0 xs (before_of m) (rest m.nesting) m.nesting es first p.part.entries) (c.close_scope.ensures.tells n d es xs p)

pub returns-in-None-clause-tells : goal.returns-in-None-clause-tells
returns-in-None-clause-tells c = λ n d es xs p.
    let m = c.args.self.now in
    subst (λ q. Tells c.close_scope-in-None.new.self (Some q)) (scope_is_root (game_of m) m.remains m.values.items m.joins d m.number m.horizon xs (before_of m) m.nesting es c.in-None.ensures.none p.part.entries) (c.close_scope-in-None.ensures.tells n d es xs p)
