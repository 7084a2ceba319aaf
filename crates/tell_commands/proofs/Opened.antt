-- The lines of the first scope, where there is one.
use Rattle.std.proofs.Common.{◌≡◌, ◌∙◌, List, [], ◌∷◌, Some, sym, ap}
use Rattle.std.specs.Prelude.{slice_get}
use Rattle.qc_model.specs.declared.problem.Kind.{Kind}
use Rattle.qc_model.specs.declared.problem.Scope.{Scope}
use Rattle.qc_model.specs.declared.problem.Variable.{Variable}
use Rattle.qc_model.specs.Content.{Game}
use Rattle.qc_model.specs.Plan.{Plan as Choices}
use Rattle.tell_commands.specs.Opening.{first_variables, opening_by, opening_at, opening_lines}

at_first : (own : Kind) (ss : List Scope) (s : Scope) (xs : List Variable) (tree : Choices) → slice_get ss 0 ≡ Some s → opening_at own ss xs tree ≡ opening_by own s.kind xs tree
at_first own [] s xs tree e = cc
at_first own (r ∷ later) s xs tree e = cc

pub opened : (g : Game) (own : Kind) (s : Scope) (xs : List Variable) (tree : Choices) → slice_get g.scopes 0 ≡ Some s → xs ≡ first_variables g →
    opening_by own s.kind xs tree ≡ opening_lines g own tree
opened g own s xs tree e f = ap (λ ys. opening_by own s.kind ys tree) f ∙ sym (at_first own g.scopes s (first_variables g) tree e)
