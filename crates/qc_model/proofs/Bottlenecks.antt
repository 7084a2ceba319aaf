-- Each universal scope may have its list exactly where there is no first bottleneck.
use Rattle.std.proofs.Common.{◌≡◌, ℕ, Bool, true, false, not, ◌&&◌, ◌||◌, List, [], ◌∷◌, refl, ap, ◌∙◌, cond, is_none, is_some, Option, Some, None}
use Rattle.std.specs.List.{list_all}
use Rattle.qc_model.specs.declared.problem.Kind.{Kind}
use Rattle.qc_model.specs.declared.problem.Kind.TheVariants.{Exists, Forall}
use Rattle.qc_model.specs.declared.problem.Target.{Target}
use Rattle.qc_model.specs.declared.problem.Target.TheVariants.{Var, Aggregate as Agg}
use Rattle.qc_model.specs.declared.problem.Condition.{Condition}
use Rattle.qc_model.specs.declared.problem.Scope.{Scope}
use Rattle.qc_model.specs.Content.{Game}
use Rattle.qc_model.specs.Block.{of_kind}
use Rattle.qc_model.specs.Demands.{demands_after}
use Rattle.qc_model.specs.Bottlenecks.{is_bottleneck, names_no_other, bottleneck_last, bottlenecks_last, lesser, followed, least_followed, first_bottleneck}

lesser_none : (a b : Option ℕ) → (is_none a && is_none b) ≡ is_none (lesser a b)
lesser_none None b = refl
lesser_none (Some m) None = refl
lesser_none (Some m) (Some n) = refl

followed_none : (g : Game) (t : Target) (d : List Condition) → (not (is_bottleneck g t) || list_all (λ b. names_no_other t b.target) d) ≡ is_none (followed g t d)
followed_none g (Var x) d = refl
followed_none g (Agg q) d = by (not (is_bottleneck g (Agg q)) || list_all (λ b. names_no_other (Agg q) b.target) d)
  where
    by : (b : Bool) → b ≡ is_none (cond b None (Some q.0))
    by true = refl
    by false = refl

last_none : (g : Game) (d : List Condition) → bottleneck_last g d ≡ is_none (least_followed g d)
last_none g [] = refl
last_none g (c ∷ d) =
    ap (λ b. b && bottleneck_last g d) (followed_none g c.target d)
    ∙ ap (λ b. is_none (followed g c.target d) && b) (last_none g d)
    ∙ lesser_none (followed g c.target d) (least_followed g d)

kind_none : (k : Kind) (g : Game) (d : List Condition) → of_kind k true (bottleneck_last g d) ≡ is_none (of_kind k None (least_followed g d))
kind_none Exists g d = refl
kind_none Forall g d = last_none g d

pub bottlenecks_none : (g : Game) (scopes : List Scope) (d : List Condition) → bottlenecks_last g scopes d ≡ is_none (first_bottleneck g scopes d)
bottlenecks_none g [] d = refl
bottlenecks_none g (s ∷ scopes) d =
    let e = demands_after g s.kind s.condition d in
    ap (λ b. b && bottlenecks_last g scopes e) (kind_none s.kind g d)
    ∙ ap (λ b. is_none (of_kind s.kind None (least_followed g d)) && b) (bottlenecks_none g scopes e)
    ∙ lesser_none (of_kind s.kind None (least_followed g d)) (first_bottleneck g scopes e)

-- so where each may, there is none, and the other way round
pub none_first : (g : Game) (scopes : List Scope) (d : List Condition) → bottlenecks_last g scopes d ≡ true → first_bottleneck g scopes d ≡ None
none_first g scopes d h = by (first_bottleneck g scopes d) (bottlenecks_none g scopes d)
  where
    by : (o : Option ℕ) → bottlenecks_last g scopes d ≡ is_none o → o ≡ None
    by None e = refl
    by (Some n) e = let f : true ≡ false = cc in cc

pub all_last : (g : Game) (scopes : List Scope) (d : List Condition) → first_bottleneck g scopes d ≡ None → bottlenecks_last g scopes d ≡ true
all_last g scopes d h = bottlenecks_none g scopes d ∙ ap is_none h

pub none_answer : (o : Option ℕ) (r : Bool) → not r ≡ is_some o → r ≡ is_none o
none_answer None true e = refl
none_answer None false e = cc
none_answer (Some n) true e = cc
none_answer (Some n) false e = refl
