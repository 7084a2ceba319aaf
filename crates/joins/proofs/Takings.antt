-- What joins of either kind stand for, where the cases of a leaf are many.
use Rattle.std.proofs.Common.{◌≡◌, ℕ, suc, List, [], ◌∷◌, ◌++◌, sym, ◌∙◌, ap, Some, arith, subst}
use Rattle.std.specs.Prelude.{ℤ, ◌+◌, slice_get}
use Rattle.qc_model.specs.Verdict.{Verdict, Seen, seen_bound, seen_node}
use Rattle.qc_model.specs.declared.problem.Kind.{Kind}
use Rattle.qc_model.specs.declared.problem.Kind.TheVariants.{Exists as ByPlayer}
use Rattle.qc_model.specs.declared.problem.Scope.{Scope}
use Rattle.qc_model.specs.Content.{Game}
use Rattle.qc_model.specs.Demands.{demands, demands_after}
use Rattle.joins.specs.declared.exists_join.ExistsJoin.{ExistsJoin}
use Rattle.joins.specs.declared.forall_join.ForallJoin.{ForallJoin}
use Rattle.joins.specs.ExistsJoin.{JoinsScope as JoinsPlayer, condition_of}
use Rattle.joins.specs.Columns.{IsSmall}
use Rattle.joins.proofs.Gathered.{gathers_bound}
use Rattle.joins.proofs.DemandSteps.{demands_step}
use Rattle.joins.specs.declared.scope_join.ScopeJoin.{ScopeJoin}
use Rattle.joins.specs.declared.scope_join.ScopeJoin.TheVariants.{Forall}
use Rattle.joins.specs.ScopeJoins.{StandsFor, JoinsExists}

pub bound_kept : (old : ScopeJoin) (j : ForallJoin) (m : ℤ) (xs : List Seen) → old ≡ Forall j → StandsFor old xs → StandsFor (Forall j) (xs ++ seen_bound m ∷ [])
bound_kept old j m xs e g =
    gathers_bound j.columns.items j.any_lost j.all_exact j.all_known j.has_exact j.any_known j.known xs m (subst (λ (z : ScopeJoin). StandsFor z xs) e g)

-- a new join of the player's scope
pub joins_player : (g : Game) (i : ℕ) (s r : Scope) (j : ExistsJoin) → slice_get g.scopes i ≡ Some s → slice_get g.scopes i ≡ Some r → r.kind ≡ ByPlayer → JoinsPlayer g i j → JoinsExists g i s j
joins_player g i s r j e h k p =
    let same : r ≡ s = cc in
    let own : condition_of (slice_get g.scopes i) ≡ s.condition = ap condition_of e in
    let next : i + 1 ≡ suc i = omega arith in
    let d : demands g (i + 1) ≡ demands g (suc i) = ap (demands g) next in
    let after = demands_step g i s e in
    let kind : s.kind ≡ ByPlayer = ap (λ (z : Scope). z.kind) (sym same) ∙ k in
    record {
      kind = kind;
      condition = p.condition ∙ own;
      list = p.list ∙ d;
      after = p.list ∙ after ∙ ap (λ (z : Kind). demands_after g z s.condition (demands g i)) kind;
    }

pub small_as : (xs : List Seen) (v w : Verdict) → v ≡ w → IsSmall (xs ++ seen_node v ∷ []) → IsSmall (xs ++ seen_node w ∷ [])
small_as xs v w e s = subst (λ (z : Verdict). IsSmall (xs ++ seen_node z ∷ [])) e s
