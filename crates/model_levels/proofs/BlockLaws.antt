-- Where blocks end, from one scope to the next.
use Rattle.std.proofs.Common.{◌≡◌, ◌∙◌, sym, ap, ℕ, ◌+◌, List, drop, Option, Some, None, add-one, refl}
use Rattle.std.specs.Prelude.{slice_get}
use Rattle.std.specs.Option.{option_map}
use Rattle.qc_model.specs.declared.problem.Kind.{Kind}
use Rattle.qc_model.specs.declared.problem.Scope.{Scope}
use Rattle.qc_model.specs.Block.{of_kind, block_stop, force_stop}
use Rattle.model_levels.proofs.Items.{drop_at}

pub stop_here : (ss : List Scope) (i : ℕ) (s : Scope) → slice_get ss i ≡ Some s → block_stop (drop i ss) i ≡ of_kind s.kind (block_stop (drop (i + 1) ss) (i + 1)) i
stop_here ss i s e =
    ap (λ ks. block_stop ks i) (drop_at i ss s e) ∙ ap (λ n. of_kind s.kind (block_stop (drop n ss) n) i) (sym (add-one i))

pub force_here : (ss : List Scope) (i : ℕ) (k : Kind) → option_map (λ (s : Scope). s.kind) (slice_get ss i) ≡ Some k → force_stop (drop i ss) i ≡ of_kind k (block_stop (drop (i + 1) ss) (i + 1)) (i + 1)
force_here ss i k e = by (slice_get ss i) refl e
  where
    by : (o : Option Scope) → slice_get ss i ≡ o → option_map (λ (s : Scope). s.kind) o ≡ Some k → force_stop (drop i ss) i ≡ of_kind k (block_stop (drop (i + 1) ss) (i + 1)) (i + 1)
    by None q e = cc
    by (Some s) q e =
        let same : s.kind ≡ k = cc in
        ap (λ ks. force_stop ks i) (drop_at i ss s q)
        ∙ (ap (λ n. of_kind s.kind (block_stop (drop n ss) n) n) (sym (add-one i))
        ∙ ap (λ j. of_kind j (block_stop (drop (i + 1) ss) (i + 1)) (i + 1)) same)
