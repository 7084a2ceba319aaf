-- The root of a way through a game.
use Rattle.std.proofs.Common.{◌≡◌, ◌<◌, ◌∙◌, ℕ, Bool, List, [], ◌∷◌, length, refl, sym, ap, subst, arith, Option, None, ℤ}
use Rattle.qc_model.specs.declared.problem.Condition.{Condition}
use Rattle.qc_model.specs.declared.problem.Scope.{Scope}
use Rattle.qc_model.specs.Content.{Game}
use Rattle.qc_model.specs.Domains.{Box, declared_box}
use Rattle.qc_model.specs.Verdict.{Seen}
use Rattle.proof_tree.specs.Read.{read, root_finding}
use Rattle.proof_tree.specs.Tree.{Tree, tree, stuck, goal, cases}
use Rattle.proof_tree.specs.declared.line.Line.{Line}
use Rattle.joins.specs.Seen.{verdict_of}
use Rattle.joins.specs.declared.leaves.Found.{Found}
use Rattle.joins.specs.Joins.{StandsAt}
use Rattle.joins.specs.Verdicts.{own_at}
use Rattle.joins.specs.declared.joins.Joins.{Joins}
use Rattle.search_parts.specs.Settled.{beats_none}
use Rattle.search_walk.specs.Here.{Here, here_at}
use Rattle.search_walk.specs.Put.{NodePut}
use Rattle.game_search.specs.Attempted.{Attempted}

-- without a scope there is no condition
pub no_own : (g : Game) (t : Tree) (i : ℕ) (d : List Condition) (box : Box) → (read g t [] i d box).own ≡ None
no_own g (tree z stuck) i d box = refl
no_own g (tree z goal) i d box = refl
no_own g (tree z (cases steps end)) i d box = refl

-- the root
abbrev root : Bool → Game → Box → Here
root cuts g box = here_at cuts beats_none g 0 box None

pub root_told : (cuts : Bool) (g : Game) (turns : ℕ) (box : Box) (left : ℕ) (old new : List Line) (joins : Joins) (found : Found) (vector : List ℤ) (own : Option ℤ) → box ≡ declared_box g → old ≡ [] → NodePut (root cuts g box) (verdict_of found vector) turns left old new joins →
    (0 < length g.scopes → (xs : List Seen) → StandsAt joins 0 xs → own ≡ own_at g 0 xs) → (length g.scopes ≡ 0 → own ≡ None) → Attempted cuts g turns found own new
root_told cuts g turns box left old new joins found vector own b e w some none =
    let u = subst (λ (c : Box). NodePut (root cuts g c) (verdict_of found vector) turns left old new joins) b w in
    let w0 = subst (λ ls. NodePut (root cuts g (declared_box g)) (verdict_of found vector) turns left ls new joins) e u in
    record { left = left; vector = vector; root = w0.written; has_own = by g.scopes refl w0 }
  where
    by : (ss : List Scope) → g.scopes ≡ ss → (w : NodePut (root cuts g (declared_box g)) (verdict_of found vector) turns left [] new joins) → (root_finding g w.written.tree).own ≡ own
    by [] q w = ap (λ ss. (read g w.written.tree ss 0 [] (declared_box g)).own) q ∙ (no_own g w.written.tree 0 [] (declared_box g) ∙ sym (none (ap length q)))
    by (s ∷ ss) q w =
        let more : 0 < length g.scopes = omega (arith, ap length q) in
        let o = w.own more in
        o.is_own ∙ sym (some more o.stood o.stands)
