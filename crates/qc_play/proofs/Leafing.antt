-- A leaf that goes on, as the join and the gathering take it.
use Rattle.std.proofs.Common.{◌≡◌, ℕ, suc, ◌+◌, ◌≤◌, List, [], ◌∷◌, ◌++◌, map, sym, subst, arith, ℤ}
use Rattle.qc_model.specs.Content.{Game}
use Rattle.qc_model.specs.Verdict.{Verdict, seen_node}
use Rattle.joins.specs.declared.joins.Joins.{Joins}
use Rattle.joins.specs.Joins.{IsLong, LeafFits, StandsAt}
use Rattle.joins.specs.Ends.{IsOfEnds}
use Rattle.joins.proofs.Ends.{ends_sizes}
use Rattle.joins.proofs.Sizing.{leaf_fits}
use Rattle.proof_tree.specs.Finding.{Finding, Leaf, leaf_node, seen_of}
use Rattle.qc_play.specs.declared.gathering.Gathering.{Gathering}
use Rattle.qc_play.specs.Gathers.{Gathers, IsSameScope}
use Rattle.qc_play.specs.Walk.{HasSeen}
use Rattle.qc_play.proofs.Tellings.{seen_more}
use Rattle.qc_play.proofs.TreeSizes.{node_leaf}

pub leaf_told : (g : Game) (i : ℕ) (js ks : Joins) (x y : Gathering) (w : List ℤ) (f : Finding) (u : Verdict) (ends n : ℕ) (ls : List Leaf) → HasSeen g i js x n ls → n + ends ≤ 1073741824 → IsSameScope x y → IsLong g (suc i) f.verdict → IsOfEnds ends f.verdict → u ≡ f.verdict →
    (LeafFits g i (map seen_of ls) u → StandsAt ks i (map seen_of ls ++ seen_node u ∷ [])) → Gathers y (ls ++ leaf_node w f ∷ []) → HasSeen g i ks y (n + ends) (ls ++ leaf_node w f ∷ [])
leaf_told g i js ks x y w f u ends n ls h few same long come e stands gathers =
    let fits = leaf_fits g i (n + 1) ends (map seen_of ls) f.verdict long (ends_sizes n (map seen_of ls) h.ends) come.sized (omega (arith, few)) in
    seen_more g i js ks x y n ends ls (leaf_node w f ∷ []) h same
    (subst (λ v. StandsAt ks i (map seen_of ls ++ seen_node v ∷ [])) e (stands (subst (LeafFits g i (map seen_of ls)) (sym e) fits)))
    gathers (node_leaf g i ends w f (record { long = long; ends = come }))
