use Rattle.std.proofs.Common.{◌≡◌, ◌∙◌, rules, sym, ap, subst, arith, length, [], ◌∷◌, w64}
use Rattle.std.proofs.lemmas.Int.{to_z-of_z}
use mir.Val.{SFits}
use Rattle.qc_model.specs.Content.{Game}
use Rattle.qc_model.specs.Verdict.{exact, seen_node}
use Rattle.joins.specs.Joins.{game_of, out_of, LeafFits, StandsAt}
use Rattle.game_search.proofs.Roots.{reached_fits, some_first}
use Rattle.game_search.proofs.beside.reach.Goals as goal

pub clear-requires : goal.clear-requires
clear-requires c = some_first (game_of c.args.joins.now).scopes c.requires.first

pub hand_out-requires : goal.hand_out-requires
hand_out-requires c =
    let some = some_first (game_of c.args.joins.now).scopes c.requires.first in
    omega (arith, some, ap length c.as_slice.ensures, ap (λ (g : Game). length g.scopes) c.clear.ensures.same)

pub add_node-requires : goal.add_node-requires
add_node-requires c =
    let some = some_first (game_of c.args.joins.now).scopes c.requires.first in
    omega (arith, some, ap (λ (g : Game). length g.scopes) (c.hand_out.ensures.same ∙ c.clear.ensures.same))

pub returns-clause-stands : goal.returns-clause-stands
returns-clause-stands c =
    let g = game_of c.args.joins.now in
    let v = c.args.value in
    let mid = c.hand_out.new.self in
    let fits : SFits w64 v = search rules in
    let same : game_of mid ≡ g = c.hand_out.ensures.same ∙ c.clear.ensures.same in
    let passed : c.as_slice.result.now ≡ v ∷ [] = simp to_z-of_z at c.as_slice.ensures in
    let out : out_of mid ≡ v ∷ [] = c.hand_out.ensures.out ∙ passed in
    let leaf = subst (λ (f : Game). LeafFits f 0 [] (exact (v ∷ []))) (sym same) (reached_fits g v c.requires.first c.requires.small) in
    subst (λ vs. StandsAt c.add_node.new.self 0 (seen_node (exact vs) ∷ [])) out
    (c.add_node.ensures.stands [] (c.hand_out.ensures.all 0 [] c.clear.ensures.stands) (subst (λ vs. LeafFits (game_of mid) 0 [] (exact vs)) (sym out) leaf))
