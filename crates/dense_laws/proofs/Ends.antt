-- Where nobody goes on.
use Rattle.std.proofs.Common.{◌≡◌, ℕ, suc, ◌==◌, true, List, [], ◌∷◌, ◌++◌, length, sym, ap, subst, ◌∙◌, ℤ, Option}
use Rattle.qc_model.specs.declared.problem.Condition.{Condition}
use Rattle.qc_model.specs.declared.problem.Scope.{Scope}
use Rattle.qc_model.specs.Content.{Game}
use Rattle.qc_model.specs.Domains.{InBox, Box, declared_box}
use Rattle.qc_model.specs.Game.{before, restriction, allows}
use Rattle.qc_model.specs.Holds.{holds_on}
use Rattle.qc_model.specs.Plan.{Plan}
use Rattle.qc_model.specs.Optimal.{Optimal}
use Rattle.qc_model.specs.Refuted.{refuted_by}
use Rattle.qc_model.specs.Valid.{IsValid}
use Rattle.qc_model.specs.Verdict.{lost}
use Rattle.qc_model.specs.Visible.{ArgumentsBelow}
use Rattle.qc_model.proofs.Moves.{of_filter}
use Rattle.model_arguments.specs.Asked.{is_box_of}
use Rattle.model_laws.specs.Positions.{existential}
use Rattle.model_laws.proofs.Listed.{all_to}
use Rattle.model_table.proofs.Fits.{any_at}
use Rattle.proof_meaning.proofs.Blocks.{none_pass}
use Rattle.proof_meaning.proofs.Passing.{move_count}
use Rattle.proof_meaning.proofs.Premises.{sound_of}
use Rattle.proof_tree.specs.InPlace.{is_horizon}
use Rattle.dense_meaning.specs.Throughout.{IsOptimalWithin}
use Rattle.dense_meaning.proofs.Bits.{place_of}
use Rattle.dense_meaning.proofs.PlansLie.{lie_front}
use Rattle.dense_tree.specs.Place.{Setting, Place}
use Rattle.dense_tree.specs.Tuples.{some_fails}
use Rattle.dense_laws.specs.Says.{IsAt, NodeSays}
use Rattle.dense_laws.proofs.Choices.{chose}
use Rattle.dense_laws.proofs.Small.{sub_in_box, same_number}

-- where the box refutes a scope's restriction, no values in it satisfy it
pub refuted_fails : (g : Game) → IsValid g → (i : ℕ) (box : Box) (w : List ℤ) → is_box_of g box ≡ true → length w ≡ before g (suc i) → InBox w box → some_fails (restriction g i) box ≡ true → allows g i w ≡ true → ⊥
refuted_fails g valid i box w b n j f allowed =
    let r = sound_of g valid in
    let k = any_at (λ c. refuted_by c box) (restriction g i) f in
    let q = of_filter (λ c. c.owner.0 == i) k.0 g.constraints k.1 in
    let m = place_of g.constraints k.0 q.0 in
    let owner : k.0.owner.0 ≡ i = same_number k.0.owner.0 i q.1 in
    r.table m.0 k.0 box w m.1 (subst (λ z. ArgumentsBelow z k.0.args) (ap (λ z. before g (suc z)) owner ∙ sym n) (r.ordered.visible m.0 k.0 m.1))
    (sub_in_box w box (declared_box g) b j) k.2 j (all_to (λ c. holds_on c w) (restriction g i) allowed k.0 k.1)

-- at a scope of the player
module _ (s : Setting) (p : Place) (x : Option Condition) (later : List Scope) (e : p.later ≡ existential x ∷ later) where
  -- a restriction that fails bars all that is left
  pub barred_none : IsValid s.game → is_box_of s.game p.box ≡ true → some_fails (restriction s.game p.number) p.box ≡ true → (a : List ℤ) → IsAt s p a → (r : Plan) → ¬ IsOptimalWithin s.game p.later p.number p.box a r
  barred_none valid b f a at r o =
      let c = chose s p x later e a r o in
      refuted_fails s.game valid p.number p.box (a ++ c.tuple) b (move_count s.game p.number a c.tuple at.position.count c.is_move) (lie_front p.box c.after (a ++ c.tuple) c.lies) f c.is_move.is_allowed

  -- at a horizon the player is stuck
  pub horizon_lost : is_horizon p.horizon p.number ≡ true → NodeSays s p lost
  horizon_lost h a at r o =
      let c = chose s p x later e a r o in
      none_pass s.game p.number a c.tuple p.box p.horizon h at.blocked c.is_move (lie_front p.box c.after (a ++ c.tuple) c.lies)

-- a goal with a constraint that the box refutes
pub goal_fails : (s : Setting) (p : Place) → IsValid s.game → p.later ≡ [] → p.number ≡ length s.game.scopes → is_box_of s.game p.box ≡ true → some_fails (restriction s.game p.number) p.box ≡ true → NodeSays s p lost
goal_fails s p valid e n b f a at r o =
    let g = s.game in
    let ordered = (sound_of g valid).ordered in
    let q : Optimal g [] p.number a r = subst (λ ls. Optimal g ls p.number a r) e o.optimal in
    let wide : before g p.number ≡ before g (suc p.number) = ap (before g) n ∙ sym ordered.goal ∙ ap (λ z. before g (suc z)) (sym n) in
    refuted_fails g valid p.number p.box a b (at.position.count ∙ wide) at.position.lies f q.1
