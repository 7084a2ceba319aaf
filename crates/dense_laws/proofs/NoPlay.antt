-- Where no box within is closed, no play goes through.
use Rattle.std.proofs.Common.{◌≡◌, ℕ, zero, suc, ◌+◌, ◌≤◌, true, false, ◌&&◌, List, [], ◌∷◌, length, drop, refl, sym, ap, ◌∙◌, subst, arith, ℤ, Some}
use Rattle.std.specs.Prelude.{nat_le, nat_lt}
use Rattle.std.proofs.lemmas.Bool.Decides.{nat_tests}
use Rattle.qc_model.specs.declared.problem.Scope.{Scope}
use Rattle.qc_model.specs.Block.{block_stop, constraints_within}
use Rattle.qc_model.specs.Content.{Game}
use Rattle.qc_model.specs.Domains.{InBox, Box, declared_box, has_empty}
use Rattle.qc_model.specs.Game.{before}
use Rattle.qc_model.specs.Optimal.{Optimal}
use Rattle.qc_model.specs.Plan.{Plan}
use Rattle.qc_model.specs.Valid.{IsValid}
use Rattle.model_arguments.specs.Asked.{is_box_of}
use Rattle.model_arguments.proofs.Boxes.{sub_length}
use Rattle.proof_meaning.proofs.HorizonHolds.{Passes}
use Rattle.proof_meaning.proofs.Passing.{passes}
use Rattle.proof_meaning.proofs.Premises.{sound_of}
use Rattle.proof_tree.specs.Good.{MovesOn, IsBlocked}
use Rattle.dense_closing.specs.Takes.{Takes, NoneClosedBy}
use Rattle.dense_meaning.specs.Throughout.{IsPositionIn, PlaysLie}
use Rattle.dense_meaning.specs.Plays.{NeverStuck, IsPlay}
use Rattle.dense_meaning.proofs.Legal.{ahead}
use Rattle.dense_meaning.proofs.Staying.{follow, never_front}
use Rattle.dense_meaning.proofs.WholePlays.{whole, goes_moves, moves_count}
use Rattle.dense_laws.proofs.Close.{declared_of}
use Rattle.dense_laws.proofs.Points.{front_closed}
use Rattle.dense_laws.proofs.Small.{sub_in_box, full_drop}

behind_all : (n : ℕ) (box : Box) → length box ≤ n → has_empty (drop n box) ≡ false
behind_all zero [] l = refl
behind_all zero (d ∷ box) l = absurd (omega arith)
behind_all (suc n) [] l = refl
behind_all (suc n) (d ∷ box) l = behind_all n box (omega arith)

wider : (x y m n : ℕ) → m ≤ n → (nat_le x y && nat_lt y m) ≡ true → (nat_le x y && nat_lt y n) ≡ true
wider x y m n l e = grind (arith, nat_tests)

module _ (g : Game) (valid : IsValid g) (takes : Takes) (i stop : ℕ) (box : Box) (d : is_box_of g box ≡ true) (none : NoneClosedBy takes (constraints_within g i stop) box) where
  -- no values that pass the scopes, with some left to all others
  pub none_passing : (w : List ℤ) → Passes g i stop w → InBox w box → has_empty (drop (length w) box) ≡ false → ⊥
  none_passing w p j rest = front_closed takes g valid i stop w box d j rest (λ k c e o. (p.visible k c e o, p.holds k c e o)) none

  pub none_moving : (n : ℕ) (a w : List ℤ) → i + n ≡ stop → length a ≡ before g i → MovesOn g n i a w → InBox w box → has_empty (drop (length w) box) ≡ false → ⊥
  none_moving n a w e len m j rest = none_passing w (passes g (sound_of g valid).ordered n i stop a w len (sub_in_box w box (declared_box g) d j) e m) j rest

  -- no whole play
  pub none_playing : i ≤ length g.scopes → stop ≤ suc (length g.scopes) → (a w : List ℤ) → length a ≡ before g i → IsPlay g (drop i g.scopes) i a w → InBox w box → ⊥
  none_playing le few a w len play j =
      let p = whole g (sound_of g valid) i a w box le (declared_of g box d) len play j in
      front_closed takes g valid i stop w box d j (behind_all (length w) box (let c = p.count in let s = sub_length box (declared_box g) d in omega arith))
      (λ k c e o. (let q = wider i c.owner.0 stop (suc (length g.scopes)) few o in (p.passes.visible k c e q, p.passes.holds k c e q))) none

  -- so no strategy where the opponent is never stuck
  pub none_jointly : i ≤ length g.scopes → stop ≤ suc (length g.scopes) → NeverStuck g (drop i g.scopes) i box → (a : List ℤ) → IsPositionIn g i box a → (r : Plan) → Optimal g (drop i g.scopes) i a r → PlaysLie box a r → ⊥
  none_jointly le few free a at r o l =
      let w = follow g (drop i g.scopes) (suc (length (drop i g.scopes))) i box (never_front g (drop i g.scopes) (suc (length (drop i g.scopes))) i box free) a at r o l in
      none_playing le few a w.0 at.count w.1 w.2

  -- nor one through the block
  pub none_in_block : (later : List Scope) → later ≡ drop i g.scopes → i + length later ≡ length g.scopes → block_stop later i ≡ stop → has_empty (drop (before g stop) box) ≡ false →
      (a : List ℤ) → IsPositionIn g i box a → (r : Plan) → Optimal g later i a r → PlaysLie box a r → ⊥
  none_in_block later e left all rest a at r o l =
      let q = ahead g later i box in
      let w = follow g later q.count i box q.free a at r o l in
      let m = goes_moves g (sound_of g valid).ordered later q.count i a w.0 left q.few w.1 in
      let c : length w.0 ≡ before g stop = moves_count g q.count i a w.0 at.count m ∙ ap (before g) (q.stops ∙ all) in
      let k : i + q.count ≡ stop = (let s = q.stops in omega arith) in
      none_moving q.count a w.0 k at.count m w.2 (subst (λ n. has_empty (drop n box) ≡ false) (sym c) rest)

-- a horizon blocks, where all variables have some values
pub blocked_at : (g : Game) → IsValid g → (takes : Takes) (i k : ℕ) (box : Box) → is_box_of g box ≡ true → NoneClosedBy takes (constraints_within g i (suc k)) box → has_empty box ≡ false → (a : List ℤ) → length a ≡ before g i → IsBlocked g i a box (Some k)
blocked_at g valid takes i k box d none full a len n w e m j =
    none_moving g valid takes i (suc k) box d none n a w e len m j (full_drop (length w) box full)
