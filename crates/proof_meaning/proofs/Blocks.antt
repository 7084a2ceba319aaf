-- Where a horizon is in force, no values in the box pass the scopes up to it.
use Rattle.std.proofs.Common.{◌≡◌, inl, ℕ, suc, ◌+◌, true, false, List, [], ◌∷◌, ◌++◌, length, refl, sym, subst, arith, Option, Some, None}
use Rattle.std.specs.Prelude.{ℤ, ◌==◌}
use Rattle.std.proofs.lemmas.Bool.Decides.{nat_tests}
use Rattle.std.proofs.lemmas.Bool.{and_parts}
use Rattle.qc_model.specs.declared.problem.Scope.{Scope}
use Rattle.qc_model.specs.Content.{Game}
use Rattle.qc_model.specs.Lists.{Among}
use Rattle.qc_model.specs.Domains.{Box, InBox, declared_box, has_empty}
use Rattle.qc_model.specs.Game.{before, IsMove}
use Rattle.proof_tree.specs.declared.tree.Horizon.{Horizon}
use Rattle.proof_tree.specs.Good.{IsBlocked}
use Rattle.proof_tree.specs.Steps.{after_steps, are_legal}
use Rattle.proof_tree.specs.InPlace.{horizon_below, is_horizon, horizon_in_place}
use Rattle.qc_model.specs.Table.{IsOrdered, IsTableSound}
use Rattle.proof_meaning.proofs.Boxes.{differ}
use Rattle.proof_meaning.proofs.HorizonHolds.{horizon_holds}
use Rattle.proof_meaning.proofs.Narrowed.{IsWithin, within_in}
use Rattle.proof_meaning.proofs.Passing.{passes}

pub blocked_less : (g : Game) (i : ℕ) (a : List ℤ) (box small : Box) (h : Option ℕ) → ((w : List ℤ) → InBox w small → InBox w box) → IsBlocked g i a box h → IsBlocked g i a small h
blocked_less g i a box small None f b = tt
blocked_less g i a box small (Some k) f b = λ n w e m q. b n w e m (f w q)

pub blocked_next : (g : Game) (i : ℕ) (a t w : List ℤ) (box : Box) (h : Option ℕ) → w ≡ a ++ t → IsMove g i a t → IsBlocked g i a box h → IsBlocked g (suc i) w box h
blocked_next g i a t w box None e m b = tt
blocked_next g i a t w box (Some k) e m b =
    subst (λ u. IsBlocked g (suc i) u box (Some k)) (sym e) (λ n u s q l. b (suc n) u (omega arith) (t, m, q) l)

-- a horizon in place blocks
pub blocked_below : (g : Game) (sound : IsTableSound g) (ordered : IsOrdered g) (z : Option Horizon) (later : List Scope) (i : ℕ) (a : List ℤ) (box : Box) (h : Option ℕ) → length a ≡ before g i → IsWithin g box → has_empty box ≡ false →
    horizon_in_place g z later i box h ≡ true → IsBlocked g i a box h → IsBlocked g i a box (horizon_below z h)
blocked_below g sound ordered None later i a box h len within full e b = b
blocked_below g sound ordered (Some z) later i a box h len within full e b = λ n w s m q.
    let p = and_parts _ (has_empty (after_steps z.steps box)) e in
    let p1 = and_parts _ (are_legal g i (suc z.scope.0) None z.steps box) p.0 in
    horizon_holds g sound i (suc z.scope.0) w (passes g ordered n i (suc z.scope.0) a w len (within_in w box (declared_box g) within q) s m) z.steps box p1.1 full p.1 q

-- at a horizon nobody passes the scope
pub none_pass : (g : Game) (i : ℕ) (a t : List ℤ) (box : Box) (h : Option ℕ) → is_horizon h i ≡ true → IsBlocked g i a box h → IsMove g i a t → InBox (a ++ t) box → ⊥
none_pass g i a t box None e b m q = differ e
none_pass g i a t box (Some k) e b m q = b 1 (a ++ t) (one_up k i e) (t, m, refl) q
  where
    one_up : (k i : ℕ) → (k == i) ≡ true → i + 1 ≡ suc k
    one_up k i e = grind (arith, nat_tests)

pub none_among : {X : Type 0} (xs : List X) → ((x : X) → Among x xs → ⊥) → xs ≡ []
none_among [] f = refl
none_among (x ∷ xs) f = absurd (f x (inl refl))
