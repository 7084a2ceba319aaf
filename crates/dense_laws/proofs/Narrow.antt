-- Places whose box loses values of earlier variables, or of one scope's own.
use Rattle.std.proofs.Common.{◌≡◌, ℕ, zero, suc, Bool, List, [], ◌∷◌, ◌++◌, length, take, refl, sym, ap, subst, arith, ℤ}
use Rattle.qc_model.specs.declared.problem.Kind.{Kind}
use Rattle.qc_model.specs.declared.problem.Kind.TheVariants.{Exists, Forall}
use Rattle.qc_model.specs.declared.problem.Scope.{Scope}
use Rattle.qc_model.specs.Content.{Game}
use Rattle.qc_model.specs.Domains.{InBox, Box}
use Rattle.qc_model.specs.Game.{before}
use Rattle.qc_model.proofs.Before.{before_up}
use Rattle.proof_tree.specs.Fair.{bounded_within}
use Rattle.proof_meaning.proofs.Reach.{reach}
use Rattle.proof_meaning.proofs.Taken.{taken_less}
use Rattle.dense_meaning.specs.Plays.{KeepsFrom}
use Rattle.dense_meaning.proofs.PlansLie.{lie_part}
use Rattle.dense_laws.specs.Stands.{OpponentStays, MovesStay, OptimalStay, StrategiesStay, kept_to}

-- the front of values that go on
pub front_of : (n : ℕ) (a t : List ℤ) → length a ≡ n → take n (a ++ t) ≡ a
front_of zero [] t e = refl
front_of zero (v ∷ a) t e = cc
front_of (suc n) [] t e = cc
front_of (suc n) (v ∷ a) t e = ap (λ u. v ∷ u) (front_of n a t (omega arith))

pub own_front : (n : ℕ) (a : List ℤ) → length a ≡ n → take n a ≡ a
own_front zero [] e = refl
own_front zero (v ∷ a) e = cc
own_front (suc n) [] e = cc
own_front (suc n) (v ∷ a) e = ap (λ u. v ∷ u) (own_front n a (omega arith))

-- a part that leaves all that the box does to scope i and later ones leaves it to those after
pub keeps_later : (g : Game) (i : ℕ) (box small : Box) → KeepsFrom g i box small → KeepsFrom g (suc i) box small
keeps_later g i box small f w h k = f w h (taken_less (before g i) (before g (suc i)) w small (before_up g i) k)

module _ (g : Game) (box small : Box) (sub : (w : List ℤ) → InBox w small → InBox w box) where
  pub moves_narrow : (later : List Scope) (i : ℕ) → KeepsFrom g i box small → MovesStay g later i box → MovesStay g later i small
  moves_narrow [] i f m = tt
  moves_narrow (s ∷ later) i f m = (by s.kind m.0, moves_narrow later (suc i) (keeps_later g i box small f) m.1)
    where
      by : (k : Kind) → OpponentStays k g i box → OpponentStays k g i small
      by Exists h = tt
      by Forall h = λ a t at move.
          f (a ++ t) (h a t (record { count = at.count; lies = sub a at.lies }) move) (subst (λ u. InBox u small) (sym (front_of (before g i) a t at.count)) at.lies)

  pub strategies_narrow : (bounded : Bool) (later : List Scope) (i : ℕ) → KeepsFrom g i box small → StrategiesStay g bounded later i box → StrategiesStay g bounded later i small
  strategies_narrow bounded [] i f m = tt
  strategies_narrow bounded (s ∷ later) i f m = (here, strategies_narrow (bounded_within s.kind bounded) later (suc i) (keeps_later g i box small f) m.1)
    where
      here : OptimalStay g (s ∷ later) i (kept_to bounded (s ∷ later) i) small
      here a at r o h =
          lie_part (before g i) box small f r a (let n = at.count in omega arith) at.lies
          (m.0 a (record { count = at.count; lies = sub a at.lies }) r o (sub (take (before g (kept_to bounded (s ∷ later) i)) (reach a r)) h))
