-- What lemmas say of a game.
use Rattle.std.specs.Prelude.{◌≡◌, ℕ, zero, suc, List, length, drop, ⊤, IsTrue, ℤ}
use Rattle.qc_model.specs.declared.problem.Kind.{Kind}
use Rattle.qc_model.specs.declared.problem.Kind.TheVariants.{Exists, Forall}
use Rattle.qc_model.specs.declared.problem.Scope.{Scope}
use Rattle.qc_model.specs.Content.{Game}
use Rattle.qc_model.specs.Domains.{InBox, declared_box}
use Rattle.qc_model.specs.Game.{before, allows, Wins}
use Rattle.lemma_list.specs.Lemmas.{Lemma}
use Rattle.lemma_list.specs.Places.{place}
use Rattle.lemma_list.specs.InPlace.{holds_at, is_lemma}

-- the side of this kind loses at the position before scope i with the values a; later has the scopes from i on
abbrev pub Loses : Kind → Game → List Scope → ℕ → List ℤ → Type 0
Loses Exists g later i a = ¬ Wins g later i a
Loses Forall g later i a = Wins g later i a

-- the values keep the restriction of the scope before the position
abbrev pub Entered : Game → ℕ → List ℤ → Type 0
Entered g zero a = ⊤
Entered g (suc i) a = IsTrue (allows g i a)

-- a value for each variable before scope i, each of its domain; of restrictions only the last one is asked
pub record IsPosition (g : Game) (i : ℕ) (a : List ℤ) : Type 0 where
  pub count : length a ≡ before g i
  pub declared : InBox a (declared_box g)
  pub entered : Entered g i a

-- the lemma speaks of variables before its position, and its side loses at each position where it holds
pub record LemmaMeans (g : Game) (m : Lemma) : Type 0 where
  pub is_lemma : IsTrue (is_lemma g m)
  pub loses :
      (a : List ℤ) → IsPosition g (place g m) a → IsTrue (holds_at g m a) → Loses m.loser g (drop (place g m) g.scopes) (place g m) a
