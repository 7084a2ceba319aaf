-- One side holds a position: the player where it is won, the opponent where it isn't. It keeps what it holds, by a move of its
-- own in its own scopes, and after each move in the other's.
use Rattle.std.proofs.Common.{◌≡◌, ◌⊎◌, inl, inr, ℕ, suc, true, List, ◌∷◌, ◌++◌, refl, sym, subst}
use Rattle.std.specs.Prelude.{ℤ}
use Rattle.qc_model.specs.declared.problem.Kind.{Kind}
use Rattle.qc_model.specs.declared.problem.Kind.TheVariants.{Exists, Forall}
use Rattle.qc_model.specs.declared.problem.Scope.{Scope}
use Rattle.qc_model.specs.Content.{Game}
use Rattle.qc_model.specs.Game.{IsMove, AfterMove, Wins}
use Rattle.qc_model.specs.Plan.{Plan, finish, choose, answer, Entries, Turn, Chooses}
use Rattle.qc_model.specs.Counter.{opposite, CanPassBlock, RepliesTo, CounterWins}
use Rattle.model_laws.proofs.Existence.{decided, lost_by_counter}
use Rattle.lemma_list.specs.Claims.{Loses}
use Rattle.lemma_list.specs.Places.{is_kind}
use Rattle.lemma_boxes.proofs.Lists.{differ}

-- the side of this kind doesn't lose
abbrev pub Holds : Kind → Game → List Scope → ℕ → List ℤ → Type 0
Holds Exists g later i a = Wins g later i a
Holds Forall g later i a = ¬ Wins g later i a

pub not_both : (k : Kind) (g : Game) (later : List Scope) (i : ℕ) (a : List ℤ) → Loses k g later i a → Holds k g later i a → ⊥
not_both Exists g later i a l h = l h
not_both Forall g later i a l h = h l

pub loses_unless : (k : Kind) (g : Game) (later : List Scope) (i : ℕ) (a : List ℤ) → (Holds k g later i a → ⊥) → Loses k g later i a
loses_unless Exists g later i a f = f
loses_unless Forall g later i a f = elim (decided g later i a) [ inl w ↦ w | inr r ↦ absurd (f ((lost_by_counter g later i a).1 r)) ]

pub one_side : (k l : Kind) → (l ≡ k) ⊎ (l ≡ opposite k)
one_side Exists Exists = inl refl
one_side Exists Forall = inr refl
one_side Forall Exists = inr refl
one_side Forall Forall = inl refl

pub is_same : (k l : Kind) → is_kind k l ≡ true → k ≡ l
is_same Exists Exists e = refl
is_same Exists Forall e = absurd (differ e)
is_same Forall Exists e = absurd (differ e)
is_same Forall Forall e = refl

pub not_opposite : (k : Kind) → opposite k ≡ k → ⊥
not_opposite Exists e = parted e
  where
    parted : Forall ≡ Exists → ⊥
    parted e = cc
not_opposite Forall e = parted e
  where
    parted : Exists ≡ Forall → ⊥
    parted e = cc

-- a move after which the side holds the position
pub record Held (k : Kind) (g : Game) (later : List Scope) (i : ℕ) (a : List ℤ) : Type 0 where
  pub tuple : List ℤ
  pub is_move : IsMove g i a tuple
  pub holds : Holds k g later (suc i) (a ++ tuple)

choice : (C : List ℤ → Plan → Type 0) (A : Entries → Type 0) (s : Plan) → Turn Exists s C A → (t : List ℤ) × (p : Plan) × C t p
choice C A finish h = absurd h
choice C A (choose t p) h = (t, p, h)
choice C A (answer l) h = absurd h

pub own_move : (k : Kind) (g : Game) (s : Scope) (later : List Scope) (i : ℕ) (a : List ℤ) → s.kind ≡ k → Holds k g (s ∷ later) i a → Held k g later i a
own_move Exists g s later i a e h =
    let q = subst (λ l. AfterMove l g i a (Wins g later (suc i))) e h in record { tuple = q.0; is_move = q.1; holds = q.2 }
own_move Forall g s later i a e h =
    let r = (lost_by_counter g (s ∷ later) i a).0 h in
    let t = subst (λ l. Turn (opposite l) r.0 (Chooses g i a (CounterWins g later (suc i))) (RepliesTo g i a (CanPassBlock g later (suc i)) (CounterWins g later (suc i)))) e r.1 in
    let c = choice (Chooses g i a (CounterWins g later (suc i))) (RepliesTo g i a (CanPassBlock g later (suc i)) (CounterWins g later (suc i))) r.0 t in
    record { tuple = c.0; is_move = c.2.is_move; holds = (lost_by_counter g later (suc i) (a ++ c.0)).1 (c.1, c.2.after) }

pub other_move : (k : Kind) (g : Game) (s : Scope) (later : List Scope) (i : ℕ) (a t : List ℤ) → s.kind ≡ opposite k → Holds k g (s ∷ later) i a → IsMove g i a t → Holds k g later (suc i) (a ++ t)
other_move Exists g s later i a t e h m = subst (λ l. AfterMove l g i a (Wins g later (suc i))) e h t m
other_move Forall g s later i a t e h m = λ w. h (subst (λ l. AfterMove l g i a (Wins g later (suc i))) (sym e) (t, m, w))
