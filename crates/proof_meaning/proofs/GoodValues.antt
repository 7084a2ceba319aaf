-- Good values: how they go on, and where they lie in boxes whose later domains are the declared ones.
use Rattle.std.proofs.Common.{◌≡◌, ℕ, suc, List, [], ◌∷◌, ◌++◌, length, take, drop, refl, sym, ap, ◌∙◌, subst, append_assoc}
use Rattle.std.specs.Prelude.{ℤ}
use Rattle.std.proofs.lemmas.List.{length-append, drop-drop, append-nil}
use Rattle.qc_model.specs.declared.problem.Kind.{Kind}
use Rattle.qc_model.specs.declared.problem.Kind.TheVariants.{Exists, Forall}
use Rattle.qc_model.specs.declared.problem.Scope.{Scope}
use Rattle.qc_model.specs.Content.{Game}
use Rattle.qc_model.specs.Lists.{LiesIn}
use Rattle.qc_model.specs.Domains.{Box, InBox, declared_box}
use Rattle.qc_model.specs.Game.{before, IsMove}
use Rattle.qc_model.specs.Counter.{CanPassBlock, PassScope}
use Rattle.proof_tree.specs.Good.{Good, GoodThrough}
use Rattle.proof_meaning.proofs.Boxes.{from_take, in_append}
use Rattle.proof_meaning.proofs.Passing.{GoodAfter, move_count}
use Rattle.proof_meaning.proofs.Widths.{part_rest, width}

-- good values go on from the position
pub good_front : (g : Game) (later : List Scope) (i : ℕ) (a w : List ℤ) → Good g later i a w → (r : List ℤ) × (w ≡ a ++ r)
good_front g [] i a w h = ([], h.0 ∙ sym (append-nil a))
good_front g (s ∷ later) i a w h = through g i a w (λ b. Good g later (suc i) b w) (λ b k. good_front g later (suc i) b w k) s.kind h
  where
    through : (g : Game) (i : ℕ) (a w : List ℤ) (G : List ℤ → Type 0) → ((b : List ℤ) → G b → (r : List ℤ) × (w ≡ b ++ r)) → (k : Kind) → GoodThrough k g i a G w → (r : List ℤ) × (w ≡ a ++ r)
    through g i a w G f Exists h = let q = f (a ++ h.0) h.2 in (h.0 ++ q.0, q.1 ∙ append_assoc a h.0 q.0)
    through g i a w G f Forall h = ([], h ∙ sym (append-nil a))

pub after_front : (g : Game) (k : Kind) (later : List Scope) (i : ℕ) (b w : List ℤ) → GoodAfter k g later i b w → (r : List ℤ) × (w ≡ b ++ r)
after_front g Exists later i b w h = good_front g later (suc i) b w h
after_front g Forall later i b w h = ([], h ∙ sym (append-nil b))

-- what can pass the block has good values
pub pass_good : (g : Game) (later : List Scope) (i : ℕ) (a : List ℤ) → CanPassBlock g later i a → (w : List ℤ) × Good g later i a w
pass_good g [] i a h = (a, (refl, h))
pass_good g (s ∷ later) i a h = through g i a (CanPassBlock g later (suc i)) (Good g later (suc i)) (pass_good g later (suc i)) s.kind h
  where
    through : (g : Game) (i : ℕ) (a : List ℤ) (P : List ℤ → Type 0) (G : List ℤ → List ℤ → Type 0) → ((b : List ℤ) → P b → (w : List ℤ) × G b w) → (k : Kind) → PassScope k g i a P →
        (w : List ℤ) × GoodThrough k g i a (λ b. G b w) w
    through g i a P G f Exists h = let q = f (a ++ h.0) h.2 in (q.0, (h.0, h.1, q.1))
    through g i a P G f Forall h = (a, refl)

-- where all domains after the position are the declared ones, good values lie in the box
pub declared_keeps : (g : Game) (later : List Scope) (i : ℕ) (b w : List ℤ) (box : Box) → Good g later i b w → InBox b box → length b ≡ before g i →
    drop (length b) box ≡ drop (length b) (declared_box g) → InBox w box × (drop (length w) box ≡ drop (length w) (declared_box g))
declared_keeps g [] i b w box h k n e =
    (subst (λ u. InBox u box) (sym h.0) k, subst (λ u. drop (length u) box ≡ drop (length u) (declared_box g)) (sym h.0) e)
declared_keeps g (s ∷ later) i b w box h k n e =
    through s.kind h (λ t m good. declared_keeps g later (suc i) (b ++ t) w box good (longer t m) (move_count g i b t n m) (farther t))
  where
    longer : (t : List ℤ) → IsMove g i b t → InBox (b ++ t) box
    longer t m =
        let h1 : LiesIn t (take (width g i) (drop (before g i) (declared_box g))) = subst (LiesIn t) (part_rest g i (declared_box g)) m.is_tuple in
        let h2 : InBox t (drop (before g i) (declared_box g)) = from_take (width g i) t (drop (before g i) (declared_box g)) h1 in
        let h3 : InBox t (drop (length b) (declared_box g)) = subst (λ j. InBox t (drop j (declared_box g))) (sym n) h2 in
        in_append b t box k (subst (InBox t) (sym e) h3)

    farther : (t : List ℤ) → drop (length (b ++ t)) box ≡ drop (length (b ++ t)) (declared_box g)
    farther t =
        subst (λ j. drop j box ≡ drop j (declared_box g)) (sym (length-append b t))
        (sym (drop-drop (length t) (length b) box) ∙ ap (drop (length t)) e ∙ drop-drop (length t) (length b) (declared_box g))

    through : (q : Kind) → GoodThrough q g i b (λ c. Good g later (suc i) c w) w → ((t : List ℤ) → IsMove g i b t → Good g later (suc i) (b ++ t) w → InBox w box × (drop (length w) box ≡ drop (length w) (declared_box g))) →
        InBox w box × (drop (length w) box ≡ drop (length w) (declared_box g))
    through Exists h f = f h.0 h.1 h.2
    through Forall h f = (subst (λ u. InBox u box) (sym h) k, subst (λ u. drop (length u) box ≡ drop (length u) (declared_box g)) (sym h) e)
