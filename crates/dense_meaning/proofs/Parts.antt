-- An existential scope whose choices were looked at in parts.
use Rattle.std.proofs.Common.{◌≡◌, inl, inr, ℕ, suc, true, List, [], ◌∷◌, ◌++◌, length, map, refl, ap, subst, ℤ, Option}
use Rattle.qc_model.specs.declared.problem.Condition.{Condition}
use Rattle.qc_model.specs.declared.problem.Scope.{Scope}
use Rattle.qc_model.specs.Content.{Game}
use Rattle.qc_model.specs.Domains.{Box}
use Rattle.qc_model.specs.Game.{before, IsMove}
use Rattle.qc_model.specs.Plan.{Plan, finish, choose, answer}
use Rattle.qc_model.specs.Optimal.{Optimal}
use Rattle.qc_model.specs.Demands.{with_condition}
use Rattle.qc_model.specs.ExistsVerdict.{exists_verdict}
use Rattle.qc_model.specs.Verdict.{lost, exact, at_most, unknown}
use Rattle.model_laws.specs.Positions.{existential, OptimalAfter}
use Rattle.model_laws.specs.Verdicts.{MeansAt, seen_in, none_skipped, IsFound, AreRight, MissNothing}
use Rattle.model_laws.proofs.Choosing.{position_mean}
use Rattle.proof_meaning.proofs.Passing.{move_count}
use Rattle.dense_meaning.specs.Throughout.{IsPositionIn, PlaysLie, IsOptimalWithin}
use Rattle.dense_meaning.specs.Leaves.{PartLeaf, one, many, left_out, part_claim, EachPartSays, IsAtLeaf, none_left_out, CoversChoices}
use Rattle.dense_meaning.proofs.PlansLie.{lie_front}
use Rattle.dense_meaning.proofs.AfterScopes.{first_held}

module _ (g : Game) (later : List Scope) (i : ℕ) (a : List ℤ) where
  are_right : (e : List Condition) (ls : List PartLeaf) → EachPartSays g later i e a ls → AreRight g later i a e (map (part_claim e) ls)
  are_right e [] h = tt
  are_right e (one t v ∷ ls) h = ((h.0.1, λ s o. record { is_move = h.0.0; after = o }), are_right e ls h.1)
  are_right e (many part lost ∷ ls) h = (tt, are_right e ls h.1)
  are_right [] (many part (exact v) ∷ ls) h = (tt, are_right [] ls h.1)
  are_right (c ∷ e) (many part (exact v) ∷ ls) h = (tt, are_right (c ∷ e) ls h.1)
  are_right [] (many part (at_most p) ∷ ls) h = (tt, are_right [] ls h.1)
  are_right (c ∷ e) (many part (at_most p) ∷ ls) h = (tt, are_right (c ∷ e) ls h.1)
  are_right e (many part unknown ∷ ls) h = (tt, are_right e ls h.1)
  are_right e (left_out ∷ ls) h = (tt, are_right e ls h)

  none_out : (e : List Condition) (ls : List PartLeaf) → none_skipped (map (part_claim e) ls) ≡ true → none_left_out ls ≡ true
  none_out e [] q = refl
  none_out e (one t v ∷ ls) q = none_out e ls q
  none_out e (many part lost ∷ ls) q = none_out e ls q
  none_out [] (many part (exact v) ∷ ls) q = cc
  none_out (c ∷ e) (many part (exact v) ∷ ls) q = none_out (c ∷ e) ls q
  none_out [] (many part (at_most p) ∷ ls) q = cc
  none_out (c ∷ e) (many part (at_most p) ∷ ls) q = none_out (c ∷ e) ls q
  none_out e (many part unknown ∷ ls) q = cc
  none_out e (left_out ∷ ls) q = cc

  -- a choice that leads into a part
  in_part : (part : Box) (t : List ℤ) (s : Plan) → length a ≡ before g i → IsMove g i a t → Optimal g later (suc i) (a ++ t) s → PlaysLie part (a ++ t) s →
      IsPositionIn g (suc i) part (a ++ t) × IsOptimalWithin g later (suc i) part (a ++ t) s
  in_part part t s n m o h = (record { count = move_count g i a t n m; lies = lie_front part s (a ++ t) h }, record { optimal = o; lies = h })

  found : (e : List Condition) (ls : List PartLeaf) → EachPartSays g later i e a ls → none_skipped (map (part_claim e) ls) ≡ true → length a ≡ before g i →
      (t : List ℤ) (s : Plan) → IsMove g i a t → Optimal g later (suc i) (a ++ t) s → IsAtLeaf a t s ls → IsFound g e a (OptimalAfter g later i a) (map (part_claim e) ls) (choose t s)
  found e [] h q n t s m o k = absurd k
  found e (one u v ∷ ls) h q n t s m o k = elim k [
    | inl r ↦ inl (s, ap (λ z. choose z s) r, subst (λ z. Optimal g later (suc i) (a ++ z) s) r o)
    | inr r ↦ inr (found e ls h.1 q n t s m o r)
  ]
  found e (many part lost ∷ ls) h q n t s m o k = elim k [
    | inl r ↦ (let p = in_part part t s n m o r in absurd (h.0 (a ++ t) p.0 s p.1))
    | inr r ↦ found e ls h.1 q n t s m o r
  ]
  found [] (many part (exact v) ∷ ls) h q n t s m o k = cc
  found (c ∷ e) (many part (exact v) ∷ ls) h q n t s m o k = elim k [
    | inl r ↦ (let p = in_part part t s n m o r in let w = h.0 (a ++ t) p.0 in inl (first_held g c e (a ++ t) v w.some.0 s w.some.2 (w.best s p.1)))
    | inr r ↦ inr (found (c ∷ e) ls h.1 q n t s m o r)
  ]
  found [] (many part (at_most p) ∷ ls) h q n t s m o k = cc
  found (c ∷ e) (many part (at_most b) ∷ ls) h q n t s m o k = elim k [
    | inl r ↦ (let p = in_part part t s n m o r in inl (h.0 (a ++ t) p.0 s p.1))
    | inr r ↦ inr (found (c ∷ e) ls h.1 q n t s m o r)
  ]
  found e (many part unknown ∷ ls) h q n t s m o k = cc
  found e (left_out ∷ ls) h q n t s m o k = cc

  miss_nothing : (e : List Condition) (ls : List PartLeaf) → length a ≡ before g i → EachPartSays g later i e a ls → CoversChoices g later i a ls → MissNothing g later i a e (map (part_claim e) ls)
  miss_nothing e ls n h c q finish o = absurd o
  miss_nothing e ls n h c q (choose t s) o = found e ls h q n t s o.is_move o.after (c (none_out e ls q) t s o.is_move o.after)
  miss_nothing e ls n h c q (answer l) o = absurd o

pub choosing_by_parts : (g : Game) (later : List Scope) (x : Option Condition) (i : ℕ) (a : List ℤ) (d : List Condition) (ls : List PartLeaf) → length a ≡ before g i →
    EachPartSays g later i (with_condition x d) a ls → CoversChoices g later i a ls →
    MeansAt g (existential x ∷ later) i a d (exists_verdict x (with_condition x d) (map seen_in (map (part_claim (with_condition x d)) ls)))
choosing_by_parts g later x i a d ls n h c =
    position_mean g later x i a d (map (part_claim (with_condition x d)) ls) (are_right g later i a (with_condition x d) ls h) (miss_nothing g later i a (with_condition x d) ls n h c)
