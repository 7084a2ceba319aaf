-- Removals that constraints in force show, in a box with open variables.
use Rattle.std.proofs.Common.{◌≡◌, ℕ, suc, ◌+◌, ◌≤◌, ◌<◌, List, [], ◌∷◌, length, take, drop, subst, sym, ap, arith, ℤ, Option}
use Rattle.std.specs.Prelude.{IsTrue, slice_get}
use Rattle.std.proofs.lemmas.List.{length-drop}
use Rattle.qc_model.specs.declared.problem.Kind.{Kind}
use Rattle.qc_model.specs.declared.problem.Kind.TheVariants.{Exists, Forall}
use Rattle.qc_model.specs.declared.problem.Condition.{Condition}
use Rattle.qc_model.specs.declared.problem.Scope.{Scope}
use Rattle.qc_model.specs.Content.{Game}
use Rattle.qc_model.specs.Domains.{Box, box_within, box_without}
use Rattle.qc_model.specs.Game.{before}
use Rattle.qc_model.specs.Block.{of_kind, block_stop, force_stop}
use Rattle.qc_model.specs.Valid.{IsValid}
use Rattle.qc_model.specs.Verdict.{Verdict}
use Rattle.proof_tree.specs.Steps.{is_refuted_within}
use Rattle.dense_meaning.specs.Throughout.{Throughout, IsAgainst}
use Rattle.dense_meaning.specs.Plays.{IsDeclared, NeverStuck, KeepsThrough, MayLose}
use Rattle.dense_meaning.proofs.Removing.{remove_through, remove_own}
use Rattle.dense_meaning.proofs.WholePlays.{refuted_keeps, removal_later, removal_earlier}

-- the scopes of a block are the player's
pub record Ahead (g : Game) (later : List Scope) (i stop : ℕ) (box : Box) : Type 0 where
  pub count : ℕ
  pub stops : count + i ≡ stop
  pub few : count ≤ suc (length later)
  pub free : NeverStuck g (take count later) i box

pub ahead : (g : Game) (later : List Scope) (i : ℕ) (box : Box) → Ahead g later i (block_stop later i) box
ahead g [] i box = record { count = 1; stops = omega arith; few = omega arith; free = tt }
ahead g (s ∷ later) i box = by s.kind s.condition (ahead g later (suc i) box)
  where
    by : (k : Kind) (x : Option Condition) → Ahead g later (suc i) (block_stop later (suc i)) box → Ahead g (record { kind = k; condition = x } ∷ later) i (of_kind k (block_stop later (suc i)) i) box
    by Exists x q = record { count = suc q.count; stops = (let e = q.stops in omega arith); few = (let l = q.few in omega arith); free = (tt, q.free) }
    by Forall x q = record { count = 0; stops = omega arith; few = omega arith; free = tt }

pub legal_removal : (v : Verdict) (g : Game) (s : Scope) (later : List Scope) (i : ℕ) (d : List Condition) (box : Box) (x : ℕ) (low high : ℤ) (c : ℕ) →
    IsValid g → drop i g.scopes ≡ s ∷ later → IsDeclared g box →
    IsTrue (is_refuted_within i (force_stop (s ∷ later) i) (slice_get g.constraints c) (box_within box x low high)) → MayLose s.kind g (s ∷ later) i x →
    IsAgainst v → Throughout v g (s ∷ later) i d (box_without box x low high) → Throughout v g (s ∷ later) i d box
legal_removal v g s later i d box x low high c valid here dec refuted may q h = by s.kind s.condition here refuted may h
  where
    left : suc (length later) + i ≡ length g.scopes
    left = omega (arith, length-drop i g.scopes, ap length here)

    keeps : (t : Scope) (n stop : ℕ) → drop i g.scopes ≡ t ∷ later → n + i ≡ stop → n ≤ suc (suc (length later)) →
        IsTrue (is_refuted_within i stop (slice_get g.constraints c) (box_within box x low high)) → KeepsThrough g (t ∷ later) n i box (box_without box x low high)
    keeps t n stop here e few refuted =
        let l = left in
        let k : stop ≡ i + n = omega arith in
        subst (λ scopes. KeepsThrough g scopes n i box (box_without box x low high)) here
        (refuted_keeps g n i box x low high c valid (omega arith) (omega arith) dec
        (subst (λ m. IsTrue (is_refuted_within i m (slice_get g.constraints c) (box_within box x low high))) k refuted))

    by : (k : Kind) (y : Option Condition) → drop i g.scopes ≡ record { kind = k; condition = y } ∷ later →
        IsTrue (is_refuted_within i (force_stop (record { kind = k; condition = y } ∷ later) i) (slice_get g.constraints c) (box_within box x low high)) →
        MayLose k g (record { kind = k; condition = y } ∷ later) i x →
        Throughout v g (record { kind = k; condition = y } ∷ later) i d (box_without box x low high) → Throughout v g (record { kind = k; condition = y } ∷ later) i d box
    by Exists y here refuted may h =
        let a = ahead g later (suc i) box in
        let e : suc a.count + i ≡ block_stop later (suc i) = (let m = a.stops in omega arith) in
        let few : suc a.count ≤ suc (suc (length later)) = (let m = a.few in omega arith) in
        remove_through v g (record { kind = Exists; condition = y } ∷ later) (suc a.count) i d box (box_without box x low high) (tt, a.free)
        (keeps (record { kind = Exists; condition = y }) (suc a.count) (block_stop later (suc i)) here e few refuted)
        (removal_later g (suc a.count + i) box x low high (subst (λ m. x < before g m) (sym e) may)) q h
    by Forall y here refuted may h =
        remove_own v g later y i d box (box_without box x low high) (removal_earlier g i box x low high may.0)
        (keeps (record { kind = Forall; condition = y }) 1 (suc i) here (omega arith) (omega arith) refuted)
        (removal_later g (suc i) box x low high may.1) q h
