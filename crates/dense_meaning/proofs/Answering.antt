-- What leaves come to in a wide box.
use Rattle.std.proofs.Common.{◌≡◌, ℕ, suc, List, [], ◌∷◌, ◌++◌, length, map, arith, ℤ, Option}
use Rattle.std.specs.Prelude.{IsTrue}
use Rattle.qc_model.specs.declared.problem.Kind.TheVariants.{Forall}
use Rattle.qc_model.specs.declared.problem.Condition.{Condition}
use Rattle.qc_model.specs.declared.problem.Scope.{Scope}
use Rattle.qc_model.specs.Content.{Game}
use Rattle.qc_model.specs.Domains.{InBox, Box}
use Rattle.qc_model.specs.Game.{before, IsMove}
use Rattle.qc_model.specs.Plan.{Plan, finish, choose, answer, Entries, no_entries, entry, EachEntry, Turn, Covers}
use Rattle.qc_model.specs.Optimal.{Optimal}
use Rattle.qc_model.specs.Demands.{demands_through}
use Rattle.qc_model.specs.Bottlenecks.{bottleneck_last}
use Rattle.qc_model.specs.ForallVerdict.{forall_verdict}
use Rattle.qc_model.specs.Verdict.{Verdict, lost, exact, at_most, unknown}
use Rattle.model_laws.specs.Positions.{universal}
use Rattle.model_laws.specs.Verdicts.{Means, Claim, barred, skipped, marked, reaches, seen_in, EachClaim, IsComplete, HeldBy}
use Rattle.model_laws.proofs.Joins.{leaves_mean}
use Rattle.proof_meaning.proofs.Passing.{move_count}
use Rattle.dense_meaning.specs.Throughout.{IsPositionIn, EachLies, IsOptimalWithin, Says, Throughout, IsAgainst}
use Rattle.dense_meaning.specs.Leaves.{LeafSays, EachLeafSays}
use Rattle.dense_meaning.proofs.PlansLie.{lie_front, lie_part}

module _ (g : Game) (later : List Scope) (i : ℕ) (box : Box) where
  -- the strategies after the scope
  abbrev After : List ℤ → Plan → Type 0
  After w s = IsOptimalWithin g later (suc i) box w s

  abbrev NoChoice : List ℤ → Plan → Type 0
  NoChoice t s = ⊥

  says_means : (v : Verdict) (e : List Condition) (w : List ℤ) → IsAgainst v → Says v g later (suc i) e box w → Means g e w (After w) v
  says_means lost e w q h = h
  says_means (exact u) e w q h = absurd q
  says_means (at_most p) [] w q h = tt
  says_means (at_most p) (c ∷ e) w q h = h
  says_means unknown e w q h = tt

  -- a verdict throughout a part speaks of all that leads into it
  from_part : (v : Verdict) (e : List Condition) (part : Box) (w : List ℤ) → IsAgainst v → ((r : Plan) → IsOptimalWithin g later (suc i) box w r → IsOptimalWithin g later (suc i) part w r) →
      Says v g later (suc i) e part w → Says v g later (suc i) e box w
  from_part lost e part w q f h = λ r o. h r (f r o)
  from_part (exact u) e part w q f h = absurd q
  from_part (at_most p) e part w q f h = λ r o. h r (f r o)
  from_part unknown e part w q f h = tt

  leaf_means : (e : List Condition) (t : List ℤ) (v : Verdict) → LeafSays g later i e box t v → (a : List ℤ) → IsPositionIn g i box a → IsMove g i a t × Means g e (a ++ t) (After (a ++ t)) v
  leaf_means e t v l a at =
      let m = l.is_move a at in
      let n = move_count g i a t at.count m in
      let j = l.enters a at in (
        m,
        says_means v e (a ++ t) l.against
            (from_part v e l.part (a ++ t) l.against
            (λ r o. record { optimal = o.optimal; lies = lie_part (before g (suc i)) box l.part l.keeps r (a ++ t) (omega arith) j o.lies })
            (l.says (a ++ t) (record { count = n; lies = j }))),
      )

  leaves_claim : (e : List Condition) (ls : List Claim) → EachLeafSays g later i e box ls → (a : List ℤ) → IsPositionIn g i box a → EachClaim g e i a After ls
  leaves_claim e [] h a at = tt
  leaves_claim e (barred ∷ ls) h a at = (tt, leaves_claim e ls h a at)
  leaves_claim e (skipped ∷ ls) h a at = (tt, leaves_claim e ls h a at)
  leaves_claim e (marked m ∷ ls) h a at = (tt, leaves_claim e ls h a at)
  leaves_claim e (reaches t v ∷ ls) h a at = (leaf_means e t v h.0 a at, leaves_claim e ls h.1 a at)

  -- an answer in the box has an entry in the box for each tuple
  both_entries : (a : List ℤ) (l : Entries) → EachEntry (λ t s. Optimal g later (suc i) (a ++ t) s) l → EachLies box a l → EachEntry (λ t s. After (a ++ t) s) l
  both_entries a no_entries e h = tt
  both_entries a (entry t s rest) e h = (record { optimal = e.0; lies = h.0 }, both_entries a rest e.1 h.1)

  optimal_entries : (a : List ℤ) (l : Entries) → EachEntry (λ t s. After (a ++ t) s) l → EachEntry (λ t s. Optimal g later (suc i) (a ++ t) s) l
  optimal_entries a no_entries e = tt
  optimal_entries a (entry t s rest) e = (e.0.optimal, optimal_entries a rest e.1)

  to_here : (x : Option Condition) (a : List ℤ) (r : Plan) → IsOptimalWithin g (universal x ∷ later) i box a r → Turn Forall r NoChoice (Covers g i a After)
  to_here x a finish o = o.optimal
  to_here x a (choose t s) o = o.optimal
  to_here x a (answer l) o =
      let c = o.optimal in
      let h : InBox a box × EachLies box a l = o.lies in
      record { tuples = c.tuples; each = both_entries a l c.each h.1 }

  from_here : (x : Option Condition) (a : List ℤ) (r : Plan) → Turn Forall r NoChoice (Covers g i a After) → Optimal g (universal x ∷ later) i a r
  from_here x a finish o = o
  from_here x a (choose t s) o = absurd o
  from_here x a (answer l) o = record { tuples = o.tuples; each = optimal_entries a l o.each }

  means_says : (v : Verdict) (x : Option Condition) (d : List Condition) (a : List ℤ) → Means g d a (λ r. Turn Forall r NoChoice (Covers g i a After)) v → Says v g (universal x ∷ later) i d box a
  means_says lost x d a h = λ r o. h r (to_here x a r o)
  means_says (exact u) x d a h = record { some = (h.some.0, from_here x a h.some.0 h.some.1, h.some.2); best = λ r o. h.none_better r (to_here x a r o) }
  means_says (at_most p) x [] a h = λ r o. tt
  means_says (at_most p) x (c ∷ d) a h = λ r o. h r (to_here x a r o)
  means_says unknown x d a h = tt

pub answers_by_leaves : (g : Game) (later : List Scope) (x : Option Condition) (i : ℕ) (d : List Condition) (box : Box) (ls : List Claim) → IsTrue (bottleneck_last g d) →
    EachLeafSays g later i (demands_through g d) box ls → ((a : List ℤ) → IsPositionIn g i box a → IsComplete g i a ls) →
    (a : List ℤ) → IsPositionIn g i box a → Says (forall_verdict g d a (map seen_in ls)) g (universal x ∷ later) i d box a
answers_by_leaves g later x i d box ls last h complete a at =
    means_says g later i box (forall_verdict g d a (map seen_in ls)) x d a
    (leaves_mean g i a (After g later i box) (NoChoice g later i box) d ls last (leaves_claim g later i box (demands_through g d) ls h a at) (complete a at))

pub part_is_mark : (g : Game) (later : List Scope) (i : ℕ) (c : Condition) (e : List Condition) (part : Box) (p : ℤ) → Throughout (at_most p) g later (suc i) (c ∷ e) part →
    (a t : List ℤ) (s : Plan) → length a ≡ before g i → IsMove g i a t → IsOptimalWithin g later (suc i) part (a ++ t) s → HeldBy g (c ∷ e) a (choose t s) p
part_is_mark g later i c e part p h a t s n m o = h (a ++ t) (record { count = move_count g i a t n m; lies = lie_front part s (a ++ t) o.lies }) s o
