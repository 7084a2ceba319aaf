-- What the ledger says after any lines, against what the definitions say of trees.
use Rattle.std.proofs.Common.{◌≡◌, ◌≤◌, true, false, List, [], ◌∷◌, refl, sym, ap, ◌∙◌, subst, arith, inl, inr, Option, Some, None}
use Rattle.qc_model.specs.Content.{Game}
use Rattle.qc_model.specs.Domains.{declared_box}
use Rattle.proof_tree.specs.Tree.{Tree}
use Rattle.proof_tree.specs.InPlace.{root_in_place}
use Rattle.proof_tree.specs.Read.{root_finding}
use Rattle.proof_tree.specs.Counts.{depth_of}
use Rattle.proof_tree.specs.declared.line.Line.{Line}
use Rattle.proof_tree.specs.Lines.{tree_lines}
use Rattle.check_lines.specs.State.{State, node_due, prune_due, body_due, end_due, case_due, ranged_due, ended, wrong, start, root_spot, step, run}
use Rattle.check_lines.specs.Awaited.{none_awaited, node_awaited, prune_awaited, body_awaited, part_awaited, case_awaited, ranged_awaited}
use Rattle.check_lines.specs.Nests.{all_in_place, nests}
use Rattle.check_lines.specs.Ledger.{Ledger, goes}
use Rattle.check_lines.specs.LedgerHeld.{Tells, Leads, first_ledger, goes_through, TellsTree}
use Rattle.check_lines.proofs.Runs.{run_lines, tree_tally}
use Rattle.check_lines.proofs.Whole.{whole_lines}
use Rattle.check_lines.proofs.Offs.{stays_off}
use Rattle.check_lines.proofs.Shallow.{IsShallow, shallow_lines}
use Rattle.check_lines.proofs.LedgerTurns.{goes_leads}

abbrev pub Follows : Game → State → Option Ledger → Type 0
Follows g s None = Unit {0}
Follows g s (Some d) = Tells g s d

-- there is a ledger that tells s, unless a line is out of place
abbrev pub Keeps : Game → State → Option Ledger → Type 0
Keeps g s None = all_in_place s ≡ false
Keeps g s (Some d) = Tells g s d

first_tells : (g : Game) → Tells g (start g) (first_ledger g)
first_tells g = (refl, refl, record { tally = record { in_place = refl; turns = refl; opens = refl }; frames = refl; place = refl })

module _ (g : Game) where
  pub follows_one : (s : State) (p : Option Ledger) (l : Line) → Follows g s p → Follows g (step g s l) (goes g p l)
  follows_one s None l h = tt
  follows_one s (Some d) l h = by (goes g (Some d) l) (goes_leads g s d l h)
    where
      by : (q : Option Ledger) → Leads g (step g s l) q → Follows g (step g s l) q
      by None k = tt
      by (Some e) k = k

  pub follows : (ls : List Line) (s : State) (p : Option Ledger) → Follows g s p → Follows g (run g s ls) (goes_through g p ls)
  follows [] s p h = h
  follows (l ∷ ls) s p h = follows ls (step g s l) (goes g p l) (follows_one s p l h)

  keeps_one : (s : State) (p : Option Ledger) (l : Line) → nests (step g s l) ≤ 1000 → Keeps g s p → Keeps g (step g s l) (goes g p l)
  keeps_one s None l q h = stays_off g s l h
  keeps_one s (Some d) l q h = by (goes g (Some d) l) (goes_leads g s d l h)
    where
      by : (p : Option Ledger) → Leads g (step g s l) p → Keeps g (step g s l) p
      by None (inl k) = k
      by None (inr k) = absurd (omega (arith, q, k))
      by (Some e) k = k

  -- lines that don't nest too deep
  pub keeps : (ls : List Line) (s : State) (p : Option Ledger) → IsShallow g s ls → Keeps g s p → Keeps g (run g s ls) (goes_through g p ls)
  keeps [] s p q h = h
  keeps (l ∷ ls) s p q h = keeps ls (step g s l) (goes g p l) q.1 (keeps_one s p l q.0 h)

  tells_tree : (t : Tree) (d : Ledger) → Tells g (ended (tree_tally g t (root_spot g) (declared_box g)) (root_finding g t)) d → TellsTree g t d
  tells_tree t d k = record { ends = k.0; in_place = k.1.tally.in_place; verdict = k.1.verdict; own = k.1.own; turns = k.1.tally.turns; has_open = k.1.tally.opens }

  pub told : (t : Tree) → depth_of t ≤ 1000 → root_in_place g t ≡ true → (d : Ledger) × (goes_through g (Some (first_ledger g)) (tree_lines t) ≡ Some d) × TellsTree g t d
  told t q e =
      by (goes_through g (Some (first_ledger g)) (tree_lines t)) refl
      (subst (λ s. Keeps g s (goes_through g (Some (first_ledger g)) (tree_lines t))) (run_lines g t) (keeps (tree_lines t) (start g) (Some (first_ledger g)) (shallow_lines g t q) (first_tells g)))
    where
      by : (p : Option Ledger) → goes_through g (Some (first_ledger g)) (tree_lines t) ≡ p → Keeps g (ended (tree_tally g t (root_spot g) (declared_box g)) (root_finding g t)) p →
          (d : Ledger) × (goes_through g (Some (first_ledger g)) (tree_lines t) ≡ Some d) × TellsTree g t d
      by None f k = let c : true ≡ false = sym e ∙ k in cc
      by (Some d) f k = (d, f, tells_tree t d k)

  pub only_told : (ls : List Line) (d : Ledger) → goes_through g (Some (first_ledger g)) ls ≡ Some d → d.awaited ≡ none_awaited → (t : Tree) × (ls ≡ tree_lines t) × TellsTree g t d
  only_told ls d e w =
      let k : Tells g (run g (start g) ls) d = subst (Follows g (run g (start g) ls)) e (follows ls (start g) (Some (first_ledger g)) (first_tells g)) in
      let r = end (run g (start g) ls) refl k in
      (r.0, r.1, tells_tree r.0 d (subst (λ s. Tells g s d) (ap (run g (start g)) r.1 ∙ run_lines g r.0) k))
    where
      end : (s : State) → run g (start g) ls ≡ s → Tells g s d → (t : Tree) × (ls ≡ tree_lines t)
      end (ended n f) q k = whole_lines g ls n f q
      end (node_due n above s box) q k = let p : none_awaited ≡ node_awaited = sym w ∙ k.0 in cc
      end (prune_due n above s j box left) q k = let p : none_awaited ≡ prune_awaited j box = sym w ∙ k.0 in cc
      end (body_due n above s box) q k = let p : none_awaited ≡ body_awaited = sym w ∙ k.0 in cc
      end (end_due n around o box) q k = let p : none_awaited ≡ part_awaited = sym w ∙ k.0 in cc
      end (case_due n around o b) q k = let p : none_awaited ≡ case_awaited = sym w ∙ k.0 in cc
      end (ranged_due n around o b high) q k = let p : none_awaited ≡ ranged_awaited high = sym w ∙ k.0 in cc
      end wrong q k = absurd k

  -- the ledger to which a tree's lines lead tells that tree
  pub told_alone : (t : Tree) (d : Ledger) → goes_through g (Some (first_ledger g)) (tree_lines t) ≡ Some d → TellsTree g t d
  told_alone t d e =
      tells_tree t d (subst (λ s. Tells g s d) (run_lines g t) (subst (Follows g (run g (start g) (tree_lines t))) e (follows (tree_lines t) (start g) (Some (first_ledger g)) (first_tells g))))
