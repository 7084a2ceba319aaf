-- What a tree's lines make of a ledger that waits for a node.
use Rattle.std.proofs.Common.{◌≡◌, ◌≤◌, ◌+◌, ◌-◌, ◌^◌, ℕ, min, true, false, ◌&&◌, [], length, drop, refl, sym, ap, ◌∙◌, subst, Option, Some, None, arith, append-nil}
use Rattle.std.specs.Prelude.{nat_lt}
use Rattle.qc_model.specs.Content.{Game}
use Rattle.qc_model.specs.Demands.{demands}
use Rattle.qc_model.specs.Verdict.{Verdict}
use Rattle.proof_tree.specs.Tree.{Tree}
use Rattle.proof_tree.specs.InPlace.{in_place}
use Rattle.proof_tree.specs.Finding.{Finding}
use Rattle.proof_tree.specs.Read.{read}
use Rattle.proof_tree.specs.Counts.{depth_of, turns_of, opens_of}
use Rattle.proof_tree.specs.Lines.{tree_lines}
use Rattle.check_lines.specs.Tally.{Tally, ◌&◌}
use Rattle.check_lines.specs.State.{Above, node_due, after_node, run}
use Rattle.check_lines.specs.Awaited.{node_awaited}
use Rattle.check_lines.specs.Ledger.{Ledger, place_at, node_closed}
use Rattle.check_lines.specs.LedgerHeld.{Counts, Tells, goes_through}
use Rattle.check_lines.specs.Passing.{IsSame}
use Rattle.check_lines.proofs.Runs.{run_tree, tree_tally}
use Rattle.check_lines.proofs.Offs.{node_flag}
use Rattle.check_lines.proofs.Shallow.{IsShallow, shallow_tree}
use Rattle.check_lines.proofs.LedgerTurns.{above_count}
use Rattle.check_lines.proofs.LedgerClosing.{node_leads}
use Rattle.check_lines.proofs.LedgerRight.{Keeps, keeps}
use Rattle.check_lines.proofs.OneLedger.{IsTidy, AllTidy, node_is_tidy, node_tidy, stays_tidy, one_ledger}

more_later : (n k : ℕ) → min (min n (2 ^ 64 - 1) + k) (2 ^ 64 - 1) ≡ min (n + k) (2 ^ 64 - 1)
more_later n k = omega arith

no_more_open : (n k : ℕ) → k ≡ 0 → nat_lt 0 n ≡ nat_lt 0 (n + k)
no_more_open n k e = let h : n ≡ n + k = omega (arith, e) in ap (nat_lt 0) h

abbrev with_turns : Ledger → ℕ → Ledger
with_turns d k = record d { turns = min (d.turns + k) (2 ^ 64 - 1) }

counts_tree : (n m : Tally) (d : Ledger) → Counts n d → m.in_place ≡ true → m.opens ≡ 0 → Counts (n & m) (with_turns d m.turns)
counts_tree n m d t e z = record {
  in_place = ap (λ b. b && m.in_place) t.in_place ∙ e;
  turns = ap (λ k. min (k + m.turns) (2 ^ 64 - 1)) t.turns ∙ more_later n.turns m.turns;
  opens = t.opens ∙ no_more_open n.opens m.opens z;
}

module _ (g : Game) where
  -- the lines of a node whose state is known: the ledger goes on, and says what is told of the node's end
  after_lines : (above : Above) (n : Tally) (f : Finding) (c : Ledger) (p : Option Ledger) → n.in_place ≡ true → Tells g (after_node g n above f) c → IsTidy c → Keeps g (after_node g n above f) p → AllTidy p →
      (e : Ledger) × (p ≡ Some e) × IsSame c e
  after_lines above n f c None i h x k y = let z : true ≡ false = sym i ∙ (sym (node_flag g n above f) ∙ k) in cc
  after_lines above n f c (Some e) i h x k y = (e, refl, one_ledger g above n f c e h k x y)

  -- what the lines of a tree make of a ledger: what comes of the node's verdict, with the tree's turns
  pub passes : (n : Tally) (above : Above) (d : Ledger) (t : Tree) (v : Verdict) → d.awaited ≡ node_awaited →
      Tells g (node_due n above (place_at g d.number d.horizon) d.box) d →
      in_place g t (drop d.number g.scopes) d.number (demands g d.number) d.box d.horizon ≡ true →
      (read g t (drop d.number g.scopes) d.number (demands g d.number) d.box).verdict ≡ v →
      (read g t (drop d.number g.scopes) d.number (demands g d.number) d.box).own ≡ None →
      opens_of t ≡ 0 → length d.entries + depth_of t ≤ 1000 →
      (e : Ledger) × (goes_through g (Some d) (tree_lines t) ≡ Some e) × IsSame (node_closed g (record d { turns = min (d.turns + turns_of t) (2 ^ 64 - 1) }) d.entries d.number d.horizon v) e
  passes n above d t v waits h placed comes alone closed low =
      let s = place_at g d.number d.horizon in
      let m = tree_tally g t s d.box in
      let f = read g t (drop d.number g.scopes) d.number (demands g d.number) d.box in
      let k = counts_tree n m d h.2.tally placed closed in
      let count = above_count g above d.entries d.number h.2.frames in
      let ran : run g (node_due n above s d.box) (tree_lines t) ≡ after_node g (n & m) above f =
      ap (run g (node_due n above s d.box)) (sym (append-nil (tree_lines t))) ∙ run_tree g t n above s d.box [] in
      let shallow : IsShallow g (node_due n above s d.box) (tree_lines t) =
      subst (IsShallow g (node_due n above s d.box)) (append-nil (tree_lines t)) (shallow_tree g t n above s d.box [] (omega (arith, count, low)) (λ m f. tt)) in
      after_lines above (n & m) f (node_closed g (with_turns d (turns_of t)) d.entries d.number d.horizon v) (goes_through g (Some d) (tree_lines t)) k.in_place
      (node_leads g (n & m) (with_turns d (turns_of t)) k above f d.entries d.number d.horizon v h.2.frames (sym comes) alone)
      (node_tidy g (with_turns d (turns_of t)) d.entries d.number d.horizon v)
      (subst (λ u. Keeps g u (goes_through g (Some d) (tree_lines t))) ran (keeps g (tree_lines t) (node_due n above s d.box) (Some d) shallow h))
      (stays_tidy g (tree_lines t) (Some d) (node_is_tidy d waits))
