-- Lines that lead from a node to its end are those of a tree.
use Rattle.std.proofs.Common.{◌≡◌, ◌≤◌, ◌<◌, ℕ, suc, ◌+◌, ◌-◌, ◌^◌, min, Bool, true, false, ◌&&◌, List, [], ◌∷◌, ◌++◌, length, map, refl, sym, ap, ◌∙◌, subst, Option, Some, None, arith, append-nil}
use Rattle.std.specs.Prelude.{nat_lt}
use Rattle.std.proofs.lemmas.Bool.Decides.{nat_tests}
use Rattle.std.proofs.lemmas.Bool.{and_parts}
use Rattle.qc_model.specs.Content.{Game}
use Rattle.qc_model.specs.Verdict.{Seen, seen_node}
use Rattle.proof_tree.specs.Tree.{Tree}
use Rattle.proof_tree.specs.Counts.{turns_of, opens_of}
use Rattle.proof_tree.specs.Finding.{Finding, leaf_node, seen_of}
use Rattle.proof_tree.specs.Read.{read}
use Rattle.proof_tree.specs.declared.line.Line.{Line}
use Rattle.proof_tree.specs.Lines.{tree_lines}
use Rattle.check_lines.specs.Tally.{Tally, nothing, ◌&◌}
use Rattle.check_lines.specs.State.{Own, Above, at_root, below, Within, whole_tree, in_case, State, node_due, prune_due, body_due, end_due, case_due, ranged_due, ended, wrong, with_leaf, finding_of, after_node, after_part, step, run}
use Rattle.check_lines.specs.Awaited.{node_awaited, prune_awaited, body_awaited, part_awaited, case_awaited, ranged_awaited, none_awaited}
use Rattle.check_lines.specs.Nests.{nests, nests_above}
use Rattle.check_lines.specs.Ledger.{Ledger, place_at, goes}
use Rattle.check_lines.specs.LedgerHeld.{Counts, Tells, Leads, goes_through}
use Rattle.check_lines.specs.Under.{alone, is_over, IsUnder, EndsUnder}
use Rattle.check_lines.proofs.Leaves.{seen-append}
use Rattle.check_lines.proofs.Sums.{same_tally}
use Rattle.check_lines.proofs.Runs.{tree_tally}
use Rattle.check_lines.proofs.Whole.{owed}
use Rattle.check_lines.proofs.Shallow.{IsShallow, nests_part}
use Rattle.check_lines.proofs.Deep.{deep_tree}
use Rattle.check_lines.proofs.Heights.{AllLow, goes_low, none_left}
use Rattle.check_lines.proofs.LedgerTurns.{above_count, within_count, goes_leads}
use Rattle.check_lines.proofs.LedgerRight.{Follows, follows, follows_one}
use Rattle.check_lines.proofs.Onto.{onto, run_append, run_whole, ended_lower, step_on, run_on, tree_on, still_above}

-- sums
summed : (a b x y : ℕ) → x ≡ min a (2 ^ 64 - 1) → y ≡ min (a + (0 + b)) (2 ^ 64 - 1) → y ≡ min (x + b) (2 ^ 64 - 1)
summed a b x y h k = omega arith

none_open : (a b : ℕ) → false ≡ nat_lt 0 (a + (0 + b)) → b ≡ 0
none_open a b h = grind (arith, nat_tests)

nothing_before : (n : Tally) → (n & nothing) ≡ n
nothing_before n = same_tally (n & nothing) n (and_true n.in_place) (omega arith) (omega arith)
  where
    and_true : (b : Bool) → (b && true) ≡ b
    and_true true = refl
    and_true false = refl

module _ (g : Game) where
  through_append : (ls ks : List Line) (p : Option Ledger) → goes_through g p (ls ++ ks) ≡ goes_through g (goes_through g p ls) ks
  through_append [] ks p = refl
  through_append (l ∷ ls) ks p = through_append ls ks (goes g p l)

  told_through : (ls : List Line) (s : State) (d p : Ledger) → Tells g s d → goes_through g (Some d) ls ≡ Some p → Tells g (run g s ls) p
  told_through ls s d p h e = subst (Follows g (run g s ls)) e (follows g ls s (Some d) h)

  -- a ledger has an entry for each node and branch that is open
  told_count : (s : State) (d : Ledger) → Tells g s d → nests s ≡ length d.entries
  told_count (node_due n above s box) d h = above_count g above d.entries d.number h.2.frames
  told_count (prune_due n above s k box left) d h = above_count g above d.entries d.number h.2.frames
  told_count (body_due n above s box) d h = above_count g above d.entries d.number h.2.frames
  told_count (end_due n around o box) d h = within_count g around d.entries d.number h.2.frames
  told_count (case_due n around o b) d h = ap suc (within_count g around h.1.more d.number h.1.frames) ∙ sym (ap length h.1.first)
  told_count (ranged_due n around o b high) d h = ap suc (within_count g around h.1.more d.number h.1.frames) ∙ sym (ap length h.1.first)
  told_count (ended n f) d h = sym (ap length h.1.entries)
  told_count wrong d h = absurd h

  -- a state that a ledger tells after which there is one yet nests at most 1,000 deep
  low_now : (s : State) (p : Option Ledger) (ls : List Line) (e : Ledger) → Follows g s p → AllLow p → goes_through g p ls ≡ Some e → nests s ≤ 1000
  low_now s None ls e h q f = let c : None ≡ Some e = sym (none_left g ls) ∙ f in cc
  low_now s (Some d) ls e h q f = let same = told_count s d h in omega (arith, same, q)

  -- lines after which there is a ledger don't nest too deep
  shallow_through : (ls : List Line) (s : State) (p : Option Ledger) (e : Ledger) → Follows g s p → AllLow p → goes_through g p ls ≡ Some e → IsShallow g s ls
  shallow_through [] s p e h q f = tt
  shallow_through (l ∷ ls) s p e h q f =
      let k = follows_one g s p l h in
      let r = goes_low g p l q in
      (low_now (step g s l) (goes g p l) ls e k r f, shallow_through ls (step g s l) (goes g p l) e k r f)

  mutual
    node_counts : (above : Above) (n : Tally) (f : Finding) (d : Ledger) → Tells g (after_node g n above f) d → Counts n d
    node_counts at_root n f d h = h.1.tally
    node_counts (below o w around) n f d h = part_counts around n (with_leaf o (leaf_node w f)) d h

    part_counts : (around : Within) (n : Tally) (o : Own) (d : Ledger) → Tells g (after_part g n around o) d → Counts n d
    part_counts (whole_tree above) n o d h = node_counts above n (finding_of g o) d h
    part_counts (in_case b around) n o d h = h.1.tally

  -- where a case is due one level up, the last that was seen there is what the node came to
  last_seen : (above : Above) (n : Tally) (f : Finding) (d : Ledger) → Tells g (after_node g n above f) d → d.awaited ≡ case_awaited → length d.entries + 1 ≡ nests_above above →
      (xs : List Seen) × (d.seen ≡ xs ++ seen_node f.verdict ∷ [])
  last_seen at_root n f d h w q = absurd (omega (arith, q))
  last_seen (below o w around) n f d h e q = by around h q
    where
      by : (around : Within) → Tells g (after_part g n around (with_leaf o (leaf_node w f))) d → length d.entries + 1 ≡ nests_above (below o w around) → (xs : List Seen) × (d.seen ≡ xs ++ seen_node f.verdict ∷ [])
      by (in_case b rest) k r = (map seen_of o.leaves, k.1.own.all ∙ seen-append o.leaves (leaf_node w f ∷ []))
      by (whole_tree at_root) k r = let c : none_awaited ≡ case_awaited = sym k.0 ∙ e in cc
      by (whole_tree (below p v rest)) k r =
          let found = finding_of g (with_leaf o (leaf_node w f)) in
          let low = nests_part g rest n (with_leaf p (leaf_node v found)) in
          let same = told_count (after_node g n (below p v rest) found) d k in
          absurd (omega (arith, low, same, r))

  module _ (d : Ledger) (n : Tally) (top : Above) (stands : Tells g (node_due n top (place_at g d.number d.horizon) d.box) d) (some : 0 < length d.entries) where
    here : onto g n top (alone g d) ≡ node_due n top (place_at g d.number d.horizon) d.box
    here = ap (λ m. node_due m top (place_at g d.number d.horizon) d.box) (nothing_before n)

    told_on : (ls : List Line) (p : Ledger) → goes_through g (Some d) ls ≡ Some p → is_over (run g (alone g d) ls) ≡ false → Tells g (onto g n top (run g (alone g d) ls)) p
    told_on ls p e h =
        subst (λ s. Tells g s p) (run_on g n top ls (alone g d) h)
        (told_through ls (onto g n top (alone g d)) d p (subst (λ s. Tells g s d) (sym here) stands) e)

    height : nests_above top ≡ length d.entries
    height = told_count (node_due n top (place_at g d.number d.horizon) d.box) d stands

    -- a node that has ended leaves fewer entries
    fewer : (m : Tally) (f : Finding) (e : Ledger) → Tells g (onto g n top (ended m f)) e → length e.entries < length d.entries
    fewer m f e h =
        let some_above : 0 < nests_above top = omega (arith, height, some) in
        let low = ended_lower g top (n & m) f some_above in
        let same = told_count (after_node g (n & m) top f) e h in
        omega (arith, height, low, same)

    -- one that goes on leaves as many
    no_fewer : (x : State) → is_over x ≡ false → (e : Ledger) → Tells g (onto g n top x) e → length d.entries ≤ length e.entries
    no_fewer x h e k =
        let high = still_above g n top x h in
        let same = told_count (onto g n top x) e k in
        omega (arith, height, high, same)

    still_on : (ls : List Line) (e : Ledger) → Tells g (onto g n top (run g (alone g d) ls)) e → length d.entries ≤ length e.entries → is_over (run g (alone g d) ls) ≡ false
    still_on ls e h q = by (run g (alone g d) ls) h
      where
        by : (x : State) → Tells g (onto g n top x) e → is_over x ≡ false
        by (node_due m above s box) k = refl
        by (prune_due m above s i box left) k = refl
        by (body_due m above s box) k = refl
        by (end_due m around o box) k = refl
        by (case_due m around o b) k = refl
        by (ranged_due m around o b high) k = refl
        by (ended m f) k = let low = fewer m f e k in absurd (omega (arith, low, q))
        by wrong k = absurd k

    of_tree : (t : Tree) (ls : List Line) (e : Ledger) → length d.entries ≤ 1000 → goes_through g (Some d) ls ≡ Some e → ls ≡ tree_lines t → Tells g (onto g n top (run g (alone g d) ls)) e → EndsUnder g d ls e
    of_tree t ls e few now is h =
        let spot = place_at g d.number d.horizon in
        let low = shallow_through ls (node_due n top spot d.box) (Some d) e stands few now in
        let deep = deep_tree g t n top spot d.box [] (omega (arith, height, few)) (subst (IsShallow g (node_due n top spot d.box)) (is ∙ sym (append-nil (tree_lines t))) low) in
        let count = tree_tally g t spot d.box in
        let found = read g t spot.later spot.number spot.demands d.box in
        let k : Tells g (after_node g (n & (nothing & count)) top found) e =
        subst (λ x. Tells g (onto g n top x) e) (ap (run g (alone g d)) is ∙ run_whole g t nothing at_root spot d.box) h
        in
        let c = node_counts top (n & (nothing & count)) found e k in
        record {
          tree = t;
          lines = is;
          placed = (and_parts n.in_place count.in_place c.in_place).1;
          turns = summed n.turns (turns_of t) d.turns e.turns stands.2.tally.turns c.turns;
          opens = λ z. none_open n.opens (opens_of t) (sym z ∙ c.opens);
          shallow = omega (arith, height, deep);
          verdict = λ w q. last_seen top (n & (nothing & count)) found e k w (q ∙ sym height);
        }

    has_ended : (ls : List Line) (e : Ledger) → length d.entries ≤ 1000 → goes_through g (Some d) ls ≡ Some e → Tells g (onto g n top (run g (alone g d) ls)) e → length e.entries < length d.entries → EndsUnder g d ls e
    has_ended ls e few now h q = by (run g (alone g d) ls) refl h
      where
        too_many : (x : State) → is_over x ≡ false → Tells g (onto g n top x) e → EndsUnder g d ls e
        too_many x u k = let most = no_fewer x u e k in absurd (omega (arith, most, q))

        by : (x : State) → run g (alone g d) ls ≡ x → Tells g (onto g n top x) e → EndsUnder g d ls e
        by (node_due m above s box) is k = too_many (node_due m above s box) refl k
        by (prune_due m above s i box left) is k = too_many (prune_due m above s i box left) refl k
        by (body_due m above s box) is k = too_many (body_due m above s box) refl k
        by (end_due m around o box) is k = too_many (end_due m around o box) refl k
        by (case_due m around o b) is k = too_many (case_due m around o b) refl k
        by (ranged_due m around o b high) is k = too_many (ranged_due m around o b high) refl k
        by (ended m f) is k =
            let r = owed g ls (alone g d) m f is in
            of_tree r.0 ls e few now (r.2 ∙ (ap (λ ks. tree_lines r.0 ++ ks) r.3 ∙ append-nil (tree_lines r.0))) h
        by wrong is k = absurd k

-- a node is due here
pub under_here : (g : Game) (s : State) (d : Ledger) → Tells g s d → d.awaited ≡ node_awaited → 0 < length d.entries → length d.entries ≤ 1000 → IsUnder g d [] d
under_here g (node_due n above s box) d h w q z = record {
  node = w;
  tally = n;
  above = above;
  stands = subst (λ b. Tells g (node_due n above (place_at g d.number d.horizon) b) d) (sym h.1) (subst (λ p. Tells g (node_due n above p box) d) h.2.place h);
  some = q;
  few = z;
  now = refl;
  on = refl;
}
under_here g (prune_due n above s k box left) d h w q z = let c : prune_awaited k box ≡ node_awaited = sym h.0 ∙ w in cc
under_here g (body_due n above s box) d h w q z = let c : body_awaited ≡ node_awaited = sym h.0 ∙ w in cc
under_here g (end_due n around o box) d h w q z = let c : part_awaited ≡ node_awaited = sym h.0 ∙ w in cc
under_here g (case_due n around o b) d h w q z = let c : case_awaited ≡ node_awaited = sym h.0 ∙ w in cc
under_here g (ranged_due n around o b high) d h w q z = let c : ranged_awaited high ≡ node_awaited = sym h.0 ∙ w in cc
under_here g (ended n f) d h w q z = let c : none_awaited ≡ node_awaited = sym h.0 ∙ w in cc
under_here g wrong d h w q z = absurd h

module _ (g : Game) (d : Ledger) (ls : List Line) (p : Ledger) where
  told : (u : IsUnder g d ls p) → Tells g (onto g u.tally u.above (run g (alone g d) ls)) p
  told u = told_on g d u.tally u.above u.stands u.some ls p u.now u.on

  -- one more line, or those of a tree
  through_more : (ks : List Line) (e : Ledger) → IsUnder g d ls p → goes_through g (Some p) ks ≡ Some e → goes_through g (Some d) (ls ++ ks) ≡ Some e
  through_more ks e u h = through_append g ls ks (Some d) ∙ (ap (λ q. goes_through g q ks) u.now ∙ h)

  more_on : (ks : List Line) (e : Ledger) (u : IsUnder g d ls p) → goes_through g (Some p) ks ≡ Some e → Tells g (onto g u.tally u.above (run g (alone g d) (ls ++ ks))) e → length d.entries ≤ length e.entries → IsUnder g d (ls ++ ks) e
  more_on ks e u h k q = record {
    node = u.node;
    tally = u.tally;
    above = u.above;
    stands = u.stands;
    some = u.some;
    few = u.few;
    now = through_more ks e u h;
    on = still_on g d u.tally u.above u.stands u.some (ls ++ ks) e k q;
  }

  told_line : (l : Line) (e : Ledger) (u : IsUnder g d ls p) → goes g (Some p) l ≡ Some e → Tells g (onto g u.tally u.above (run g (alone g d) (ls ++ l ∷ []))) e
  told_line l e u h =
      let x = run g (alone g d) ls in
      subst (λ s. Tells g s e) (step_on g u.tally u.above x u.on l ∙ ap (onto g u.tally u.above) (sym (run_append g ls (l ∷ []) (alone g d))))
      (subst (Leads g (step g (onto g u.tally u.above x) l)) h (goes_leads g (onto g u.tally u.above x) p l (told u)))

  tree_here : (n : Tally) (top : Above) (x : State) → Tells g (onto g n top x) p → is_over x ≡ false → p.awaited ≡ node_awaited → (t : Tree) →
      run g (onto g n top x) (tree_lines t) ≡ onto g n top (run g x (tree_lines t))
  tree_here n top (node_due m above s box) h u w t = tree_on g n top t m above s box
  tree_here n top (prune_due m above s k box left) h u w t = let c : prune_awaited k box ≡ node_awaited = sym h.0 ∙ w in cc
  tree_here n top (body_due m above s box) h u w t = let c : body_awaited ≡ node_awaited = sym h.0 ∙ w in cc
  tree_here n top (end_due m around o box) h u w t = let c : part_awaited ≡ node_awaited = sym h.0 ∙ w in cc
  tree_here n top (case_due m around o b) h u w t = let c : case_awaited ≡ node_awaited = sym h.0 ∙ w in cc
  tree_here n top (ranged_due m around o b high) h u w t = let c : ranged_awaited high ≡ node_awaited = sym h.0 ∙ w in cc
  tree_here n top (ended m f) h u w t = cc
  tree_here n top wrong h u w t = absurd h

  told_tree : (t : Tree) (e : Ledger) (u : IsUnder g d ls p) → p.awaited ≡ node_awaited → goes_through g (Some p) (tree_lines t) ≡ Some e → Tells g (onto g u.tally u.above (run g (alone g d) (ls ++ tree_lines t))) e
  told_tree t e u w h =
      let x = run g (alone g d) ls in
      subst (λ s. Tells g s e) (tree_here u.tally u.above x (told u) u.on w t ∙ ap (onto g u.tally u.above) (sym (run_append g ls (tree_lines t) (alone g d))))
      (told_through g (tree_lines t) (onto g u.tally u.above x) p e (told u) h)

-- a line that leaves all above the node open
pub under_line : (g : Game) (d : Ledger) (ls : List Line) (p : Ledger) (l : Line) (e : Ledger) → IsUnder g d ls p → goes g (Some p) l ≡ Some e → length d.entries ≤ length e.entries → IsUnder g d (ls ++ l ∷ []) e
under_line g d ls p l e u h q = more_on g d ls p (l ∷ []) e u h (told_line g d ls p l e u h) q

-- a line that doesn't
pub under_ends : (g : Game) (d : Ledger) (ls : List Line) (p : Ledger) (l : Line) (e : Ledger) → IsUnder g d ls p → goes g (Some p) l ≡ Some e → length e.entries < length d.entries → EndsUnder g d (ls ++ l ∷ []) e
under_ends g d ls p l e u h q = has_ended g d u.tally u.above u.stands u.some (ls ++ l ∷ []) e u.few (through_more g d ls p (l ∷ []) e u h) (told_line g d ls p l e u h) q

-- the lines of a tree, at a node below or at the node itself
pub under_node : (g : Game) (d : Ledger) (ls : List Line) (p : Ledger) (t : Tree) (e : Ledger) → IsUnder g d ls p → p.awaited ≡ node_awaited → goes_through g (Some p) (tree_lines t) ≡ Some e → length d.entries ≤ length e.entries →
    IsUnder g d (ls ++ tree_lines t) e
under_node g d ls p t e u w h q = more_on g d ls p (tree_lines t) e u h (told_tree g d ls p t e u w h) q

pub under_node_ends : (g : Game) (d : Ledger) (ls : List Line) (p : Ledger) (t : Tree) (e : Ledger) → IsUnder g d ls p → p.awaited ≡ node_awaited → goes_through g (Some p) (tree_lines t) ≡ Some e → length e.entries < length d.entries →
    EndsUnder g d (ls ++ tree_lines t) e
under_node_ends g d ls p t e u w h q = has_ended g d u.tally u.above u.stands u.some (ls ++ tree_lines t) e u.few (through_more g d ls p (tree_lines t) e u h) (told_tree g d ls p t e u w h) q
