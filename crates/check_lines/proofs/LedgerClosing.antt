-- The ledger after a part or a node has come to its end.
use Rattle.std.proofs.Common.{◌≡◌, ℕ, suc, ◌-◌, Option, None, List, [], ◌∷◌, ◌++◌, map, drop, refl, sym, ap, ◌∙◌, subst, arith, ℤ}
use Rattle.qc_model.specs.declared.problem.Kind.{Kind}
use Rattle.qc_model.specs.declared.problem.Kind.TheVariants.{Exists, Forall}
use Rattle.qc_model.specs.declared.problem.Condition.{Condition}
use Rattle.qc_model.specs.declared.problem.Scope.{Scope}
use Rattle.qc_model.specs.Content.{Game}
use Rattle.qc_model.specs.Demands.{demands}
use Rattle.qc_model.specs.Verdict.{Verdict, Seen, seen_node}
use Rattle.proof_tree.specs.Finding.{Finding, Leaf, leaf_node, seen_of, kind_finding, scope_finding}
use Rattle.check_lines.specs.Tally.{Tally}
use Rattle.check_lines.specs.State.{Spot, Own, Above, at_root, below, Within, whole_tree, in_case, with_leaf, with_leaves, finding_of, after_node, after_part}
use Rattle.joins.specs.Verdicts.{kind_verdict, scope_verdict, verdict_at, kind_own, scope_own, own_at}
use Rattle.check_lines.specs.Ledger.{Ledger, Entry, part_closed, node_closed}
use Rattle.check_lines.specs.LedgerHeld.{IsOwnOf, AboveIs, WithinIs, Counts, Tells}
use Rattle.check_lines.proofs.Leaves.{seen-append}

kind_comes : (k : Kind) (own : Option Condition) (g : Game) (i : ℕ) (d : List Condition) (a : List ℤ) (ls : List Leaf) → kind_verdict k own g d a (map seen_of ls) ≡ (kind_finding k own g i d a ls).verdict
kind_comes Exists own g i d a ls = refl
kind_comes Forall own g i d a ls = refl

pub scope_is : (ss : List Scope) (g : Game) (i : ℕ) (d : List Condition) (a : List ℤ) (ls : List Leaf) → scope_verdict ss g d a (map seen_of ls) ≡ (scope_finding ss g i d a ls).verdict
scope_is [] g i d a ls = refl
scope_is (s ∷ later) g i d a ls = kind_comes s.kind s.condition g i d a ls

kind_owns : (k : Kind) (own : Option Condition) (g : Game) (i : ℕ) (d : List Condition) (a : List ℤ) (ls : List Leaf) → kind_own k own g d (map seen_of ls) ≡ (kind_finding k own g i d a ls).own
kind_owns Exists own g i d a ls = refl
kind_owns Forall own g i d a ls = refl

scope_owns : (ss : List Scope) (g : Game) (i : ℕ) (d : List Condition) (a : List ℤ) (ls : List Leaf) → scope_own ss g d (map seen_of ls) ≡ (scope_finding ss g i d a ls).own
scope_owns [] g i d a ls = refl
scope_owns (s ∷ later) g i d a ls = kind_owns s.kind s.condition g i d a ls

own_value : (g : Game) (i : ℕ) (z : Option ℕ) (o : Own) (xs : List Seen) (a : List ℤ) → IsOwnOf g i z o xs a → own_at g i xs ≡ (finding_of g o).own
own_value g i z o xs a h =
    ap (own_at g i) h.all
    ∙ (scope_owns (drop i g.scopes) g i (demands g i) o.before o.leaves
    ∙ ap (λ (s : Spot). (scope_finding s.later g s.number s.demands o.before o.leaves).own) (sym h.place))

own_verdict : (g : Game) (i : ℕ) (z : Option ℕ) (o : Own) (xs : List Seen) (a : List ℤ) → IsOwnOf g i z o xs a → verdict_at g i a xs ≡ (finding_of g o).verdict
own_verdict g i z o xs a h =
    ap (verdict_at g i a) h.all
    ∙ (ap (λ b. verdict_at g i b (map seen_of o.leaves)) h.values
    ∙ (scope_is (drop i g.scopes) g i (demands g i) o.before o.leaves
    ∙ ap (λ (s : Spot). (scope_finding s.later g s.number s.demands o.before o.leaves).verdict) (sym h.place)))

pub own_also : (g : Game) (i : ℕ) (z : Option ℕ) (o : Own) (xs : List Seen) (a : List ℤ) (ls : List Leaf) (ys : List Seen) → IsOwnOf g i z o xs a → ys ≡ map seen_of ls → IsOwnOf g i z (with_leaves o ls) (xs ++ ys) a
own_also g i z o xs a ls ys h e = record {
  place = h.place;
  inside = h.inside;
  values = h.values;
  all = ap (λ us. us ++ ys) h.all ∙ (ap (λ us. map seen_of o.leaves ++ us) e ∙ sym (seen-append o.leaves ls));
}

module _ (g : Game) (n : Tally) (d : Ledger) (tally : Counts n d) where
  mutual
    pub node_leads : (above : Above) (f : Finding) (fs : List Entry) (i : ℕ) (z : Option ℕ) (v : Verdict) → AboveIs g above fs i → v ≡ f.verdict → f.own ≡ None → Tells g (after_node g n above f) (node_closed g d fs i z v)
    node_leads at_root f fs i z v h e alone =
        subst (λ gs. Tells g (after_node g n at_root f) (node_closed g d gs i z v)) (sym h)
        (refl, record { tally = record { in_place = tally.in_place; turns = tally.turns; opens = tally.opens }; entries = refl; verdict = e; own = sym alone })
    node_leads (below o w around) f fs i z v h e alone =
        let xs = h.0 in
        let a = h.1 in
        let z2 = h.2 in
        let more = h.3 in
        let j = h.4 in
        subst (λ gs. Tells g (after_node g n (below o w around) f) (node_closed g d gs i z v)) (sym h.5)
        (subst (λ m. Tells g (after_node g n (below o w around) f) (part_closed g d more m z2 (xs ++ seen_node v ∷ []) a)) (back j i h.6)
        (part_leads around (with_leaf o (leaf_node w f)) more j z2 (xs ++ seen_node v ∷ []) a h.8
        (own_also g j z2 o xs a (leaf_node w f ∷ []) (seen_node v ∷ []) h.7 (ap (λ u. seen_node u ∷ []) e))))
      where
        back : (j i : ℕ) → i ≡ suc j → j ≡ i - 1
        back j i e = omega (arith, e)

    pub part_leads : (around : Within) (o : Own) (fs : List Entry) (i : ℕ) (z : Option ℕ) (xs : List Seen) (a : List ℤ) → WithinIs g around fs i → IsOwnOf g i z o xs a → Tells g (after_part g n around o) (part_closed g d fs i z xs a)
    part_leads (whole_tree above) o fs i z xs a h k = tree_leads above o fs i z xs a h k
    part_leads (in_case b around) o fs i z xs a h k =
        subst (λ gs. Tells g (after_part g n (in_case b around) o) (part_closed g d gs i z xs a)) (sym h.1)
        (refl, record { tally = record { in_place = tally.in_place; turns = tally.turns; opens = tally.opens }; more = h.0; first = refl; frames = h.2; own = k })

    tree_leads : (above : Above) (o : Own) (fs : List Entry) (i : ℕ) (z : Option ℕ) (xs : List Seen) (a : List ℤ) → AboveIs g above fs i → IsOwnOf g i z o xs a → Tells g (after_node g n above (finding_of g o)) (part_closed g d fs i z xs a)
    tree_leads at_root o fs i z xs a h k =
        subst (λ gs. Tells g (after_node g n at_root (finding_of g o)) (part_closed g d gs i z xs a)) (sym h)
        (refl, record { tally = record { in_place = tally.in_place; turns = tally.turns; opens = tally.opens }; entries = refl; verdict = own_verdict g i z o xs a k; own = own_value g i z o xs a k })
    tree_leads (below p w around) o fs i z xs a h k =
        let ys = h.0 in
        let b = h.1 in
        let z2 = h.2 in
        let more = h.3 in
        let j = h.4 in
        let v = verdict_at g i a xs in
        subst (λ gs. Tells g (after_node g n (below p w around) (finding_of g o)) (part_closed g d gs i z xs a)) (sym h.5)
        (subst (λ m. Tells g (after_node g n (below p w around) (finding_of g o)) (part_closed g d more m z2 (ys ++ seen_node v ∷ []) b)) (back j i h.6)
        (part_leads around (with_leaf p (leaf_node w (finding_of g o))) more j z2 (ys ++ seen_node v ∷ []) b h.8
        (own_also g j z2 p ys b (leaf_node w (finding_of g o) ∷ []) (seen_node v ∷ []) h.7 (ap (λ u. seen_node u ∷ []) (own_verdict g i z o xs a k)))))
      where
        back : (j i : ℕ) → i ≡ suc j → j ≡ i - 1
        back j i e = omega (arith, e)
