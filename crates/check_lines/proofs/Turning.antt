-- What the machine tells before and after lines.
use Rattle.std.proofs.Common.{◌≡◌, ℕ, zero, suc, ◌<◌, ◌≤◌, ◌+◌, true, false, List, [], ◌∷◌, length, drop, get_or, add-one, refl, sym, ap, ◌∙◌, subst, arith, ℤ, Option, Some, None}
use Rattle.std.specs.List.{list_all}
use Rattle.qc_model.specs.Content.{Game}
use Rattle.qc_model.specs.Domains.{Box, declared_box}
use Rattle.qc_model.specs.Valid.{is_domain}
use Rattle.proof_tree.specs.declared.line.Line.{Line}
use Rattle.check_lines.specs.declared.machine.Machine.{Machine}
use Rattle.check_lines.specs.Awaited.{Awaited, node_awaited, prune_awaited, body_awaited, part_awaited, case_awaited, ranged_awaited}
use Rattle.check_lines.specs.Ledger.{Ledger, Entry, goes, ledger_node, ledger_prune, ledger_body, ledger_end, ledger_fork, ledger_case, at_entry}
use Rattle.check_lines.specs.LedgerHeld.{first_ledger, goes_through}
use Rattle.check_lines.specs.LedgerSizes.{VerdictLaws, KeepsSizes, KeepsSizesAt}
use Rattle.check_lines.specs.Machine.{game_of}
use Rattle.check_lines.specs.Telling.{AreEntries, IsNode, node_at, part_at, Tells, TellsNode, TellsPart, TellsAfter, NodeTells, PartTells}
use Rattle.check_lines.proofs.LedgerSizes.{keeps_one, first_keeps}

sizes_after : (g : Game) → VerdictLaws g → (n : ℕ) (p : Option Ledger) (l : Line) → KeepsSizesAt g n p → KeepsSizesAt g (suc n) (goes g p l)
sizes_after g laws n None l k = tt
sizes_after g laws n (Some d) l k = keeps_one g laws n d l k

module _ (m new : Machine) (line : Line) (laws : VerdictLaws (game_of m)) (same : game_of new ≡ game_of m) where
  made : (n : ℕ) (p : Option Ledger) → KeepsSizesAt (game_of m) n p → Tells new (goes (game_of m) p line) → TellsAfter (suc n) new (goes (game_of m) p line)
  made n p k t = record { tells = t; sizes = subst (λ g. KeepsSizesAt g (suc n) (goes (game_of m) p line)) (sym same) (sizes_after (game_of m) laws n p line k) }

  by_node : (n : ℕ) (w : Awaited) (p : Option Ledger) → TellsNode m w p → KeepsSizesAt (game_of m) n p →
      ((d : Ledger) (es : List Entry) → IsNode m d es → KeepsSizes (game_of m) n (node_at m d es w) → Tells new (goes (game_of m) (Some (node_at m d es w)) line)) → TellsAfter (suc n) new (goes (game_of m) p line)
  by_node n w p t k f =
      let d = t.0 in
      let es = t.1 in
      made n p k (subst (λ q. Tells new (goes (game_of m) q line)) (sym t.3) (f d es t.2 (subst (KeepsSizesAt (game_of m) n) t.3 k)))

  pub node_after : NodeTells m new (λ d. ledger_node (game_of m) d line) → (n : ℕ) (p : Option Ledger) → n < 4294967296 → TellsNode m node_awaited p → KeepsSizesAt (game_of m) n p → TellsAfter (suc n) new (goes (game_of m) p line)
  node_after h n p few t k = by_node n node_awaited p t k (λ d es q s. h n d es node_awaited few q s.waits.entries)

  pub body_after : NodeTells m new (λ d. ledger_body (game_of m) d line) → (n : ℕ) (p : Option Ledger) → n < 4294967296 → TellsNode m body_awaited p → KeepsSizesAt (game_of m) n p → TellsAfter (suc n) new (goes (game_of m) p line)
  body_after h n p few t k = by_node n body_awaited p t k (λ d es q s. h n d es body_awaited few q s.waits.entries)

  pub prune_after : (k : ℕ) (box : Box) → NodeTells m new (λ d. ledger_prune (game_of m) d k box line) → (n : ℕ) (p : Option Ledger) → n < 4294967296 → TellsNode m (prune_awaited k box) p → KeepsSizesAt (game_of m) n p → TellsAfter (suc n) new (goes (game_of m) p line)
  prune_after j box h n p few t k = by_node n (prune_awaited j box) p t k (λ d es q s. h n d es (prune_awaited j box) few q s.waits.0.entries)

  pub part_after : PartTells m new (λ d. ledger_end (game_of m) d line) → (n : ℕ) (p : Option Ledger) → n < 4294967296 → TellsPart m part_awaited p → KeepsSizesAt (game_of m) n p → TellsAfter (suc n) new (goes (game_of m) p line)
  part_after h n p few t k =
      let s : KeepsSizes (game_of m) n (part_at m t.0 t.1 t.2 part_awaited) = subst (KeepsSizesAt (game_of m) n) t.4 k in
      made n p k (subst (λ q. Tells new (goes (game_of m) q line)) (sym t.4) (h n t.0 t.1 t.2 part_awaited few t.3 s.waits))

  pub case_after : PartTells m new (λ d. at_entry d.entries (λ b fs. ledger_fork (game_of m) d b fs line)) → (n : ℕ) (p : Option Ledger) → n < 4294967296 → TellsPart m case_awaited p → KeepsSizesAt (game_of m) n p → TellsAfter (suc n) new (goes (game_of m) p line)
  case_after h n p few t k =
      let s : KeepsSizes (game_of m) n (part_at m t.0 t.1 t.2 case_awaited) = subst (KeepsSizesAt (game_of m) n) t.4 k in
      made n p k (subst (λ q. Tells new (goes (game_of m) q line)) (sym t.4) (h n t.0 t.1 t.2 case_awaited few t.3 s.waits))

  pub ranged_after : (high : ℤ) → PartTells m new (λ d. at_entry d.entries (λ b fs. ledger_case (game_of m) d b fs (Some high) line)) → (n : ℕ) (p : Option Ledger) → n < 4294967296 → TellsPart m (ranged_awaited high) p → KeepsSizesAt (game_of m) n p →
      TellsAfter (suc n) new (goes (game_of m) p line)
  ranged_after high h n p few t k =
      let s : KeepsSizes (game_of m) n (part_at m t.0 t.1 t.2 (ranged_awaited high)) = subst (KeepsSizesAt (game_of m) n) t.4 k in
      made n p k (subst (λ q. Tells new (goes (game_of m) q line)) (sym t.4) (h n t.0 t.1 t.2 (ranged_awaited high) few t.3 s.waits))

-- before the first line
pub new_tells : (g : Game) (m : Machine) → list_all (λ x. is_domain x.domain) g.variables ≡ true → game_of m ≡ g → m.remains.box ≡ declared_box g → m.nesting ≡ [] → m.number ≡ 0 → m.horizon ≡ None → m.turns ≡ 0 → m.has_open ≡ false →
    TellsNode m node_awaited (Some (first_ledger g)) × KeepsSizesAt (game_of m) 0 (Some (first_ledger g))
new_tells g m domains same box none number horizon turns opens = (
  (
    first_ledger g,
    [],
    record {
      counts = (sym turns, sym opens);
      entries = subst (λ fs. AreEntries (game_of m) m.remains m.values.items m.joins m.number fs []) (sym none) tt;
    },
    ap (λ b. let r : Ledger = record (first_ledger g) { box = b } in Some r) (sym box)
        ∙ (ap (λ i. let r : Ledger = record (first_ledger g) { box = m.remains.box; number = i } in Some r) (sym number)
        ∙ ap (λ h. let r : Ledger = record (first_ledger g) { box = m.remains.box; number = m.number; horizon = h } in Some r) (sym horizon)),
  ),
  subst (λ u. KeepsSizesAt u 0 (Some (first_ledger g))) (sym same) (first_keeps g domains),
)

pub one_of : (g : Game) (ls : List Line) (i : ℕ) (d : Line) (q : Option Ledger) → i < length ls → goes_through g (goes g q (get_or ls i d)) (drop (i + 1) ls) ≡ goes_through g q (drop i ls)
one_of g ls i d q h = ap (λ k. goes_through g (goes g q (get_or ls i d)) (drop k ls)) (add-one i) ∙ sym (ap (goes_through g q) (here ls i d h))
  where
    here : (ls : List Line) (i : ℕ) (d : Line) → i < length ls → drop i ls ≡ get_or ls i d ∷ drop (suc i) ls
    here [] i d h = absurd (omega arith)
    here (l ∷ ls) zero d h = refl
    here (l ∷ ls) (suc i) d h = here ls i d (omega arith)

pub none_dropped : (ls : List Line) (i : ℕ) → length ls ≤ i → drop i ls ≡ []
none_dropped [] zero h = refl
none_dropped [] (suc i) h = refl
none_dropped (l ∷ ls) zero h = absurd (omega arith)
none_dropped (l ∷ ls) (suc i) h = none_dropped ls i (omega arith)

-- after one line of several
pub line_taken : (new : Machine) (g u : Game) (ls : List Line) (i : ℕ) (d : Line) (n : ℕ) (q p : Option Ledger) → i < length ls → u ≡ g → TellsAfter (suc (n + i)) new (goes u q (get_or ls i d)) → goes_through g q (drop i ls) ≡ goes_through g p ls →
    (r : Option Ledger) × TellsAfter (n + (i + 1)) new r × (goes_through g r (drop (i + 1) ls) ≡ goes_through g p ls)
line_taken new g u ls i d n q p h same t e =
    (goes g q (get_or ls i d), subst (λ k. TellsAfter k new (goes g q (get_or ls i d))) next (subst (λ w. TellsAfter (suc (n + i)) new (goes w q (get_or ls i d))) same t), one_of g ls i d q h ∙ e)
  where
    next : suc (n + i) ≡ n + (i + 1)
    next = omega arith
