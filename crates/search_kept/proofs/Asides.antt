-- Nodes whose lines are kept aside, and put where the box is the same.
use Rattle.std.proofs.Common.{◌≡◌, ◌≤◌, ◌<◌, ◌-◌, ◌∙◌, ℕ, suc, Bool, true, false, List, [], ◌∷◌, ◌++◌, length, drop, refl, sym, ap, subst, arith, Option, ℤ}
use Rattle.std.specs.Prelude.{nat_lt}
use Rattle.std.proofs.lemmas.Bool.Decides.{nat_tests}
use Rattle.qc_model.specs.Content.{Game}
use Rattle.qc_model.specs.Demands.{demands}
use Rattle.qc_model.specs.Domains.{Values, Box, declared_box, values_left}
use Rattle.qc_model.specs.Game.{before}
use Rattle.qc_model.specs.Verdict.{Verdict}
use Rattle.model_arguments.specs.Asked.{is_box_of}
use Rattle.model_arguments.proofs.Boxes.{sub_length}
use Rattle.proof_tree.specs.Counts.{turns_of}
use Rattle.proof_tree.specs.Lines.{tree_lines}
use Rattle.proof_tree.specs.Place.{position}
use Rattle.proof_tree.specs.Tree.{Tree}
use Rattle.proof_tree.specs.declared.line.Line.{Line}
use Rattle.likeness.proofs.Likes.{single_stands}
use Rattle.search_box.specs.Boxed.{Boxed}
use Rattle.search_box.specs.Entered.{IsEntered}
use Rattle.search_kept.specs.Aside.{IsFreshAt, IsWhole, IsAside, StandsAside}
use Rattle.search_kept.specs.Known.{IsEnded}
use Rattle.search_parts.specs.Written.{NodeWritten}
use Rattle.search_kept.proofs.Knowing.{like_here, whole_here, whole_written}

-- the box of a node at its position
pub fresh_here : (g : Game) (i : ℕ) (b : Boxed) → IsEntered g i b → is_box_of b.game b.store.box ≡ true → before g i ≤ length b.store.box →
    ((x : ℕ) → before g i ≤ x → x < length b.store.box → values_left b.store.box x ≡ values_left (declared_box g) x) → IsFreshAt g i (position g i b.store.box) b.store.box
fresh_here g i b here declared few fresh =
    let l = like_here g i b here declared few fresh in
    record {
      size = sub_length b.store.box (declared_box g) l.declared;
      fresh = l.fresh;
      fixed = λ x h. single_stands b.store.box (before g i) x h (omega (arith, h, few)) here.fixed;
    }

same_boxes : (a b : Box) → length a ≡ length b → ((x : ℕ) → values_left a x ≡ values_left b x) → a ≡ b
same_boxes [] [] e f = refl
same_boxes [] (w ∷ b) e f = absurd (omega (arith, e))
same_boxes (v ∷ a) [] e f = absurd (omega (arith, e))
same_boxes (v ∷ a) (w ∷ b) e f = ap (λ (u : Values). u ∷ a) (f 0) ∙ ap (λ (c : Box). w ∷ c) (same_boxes a b (omega (arith, e)) (λ x. f (suc x)))

-- there is one for each position
pub fresh_same : (g : Game) (i : ℕ) (vs : List ℤ) (a b : Box) → IsFreshAt g i vs a → IsFreshAt g i vs b → a ≡ b
fresh_same g i vs a b p q = same_boxes a b (p.size ∙ sym q.size) (λ x. by x (nat_lt x (before g i)) refl)
  where
    under : (x n : ℕ) → nat_lt x n ≡ true → x < n
    under x n e = grind (arith, nat_tests)

    past : (x n : ℕ) → nat_lt x n ≡ false → n ≤ x
    past x n e = grind (arith, nat_tests)

    by : (x : ℕ) (c : Bool) → nat_lt x (before g i) ≡ c → values_left a x ≡ values_left b x
    by x true e = let h = under x (before g i) e in p.fixed x h ∙ sym (q.fixed x h)
    by x false e = let h = past x (before g i) e in p.fresh x h ∙ sym (q.fresh x h)

-- the lines of a node that ended stand wherever the box is the same
pub ended_aside : (g : Game) (i : ℕ) (box : Box) (h : Option ℕ) (v : Verdict) (had left : ℕ) (vs : List ℤ) (ls : List Line) (turns : ℕ) → 0 < left → ((t : Tree) → ls ≡ tree_lines t → turns_of t ≤ turns) → IsFreshAt g i vs box → IsEnded g i box h v had left ls → IsAside g i h vs v turns ls
ended_aside g i box h v had left vs ls turns some few fresh e = (
  e.tree,
  record {
    lines = e.lines;
    whole = λ b other. subst (λ (u : Box). IsWhole g i h v turns e.tree u) (fresh_same g i vs box b fresh other) (whole_here e.above g i box h v had left e.tree turns some (few e.tree e.lines) e.made);
  },
)

-- and are written there
pub aside_written : (cuts : Bool) (above : ℤ → Bool) (g : Game) (i : ℕ) (box : Box) (h : Option ℕ) (v : Verdict) (turns had left : ℕ) (ls old new : List Line) → cuts ≡ true → StandsAside g i h had box v turns ls → left ≡ had - turns → new ≡ old ++ ls →
    NodeWritten cuts above g (drop i g.scopes) i (demands g i) box h v had left old new
aside_written cuts above g i box h v turns had left ls old new cut s f q =
    let k = s.aside in
    whole_written cuts above g i box h v turns had left k.0 ls old new cut s.few s.sure k.1.lines (k.1.whole box s.fresh) f q
