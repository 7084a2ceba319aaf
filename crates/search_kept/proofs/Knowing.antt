-- Nodes that were decided, whose lines are kept: where they stand, and what is written there.
use Rattle.std.proofs.Common.{◌≡◌, ◌≤◌, ◌<◌, ◌*◌, ◌-◌, ◌∙◌, inl, inr, ℕ, suc, Bool, true, false, List, ◌++◌, length, drop, sym, ap, subst, arith, Option, ℤ}
use Rattle.std.specs.Prelude.{◌⊎◌}
use Rattle.std.specs.List.{list_all}
use Rattle.qc_model.specs.Content.{Game}
use Rattle.qc_model.specs.Demands.{demands}
use Rattle.qc_model.specs.Domains.{Box, declared_box, values_left}
use Rattle.qc_model.specs.Game.{before}
use Rattle.qc_model.specs.Verdict.{Verdict}
use Rattle.model_arguments.specs.Asked.{is_box_of}
use Rattle.proof_alike.specs.Alike.{AreAlike}
use Rattle.proof_alike.specs.Looking.{looks}
use Rattle.proof_alike.proofs.Alike.{does_alike}
use Rattle.proof_tree.specs.declared.line.Line.{Line}
use Rattle.proof_tree.specs.Counts.{turns_of, opens_of}
use Rattle.proof_tree.specs.Lines.{tree_lines}
use Rattle.proof_tree.specs.Place.{position}
use Rattle.proof_tree.specs.Tree.{Tree}
use Rattle.search_box.specs.Boxed.{Boxed}
use Rattle.search_box.specs.Entered.{IsEntered}
use Rattle.likeness.specs.Likeness.{IsLike, line_looks}
use Rattle.likeness.proofs.Likes.{like_itself, likes_alike}
use Rattle.likeness.proofs.Lines.{tree_looks}
use Rattle.search_kept.specs.Aside.{IsWhole}
use Rattle.search_kept.specs.Known.{IsKnown, IsEnded, StandsHere}
use Rattle.search_parts.specs.Made.{NodeMade}
use Rattle.search_parts.specs.Own.{IsOwnSized}
use Rattle.search_parts.specs.Settled.{is_vague_verdict, beats_none}
use Rattle.search_parts.specs.Written.{NodeWritten}
use Rattle.search_parts.proofs.Progress.{drop_front}
use Rattle.search_parts.proofs.Sure.{sure_anyway}

-- the box of a node is like the values that stand at the position
pub like_here : (g : Game) (i : ℕ) (b : Boxed) → IsEntered g i b → is_box_of b.game b.store.box ≡ true → before g i ≤ length b.store.box →
    ((x : ℕ) → before g i ≤ x → x < length b.store.box → values_left b.store.box x ≡ values_left (declared_box g) x) → IsLike g i (position g i b.store.box) b.store.box
like_here g i b here declared few fresh =
    like_itself g i b.store.box (subst (λ (k : Game). is_box_of k b.store.box ≡ true) here.game declared) here.full here.fixed few fresh

-- a node that was made with a turn left
pub whole_here : (above : ℤ → Bool) (g : Game) (i : ℕ) (box : Box) (h : Option ℕ) (v : Verdict) (had left : ℕ) (t : Tree) → (turns : ℕ) → 0 < left → turns_of t ≤ turns → NodeMade true above g (drop i g.scopes) i (demands g i) box h v had left t → IsWhole g i h v turns t box
whole_here above g i box h v had left t turns some few m = record {
  placed = m.placed;
  verdict = m.verdict;
  settled = m.settled;
  lasts = m.lasts;
  ones = m.ones;
  apart = m.apart;
  fits = m.fits;
  few = few;
  opens = by m.opens;
  long = m.long;
  sized = m.sized;
  own = m.own;
  keeps = m.keeps;
  closed = m.closed;
  foreseen = m.foreseen;
}
  where
    by : ((opens_of t ≡ 0) ⊎ (left ≡ 0)) → opens_of t ≡ 0
    by (inl e) = e
    by (inr e) = absurd (omega (arith, some, e))

-- so wherever the position looks the same
pub whole_alike : (g : Game) (i : ℕ) (h : Option ℕ) (v : Verdict) (turns : ℕ) (t : Tree) (a b : Box) → looks g i t ≡ true → AreAlike g i a b → IsWhole g i h v turns t a → IsWhole g i h v turns t b
whole_alike g i h v turns t a b look alike w =
    let s = does_alike g t i a b h alike look w.placed in
    record {
      placed = s.placed;
      verdict = sym s.verdict ∙ w.verdict;
      settled = sym s.settled ∙ w.settled;
      lasts = w.lasts;
      ones = w.ones;
      apart = w.apart;
      fits = w.fits;
      few = w.few;
      opens = w.opens;
      long = w.long;
      sized = w.sized;
      own = subst (IsOwnSized (suc (2 * turns_of t))) s.own w.own;
      keeps = sym s.kept ∙ w.keeps;
      closed = sym s.closed ∙ w.closed;
      foreseen = s.foreseen w.foreseen;
    }

-- so the lines of a node that ended are known, where they remove values of variables that are looked at
pub ended_known : (g : Game) (i : ℕ) (box : Box) (h : Option ℕ) (v : Verdict) (had left : ℕ) (vs : List ℤ) (ls : List Line) (turns : ℕ) → 0 < left → ((t : Tree) → ls ≡ tree_lines t → turns_of t ≤ turns) → IsLike g i vs box → list_all (line_looks g i) ls ≡ true → IsEnded g i box h v had left ls → IsKnown g i h vs v turns ls
ended_known g i box h v had left vs ls turns some few like look e =
    let looked = tree_looks g i e.tree (subst (λ ms. list_all (line_looks g i) ms ≡ true) e.lines look) in
    let here = whole_here e.above g i box h v had left e.tree turns some (few e.tree e.lines) e.made in
    (e.tree, record { lines = e.lines; whole = λ b other. whole_alike g i h v turns e.tree box b looked (likes_alike g i vs box b like other) here })

-- a node of which a whole tree is known is made
pub whole_made : (above : ℤ → Bool) (g : Game) (i : ℕ) (box : Box) (h : Option ℕ) (v : Verdict) (turns had : ℕ) (t : Tree) → turns ≤ had → is_vague_verdict beats_none v ≡ false → IsWhole g i h v turns t box →
    NodeMade true above g (drop i g.scopes) i (demands g i) box h v had (had - turns) t
whole_made above g i box h v turns had t enough sure w = record {
  placed = w.placed;
  verdict = w.verdict;
  settled = w.settled;
  lasts = w.lasts;
  ones = w.ones;
  apart = w.apart;
  fits = w.fits;
  spent = omega (arith, w.few, enough);
  exact = λ e. cc;
  opens = inl w.opens;
  gap = λ o. sure_anyway above v sure;
  long = w.long;
  sized = w.sized;
  own = w.own;
  keeps = w.keeps;
  closed = w.closed;
  foreseen = w.foreseen;
}

-- and its lines are written there
pub whole_written : (cuts : Bool) (above : ℤ → Bool) (g : Game) (i : ℕ) (box : Box) (h : Option ℕ) (v : Verdict) (turns had left : ℕ) (t : Tree) (ls old new : List Line) → cuts ≡ true → turns ≤ had → is_vague_verdict beats_none v ≡ false → ls ≡ tree_lines t → IsWhole g i h v turns t box → left ≡ had - turns → new ≡ old ++ ls →
    NodeWritten cuts above g (drop i g.scopes) i (demands g i) box h v had left old new
whole_written cuts above g i box h v turns had left t ls old new cut enough sure lines whole f q =
    let made = whole_made above g i box h v turns had t enough sure whole in
    record {
      tree = t;
      lines = subst (λ ms. new ≡ old ++ ms) lines q;
      made = subst (λ n. NodeMade cuts above g (drop i g.scopes) i (demands g i) box h v had n t) (sym f)
          (subst (λ b. NodeMade b above g (drop i g.scopes) i (demands g i) box h v had (had - turns) t) (sym cut) made);
    }

pub known_written : (cuts : Bool) (above : ℤ → Bool) (g : Game) (i : ℕ) (box : Box) (h : Option ℕ) (v : Verdict) (turns had left : ℕ) (ls old new : List Line) → cuts ≡ true → StandsHere g i h had box v turns ls → left ≡ had - turns → new ≡ old ++ ls →
    NodeWritten cuts above g (drop i g.scopes) i (demands g i) box h v had left old new
known_written cuts above g i box h v turns had left ls old new cut s f q =
    let k = s.known in
    whole_written cuts above g i box h v turns had left k.0 ls old new cut s.few s.sure k.1.lines (k.1.whole box s.like) f q

-- what was written of a node says how it ended
pub node_ends : (cuts : Bool) (above : ℤ → Bool) (g : Game) (i : ℕ) (box now : Box) (h : Option ℕ) (v : Verdict) (had left start : ℕ) (old new : List Line) → cuts ≡ true → now ≡ box → start ≡ length old → NodeWritten cuts above g (drop i g.scopes) i (demands g i) box h v had left old new →
    IsEnded g i now h v had left (drop start new)
node_ends cuts above g i box now h v had left start old new cut same e w = record {
  above = above;
  tree = w.tree;
  lines = ap (λ n. drop n new) e ∙ (ap (drop (length old)) w.lines ∙ drop_front old (tree_lines w.tree));
  made = subst (λ (b : Box). NodeMade true above g (drop i g.scopes) i (demands g i) b h v had left w.tree) (sym same)
      (subst (λ b. NodeMade b above g (drop i g.scopes) i (demands g i) box h v had left w.tree) cut w.made);
}
