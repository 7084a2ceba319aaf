-- Nodes that have ended: they are known wherever the position looks the same, and those that haven't go on.
use Rattle.std.proofs.Common.{◌≡◌, ◌≤◌, ◌<◌, ◌+◌, ◌-◌, ◌^◌, ◌∙◌, inl, inr, ℕ, min, Bool, true, false, List, [], ◌∷◌, ◌++◌, length, drop, take, refl, sym, ap, subst, arith, Option, Some, ℤ}
use Rattle.std.specs.Prelude.{flat_map}
use Rattle.std.specs.List.{list_all}
use Rattle.std.proofs.lemmas.List.{drop-take}
use Rattle.qc_model.specs.Content.{Game}
use Rattle.qc_model.specs.Demands.{demands}
use Rattle.qc_model.specs.Domains.{Box}
use Rattle.qc_model.specs.Verdict.{Verdict, lost, exact, at_most, unknown, Seen, seen_barred, seen_node}
use Rattle.joins.specs.Seen.{verdict_of}
use Rattle.joins.specs.Joins.{IsLong, out_of}
use Rattle.proof_alike.specs.Looking.{looks}
use Rattle.proof_alike.proofs.Alike.{does_alike}
use Rattle.likeness.specs.Likeness.{ask_nothing, IsLike, decided_as, is_decided_as, ends_as, line_looks}
use Rattle.likeness.proofs.Likes.{likes_alike}
use Rattle.likeness.proofs.Lines.{tree_looks}
use Rattle.likeness.proofs.Plain.{no_demands, later_none, read_none, decided_is}
use Rattle.check_memory.specs.Known.{Decides, IsKnown}
use Rattle.proof_tree.specs.Counts.{turns_of}
use Rattle.proof_tree.specs.Lines.{tree_lines}
use Rattle.proof_tree.specs.Text.{line_text}
use Rattle.proof_tree.specs.Tree.{Tree}
use Rattle.proof_text.specs.Answers.{StandsFor}
use Rattle.proof_text.specs.LineRanges.{line_fits}
use Rattle.proof_text.proofs.FittingLines.{fitting_tree}
use Rattle.check_lines.specs.declared.machine.Machine.{Machine}
use Rattle.check_lines.specs.declared.passing.NodeEnded.{NodeEnded}
use Rattle.check_lines.specs.Ledger.{Ledger}
use Rattle.check_lines.specs.LedgerSizes.{KeepsSizesAt}
use Rattle.check_lines.specs.Machine.{game_of}
use Rattle.check_lines.specs.Passed.{EndedTold, HasEndedIn}
use Rattle.check_lines.specs.Telling.{Tells, TellsAfter}
use Rattle.check_lines.specs.Under.{EndsUnder}
use Rattle.qc_check.specs.declared.progress.Checker.{Checker}
use Rattle.qc_check.specs.Checking.{lines_told, HeadIs, IsReading}
use Rattle.qc_check.specs.Keeping.{Standing, GoesOn, MayEnd, IsStart, IsInside, AreStarts, AreStartsOf, ledger_told, IsKeeping, IsSettling}
use Rattle.qc_check.specs.Places.{StartHeld, IsTail}
use Rattle.qc_check.proofs.Horizons.{removals_alone}

-- the last of a list, or this where there is none
abbrev last_of : Seen → List Seen → Seen
last_of s [] = s
last_of s (x ∷ xs) = last_of x xs

last_is : (s : Seen) (xs : List Seen) (x : Seen) → last_of s (xs ++ x ∷ []) ≡ x
last_is s [] x = refl
last_is s (y ∷ xs) x = last_is y xs x

-- lists that end alike
ends_alike : (xs ys : List Seen) (v w : Verdict) → xs ++ seen_node v ∷ [] ≡ ys ++ seen_node w ∷ [] → v ≡ w
ends_alike xs ys v w e =
    let same : seen_node v ≡ seen_node w = sym (last_is seen_barred xs (seen_node v)) ∙ (ap (last_of seen_barred) e ∙ last_is seen_barred ys (seen_node w)) in
    cc

-- an exact vector has no value where nothing is demanded
no_value : (w : List ℤ) → length w ≡ 0 → is_decided_as true (exact w) ≡ true
no_value [] q = refl
no_value (n ∷ w) q = absurd (omega (arith, q))

-- what ends as lost or exact is decided
decided_end : (g : Game) (i : ℕ) (won : Bool) (v : Verdict) → ask_nothing g.scopes ≡ true → ends_as won v ≡ true → IsLong g i v → is_decided_as won v ≡ true
decided_end g i won lost plain e long = e
decided_end g i true (exact w) plain e long = no_value w (long ∙ ap length (no_demands g i plain))
decided_end g i false (exact w) plain e long = cc
decided_end g i won (at_most p) plain e long = cc
decided_end g i won unknown plain e long = cc

-- what a tree decides it decides in each box that is like the same values
decides_alike : (g : Game) (i : ℕ) (h : Option ℕ) (vs : List ℤ) (won : Bool) (t : Tree) (a b : Box) → looks g i t ≡ true → IsLike g i vs a → IsLike g i vs b → Decides g i h won t a → Decides g i h won t b
decides_alike g i h vs won t a b look p q d =
    let s = does_alike g t i a b h (likes_alike g i vs a b p q) look d.placed in
    record { placed = s.placed; verdict = sym s.verdict ∙ d.verdict; own = sym s.own ∙ d.own }

-- turns since a node was due, where no more were counted than are counted at most
turns_since : (a b c d n : ℕ) → c ≡ min (a + b) (2 ^ 64 - 1) → n ≡ c → (n ≡ 18446744073709551615 → ⊥) → a ≡ d → b ≡ n - d
turns_since a b c d n h k few e = omega arith

-- what was seen last of a node that has ended, which is lost or won
comes_as : (m : Machine) (p : Option Ledger) (won : Bool) (v : Verdict) (xs : List Seen) (e : EndedTold m p) → ask_nothing (game_of m).scopes ≡ true → ends_as won (verdict_of m.found (out_of m.joins)) ≡ true → e.ledger.seen ≡ xs ++ seen_node v ∷ [] →
    v ≡ decided_as won
comes_as m p won v xs e plain ends seen =
    let w = verdict_of m.found (out_of m.joins) in
    let same : v ≡ w = ends_alike xs e.before v w (sym seen ∙ e.seen) in
    decided_is won v (ap (is_decided_as won) same ∙ decided_end (game_of m) m.number won w plain ends e.long)

-- a node that has ended is known wherever the position looks the same
module _ (m : Machine) (p : Option Ledger) (bytes : List ℕ) (s : StartHeld) (n : NodeEnded) (won : Bool) (plain : ask_nothing (game_of m).scopes ≡ true) (ends : (v : List ℤ) → ends_as won (verdict_of n.found v) ≡ true) (ended : HasEndedIn m n) (e : EndedTold m p) (b : IsStart MayEnd (game_of m) bytes e.ledger s) where
  known_so : (n.turns ≡ 18446744073709551615 → ⊥) → length e.ledger.entries + 1 ≡ length b.ledger.entries → EndsUnder (game_of m) b.ledger b.lines e.ledger → IsKnown (game_of m) s.start.node.scope s.start.node.horizon s.values won (n.turns - s.start.node.turns) s.start.node.depth (drop s.start.at bytes)
  known_so few level u = (
    u.tree,
    record {
      text = b.text ∙ ap (flat_map line_text) u.lines;
      shallow = let deepest = u.shallow in let high = b.depth in omega (arith, high, deepest);
      turns = turns_since b.ledger.turns (turns_of u.tree) e.ledger.turns s.start.node.turns n.turns u.turns (ended.turns ∙ sym e.turns) few b.turns;
      opens = u.opens (e.opens ∙ ended.opens);
      fits = fitting_tree u.tree (subst (λ ls. list_all line_fits ls ≡ true) u.lines b.fits) (removals_alone g u.tree (drop i g.scopes) i (demands g i) b.ledger.box b.ledger.horizon u.placed);
      looks = looked;
      decided = λ box like. decides_alike g s.start.node.scope s.start.node.horizon s.values won u.tree b.ledger.box box (tree_looks g s.start.node.scope u.tree looked) b.like like there;
    },
  )
    where
      g : Game
      g = game_of m

      i : ℕ
      i = b.ledger.number

      looked : list_all (line_looks g s.start.node.scope) (tree_lines u.tree) ≡ true
      looked = subst (λ ls. list_all (line_looks g s.start.node.scope) ls ≡ true) u.lines b.looks

      here : Decides g i b.ledger.horizon won u.tree b.ledger.box
      here =
          let last = u.verdict e.awaited level in
          record {
            placed = u.placed;
            verdict = comes_as m p won _ last.0 e plain (subst (λ f. ends_as won (verdict_of f (out_of m.joins)) ≡ true) ended.found (ends (out_of m.joins))) last.1;
            own = read_none g u.tree (drop i g.scopes) i (demands g i) b.ledger.box (later_none g.scopes i plain);
          }

      there : Decides g s.start.node.scope s.start.node.horizon won u.tree b.ledger.box
      there = subst (λ j. Decides g j s.start.node.horizon won u.tree b.ledger.box) b.scope (subst (λ h. Decides g i h won u.tree b.ledger.box) b.horizon here)

  pub known_here : (n.turns ≡ 18446744073709551615 → ⊥) → s.start.node.depth ≡ length m.nesting → IsKnown (game_of m) s.start.node.scope s.start.node.horizon s.values won (n.turns - s.start.node.turns) s.start.node.depth (drop s.start.at bytes)
  known_here few deep =
      let high = b.depth in
      let low = e.depth in
      let level : length e.ledger.entries + 1 ≡ length b.ledger.entries = omega (arith, high, low, deep) in
      let less : length e.ledger.entries < length b.ledger.entries = omega (arith, level) in
      known_so few level (b.stands.1 less)

-- what is known is so of what is written otherwise
pub known_as : (g h : Game) (i : ℕ) (z : Option ℕ) (vs ws : List ℤ) (won : Bool) (n k deep : ℕ) (bytes text : List ℕ) → g ≡ h → vs ≡ ws → n ≡ k → bytes ≡ text → IsKnown g i z vs won n deep bytes → IsKnown h i z ws won k deep text
known_as g h i z vs ws won n k deep bytes text p q r t known =
    subst (λ f. IsKnown f i z ws won k deep text) p
    (subst (λ us. IsKnown g i z us won k deep text) q
    (subst (λ m. IsKnown g i z vs won m deep text) r (subst (IsKnown g i z vs won n deep) t known)))

-- bytes from one place to another
pub between : (a b : ℕ) (bytes : List ℕ) → a ≤ b → drop a (take b bytes) ≡ take (b - a) (drop a bytes)
between a b bytes h = let e : b ≡ a + (b - a) = omega (arith, h) in ap (λ n. drop a (take n bytes)) e ∙ drop-take a (b - a) bytes

-- none of the nodes is some of the last
pub cleared : (xs ys : List StartHeld) → xs ≡ [] → IsTail xs ys
cleared xs [] e = e
cleared xs (y ∷ ys) e = inr (cleared xs ys e)

-- what stands below the next place after so many
pub no_deeper : (a b next n : ℕ) → next ≡ min (b + 1) (2 ^ 64 - 1) → a < next → n ≡ b → a ≤ n
no_deeper a b next n e h q = omega arith

module _ (g : Game) (bytes : List ℕ) (p : Ledger) where
  -- some of the last of the nodes stand as all do
  tail_stands : (how : Standing) (xs ys : List StartHeld) → IsTail xs ys → AreStarts how g bytes p ys → AreStarts how g bytes p xs
  tail_stands how xs [] t h = subst (AreStarts how g bytes p) (sym t) h
  tail_stands how xs (y ∷ ys) (inl e) h = subst (AreStarts how g bytes p) (sym e) h
  tail_stands how xs (y ∷ ys) (inr t) h = tail_stands how xs ys t h.2

  -- a node goes on where as much is open as at its beginning
  goes_on : (s : StartHeld) → s.start.node.depth ≤ length p.entries → IsStart MayEnd g bytes p s → IsStart GoesOn g bytes p s
  goes_on s h k = record {
    ledger = k.ledger;
    lines = k.lines;
    stands = k.stands.0 (let e = k.depth in omega (arith, e, h));
    scope = k.scope;
    horizon = k.horizon;
    depth = k.depth;
    turns = k.turns;
    within = k.within;
    text = k.text;
    fits = k.fits;
    looks = k.looks;
    like = k.like;
  }

  -- and so do all before it
  all_go_on : (ss : List StartHeld) → ((s : StartHeld) (more : List StartHeld) → ss ≡ s ∷ more → s.start.node.depth ≤ length p.entries) → AreStarts MayEnd g bytes p ss → AreStarts GoesOn g bytes p ss
  all_go_on [] low k = tt
  all_go_on (s ∷ more) low k =
      let h = low s more refl in (
        goes_on s h k.0,
        k.1,
        all_go_on more (λ o rest e. let q = (subst (IsInside s) e k.1).1 in omega (arith, h, q)) k.2,
      )

-- a checker that read as much, whose machine tells what the other's does
module _ (c n : Checker) (reader : n.reader ≡ c.reader) (head : n.head ≡ c.head) (count : n.read ≡ c.read) (same : game_of n.machine ≡ game_of c.machine) (tells : (p : Option Ledger) → Tells c.machine p → Tells n.machine p) where
  abbrev reads_on : (bytes : List ℕ) → IsReading c.reader c.machine c.head c.read bytes → IsReading n.reader n.machine n.head n.read bytes
  reads_on bytes k = record {
    told = k.told;
    stands = subst (λ r. StandsFor r bytes k.told) (sym reader) k.stands;
    begins = k.begins;
    counted = count ∙ k.counted;
    head_is = subst (λ h. HeadIs h k.told) (sym head) k.head_is;
    few = subst (λ r. length (lines_told k.told) ≤ r) (sym count) k.few;
    tells = subst (λ g. TellsAfter (length (lines_told k.told)) n.machine (ledger_told g k.told)) (sym same)
        (record { tells = tells _ k.tells.tells; sizes = subst (λ g. KeepsSizesAt g (length (lines_told k.told)) (ledger_told (game_of c.machine) k.told)) (sym same) k.tells.sizes });
  }

  module _ (front piece : List ℕ) (at : ℕ) where
    -- some of its nodes stand as they did
    pub still_settling : IsTail n.starts c.starts → IsSettling c front piece at → IsSettling n front piece at
    still_settling tail k = record {
      reading = reads_on (front ++ take at piece) k.reading;
      starts = subst (λ g. AreStartsOf MayEnd g (take at piece) (ledger_told g k.reading.told) n.starts) (sym same) (λ d e. tail_stands (game_of c.machine) (take at piece) d MayEnd n.starts c.starts tail (k.starts d e));
    }

    -- those above which no more is open go on
    pub settled : IsTail n.starts c.starts → ((d : Ledger) → Tells c.machine (Some d) → (s : StartHeld) (more : List StartHeld) → n.starts ≡ s ∷ more → s.start.node.depth ≤ length d.entries) → IsSettling c front piece at → IsKeeping n front piece at
    settled tail low k = record {
      reading = reads_on (front ++ take at piece) k.reading;
      starts = subst (λ g. AreStartsOf GoesOn g (take at piece) (ledger_told g k.reading.told) n.starts) (sym same)
          (λ d e.
          all_go_on (game_of c.machine) (take at piece) d n.starts (low d (subst (Tells c.machine) e k.reading.tells.tells)) (tail_stands (game_of c.machine) (take at piece) d MayEnd n.starts c.starts tail (k.starts d e)));
    }
