-- A node that is due, passed over with all its lines.
use Rattle.std.proofs.Common.{◌≡◌, refl, sym, ap, ◌∙◌, subst, ℕ, ◌+◌, ◌≤◌, List, [], ◌∷◌, ◌++◌, Bool, true, false, ◌&&◌, cond, Option, Some, None, arith, append_assoc}
use Rattle.std.specs.Prelude.{flat_map, IsTrue, ℤ}
use Rattle.std.specs.List.{list_all}
use Rattle.std.proofs.lemmas.Bool.{and_from, and_parts}
use Rattle.std.proofs.lemmas.Grind.{flat_map-append}
use Rattle.std.proofs.lemmas.List.{append-nil}
use Rattle.std.proofs.lemmas.List.Folds.{list_all-append}
use Rattle.proof_tree.specs.declared.line.Line.{Line}
use Rattle.proof_tree.specs.declared.tree.Outcome.{Outcome}
use Rattle.proof_tree.specs.declared.tree.Version.{Version}
use Rattle.proof_tree.specs.declared.tree.Version.TheVariants.{Two}
use Rattle.proof_tree.specs.Counts.{depth_of}
use Rattle.proof_tree.specs.Lines.{tree_lines}
use Rattle.proof_tree.specs.Text.{version_text, outcome_text, outcome_fits, line_text, tree_fits}
use Rattle.proof_tree.specs.Tree.{Tree}
use Rattle.proof_text.specs.declared.letters.Place.TheVariants.{Node, Closed}
use Rattle.proof_text.specs.declared.walk.At.TheVariants.{Letter}
use Rattle.proof_text.specs.declared.walk.Nested.{Nested}
use Rattle.proof_text.specs.Answers.{Told, nothing, headed, told_text, tell_all, is_nothing, StandsFor}
use Rattle.proof_text.specs.LineRanges.{line_fits}
use Rattle.proof_text.specs.Nesting.{open_branches}
use Rattle.proof_text.specs.Parts.{tree_text}
use Rattle.proof_text.specs.Places.{BeginsText}
use Rattle.proof_text.specs.Readings.{Reading}
use Rattle.proof_text.specs.Standing.{Standing, owing, too_deep, chosen_standing, standing_from, standing}
use Rattle.proof_text.specs.Symbols.{Symbol, node, after, start}
use Rattle.proof_text.specs.Walks.{reading_of}
use Rattle.proof_text.proofs.FittingLines.{tree_fitting}
use Rattle.proof_text.proofs.Grammar.{Runs, runs_split}
use Rattle.proof_text.proofs.LinesRead.{tree_told}
use Rattle.proof_text.proofs.Owed.{is_sound, sound_after}
use Rattle.proof_text.proofs.Saying.{standing_after, begins_of}
use Rattle.proof_text.proofs.Standings.{tells}
use Rattle.proof_text.proofs.Verdicts.{go_in, no_way, not_empty, all_nest}

byte_passes : (o : Option (List Symbol)) (s : Symbol) (k below : List Symbol) (c : ℕ) (w b : List ℕ) → list_all is_sound (s ∷ k) ≡ true → after s c ≡ o → Runs 1000 (s ∷ k) (c ∷ w) b
    → ((l : List Symbol) → list_all is_sound l ≡ true → Runs 1000 l w b → standing_from (owing (l ++ below)) w ≡ standing_from (owing below) b)
    → standing_from (chosen_standing o (k ++ below)) w ≡ standing_from (owing below) b
byte_passes None s k below c w b f e r more = absurd (no_way 1000 s k c w b (and_parts (is_sound s) (list_all is_sound k) f).0 e r)
byte_passes (Some owed) s k below c w b f e r more =
    let p = and_parts (is_sound s) (list_all is_sound k) f in
    let g = go_in 1000 s k owed c w b p.0 e r in
    let q = runs_split 1000 owed k w b g in
    ap (λ (t : Bool). standing_from (cond t (owing (owed ++ (k ++ below))) too_deep) w) (all_nest 1000 owed w q.0 q.1)
    ∙ ap (λ (l : List Symbol). standing_from (owing l) w) (sym (append_assoc owed k below))
    ∙ more (owed ++ k) (list_all-append is_sound owed k ∙ and_from (list_all is_sound owed) (list_all is_sound k) (sound_after s c owed p.0 e) p.1) g

-- texts of what is owed first leave what is owed after it
pub passes : (u : List ℕ) (k below : List Symbol) (b : List ℕ) → list_all is_sound k ≡ true → Runs 1000 k u b → standing_from (owing (k ++ below)) u ≡ standing_from (owing below) b
passes [] [] below b f r = ap (standing_from (owing below)) r
passes [] (s ∷ k) below b f r = absurd (not_empty 1000 s k b (and_parts (is_sound s) (list_all is_sound k) f).0 r)
passes (c ∷ w) [] below b f r = ap (standing_from (owing below)) r
passes (c ∷ w) (s ∷ k) below b f r = byte_passes (after s c) s k below c w b f refl r (λ l g h. passes w l below b g h)

-- the lines of a node leave what is owed below it
pub node_passes : (version : Version) (n : ℕ) (t : Tree) (below : List Symbol) → IsTrue (tree_fits version t) → n + depth_of t ≤ 1000 → standing_from (owing (node version n ∷ below)) (flat_map line_text (tree_lines t)) ≡ owing below
node_passes version n t below f d =
    ap (standing_from (owing (node version n ∷ below))) (tree_told t)
    ∙ passes (tree_text t) (node version n ∷ []) below [] refl ([], record { t = t; fits = f; shallow = d; told = sym (append-nil (tree_text t)) }, refl)

-- a node is due, with so many levels of nesting left, and the other reading is without it
pub record IsDue (depth : ℕ) (old new : Reading) : Type 0 where
  pub n : ℕ
  pub below : List Symbol
  pub owes : old.standing ≡ owing (node Two n ∷ below)
  pub leaves : new.standing ≡ owing below
  pub room : n + depth ≤ 1000
  pub after_head : old.in_head ≡ false
  pub still : new.in_head ≡ false
  pub whole : old.unfinished ≡ []
  pub nothing_new : new.unfinished ≡ []

pub is_due : (depth : ℕ) (t : Nested) → t.version ≡ Two → t.nesting + depth ≤ 1000 → IsDue depth (reading_of t (Letter Node)) (reading_of t (Letter Closed))
is_due depth t v d = record {
  n = t.nesting;
  below = open_branches t.version t.levels.marks t.nesting;
  owes = ap (λ (version : Version). owing (node version t.nesting ∷ open_branches t.version t.levels.marks t.nesting)) v;
  leaves = refl;
  room = d;
  after_head = refl;
  still = refl;
  whole = refl;
  nothing_new = refl;
}

tells_more : (v : Version) (o : Outcome) (p : Option ℤ) (lines ls : List Line) → told_text (headed v o p lines) ++ flat_map line_text ls ≡ told_text (headed v o p (lines ++ ls))
tells_more v o p lines ls =
    append_assoc (version_text v ++ outcome_text o p) (flat_map line_text lines) (flat_map line_text ls)
    ∙ ap (λ (l : List ℕ). version_text v ++ outcome_text o p ++ l) (sym (flat_map-append line_text lines ls))

more_fit : (o : Outcome) (p : Option ℤ) (lines ls : List Line) → IsTrue (outcome_fits o p && list_all line_fits lines) → list_all line_fits ls ≡ true → IsTrue (outcome_fits o p && list_all line_fits (lines ++ ls))
more_fit o p lines ls h g =
    let q = and_parts (outcome_fits o p) (list_all line_fits lines) h in
    and_from (outcome_fits o p) (list_all line_fits (lines ++ ls)) q.0 (list_all-append line_fits lines ls ∙ and_from (list_all line_fits lines) (list_all line_fits ls) q.1 g)

node_is : (depth : ℕ) (old new : Reading) (before : List ℕ) (told : Told) (t : Tree) → IsDue depth old new → StandsFor old before told → IsTrue (tree_fits Two t) → depth_of t ≤ depth → standing (before ++ flat_map line_text (tree_lines t)) ≡ new.standing
node_is depth old new before told t d h f le =
    let room = d.room in
    standing_after (owing start) before (flat_map line_text (tree_lines t))
    ∙ ap (λ (s : Standing). standing_from s (flat_map line_text (tree_lines t))) (h.standing ∙ d.owes)
    ∙ node_passes Two d.n t d.below f (omega arith)
    ∙ sym d.leaves

node_stands : (depth : ℕ) (old new : Reading) (before : List ℕ) (told : Told) (t : Tree) → IsDue depth old new → StandsFor old before told → IsTrue (tree_fits Two t) → depth_of t ≤ depth
    → StandsFor new (before ++ flat_map line_text (tree_lines t)) (tell_all told (tree_lines t))
node_stands depth old new before nothing t d h f le = let no : true ≡ false = sym (h.head (_, d.owes)) ∙ d.after_head in absurd (cc)
node_stands depth old new before (headed v o p lines) t d h f le =
    let ls = tree_lines t in
    record {
      standing = node_is depth old new before (headed v o p lines) t d h f le;
      text = λ n.
          ap (λ (l : List ℕ). l ++ flat_map line_text ls) (h.text (_, d.owes) ∙ ap (λ (l : List ℕ). told_text (headed v o p lines) ++ l) d.whole ∙ append-nil (told_text (headed v o p lines)))
          ∙ tells_more v o p lines ls
          ∙ sym (append-nil (told_text (headed v o p (lines ++ ls))))
          ∙ ap (λ (l : List ℕ). told_text (headed v o p (lines ++ ls)) ++ l) (sym d.nothing_new);
      head = λ n. d.still;
      fits = more_fit o p lines ls h.fits (tree_fitting Two t f);
    }

node_says : (depth : ℕ) (old new : Reading) (before : List ℕ) (told : Told) (t : Tree) → IsDue depth old new → StandsFor old before told → IsTrue (tree_fits Two t) → depth_of t ≤ depth
    → BeginsText 1000 (before ++ flat_map line_text (tree_lines t)) × (is_nothing told ≡ false)
node_says depth old new before told t d h f le =
    let bytes = before ++ flat_map line_text (tree_lines t) in
    (begins_of (standing bytes) bytes (d.below, node_is depth old new before told t d h f le ∙ d.leaves) (tells bytes), sym (h.head (_, d.owes)) ∙ d.after_head)

-- for the reading behind a value
pub node_stands_for : (depth : ℕ) (old given new : Reading) → given ≡ old → IsDue depth given new → (before : List ℕ) (told : Told) (t : Tree) → StandsFor old before told → IsTrue (tree_fits Two t) → depth_of t ≤ depth
    → StandsFor new (before ++ flat_map line_text (tree_lines t)) (tell_all told (tree_lines t))
node_stands_for depth old given new e d before told t h f le = node_stands depth given new before told t d (subst (λ (r : Reading). StandsFor r before told) (sym e) h) f le

pub node_says_for : (depth : ℕ) (old given new : Reading) → given ≡ old → IsDue depth given new → (before : List ℕ) (told : Told) (t : Tree) → StandsFor old before told → IsTrue (tree_fits Two t) → depth_of t ≤ depth
    → BeginsText 1000 (before ++ flat_map line_text (tree_lines t)) × (is_nothing told ≡ false)
node_says_for depth old given new e d before told t h f le = node_says depth given new before told t d (subst (λ (r : Reading). StandsFor r before told) (sym e) h) f le
