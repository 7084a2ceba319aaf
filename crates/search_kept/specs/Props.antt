-- What a node that is kept knows is known in one way.
use Rattle.std.specs.Prelude.{ℕ, suc, Option, Some, None, List, [], ◌∷◌, ℤ}
use Rattle.std.specs.Coded.{×_prop, Unit-prop}
use Rattle.std.proofs.Props.{props}
use mathlib.Core.HLevel.{Σ_prop_path}
use Rattle.qc_model.specs.declared.problem.Scope.{Scope}
use Rattle.qc_model.specs.Content.{Game}
use Rattle.qc_model.specs.Domains.{Values, Box, values_left}
use Rattle.qc_model.specs.Verdict.{Verdict, lost, exact, at_most, unknown}
use Rattle.joins.specs.Joins.{IsLong}
use Rattle.joins.specs.Sizes.{IsSized}
use Rattle.search_parts.specs.Own.{IsOwnSized}
use Rattle.proof_tree.specs.declared.line.Line.{Line}
use Rattle.proof_tree.specs.Cover.{covered, uncovered, box_to}
use Rattle.proof_tree.specs.Diligent.{SeesAhead, Foresees, BodyForesees, EndingForesees, BranchesForesee, CaseForesees}
use Rattle.proof_tree.specs.InPlace.{horizon_below}
use Rattle.proof_tree.specs.Place.{next_scopes}
use Rattle.proof_tree.specs.Steps.{after_steps}
use Rattle.proof_tree.specs.Tree.{Tree, tree, Body, stuck, goal, cases, Ending, empty, barred, next, branch, Branches, no_more, piece, Case, skip, left_open, go}
use Rattle.strategy_arena.proofs.UniqueLines.{only_tree}
use Rattle.search_kept.specs.Aside.{IsWhole, IsAsideBy, IsAside}
use Rattle.search_kept.specs.Known.{IsKnownBy, IsKnown}

sees_prop : (g : Game) (later : List Scope) (i : ℕ) (box : Box) (h : Option ℕ) → IsProp (SeesAhead g later i box h)
sees_prop g [] i box h = hlevel props
sees_prop g (s ∷ later) i box h = hlevel props

mutual
  foresees_prop : (g : Game) (t : Tree) (later : List Scope) (i : ℕ) (box : Box) (h : Option ℕ) → IsProp (Foresees g t later i box h)
  foresees_prop g (tree z c) later i box h = ×_prop (sees_prop g later i box (horizon_below z h)) (body_prop g c later i box (horizon_below z h))

  body_prop : (g : Game) (c : Body) (later : List Scope) (i : ℕ) (box : Box) (h : Option ℕ) → IsProp (BodyForesees g c later i box h)
  body_prop g stuck later i box h = Unit-prop
  body_prop g goal later i box h = Unit-prop
  body_prop g (cases steps end) later i box h = ending_prop g end later i (after_steps steps box) h

  ending_prop : (g : Game) (end : Ending) (later : List Scope) (i : ℕ) (box : Box) (h : Option ℕ) → IsProp (EndingForesees g end later i box h)
  ending_prop g empty later i box h = Unit-prop
  ending_prop g barred later i box h = Unit-prop
  ending_prop g (next t) later i box h = foresees_prop g t (next_scopes later) (suc i) box h
  ending_prop g (branch x bs) later i box h = branches_prop g bs x.0 (values_left box x.0) later i box h

  branches_prop : (g : Game) (bs : Branches) (x : ℕ) (vs : Values) (later : List Scope) (i : ℕ) (box : Box) (h : Option ℕ) → IsProp (BranchesForesee g bs x vs later i box h)
  branches_prop g no_more x vs later i box h = Unit-prop
  branches_prop g (piece upto c bs) x vs later i box h = ×_prop (case_prop g c later i (box_to box x (covered upto vs)) h) (branches_prop g bs x (uncovered upto vs) later i box h)

  case_prop : (g : Game) (c : Case) (later : List Scope) (i : ℕ) (box : Box) (h : Option ℕ) → IsProp (CaseForesees g c later i box h)
  case_prop g skip later i box h = Unit-prop
  case_prop g left_open later i box h = Unit-prop
  case_prop g (go steps end) later i box h = ending_prop g end later i (after_steps steps box) h

sized_prop : (n : ℕ) (v : Verdict) → IsProp (IsSized n v)
sized_prop n lost = Unit-prop
sized_prop n (exact v) = hlevel props
sized_prop n (at_most p) = hlevel props
sized_prop n unknown = Unit-prop

long_prop : (g : Game) (i : ℕ) (v : Verdict) → IsProp (IsLong g i v)
long_prop g i lost = Unit-prop
long_prop g i (exact v) = hlevel props
long_prop g i (at_most p) = Unit-prop
long_prop g i unknown = Unit-prop

own_sized_prop : (n : ℕ) (o : Option ℤ) → IsProp (IsOwnSized n o)
own_sized_prop n None = Unit-prop
own_sized_prop n (Some v) = hlevel props

whole_prop : (g : Game) (i : ℕ) (h : Option ℕ) (v : Verdict) (turns : ℕ) (t : Tree) (box : Box) → IsProp (IsWhole g i h v turns t box)
whole_prop g i h v turns t box = hlevel (props, foresees_prop, sized_prop, long_prop, own_sized_prop)

aside_by_prop : (g : Game) (i : ℕ) (h : Option ℕ) (vs : List ℤ) (v : Verdict) (turns : ℕ) (ls : List Line) (t : Tree) → IsProp (IsAsideBy g i h vs v turns ls t)
aside_by_prop g i h vs v turns ls t = hlevel (props, whole_prop)

pub aside_prop : (g : Game) (i : ℕ) (h : Option ℕ) (vs : List ℤ) (v : Verdict) (turns : ℕ) (ls : List Line) → IsProp (IsAside g i h vs v turns ls)
aside_prop g i h vs v turns ls = λ a b. Σ_prop_path (aside_by_prop g i h vs v turns ls) (only_tree a.0 b.0 ls a.1.lines b.1.lines)

known_by_prop : (g : Game) (i : ℕ) (h : Option ℕ) (vs : List ℤ) (v : Verdict) (turns : ℕ) (ls : List Line) (t : Tree) → IsProp (IsKnownBy g i h vs v turns ls t)
known_by_prop g i h vs v turns ls t = hlevel (props, whole_prop)

-- no other tree has these lines
pub known_prop : (g : Game) (i : ℕ) (h : Option ℕ) (vs : List ℤ) (v : Verdict) (turns : ℕ) (ls : List Line) → IsProp (IsKnown g i h vs v turns ls)
known_prop g i h vs v turns ls = λ a b. Σ_prop_path (known_by_prop g i h vs v turns ls) (only_tree a.0 b.0 ls a.1.lines b.1.lines)
