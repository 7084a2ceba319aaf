-- A scope's own tree, from what its parts tell, in words of the walk before and after.
use Rattle.std.proofs.Common.{◌≡◌, ◌≤◌, ◌<◌, ◌+◌, ◌*◌, ℕ, Bool, true, false, List, [], drop, length, sym, subst, arith, ℤ}
use Rattle.std.specs.List.{list_all}
use Rattle.qc_model.specs.declared.problem.VarId.{VarId}
use Rattle.qc_model.specs.Content.{Game}
use Rattle.qc_model.specs.Demands.{demands}
use Rattle.qc_model.specs.Domains.{Box, is_single, values_left}
use Rattle.qc_model.specs.Game.{before, is_of_scope}
use Rattle.qc_model.specs.Valid.{IsValid, is_number}
use Rattle.qc_model.specs.Verdict.{Seen}
use Rattle.model_arguments.specs.Asked.{is_box_of}
use Rattle.proof_tree.specs.InPlace.{is_horizon}
use Rattle.proof_tree.specs.Place.{position}
use Rattle.proof_tree.specs.declared.line.Line.{Line}
use Rattle.joins.specs.declared.leaves.Found.{Found}
use Rattle.joins.specs.Joins.{KeepsAll, StandsAt}
use Rattle.joins.specs.Verdicts.{verdict_at}
use Rattle.search_box.specs.Boxed.{Boxed}
use Rattle.search_box.specs.Entered.{IsEntered}
use Rattle.search_box.proofs.Places.{read_numbers}
use Rattle.search_parts.specs.Bounded.{Outdoes}
use Rattle.search_parts.proofs.Fitting.{place_fits}
use Rattle.search_walk.specs.declared.stage.Stage.{Stage}
use Rattle.search_walk.specs.declared.walk.Walk.{Walk}
use Rattle.search_walk.specs.Here.{Here, here_of, in_box}
use Rattle.search_walk.specs.Put.{BodyPut, IsReady, PartPut}
use Rattle.search_walk.specs.Narrowed.{NarrowTold}
use Rattle.search_walk.specs.Told.{BodyTold, CaseTold, FirstTold, GoesFrom, IsAt, IsSure, MayGoInto, OwnAnswers, PartAnswers, PartTold, SeesOn, TreeAnswers, came_to}
use Rattle.search_walk.proofs.Here.{MayBranch, bare_steps, part_told, part_more, part_ended, first_ended, body_done}
use Rattle.search_walk.proofs.Losing.{ready_after}
use Rattle.search_walk.proofs.Outdoing.{rival_outdoes}

-- the values of the earlier scopes are such as a text can have
pub numbers_at : (g : Game) (i : ℕ) (b : Boxed) → IsValid g → IsEntered g i b → is_box_of b.game b.store.box ≡ true → list_all is_number (position g i b.store.box) ≡ true
numbers_at g i b valid here declared = read_numbers g b.store.box (before g i) valid.domains (subst (λ (f : Game). is_box_of f b.store.box ≡ true) here.game declared) here.full

-- a node of a scope, in a valid game, whose own tree is searched
pub record IsSearched (node : Here) : Type 0 where
  pub valid : IsValid node.game
  pub scope : node.number < length node.game.scopes
  pub numbers : list_all is_number (position node.game node.number node.box) ≡ true
  pub apart : is_horizon node.horizon node.number ≡ false
  pub outdoes : Outdoes node.game (drop node.number node.game.scopes) (demands node.game node.number) node.above

pub searched_at : (s : Stage) (a : Walk) → IsValid s.level.now.problem.now → IsAt s a.remains → is_box_of a.remains.game a.remains.store.box ≡ true → IsSearched (here_of s a)
searched_at s a valid here declared =
    let l = s.level.now in
    let g = l.problem.now in
    record {
      valid = valid;
      scope = l.is_scope;
      numbers = numbers_at g l.number a.remains valid here declared;
      apart = s.ahead;
      outdoes = rival_outdoes g l.number s.rival s.rivalled;
    }

-- what the join answers once the tree is written
abbrev pub Judges : Here → Found → Walk → Walk → Type 0
Judges node found mid last = (xs : List Seen) → StandsAt mid.joins node.number xs → came_to found last ≡ verdict_at node.game node.number (position node.game node.number mid.remains.store.box) xs

judged : (node : Here) (found : Found) (mid last : Walk) → mid.remains.store.box ≡ node.box → Judges node found mid last → (xs : List Seen) → StandsAt mid.joins node.number xs → came_to found last ≡ verdict_at node.game node.number (position node.game node.number node.box) xs
judged node found mid last same says xs s = subst (λ d. came_to found last ≡ verdict_at node.game node.number (position node.game node.number d) xs) same (says xs s)

-- the lines and the turns are those of the tree
body_kept : (node : Here) (found : Found) (a mid last : Walk) → last.lines ≡ mid.lines → last.left ≡ mid.left → BodyPut node (came_to found last) a.left mid.left a.lines mid.lines last.joins → BodyTold node found a last
body_kept node found a mid last lines left w =
    subst (λ ls. BodyPut node (came_to found last) a.left last.left a.lines ls last.joins) (sym lines)
    (subst (λ n. BodyPut node (came_to found last) a.left n a.lines mid.lines last.joins) (sym left) w)

-- a tree without a bound at its beginning
pub tree_ended : (node : Here) (found : Found) (a mid last : Walk) → IsSearched node → SeesOn node → mid.remains.store.box ≡ node.box → PartTold node [] [] a mid → Judges node found mid last → KeepsAll mid.joins last.joins → last.lines ≡ mid.lines → last.left ≡ mid.left → BodyTold node found a last
tree_ended node found a mid last s sees same told says kept lines left =
    body_kept node found a mid last lines left
    (part_ended node s.scope s.valid s.numbers s.apart s.outdoes sees a.left mid.left a.lines mid.lines mid.joins last.joins (came_to found last) told (judged node found mid last same says) (λ xs t. kept node.number xs t))

-- one that begins with a bound, where it is sure what the node comes to
pub bounded_ended : (node : Here) (found : Found) (a mid last : Walk) → IsSearched node → SeesOn node → mid.remains.store.box ≡ node.box → FirstTold node a mid → IsSure found last → Judges node found mid last → KeepsAll mid.joins last.joins → last.lines ≡ mid.lines → last.left ≡ mid.left → BodyTold node found a last
bounded_ended node found a mid last s sees same told sure says kept lines left =
    body_kept node found a mid last lines left
    (first_ended node s.scope s.valid s.numbers s.apart s.outdoes sees a.left mid.left a.lines mid.lines mid.joins last.joins (came_to found last) told.ms told.part sure (judged node found mid last same says) (λ xs t. kept node.number xs t))

-- the lines of a tree, after others that were taken back: written from the walk that had this box, these turns and lines
pub part_again : (s : Stage) (a last : Walk) (box : Box) (left : ℕ) (lines : List Line) → s.cuts ≡ true → box ≡ a.remains.store.box → left ≤ a.left → lines ≡ a.lines → (left < 2147483648 → PartPut (in_box (here_of s a) box) [] [] left last.left lines last.lines last.joins) → OwnAnswers (here_of s a) a last
part_again s a last box left lines cut content fewer stand told few =
    let node = here_of s a in
    part_more node [] [] left a.left last.left a.lines last.lines last.joins cut fewer
    (subst (λ ls. PartPut node [] [] left last.left ls last.lines last.joins) stand
    (subst (λ (d : Box). PartPut (in_box node d) [] [] left last.left lines last.lines last.joins) content (told (omega (arith, few, fewer)))))

-- so the tree
pub tree_again : (s : Stage) (found : Found) (a last : Walk) (box : Box) (left : ℕ) (lines : List Line) → s.cuts ≡ true → box ≡ a.remains.store.box → left ≤ a.left → lines ≡ a.lines →
    (left < 2147483648 → SeesOn (in_box (here_of s a) box) → BodyPut (in_box (here_of s a) box) (came_to found last) left last.left lines last.lines last.joins) → TreeAnswers (here_of s a) found a last
tree_again s found a last box left lines cut content fewer stand told few sees =
    let node = here_of s a in
    let v = came_to found last in
    let seen = subst (λ (d : Box). SeesOn (in_box node d)) (sym content) sees in
    body_done node v left a.left last.left a.lines last.lines last.joins cut fewer
    (subst (λ ls. BodyPut node v left last.left ls last.lines last.joins) stand
    (subst (λ (d : Box). BodyPut (in_box node d) v left last.left lines last.lines last.joins) content (told (omega (arith, few, fewer)) seen)))

-- a branch on x may stand here, where the search goes into one
pub may_branch : (s : Stage) (x : VarId) (a : Walk) → IsValid s.level.now.problem.now → GoesFrom s x.0 a.remains → is_of_scope s.level.now.problem.now s.level.now.number x.0 ≡ true → is_single (values_left a.remains.store.box x.0) ≡ false → x.0 < s.level.now.stop → MayBranch (here_of s a) x
may_branch s x a valid going own many var =
    let l = s.level.now in
    record {
      full = going.within.here.full;
      own = own;
      many = many;
      place = place_fits x.0 l.stop (length l.problem.now.variables) var l.stop_within valid.few_variables;
      closed = going.closed;
      earlier = going.within.fixed;
    }

-- a case, from what narrowed its box and the part that followed
pub case_by_part : (s : Stage) (box : Box) (a now last : Walk) (before : List Seen) (n : NarrowTold s.level.now.problem.now s.level.now.number box now.remains.store.box before now.joins now.steps) → now.left ≡ a.left → now.lines ≡ a.lines → PartAnswers (here_of s now) now last → MayGoInto (here_of s a) a before → CaseTold (in_box (here_of s a) box) before a last
case_by_part s box a now last before n left lines part ready =
    let g = s.level.now.problem.now in
    let i = s.level.now.number in
    let here = in_box (here_of s a) box in
    let mid = now.remains.store.box in
    let begun = subst (λ m. IsReady g i a.joins (2 + 2 * m) before) (sym left) ready in
    let again = ready_after g i box mid a.joins now.joins now.left before now.steps n begun in
    let told = part_told here mid before n.ms now.left last.left now.lines last.lines last.joins now.steps n.stepped (part box before n.ms (bare_steps g i box mid before n.ms now.steps n.stepped) again) in
    let turns = subst (λ m. PartPut here before n.ms m last.left now.lines last.lines last.joins) left told in
    record { ms = n.ms; part = subst (λ ls. PartPut here before n.ms a.left last.left ls last.lines last.joins) lines turns }
