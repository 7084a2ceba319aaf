-- One line after the other, whatever is due.
use Rattle.std.proofs.Common.{◌≡◌, ◌∙◌, sym, ap, subst, ◌≤◌, Bool, Option, Some, None, List, length}
use Rattle.std.specs.Prelude.{Result, OnOk, ℤ}
use Rattle.dense_tree.specs.Place.{Setting}
use Rattle.dense_tree.specs.Lines as told
use Rattle.dense_ledger.specs.Ledger.{Ledger, Entry as EntryTold, setting_of, at_fork, first_line, node_line, horizoned, body_line, part_line, fork_line, case_line, goes, goes_at, given_due}
use Rattle.dense_nest.specs.declared.place.Entry.{Entry}
use Rattle.dense_nest.specs.declared.place.Due.{Due}
use Rattle.dense_nest.specs.declared.place.Due.TheVariants as due
use Rattle.dense_nest.specs.Telling.{TellsAt}
use Rattle.dense_check.specs.declared.machine.DenseMachine.{DenseMachine}
use Rattle.dense_check.specs.declared.line.Line.{Line}
use Rattle.dense_check.specs.declared.line.Line.TheVariants.{Given as GivenLine}
use Rattle.qc_model.specs.declared.problem.ScopeId.{ScopeId}
use Rattle.dense_check.specs.Lines.{line_told}
use Rattle.dense_check.specs.Telling.{game_of, IsReady, IsPart, IsNode, IsAtFork, IsAtRoot, Tells, TellsOf, PartGoes, NodeGoes, ForkGoes, IsGathered, here_in}
use Rattle.dense_check.proofs.Gathered.{whole}
use Rattle.dense_check.proofs.Ending.{on_ok}
use Rattle.dense_check.proofs.Noding.{Told}
use Rattle.dense_check.proofs.Dispatching.{first_is}

-- whichever line it is that isn't among the first kinds that are asked for
pub node_default : {T E : Type 0} (r : Result T E) (m : DenseMachine) (e : Entry) (o : DenseMachine) (v : List ℤ) (l : Line) (f g : Setting → Ledger → EntryTold → told.Line → Option Ledger) →
    ((s : Setting) (d : Ledger) (x : EntryTold) (t : List ℤ) → f s d x (line_told l t) ≡ g s d x (line_told l t)) →
    OnOk r ((t : List ℤ) → IsGathered v t → NodeGoes m e o (λ d. g (setting_of (game_of m) d) d (Told m e) (line_told l t))) →
    OnOk r ((t : List ℤ) → IsGathered v t → NodeGoes m e o (λ d. f (setting_of (game_of m) d) d (Told m e) (line_told l t)))
node_default r m e o v l f g same h = on_ok r by h
  where
    by : ((t : List ℤ) → IsGathered v t → NodeGoes m e o (λ d. g (setting_of (game_of m) d) d (Told m e) (line_told l t))) → (t : List ℤ) → IsGathered v t → NodeGoes m e o (λ d. f (setting_of (game_of m) d) d (Told m e) (line_told l t))
    by k t x d y = subst (TellsOf o) (sym (same (setting_of (game_of m) d) d (Told m e) t)) (k t x d y)

-- ---- what is due
abbrev pub Takes : DenseMachine → DenseMachine → List ℤ → Line → Type 0
Takes m o v l = (t : List ℤ) → IsGathered v t → (p : Option Ledger) → TellsOf m p → TellsOf o (goes (game_of m) p (line_told l t))

told_at : (m : DenseMachine) (x : Due) (d : Ledger) → m.nest.due ≡ x → Tells m d → TellsAt m.nest x d.given m.positions.boxes d
told_at m x d e h = subst (λ y. TellsAt m.nest y d.given m.positions.boxes d) e h.tells

-- where something is due, what a line makes of a ledger for which that is due
module _ {T E : Type 0} (r : Result T E) (m o : DenseMachine) (v : List ℤ) (l : Line) (x : Due) (e : m.nest.due ≡ x) (right : x ≡ due.Wrong → ⊥) where
  takes_by : (Is : Ledger → Type 0) (f : Ledger → told.Line → Option Ledger) → ((d : Ledger) → Tells m d → TellsAt m.nest x d.given m.positions.boxes d → Is d) →
      ((d : Ledger) (k : told.Line) → Tells m d → TellsAt m.nest x d.given m.positions.boxes d → f d k ≡ goes_at (game_of m) d d.due k) → OnOk r ((t : List ℤ) → IsGathered v t → (d : Ledger) → Is d → TellsOf o (f d (line_told l t))) → OnOk r (Takes m o v l)
  takes_by Is f is same h = on_ok r by h
    where
      by : ((t : List ℤ) → IsGathered v t → (d : Ledger) → Is d → TellsOf o (f d (line_told l t))) → Takes m o v l
      by g t y None w = absurd (right (sym e ∙ w))
      by g t y (Some d) w = subst (TellsOf o) (same d (line_told l t) w (told_at m x d e w)) (g t y d (is d w (told_at m x d e w)))

pub takes_part : {T E : Type 0} (r : Result T E) (m o : DenseMachine) (v : List ℤ) (l : Line) (b : Bool) → m.nest.due ≡ due.Part b →
    OnOk r ((t : List ℤ) → IsGathered v t → PartGoes m o (λ d. part_line (setting_of (game_of m) d) d (here_in m b) (line_told l t))) → OnOk r (Takes m o v l)
takes_part r m o v l b e h =
    takes_by r m o v l (due.Part b) e (λ q. cc) (IsPart m) (λ d k. part_line (setting_of (game_of m) d) d (here_in m b) k) (λ d w x. record { knows = w.knows; part = x.1 }) (λ d k w x. ap (λ y. goes_at (game_of m) d y k) (sym x.0)) h

pub takes_node : {T E : Type 0} (r : Result T E) (m o : DenseMachine) (v : List ℤ) (l : Line) (n : Entry) → m.nest.due ≡ due.Node n →
    OnOk r ((t : List ℤ) → IsGathered v t → NodeGoes m n o (λ d. node_line (setting_of (game_of m) d) d (Told m n) (line_told l t))) → OnOk r (Takes m o v l)
takes_node r m o v l n e h =
    takes_by r m o v l (due.Node n) e (λ q. cc) (IsNode m n) (λ d k. node_line (setting_of (game_of m) d) d (Told m n) k) (λ d w x. record { knows = w.knows; node = x.1 }) (λ d k w x. ap (λ y. goes_at (game_of m) d y k) (sym x.0)) h

pub takes_named : {T E : Type 0} (r : Result T E) (m o : DenseMachine) (v : List ℤ) (l : Line) (n : Entry) → m.nest.due ≡ due.Named n →
    OnOk r ((t : List ℤ) → IsGathered v t → NodeGoes m n o (λ d. horizoned (setting_of (game_of m) d) d (Told m n) (line_told l t))) → OnOk r (Takes m o v l)
takes_named r m o v l n e h =
    takes_by r m o v l (due.Named n) e (λ q. cc) (IsNode m n) (λ d k. horizoned (setting_of (game_of m) d) d (Told m n) k) (λ d w x. record { knows = w.knows; node = x.1 }) (λ d k w x. ap (λ y. goes_at (game_of m) d y k) (sym x.0)) h

pub takes_body : {T E : Type 0} (r : Result T E) (m o : DenseMachine) (v : List ℤ) (l : Line) (n : Entry) → m.nest.due ≡ due.Body n →
    OnOk r ((t : List ℤ) → IsGathered v t → NodeGoes m n o (λ d. body_line (setting_of (game_of m) d) d (Told m n) (line_told l t))) → OnOk r (Takes m o v l)
takes_body r m o v l n e h =
    takes_by r m o v l (due.Body n) e (λ q. cc) (IsNode m n) (λ d k. body_line (setting_of (game_of m) d) d (Told m n) k) (λ d w x. record { knows = w.knows; node = x.1 }) (λ d k w x. ap (λ y. goes_at (game_of m) d y k) (sym x.0)) h

pub takes_case : {T E : Type 0} (r : Result T E) (m o : DenseMachine) (v : List ℤ) (l : Line) → m.nest.due ≡ due.Case →
    OnOk r ((t : List ℤ) → IsGathered v t → ForkGoes m o (λ d. at_fork d.frames (λ b fs. fork_line (setting_of (game_of m) d) d b fs (line_told l t)))) → OnOk r (Takes m o v l)
takes_case r m o v l e h =
    takes_by r m o v l due.Case e (λ q. cc) (IsAtFork m) (λ d k. at_fork d.frames (λ b fs. fork_line (setting_of (game_of m) d) d b fs k)) (λ d w x. record { knows = w.knows; fork = x.1 }) (λ d k w x. ap (λ y. goes_at (game_of m) d y k) (sym x.0)) h

pub takes_ranged : {T E : Type 0} (r : Result T E) (m o : DenseMachine) (v : List ℤ) (l : Line) (high : ℤ) → m.nest.due ≡ due.Ranged high →
    OnOk r ((t : List ℤ) → IsGathered v t → ForkGoes m o (λ d. at_fork d.frames (λ b fs. case_line (setting_of (game_of m) d) d b fs (Some high) (line_told l t)))) → OnOk r (Takes m o v l)
takes_ranged r m o v l high e h =
    takes_by r m o v l (due.Ranged high) e (λ q. cc) (IsAtFork m) (λ d k. at_fork d.frames (λ b fs. case_line (setting_of (game_of m) d) d b fs (Some high) k)) (λ d w x. record { knows = w.knows; fork = x.1 }) (λ d k w x. ap (λ y. goes_at (game_of m) d y k) (sym x.0)) h

abbrev IsFirst : DenseMachine → Ledger → Type 0
IsFirst m d = IsAtRoot m d × (d.due ≡ given_due)

pub takes_first : {T E : Type 0} (r : Result T E) (m o : DenseMachine) (v : List ℤ) (l : Line) → m.nest.due ≡ due.Given →
    OnOk r ((t : List ℤ) → IsGathered v t → (d : Ledger) → IsAtRoot m d → d.due ≡ given_due → TellsOf o (first_line (game_of m) d (line_told l t))) → OnOk r (Takes m o v l)
takes_first r m o v l e h =
    takes_by r m o v l due.Given e (λ q. cc) (IsFirst m) (λ d k. first_line (game_of m) d k) (λ d w x. (record { knows = w.knows; root = x.1 }, x.0)) (λ d k w x. ap (λ y. goes_at (game_of m) d y k) (sym x.0)) (on_ok r by h)
  where
    by : ((t : List ℤ) → IsGathered v t → (d : Ledger) → IsAtRoot m d → d.due ≡ given_due → TellsOf o (first_line (game_of m) d (line_told l t))) → (t : List ℤ) → IsGathered v t → (d : Ledger) → IsFirst m d → TellsOf o (first_line (game_of m) d (line_told l t))
    by g t x d y = g t x d y.0 y.1

-- some ledger is told afterwards
pub ready_after : {T E : Type 0} (r : Result T E) (m o : DenseMachine) (v : List ℤ) (l : Line) → length v ≤ 501 → IsReady m → OnOk r (Takes m o v l) → OnOk r (IsReady o)
ready_after r m o v l few (p, w) h = on_ok r by h
  where
    by : Takes m o v l → IsReady o
    by f = (goes (game_of m) p (line_told l v), f v (sym (whole 501 v few)) p w)

-- the root's first line
pub first_default : {T E : Type 0} (r : Result T E) (m o : DenseMachine) (v : List ℤ) (l : Line) → ((k : ScopeId) → l ≡ GivenLine k → ⊥) →
    OnOk r ((t : List ℤ) → IsGathered v t → NodeGoes m m.nest.entry o (λ d. node_line (setting_of (game_of m) d) d (Told m m.nest.entry) (line_told l t))) →
    OnOk r ((t : List ℤ) → IsGathered v t → (d : Ledger) → IsAtRoot m d → d.due ≡ given_due → TellsOf o (first_line (game_of m) d (line_told l t)))
first_default r m o v l f h = on_ok r by h
  where
    by : ((t : List ℤ) → IsGathered v t → NodeGoes m m.nest.entry o (λ d. node_line (setting_of (game_of m) d) d (Told m m.nest.entry) (line_told l t))) →
        (t : List ℤ) → IsGathered v t → (d : Ledger) → IsAtRoot m d → d.due ≡ given_due → TellsOf o (first_line (game_of m) d (line_told l t))
    by g t x d y z =
        subst (TellsOf o) (sym (first_is (game_of m) d t l f))
        (subst (λ e. TellsOf o (node_line (setting_of (game_of m) d) d e (line_told l t))) y.root.root (g t x d (record { knows = y.knows; node = y.root.node })))
