-- Games in which nothing is optimised: what is demanded in them, and what their nodes come to.
use Rattle.std.proofs.Common.{◌≡◌, ◌∙◌, ℕ, zero, suc, Bool, true, false, ◌&&◌, List, [], ◌∷◌, drop, take, refl, sym, ap, Option, None, Some, ℤ}
use Rattle.std.specs.Prelude.{is_none, is_some, slice_get}
use Rattle.std.proofs.lemmas.Bool.{and_parts}
use Rattle.qc_model.specs.declared.problem.Condition.{Condition}
use Rattle.qc_model.specs.declared.problem.Kind.{Kind}
use Rattle.qc_model.specs.declared.problem.Kind.TheVariants.{Exists, Forall}
use Rattle.qc_model.specs.declared.problem.Scope.{Scope}
use Rattle.qc_model.specs.Content.{Game}
use Rattle.qc_model.specs.Demands.{demands, demands_from, demands_after}
use Rattle.qc_model.specs.Domains.{Box}
use Rattle.qc_model.specs.Verdict.{Verdict, lost, exact, at_most, unknown}
use Rattle.proof_tree.specs.Finding.{Leaf, kind_finding, scope_finding, kind_stuck, stuck_finding}
use Rattle.proof_tree.specs.Place.{position}
use Rattle.proof_tree.specs.Read.{read}
use Rattle.proof_tree.specs.Tree.{Tree, tree, stuck, goal, cases}
use Rattle.likeness.specs.Likeness.{ask_nothing, decided_as, is_decided_as}

-- where no scope has a condition nothing is demanded
demanded_none : (g : Game) (ss : List Scope) (i : ℕ) → ask_nothing ss ≡ true → demands_from g (take i ss) [] ≡ []
demanded_none g [] zero e = refl
demanded_none g [] (suc i) e = refl
demanded_none g (s ∷ ss) zero e = refl
demanded_none g (s ∷ ss) (suc i) e =
    let p = and_parts (is_none s.condition) (ask_nothing ss) e in
    ap (demands_from g (take i ss)) (after s.kind s.condition p.0) ∙ demanded_none g ss i p.1
  where
    after : (k : Kind) (o : Option Condition) → is_none o ≡ true → demands_after g k o [] ≡ []
    after Exists None e = refl
    after Exists (Some c) e = cc
    after Forall o e = refl

pub no_demands : (g : Game) (i : ℕ) → ask_nothing g.scopes ≡ true → demands g i ≡ []
no_demands g i e = demanded_none g g.scopes i e

-- nor has a later scope a condition
pub later_none : (ss : List Scope) (i : ℕ) → ask_nothing ss ≡ true → ask_nothing (drop i ss) ≡ true
later_none [] zero e = refl
later_none [] (suc i) e = refl
later_none (s ∷ ss) zero e = e
later_none (s ∷ ss) (suc i) e = later_none ss i (and_parts (is_none s.condition) (ask_nothing ss) e).1

-- a node that nobody passes has no value of its own, in any game
pub stuck_own : (later : List Scope) (g : Game) (d : List Condition) (a : List ℤ) → (stuck_finding later g d a).own ≡ None
stuck_own [] g d a = refl
stuck_own (s ∷ later) g d a = by s.kind
  where
    by : (k : Kind) → (kind_stuck k g d a).own ≡ None
    by Exists = refl
    by Forall = refl

-- where no scope from the first on has a condition, a scope has no value of its own, whatever its leaves come to
pub cases_none : (g : Game) (later : List Scope) (i : ℕ) (d : List Condition) (a : List ℤ) (ls : List Leaf) → ask_nothing later ≡ true → (scope_finding later g i d a ls).own ≡ None
cases_none g [] i d a ls e = refl
cases_none g (s ∷ later) i d a ls e = by s.kind s.condition (and_parts (is_none s.condition) (ask_nothing later) e).0
  where
    by : (k : Kind) (o : Option Condition) → is_none o ≡ true → (kind_finding k o g i d a ls).own ≡ None
    by Exists None e = refl
    by Exists (Some c) e = cc
    by Forall o e = refl

-- nor does a node have one
pub read_none : (g : Game) (t : Tree) (later : List Scope) (i : ℕ) (d : List Condition) (box : Box) → ask_nothing later ≡ true → (read g t later i d box).own ≡ None
read_none g (tree z stuck) later i d box e = stuck_own later g d (position g i box)
read_none g (tree z goal) later i d box e = refl
read_none g (tree z (cases steps end)) later i d box e = cases_none g later i d (position g i box) _ e

-- a verdict that is decided is one of two
pub decided_is : (won : Bool) (v : Verdict) → is_decided_as won v ≡ true → v ≡ decided_as won
decided_is true lost e = cc
decided_is true (exact []) e = refl
decided_is true (exact (n ∷ v)) e = cc
decided_is true (at_most p) e = cc
decided_is true unknown e = cc
decided_is false lost e = refl
decided_is false (exact v) e = cc
decided_is false (at_most p) e = cc
decided_is false unknown e = cc

-- a scope that has a condition or none, in a list of scopes
pub none_goes_on : (ss : List Scope) (i : ℕ) (s : Scope) → slice_get ss i ≡ Some s → is_some s.condition ≡ false → ask_nothing (drop (suc i) ss) ≡ ask_nothing (drop i ss)
none_goes_on [] zero s e f = cc
none_goes_on [] (suc i) s e f = cc
none_goes_on (t ∷ ss) zero s e f =
    let q : t ≡ s = cc in
    sym (ap (λ b. b && ask_nothing ss) (none t.condition (ap (λ (u : Scope). is_some u.condition) q ∙ f)))
  where
    none : (o : Option Condition) → is_some o ≡ false → is_none o ≡ true
    none None e = refl
    none (Some c) e = cc
none_goes_on (t ∷ ss) (suc i) s e f = none_goes_on ss i s e f
