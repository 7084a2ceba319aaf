-- What a scope of a problem comes to, by the leaves and bounds of its own tree, and what is known of it meanwhile.
use Rattle.std.specs.Prelude.{ℕ, Bool, false, ◌&&◌, Option, None, List, [], ◌∷◌, drop, ℤ}
use Rattle.qc_model.specs.declared.problem.Kind.{Kind}
use Rattle.qc_model.specs.declared.problem.Kind.TheVariants.{Exists, Forall}
use Rattle.qc_model.specs.declared.problem.Condition.{Condition}
use Rattle.qc_model.specs.declared.problem.Scope.{Scope}
use Rattle.qc_model.specs.Content.{Game}
use Rattle.qc_model.specs.Demands.{demands, demands_after}
use Rattle.qc_model.specs.Verdict.{Verdict, lost, unknown, Seen, is_lost, is_exact, some_node, is_none_of, exact_vectors}
use Rattle.qc_model.specs.ExistsVerdict.{exists_verdict, exists_own, best_vector}
use Rattle.qc_model.specs.ForallVerdict.{forall_verdict, stuck_verdict, known_numbers}
use Rattle.joins.specs.Bests.{incumbent_by}
use Rattle.joins.specs.Columns.{side_bound}

-- what a scope comes to, by what was seen in its own tree
abbrev pub kind_verdict : Kind → Option Condition → Game → List Condition → List ℤ → List Seen → Verdict
kind_verdict Exists own g d a xs = exists_verdict own (demands_after g Exists own d) xs
kind_verdict Forall own g d a xs = forall_verdict g d a xs

abbrev pub scope_verdict : List Scope → Game → List Condition → List ℤ → List Seen → Verdict
scope_verdict [] g d a xs = unknown
scope_verdict (s ∷ later) g d a xs = kind_verdict s.kind s.condition g d a xs

-- what scope i comes to, at the values a of the variables before it
abbrev pub verdict_at : Game → ℕ → List ℤ → List Seen → Verdict
verdict_at g i a xs = scope_verdict (drop i g.scopes) g (demands g i) a xs

-- what the first of the scopes comes to where nobody passes it
abbrev pub stuck_of : List Scope → Game → List Condition → List ℤ → Verdict
stuck_of [] g d a = lost
stuck_of (s ∷ later) g d a = stuck_verdict g s.kind d a

-- the value of the scope's own condition, where the scope comes to exact
abbrev pub kind_own : Kind → Option Condition → Game → List Condition → List Seen → Option ℤ
kind_own Exists own g d xs = exists_own own (demands_after g Exists own d) xs
kind_own Forall own g d xs = None

abbrev pub scope_own : List Scope → Game → List Condition → List Seen → Option ℤ
scope_own [] g d xs = None
scope_own (s ∷ later) g d xs = kind_own s.kind s.condition g d xs

abbrev pub own_at : Game → ℕ → List Seen → Option ℤ
own_at g i xs = scope_own (drop i g.scopes) g (demands g i) xs

-- no further leaf changes what the scope comes to: the player has won, and nothing is demanded after his scope; or the
-- opponent has
abbrev pub kind_settled : Kind → Option Condition → Game → List Condition → List Seen → Bool
kind_settled Exists own g d xs = is_none_of (demands_after g Exists own d) && some_node is_exact xs
kind_settled Forall own g d xs = some_node is_lost xs

abbrev pub scope_settled : List Scope → Game → List Condition → List Seen → Bool
scope_settled [] g d xs = false
scope_settled (s ∷ later) g d xs = kind_settled s.kind s.condition g d xs

abbrev pub settled_at : Game → ℕ → List Seen → Bool
settled_at g i xs = scope_settled (drop i g.scopes) g (demands g i) xs

-- what the bounds of a scope's own tree speak of: the list after the scope, where it is the player's
abbrev pub kind_wishes : Kind → Option Condition → Game → List Condition → List Condition
kind_wishes Exists own g d = demands_after g Exists own d
kind_wishes Forall own g d = []

abbrev pub scope_wishes : List Scope → Game → List Condition → List Condition
scope_wishes [] g d = []
scope_wishes (s ∷ later) g d = kind_wishes s.kind s.condition g d

abbrev pub wishes_at : Game → ℕ → List Condition
wishes_at g i = scope_wishes (drop i g.scopes) g (demands g i)

-- the incumbent of a scope of the player: the first value of the best vector so far
abbrev pub kind_incumbent : Kind → Option Condition → Game → List Condition → List Seen → Option ℤ
kind_incumbent Exists own g d xs = incumbent_by (some_node is_exact xs) (best_vector (demands_after g Exists own d) (exact_vectors xs))
kind_incumbent Forall own g d xs = None

abbrev pub scope_incumbent : List Scope → Game → List Condition → List Seen → Option ℤ
scope_incumbent [] g d xs = None
scope_incumbent (s ∷ later) g d xs = kind_incumbent s.kind s.condition g d xs

abbrev pub incumbent_at : Game → ℕ → List Seen → Option ℤ
incumbent_at g i xs = scope_incumbent (drop i g.scopes) g (demands g i) xs

-- the bound that the leaves so far of a scope of the opponent give by themselves, whatever the others come to
abbrev pub kind_side : Kind → Game → List Condition → List Seen → Option ℤ
kind_side Exists g d xs = None
kind_side Forall g d xs = side_bound g d (known_numbers xs)

abbrev pub scope_side : List Scope → Game → List Condition → List Seen → Option ℤ
scope_side [] g d xs = None
scope_side (s ∷ later) g d xs = kind_side s.kind g d xs

abbrev pub side_at : Game → ℕ → List Seen → Option ℤ
side_at g i xs = scope_side (drop i g.scopes) g (demands g i) xs
