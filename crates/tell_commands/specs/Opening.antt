-- How the strategy, or the counterstrategy, of a certificate begins.
use Rattle.std.specs.Prelude.{◌≡◌, ◌⊎◌, ◌==◌, ℕ, ℤ, List, [], ◌∷◌, ◌++◌, filter, codes, Option}
use Rattle.std.specs.Fmt.{signed_decimal}
use Rattle.qc_model.specs.declared.problem.Kind.{Kind}
use Rattle.qc_model.specs.declared.problem.Kind.TheVariants.{Exists, Forall}
use Rattle.qc_model.specs.declared.problem.Scope.{Scope}
use Rattle.qc_model.specs.declared.problem.Variable.{Variable}
use Rattle.qc_model.specs.Content.{Game}
use Rattle.qc_model.specs.Plan.{Plan as Choices, finish, choose, answer}
use Rattle.proof_tree.specs.declared.tree.Outcome.{Outcome}
use Rattle.proof_tree.specs.Tree.{Tree}
use Rattle.proof_tree.specs.Text.{outcome_text}
use Rattle.qecode_commands.specs.declared.status.Status.{Status}
use Rattle.qecode_commands.specs.declared.status.Status.TheVariants.{Done, NotProved, Open, Memory}
use Rattle.qecode_commands.specs.Certificates.{TurnsCertificateDown, IsCertificateOf}
use Rattle.qecode_commands.specs.Plays.{shown_tree, ShowsSide, IsOpen, IsNotProved}

-- a line for each variable, with its value
abbrev pub named_lines : List Variable → List ℤ → List ℕ
named_lines [] vs = []
named_lines (x ∷ xs) [] = []
named_lines (x ∷ xs) (v ∷ vs) = x.name ++ (codes " = " ++ (signed_decimal v ++ (codes "\n" ++ named_lines xs vs)))

-- what the tree chooses at the first scope; it has its choices at the scopes of its own kind
abbrev pub choice_lines : List Variable → Choices → List ℕ
choice_lines xs finish = []
choice_lines xs (choose t s) = named_lines xs t
choice_lines xs (answer l) = []

-- the scopes of the kind `own` are the tree's; the first scope is of the kind beside it
abbrev pub opening_by : Kind → Kind → List Variable → Choices → List ℕ
opening_by Exists Exists xs tree = choice_lines xs tree
opening_by Forall Forall xs tree = choice_lines xs tree
opening_by Exists Forall xs tree = codes "the opponent moves first\n"
opening_by Forall Exists xs tree = codes "the player moves first\n"

abbrev pub opening_at : Kind → List Scope → List Variable → Choices → List ℕ
opening_at own [] xs tree = []
opening_at own (scope ∷ later) xs tree = opening_by own scope.kind xs tree

-- the variables of the first scope
abbrev pub first_variables : Game → List Variable
first_variables g = filter (λ x. x.scope.0 == 0) g.variables

abbrev pub opening_lines : Game → Kind → Choices → List ℕ
opening_lines g own tree = opening_at own g.scopes (first_variables g) tree

-- The certificate proves what it states; the first line repeats it, as `check` does. Then comes how the tree of choices begins
-- that is read from it: an optimal strategy, or a counterstrategy that wins.
pub record Begins (g : Game) (outcome : Outcome) (optimum : Option ℤ) (root : Tree) (text : List ℕ) : Type 0 where
  pub own : Kind
  pub shows : ShowsSide g outcome optimum root own
  pub lines : text ≡ codes "yes " ++ (outcome_text outcome optimum ++ opening_lines g own (shown_tree g root own))

-- what is answered where this tree of choices is shown
abbrev pub BeginsWith : Outcome → Option ℤ → Kind → Choices → Game → Status → List ℕ → Type 0
BeginsWith outcome optimum own tree g Done text = text ≡ codes "yes " ++ (outcome_text outcome optimum ++ opening_lines g own tree)
BeginsWith outcome optimum own tree g Memory text = text ≡ []
BeginsWith outcome optimum own tree g status text = ⊥

-- what is answered for a certificate, and for its file
abbrev pub BeginsCertificate : Outcome → Option ℤ → Tree → Game → Status → List ℕ → Type 0
BeginsCertificate outcome optimum root g Done text = Begins g outcome optimum root text
BeginsCertificate outcome optimum root g NotProved text = IsNotProved g outcome optimum root text
BeginsCertificate outcome optimum root g Open text = IsOpen g outcome optimum root text
BeginsCertificate outcome optimum root g Memory text = text ≡ []
BeginsCertificate outcome optimum root g status text = ⊥

abbrev pub BeginsFile : List ℕ → Option (List ℕ) → (ℕ → Type 0) → Game → Status → List ℕ → Type 0
BeginsFile name told gave g status text =
    TurnsCertificateDown name told gave status text
    ⊎ ((outcome : Outcome) × (optimum : Option ℤ) × (root : Tree) × IsCertificateOf told outcome optimum root × BeginsCertificate outcome optimum root g status text)
