-- What a text is refused for.
use Rattle.std.specs.Prelude.{◌≡◌, ◌==◌, ◌||◌, ◌&&◌, ℕ, zero, suc, nat_lt, not, Bool, false, cond, List, [], ◌∷◌, ◌++◌, map, filter, length, slice_get, Option, Some, None}
use Rattle.std.specs.List.{list_any, list_all}
use Rattle.qc_model.specs.declared.problem.Kind.TheVariants.{Exists}
use Rattle.qdimacs.specs.declared.token.Token.{Token}
use Rattle.qdimacs.specs.declared.tree.NumberText.{NumberText}
use Rattle.qdimacs.specs.declared.tree.LiteralText.{LiteralText}
use Rattle.qdimacs.specs.declared.tree.SetText.{SetText}
use Rattle.qdimacs.specs.declared.tree.ClauseText.{ClauseText}
use Rattle.qdimacs.specs.declared.fault.QdimacsKind.{QdimacsKind}
use Rattle.qdimacs.specs.declared.fault.QdimacsKind.TheVariants.{Syntax, OutOfRange, Repeated, WrongCount, TooMany}
use Rattle.qdimacs.specs.declared.fault.QdimacsFault.{QdimacsFault}
use Rattle.qdimacs.specs.declared.fault.QdimacsFault.TheVariants.{Refused, Memory}
use Rattle.qdimacs.specs.Grammar.{File, IsFile, StopsAt}
use Rattle.qdimacs.specs.Tokens.{tokens_of}
use Rattle.qdimacs.specs.Formula.{Literal, Block, Formula}

-- the tokens of a text of this size are no file, and stop being one at the fault's place
abbrev pub IsSyntaxFault : ℕ → List Token → QdimacsFault → Type 0
IsSyntaxFault size ts (Refused kind at) = (kind ≡ Syntax) × StopsAt size ts at
IsSyntaxFault size ts (Memory e) = Unit {0}

-- a place, or else another
abbrev pub first_some : Option ℕ → Option ℕ → Option ℕ
first_some None other = other
first_some (Some at) other = Some at

-- the place that the first item with one has
abbrev pub first_place : {X : Type 0} → (X → Option ℕ) → List X → Option ℕ
first_place f [] = None
first_place f (x ∷ xs) = first_some (f x) (first_place f xs)

abbrev pub place_if : Bool → ℕ → Option ℕ
place_if b at = cond b (Some at) None

-- VARIABLES OUT OF RANGE
abbrev pub number_above : ℕ → NumberText → Option ℕ
number_above most n = place_if (nat_lt most n.value) n.at

abbrev pub set_above : ℕ → SetText → Option ℕ
set_above most s = first_place (number_above most) s.variables

abbrev pub literal_above : ℕ → LiteralText → Option ℕ
literal_above most l = place_if (nat_lt most l.variable) l.at

abbrev pub clause_above : ℕ → ClauseText → Option ℕ
clause_above most c = first_place (literal_above most) c.literals

-- the first variable of a set or a clause above the first count
abbrev pub out_of_range : File → Option ℕ
out_of_range f = first_some (first_place (set_above f.variables.value) f.sets) (first_place (clause_above f.variables.value) f.body)

-- VARIABLES THAT STAND TWICE
-- x is one of xs
abbrev pub is_known : List ℕ → ℕ → Bool
is_known xs x = list_any (λ y. x == y) xs

abbrev pub none_known : ℕ → Bool
none_known x = false

-- the variables that were known, and this one
abbrev pub with_known : ℕ → (ℕ → Bool) → ℕ → Bool
with_known x known y = y == x || known y

-- the variables that were known, and these
abbrev pub known_after : (ℕ → Bool) → List NumberText → ℕ → Bool
known_after known [] = known
known_after known (n ∷ ns) = known_after (with_known n.value known) ns

-- the first variable that was known, or stands before
abbrev pub first_repeated : (ℕ → Bool) → List NumberText → Option ℕ
first_repeated known [] = None
first_repeated known (n ∷ ns) = first_some (place_if (known n.value) n.at) (first_repeated (with_known n.value known) ns)

abbrev pub known_after_sets : (ℕ → Bool) → List SetText → ℕ → Bool
known_after_sets known [] = known
known_after_sets known (s ∷ ss) = known_after_sets (known_after known s.variables) ss

abbrev pub repeated_in_sets : (ℕ → Bool) → List SetText → Option ℕ
repeated_in_sets known [] = None
repeated_in_sets known (s ∷ ss) = first_some (first_repeated known s.variables) (repeated_in_sets (known_after known s.variables) ss)

-- THE NUMBER OF CLAUSES
abbrev pub wrong_count : File → Option ℕ
wrong_count f = place_if (not (length f.body == f.clauses.value)) f.clauses.at

-- THE FORMULA
-- so many numbers, from low on
abbrev pub count_up : ℕ → ℕ → List ℕ
count_up low zero = []
count_up low (suc k) = low ∷ count_up (suc low) k

-- x stands in a set
abbrev pub is_in_sets : List SetText → ℕ → Bool
is_in_sets ss x = known_after_sets none_known ss x

-- the variables that stand in no set, ascending
abbrev pub free_variables : File → List ℕ
free_variables f = filter (λ x. not (is_in_sets f.sets x)) (count_up 1 f.variables.value)

-- they come first, where there are any
abbrev pub free_blocks : List ℕ → List Block
free_blocks [] = []
free_blocks (x ∷ xs) = record { kind = Exists; variables = x ∷ xs } ∷ []

abbrev pub block_of : SetText → Block
block_of s = record { kind = s.kind; variables = map (λ n. n.value) s.variables }

abbrev pub literal_of : LiteralText → Literal
literal_of l = record { positive = l.positive; variable = l.variable }

abbrev pub clause_of : ClauseText → List Literal
clause_of c = map literal_of c.literals

-- the formula that a file states
abbrev pub formula_of : File → Formula
formula_of f = record { blocks = free_blocks (free_variables f) ++ map block_of f.sets; clauses = map clause_of f.body }

-- variables are counted from 1
abbrev pub is_positive : NumberText → Bool
is_positive n = nat_lt 0 n.value

abbrev pub has_positives : File → Bool
has_positives f = list_all (λ s. list_all is_positive s.variables) f.sets && list_all (λ c. list_all (λ l. nat_lt 0 l.variable) c.literals) f.body

-- TOO MANY
-- how many scopes there may be besides the first variables' own
abbrev pub sets_left : List ℕ → ℕ
sets_left [] = 64
sets_left (x ∷ xs) = 63

abbrev pub set_place : Option SetText → Option ℕ
set_place None = None
set_place (Some s) = Some s.at

abbrev pub clause_place : List LiteralText → ℕ → ℕ
clause_place [] end = end
clause_place (l ∷ ls) end = l.at

-- more than 1,000 literals of one sign
abbrev pub is_long : List LiteralText → Bool
is_long ls = nat_lt 1000 (length (filter (λ l. l.positive) ls)) || nat_lt 1000 (length (filter (λ l. not l.positive) ls))

abbrev pub long_clause : ClauseText → Option ℕ
long_clause c = place_if (is_long c.literals) (clause_place c.literals c.end)

-- too great a count
abbrev pub great_count : File → Option ℕ
great_count f = first_some (place_if (nat_lt 500 f.variables.value) f.variables.at) (place_if (nat_lt 20000 f.clauses.value) f.clauses.at)

-- too many scopes, with these first variables, or too long a clause
abbrev pub great_part : File → List ℕ → Option ℕ
great_part f free = first_some (set_place (slice_get f.sets (sets_left free))) (first_place long_clause f.body)

abbrev pub too_many : File → Option ℕ
too_many f = first_some (great_count f) (great_part f (free_variables f))

-- THE FIRST REFUSAL
pub record Refusal : Type 0 where
  pub kind : QdimacsKind
  pub at : ℕ

abbrev pub refused_for : QdimacsKind → Option ℕ → Option Refusal → Option Refusal
refused_for kind None other = other
refused_for kind (Some at) other = Some (record { kind = kind; at = at })

-- what a file is refused for
abbrev pub first_refusal : File → Option Refusal
first_refusal f =
    refused_for OutOfRange (out_of_range f) (refused_for Repeated (repeated_in_sets none_known f.sets)
    (refused_for WrongCount (wrong_count f) (refused_for TooMany (too_many f) None)))

-- the error is a refusal for this, at the place if there is one, or memory
abbrev pub IsRefusedFor : QdimacsKind → Option ℕ → QdimacsFault → Type 0
IsRefusedFor kind o (Refused k at) = (k ≡ kind) × (o ≡ Some at)
IsRefusedFor kind o (Memory e) = Unit {0}

-- the error is this refusal, or memory
abbrev pub IsRefusal : Option Refusal → QdimacsFault → Type 0
IsRefusal o (Refused kind at) = o ≡ Some (record { kind = kind; at = at })
IsRefusal o (Memory e) = Unit {0}

-- the text is the file, and the file isn't refused
pub record States (text : List ℕ) (f : File) : Type 0 where
  pub is_file : IsFile f (tokens_of text)
  pub is_taken : first_refusal f ≡ None

-- the text is no file, and stops being one at this place; or it is one, which is refused so
pub data IsRefused (text : List ℕ) (kind : QdimacsKind) (at : ℕ) : Type 0 where
  no_file : kind ≡ Syntax → StopsAt (length text) (tokens_of text) at → IsRefused text kind at
  bad_file : (f : File) → IsFile f (tokens_of text) → first_refusal f ≡ Some (record { kind = kind; at = at }) → IsRefused text kind at

abbrev pub Explains : List ℕ → QdimacsFault → Type 0
Explains text (Refused kind at) = IsRefused text kind at
Explains text (Memory e) = Unit {0}
