-- What a universal join keeps of its leaves, and the verdict by what it keeps.
use Rattle.std.specs.Prelude.{◌≡◌, ◌≤◌, ◌+◌, ◌==◌, ⊤, ℕ, Bool, true, false, not, ◌&&◌, cond, Option, Some, None, List, [], ◌∷◌, ◌++◌, map, slice_get, slice_index_or, ℤ, pos, ◌+ℤ◌, unsigned_abs}
use Rattle.std.specs.Int.{int_min, int_max, int_wrap}
use mir.Syntax.{w64}
use Rattle.qc_model.specs.declared.problem.Sense.{Sense}
use Rattle.qc_model.specs.declared.problem.Sense.TheVariants.{Min, Max}
use Rattle.qc_model.specs.declared.problem.Fold.{Fold}
use Rattle.qc_model.specs.declared.problem.Fold.TheVariants.{Sum, Least, Greatest}
use Rattle.qc_model.specs.declared.problem.Target.{Target}
use Rattle.qc_model.specs.declared.problem.Target.TheVariants.{Var, Aggregate as Agg}
use Rattle.qc_model.specs.declared.problem.Aggregate.{Aggregate}
use Rattle.qc_model.specs.declared.problem.Condition.{Condition}
use Rattle.qc_model.specs.Content.{Game}
use Rattle.qc_model.specs.Value.{fold_of}
use Rattle.qc_model.specs.Demands.{place_among, first_namings}
use Rattle.qc_model.specs.Verdict.{Verdict, lost, exact, at_most, unknown, Seen, seen_barred, seen_skipped, seen_bound, seen_node, is_none_of}
use Rattle.joins.specs.declared.columns.Source.{Source}
use Rattle.joins.specs.declared.columns.Source.TheVariants.{Variable, Folded, Missing}
use Rattle.joins.specs.declared.columns.Column.{Column}
use Rattle.joins.specs.declared.leaves.Leaf.{Leaf}
use Rattle.joins.specs.declared.leaves.Leaf.TheVariants.{Barred, Lost, Exact, AtMost, Unknown, Skipped}

-- what an entry's value is made of: a variable, or the fold of the numbers that the branches' vectors have at a place
abbrev pub folded_at : Option Aggregate → ℕ → Source
folded_at None k = Missing
folded_at (Some q) k = Folded q.fold k

-- the aggregates that the list after the scope asks for are those of p, in order
abbrev pub source_among : Game → List Condition → Target → Source
source_among g p (Var x) = Variable x
source_among g p (Agg q) = folded_at (slice_get g.aggregates q.0) (place_among q.0 p)

abbrev pub source_of : Game → List Condition → Target → Source
source_of g d x = source_among g (first_namings [] d) x

abbrev pub sources_of : Game → List Condition → List Source
sources_of g d = map (λ c. source_of g d c.target) d

-- the sense of the first entry
abbrev pub first_sense : List Condition → Sense
first_sense [] = Min
first_sense (c ∷ d) = c.sense

abbrev pub number_at : ℕ → List ℤ → ℤ
number_at k w = slice_index_or w k (pos 0)

-- the fold with one number more. A sum that doesn't fit the machine's numbers wraps; where the numbers are small none does
abbrev pub folded_with : Fold → Bool → ℤ → ℤ → ℤ
folded_with Sum has_any t n = int_wrap w64 (t +ℤ n)
folded_with (Least e) has_any t n = cond has_any (int_min t n) n
folded_with (Greatest e) has_any t n = cond has_any (int_max t n) n

-- the fold of the vectors' numbers
abbrev pub total_of : Source → List (List ℤ) → ℤ
total_of (Variable x) ws = pos 0
total_of (Folded f k) ws = fold_of f (map (number_at k) ws)
total_of Missing ws = pos 0

abbrev pub total_with : Source → Bool → ℤ → List ℤ → ℤ
total_with (Variable x) has_any t w = t
total_with (Folded f k) has_any t w = folded_with f has_any t (number_at k w)
total_with Missing has_any t w = t

abbrev pub with_vector : Bool → List ℤ → Column → Column
with_vector has_any w c = record { source = c.source; total = total_with c.source has_any c.total w }

abbrev pub emptied : Column → Column
emptied c = record { source = c.source; total = total_of c.source [] }

abbrev pub fresh_column : Game → List Condition → Condition → Column
fresh_column g p c = record { source = source_among g p c.target; total = total_of (source_among g p c.target) [] }

abbrev pub TotalsAre : List (List ℤ) → List Column → Type 0
TotalsAre ws [] = ⊤
TotalsAre ws (c ∷ cs) = (c.total ≡ total_of c.source ws) × TotalsAre ws cs

-- the fold of the known numbers, by the first entry's aggregate
abbrev pub known_by : Source → List ℤ → ℤ
known_by (Variable x) ns = pos 0
known_by (Folded f k) ns = fold_of f ns
known_by Missing ns = pos 0

abbrev pub known_of : List Column → List ℤ → ℤ
known_of [] ns = pos 0
known_of (c ∷ cs) ns = known_by c.source ns

abbrev pub known_in : Source → Bool → ℤ → ℤ → ℤ
known_in (Variable x) has_any t n = t
known_in (Folded f k) has_any t n = folded_with f has_any t n
known_in Missing has_any t n = t

abbrev pub known_with : List Column → Bool → ℤ → ℤ → ℤ
known_with [] has_any t n = t
known_with (c ∷ cs) has_any t n = known_in c.source has_any t n

-- the absolute values of the leaves' numbers at a place, summed. The number of a leaf that has only a bound counts at the first
abbrev pub size_at : ℕ → List Seen → ℕ
size_at k [] = 0
size_at k (seen_barred ∷ xs) = size_at k xs
size_at k (seen_skipped ∷ xs) = size_at k xs
size_at k (seen_bound m ∷ xs) = size_at k xs
size_at k (seen_node lost ∷ xs) = size_at k xs
size_at k (seen_node (exact w) ∷ xs) = unsigned_abs (number_at k w) + size_at k xs
size_at k (seen_node (at_most p) ∷ xs) = cond (k == 0) (unsigned_abs p) 0 + size_at k xs
size_at k (seen_node unknown ∷ xs) = size_at k xs

-- at each place at most 2 ^ 62
abbrev pub IsSmall : List Seen → Type 0
IsSmall xs = (k : ℕ) → size_at k xs ≤ 4611686018427387904

-- the leaves' numbers are small with those of this one. Only a leaf of which a number is known has any
abbrev pub StaySmall : List Seen → Leaf → Type 0
StaySmall xs Barred = ⊤
StaySmall xs Lost = ⊤
StaySmall xs (Exact w) = IsSmall (xs ++ seen_node (exact w.now) ∷ [])
StaySmall xs (AtMost p) = IsSmall (xs ++ seen_node (at_most p) ∷ [])
StaySmall xs Unknown = ⊤
StaySmall xs Skipped = ⊤

-- an entry's value by its column, at the values a
abbrev pub value_by : List ℤ → Source → ℤ → ℤ
value_by a (Variable x) t = slice_index_or a x.0 (pos 0)
value_by a (Folded f k) t = t
value_by a Missing t = pos 0

abbrev pub values_by : List ℤ → List Column → List ℤ
values_by a cs = map (λ c. value_by a c.source c.total) cs

-- the bound by some of the branches
abbrev pub side_by : Sense → Fold → ℤ → Verdict
side_by Min (Greatest e) n = at_most n
side_by Max (Least e) n = at_most n
side_by Min Sum n = unknown
side_by Min (Least e) n = unknown
side_by Max Sum n = unknown
side_by Max (Greatest e) n = unknown

abbrev pub bound_by : Sense → Source → Bool → Bool → ℤ → Verdict
bound_by s (Variable x) all_known any_known n = unknown
bound_by s (Folded f k) all_known any_known n = cond all_known (at_most n) (cond any_known (side_by s f n) unknown)
bound_by s Missing all_known any_known n = cond all_known (at_most (pos 0)) unknown

abbrev pub bounded_by : Sense → List Column → Bool → Bool → ℤ → Verdict
bounded_by s [] all_known any_known n = unknown
bounded_by s (c ∷ cs) all_known any_known n = bound_by s c.source all_known any_known n

abbrev pub forall_by : Sense → List Column → List ℤ → Bool → Bool → Bool → Bool → ℤ → Verdict
forall_by s cs a any_lost all_exact all_known any_known n =
    cond any_lost lost (cond all_exact (exact (values_by a cs)) (bounded_by s cs all_known any_known n))

-- some branches alone bound the fold: the greatest where less is better, the least where more is
abbrev pub is_one_sided : Sense → Fold → Bool
is_one_sided Min (Greatest e) = true
is_one_sided Max (Least e) = true
is_one_sided Min Sum = false
is_one_sided Min (Least e) = false
is_one_sided Max Sum = false
is_one_sided Max (Greatest e) = false

abbrev pub side_of_fold : Sense → Option Aggregate → List ℤ → Option ℤ
side_of_fold s None ns = None
side_of_fold s (Some q) ns = cond (not (is_none_of ns) && is_one_sided s q.fold) (Some (fold_of q.fold ns)) None

abbrev pub side_of_target : Game → Sense → Target → List ℤ → Option ℤ
side_of_target g s (Var x) ns = None
side_of_target g s (Agg q) ns = side_of_fold s (slice_get g.aggregates q.0) ns

-- the bound that branches with the numbers ns give by themselves, by the list's first entry
abbrev pub side_bound : Game → List Condition → List ℤ → Option ℤ
side_bound g [] ns = None
side_bound g (c ∷ d) ns = side_of_target g c.sense c.target ns

-- the same by what is kept
abbrev pub side_by_source : Sense → Source → Bool → ℤ → Option ℤ
side_by_source s (Variable x) any_known n = None
side_by_source s (Folded f k) any_known n = cond (any_known && is_one_sided s f) (Some n) None
side_by_source s Missing any_known n = None

abbrev pub side_by_columns : Sense → List Column → Bool → ℤ → Option ℤ
side_by_columns s [] any_known n = None
side_by_columns s (c ∷ cs) any_known n = side_by_source s c.source any_known n
