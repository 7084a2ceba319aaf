-- What is true of a file that isn't refused.
use Rattle.std.proofs.Common.{◌≡◌, ◌≤◌, ◌<◌, ◌+◌, ◌==◌, refl, sym, ap, ◌∙◌, subst, ℕ, zero, suc, Bool, true, false, not, cond, List, [], ◌∷◌, ◌++◌, map, filter, length, inl, inr, arith, Option, Some, None}
use Rattle.std.specs.Prelude.{◌⊎◌, nat_lt, slice_get}
use Rattle.std.specs.List.{list_all}
use Rattle.std.proofs.lemmas.Bool.{or_cases, or_parts, or_left, or_right, and_parts, eqb-true, eq-eqb, ne_eqb, cases_eq, ltb-true, ltb-false, not-true, not-false, cases_Bool}
use Rattle.qc_model.specs.Lists.{Among, Distinct}
use Rattle.qc_model.proofs.Moves.{among_left, among_right, among_either, of_filter, among_filter}
use Rattle.qdimacs.specs.declared.tree.NumberText.{NumberText}
use Rattle.qdimacs.specs.declared.tree.LiteralText.{LiteralText}
use Rattle.qdimacs.specs.declared.tree.SetText.{SetText}
use Rattle.qdimacs.specs.declared.tree.ClauseText.{ClauseText}
use Rattle.qdimacs.specs.declared.fault.QdimacsKind.{QdimacsKind}
use Rattle.qdimacs.specs.declared.fault.QdimacsKind.TheVariants.{OutOfRange, Repeated, WrongCount, TooMany}
use Rattle.qdimacs.specs.Grammar.{File}
use Rattle.qdimacs.specs.Content.{order}
use Rattle.qdimacs.specs.Refusals.{Refusal, none_known, with_known, known_after, first_repeated, known_after_sets, repeated_in_sets, first_some, first_place, place_if, number_above, set_above, clause_above, out_of_range, wrong_count, great_count, great_part, too_many, free_variables, is_in_sets, count_up, free_blocks, block_of, formula_of, is_positive, has_positives, long_clause, set_place, sets_left, refused_for, first_refusal}

abbrev pub values : List NumberText → List ℕ
values ns = map (λ (n : NumberText). n.value) ns

-- REFUSALS
refused_none : (k : QdimacsKind) (o : Option ℕ) (r : Option Refusal) → refused_for k o r ≡ None → (o ≡ None) × (r ≡ None)
refused_none k None r e = (refl, e)
refused_none k (Some at) r e = absurd cc

pub some_none : (o p : Option ℕ) → first_some o p ≡ None → (o ≡ None) × (p ≡ None)
some_none None p e = (refl, e)
some_none (Some at) p e = absurd cc

pub place_none : (b : Bool) (at : ℕ) → place_if b at ≡ None → b ≡ false
place_none true at e = absurd cc
place_none false at e = refl

pub record Taken (f : File) : Type 0 where
  pub sets_range : first_place (set_above f.variables.value) f.sets ≡ None
  pub body_range : first_place (clause_above f.variables.value) f.body ≡ None
  pub once : repeated_in_sets none_known f.sets ≡ None
  pub count : (length f.body == f.clauses.value) ≡ true
  pub few_variables : f.variables.value ≤ 500
  pub few_clauses : f.clauses.value ≤ 20000
  pub few_sets : set_place (slice_get f.sets (sets_left (free_variables f))) ≡ None
  pub short : first_place long_clause f.body ≡ None

pub taken_from : (f : File) → first_refusal f ≡ None → Taken f
taken_from f e =
    let a = refused_none OutOfRange (out_of_range f) _ e in
    let b = refused_none Repeated (repeated_in_sets none_known f.sets) _ a.1 in
    let c = refused_none WrongCount (wrong_count f) _ b.1 in
    let d = refused_none TooMany (too_many f) None c.1 in
    let r = some_none (first_place (set_above f.variables.value) f.sets) (first_place (clause_above f.variables.value) f.body) a.0 in
    let m = some_none (great_count f) (great_part f (free_variables f)) d.0 in
    let n = some_none (place_if (nat_lt 500 f.variables.value) f.variables.at) (place_if (nat_lt 20000 f.clauses.value) f.clauses.at) m.0 in
    let p = some_none (set_place (slice_get f.sets (sets_left (free_variables f)))) (first_place long_clause f.body) m.1 in
    record {
      sets_range = r.0;
      body_range = r.1;
      once = b.0;
      count = not-false (length f.body == f.clauses.value) (place_none (not (length f.body == f.clauses.value)) f.clauses.at c.0);
      few_variables = ltb-false 500 f.variables.value (place_none (nat_lt 500 f.variables.value) f.variables.at n.0);
      few_clauses = ltb-false 20000 f.clauses.value (place_none (nat_lt 20000 f.clauses.value) f.clauses.at n.1);
      few_sets = p.0;
      short = p.1;
    }

-- KNOWN VARIABLES
kept : (known : ℕ → Bool) (ns : List NumberText) (x : ℕ) → known x ≡ true → known_after known ns x ≡ true
kept known [] x h = h
kept known (n ∷ ns) x h = kept (with_known n.value known) ns x (or_right (x == n.value) (known x) h)

known_from : (known : ℕ → Bool) (ns : List NumberText) (x : ℕ) → Among x (values ns) → known_after known ns x ≡ true
known_from known [] x m = absurd m
known_from known (n ∷ ns) x m = elim m [
  | inl e ↦ kept (with_known n.value known) ns x (or_left (x == n.value) (known x) (eq-eqb x n.value e))
  | inr k ↦ known_from (with_known n.value known) ns x k
]

known_to : (known : ℕ → Bool) (ns : List NumberText) (x : ℕ) → known_after known ns x ≡ true → (known x ≡ true) ⊎ Among x (values ns)
known_to known [] x h = inl h
known_to known (n ∷ ns) x h = elim (known_to (with_known n.value known) ns x h) [
  | inl k ↦ elim (or_cases (x == n.value) (known x) k) [ inl e ↦ inr (inl (eqb-true x n.value e)) | inr l ↦ inl l ]
  | inr k ↦ inr (inr k)
]

abbrev pub in_sets : List SetText → List ℕ
in_sets ss = order (map block_of ss)

kept_sets : (known : ℕ → Bool) (ss : List SetText) (x : ℕ) → known x ≡ true → known_after_sets known ss x ≡ true
kept_sets known [] x h = h
kept_sets known (s ∷ ss) x h = kept_sets (known_after known s.variables) ss x (kept known s.variables x h)

pub sets_from : (known : ℕ → Bool) (ss : List SetText) (x : ℕ) → Among x (in_sets ss) → known_after_sets known ss x ≡ true
sets_from known [] x m = absurd m
sets_from known (s ∷ ss) x m = elim (among_either x (values s.variables) (in_sets ss) m) [
  | inl k ↦ kept_sets (known_after known s.variables) ss x (known_from known s.variables x k)
  | inr k ↦ sets_from (known_after known s.variables) ss x k
]

pub sets_to : (known : ℕ → Bool) (ss : List SetText) (x : ℕ) → known_after_sets known ss x ≡ true → (known x ≡ true) ⊎ Among x (in_sets ss)
sets_to known [] x h = inl h
sets_to known (s ∷ ss) x h = elim (sets_to (known_after known s.variables) ss x h) [
  | inl k ↦ elim (known_to known s.variables x k) [ inl l ↦ inl l | inr l ↦ inr (among_left x (values s.variables) (in_sets ss) l) ]
  | inr k ↦ inr (among_right x (values s.variables) (in_sets ss) k)
]

-- DISTINCT VARIABLES
both_ways : (b : Bool) → b ≡ true → b ≡ false → ⊥
both_ways true t f = absurd cc
both_ways false t f = absurd cc

pub distinct_append : (xs ys : List ℕ) → Distinct xs → Distinct ys → ((x : ℕ) → Among x xs → Among x ys → ⊥) → Distinct (xs ++ ys)
distinct_append [] ys d e n = e
distinct_append (x ∷ xs) ys d e n = (
  (λ m. elim (among_either x xs ys m) [ inl k ↦ d.0 k | inr k ↦ n x (inl refl) k ]),
  distinct_append xs ys d.1 e (λ z k l. n z (inr k) l),
)

pub distinct_filter : (p : ℕ → Bool) (xs : List ℕ) → Distinct xs → Distinct (filter p xs)
distinct_filter p [] d = tt
distinct_filter p (x ∷ xs) d = go (p x) (distinct_filter p xs d.1)
  where
    go : (b : Bool) → Distinct (filter p xs) → Distinct (cond b (x ∷ filter p xs) (filter p xs))
    go true h = ((λ m. d.0 (of_filter p x xs m).0), h)
    go false h = h

record Fresh (known : ℕ → Bool) (xs : List ℕ) : Type 0 where
  distinct : Distinct xs
  new : (x : ℕ) → Among x xs → known x ≡ false

fresh : (known : ℕ → Bool) (ns : List NumberText) → first_repeated known ns ≡ None → Fresh known (values ns)
fresh known [] h = record { distinct = tt; new = λ x m. absurd m }
fresh known (n ∷ ns) h =
    let a = some_none (place_if (known n.value) n.at) (first_repeated (with_known n.value known) ns) h in
    let r = fresh (with_known n.value known) ns a.1 in
    record {
      distinct = ((λ m. both_ways (n.value == n.value) (eq-eqb n.value n.value refl) (or_parts (n.value == n.value) (known n.value) (r.new n.value m)).0), r.distinct);
      new = λ x m. elim m [
        | inl e ↦ ap known e ∙ place_none (known n.value) n.at a.0
        | inr k ↦ (or_parts (x == n.value) (known x) (r.new x k)).1
      ];
    }

unknown_before : (known : ℕ → Bool) (ns : List NumberText) (x : ℕ) → known_after known ns x ≡ false → known x ≡ false
unknown_before known ns x h = elim (cases_Bool (known x)) [ inl t ↦ absurd (both_ways (known_after known ns x) (kept known ns x t) h) | inr n ↦ n ]

fresh_sets : (known : ℕ → Bool) (ss : List SetText) → repeated_in_sets known ss ≡ None → Fresh known (in_sets ss)
fresh_sets known [] h = record { distinct = tt; new = λ x m. absurd m }
fresh_sets known (s ∷ ss) h =
    let a = some_none (first_repeated known s.variables) (repeated_in_sets (known_after known s.variables) ss) h in
    let p = fresh known s.variables a.0 in
    let q = fresh_sets (known_after known s.variables) ss a.1 in
    record {
      distinct = distinct_append (values s.variables) (in_sets ss) p.distinct q.distinct (λ x k l. both_ways (known_after known s.variables x) (known_from known s.variables x k) (q.new x l));
      new = λ x m. elim (among_either x (values s.variables) (in_sets ss) m) [ inl k ↦ p.new x k | inr l ↦ unknown_before known s.variables x (q.new x l) ];
    }

-- NUMBERS IN ORDER
counted_to : (low k x : ℕ) → Among x (count_up low k) → (low ≤ x) × (x < low + k)
counted_to low zero x m = absurd m
counted_to low (suc k) x m = elim m [
  | inl e ↦ (omega (arith, e), omega (arith, e))
  | inr n ↦ (let r = counted_to (suc low) k x n in (omega (arith, r.0), omega (arith, r.1)))
]

pub counted_from : (low k x : ℕ) → low ≤ x → x < low + k → Among x (count_up low k)
counted_from low zero x l h = absurd (omega arith)
counted_from low (suc k) x l h = elim (cases_eq x low) [ inl e ↦ inl e | inr n ↦ inr (counted_from (suc low) k x (omega (arith, n)) (omega arith)) ]

counted_distinct : (low k : ℕ) → Distinct (count_up low k)
counted_distinct low zero = tt
counted_distinct low (suc k) = ((λ m. let r = counted_to (suc low) k low m in absurd (omega (arith, r.0))), counted_distinct (suc low) k)

pub length_count : (low k : ℕ) → length (count_up low k) ≡ k
length_count low zero = refl
length_count low (suc k) = ap suc (length_count (suc low) k)

-- no more different items than there are places
without : ℕ → List ℕ → List ℕ
without x [] = []
without x (y ∷ ys) = cond (x == y) ys (y ∷ without x ys)

length_without : (x : ℕ) (ys : List ℕ) → Among x ys → suc (length (without x ys)) ≡ length ys
unfolding without
length_without x [] m = absurd m
length_without x (y ∷ ys) m = elim (cases_eq x y) [
  | inl e ↦ ap (λ b. suc (length (cond b ys (y ∷ without x ys)))) (eq-eqb x y e)
  | inr n ↦ ap (λ b. suc (length (cond b ys (y ∷ without x ys)))) (ne_eqb x y n) ∙ ap suc (length_without x ys (elim m [ inl e ↦ absurd (n e) | inr k ↦ k ]))
]

among_without : (x z : ℕ) (ys : List ℕ) → ¬ (z ≡ x) → Among z ys → Among z (without x ys)
unfolding without
among_without x z [] n m = absurd m
among_without x z (y ∷ ys) n m = elim (cases_eq x y) [
  | inl e ↦ subst (λ b. Among z (cond b ys (y ∷ without x ys))) (sym (eq-eqb x y e)) (elim m [ inl f ↦ absurd (n (f ∙ sym e)) | inr k ↦ k ])
  | inr d ↦ subst (λ b. Among z (cond b ys (y ∷ without x ys))) (sym (ne_eqb x y d)) (elim m [ inl f ↦ inl f | inr k ↦ inr (among_without x z ys n k) ])
]

pub few : (xs ys : List ℕ) → Distinct xs → ((x : ℕ) → Among x xs → Among x ys) → length xs ≤ length ys
few [] ys d h = omega arith
few (x ∷ xs) ys d h =
    let r = few xs (without x ys) d.1 (λ z m. among_without x z ys (λ e. d.0 (subst (λ u. Among u xs) e m)) (h z (inr m))) in
    omega (arith, r, length_without x ys (h x (inl refl)))

-- RANGES
set_within : (most : ℕ) (ns : List NumberText) → first_place (number_above most) ns ≡ None → list_all is_positive ns ≡ true → (x : ℕ) → Among x (values ns) → Among x (count_up 1 most)
set_within most [] h p x m = absurd m
set_within most (n ∷ ns) h p x m =
    let a = some_none (number_above most n) (first_place (number_above most) ns) h in
    let q = and_parts (is_positive n) (list_all is_positive ns) p in
    let low = ltb-true 0 n.value q.0 in
    let high = ltb-false most n.value (place_none (nat_lt most n.value) n.at a.0) in
    elim m [
      | inl e ↦ counted_from 1 most x (omega (arith, e)) (omega (arith, e))
      | inr k ↦ set_within most ns a.1 q.1 x k
    ]

sets_within : (most : ℕ) (ss : List SetText) → first_place (set_above most) ss ≡ None → list_all (λ (s : SetText). list_all is_positive s.variables) ss ≡ true → (x : ℕ) → Among x (in_sets ss) → Among x (count_up 1 most)
sets_within most [] h p x m = absurd m
sets_within most (s ∷ ss) h p x m =
    let a = some_none (set_above most s) (first_place (set_above most) ss) h in
    let q = and_parts (list_all is_positive s.variables) (list_all (λ (s : SetText). list_all is_positive s.variables) ss) p in
    elim (among_either x (values s.variables) (in_sets ss) m) [
      | inl k ↦ set_within most s.variables a.0 q.0 x k
      | inr k ↦ sets_within most ss a.1 q.1 x k
    ]

pub order_is : (xs : List ℕ) (ss : List SetText) → order (free_blocks xs ++ map block_of ss) ≡ xs ++ in_sets ss
order_is [] ss = refl
order_is (x ∷ xs) ss = refl

module _ (f : File) (t : Taken f) (p : has_positives f ≡ true) where
  abbrev most : ℕ
  most = f.variables.value

  abbrev free : List ℕ
  free = free_variables f

  abbrev all : List ℕ
  all = order (formula_of f).blocks

  abbrev positive_sets : Bool
  positive_sets = list_all (λ (s : SetText). list_all is_positive s.variables) f.sets

  abbrev positive_body : Bool
  positive_body = list_all (λ (c : ClauseText). list_all (λ (l : LiteralText). nat_lt 0 l.variable) c.literals) f.body

  is_free : (x : ℕ) → Among x free → Among x (count_up 1 most) × (is_in_sets f.sets x ≡ false)
  is_free x m = let r = of_filter (λ x. not (is_in_sets f.sets x)) x (count_up 1 most) m in (r.0, not-true (is_in_sets f.sets x) r.1)

  pub distinct : Distinct all
  distinct =
      subst Distinct (sym (order_is free f.sets))
      (distinct_append free (in_sets f.sets) (distinct_filter (λ x. not (is_in_sets f.sets x)) (count_up 1 most) (counted_distinct 1 most)) (fresh_sets none_known f.sets t.once).distinct
      (λ x k l. both_ways (is_in_sets f.sets x) (sets_from none_known f.sets x l) (is_free x k).1))

  within : (x : ℕ) → Among x all → Among x (count_up 1 most)
  within x m = elim (among_either x free (in_sets f.sets) (subst (λ xs. Among x xs) (order_is free f.sets) m)) [
    | inl k ↦ (is_free x k).0
    | inr k ↦ sets_within most f.sets t.sets_range (and_parts positive_sets positive_body p).0 x k
  ]

  pub at_most : (x : ℕ) → Among x all → x ≤ most
  at_most x m = let r = counted_to 1 most x (within x m) in omega (arith, r.1)

  pub few_in_order : length all ≤ 500
  few_in_order = let r = few all (count_up 1 most) distinct within in omega (arith, r, length_count 1 most, t.few_variables)

  counted_in : (x : ℕ) → Among x (count_up 1 most) → Among x all
  counted_in x m =
      subst (λ xs. Among x xs) (sym (order_is free f.sets))
      (elim (cases_Bool (is_in_sets f.sets x)) [
        | inl h ↦ among_right x free (in_sets f.sets) (elim (sets_to none_known f.sets x h) [ inl k ↦ absurd cc | inr k ↦ k ])
        | inr h ↦ among_left x free (in_sets f.sets) (among_filter (λ x. not (is_in_sets f.sets x)) x (count_up 1 most) m (ap not h))
      ])

  -- each variable of a clause has a place
  pub literal_in : (x : ℕ) → 0 < x → x ≤ most → Among x all
  literal_in x l h = counted_in x (counted_from 1 most x l (omega (arith, h)))
