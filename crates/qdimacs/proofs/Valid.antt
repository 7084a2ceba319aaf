-- The game of a file that isn't refused is valid.
use Rattle.std.proofs.Common.{◌≡◌, ◌≤◌, ◌<◌, ◌+◌, ◌*◌, ◌||◌, ◌&&◌, refl, sym, ap, ◌∙◌, subst, ℕ, zero, suc, Bool, true, false, not, cond, List, [], ◌∷◌, ◌++◌, map, filter, length, get_or, set, inl, inr, arith, Option, Some, None, length-append, append-nil}
use Rattle.std.specs.Prelude.{⊤, nat_lt, nat_le, slice_get}
use Rattle.std.specs.Fmt.{decimal}
use Rattle.std.specs.Char.{is_ascii_digit}
use Rattle.std.specs.Str.{bytes_eq}
use Rattle.std.specs.Str.Parse.{AllDigits, digits_value}
use Rattle.std.specs.List.{list_all, list_any, sum_by}
use Rattle.std.proofs.lemmas.Fmt.{decimal_is_IsNumeral}
use Rattle.std.specs.Prelude.{replicate}
use Rattle.std.proofs.lemmas.List.{length-map, map-append, length-set, length-replicate, get_or-set_same, get_or-set_other}
use Rattle.qc_model.specs.Block.{of_kind}
use Rattle.qc_model.specs.Bottlenecks.{bottleneck_last, bottlenecks_last}
use Rattle.qc_model.specs.Demands.{demands_after}
use Rattle.qc_model.specs.declared.problem.Arg.TheVariants.{Var}
use Rattle.qc_model.specs.declared.problem.Argument.TheVariants.{Many}
use Rattle.qc_model.specs.declared.problem.Pred.TheVariants.{BoolClause}
use Rattle.qdimacs.specs.Table.{filled_from, filled, draft_of}
use Rattle.std.proofs.lemmas.List.Sums.{sum_by-cons}
use Rattle.std.proofs.lemmas.List.Folds.{list_all-append}
use Rattle.std.proofs.lemmas.Str.Parse.{digit_from_value}
use Rattle.std.proofs.lemmas.Bool.{and_from, and_parts, or_right, or_parts, eqb-true, eq-eqb, ne_eqb, cases_eq, le-leb, lt-ltb, ltb-true, ltb-false}
use Rattle.std.specs.Cmp.Lexicographic.{bytes_decides}
use Rattle.qc_model.specs.declared.problem.Kind.{Kind}
use Rattle.qc_model.specs.declared.problem.Kind.TheVariants.{Exists, Forall}
use Rattle.qc_model.specs.declared.problem.Domain.{Domain}
use Rattle.qc_model.specs.declared.problem.Domain.TheVariants.{Bits, Range, Listed}
use Rattle.qc_model.specs.declared.problem.Scope.{Scope}
use Rattle.qc_model.specs.declared.problem.Variable.{Variable}
use Rattle.qc_model.specs.declared.problem.Arg.{Arg}
use Rattle.qc_model.specs.Content.{Game, Rule}
use Rattle.qc_model.specs.Lists.{Among, Distinct}
use Rattle.qc_model.specs.Names.{is_first_byte, is_word_byte, is_name, is_word, names_differ, reserved_words}
use Rattle.qc_model.specs.Valid.{is_in_order, is_domain, domain_width, is_bits, is_variable_with, is_declared_by, is_boolean, arg_sees, is_scope, is_constraint, IsValid}
use Rattle.qc_model.specs.Sees.{ScopeSees, SeesRight}
use Rattle.qdimacs.specs.declared.tree.LiteralText.{LiteralText}
use Rattle.qdimacs.specs.declared.tree.SetText.{SetText}
use Rattle.qdimacs.specs.declared.tree.ClauseText.{ClauseText}
use Rattle.qdimacs.specs.Grammar.{File}
use Rattle.qdimacs.specs.Formula.{Literal, Block, Formula}
use Rattle.qdimacs.specs.Content.{order, place, name_of, scope_of, variable_of, variables_of, positives, negatives, arg_of, rule_of, game_of}
use Rattle.qdimacs.specs.Refusals.{first_place, literal_above, clause_above, free_variables, free_blocks, block_of, literal_of, clause_of, formula_of, has_positives, is_positive, is_long, clause_place, long_clause, set_place, sets_left}
use Rattle.qdimacs.proofs.Good.{Taken, some_none, place_none, distinct, at_most, few_in_order, literal_in}

-- ORDER
abbrev Rising : ℕ → ℕ → List ℕ → Type 0
Rising n low [] = ⊤
Rising n low (k ∷ ks) = (low ≤ k) × (k < n) × Rising n k ks

rising_lower : (n low high : ℕ) (ks : List ℕ) → low ≤ high → Rising n high ks → Rising n low ks
rising_lower n low high [] l h = tt
rising_lower n low high (k ∷ ks) l h = let a = h.0 in (omega arith, h.1, h.2)

in_order : (n low : ℕ) (ks : List ℕ) → Rising n low ks → is_in_order n ks ≡ true
in_order n low [] h = refl
in_order n low (k ∷ []) h = lt-ltb k n h.1
in_order n low (k ∷ j ∷ ks) h = and_from (nat_le k j) (is_in_order n (j ∷ ks)) (le-leb k j h.2.0) (in_order n k (j ∷ ks) h.2)

scopes_rise : (n i : ℕ) (xs : List ℕ) (vs : List Variable) → i < n → Rising n i (map (λ (v : Variable). v.scope.0) vs) → Rising n i (map (λ (v : Variable). v.scope.0) (map (variable_of i) xs ++ vs))
scopes_rise n i [] vs l h = h
scopes_rise n i (x ∷ xs) vs l h = (omega arith, l, scopes_rise n i xs vs l h)

variables_rise : (n i : ℕ) (bs : List Block) → i + length bs ≤ n → Rising n i (map (λ (v : Variable). v.scope.0) (variables_of i bs))
variables_rise n i [] h = tt
variables_rise n i (b ∷ bs) h =
    scopes_rise n i b.variables (variables_of (suc i) bs) (omega arith)
    (rising_lower n i (suc i) (map (λ (v : Variable). v.scope.0) (variables_of (suc i) bs)) (omega arith) (variables_rise n (suc i) bs (omega arith)))

rules_rise : (n : ℕ) (at : ℕ → ℕ) (cs : List (List Literal)) → Rising (n + 1) n (map (λ (c : Rule). c.owner.0) (map (rule_of n at) cs))
rules_rise n at [] = tt
rules_rise n at (c ∷ cs) = (omega arith, omega arith, rules_rise n at cs)

-- NAMES
names_here : (i : ℕ) (xs : List ℕ) → map (λ (v : Variable). v.name) (map (variable_of i) xs) ≡ map name_of xs
names_here i [] = refl
names_here i (x ∷ xs) = ap (λ ns. name_of x ∷ ns) (names_here i xs)

names_are : (i : ℕ) (bs : List Block) → map (λ (v : Variable). v.name) (variables_of i bs) ≡ map name_of (order bs)
names_are i [] = refl
names_are i (b ∷ bs) =
    map-append (λ (v : Variable). v.name) (map (variable_of i) b.variables) (variables_of (suc i) bs)
    ∙ ap (λ ns. ns ++ map (λ (v : Variable). v.name) (variables_of (suc i) bs)) (names_here i b.variables)
    ∙ ap (λ ns. map name_of b.variables ++ ns) (names_are (suc i) bs)
    ∙ sym (map-append name_of b.variables (order bs))

digit_in_word : (c : ℕ) → 48 ≤ c → c ≤ 57 → is_word_byte c ≡ true
digit_in_word c l h = or_right (is_first_byte c) (is_ascii_digit c) (and_from (nat_le 48 c) (nat_le c 57) (le-leb 48 c l) (le-leb c 57 h))

digits_in_word : (ds : List ℕ) → AllDigits 10 ds → list_all is_word_byte ds ≡ true
digits_in_word [] h = refl
digits_in_word (c ∷ cs) h = let r = digit_from_value c h.0 in and_from (is_word_byte c) (list_all is_word_byte cs) (digit_in_word c r.0 r.1) (digits_in_word cs h.1)

-- v and digits are no reserved word: the second byte of those that begin with v is a
not_reserved : (c : ℕ) (cs : List ℕ) → 48 ≤ c → c ≤ 57 → list_any (bytes_eq (118 ∷ c ∷ cs)) reserved_words ≡ false
not_reserved c cs l h = ap (λ b. (b && bytes_eq cs (114 ∷ [])) || false) (ne_eqb c 97 (λ e. absurd (omega (arith, e))))

digits_name : (ds : List ℕ) → 0 < length ds → AllDigits 10 ds → is_name (118 ∷ ds) ≡ true
digits_name [] l h = absurd (omega arith)
digits_name (c ∷ cs) l h =
    let r = digit_from_value c h.0 in
    and_from (is_word (118 ∷ c ∷ cs)) (not (list_any (bytes_eq (118 ∷ c ∷ cs)) reserved_words)) (digits_in_word (c ∷ cs) h) (ap not (not_reserved c cs r.0 r.1))

name_is_name : (x : ℕ) → x ≤ 500 → is_name (name_of x) ≡ true
name_is_name x h = let n = decimal_is_IsNumeral x (omega arith) in digits_name (decimal x) n.0.0 n.0.1

all_names : (xs : List ℕ) → ((x : ℕ) → Among x xs → x ≤ 500) → list_all is_name (map name_of xs) ≡ true
all_names [] h = refl
all_names (x ∷ xs) h = and_from (is_name (name_of x)) (list_all is_name (map name_of xs)) (name_is_name x (h x (inl refl))) (all_names xs (λ z m. h z (inr m)))

same_number : (x y : ℕ) → x ≤ 500 → y ≤ 500 → name_of x ≡ name_of y → x ≡ y
same_number x y h k e =
    let d : decimal x ≡ decimal y = (let f : 118 ∷ decimal x ≡ 118 ∷ decimal y = e in cc) in
    sym (decimal_is_IsNumeral x (omega arith)).1 ∙ ap (digits_value 10) d ∙ (decimal_is_IsNumeral y (omega arith)).1

name_differs : (x : ℕ) (xs : List ℕ) → x ≤ 500 → ((z : ℕ) → Among z xs → z ≤ 500) → ¬ Among x xs → list_any (bytes_eq (name_of x)) (map name_of xs) ≡ false
name_differs x [] h k n = refl
name_differs x (y ∷ ys) h k n =
    go (bytes_eq (name_of x) (name_of y)) (λ t. n (inl (same_number x y h (k y (inl refl)) ((bytes_decides (name_of x) (name_of y)).0 t)))) (name_differs x ys h (λ z m. k z (inr m)) (λ m. n (inr m)))
  where
    go : (b : Bool) → (b ≡ true → ⊥) → list_any (bytes_eq (name_of x)) (map name_of ys) ≡ false → (b || list_any (bytes_eq (name_of x)) (map name_of ys)) ≡ false
    go true n e = absurd (n refl)
    go false n e = e

names_apart : (xs : List ℕ) → ((x : ℕ) → Among x xs → x ≤ 500) → Distinct xs → names_differ (map name_of xs) ≡ true
names_apart [] h d = refl
names_apart (x ∷ xs) h d =
    and_from (not (list_any (bytes_eq (name_of x)) (map name_of xs))) (names_differ (map name_of xs))
    (ap not (name_differs x xs (h x (inl refl)) (λ z m. h z (inr m)) d.0)) (names_apart xs (λ z m. h z (inr m)) d.1)

-- VARIABLES
length_here : (i : ℕ) (bs : List Block) → length (variables_of i bs) ≡ length (order bs)
length_here i [] = refl
length_here i (b ∷ bs) =
    length-append (map (variable_of i) b.variables) (variables_of (suc i) bs)
    ∙ ap (λ n. n + length (variables_of (suc i) bs)) (length-map b.variables (variable_of i))
    ∙ ap (λ n. length b.variables + n) (length_here (suc i) bs) ∙ sym (length-append b.variables (order bs))

-- what holds of each variable of a scope below n
all_here : (p : Variable → Bool) (i : ℕ) (xs : List ℕ) → ((x : ℕ) → p (variable_of i x) ≡ true) → list_all p (map (variable_of i) xs) ≡ true
all_here p i [] h = refl
all_here p i (x ∷ xs) h = and_from (p (variable_of i x)) (list_all p (map (variable_of i) xs)) (h x) (all_here p i xs h)

all_variables : (p : Variable → Bool) (n i : ℕ) (bs : List Block) → i + length bs ≤ n → ((j x : ℕ) → j < n → p (variable_of j x) ≡ true) → list_all p (variables_of i bs) ≡ true
all_variables p n i [] l h = refl
all_variables p n i (b ∷ bs) l h =
    list_all-append p (map (variable_of i) b.variables) (variables_of (suc i) bs)
    ∙ and_from (list_all p (map (variable_of i) b.variables)) (list_all p (variables_of (suc i) bs)) (all_here p i b.variables (λ x. h i x (omega arith))) (all_variables p n (suc i) bs (omega arith) h)

bits_wide : (d : Domain) → is_bits d ≡ true → domain_width d ≡ 2
bits_wide Bits h = refl
bits_wide (Range low high) h = absurd cc
bits_wide (Listed ns) h = absurd cc

widths : (vs : List Variable) → list_all (λ (v : Variable). is_bits v.domain) vs ≡ true → sum_by (λ (v : Variable). domain_width v.domain) vs ≡ 2 * length vs
widths [] h = refl
widths (v ∷ vs) h =
    let q = and_parts (is_bits v.domain) (list_all (λ (v : Variable). is_bits v.domain) vs) h in
    let e = bits_wide v.domain q.0 in
    let r = widths vs q.1 in
    sum_by-cons _ v vs ∙ omega (arith, e, r)

at_place : (p : Variable → Bool) (q : Option Variable → Bool) (vs : List Variable) (k : ℕ) → ((v : Variable) → q (Some v) ≡ p v) → list_all p vs ≡ true → k < length vs → q (slice_get vs k) ≡ true
at_place p q [] k e h l = absurd (omega arith)
at_place p q (v ∷ vs) zero e h l = e v ∙ (and_parts (p v) (list_all p vs) h).0
at_place p q (v ∷ vs) (suc k) e h l = at_place p q vs k e (and_parts (p v) (list_all p vs) h).1 (omega (arith, l))

place_within : (x : ℕ) (xs : List ℕ) → Among x xs → place x xs < length xs
place_within x [] m = absurd m
place_within x (y ∷ ys) m = elim (cases_eq x y) [
  | inl e ↦ subst (λ b. cond b 0 (suc (place x ys)) < suc (length ys)) (sym (eq-eqb x y e)) (omega arith)
  | inr n ↦ subst (λ b. cond b 0 (suc (place x ys)) < suc (length ys)) (sym (ne_eqb x y n)) (let r = place_within x ys (elim m [ inl e ↦ absurd (n e) | inr k ↦ k ]) in omega arith)
]

-- SCOPES
scope_is : (k : Kind) (vs : List Variable) → is_scope vs (record { kind = k; condition = None }) ≡ true
scope_is Exists vs = refl
scope_is Forall vs = refl

scopes_are : (vs : List Variable) (bs : List Block) → list_all (is_scope vs) (map scope_of bs) ≡ true
scopes_are vs [] = refl
scopes_are vs (b ∷ bs) = and_from (is_scope vs (scope_of b)) (list_all (is_scope vs) (map scope_of bs)) (scope_is b.kind vs) (scopes_are vs bs)

saw : (k : Kind) (g : Game) (later : List Scope) (i : ℕ) → ScopeSees k g later i None []
saw Exists g later i = tt
saw Forall g later i = tt

sees : (φ : Formula) (bs : List Block) (i : ℕ) → SeesRight (game_of φ) (map scope_of bs) i
sees φ [] i = tt
sees φ (b ∷ bs) i = (saw b.kind (game_of φ) (map scope_of bs) (suc i), sees φ bs (suc i))

by_one : (k : Kind) (g : Game) (bs : List Block) → bottlenecks_last g (map scope_of bs) [] ≡ true → (of_kind k true (bottleneck_last g []) && bottlenecks_last g (map scope_of bs) (demands_after g k None [])) ≡ true
by_one Exists g bs e = e
by_one Forall g bs e = e

none_follows : (g : Game) (bs : List Block) → bottlenecks_last g (map scope_of bs) [] ≡ true
none_follows g [] = refl
none_follows g (b ∷ bs) = by_one b.kind g bs (none_follows g bs)

sets_few : (ss : List SetText) (k : ℕ) → set_place (slice_get ss k) ≡ None → length ss ≤ k
sets_few [] k e = omega arith
sets_few (s ∷ ss) zero e = absurd cc
sets_few (s ∷ ss) (suc k) e = let r = sets_few ss k e in omega arith

blocks_few : (xs : List ℕ) (ss : List SetText) → set_place (slice_get ss (sets_left xs)) ≡ None → length (free_blocks xs ++ map block_of ss) ≤ 64
blocks_few [] ss e = let r = sets_few ss 64 e in omega (arith, length-map ss block_of)
blocks_few (x ∷ xs) ss e = let r = sets_few ss 63 e in omega (arith, length-map ss block_of)

-- CONSTRAINTS
module _ (vs : List Variable) (xs : List ℕ) (n : ℕ) (same : length vs ≡ length xs) (are_bits : list_all (λ (v : Variable). is_bits v.domain) vs ≡ true) (declared : list_all (λ (v : Variable). nat_le v.scope.0 n) vs ≡ true) where
  abbrev at : ℕ → ℕ
  at x = place x xs

  all_booleans : (ys : List ℕ) → ((y : ℕ) → Among y ys → Among y xs) → list_all (is_boolean vs) (map (arg_of at) ys) ≡ true
  all_booleans [] h = refl
  all_booleans (y ∷ ys) h =
      and_from (is_boolean vs (arg_of at y)) (list_all (is_boolean vs) (map (arg_of at) ys))
      (at_place (λ (v : Variable). is_bits v.domain) (is_variable_with is_bits) vs (place y xs) (λ v. refl) are_bits (omega (arith, same, place_within y xs (h y (inl refl)))))
      (all_booleans ys (λ z m. h z (inr m)))

  all_seen : (ys : List ℕ) → ((y : ℕ) → Among y ys → Among y xs) → list_all (arg_sees vs n) (map (arg_of at) ys) ≡ true
  all_seen [] h = refl
  all_seen (y ∷ ys) h =
      and_from (arg_sees vs n (arg_of at y)) (list_all (arg_sees vs n) (map (arg_of at) ys))
      (at_place (λ (v : Variable). nat_le v.scope.0 n) (is_declared_by n) vs (place y xs) (λ v. refl) declared (omega (arith, same, place_within y xs (h y (inl refl)))))
      (all_seen ys (λ z m. h z (inr m)))

  pub rule_is : (ls : List Literal) → length (positives ls) ≤ 1000 → length (negatives ls) ≤ 1000 → ((y : ℕ) → Among y (positives ls) → Among y xs) → ((y : ℕ) → Among y (negatives ls) → Among y xs) →
      is_constraint vs (rule_of n at ls) ≡ true
  rule_is ls p q h k =
      let a = λ (ys : List ℕ) (l : length ys ≤ 1000) (i : (y : ℕ) → Among y ys → Among y xs).
      and_from (nat_le (length (map (arg_of at) ys)) 1000) (list_all (is_boolean vs) (map (arg_of at) ys)) (le-leb (length (map (arg_of at) ys)) 1000 (omega (arith, length-map ys (arg_of at)))) (all_booleans ys i) in
      and_from _ _ (and_from _ true (and_from _ _ (a (positives ls) p h) (and_from _ true (a (negatives ls) q k) refl)) refl)
      (and_from _ _ (all_seen (positives ls) h) (and_from _ true (all_seen (negatives ls) k) refl))

-- the variables of literals of one sign
module _ (p : Literal → Bool) where
  abbrev signed : List LiteralText → List ℕ
  signed ts = map (λ (l : Literal). l.variable) (filter p (map literal_of ts))

  signed_length : (ts : List LiteralText) → length (signed ts) ≡ length (filter (λ (t : LiteralText). p (literal_of t)) ts)
  signed_length [] = refl
  signed_length (t ∷ ts) = go (p (literal_of t)) (signed_length ts)
    where
      go : (b : Bool) → length (signed ts) ≡ length (filter (λ (t : LiteralText). p (literal_of t)) ts) →
          length (map (λ (l : Literal). l.variable) (cond b (literal_of t ∷ filter p (map literal_of ts)) (filter p (map literal_of ts)))) ≡ length (cond b (t ∷ filter (λ (t : LiteralText). p (literal_of t)) ts) (filter (λ (t : LiteralText). p (literal_of t)) ts))
      go true e = ap suc e
      go false e = e

  signed_within : (most : ℕ) (ts : List LiteralText) → first_place (literal_above most) ts ≡ None → list_all (λ (l : LiteralText). nat_lt 0 l.variable) ts ≡ true →
      (y : ℕ) → Among y (signed ts) → (0 < y) × (y ≤ most)
  signed_within most [] e h y m = absurd m
  signed_within most (t ∷ ts) e h y m =
      let a = some_none (literal_above most t) (first_place (literal_above most) ts) e in
      let q = and_parts (nat_lt 0 t.variable) (list_all (λ (l : LiteralText). nat_lt 0 l.variable) ts) h in
      let low = ltb-true 0 t.variable q.0 in
      let high = ltb-false most t.variable (place_none (nat_lt most t.variable) t.at a.0) in
      go (p (literal_of t)) low high (signed_within most ts a.1 q.1 y) m
    where
      go : (b : Bool) → 0 < t.variable → t.variable ≤ most → (Among y (signed ts) → (0 < y) × (y ≤ most)) →
          Among y (map (λ (l : Literal). l.variable) (cond b (literal_of t ∷ filter p (map literal_of ts)) (filter p (map literal_of ts)))) → (0 < y) × (y ≤ most)
      go true l h f m = elim m [ inl e ↦ (omega (arith, e), omega (arith, e)) | inr k ↦ f k ]
      go false l h f m = f m

module _ (f : File) (t : Taken f) (p : has_positives f ≡ true) where
  abbrev φ : Formula
  φ = formula_of f

  abbrev vs : List Variable
  vs = variables_of 0 φ.blocks

  abbrev n : ℕ
  n = length φ.blocks

  abbrev positive_clause : ClauseText → Bool
  positive_clause c = list_all (λ (l : LiteralText). nat_lt 0 l.variable) c.literals

  clause_in : (q : Literal → Bool) (c : ClauseText) → clause_above f.variables.value c ≡ None → positive_clause c ≡ true → (y : ℕ) → Among y (signed q c.literals) → Among y (order φ.blocks)
  clause_in q c e h y m = let r = signed_within q f.variables.value c.literals e h y m in literal_in f t p y r.0 r.1

  bodies : (cs : List ClauseText) → first_place (clause_above f.variables.value) cs ≡ None → first_place long_clause cs ≡ None → list_all positive_clause cs ≡ true →
      list_all (is_constraint vs) (map (rule_of n (λ x. place x (order φ.blocks))) (map clause_of cs)) ≡ true
  bodies [] e l h = refl
  bodies (c ∷ cs) e l h =
      let a = some_none (clause_above f.variables.value c) (first_place (clause_above f.variables.value) cs) e in
      let b = some_none (long_clause c) (first_place long_clause cs) l in
      let q = and_parts (positive_clause c) (list_all positive_clause cs) h in
      let s = or_parts (nat_lt 1000 (length (filter (λ (l : LiteralText). l.positive) c.literals))) (nat_lt 1000 (length (filter (λ (l : LiteralText). not l.positive) c.literals))) (place_none (is_long c.literals) (clause_place c.literals c.end) b.0) in
      let s0 = ltb-false 1000 (length (filter (λ (l : LiteralText). l.positive) c.literals)) s.0 in
      let s1 = ltb-false 1000 (length (filter (λ (l : LiteralText). not l.positive) c.literals)) s.1 in
      and_from (is_constraint vs (rule_of n (λ x. place x (order φ.blocks)) (clause_of c))) (list_all (is_constraint vs) (map (rule_of n (λ x. place x (order φ.blocks))) (map clause_of cs)))
      (rule_is vs (order φ.blocks) n (length_here 0 φ.blocks)
      (all_variables (λ (v : Variable). is_bits v.domain) n 0 φ.blocks (omega arith) (λ j x k. refl))
      (all_variables (λ (v : Variable). nat_le v.scope.0 n) n 0 φ.blocks (omega arith) (λ j x k. le-leb j n (omega (arith, k))))
      (clause_of c)
      (omega (arith, s0, signed_length (λ (l : Literal). l.positive) c.literals))
      (omega (arith, s1, signed_length (λ (l : Literal). not l.positive) c.literals))
      (clause_in (λ (l : Literal). l.positive) c a.0 q.0) (clause_in (λ (l : Literal). not l.positive) c a.0 q.0))
      (bodies cs a.1 b.1 q.1)

  small : (x : ℕ) → Among x (order φ.blocks) → x ≤ 500
  small x m = let r = at_most f t p x m in omega (arith, r, t.few_variables)

  pub valid : IsValid (game_of φ)
  valid = record {
    few_scopes = omega (arith, length-map φ.blocks scope_of, blocks_few (free_variables f) f.sets t.few_sets);
    few_variables = omega (arith, length_here 0 φ.blocks, few_in_order f t p);
    few_aggregates = omega arith;
    few_constraints = omega (arith, length-map (map clause_of f.body) (rule_of n (λ x. place x (order φ.blocks))), length-map f.body clause_of, eqb-true (length f.body) f.clauses.value t.count, t.few_clauses);
    variable_order = in_order (length (map scope_of φ.blocks)) 0 (map (λ (v : Variable). v.scope.0) vs) (variables_rise (length (map scope_of φ.blocks)) 0 φ.blocks (omega (arith, length-map φ.blocks scope_of)));
    constraint_order =
        subst (λ k. is_in_order (k + 1) (map (λ (c : Rule). c.owner.0) (map (rule_of n (λ x. place x (order φ.blocks))) φ.clauses)) ≡ true) (sym (length-map φ.blocks scope_of))
        (in_order (n + 1) n (map (λ (c : Rule). c.owner.0) (map (rule_of n (λ x. place x (order φ.blocks))) φ.clauses)) (rules_rise n (λ x. place x (order φ.blocks)) φ.clauses));
    aggregate_order = refl;
    names = ap (λ ns. list_all is_name ns) (append-nil (map (λ (v : Variable). v.name) vs) ∙ names_are 0 φ.blocks) ∙ all_names (order φ.blocks) small;
    distinct_names = ap names_differ (append-nil (map (λ (v : Variable). v.name) vs) ∙ names_are 0 φ.blocks) ∙ names_apart (order φ.blocks) small (distinct f t p);
    domains = all_variables (λ (v : Variable). is_domain v.domain) n 0 φ.blocks (omega arith) (λ j x k. refl);
    widths = (let w = widths vs (all_variables (λ (v : Variable). is_bits v.domain) n 0 φ.blocks (omega arith) (λ j x k. refl)) in omega (arith, w, length_here 0 φ.blocks, few_in_order f t p));
    scopes = scopes_are vs φ.blocks;
    aggregates = refl;
    constraints = bodies f.body t.body_range t.short (and_parts (list_all (λ (s : SetText). list_all is_positive s.variables) f.sets) (list_all positive_clause f.body) p).1;
    sees = sees φ φ.blocks 0;
    bottlenecks = none_follows (game_of φ) φ.blocks;
  }

  pub few_blocks : length φ.blocks ≤ 64
  few_blocks = blocks_few (free_variables f) f.sets t.few_sets

-- THE TABLE
past : (table : List ℕ) (most k : ℕ) (xs : List ℕ) (y : ℕ) → ((x : ℕ) → Among x xs → x ≤ most) → ¬ Among y xs → get_or (filled_from table most k xs) y 0 ≡ get_or table y 0
past table most k [] y h n = refl
past table most k (x ∷ xs) y h n =
    ap (λ b. get_or (filled_from (cond b (set table x k) table) most (suc k) xs) y 0) (le-leb x most (h x (inl refl)))
    ∙ past (set table x k) most (suc k) xs y (λ z m. h z (inr m)) (λ m. n (inr m))
    ∙ get_or-set_other table x y k 0 (λ e. n (inl e))

here : (table : List ℕ) (most k : ℕ) (xs : List ℕ) (y : ℕ) → ((x : ℕ) → Among x xs → x ≤ most) → Distinct xs → most < length table → Among y xs → get_or (filled_from table most k xs) y 0 ≡ k + place y xs
here table most k [] y h d l m = absurd m
here table most k (x ∷ xs) y h d l m =
    ap (λ b. get_or (filled_from (cond b (set table x k) table) most (suc k) xs) y 0) (le-leb x most (h x (inl refl)))
    ∙ elim (cases_eq y x) [
      | inl e ↦
          past (set table x k) most (suc k) xs y (λ z m. h z (inr m)) (λ n. d.0 (subst (λ u. Among u xs) e n))
          ∙ ap (λ z. get_or (set table x k) z 0) e ∙ get_or-set_same table x k 0 (let b = h x (inl refl) in omega (arith, b))
          ∙ sym (ap (λ b. k + cond b 0 (suc (place y xs))) (eq-eqb y x e) ∙ omega arith)
      | inr n ↦
          here (set table x k) most (suc k) xs y (λ z m. h z (inr m)) d.1 (omega (arith, length-set table x k)) (elim m [ inl e ↦ absurd (n e) | inr k ↦ k ])
          ∙ sym (ap (λ b. k + cond b 0 (suc (place y xs))) (ne_eqb y x n) ∙ omega arith)
    ]

same_args : (at by : ℕ → ℕ) (ys : List ℕ) → ((y : ℕ) → Among y ys → at y ≡ by y) → map (arg_of at) ys ≡ map (arg_of by) ys
same_args at by [] h = refl
same_args at by (y ∷ ys) h = ap (λ (k : ℕ). Var (record { 0 = k }) ∷ map (arg_of at) ys) (h y (inl refl)) ∙ ap (λ us. arg_of by y ∷ us) (same_args at by ys (λ z m. h z (inr m)))

same_rule : (k : ℕ) (at by : ℕ → ℕ) (ls : List Literal) → ((y : ℕ) → Among y (positives ls) → at y ≡ by y) → ((y : ℕ) → Among y (negatives ls) → at y ≡ by y) → rule_of k at ls ≡ rule_of k by ls
same_rule k at by ls h i =
    ap (λ (us : List Arg). record { owner = record { 0 = k }; pred = BoolClause; args = Many us ∷ Many (map (arg_of at) (negatives ls)) ∷ [] }) (same_args at by (positives ls) h)
    ∙ ap (λ (us : List Arg). record { owner = record { 0 = k }; pred = BoolClause; args = Many (map (arg_of by) (positives ls)) ∷ Many us ∷ [] }) (same_args at by (negatives ls) i)

module _ (f : File) (t : Taken f) (p : has_positives f ≡ true) where
  abbrev ψ : Formula
  ψ = formula_of f

  abbrev table : ℕ → ℕ
  table x = get_or (filled f.variables.value 0 (order ψ.blocks)) x 0

  table_is : (y : ℕ) → Among y (order ψ.blocks) → table y ≡ place y (order ψ.blocks)
  table_is y m =
      here (replicate (f.variables.value + 1) 0) f.variables.value 0 (order ψ.blocks) y (at_most f t p) (distinct f t p) (omega (arith, length-replicate {A = ℕ} (f.variables.value + 1) 0)) m
      ∙ omega arith

  same_rules : (cs : List ClauseText) → first_place (clause_above f.variables.value) cs ≡ None → list_all (positive_clause f t p) cs ≡ true →
      map (rule_of (length ψ.blocks) table) (map clause_of cs) ≡ map (rule_of (length ψ.blocks) (λ x. place x (order ψ.blocks))) (map clause_of cs)
  same_rules [] e h = refl
  same_rules (c ∷ cs) e h =
      let a = some_none (clause_above f.variables.value c) (first_place (clause_above f.variables.value) cs) e in
      let q = and_parts (positive_clause f t p c) (list_all (positive_clause f t p) cs) h in
      ap (λ (r : Rule). r ∷ map (rule_of (length ψ.blocks) table) (map clause_of cs))
      (same_rule (length ψ.blocks) table (λ x. place x (order ψ.blocks)) (clause_of c)
      (λ y m. table_is y (clause_in f t p (λ (l : Literal). l.positive) c a.0 q.0 y m))
      (λ y m. table_is y (clause_in f t p (λ (l : Literal). not l.positive) c a.0 q.0 y m)))
      ∙ ap (λ (rs : List Rule). rule_of (length ψ.blocks) (λ x. place x (order ψ.blocks)) (clause_of c) ∷ rs) (same_rules cs a.1 q.1)

  pub draft_is : draft_of f.variables.value ψ ≡ game_of ψ
  draft_is =
      ap (λ (rs : List Rule). record { scopes = map scope_of ψ.blocks; variables = variables_of 0 ψ.blocks; aggregates = []; constraints = rs })
      (same_rules f.body t.body_range (and_parts (list_all (λ (s : SetText). list_all is_positive s.variables) f.sets) (list_all (positive_clause f t p) f.body) p).1)
