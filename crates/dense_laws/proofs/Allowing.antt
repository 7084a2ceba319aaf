-- At nodes that are alike the same is allowed.
use Rattle.std.proofs.Common.{◌≡◌, inl, inr, ℕ, zero, suc, ◌<◌, ◌≤◌, ◌==◌, Bool, true, false, not, ◌&&◌, ◌||◌, cond, List, [], ◌∷◌, ◌++◌, length, map, take, drop, refl, sym, ap, ◌∙◌, subst, arith, ℤ, pos, Option, Some, None}
use Rattle.std.specs.Prelude.{slice_get, slice_index_or, nat_le}
use Rattle.std.specs.Ordering.{int_eq}
use Rattle.std.specs.List.{list_any, list_all}
use Rattle.std.proofs.lemmas.Bool.Decides.{nat_tests}
use Rattle.std.proofs.lemmas.List.{length-take, length-map, length-append}
use Rattle.std.proofs.lemmas.Bool.{or_right, cases_lt, and_parts, and_from, or_cases}
use Rattle.qc_model.specs.declared.problem.Arg.{Arg}
use Rattle.qc_model.specs.declared.problem.Arg.TheVariants.{Var, Num}
use Rattle.qc_model.specs.declared.problem.Argument.{Argument}
use Rattle.qc_model.specs.Arguments.{argument_variables, variables_of, many, fill}
use Rattle.qc_model.specs.Content.{Rule}
use Rattle.qc_model.specs.Domains.{InBox, Box, Values, declared_box, values_left, is_single, least_value}
use Rattle.qc_model.specs.Game.{before, restriction, allows}
use Rattle.qc_model.specs.Holds.{arg_value, holds_as, holds_on, is_one, is_zero}
use Rattle.qc_model.specs.Lists.{Among, same_values}
use Rattle.qc_model.specs.Meaning.{Meaning, clause, meaning_of}
use Rattle.qc_model.specs.Valid.{IsValid}
use Rattle.qc_model.specs.Visible.{ArgumentsBelow}
use Rattle.qc_model.proofs.Moves.{of_filter}
use Rattle.model_laws.proofs.Listed.{all_to}
use Rattle.lemma_list.specs.Entailment.{entailed_by}
use Rattle.lemma_boxes.proofs.Entailments.{entailed_holds}
use Rattle.proof_alike.specs.Alike.{is_among, is_named, is_seen, is_looked_at, constrains, sees}
use Rattle.proof_alike.specs.Reading.{Reading, as_sum, as_plus, as_clause, by_value, reading_of, known_sum, known_plus, known_value, is_known_as, is_satisfied, own_values, seen_as, variables_by_value}
use Rattle.proof_alike.proofs.Arrays.{items_of, many_filled}
use Rattle.proof_alike.proofs.Filling.{any_of, get_among}
use Rattle.proof_alike.proofs.Positions.{early_value}
use Rattle.proof_meaning.proofs.Boxes.{in_rest}
use Rattle.proof_meaning.proofs.LeafWords.{same_true}
use Rattle.proof_meaning.proofs.Premises.{sound_of}
use Rattle.proof_tree.specs.Place.{position}
use Rattle.dense_meaning.proofs.Bits.{place_of}
use Rattle.dense_meaning.proofs.Targets.{left_at}
use Rattle.dense_tree.specs.Alike.{each_below, is_from, is_read, reads_one_position, declared_from, views, look_same, same_horizon, tells_of_all, misses_nothing}
use Rattle.dense_tree.specs.Place.{Setting, Place}
use Rattle.dense_laws.specs.Stands.{StandsNode}
use Rattle.dense_laws.proofs.Allow.{OfArg, OfArgs, among_second, items_are, Changes, sum_same, plus_same, values_hold}
use Rattle.dense_laws.proofs.FreeGames.{in_fronts}
use Rattle.dense_laws.proofs.Looks.{below_is, not_or, single_value, past_both, front_value, seven, AlikeAllow}
use Rattle.dense_laws.proofs.Small.{same_number}

to_le : (x y : ℕ) → x ≤ y → nat_le x y ≡ true
to_le x y l = grind (arith, nat_tests)

past_end : (w : List ℤ) (x : ℕ) → length w ≤ x → slice_index_or w x (pos 0) ≡ pos 0
past_end [] x l = refl
past_end (v ∷ w) zero l = absurd (omega arith)
past_end (v ∷ w) (suc x) l = past_end w x (omega arith)

got_value : (w : List ℤ) (x : ℕ) (m : ℤ) → slice_get w x ≡ Some m → (x < length w) × (slice_index_or w x (pos 0) ≡ m)
got_value [] x m e = cc
got_value (v ∷ w) zero m e = (omega arith, cc)
got_value (v ∷ w) (suc x) m e = let r = got_value w x m e in let l = r.0 in (omega arith, r.1)

single_least : (d : Values) (v : ℤ) → is_single d ≡ true → Among v d → v ≡ least_value d
single_least [] v e m = absurd m
single_least (x ∷ []) v e (inl q) = q
single_least (x ∷ []) v e (inr m) = absurd m
single_least (x ∷ y ∷ d) v e m = cc

all_same : (p q : Rule → Bool) (cs : List Rule) → ((c : Rule) → Among c cs → p c ≡ q c) → list_all p cs ≡ list_all q cs
all_same p q [] f = refl
all_same p q (c ∷ cs) f = by (p c) (q c) (list_all p cs) (list_all q cs) (f c (inl refl)) (all_same p q cs (λ d m. f d (inr m)))
  where
    by : (a b x y : Bool) → a ≡ b → x ≡ y → (a && x) ≡ (b && y)
    by true true x y e h = h
    by true false x y e h = cc
    by false true x y e h = cc
    by false false x y e h = refl

-- a clause that a known literal satisfies holds
module _ (c : Rule) (test : ℕ → Bool) (known w : List ℤ) (kept : (x : ℕ) → is_among (variables_of c.args) x ≡ true → (m : ℤ) → slice_get known x ≡ Some m → slice_index_or w x (pos 0) ≡ m) where
  abbrev Kept : ℕ → Type 0
  Kept x = (m : ℤ) → slice_get known x ≡ Some m → slice_index_or w x (pos 0) ≡ m

  literal : (n : ℤ) (x : Arg) → OfArg Kept x → is_known_as n (known_value test known x) ≡ true → int_eq (arg_value w x) n ≡ true
  literal n (Num m) h e = e
  literal n (Var x) h e = by (test x.0) (slice_get known x.0) refl e
    where
      by : (b : Bool) (o : Option ℤ) → slice_get known x.0 ≡ o → is_known_as n (cond b o None) ≡ true → int_eq (slice_index_or w x.0 (pos 0)) n ≡ true
      by true None q e = cc
      by true (Some m) q e = subst (λ z. int_eq z n ≡ true) (sym (h m q)) e
      by false o q e = cc

  some_literal : (n : ℤ) (xs : List Arg) → OfArgs Kept xs → list_any (is_known_as n) (map (known_value test known) xs) ≡ true → list_any (λ z. int_eq z n) (map (arg_value w) xs) ≡ true
  some_literal n [] h e = cc
  some_literal n (x ∷ xs) h e = elim (or_cases (is_known_as n (known_value test known x)) (list_any (is_known_as n) (map (known_value test known) xs)) e) [
    | inl q ↦ or_left (int_eq (arg_value w x) n) (list_any (λ z. int_eq z n) (map (arg_value w) xs)) (literal n x h.0 q)
    | inr q ↦ or_right (int_eq (arg_value w x) n) (list_any (λ z. int_eq z n) (map (arg_value w) xs)) (some_literal n xs h.1 q)
  ]
    where
      or_left : (a b : Bool) → a ≡ true → (a || b) ≡ true
      or_left true b h = refl
      or_left false b h = cc

  pub satisfied_holds : meaning_of c.pred ≡ clause → is_satisfied test known c ≡ true → holds_on c w ≡ true
  satisfied_holds e s =
      subst (λ m. holds_as m (map (fill (arg_value w)) c.args) ≡ true) (sym e)
      (ap (λ xs. list_any is_one xs || list_any is_zero (many (map (fill (arg_value w)) c.args) 1)) (many_filled (arg_value w) c.args 0)
      ∙ ap (λ xs. list_any is_one (map (arg_value w) (items_of (slice_get c.args 0))) || list_any is_zero xs) (many_filled (arg_value w) c.args 1)
      ∙ elim (or_cases (list_any (is_known_as (pos 1)) (map (known_value test known) (items_of (slice_get c.args 0)))) (list_any (is_known_as (pos 0)) (map (known_value test known) (items_of (slice_get c.args 1)))) (sym is ∙ s)) [
        | inl q ↦ or_one (list_any is_one (map (arg_value w) (items_of (slice_get c.args 0)))) (list_any is_zero (map (arg_value w) (items_of (slice_get c.args 1)))) (some_literal (pos 1) (items_of (slice_get c.args 0)) (items_are Kept c.args 0 kept) q)
        | inr q ↦ or_right (list_any is_one (map (arg_value w) (items_of (slice_get c.args 0)))) (list_any is_zero (map (arg_value w) (items_of (slice_get c.args 1)))) (some_literal (pos 0) (items_of (slice_get c.args 1)) (items_are Kept c.args 1 kept) q)
      ])
    where
      or_one : (a b : Bool) → a ≡ true → (a || b) ≡ true
      or_one true b h = refl
      or_one false b h = cc

      is : is_satisfied test known c ≡ (list_any (is_known_as (pos 1)) (map (known_value test known) (items_of (slice_get c.args 0))) || list_any (is_known_as (pos 0)) (map (known_value test known) (items_of (slice_get c.args 1))))
      is =
          ap (λ xs. list_any (is_known_as (pos 1)) xs || list_any (is_known_as (pos 0)) (many (map (fill (known_value test known)) c.args) 1)) (many_filled (known_value test known) c.args 0)
          ∙ ap (λ xs. list_any (is_known_as (pos 1)) (map (known_value test known) (items_of (slice_get c.args 0))) || list_any (is_known_as (pos 0)) xs) (many_filled (known_value test known) c.args 1)

clause_only : (m : Meaning) → reading_of m ≡ as_clause → m ≡ clause
clause_only clause e = refl
clause_only m e = cc

same_at : (f h : ℕ → ℤ) (xs : List ℕ) (x : ℕ) → map f xs ≡ map h xs → is_among xs x ≡ true → f x ≡ h x
same_at f h [] x e m = cc
same_at f h (y ∷ xs) x e m = elim (or_cases (y == x) (is_among xs x) m) [
  | inl q ↦ subst (λ z. f z ≡ h z) (same_number y x q) (first_same (f y) (h y) (map f xs) (map h xs) e)
  | inr n ↦ same_at f h xs x (rest_same (f y) (h y) (map f xs) (map h xs) e) n
]
  where
    first_same : (p q : ℤ) (ps qs : List ℤ) → p ∷ ps ≡ q ∷ qs → p ≡ q
    first_same p q ps qs e = cc

    rest_same : (p q : ℤ) (ps qs : List ℤ) → p ∷ ps ≡ q ∷ qs → ps ≡ qs
    rest_same p q ps qs e = cc

none_of : (f : ℕ → ℤ) (xs : List ℕ) (x : ℕ) → map f xs ≡ [] → is_among xs x ≡ true → ⊥
none_of f [] x e m = cc
none_of f (y ∷ xs) x e m = cc

-- two positions with known values s and t, and the values v and w that go on from them
module _ (c : Rule) (test : ℕ → Bool) (v w s t : List ℤ) (change : (x : ℕ) → is_among (variables_of c.args) x ≡ true → Changes v w s t x)
    (alone : (x : ℕ) → is_among (variables_by_value (reading_of (meaning_of c.pred)) c.args) x ≡ true → slice_index_or v x (pos 0) ≡ slice_index_or w x (pos 0))
    (kept_first : (x : ℕ) → is_among (variables_of c.args) x ≡ true → (m : ℤ) → slice_get s x ≡ Some m → slice_index_or v x (pos 0) ≡ m)
    (kept_second : (x : ℕ) → is_among (variables_of c.args) x ≡ true → (m : ℤ) → slice_get t x ≡ Some m → slice_index_or w x (pos 0) ≡ m) where
  no_variables : (vs : List ℤ) → own_values vs c ≡ [] → holds_on c v ≡ holds_on c w
  no_variables vs e = values_hold c v w (λ x m. absurd (none_of (λ y. slice_index_or vs y (pos 0)) (variables_of c.args) x e m))

  -- what is seen is the same
  pub seen_same : (r : Reading) → reading_of (meaning_of c.pred) ≡ r → seen_as r test s c ≡ seen_as r test t c → holds_on c v ≡ holds_on c w
  seen_same as_sum e h = sum_same v w s t c change (λ x m. alone x (subst (λ r. is_among (variables_by_value r c.args) x ≡ true) (sym e) m)) (first_of (known_sum s c) (known_sum t c) h) e
    where
      first_of : (p q : ℤ) → p ∷ [] ≡ q ∷ [] → p ≡ q
      first_of p q h = cc
  seen_same as_plus e h = plus_same v w s t c change (first_of (known_plus s c) (known_plus t c) h) e
    where
      first_of : (p q : ℤ) → p ∷ [] ≡ q ∷ [] → p ≡ q
      first_of p q h = cc
  seen_same as_clause e h = by (is_satisfied test s c) (is_satisfied test t c) refl refl h
    where
      by : (p q : Bool) → is_satisfied test s c ≡ p → is_satisfied test t c ≡ q → cond p [] (own_values s c) ≡ cond q [] (own_values t c) → holds_on c v ≡ holds_on c w
      by true true f g h = satisfied_holds c test s v kept_first (clause_only (meaning_of c.pred) e) f ∙ sym (satisfied_holds c test t w kept_second (clause_only (meaning_of c.pred) e) g)
      by true false f g h = no_variables t (sym h)
      by false true f g h = no_variables s h
      by false false f g h = values_hold c v w (λ x m. one x (change x m) (same_at (λ y. slice_index_or s y (pos 0)) (λ y. slice_index_or t y (pos 0)) (variables_of c.args) x h m))
        where
          one : (x : ℕ) → Changes v w s t x → slice_index_or s x (pos 0) ≡ slice_index_or t x (pos 0) → slice_index_or v x (pos 0) ≡ slice_index_or w x (pos 0)
          one x (inl k) q = k.0
          one x (inr k) q = k.0 ∙ (q ∙ sym k.1)
  seen_same by_value e h = values_hold c v w (λ x m. alone x (subst (λ r. is_among (variables_by_value r c.args) x ≡ true) (sym e) m))

  -- the one holds whatever comes, and of the other nothing is seen
  pub nothing_seen : (r : Reading) → reading_of (meaning_of c.pred) ≡ r → seen_as r test t c ≡ [] → holds_on c v ≡ true → holds_on c w ≡ true
  nothing_seen as_sum e h ok = absurd (none (known_sum t c) h)
    where
      none : (p : ℤ) → p ∷ [] ≡ [] → ⊥
      none p h = cc
  nothing_seen as_plus e h ok = absurd (none (known_plus t c) h)
    where
      none : (p : ℤ) → p ∷ [] ≡ [] → ⊥
      none p h = cc
  nothing_seen as_clause e h ok = by (is_satisfied test t c) refl h
    where
      by : (q : Bool) → is_satisfied test t c ≡ q → cond q [] (own_values t c) ≡ [] → holds_on c w ≡ true
      by true g h = satisfied_holds c test t w kept_second (clause_only (meaning_of c.pred) e) g
      by false g h = sym (no_variables t h) ∙ ok
  nothing_seen by_value e h ok = sym (values_hold c v w (λ x m. alone x (subst (λ r. is_among (variables_by_value r c.args) x ≡ true) (sym e) m))) ∙ ok

-- the statement
module _ (s : Setting) (valid : IsValid s.game) (p q : Place) (sp : StandsNode s p) (sq : StandsNode s q) (number : p.number ≡ q.number)
    (reads_p : reads_one_position s.game p.number p.box ≡ true) (reads_q : reads_one_position s.game p.number q.box ≡ true) (look : look_same s.game p.number p.box q.box ≡ true)
    (a b : List ℤ) (an : length a ≡ before s.game p.number) (ai : InBox a p.box) (bn : length b ≡ before s.game p.number) (bi : InBox b q.box)
    (k : ℕ) (u : List ℤ) (ik : p.number ≤ k) (long : length (a ++ u) ≡ before s.game (suc k)) (da : InBox (a ++ u) (declared_box s.game)) (db : InBox (b ++ u) (declared_box s.game)) where
  module _ (c : Rule) (place : ℕ) (there : slice_get s.game.constraints place ≡ Some c) (owner : c.owner.0 ≡ k) where
    from : is_from p.number c ≡ true
    from = to_le p.number c.owner.0 (omega arith)

    -- an earlier variable that is read has the value that the box shows
    read_single : (box : Box) → reads_one_position s.game p.number box ≡ true → (x : ℕ) → is_among (variables_of c.args) x ≡ true → x < before s.game p.number → is_single (values_left box x) ≡ true
    read_single box r x m l =
        not_or (is_read s.game p.number x) (is_single (values_left box x)) (below_is (before s.game p.number) (λ y. not (is_read s.game p.number y) || is_single (values_left box y)) r x l)
        (or_first (list_any (λ d. is_from p.number d && is_among (variables_of d.args) x) s.game.constraints) (is_named s.game x)
        (any_of (λ d. is_from p.number d && is_among (variables_of d.args) x) s.game.constraints c (get_among s.game.constraints place c there) (and_from (is_from p.number c) (is_among (variables_of c.args) x) from m)))
      where
        or_first : (y z : Bool) → y ≡ true → (y || z) ≡ true
        or_first true z h = refl
        or_first false z h = cc

    shown : (box : Box) (f : List ℤ) → reads_one_position s.game p.number box ≡ true → length f ≡ before s.game p.number → InBox f box → (x : ℕ) → is_among (variables_of c.args) x ≡ true → x < before s.game p.number →
        slice_index_or f x (pos 0) ≡ slice_index_or (position s.game p.number box) x (pos 0)
    shown box f r n j x m l =
        single_least (values_left box x) (slice_index_or f x (pos 0)) (read_single box r x m l) (left_at f box x (omega arith) j) ∙ sym (early_value (before s.game p.number) x box l)

    on : (f : List ℤ) → length f ≡ before s.game p.number → (x : ℕ) → x < before s.game p.number → slice_index_or (f ++ u) x (pos 0) ≡ slice_index_or f x (pos 0)
    on f n x l = front_value f u x (omega arith)

    short : (box : Box) → length (position s.game p.number box) ≤ before s.game p.number
    short box = omega (arith, length-map (take (before s.game p.number) box) least_value, length-take (before s.game p.number) box)

    change : (x : ℕ) → is_among (variables_of c.args) x ≡ true → Changes (a ++ u) (b ++ u) (position s.game p.number p.box) (position s.game p.number q.box) x
    change x m = elim (cases_lt x (before s.game p.number)) [
      | inl l ↦ inr (on a an x l ∙ shown p.box a reads_p an ai x m l, on b bn x l ∙ shown q.box b reads_q bn bi x m l)
      | inr l ↦ inl (past_both a b u x (an ∙ sym bn) (omega arith), past_end (position s.game p.number p.box) x (let h = short p.box in omega arith) ∙ sym (past_end (position s.game p.number q.box) x (let h = short q.box in omega arith)))
    ]

    kept : (box : Box) (f : List ℤ) → reads_one_position s.game p.number box ≡ true → length f ≡ before s.game p.number → InBox f box → (x : ℕ) → is_among (variables_of c.args) x ≡ true → (m : ℤ) → slice_get (position s.game p.number box) x ≡ Some m → slice_index_or (f ++ u) x (pos 0) ≡ m
    kept box f r n j x o m e =
        let g = got_value (position s.game p.number box) x m e in
        let h = short box in
        let l : x < before s.game p.number = (let i = g.0 in omega arith) in
        on f n x l ∙ (shown box f r n j x o l ∙ g.1)

    alone_in : (r : Reading) (x : ℕ) → is_among (variables_by_value r c.args) x ≡ true → is_among (variables_of c.args) x ≡ true
    alone_in as_sum x m = dropped c.args m
      where
        dropped : (args : List Argument) → is_among (variables_of (drop 2 args)) x ≡ true → is_among (variables_of args) x ≡ true
        dropped [] m = m
        dropped (e ∷ []) m = cc
        dropped (e ∷ f ∷ args) m = among_second (argument_variables e) (variables_of (f ∷ args)) x (among_second (argument_variables f) (variables_of args) x m)
    alone_in as_plus x m = cc
    alone_in as_clause x m = cc
    alone_in by_value x m = m

    alone : (x : ℕ) → is_among (variables_by_value (reading_of (meaning_of c.pred)) c.args) x ≡ true → slice_index_or (a ++ u) x (pos 0) ≡ slice_index_or (b ++ u) x (pos 0)
    alone x m = elim (cases_lt x (before s.game p.number)) [
      | inl l ↦ on a an x l ∙ (early x m l ∙ sym (on b bn x l))
      | inr l ↦ past_both a b u x (an ∙ sym bn) (omega arith)
    ]
      where
        early : (x : ℕ) → is_among (variables_by_value (reading_of (meaning_of c.pred)) c.args) x ≡ true → x < before s.game p.number → slice_index_or a x (pos 0) ≡ slice_index_or b x (pos 0)
        early x m l =
            let w = (and_parts (each_below (before s.game p.number) (λ y. not (is_seen s.game p.number y) || same_values (values_left p.box y) (values_left q.box y))) _ look).0 in
            let seen = or_first (list_any (constrains p.number x) s.game.constraints) (is_named s.game x) (any_of (constrains p.number x) s.game.constraints c (get_among s.game.constraints place c there) (and_from (nat_le p.number c.owner.0) (is_among (variables_by_value (reading_of (meaning_of c.pred)) c.args) x) from m)) in
            let same = same_true (values_left p.box x) (values_left q.box x) (not_or (is_seen s.game p.number x) (same_values (values_left p.box x) (values_left q.box x))
            (below_is (before s.game p.number) (λ y. not (is_seen s.game p.number y) || same_values (values_left p.box y) (values_left q.box y)) w x l) seen) in
            single_value (values_left p.box x) (slice_index_or a x (pos 0)) (slice_index_or b x (pos 0)) (read_single p.box reads_p x (alone_in (reading_of (meaning_of c.pred)) x m) l) (left_at a p.box x (omega arith) ai)
            (subst (Among (slice_index_or b x (pos 0))) (sym same) (left_at b q.box x (omega arith) bi))
          where
            or_first : (y z : Bool) → y ≡ true → (y || z) ≡ true
            or_first true z h = refl
            or_first false z h = cc

    entails : (box : Box) (f : List ℤ) → length f ≡ before s.game p.number → InBox f box → length (f ++ u) ≡ before s.game (suc k) → InBox (f ++ u) (declared_box s.game) → entailed_by c (declared_from s.game p.number box) ≡ true → holds_on c (f ++ u) ≡ true
    entails box f n j m d e =
        entailed_holds s.game valid place c (f ++ u) (declared_from s.game p.number box) there
        (subst (λ z. ArgumentsBelow z c.args) (ap (λ z. before s.game (suc z)) owner ∙ sym m) ((sound_of s.game valid).ordered.visible place c there)) d
        (in_fronts (before s.game p.number) f u box (drop (before s.game p.number) (declared_box s.game)) n j (subst (λ z. InBox u (drop z (declared_box s.game))) n (in_rest f u (declared_box s.game) d))) e

    other_long : length (b ++ u) ≡ before s.game (suc k)
    other_long = omega (arith, length-append a u, length-append b u, an, bn, long)

    swap : (x : ℕ) → Changes (a ++ u) (b ++ u) (position s.game p.number p.box) (position s.game p.number q.box) x → Changes (b ++ u) (a ++ u) (position s.game p.number q.box) (position s.game p.number p.box) x
    swap x (inl h) = inl (sym h.0, sym h.1)
    swap x (inr h) = inr (h.1, h.0)

    same_holds : holds_on c (a ++ u) ≡ holds_on c (b ++ u)
    same_holds = by (entailed_by c (declared_from s.game p.number p.box)) (entailed_by c (declared_from s.game p.number q.box)) refl refl
        (same_true (views s.game p.number p.box c) (views s.game p.number q.box c)
        (not_or (is_from p.number c) (same_values (views s.game p.number p.box c) (views s.game p.number q.box c))
        (all_to (λ d. not (is_from p.number d) || same_values (views s.game p.number p.box d) (views s.game p.number q.box d)) s.game.constraints
        (and_parts _ (list_all (λ d. not (is_from p.number d) || same_values (views s.game p.number p.box d) (views s.game p.number q.box d)) s.game.constraints) look).1 c (get_among s.game.constraints place c there)) from))
      where
        by : (e f : Bool) → entailed_by c (declared_from s.game p.number p.box) ≡ e → entailed_by c (declared_from s.game p.number q.box) ≡ f →
            cond e [] (sees s.game p.number (position s.game p.number p.box) c) ≡ cond f [] (sees s.game p.number (position s.game p.number q.box) c) → holds_on c (a ++ u) ≡ holds_on c (b ++ u)
        by true true e f h = entails p.box a an ai long da e ∙ sym (entails q.box b bn bi other_long db f)
        by true false e f h =
            let ok = entails p.box a an ai long da e in
            ok ∙ sym (nothing_seen c (λ x. not (is_looked_at s.game p.number x)) (a ++ u) (b ++ u) (position s.game p.number p.box) (position s.game p.number q.box) change alone (kept p.box a reads_p an ai) (kept q.box b reads_q bn bi)
            (reading_of (meaning_of c.pred)) refl (sym h) ok)
        by false true e f h =
            let ok = entails q.box b bn bi other_long db f in
            nothing_seen c (λ x. not (is_looked_at s.game p.number x)) (b ++ u) (a ++ u) (position s.game p.number q.box) (position s.game p.number p.box) (λ x m. swap x (change x m)) (λ x m. sym (alone x m)) (kept q.box b reads_q bn bi) (kept p.box a reads_p an ai)
            (reading_of (meaning_of c.pred)) refl h ok ∙ sym ok
        by false false e f h =
            seen_same c (λ x. not (is_looked_at s.game p.number x)) (a ++ u) (b ++ u) (position s.game p.number p.box) (position s.game p.number q.box) change alone (kept p.box a reads_p an ai) (kept q.box b reads_q bn bi)
            (reading_of (meaning_of c.pred)) refl h

  pub allows_same : allows s.game k (a ++ u) ≡ allows s.game k (b ++ u)
  allows_same = all_same (λ c. holds_on c (a ++ u)) (λ c. holds_on c (b ++ u)) (restriction s.game k) (λ c m.
      (let o = of_filter (λ (d : Rule). d.owner.0 == k) c s.game.constraints m in
      let n = place_of s.game.constraints c o.0 in
      same_holds c n.0 n.1 (same_number c.owner.0 k o.1)))

pub alike_allow : (s : Setting) → IsValid s.game → AlikeAllow s
alike_allow s valid p q sp sq h a b at bt k u ik long da db =
    let r = seven (p.number == q.number) (same_horizon p.horizon q.horizon) (tells_of_all q) (misses_nothing s.game p q) (reads_one_position s.game p.number p.box) (reads_one_position s.game p.number q.box) (look_same s.game p.number p.box q.box) h in
    let n = same_number p.number q.number r.number in
    allows_same s valid p q sp sq n r.reads r.others r.look a b at.count at.lies (bt.count ∙ ap (before s.game) (sym n)) bt.lies k u ik long da db
