-- A formula is true exactly where its game is won.
use Rattle.std.proofs.Common.{◌≡◌, refl, sym, ap, ◌∙◌, subst, ℕ, suc, ◌+◌, ◌≤◌, ◌<◌, Bool, true, false, cond, List, [], ◌∷◌, ◌++◌, map, filter, take, drop, length, ℤ, arith, append_assoc, append-nil, length-append, IsTrue}
use Rattle.std.specs.Prelude.{◌==◌, ◌↔◌, nat_lt}
use Rattle.std.specs.List.{list_all, sum_by}
use Rattle.std.proofs.lemmas.List.{take_at, drop_at, drop-take, map-append, length-map}
use Rattle.std.proofs.lemmas.List.Sums.{sum_by-append, sum_by-cons}
use Rattle.std.proofs.lemmas.Bool.{eq-eqb, ne_eqb, lt-ltb, le-ltb}
use Rattle.qc_model.specs.declared.problem.Kind.{Kind}
use Rattle.qc_model.specs.declared.problem.Kind.TheVariants.{Exists, Forall}
use Rattle.qc_model.specs.declared.problem.Variable.{Variable}
use Rattle.qc_model.specs.Content.{Game, Rule}
use Rattle.qc_model.specs.Lists.{LiesIn, Distinct}
use Rattle.qc_model.specs.Domains.{domain_values, declared_box}
use Rattle.qc_model.specs.Holds.{holds_on}
use Rattle.qc_model.specs.Game.{before, scope_domains, allows, IsMove, AfterMove, Wins, IsWon}
use Rattle.qdimacs.specs.Formula.{Literal, Block, Formula, prefix, is_true_after, is_true}
use Rattle.qdimacs.specs.Content.{order, place, scope_of, variable_of, variables_of, rule_of, game_of}
use Rattle.qdimacs.proofs.Values.{bits, AreBits, valued, clauses_are}
use Rattle.qdimacs.proofs.Turns.{domains, AfterTuple, block_true, block_is, to_tuple, from_tuple}

-- BLOCKS
order-append : (bs cs : List Block) → order (bs ++ cs) ≡ order bs ++ order cs
order-append [] cs = refl
order-append (b ∷ bs) cs = ap (λ xs. b.variables ++ xs) (order-append bs cs) ∙ sym (append_assoc b.variables (order bs) (order cs))

-- each variable has the domain of a truth value
boxes : (i : ℕ) (xs : List ℕ) → map (λ (x : Variable). domain_values x.domain) (map (variable_of i) xs) ≡ domains xs
boxes i [] = refl
boxes i (x ∷ xs) = ap (λ ds. bits ∷ ds) (boxes i xs)

domains-append : (xs ys : List ℕ) → domains (xs ++ ys) ≡ domains xs ++ domains ys
domains-append xs ys = map-append (λ x. bits) xs ys

box_is : (i : ℕ) (bs : List Block) → map (λ (x : Variable). domain_values x.domain) (variables_of i bs) ≡ domains (order bs)
box_is i [] = refl
box_is i (b ∷ bs) =
    map-append (λ (x : Variable). domain_values x.domain) (map (variable_of i) b.variables) (variables_of (suc i) bs)
    ∙ ap (λ ds. ds ++ map (λ (x : Variable). domain_values x.domain) (variables_of (suc i) bs)) (boxes i b.variables)
    ∙ ap (λ ds. domains b.variables ++ ds) (box_is (suc i) bs)
    ∙ sym (domains-append b.variables (order bs))

-- COUNTS
abbrev below : ℕ → List Variable → ℕ
below j xs = sum_by (λ (x : Variable). cond (nat_lt x.scope.0 j) 1 0) xs

none_of : (j i : ℕ) (xs : List ℕ) → j ≤ i → below j (map (variable_of i) xs) ≡ 0
none_of j i [] h = refl
none_of j i (x ∷ xs) h = sum_by-cons _ (variable_of i x) (map (variable_of i) xs) ∙ ap (λ b. cond b 1 0 + below j (map (variable_of i) xs)) (le-ltb i j h) ∙ ap (λ n. 0 + n) (none_of j i xs h) ∙ refl

all_of : (j i : ℕ) (xs : List ℕ) → i < j → below j (map (variable_of i) xs) ≡ length xs
all_of j i [] h = refl
all_of j i (x ∷ xs) h = sum_by-cons _ (variable_of i x) (map (variable_of i) xs) ∙ ap (λ b. cond b 1 0 + below j (map (variable_of i) xs)) (lt-ltb i j h) ∙ ap (λ n. 1 + n) (all_of j i xs h) ∙ (omega arith)

none_below : (j i : ℕ) (bs : List Block) → j ≤ i → below j (variables_of i bs) ≡ 0
none_below j i [] h = refl
none_below j i (b ∷ bs) h =
    let here = none_of j i b.variables h in
    let rest = none_below j (suc i) bs (omega (arith, h)) in
    sum_by-append _ (map (variable_of i) b.variables) (variables_of (suc i) bs) ∙ omega (arith, here, rest)

below_is : (j i : ℕ) (es bs : List Block) → j ≡ i + length es → below j (variables_of i (es ++ bs)) ≡ length (order es)
below_is j i [] bs e = none_below j i bs (omega (arith, e))
below_is j i (b ∷ es) bs e =
    let here = all_of j i b.variables (omega (arith, e)) in
    let rest = below_is j (suc i) es bs (omega (arith, e)) in
    let both = length-append b.variables (order es) in
    sum_by-append _ (map (variable_of i) b.variables) (variables_of (suc i) (es ++ bs)) ∙ omega (arith, here, rest, both)

-- RESTRICTIONS
none_restricts : (n i : ℕ) (at : ℕ → ℕ) (cs : List (List Literal)) → ¬ (n ≡ i) → filter (λ (c : Rule). c.owner.0 == i) (map (rule_of n at) cs) ≡ []
none_restricts n i at [] h = refl
none_restricts n i at (c ∷ cs) h = ap (λ b. cond b (rule_of n at c ∷ rest) rest) (ne_eqb n i h) ∙ none_restricts n i at cs h
  where
    rest : List Rule
    rest = filter (λ (c : Rule). c.owner.0 == i) (map (rule_of n at) cs)

all_restrict : (n : ℕ) (at : ℕ → ℕ) (cs : List (List Literal)) → filter (λ (c : Rule). c.owner.0 == n) (map (rule_of n at) cs) ≡ map (rule_of n at) cs
all_restrict n at [] = refl
all_restrict n at (c ∷ cs) = ap (λ b. cond b (rule_of n at c ∷ filter (λ (c : Rule). c.owner.0 == n) (map (rule_of n at) cs)) (filter (λ (c : Rule). c.owner.0 == n) (map (rule_of n at) cs))) (eq-eqb n n refl) ∙ ap (λ rs. rule_of n at c ∷ rs) (all_restrict n at cs)

are_bits : (xs : List ℕ) (t a : List ℤ) → AreBits a → LiesIn t (domains xs) → AreBits (a ++ t)
are_bits [] [] [] b l = tt
are_bits [] (v ∷ t) [] b l = absurd l
are_bits (x ∷ xs) [] [] b l = absurd l
are_bits (x ∷ xs) (v ∷ t) [] b l = (l.0, are_bits xs t [] tt l.1)
are_bits xs t (w ∷ a) b l = (b.0, are_bits xs t a b.1 l)

length_of : (xs : List ℕ) (t : List ℤ) → LiesIn t (domains xs) → length t ≡ length xs
length_of [] [] l = refl
length_of [] (v ∷ t) l = absurd l
length_of (x ∷ xs) [] l = absurd l
length_of (x ∷ xs) (v ∷ t) l = ap suc (length_of xs t l.1)

-- the middle of three lists
cut : {X : Type 0} (n m : ℕ) (p q r box : List X) → n ≡ length p → m ≡ n + length q → box ≡ p ++ (q ++ r) → drop n (take m box) ≡ q
cut n m p q r box e f h =
    ap (λ k. drop n (take k box)) f ∙ drop-take n (length q) box ∙ ap (λ xs. take (length q) (drop n xs)) h
    ∙ ap (λ xs. take (length q) xs) (drop_at p (q ++ r) n (sym e)) ∙ take_at q r (length q) refl

-- MOVES
module _ (g : Game) (i : ℕ) (a : List ℤ) (W : List ℤ → Type 0) (ds : List (List ℤ)) (T : List ℤ → Type 0) where
  -- where moves are tuples, and what follows them is T
  to_after : (k : Kind) → ((t : List ℤ) → IsMove g i a t → LiesIn t ds) → ((t : List ℤ) → LiesIn t ds → IsMove g i a t) →
      ((t : List ℤ) → LiesIn t ds → W (a ++ t) → T t) → AfterMove k g i a W → AfterTuple k ds T
  to_after Exists to from f h = (h.0, to h.0 h.1, f h.0 (to h.0 h.1) h.2)
  to_after Forall to from f h = λ t l. f t l (h t (from t l))

  from_after : (k : Kind) → ((t : List ℤ) → IsMove g i a t → LiesIn t ds) → ((t : List ℤ) → LiesIn t ds → IsMove g i a t) →
      ((t : List ℤ) → LiesIn t ds → T t → W (a ++ t)) → AfterTuple k ds T → AfterMove k g i a W
  from_after Exists to from f h = (h.0, from h.0 h.1, f h.0 h.1 h.2)
  from_after Forall to from f h = λ t m. f t (to t m) (h t (to t m))

module _ (φ : Formula) (differ : Distinct (order φ.blocks)) where
  abbrev g : Game
  g = game_of φ

  abbrev xs : List ℕ
  xs = order φ.blocks

  abbrev cs : List (List Literal)
  cs = φ.clauses

  -- a is a position after the blocks es, before scope i, where the blocks bs are left
  record Stands (es bs : List Block) (i : ℕ) (a : List ℤ) : Type 0 where
    split : φ.blocks ≡ es ++ bs
    at : i ≡ length es
    many : length a ≡ length (order es)
    truths : AreBits a

  before_is : (es bs : List Block) (i : ℕ) → φ.blocks ≡ es ++ bs → i ≡ length es → before g i ≡ length (order es)
  before_is es bs i e at = subst (λ ds. below i (variables_of 0 ds) ≡ length (order es)) (sym e) (below_is i 0 es bs (omega (arith, at)))

  one_block_more : (es bs : List Block) (b : Block) → φ.blocks ≡ es ++ b ∷ bs → φ.blocks ≡ (es ++ b ∷ []) ++ bs
  one_block_more es bs b e = e ∙ sym (append_assoc es (b ∷ []) bs)

  one_number_more : (es : List Block) (b : Block) (i : ℕ) → i ≡ length es → suc i ≡ length (es ++ b ∷ [])
  one_number_more es b i e = omega (arith, length-append es (b ∷ []))

  order_more : (es : List Block) (b : Block) → length (order (es ++ b ∷ [])) ≡ length (order es) + length b.variables
  order_more es b = ap length (order-append es (b ∷ []) ∙ ap (λ ys. order es ++ ys) (append-nil b.variables)) ∙ length-append (order es) b.variables

  domains_are : (es bs : List Block) (b : Block) (i : ℕ) → φ.blocks ≡ es ++ b ∷ bs → i ≡ length es → scope_domains g i ≡ domains b.variables
  domains_are es bs b i e at =
      cut (before g i) (before g (suc i)) (domains (order es)) (domains b.variables) (domains (order bs)) (declared_box g)
      (before_is es (b ∷ bs) i e at ∙ sym (length-map (order es) (λ (x : ℕ). bits)))
      (before_is (es ++ b ∷ []) bs (suc i) (one_block_more es bs b e) (one_number_more es b i at) ∙ order_more es b
      ∙ ap (λ n. n + length b.variables) (sym (before_is es (b ∷ bs) i e at)) ∙ ap (λ n. before g i + n) (sym (length-map b.variables (λ (x : ℕ). bits))))
      (box_is 0 φ.blocks ∙ ap (λ ds. domains (order ds)) e ∙ ap domains (order-append es (b ∷ bs)) ∙ domains-append (order es) (b.variables ++ order bs)
      ∙ ap (λ ds. domains (order es) ++ ds) (domains-append b.variables (order bs)))

  allowed : (es bs : List Block) (b : Block) (i : ℕ) (v : List ℤ) → φ.blocks ≡ es ++ b ∷ bs → i ≡ length es → allows g i v ≡ true
  allowed es bs b i v e at =
      ap (λ rs. list_all (λ (c : Rule). holds_on c v) rs) (none_restricts (length φ.blocks) i (λ y. place y xs) cs (λ q. absurd (omega (arith, ap length e, length-append es (b ∷ bs)))))

  to_tuples : (es bs : List Block) (b : Block) (i : ℕ) (a : List ℤ) → φ.blocks ≡ es ++ b ∷ bs → i ≡ length es → (t : List ℤ) → IsMove g i a t → LiesIn t (domains b.variables)
  to_tuples es bs b i a e at t m = subst (λ ds. LiesIn t ds) (domains_are es bs b i e at) m.is_tuple

  to_moves : (es bs : List Block) (b : Block) (i : ℕ) (a : List ℤ) → φ.blocks ≡ es ++ b ∷ bs → i ≡ length es → (t : List ℤ) → LiesIn t (domains b.variables) → IsMove g i a t
  to_moves es bs b i a e at t l = record {
    is_tuple = subst (λ ds. LiesIn t ds) (sym (domains_are es bs b i e at)) l;
    is_allowed = allowed es bs b i (a ++ t) e at;
  }

  next : (es bs : List Block) (b : Block) (i : ℕ) (a t : List ℤ) → Stands es (b ∷ bs) i a → LiesIn t (domains b.variables) → Stands (es ++ b ∷ []) bs (suc i) (a ++ t)
  next es bs b i a t s l = record {
    split = one_block_more es bs b s.split;
    at = one_number_more es b i s.at;
    many = omega (arith, length-append a t, length_of b.variables t l, order_more es b, s.many);
    truths = are_bits b.variables t a s.truths l;
  }

  -- the formula's truth after the values a of the variables before these blocks
  abbrev rest_true : List Block → List ℤ → Bool
  rest_true bs a = is_true_after (prefix bs) cs (valued xs a)

  block_step : (es bs : List Block) (b : Block) (i : ℕ) (a : List ℤ) → Stands es (b ∷ bs) i a → rest_true (b ∷ bs) a ≡ block_true b.kind b.variables (rest_true bs) a
  block_step es bs b i a s =
      block_is cs (prefix bs) xs differ b.kind (order es) b.variables (order bs) a (ap order s.split ∙ order-append es (b ∷ bs)) s.many

  goal_step : (es : List Block) (i : ℕ) (a : List ℤ) → Stands es [] i a → allows g i a ≡ rest_true [] a
  goal_step es i a s =
      subst (λ n. allows g n a ≡ rest_true [] a) (sym (s.at ∙ sym (ap length (s.split ∙ append-nil es))))
      (ap (λ rs. list_all (λ (c : Rule). holds_on c a) rs) (all_restrict (length φ.blocks) (λ y. place y xs) cs) ∙ clauses_are xs a s.truths (length φ.blocks) cs)

  to_truth : (bs es : List Block) (i : ℕ) (a : List ℤ) → Stands es bs i a → Wins g (map scope_of bs) i a → rest_true bs a ≡ true
  to_truth [] es i a s w = sym (goal_step es i a s) ∙ w
  to_truth (b ∷ bs) es i a s w =
      block_step es bs b i a s
      ∙ from_tuple (rest_true bs) b.kind b.variables a
      (to_after g i a (Wins g (map scope_of bs) (suc i)) (domains b.variables) (λ t. rest_true bs (a ++ t) ≡ true) b.kind
      (to_tuples es bs b i a s.split s.at) (to_moves es bs b i a s.split s.at)
      (λ t l. to_truth bs (es ++ b ∷ []) (suc i) (a ++ t) (next es bs b i a t s l)) w)

  from_truth : (bs es : List Block) (i : ℕ) (a : List ℤ) → Stands es bs i a → rest_true bs a ≡ true → Wins g (map scope_of bs) i a
  from_truth [] es i a s h = goal_step es i a s ∙ h
  from_truth (b ∷ bs) es i a s h =
      from_after g i a (Wins g (map scope_of bs) (suc i)) (domains b.variables) (λ t. rest_true bs (a ++ t) ≡ true) b.kind
      (to_tuples es bs b i a s.split s.at) (to_moves es bs b i a s.split s.at)
      (λ t l. from_truth bs (es ++ b ∷ []) (suc i) (a ++ t) (next es bs b i a t s l))
      (to_tuple (rest_true bs) b.kind b.variables a (sym (block_step es bs b i a s) ∙ h))

  none_valued : (ys : List ℕ) → valued ys [] ≡ (λ y. false)
  none_valued [] = refl
  none_valued (y ∷ ys) = refl

  start : Stands [] φ.blocks 0 []
  start = record { split = refl; at = refl; many = refl; truths = tt }

  pub won_where_true : IsWon g ↔ IsTrue (is_true φ)
  won_where_true = (
    (λ w. ap (λ f. is_true_after (prefix φ.blocks) cs f) (sym (none_valued xs)) ∙ to_truth φ.blocks [] 0 [] start w),
    (λ h. from_truth φ.blocks [] 0 [] start (ap (λ f. is_true_after (prefix φ.blocks) cs f) (none_valued xs) ∙ h)),
  )
