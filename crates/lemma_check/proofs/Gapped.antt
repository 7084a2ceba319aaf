-- A box without the gaps between literals in order is the box cut to them.
use Rattle.std.proofs.Common.{◌≡◌, ◌≢◌, refl, sym, ap, ◌∙◌, subst, ℕ, ◌<◌, ◌≤◌, List, [], ◌∷◌, length, set, Bool, true, false, not, ◌&&◌, ◌||◌, cond, Option, Some, None, ℤ, arith, rules}
use Rattle.std.specs.Prelude.{◌==◌, nat_lt, int_le, int_lt, filter}
use Rattle.std.specs.List.{list_any}
use Rattle.std.proofs.lemmas.Int.{ints}
use Rattle.std.proofs.lemmas.Bool.Decides.{nat_tests}
use Rattle.std.proofs.lemmas.List.{ext_get_or, get_or-set_same, get_or-set_other, get_or_past, length-set}
use Rattle.qc_model.specs.Domains.{Box, Values, values_left, is_within}
use Rattle.qc_model.proofs.Conjunctions.{first, second}
use Rattle.lemma_list.specs.declared.lemma.Literal.{Literal}
use Rattle.lemma_list.specs.Literals.{meets, cut_to, box_to, comes_after, are_in_order}
use Rattle.box_laws.proofs.Filters.{filter_same, filter_two}
use Rattle.lemma_check.specs.Gaps.{narrowed, kept_up_to, kept_from, without_gap, cut_before, without_gaps}

-- what is left to x of a narrowed box
abbrev on_same : ℕ → ℕ → (ℤ → Bool) → ℤ → Bool
on_same y x p v = not (y == x) || p v

filter_whole : (vs : Values) → filter (λ v. true) vs ≡ vs
filter_whole [] = refl
filter_whole (v ∷ vs) = ap (λ us. v ∷ us) (filter_whole vs)

narrowed_at : (box : Box) (y x : ℕ) (p : ℤ → Bool) → values_left (narrowed box y p) x ≡ filter (on_same y x p) (values_left box x)
narrowed_at box y x p = by (y == x) refl
  where
    apart : (y == x) ≡ false → x ≢ y
    apart e = grind (arith, nat_tests)

    same : (y == x) ≡ true → y ≡ x
    same e = grind (arith, nat_tests)

    inside : (b : Bool) → nat_lt x (length box) ≡ b → values_left (set box x (filter p (values_left box x))) x ≡ filter p (values_left box x)
    inside true e = get_or-set_same box x (filter p (values_left box x)) [] (grind (arith, nat_tests))
    inside false e =
        let past : length box ≤ x = grind (arith, nat_tests) in
        get_or_past (set box x (filter p (values_left box x))) x [] (search rules) ∙ ap (filter p) (sym (get_or_past box x [] past))

    by : (b : Bool) → (y == x) ≡ b → values_left (narrowed box y p) x ≡ filter (λ v. not b || p v) (values_left box x)
    by true e = subst (λ z. values_left (narrowed box z p) x ≡ filter p (values_left box x)) (sym (same e)) (inside (nat_lt x (length box)) refl)
    by false e = get_or-set_other box y x (filter p (values_left box y)) [] (apart e) ∙ sym (filter_whole (values_left box x))

-- filters one after the other
filters : (p q r : ℤ → Bool) (vs us : Values) → us ≡ filter p vs → ((v : ℤ) → (p v && q v) ≡ r v) → filter q us ≡ filter r vs
filters p q r vs us h f = ap (filter q) h ∙ filter_two p q vs ∙ filter_same (λ v. p v && q v) r f vs

-- what cutting to literals keeps
abbrev met : List Literal → List Literal → ℕ → ℤ → Bool
met ls [] x v = true
met ls (l ∷ rest) x v = on_same l.x.0 x (meets ls l.x.0) v && met ls rest x v

cut_at : (ls rest : List Literal) (box : Box) (x : ℕ) → values_left (cut_to ls rest box) x ≡ filter (met ls rest x) (values_left box x)
cut_at ls [] box x = sym (filter_whole (values_left box x))
cut_at ls (l ∷ rest) box x =
    cut_at ls rest (narrowed box l.x.0 (meets ls l.x.0)) x
    ∙ filters (on_same l.x.0 x (meets ls l.x.0)) (met ls rest x) (met ls (l ∷ rest) x) (values_left box x) _ (narrowed_at box l.x.0 x (meets ls l.x.0)) (λ v. refl)

-- what stays without the gaps
abbrev stays_before : Option Literal → Literal → ℕ → ℤ → Bool
stays_before None l x v = on_same l.x.0 x (int_le l.lo) v
stays_before (Some p) l x v =
    cond (p.x.0 == l.x.0) (on_same l.x.0 x (λ w. int_le w p.hi || int_le l.lo w) v) (on_same p.x.0 x (λ w. int_le w p.hi) v && on_same l.x.0 x (int_le l.lo) v)

abbrev stays : Option Literal → List Literal → ℕ → ℤ → Bool
stays None [] x v = true
stays (Some p) [] x v = on_same p.x.0 x (λ w. int_le w p.hi) v
stays before (l ∷ ls) x v = stays_before before l x v && stays (Some l) ls x v

before_at : (before : Option Literal) (l : Literal) (box : Box) (x : ℕ) → values_left (cut_before before l box) x ≡ filter (stays_before before l x) (values_left box x)
before_at None l box x = narrowed_at box l.x.0 x (int_le l.lo)
before_at (Some p) l box x = by (p.x.0 == l.x.0)
  where
    by : (b : Bool) →
        values_left (cond b (without_gap box l.x.0 p.hi l.lo) (kept_from (kept_up_to box p.x.0 p.hi) l.x.0 l.lo)) x
        ≡ filter (λ v. cond b (on_same l.x.0 x (λ w. int_le w p.hi || int_le l.lo w) v) (on_same p.x.0 x (λ w. int_le w p.hi) v && on_same l.x.0 x (int_le l.lo) v)) (values_left box x)
    by true = narrowed_at box l.x.0 x (λ w. int_le w p.hi || int_le l.lo w)
    by false =
        narrowed_at (kept_up_to box p.x.0 p.hi) l.x.0 x (int_le l.lo)
        ∙ filters (on_same p.x.0 x (λ w. int_le w p.hi)) (on_same l.x.0 x (int_le l.lo)) _ (values_left box x) _ (narrowed_at box p.x.0 x (λ w. int_le w p.hi)) (λ v. refl)

gaps_at : (before : Option Literal) (ls : List Literal) (box : Box) (x : ℕ) → values_left (without_gaps before ls box) x ≡ filter (stays before ls x) (values_left box x)
gaps_at None [] box x = sym (filter_whole (values_left box x))
gaps_at (Some p) [] box x = narrowed_at box p.x.0 x (λ w. int_le w p.hi)
gaps_at before (l ∷ ls) box x =
    gaps_at (Some l) ls (cut_before before l box) x
    ∙ filters (stays_before before l x) (stays (Some l) ls x) (stays before (l ∷ ls) x) (values_left box x) _ (before_at before l box x) (λ v. refl)

-- boxes stay as long
cut_length : (ls rest : List Literal) (box : Box) → length (cut_to ls rest box) ≡ length box
cut_length ls [] box = refl
cut_length ls (l ∷ rest) box = cut_length ls rest (narrowed box l.x.0 (meets ls l.x.0)) ∙ length-set box l.x.0 _

before_length : (before : Option Literal) (l : Literal) (box : Box) → length (cut_before before l box) ≡ length box
before_length None l box = length-set box l.x.0 _
before_length (Some p) l box = by (p.x.0 == l.x.0)
  where
    by : (b : Bool) → length (cond b (without_gap box l.x.0 p.hi l.lo) (kept_from (kept_up_to box p.x.0 p.hi) l.x.0 l.lo)) ≡ length box
    by true = length-set box l.x.0 _
    by false = length-set (kept_up_to box p.x.0 p.hi) l.x.0 _ ∙ length-set box p.x.0 _

pub gaps_length : (before : Option Literal) (ls : List Literal) (box : Box) → length (without_gaps before ls box) ≡ length box
gaps_length None [] box = refl
gaps_length (Some p) [] box = length-set box p.x.0 _
gaps_length before (l ∷ ls) box = gaps_length (Some l) ls (cut_before before l box) ∙ before_length before l box

-- literals in order
abbrev has_on : List Literal → ℕ → Bool
has_on ls x = list_any (λ l. l.x.0 == x) ls

order_rest : (p : Literal) (ls : List Literal) → are_in_order (p ∷ ls) ≡ true → are_in_order ls ≡ true
order_rest p [] h = refl
order_rest p (l ∷ ls) h = second (int_le p.lo p.hi && comes_after p l) (are_in_order (l ∷ ls)) h

first_range : (p : Literal) (ls : List Literal) → are_in_order (p ∷ ls) ≡ true → int_le p.lo p.hi ≡ true
first_range p [] h = h
first_range p (l ∷ ls) h = first (int_le p.lo p.hi) (comes_after p l) (first (int_le p.lo p.hi && comes_after p l) (are_in_order (l ∷ ls)) h)

first_after : (p l : Literal) (ls : List Literal) → are_in_order (p ∷ l ∷ ls) ≡ true → comes_after p l ≡ true
first_after p l ls h = second (int_le p.lo p.hi) (comes_after p l) (first (int_le p.lo p.hi && comes_after p l) (are_in_order (l ∷ ls)) h)

equal_numbers : (m n : ℕ) → (m == n) ≡ true → m ≡ n
equal_numbers m n e = grind (arith, nat_tests)

-- no literal after one on a later variable is on x, so x meets none
none_on : (p : Literal) (ls : List Literal) (x : ℕ) → are_in_order (p ∷ ls) ≡ true → x < p.x.0 → has_on ls x ≡ false
none_on p [] x h e = refl
none_on p (l ∷ ls) x h e =
    let later : x < l.x.0 = higher (first_after p l ls h) in
    none (l.x.0 == x) (has_on ls x) (differs later) (none_on l ls x (order_rest p (l ∷ ls) h) later)
  where
    higher : comes_after p l ≡ true → x < l.x.0
    higher k = grind (arith, nat_tests)

    differs : x < l.x.0 → (l.x.0 == x) ≡ false
    differs k = grind (arith, nat_tests)

    none : (a b : Bool) → a ≡ false → b ≡ false → (a || b) ≡ false
    none true b f g = f
    none false b f g = g

none_met : (ls : List Literal) (x : ℕ) (v : ℤ) → has_on ls x ≡ false → meets ls x v ≡ false
none_met [] x v h = refl
none_met (l ∷ ls) x v h = by (l.x.0 == x) (has_on ls x) h (none_met ls x v)
  where
    by : (a b : Bool) → (a || b) ≡ false → (b ≡ false → meets ls x v ≡ false) → ((a && is_within l.lo l.hi v) || meets ls x v) ≡ false
    by true b k f = cc
    by false b k f = f k

-- what meets a literal after one on the same variable is greater
met_greater : (p : Literal) (ls : List Literal) (x : ℕ) (v : ℤ) → are_in_order (p ∷ ls) ≡ true → p.x.0 ≡ x → meets ls x v ≡ true → int_lt p.hi v ≡ true
met_greater p [] x v h e m = cc
met_greater p (l ∷ ls) x v h e m =
    by (l.x.0 == x) (is_within l.lo l.hi v) (meets ls x v) refl refl refl m (λ f k. met_greater l ls x v (order_rest p (l ∷ ls) h) f k)
  where
    rest : are_in_order (l ∷ ls) ≡ true
    rest = order_rest p (l ∷ ls) h

    after : comes_after p l ≡ true
    after = first_after p l ls h

    range : int_le l.lo l.hi ≡ true
    range = first_range l ls rest

    here : l.x.0 ≡ x → is_within l.lo l.hi v ≡ true → comes_after p l ≡ true → p.x.0 ≡ x → int_lt p.hi v ≡ true
    here f w k q = grind (arith, ints, nat_tests)

    beyond : l.x.0 ≡ x → int_lt l.hi v ≡ true → int_le l.lo l.hi ≡ true → comes_after p l ≡ true → p.x.0 ≡ x → int_lt p.hi v ≡ true
    beyond f w r k q = grind (arith, ints, nat_tests)

    later : (l.x.0 == x) ≡ false → comes_after p l ≡ true → p.x.0 ≡ x → x < l.x.0
    later f k q = grind (arith, nat_tests)

    by : (a b c : Bool) → (l.x.0 == x) ≡ a → is_within l.lo l.hi v ≡ b → meets ls x v ≡ c → ((a && b) || c) ≡ true → (l.x.0 ≡ x → meets ls x v ≡ true → int_lt l.hi v ≡ true) → int_lt p.hi v ≡ true
    by true true c f g k t next = here (equal_numbers l.x.0 x f) g after e
    by true false c f g k t next = beyond (equal_numbers l.x.0 x f) (next (equal_numbers l.x.0 x f) (k ∙ t)) range after e
    by false b c f g k t next =
        let never : meets ls x v ≡ false = none_met ls x v (none_on l ls x rest (later f after e)) in
        let always : meets ls x v ≡ true = k ∙ t in
        absurd (let q : true ≡ false = sym always ∙ never in cc)

-- what stays, by the literals alone
abbrev wanted : Option Literal → List Literal → ℕ → ℤ → Bool
wanted None ls x v = not (has_on ls x) || meets ls x v
wanted (Some p) ls x v = cond (p.x.0 == x) (int_le v p.hi || meets ls x v) (not (has_on ls x) || meets ls x v)

abbrev AreAfter : Option Literal → List Literal → Type 0
AreAfter None ls = are_in_order ls ≡ true
AreAfter (Some p) ls = are_in_order (p ∷ ls) ≡ true

two_ranges : (A B C m : Bool) → (A ≡ true → C ≡ true) → (m ≡ true → B ≡ true) → ((A || B) && (C || m)) ≡ (A || ((B && C) || m))
two_ranges true B C m f g = ap (λ c. c || m) (f refl)
two_ranges false true C m f g = refl
two_ranges false false C true f g = g refl
two_ranges false false C false f g = refl

one_range : (B C m : Bool) → (m ≡ true → B ≡ true) → (B && (C || m)) ≡ ((B && C) || m)
one_range true C m g = refl
one_range false C true g = g refl
one_range false C false g = refl

up_to_one : (A o m : Bool) → o ≡ false → m ≡ false → ((A && true) && (not o || m)) ≡ (A || m)
up_to_one true true m f g = absurd (let q : true ≡ false = f in cc)
up_to_one true false m f g = refl
up_to_one false o true f g = absurd (let q : true ≡ false = g in cc)
up_to_one false o false f g = refl

glued : (a b c A B C m o : Bool) → (a ≡ true → b ≡ true → c ≡ true) → (a ≡ true → b ≡ false → (c ≡ false) × (o ≡ false) × (m ≡ false)) → (a ≡ false → b ≡ true → c ≡ false) →
    (a ≡ true → b ≡ true → A ≡ true → C ≡ true) → (b ≡ true → m ≡ true → B ≡ true) →
    (cond c (not b || (A || B)) ((not a || A) && (not b || B)) && cond b (C || m) (not o || m)) ≡ cond a (A || ((b && (B && C)) || m)) (not (b || o) || ((b && (B && C)) || m))
glued true true c A B C m o f1 f2 f3 f4 f5 = ap (λ d. cond d (A || B) (A && B) && (C || m)) (f1 refl refl) ∙ two_ranges A B C m (f4 refl refl) (f5 refl)
glued true false c A B C m o f1 f2 f3 f4 f5 =
    let k = f2 refl refl in
    ap (λ d. cond d true (A && true) && (not o || m)) k.0 ∙ up_to_one A o m k.1 k.2
glued false true c A B C m o f1 f2 f3 f4 f5 = ap (λ d. cond d (A || B) B && (C || m)) (f3 refl refl) ∙ one_range B C m (f5 refl)
glued false false true A B C m o f1 f2 f3 f4 f5 = refl
glued false false false A B C m o f1 f2 f3 f4 f5 = refl

glued_first : (b B C m o : Bool) → (b ≡ true → m ≡ true → B ≡ true) → ((not b || B) && cond b (C || m) (not o || m)) ≡ (not (b || o) || ((b && (B && C)) || m))
glued_first true B C m o f = one_range B C m (f refl)
glued_first false B C m o f = refl

stays_wanted : (before : Option Literal) (ls : List Literal) (x : ℕ) (v : ℤ) → AreAfter before ls → stays before ls x v ≡ wanted before ls x v
stays_wanted None [] x v h = refl
stays_wanted (Some p) [] x v h = by (p.x.0 == x) (int_le v p.hi)
  where
    by : (a b : Bool) → (not a || b) ≡ cond a (b || false) true
    by true true = refl
    by true false = refl
    by false b = refl
stays_wanted None (l ∷ ls) x v h =
    ap (λ b. on_same l.x.0 x (int_le l.lo) v && b) (stays_wanted (Some l) ls x v h)
    ∙ glued_first (l.x.0 == x) (int_le l.lo v) (int_le v l.hi) (meets ls x v) (has_on ls x) (λ e m. low (met_greater l ls x v h (equal_numbers l.x.0 x e) m) (first_range l ls h))
  where
    low : int_lt l.hi v ≡ true → int_le l.lo l.hi ≡ true → int_le l.lo v ≡ true
    low f g = grind (arith, ints)
stays_wanted (Some p) (l ∷ ls) x v h =
    ap (λ b. stays_before (Some p) l x v && b) (stays_wanted (Some l) ls x v rest)
    ∙ glued (p.x.0 == x) (l.x.0 == x) (p.x.0 == l.x.0) (int_le v p.hi) (int_le l.lo v) (int_le v l.hi) (meets ls x v) (has_on ls x) same
    (λ a b. let k : x < l.x.0 = later a b after in let o : has_on ls x ≡ false = none_on l ls x rest k in (apart a b, o, none_met ls x v o)) other
    (λ a b k. up (equal_numbers p.x.0 x a) (equal_numbers l.x.0 x b) after range k) (λ b m. low (met_greater l ls x v rest (equal_numbers l.x.0 x b) m) range)
  where
    rest : are_in_order (l ∷ ls) ≡ true
    rest = order_rest p (l ∷ ls) h

    after : comes_after p l ≡ true
    after = first_after p l ls h

    range : int_le l.lo l.hi ≡ true
    range = first_range l ls rest

    low : int_lt l.hi v ≡ true → int_le l.lo l.hi ≡ true → int_le l.lo v ≡ true
    low f g = grind (arith, ints)

    same : (p.x.0 == x) ≡ true → (l.x.0 == x) ≡ true → (p.x.0 == l.x.0) ≡ true
    same a b = grind (arith, nat_tests)

    apart : (p.x.0 == x) ≡ true → (l.x.0 == x) ≡ false → (p.x.0 == l.x.0) ≡ false
    apart a b = grind (arith, nat_tests)

    other : (p.x.0 == x) ≡ false → (l.x.0 == x) ≡ true → (p.x.0 == l.x.0) ≡ false
    other a b = grind (arith, nat_tests)

    later : (p.x.0 == x) ≡ true → (l.x.0 == x) ≡ false → comes_after p l ≡ true → x < l.x.0
    later a b k = grind (arith, nat_tests)

    up : p.x.0 ≡ x → l.x.0 ≡ x → comes_after p l ≡ true → int_le l.lo l.hi ≡ true → int_le v p.hi ≡ true → int_le v l.hi ≡ true
    up a b k r q = grind (arith, ints, nat_tests)

met_wanted : (ls rest : List Literal) (x : ℕ) (v : ℤ) → met ls rest x v ≡ (not (has_on rest x) || meets ls x v)
met_wanted ls [] x v = refl
met_wanted ls (l ∷ rest) x v = ap (λ b. on_same l.x.0 x (meets ls l.x.0) v && b) (met_wanted ls rest x v) ∙ by (l.x.0 == x) refl (has_on rest x)
  where
    both : (o m : Bool) → (m && (not o || m)) ≡ m
    both true true = refl
    both false true = refl
    both o false = refl

    by : (a : Bool) → (l.x.0 == x) ≡ a → (o : Bool) → ((not a || meets ls l.x.0 v) && (not o || meets ls x v)) ≡ (not (a || o) || meets ls x v)
    by true e o = ap (λ y. meets ls y v && (not o || meets ls x v)) (equal_numbers l.x.0 x e) ∙ both o (meets ls x v)
    by false e o = refl

-- the box cut to literals in order
pub gaps_cut : (ls : List Literal) (box : Box) → are_in_order ls ≡ true → without_gaps None ls box ≡ box_to ls box
gaps_cut ls box h =
    ext_get_or [] (without_gaps None ls box) (box_to ls box) (gaps_length None ls box ∙ sym (cut_length ls ls box))
    (λ x _. gaps_at None ls box x ∙ filter_same (stays None ls x) (met ls ls x) (λ v. stays_wanted None ls x v h ∙ sym (met_wanted ls ls x v)) (values_left box x) ∙ sym (cut_at ls ls box x))
