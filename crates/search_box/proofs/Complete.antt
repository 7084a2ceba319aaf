-- Where a box is closed for constraints whose variables have one value left each, they hold on these values.
use Rattle.std.proofs.Common.{◌≡◌, ◌⊎◌, inl, inr, ℕ, zero, suc, ◌<◌, ◌≤◌, Bool, true, false, not, ◌&&◌, ◌||◌, cond, List, [], ◌∷◌, ◌++◌, length, map, take, drop, refl, sym, ap, ◌∙◌, subst, arith, Some}
use Rattle.std.specs.Prelude.{ℤ, filter, flat_map, nat_le, nat_lt, ◌==◌, slice_get}
use Rattle.std.specs.List.{list_all}
use Rattle.std.specs.Option.{option_map}
use Rattle.std.proofs.lemmas.Bool.Decides.{nat_tests}
use Rattle.std.proofs.lemmas.List.{length-take, length-map}
use Rattle.std.proofs.lemmas.Option.{same_Some}
use Rattle.std.proofs.lemmas.Bool.{and_from}
use Rattle.qc_model.specs.declared.problem.Kind.{Kind}
use Rattle.qc_model.specs.declared.problem.Kind.TheVariants.{Exists, Forall}
use Rattle.qc_model.specs.declared.problem.Scope.{Scope}
use Rattle.qc_model.specs.declared.problem.VarId.{VarId}
use Rattle.qc_model.specs.declared.problem.Arg.{Arg}
use Rattle.qc_model.specs.declared.problem.Arg.TheVariants.{Var, Num}
use Rattle.qc_model.specs.declared.problem.Argument.{Argument}
use Rattle.qc_model.specs.declared.problem.Argument.TheVariants.{One, Many, Numbers, Members}
use Rattle.qc_model.specs.Arguments.{filled_one, filled_many, fill, arg_variables, argument_variables, variables_of}
use Rattle.qc_model.specs.Lists.{Among}
use Rattle.qc_model.specs.Block.{of_kind, block_stop, force_stop, is_owned_within}
use Rattle.qc_model.specs.Closed.{refutes_at, keeps_ends}
use Rattle.qc_model.specs.Content.{Game, Rule}
use Rattle.qc_model.specs.Domains.{Values, Box, InBox, values_left, box_values, box_at, least_value, greatest_value, is_single, is_ascending, has_value, has_empty, is_sub_box, declared_box}
use Rattle.qc_model.specs.Game.{before, restriction, allows}
use Rattle.qc_model.specs.Holds.{holds_on}
use Rattle.qc_model.specs.Meaning.{meaning_of}
use Rattle.qc_model.specs.Refuted.{left_to, refuted_as, refuted_by}
use Rattle.qc_model.specs.Valid.{IsValid}
use Rattle.qc_model.specs.Verdict.{is_none_of}
use Rattle.qc_model.specs.Visible.{ArgBelow, ArgsBelow, ArgumentBelow, ArgumentsBelow}
use Rattle.qc_model.proofs.Before.{before-le}
use Rattle.qc_model.proofs.Readable.{first, second}
use Rattle.qc_model.proofs.Sound.{is_false}
use Rattle.qc_model.proofs.Visible.{holds_visible}
use Rattle.model_table.proofs.Ordered.{valid_ordered}
use Rattle.model_table.proofs.Single.{valid_single}
use Rattle.model_arguments.specs.Asked.{is_box_of}
use Rattle.model_arguments.proofs.Boxes.{sub_length}
use Rattle.model_arguments.proofs.Kept.{among_of}
use Rattle.proof_tree.specs.Place.{position}
use Rattle.model_levels.specs.Spans.{kind_at}
use Rattle.model_levels.proofs.Items.{drop_at}
use Rattle.search_box.specs.Closes.{IsClosedAt}
use Rattle.search_box.specs.Complete.{is_shown, each_shown, takes_goal_in, IsClosedAtGoal}
use Rattle.search_box.proofs.Places.{fixed_fewer}

-- whether the constraints from a place on have variables or hold without any
pub shown_from : (rules : List Rule) (k : ℕ) (c : Rule) (some : Bool) → slice_get rules k ≡ Some c → some ≡ is_shown c → each_shown (drop k rules) ≡ (some && each_shown (drop (suc k) rules))
shown_from rules k c some e m = ap each_shown (drop_at k rules c e) ∙ ap (λ b. b && each_shown (drop (suc k) rules)) (sym m)

pub rule_of : (p : Rule → Bool) (rules : List Rule) (k : ℕ) (c : Rule) → list_all p rules ≡ true → slice_get rules k ≡ Some c → p c ≡ true
rule_of p [] k c h e = cc
rule_of p (r ∷ rules) zero c h e = subst (λ z. p z ≡ true) (same_Some r c e) (first (p r) (list_all p rules) h)
rule_of p (r ∷ rules) (suc k) c h e = rule_of p rules k c (second (p r) (list_all p rules) h) e

-- arguments that are filled in two ways, which do the same at each variable before n
module _ {X : Type 0} (f h : Arg → X) (n : ℕ) (number : (m : ℤ) → f (Num m) ≡ h (Num m)) (variable : (x : VarId) → x.0 < n → f (Var x) ≡ h (Var x)) where
  fill_one : (a : Arg) → ArgBelow n a → f a ≡ h a
  fill_one (Var x) l = variable x l
  fill_one (Num m) l = number m

  fill_items : (xs : List Arg) → ArgsBelow n xs → map f xs ≡ map h xs
  fill_items [] l = refl
  fill_items (a ∷ xs) l = ap (λ v. v ∷ map f xs) (fill_one a l.0) ∙ ap (λ vs. h a ∷ vs) (fill_items xs l.1)

  fill_argument : (a : Argument) → ArgumentBelow n a → fill f a ≡ fill h a
  fill_argument (One a) l = ap filled_one (fill_one a l)
  fill_argument (Many xs) l = ap filled_many (fill_items xs l)
  fill_argument (Numbers ns) l = refl
  fill_argument (Members s) l = refl

  fill_all : (args : List Argument) → ArgumentsBelow n args → map (fill f) args ≡ map (fill h) args
  fill_all [] l = refl
  fill_all (a ∷ args) l = ap (λ v. v ∷ map (fill f) args) (fill_argument a l.0) ∙ ap (λ vs. fill h a ∷ vs) (fill_all args l.1)

-- the value of each variable before n, alone
abbrev alone_before : ℕ → Box → Box
alone_before n box = map (λ v. v ∷ []) (box_values (take n box))

is_alone : (d : Values) → is_single d ≡ true → d ≡ least_value d ∷ []
is_alone [] s = cc
is_alone (v ∷ []) s = refl
is_alone (v ∷ w ∷ vs) s = cc

single_left : (box : Box) (n y : ℕ) → list_all is_single (take n box) ≡ true → y < n → values_left box y ≡ values_left (alone_before n box) y
single_left box zero y s l = absurd (omega arith)
single_left [] (suc n) y s l = refl
single_left (d ∷ box) (suc n) zero s l = is_alone d (first (is_single d) (list_all is_single (take n box)) s)
single_left (d ∷ box) (suc n) (suc y) s l = single_left box n y (second (is_single d) (list_all is_single (take n box)) s) (omega arith)

-- a variable that is given its least value changes nothing before n
least_left : (box : Box) (n x y : ℕ) → list_all is_single (take n box) ≡ true → y < n → values_left (box_at box x (least_value (values_left box x))) y ≡ values_left (alone_before n box) y
least_left box zero x y s l = absurd (omega arith)
least_left [] (suc n) x y s l = refl
least_left (d ∷ box) (suc n) zero zero s l = refl
least_left (d ∷ box) (suc n) zero (suc y) s l = single_left box n y (second (is_single d) (list_all is_single (take n box)) s) (omega arith)
least_left (d ∷ box) (suc n) (suc x) zero s l = is_alone d (first (is_single d) (list_all is_single (take n box)) s)
least_left (d ∷ box) (suc n) (suc x) (suc y) s l = least_left box n x y (second (is_single d) (list_all is_single (take n box)) s) (omega arith)

-- these values are declared
are_declared : (box large : Box) (n : ℕ) → is_sub_box box large ≡ true → list_all is_single (take n box) ≡ true → InBox (box_values (take n box)) large
are_declared box large zero d s = tt
are_declared [] large (suc n) d s = tt
are_declared (e ∷ box) [] (suc n) d s = cc
are_declared (e ∷ box) (f ∷ large) (suc n) d s =
    let p = is_ascending e && list_all (has_value f) e in (
      declared e (first (is_single e) (list_all is_single (take n box)) s) (second (is_ascending e) (list_all (has_value f) e) (first p (is_sub_box box large) d)),
      are_declared box large n (second p (is_sub_box box large) d) (second (is_single e) (list_all is_single (take n box)) s),
    )
  where
    declared : (e : Values) → is_single e ≡ true → list_all (has_value f) e ≡ true → Among (least_value e) f
    declared [] s h = cc
    declared (v ∷ []) s h = among_of v f (first (has_value f v) true h)
    declared (v ∷ w ∷ vs) s h = cc

some_kept : (p : ℕ → Bool) (xs : List ℕ) → not (is_none_of xs) ≡ true → list_all p xs ≡ true → (x : ℕ) × (p x ≡ true)
some_kept p [] m h = cc
some_kept p (x ∷ xs) m h = (x, first (p x) (list_all p xs) h)

holds_unless : (b : Bool) → not b ≡ false → b ≡ true
holds_unless true e = refl
holds_unless false e = cc

holds_within : (g : Game) → IsValid g → (k : ℕ) (c : Rule) (box : Box) (n : ℕ) → slice_get g.constraints k ≡ Some c → is_box_of g box ≡ true → n ≤ length box →
    list_all is_single (take n box) ≡ true → ArgumentsBelow n c.args → not (is_none_of (variables_of c.args)) ≡ true → keeps_ends box c ≡ true → holds_on c (box_values (take n box)) ≡ true
holds_within g v k c box n e d l s b m h =
    let w = box_values (take n box) in
    let size : length w ≡ n = length-map (take n box) least_value ∙ omega (arith, length-take n box) in
    let low : ℕ → Bool = λ x. refutes_at c box x (least_value (values_left box x)) in
    let high : ℕ → Bool = λ x. refutes_at c box x (greatest_value (values_left box x)) in
    let kept = some_kept (λ x. not (low x) && not (high x)) (variables_of c.args) m h in
    let given = box_at box kept.0 (least_value (values_left box kept.0)) in
    let same : refuted_by c given ≡ refuted_by c (alone_before n box) =
    ap (refuted_as (meaning_of c.pred)) (fill_all (left_to given) (left_to (alone_before n box)) n (λ m. refl) (λ x q. least_left box n kept.0 x.0 s q) c.args b) in
    let exact = valid_single g v k c w e (subst (λ j. ArgumentsBelow j c.args) (sym size) b) (are_declared box (declared_box g) n d s) in
    holds_unless (holds_on c w) (sym exact ∙ (sym same ∙ is_false (low kept.0) (first (not (low kept.0)) (not (high kept.0)) kept.1)))

values_split : (box : Box) (m n : ℕ) → m ≤ n → box_values (take n box) ≡ box_values (take m box) ++ box_values (drop m (take n box))
values_split box zero n l = refl
values_split box (suc m) zero l = absurd (omega arith)
values_split [] (suc m) (suc n) l = refl
values_split (d ∷ box) (suc m) (suc n) l = ap (λ vs. least_value d ∷ vs) (values_split box m n (omega arith))

-- a constraint with a variable, which refutes neither end of any of its own, holds where they have one value left each
pub closed_holds : (g : Game) → IsValid g → (k : ℕ) (c : Rule) (box : Box) (n : ℕ) → slice_get g.constraints k ≡ Some c → is_box_of g box ≡ true →
    list_all is_single (take n box) ≡ true → ArgumentsBelow n c.args → not (is_none_of (variables_of c.args)) ≡ true → keeps_ends box c ≡ true → holds_on c (box_values (take n box)) ≡ true
closed_holds g v k c box n e d s b m h =
    elim (fewer n (length box)) [
      | inl l ↦ holds_within g v k c box n e d l s b m h
      | inr l ↦ beyond l
    ]
  where
    fewer : (n size : ℕ) → (n ≤ size) ⊎ (size ≤ n)
    fewer n size = grind arith

    beyond : length box ≤ n → holds_on c (box_values (take n box)) ≡ true
    beyond l =
        let j = before g (suc c.owner.0) in
        let visible = (valid_ordered g v).visible k c e in
        let most : j ≤ length box = (let size = sub_length box (declared_box g) d in let up = before-le g (suc c.owner.0) in omega arith) in
        let least : j ≤ n = omega arith in
        let size : length (box_values (take j box)) ≡ j = length-map (take j box) least_value ∙ omega (arith, length-take j box) in
        ap (holds_on c) (values_split box j n least)
        ∙ (holds_visible c (box_values (take j box)) (box_values (drop j (take n box))) (subst (λ i. ArgumentsBelow i c.args) (sym size) visible)
        ∙ holds_within g v k c box j e d most (fixed_fewer box j n least s) visible m h)

-- arguments without variables name none
none_below : (xs : List Arg) → is_none_of (flat_map arg_variables xs) ≡ true → ArgsBelow 0 xs
none_below [] e = tt
none_below (Var x ∷ xs) e = cc
none_below (Num n ∷ xs) e = (tt, none_below xs e)

both_none : (xs ys : List ℕ) → is_none_of (xs ++ ys) ≡ true → (is_none_of xs ≡ true) × (is_none_of ys ≡ true)
both_none [] ys e = (refl, e)
both_none (x ∷ xs) ys e = cc

none_in : (a : Argument) → is_none_of (argument_variables a) ≡ true → ArgumentBelow 0 a
none_in (One (Var x)) e = cc
none_in (One (Num n)) e = tt
none_in (Many xs) e = none_below xs e
none_in (Numbers ns) e = tt
none_in (Members s) e = tt

none_among : (args : List Argument) → is_none_of (variables_of args) ≡ true → ArgumentsBelow 0 args
none_among [] e = tt
none_among (a ∷ args) e = let both = both_none (argument_variables a) (variables_of args) e in (none_in a both.0, none_among args both.1)

-- so does one that holds without variables, on any values
shown_holds : (g : Game) → IsValid g → (k : ℕ) (c : Rule) (box : Box) (n : ℕ) → slice_get g.constraints k ≡ Some c → is_box_of g box ≡ true →
    list_all is_single (take n box) ≡ true → ArgumentsBelow n c.args → is_shown c ≡ true → keeps_ends box c ≡ true → holds_on c (box_values (take n box)) ≡ true
shown_holds g v k c box n e d s b m h = by (is_none_of (variables_of c.args)) refl m
  where
    by : (none : Bool) → is_none_of (variables_of c.args) ≡ none → (not none || holds_on c []) ≡ true → holds_on c (box_values (take n box)) ≡ true
    by true q o = holds_visible c [] (box_values (take n box)) (none_among c.args q) ∙ o
    by false q o = closed_holds g v k c box n e d s b (ap not q) h

-- what follows for each of some items, place by place
each_follows : {X : Type 0} (own p q r : X → Bool) (xs : List X) → ((k : ℕ) (x : X) → slice_get xs k ≡ Some x → own x ≡ true → p x ≡ true → q x ≡ true → r x ≡ true) →
    list_all p xs ≡ true → list_all q (filter own xs) ≡ true → list_all r (filter own xs) ≡ true
each_follows own p q r [] f a b = refl
each_follows own p q r (x ∷ xs) f a b = by (own x) refl (λ h. each_follows own p q r xs (λ k. f (suc k)) (second (p x) (list_all p xs) a) h) b
  where
    by : (o : Bool) → own x ≡ o → (list_all q (filter own xs) ≡ true → list_all r (filter own xs) ≡ true) → list_all q (cond o (x ∷ filter own xs) (filter own xs)) ≡ true →
        list_all r (cond o (x ∷ filter own xs) (filter own xs)) ≡ true
    by true e later h =
        and_from (r x) (list_all r (filter own xs)) (f 0 x refl e (first (p x) (list_all p xs) a) (first (q x) (list_all q (filter own xs)) h)) (later (second (q x) (list_all q (filter own xs)) h))
    by false e later h = later h

owner_is : (m n : ℕ) → (m == n) ≡ true → m ≡ n
owner_is m n e = grind (arith, nat_tests)

-- the constraints of a scope or of the goal hold on the values of the variables up to it
closed_allows : (g : Game) (i n : ℕ) (box : Box) → IsValid g → is_box_of g box ≡ true → each_shown g.constraints ≡ true → n ≡ before g (suc i) →
    list_all is_single (take n box) ≡ true → list_all (keeps_ends box) (restriction g i) ≡ true → allows g i (box_values (take n box)) ≡ true
closed_allows g i n box v d m e s h =
    each_follows (λ c. c.owner.0 == i) is_shown (keeps_ends box) (λ c. holds_on c (box_values (take n box))) g.constraints
    (λ k c at own a b. shown_holds g v k c box n at d s (visible k c at own) a b) m h
  where
    visible : (k : ℕ) (c : Rule) → slice_get g.constraints k ≡ Some c → (c.owner.0 == i) ≡ true → ArgumentsBelow n c.args
    visible k c at own = subst (λ j. ArgumentsBelow j c.args) (ap (λ j. before g (suc j)) (owner_is c.owner.0 i own) ∙ sym e) ((valid_ordered g v).visible k c at)

all_fewer : {X : Type 0} (p own some : X → Bool) (xs : List X) → ((x : X) → some x ≡ true → own x ≡ true) → list_all p (filter own xs) ≡ true → list_all p (filter some xs) ≡ true
all_fewer p own some [] f h = refl
all_fewer p own some (x ∷ xs) f h = by (own x) (some x) refl refl (λ k. all_fewer p own some xs f k) h
  where
    differ : false ≡ true → ⊥
    differ e = cc

    by : (o s : Bool) → own x ≡ o → some x ≡ s → (list_all p (filter own xs) ≡ true → list_all p (filter some xs) ≡ true) → list_all p (cond o (x ∷ filter own xs) (filter own xs)) ≡ true →
        list_all p (cond s (x ∷ filter some xs) (filter some xs)) ≡ true
    by true true a b later h = and_from (p x) (list_all p (filter some xs)) (first (p x) (list_all p (filter own xs)) h) (later (second (p x) (list_all p (filter own xs)) h))
    by true false a b later h = later (second (p x) (list_all p (filter own xs)) h)
    by false true a b later h = absurd (differ (sym a ∙ f x b))
    by false false a b later h = later h

-- the constraints of scope j, or of the goal, are among those in force at scope i
kept_there : (g : Game) (i j : ℕ) (box : Box) → i ≤ j → j < force_stop (drop i g.scopes) i → IsClosedAt g i box → list_all (keeps_ends box) (restriction g j) ≡ true
kept_there g i j box low high h =
    let stop = force_stop (drop i g.scopes) i in
    all_fewer (keeps_ends box) (is_owned_within i stop) (λ c. c.owner.0 == j) g.constraints (λ c e. owned c.owner.0 stop high (owner_is c.owner.0 j e))
    (second (not (has_empty box)) (list_all (keeps_ends box) (filter (is_owned_within i stop) g.constraints)) h)
  where
    owned : (k stop : ℕ) → j < stop → k ≡ j → (nat_le i k && nat_lt k stop) ≡ true
    owned k stop l e = grind (arith, nat_tests)

block_reaches : (later : List Scope) (i : ℕ) → i ≤ block_stop later i
block_reaches [] i = omega arith
block_reaches (s ∷ later) i = by s.kind (block_reaches later (suc i))
  where
    by : (k : Kind) → suc i ≤ block_stop later (suc i) → i ≤ of_kind k (block_stop later (suc i)) i
    by Exists l = omega arith
    by Forall l = omega arith

force_reaches : (ss : List Scope) (i j : ℕ) → i < length ss → j < force_stop (drop i ss) j
force_reaches [] i j l = absurd (omega arith)
force_reaches (s ∷ ss) zero j l = by s.kind (block_reaches ss (suc j))
  where
    by : (k : Kind) → suc j ≤ block_stop ss (suc j) → j < of_kind k (block_stop ss (suc j)) (suc j)
    by Exists l = omega arith
    by Forall l = omega arith
force_reaches (s ∷ ss) (suc i) j l = force_reaches ss i j (omega arith)

goal_reached : (ss : List Scope) (i j : ℕ) → suc i ≡ length ss → takes_goal_in ss ≡ true → suc j < force_stop (drop i ss) j
goal_reached [] i j l t = cc
goal_reached (s ∷ []) zero j l t = by s.kind t
  where
    by : (k : Kind) → of_kind k true false ≡ true → suc j < of_kind k (suc (suc j)) (suc j)
    by Exists t = omega arith
    by Forall t = cc
goal_reached (s ∷ []) (suc i) j l t = absurd (omega arith)
goal_reached (s ∷ u ∷ ss) zero j l t = absurd (omega arith)
goal_reached (s ∷ u ∷ ss) (suc i) j l t = goal_reached (u ∷ ss) i j (omega arith) t

-- whether the last scope takes the goal in is told by its kind
pub last_kind : (g h : Game) (i : ℕ) (k m : Kind) → h ≡ g → suc i ≡ length g.scopes → kind_at h i ≡ Some k → k ≡ m → takes_goal_in g.scopes ≡ of_kind m true false
last_kind g h i k m e l f q = by g.scopes i l (ap (λ (j : Game). kind_at j i) (sym e) ∙ (f ∙ ap (λ n. Some n) q))
  where
    same : (a b : Kind) → Some a ≡ Some b → a ≡ b
    same a b e = cc

    by : (ss : List Scope) (i : ℕ) → suc i ≡ length ss → option_map (λ (s : Scope). s.kind) (slice_get ss i) ≡ Some m → takes_goal_in ss ≡ of_kind m true false
    by [] i l f = cc
    by (s ∷ []) zero l f = ap (λ n. of_kind n true false) (same s.kind m f)
    by (s ∷ []) (suc i) l f = absurd (omega arith)
    by (s ∷ u ∷ ss) zero l f = absurd (omega arith)
    by (s ∷ u ∷ ss) (suc i) l f = by (u ∷ ss) i (omega arith) f

-- where a box is closed at a scope whose tuple is complete, the tuple is allowed
pub closed_tuple_allowed : (g : Game) (i : ℕ) (box : Box) → IsValid g → i < length g.scopes → is_box_of g box ≡ true → each_shown g.constraints ≡ true →
    list_all is_single (take (before g (suc i)) box) ≡ true → IsClosedAt g i box → allows g i (position g (suc i) box) ≡ true
closed_tuple_allowed g i box v l d m s h =
    closed_allows g i (before g (suc i)) box v d m refl s (kept_there g i i box (omega arith) (force_reaches g.scopes i i l) h)

-- and where it is closed for the goal that the last scope takes in, the goal holds
pub closed_goal_holds : (g : Game) (box : Box) → IsValid g → is_box_of g box ≡ true → each_shown g.constraints ≡ true → takes_goal_in g.scopes ≡ true →
    list_all is_single (take (before g (length g.scopes)) box) ≡ true → IsClosedAtGoal g box → allows g (length g.scopes) (position g (length g.scopes) box) ≡ true
closed_goal_holds g box v d m t s h =
    let n = length g.scopes in
    closed_allows g n (before g n) box v d m (sym (valid_ordered g v).goal) s (h t)

-- a box that is closed at the last scope is closed for the goal that it takes in
pub closed_at_goal : (g : Game) (i : ℕ) (box : Box) → suc i ≡ length g.scopes → IsClosedAt g i box → IsClosedAtGoal g box
closed_at_goal g i box e h = λ t.
    kept_there g i (length g.scopes) box (omega arith) (subst (λ n. n < force_stop (drop i g.scopes) i) e (goal_reached g.scopes i i e t)) h
