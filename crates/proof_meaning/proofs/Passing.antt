-- Values that go on through allowed tuples satisfy the constraints of the scopes that they pass.
use Rattle.std.proofs.Common.{◌≡◌, ◌⊎◌, inl, inr, ℕ, zero, suc, ◌+◌, ◌-◌, ◌<◌, ◌≤◌, Bool, true, List, [], ◌∷◌, ◌++◌, length, take, drop, refl, sym, ap, ◌∙◌, subst, arith, Some, append_assoc, length-append, append-nil}
use Rattle.std.specs.Prelude.{IsTrue, ℤ, nat_le, nat_lt, ◌==◌, slice_get}
use Rattle.std.specs.List.{list_all}
use Rattle.std.proofs.lemmas.Bool.Decides.{nat_tests}
use Rattle.std.proofs.lemmas.List.{length-take, length-drop}
use Rattle.std.proofs.lemmas.Bool.{and_parts}
use Rattle.qc_model.specs.declared.problem.Kind.{Kind}
use Rattle.qc_model.specs.declared.problem.Kind.TheVariants.{Exists, Forall}
use Rattle.qc_model.specs.declared.problem.Scope.{Scope}
use Rattle.qc_model.specs.declared.problem.Arg.{Arg}
use Rattle.qc_model.specs.declared.problem.Arg.TheVariants.{Var, Num}
use Rattle.qc_model.specs.declared.problem.Argument.{Argument}
use Rattle.qc_model.specs.declared.problem.Argument.TheVariants.{One, Many, Numbers, Members}
use Rattle.qc_model.specs.Content.{Game, Rule}
use Rattle.qc_model.specs.Lists.{Among, LiesIn}
use Rattle.qc_model.specs.Domains.{Box, InBox, declared_box}
use Rattle.qc_model.specs.Visible.{ArgBelow, ArgsBelow, ArgumentBelow, ArgumentsBelow}
use Rattle.qc_model.specs.Game.{before, scope_domains, restriction, allows, IsMove}
use Rattle.qc_model.specs.Holds.{holds_on}
use Rattle.qc_model.specs.Block.{of_kind, block_stop, is_owned_within}
use Rattle.qc_model.proofs.Before.{before-le, before_up}
use Rattle.qc_model.proofs.Moves.{among_filter}
use Rattle.qc_model.proofs.Visible.{holds_visible}
use Rattle.proof_tree.specs.Good.{Good, GoodThrough, MovesOn}
use Rattle.qc_model.specs.Table.{IsOrdered}
use Rattle.proof_meaning.proofs.HorizonHolds.{Passes}

-- good values after a tuple of a scope of this kind; a universal scope looks at its own restriction alone
abbrev pub GoodAfter : Kind → Game → List Scope → ℕ → List ℤ → List ℤ → Type 0
GoodAfter Exists g later i b w = Good g later (suc i) b w
GoodAfter Forall g later i b w = w ≡ b

-- lengths
pub move_count : (g : Game) (i : ℕ) (a t : List ℤ) → length a ≡ before g i → IsMove g i a t → length (a ++ t) ≡ before g (suc i)
move_count g i a t e m =
    let lt = same_length t (scope_domains g i) m.is_tuple in
    let up = before_up g i in
    let most = before-le g (suc i) in
    let p = part_count g i in
    omega (arith, length-append a t, lt, p, e)
  where
    same_length : (t : List ℤ) (ds : Box) → LiesIn t ds → length t ≡ length ds
    same_length [] [] h = refl
    same_length [] (d ∷ ds) h = absurd h
    same_length (v ∷ t) [] h = absurd h
    same_length (v ∷ t) (d ∷ ds) h = ap suc (same_length t ds h.1)

    part_count : (g : Game) (i : ℕ) → length (scope_domains g i) ≡ before g (suc i) - before g i
    part_count g i =
        let most = before-le g (suc i) in
        omega (arith, length-drop (before g i) (take (before g (suc i)) (declared_box g)), length-take (before g (suc i)) (declared_box g))

moves_front : (g : Game) (n i : ℕ) (a w : List ℤ) → MovesOn g n i a w → (r : List ℤ) × (w ≡ a ++ r)
moves_front g zero i a w h = ([], h ∙ sym (append-nil a))
moves_front g (suc n) i a w h = let q = moves_front g n (suc i) (a ++ h.0) w h.2 in (h.0 ++ q.0, q.1 ∙ append_assoc a h.0 q.0)

-- arguments below n are below m
arg_wider : (n m : ℕ) (x : Arg) → n ≤ m → ArgBelow n x → ArgBelow m x
arg_wider n m (Var x) l h = omega arith
arg_wider n m (Num v) l h = tt

args_wider : (n m : ℕ) (xs : List Arg) → n ≤ m → ArgsBelow n xs → ArgsBelow m xs
args_wider n m [] l h = tt
args_wider n m (x ∷ xs) l h = (arg_wider n m x l h.0, args_wider n m xs l h.1)

argument_wider : (n m : ℕ) (x : Argument) → n ≤ m → ArgumentBelow n x → ArgumentBelow m x
argument_wider n m (One x) l h = arg_wider n m x l h
argument_wider n m (Many xs) l h = args_wider n m xs l h
argument_wider n m (Numbers ns) l h = tt
argument_wider n m (Members s) l h = tt

arguments_wider : (n m : ℕ) (args : List Argument) → n ≤ m → ArgumentsBelow n args → ArgumentsBelow m args
arguments_wider n m [] l h = tt
arguments_wider n m (x ∷ args) l h = (argument_wider n m x l h.0, arguments_wider n m args l h.1)

get_among : {X : Type 0} (xs : List X) (k : ℕ) (x : X) → slice_get xs k ≡ Some x → Among x xs
get_among [] k x e = cc
get_among (y ∷ xs) zero x e = inl cc
get_among (y ∷ xs) (suc k) x e = inr (get_among xs k x e)

all_to : {X : Type 0} (p : X → Bool) (d : List X) → list_all p d ≡ true → (v : X) → Among v d → p v ≡ true
all_to p [] e v m = absurd m
all_to p (x ∷ d) e v m = let r = and_parts (p x) (list_all p d) e in elim m [ inl h ↦ ap p h ∙ r.0 | inr n ↦ all_to p d r.1 v n ]

same_owner : (m n : ℕ) → m ≡ n → (m == n) ≡ true
same_owner m n e = grind (arith, nat_tests)

-- an allowed tuple satisfies each constraint of its scope
allowed_holds : (g : Game) (k : ℕ) (c : Rule) (j : ℕ) (vs : List ℤ) → slice_get g.constraints k ≡ Some c → c.owner.0 ≡ j → allows g j vs ≡ true → holds_on c vs ≡ true
allowed_holds g k c j vs e o a =
    all_to (λ d. holds_on d vs) (restriction g j) a c (among_filter (λ d. d.owner.0 == j) c g.constraints (get_among g.constraints k c e) (same_owner c.owner.0 j o))

split_at : (m o : ℕ) → m ≤ o → (o ≡ m) ⊎ (suc m ≤ o)
split_at m o l = grind arith

passes_one : (g : Game) → IsOrdered g → (n i : ℕ) (a w : List ℤ) → length a ≡ before g i → MovesOn g n i a w → (k : ℕ) (c : Rule) → slice_get g.constraints k ≡ Some c →
    i ≤ c.owner.0 → c.owner.0 < i + n → ArgumentsBelow (length w) c.args × (holds_on c w ≡ true)
passes_one g p zero i a w len h k c e low high = absurd (omega arith)
passes_one g p (suc n) i a w len h k c e low high =
    elim (split_at i c.owner.0 low) [
      | inl o ↦ here o
      | inr l ↦ passes_one g p n (suc i) (a ++ h.0) w (move_count g i a h.0 len h.1) h.2 k c e l (omega arith)
    ]
  where
    here : c.owner.0 ≡ i → ArgumentsBelow (length w) c.args × (holds_on c w ≡ true)
    here o =
        let q = moves_front g n (suc i) (a ++ h.0) w h.2 in
        let below : ArgumentsBelow (length (a ++ h.0)) c.args =
        subst (λ m. ArgumentsBelow m c.args) (ap (λ j. before g (suc j)) o ∙ sym (move_count g i a h.0 len h.1)) (p.visible k c e) in
        let longer : length (a ++ h.0) ≤ length w = omega (arith, ap length q.1, length-append (a ++ h.0) q.0) in (
          arguments_wider (length (a ++ h.0)) (length w) c.args longer below,
          ap (holds_on c) q.1 ∙ (holds_visible c (a ++ h.0) q.0 below ∙ allowed_holds g k c i (a ++ h.0) e o h.1.is_allowed),
        )

pub passes : (g : Game) → IsOrdered g → (n i stop : ℕ) (a w : List ℤ) → length a ≡ before g i → InBox w (declared_box g) → i + n ≡ stop → MovesOn g n i a w → Passes g i stop w
passes g p n i stop a w len d s h = record {
  declared = d;
  visible = λ k c e o. (one k c e o).0;
  holds = λ k c e o. (one k c e o).1;
}
  where
    le_from : (x y : ℕ) → nat_le x y ≡ true → x ≤ y
    le_from x y e = grind (arith, nat_tests)

    lt_from : (x y : ℕ) → nat_lt x y ≡ true → x < y
    lt_from x y e = grind (arith, nat_tests)

    one : (k : ℕ) (c : Rule) → slice_get g.constraints k ≡ Some c → is_owned_within i stop c ≡ true → ArgumentsBelow (length w) c.args × (holds_on c w ≡ true)
    one k c e o =
        let q = and_parts (nat_le i c.owner.0) (nat_lt c.owner.0 stop) o in
        let low : i ≤ c.owner.0 = le_from i c.owner.0 q.0 in
        let high : c.owner.0 < stop = lt_from c.owner.0 stop q.1 in
        passes_one g p n i a w len h k c e low (omega arith)

-- the goal's own tuple
pub goal_move : (g : Game) → IsOrdered g → (i : ℕ) (a : List ℤ) → i ≡ length g.scopes → IsTrue (allows g i a) → IsMove g i a []
goal_move g p i a e ok = record {
  is_tuple = subst (LiesIn []) (sym (none_own i e)) tt;
  is_allowed = subst (λ u. IsTrue (allows g i u)) (sym (append-nil a)) ok;
}
  where
    drop_taken : {X : Type 0} (n : ℕ) (xs : List X) → drop n (take n xs) ≡ []
    drop_taken zero xs = refl
    drop_taken (suc n) [] = refl
    drop_taken (suc n) (x ∷ xs) = drop_taken n xs

    none_own : (i : ℕ) → i ≡ length g.scopes → scope_domains g i ≡ []
    none_own i e =
        let same : before g (suc i) ≡ before g i = subst (λ j. before g (suc j) ≡ before g j) (sym e) p.goal in
        ap (λ m. drop (before g i) (take m (declared_box g))) same ∙ drop_taken (before g i) (declared_box g)

-- good values pass the block
pub record Passage (g : Game) (stop i : ℕ) (a w : List ℤ) : Type 0 where
  pub count : ℕ
  pub stops : i + count ≡ stop
  pub moves : MovesOn g count i a w

good_moves : (g : Game) → IsOrdered g → (later : List Scope) (i : ℕ) (a w : List ℤ) → i + length later ≡ length g.scopes → Good g later i a w → Passage g (block_stop later i) i a w
good_moves g p [] i a w len h =
    record { count = 1; stops = omega arith; moves = ([], goal_move g p i a (omega arith) h.1, h.0 ∙ sym (append-nil a)) }
good_moves g p (s ∷ later) i a w len h = through s.kind h (λ b k. good_moves g p later (suc i) b w (omega arith) k)
  where
    through : (k : Kind) → GoodThrough k g i a (λ b. Good g later (suc i) b w) w → ((b : List ℤ) → Good g later (suc i) b w → Passage g (block_stop later (suc i)) (suc i) b w) →
        Passage g (of_kind k (block_stop later (suc i)) i) i a w
    through Exists h f = let q = f (a ++ h.0) h.2 in record { count = suc q.count; stops = (let e = q.stops in omega arith); moves = (h.0, h.1, q.moves) }
    through Forall h f = record { count = 0; stops = omega arith; moves = h }

after_moves : (g : Game) → IsOrdered g → (k : Kind) (later : List Scope) (i : ℕ) (a t w : List ℤ) → suc i + length later ≡ length g.scopes → IsMove g i a t → GoodAfter k g later i (a ++ t) w →
    Passage g (of_kind k (block_stop later (suc i)) (suc i)) i a w
after_moves g p Exists later i a t w len m h =
    let q = good_moves g p later (suc i) (a ++ t) w len h in record { count = suc q.count; stops = (let e = q.stops in omega arith); moves = (t, m, q.moves) }
after_moves g p Forall later i a t w len m h = record { count = 1; stops = omega arith; moves = (t, m, h) }

pub after_passes : (g : Game) → IsOrdered g → (k : Kind) (later : List Scope) (i : ℕ) (a t w : List ℤ) → suc i + length later ≡ length g.scopes → length a ≡ before g i → InBox w (declared_box g) → IsMove g i a t → GoodAfter k g later i (a ++ t) w →
    Passes g i (of_kind k (block_stop later (suc i)) (suc i)) w
after_passes g p k later i a t w len count d m h =
    let q = after_moves g p k later i a t w len m h in
    passes g p q.count i (of_kind k (block_stop later (suc i)) (suc i)) a w count d q.stops q.moves
