-- From a node into its scope's own tree, and from a leaf to the next node.
use Rattle.std.proofs.Common.{◌≡◌, ℕ, suc, ◌≤◌, Bool, true, false, ◌&&◌, List, [], ◌∷◌, ◌++◌, length, map, take, drop, refl, sym, ap, ◌∙◌, subst, arith, Option, Some, None}
use Rattle.std.specs.Prelude.{ℤ, IsTrue}
use Rattle.std.specs.List.{list_all}
use Rattle.std.proofs.lemmas.List.{length-take, length-drop, length-map, length-append, map-append, drop-drop}
use Rattle.std.proofs.lemmas.List.Folds.{list_all-append}
use Rattle.qc_model.specs.declared.problem.Kind.{Kind}
use Rattle.qc_model.specs.declared.problem.Kind.TheVariants.{Exists, Forall}
use Rattle.qc_model.specs.declared.problem.Scope.{Scope}
use Rattle.qc_model.specs.declared.problem.Condition.{Condition}
use Rattle.qc_model.specs.Content.{Game}
use Rattle.qc_model.specs.Lists.{LiesIn}
use Rattle.qc_model.specs.Domains.{Box, InBox, declared_box, is_single, least_value, has_empty}
use Rattle.qc_model.specs.Game.{before, part, scope_domains, allows, IsMove}
use Rattle.qc_model.proofs.Before.{before-le, before-zero}
use Rattle.model_laws.specs.Distinct.{EachDistinct}
use Rattle.proof_tree.specs.Place.{position, is_fixed}
use Rattle.proof_tree.specs.Good.{Good}
use Rattle.proof_tree.specs.Fair.{bounded_within}
use Rattle.proof_meaning.proofs.Boxes.{singles, in_take, from_take, in_append, in_rest, in_singles, singles_of, all_single, heads_singles}
use Rattle.proof_meaning.proofs.FreeFront.{before_wider, free_above}
use Rattle.proof_meaning.proofs.GoodValues.{good_front, declared_keeps}
use Rattle.proof_meaning.proofs.Narrowed.{within_in}
use Rattle.proof_meaning.proofs.Passing.{move_count}
use Rattle.proof_meaning.proofs.Places.{only_heads}
use Rattle.proof_meaning.proofs.Widths.{take_scope, part_rest, width}
use Rattle.proof_meaning.proofs.Taken.{taken_less, taken_all, taken_front}
use Rattle.proof_meaning.proofs.Frames.{stop_of, Frame, FairNode, FairPart, front_in}

-- values that go on where all later domains are the declared ones
pub declared_move : (g : Game) (i : ℕ) (a t : List ℤ) (box : Box) → length a ≡ before g i → InBox a box → drop (length a) box ≡ drop (length a) (declared_box g) → IsMove g i a t → InBox (a ++ t) box
declared_move g i a t box n h e m =
    let h1 : LiesIn t (take (width g i) (drop (before g i) (declared_box g))) = subst (LiesIn t) (part_rest g i (declared_box g)) m.is_tuple in
    let h2 : InBox t (drop (before g i) (declared_box g)) = from_take (width g i) t (drop (before g i) (declared_box g)) h1 in
    let h3 : InBox t (drop (length a) (declared_box g)) = subst (λ j. InBox t (drop j (declared_box g))) (sym n) h2 in
    in_append a t box h (subst (InBox t) (sym e) h3)

pub farther : (g : Game) (a t : List ℤ) (box : Box) → drop (length a) box ≡ drop (length a) (declared_box g) → drop (length (a ++ t)) box ≡ drop (length (a ++ t)) (declared_box g)
farther g a t box e =
    subst (λ j. drop j box ≡ drop j (declared_box g)) (sym (length-append a t))
    (sym (drop-drop (length t) (length a) box) ∙ ap (drop (length t)) e ∙ drop-drop (length t) (length a) (declared_box g))

-- at a universal scope all later domains are the declared ones
pub rest_declared : (g : Game) (b : Bool) (c : Option Condition) (later : List Scope) (i : ℕ) (a : List ℤ) (box : Box) → has_empty box ≡ false →
    FairNode g b (record { kind = Forall; condition = c } ∷ later) i a box → drop (length a) box ≡ drop (length a) (declared_box g)
rest_declared g b c later i a box full f = f.rest a refl (front_in g i a box f.frame full)

pub enter : (g : Game) (b : Bool) (k : Kind) (c : Option Condition) (later : List Scope) (i : ℕ) (a : List ℤ) (box : Box) → has_empty box ≡ false →
    FairNode g b (record { kind = k; condition = c } ∷ later) i a box → FairPart g (bounded_within k b) k later i a box
enter g b Exists c later i a box full f = record {
  frame = f.frame;
  keeps = λ t w m good h.
      f.keeps w (t, m, good) (taken_less (before g (stop_of b (record { kind = Exists; condition = c } ∷ later) i)) (before g (stop_of b later (suc i))) w box
      (before_wider g (stop_of b (record { kind = Exists; condition = c } ∷ later) i) (stop_of b later (suc i)) (less b c)) h);
  rest = λ t w m good h. f.rest w (t, m, good) h;
}
  where
    less : (b : Bool) (c : Option Condition) → stop_of b (record { kind = Exists; condition = c } ∷ later) i ≤ stop_of b later (suc i)
    less false c = omega arith
    less true None = omega arith
    less true (Some x) = let q = free_above later (suc i) in omega arith
enter g b Forall c later i a box full f = record {
  frame = f.frame;
  keeps = λ t w m good h.
      taken_all (before g (suc i)) w box (let n = move_count g i a t f.frame.count m in let q = ap length good in omega arith) h;
  rest = λ t w m good h.
      subst (λ u. drop (length u) box ≡ drop (length u) (declared_box g)) (sym good) (farther g a t box (rest_declared g b c later i a box full f));
}

-- all variables up to scope i have one value
pub all_fixed : (g : Game) (i : ℕ) (a : List ℤ) (box : Box) → Frame g i a box → has_empty box ≡ false → is_fixed g i box ≡ true → list_all is_single (take (before g (suc i)) box) ≡ true
all_fixed g i a box f full e =
    subst (λ ds. list_all is_single ds ≡ true) (sym (take_scope g i box))
    (list_all-append is_single (take (before g i) box) (part g i box)
    ∙ (ap (λ b. b && list_all is_single (part g i box)) (subst (λ ds. list_all is_single ds ≡ true) (sym (f.earlier full)) (all_single a)) ∙ e))

pub the_only : (g : Game) (i : ℕ) (a t : List ℤ) (box : Box) → Frame g i a box → list_all is_single (take (before g (suc i)) box) ≡ true → IsMove g i a t → InBox (a ++ t) box → a ++ t ≡ position g (suc i) box
the_only g i a t box f fixed m h =
    only_heads (take (before g (suc i)) box) (a ++ t) fixed
    (subst (λ n. LiesIn (a ++ t) (take n box)) (move_count g i a t f.count m) (in_take (a ++ t) box h))

-- the move that a fixed box is
pub record TheMove (g : Game) (i : ℕ) (a w : List ℤ) (box : Box) : Type 0 where
  pub tuple : List ℤ
  pub after : w ≡ a ++ tuple
  pub is_move : IsMove g i a tuple
  pub lies : InBox w box

pub the_move : (g : Game) (i : ℕ) (a : List ℤ) (box : Box) → Frame g i a box → has_empty box ≡ false → is_fixed g i box ≡ true → IsTrue (allows g i (position g (suc i) box)) → TheMove g i a (position g (suc i) box) box
the_move g i a box f full fix ok =
    let fixed = all_fixed g i a box f full fix in
    let t = map least_value (part g i box) in
    let e : position g (suc i) box ≡ a ++ t =
    ap (map least_value) (take_scope g i box) ∙ (map-append least_value (take (before g i) box) (part g i box)
    ∙ ap (λ u. u ++ t) (ap (map least_value) (f.earlier full) ∙ heads_singles a)) in
    let lies : InBox (position g (suc i) box) box = in_singles (position g (suc i) box) (before g (suc i)) box (singles_of (take (before g (suc i)) box) fixed) in
    let lies_t : InBox (a ++ t) box = subst (λ u. InBox u box) e lies in
    let in_declared : InBox t (drop (length a) (declared_box g)) = in_rest a t (declared_box g) (within_in (a ++ t) box (declared_box g) f.within lies_t) in
    let count : length t ≡ width g i = part_length g i box f.size in
    let tuple : LiesIn t (scope_domains g i) =
    subst (LiesIn t) (sym (part_rest g i (declared_box g)))
    (subst (λ n. LiesIn t (take n (drop (before g i) (declared_box g)))) count
    (subst (λ n. LiesIn t (take (length t) (drop n (declared_box g)))) f.count (in_take t (drop (length a) (declared_box g)) in_declared))) in
    record { tuple = t; after = e; is_move = record { is_tuple = tuple; is_allowed = subst (λ u. allows g i u ≡ true) e ok }; lies = lies }
  where
    part_length : (g : Game) (i : ℕ) (box : Box) → length box ≡ length (declared_box g) → length (map least_value (part g i box)) ≡ width g i
    part_length g i box size =
        let most = before-le g (suc i) in
        omega (arith, length-map (part g i box) least_value, length-drop (before g i) (take (before g (suc i)) box), length-take (before g (suc i)) box)

-- the box of the next node
pub child_fair : (g : Game) (b : Bool) (k : Kind) (later : List Scope) (i : ℕ) (a w : List ℤ) (box : Box) → FairPart g b k later i a box → list_all is_single (take (before g (suc i)) box) ≡ true →
    w ≡ position g (suc i) box → TheMove g i a w box → FairNode g b later (suc i) w box
child_fair g b k later i a w box f fixed p m = record {
  frame = record {
    size = f.frame.size;
    within = f.frame.within;
    distinct = f.frame.distinct;
    earlier = λ e. subst (λ u. take (before g (suc i)) box ≡ singles u) (sym p) (singles_of (take (before g (suc i)) box) fixed);
    count = ap length m.after ∙ move_count g i a m.tuple f.frame.count m.is_move;
  };
  keeps = λ u good h. keep k f u (subst (λ v. Good g later (suc i) v u) m.after good) h;
  rest = λ u good h. leave k f u (subst (λ v. Good g later (suc i) v u) m.after good) h;
}
  where
    at : InBox (a ++ m.tuple) box
    at = subst (λ u. InBox u box) m.after m.lies

    count : length (a ++ m.tuple) ≡ before g (suc i)
    count = move_count g i a m.tuple f.frame.count m.is_move

    both : FairPart g b Forall later i a box → (u : List ℤ) → Good g later (suc i) (a ++ m.tuple) u → InBox u box × (drop (length u) box ≡ drop (length u) (declared_box g))
    both f u good = declared_keeps g later (suc i) (a ++ m.tuple) u box good at count (f.rest m.tuple (a ++ m.tuple) m.is_move refl at)

    keep : (k : Kind) → FairPart g b k later i a box → (u : List ℤ) → Good g later (suc i) (a ++ m.tuple) u → InBox (take (before g (stop_of b later (suc i))) u) box → InBox u box
    keep Exists f u good h = f.keeps m.tuple u m.is_move good h
    keep Forall f u good h = (both f u good).0

    leave : (k : Kind) → FairPart g b k later i a box → (u : List ℤ) → Good g later (suc i) (a ++ m.tuple) u → InBox u box → drop (length u) box ≡ drop (length u) (declared_box g)
    leave Exists f u good h = f.rest m.tuple u m.is_move good h
    leave Forall f u good h = (both f u good).1

-- where no bound of the block stands above a node, or its scope has a condition, all good values lie in its box
pub all_good : (g : Game) (b : Bool) (later : List Scope) (i : ℕ) (a : List ℤ) (box : Box) → has_empty box ≡ false → stop_of b later i ≡ i → FairNode g b later i a box → (w : List ℤ) → Good g later i a w → InBox w box
all_good g b later i a box full e f w good =
    let r = good_front g later i a w good in
    f.keeps w good (subst (λ n. InBox (take (before g n) w) box) (sym e)
    (subst (λ u. InBox (take (before g i) u) box) (sym r.1) (taken_front (before g i) a r.0 box (let n = f.frame.count in omega arith) (front_in g i a box f.frame full))))

-- the root's box
pub root_fair : (g : Game) → EachDistinct (declared_box g) → FairNode g false g.scopes 0 [] (declared_box g)
root_fair g distinct = record {
  frame = record {
    size = refl;
    within = λ k v h. h;
    distinct = distinct;
    earlier = λ e. ap (λ n. take n (declared_box g)) (before-zero g);
    count = sym (before-zero g);
  };
  keeps = λ w good h. (declared_keeps g g.scopes 0 [] w (declared_box g) good tt (sym (before-zero g)) refl).0;
  rest = λ w good h. refl;
}
