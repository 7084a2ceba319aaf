-- What was seen in a scope's own tree: put together, settled, and what the scope comes to.
use Rattle.std.proofs.Common.{◌≡◌, ℕ, Bool, true, false, ◌&&◌, ◌||◌, cond, List, [], ◌∷◌, ◌++◌, map, refl, sym, ap, ◌∙◌, Option, None, Some}
use Rattle.std.specs.Prelude.{ℤ, is_none, not}
use Rattle.std.specs.List.{list_any, list_all}
use Rattle.qc_model.specs.declared.problem.Kind.{Kind}
use Rattle.qc_model.specs.declared.problem.Kind.TheVariants.{Exists, Forall}
use Rattle.qc_model.specs.declared.problem.Condition.{Condition}
use Rattle.qc_model.specs.declared.problem.Scope.{Scope}
use Rattle.qc_model.specs.Content.{Game}
use Rattle.qc_model.specs.Block.{of_kind}
use Rattle.qc_model.specs.Demands.{demands_after}
use Rattle.qc_model.specs.Verdict.{Verdict, lost, exact, at_most, unknown, Seen, seen_barred, seen_skipped, seen_bound, seen_node, is_exact, is_lost, is_unknown, some_node, each_node, is_none_of, exact_vectors, bounds, first_value}
use Rattle.qc_model.specs.ExistsVerdict.{exists_verdict, some_open, best_vector, beats, without_own, best_number}
use Rattle.qc_model.specs.ForallVerdict.{bounded_forall, entry_values, numbers_for}
use Rattle.proof_tree.specs.Finding.{Leaf, leaf_barred, leaf_skipped, leaf_bound, leaf_node, seen_of, comes_to, scope_finding, kind_finding}
use Rattle.proof_tree.specs.Place.{list_after, is_goal}
use Rattle.proof_tree.specs.Order.{settles}
use Rattle.joins.specs.Sizes.{EachHas}
use Rattle.joins.specs.Verdicts.{scope_verdict, kind_verdict, scope_settled, kind_settled, scope_own, kind_own, scope_wishes, kind_wishes}
use Rattle.search_parts.specs.Beaten.{firsts, are_beaten}
use Rattle.search_parts.specs.Settled.{is_settled, is_vague_verdict}
use Rattle.search_parts.proofs.Beating.{best_beats, some_beats, each_long}

pub seen-append : (ks ls : List Leaf) → map seen_of (ks ++ ls) ≡ map seen_of ks ++ map seen_of ls
seen-append [] ls = refl
seen-append (k ∷ ks) ls = ap (λ xs. seen_of k ∷ xs) (seen-append ks ls)

or_assoc : (a b c : Bool) → (a || (b || c)) ≡ ((a || b) || c)
or_assoc true b c = refl
or_assoc false b c = refl

some-append : (p : Verdict → Bool) (xs ys : List Seen) → some_node p (xs ++ ys) ≡ (some_node p xs || some_node p ys)
some-append p [] ys = refl
some-append p (seen_barred ∷ xs) ys = some-append p xs ys
some-append p (seen_skipped ∷ xs) ys = some-append p xs ys
some-append p (seen_bound m ∷ xs) ys = some-append p xs ys
some-append p (seen_node v ∷ xs) ys = ap (λ b. p v || b) (some-append p xs ys) ∙ or_assoc (p v) (some_node p xs) (some_node p ys)

pub settled-append : (later : List Scope) (d : List Condition) (xs ys : List Seen) → is_settled later d (xs ++ ys) ≡ (is_settled later d xs || is_settled later d ys)
settled-append later d xs ys = some-append (settles later d) xs ys

-- from a scope that isn't settled
pub settled_from : (later : List Scope) (d : List Condition) (xs ys : List Seen) → is_settled later d xs ≡ false → is_settled later d (xs ++ ys) ≡ is_settled later d ys
settled_from later d xs ys e = settled-append later d xs ys ∙ ap (λ b. b || is_settled later d ys) e

pub open-append : (xs ys : List Seen) → some_open (xs ++ ys) ≡ (some_open xs || some_open ys)
open-append [] ys = refl
open-append (seen_barred ∷ xs) ys = open-append xs ys
open-append (seen_skipped ∷ xs) ys = refl
open-append (seen_bound m ∷ xs) ys = open-append xs ys
open-append (seen_node v ∷ xs) ys = ap (λ b. is_unknown v || b) (open-append xs ys) ∙ or_assoc (is_unknown v) (some_open xs) (some_open ys)

pub any_leaf : (p : Verdict → Bool) (ls : List Leaf) → list_any (comes_to p) ls ≡ some_node p (map seen_of ls)
any_leaf p [] = refl
any_leaf p (leaf_barred ∷ ls) = any_leaf p ls
any_leaf p (leaf_skipped ∷ ls) = any_leaf p ls
any_leaf p (leaf_bound m ∷ ls) = any_leaf p ls
any_leaf p (leaf_node w f ∷ ls) = ap (λ b. p f.verdict || b) (any_leaf p ls)

-- what the scope comes to
pub verdict_so : (g : Game) (later : List Scope) (i : ℕ) (d : List Condition) (a : List ℤ) (ls : List Leaf) → (scope_finding later g i d a ls).verdict ≡ scope_verdict later g d a (map seen_of ls)
verdict_so g [] i d a ls = refl
verdict_so g (s ∷ later) i d a ls = by s.kind s.condition
  where
    by : (k : Kind) (own : Option Condition) → (kind_finding k own g i d a ls).verdict ≡ kind_verdict k own g d a (map seen_of ls)
    by Exists own = refl
    by Forall own = refl

-- what a settled scope comes to
abbrev pub settled_kind : Kind → Verdict
settled_kind Exists = exact []
settled_kind Forall = lost

abbrev pub settled_verdict : List Scope → Verdict
settled_verdict [] = unknown
settled_verdict (s ∷ later) = settled_kind s.kind

some_never : (p : Verdict → Bool) (xs : List Seen) → ((v : Verdict) → p v ≡ false) → some_node p xs ≡ false
some_never p [] f = refl
some_never p (seen_barred ∷ xs) f = some_never p xs f
some_never p (seen_skipped ∷ xs) f = some_never p xs f
some_never p (seen_bound m ∷ xs) f = some_never p xs f
some_never p (seen_node v ∷ xs) f = ap (λ b. b || some_node p xs) (f v) ∙ some_never p xs f

pub settled_is : (g : Game) (later : List Scope) (d : List Condition) (a : List ℤ) (xs : List Seen) → is_settled later (list_after g later d) xs ≡ true → scope_verdict later g d a xs ≡ settled_verdict later
settled_is g [] d a xs e = let f = some_never (settles [] d) xs (λ v. refl) in cc
settled_is g (s ∷ later) d a xs e = by s.kind s.condition e
  where
    exactly : (own : Option Condition) (dd : List Condition) → some_node (λ v. is_none_of dd && is_exact v) xs ≡ true → exists_verdict own dd xs ≡ exact []
    exactly own [] e = ap (λ b. cond b (exact []) (cond (each_node is_lost xs) lost unknown)) e
    exactly own (c ∷ dd) e = let f = some_never (λ v. is_none_of (c ∷ dd) && is_exact v) xs (λ v. refl) in cc

    by : (k : Kind) (own : Option Condition) → some_node (λ v. of_kind k (is_none_of (demands_after g k own d) && is_exact v) (is_lost v)) xs ≡ true → kind_verdict k own g d a xs ≡ settled_kind k
    by Exists own e = exactly own (demands_after g Exists own d) e
    by Forall own e = ap (λ b. cond b lost (cond (each_node is_exact xs) (exact (entry_values g d a (numbers_for d (exact_vectors xs)))) (bounded_forall g d xs))) e

pub settled_known : (above : ℤ → Bool) (later : List Scope) → is_goal later ≡ false → is_vague_verdict above (settled_verdict later) ≡ false
settled_known above [] e = cc
settled_known above (s ∷ later) e = by s.kind
  where
    by : (k : Kind) → is_vague_verdict above (settled_kind k) ≡ false
    by Exists = refl
    by Forall = refl

-- where no leaf is open, and an exact leaf is among them wherever bounds are, it is known what the scope comes to
record Plain (xs : List Seen) : Type 0 where
  pub some : each_node is_lost xs ≡ false → is_none_of (bounds xs) ≡ true → is_none_of (exact_vectors xs) ≡ false
  pub each : some_node is_lost xs ≡ false → is_none_of (bounds xs) ≡ true → each_node is_exact xs ≡ true

plain : (xs : List Seen) → some_open xs ≡ false → Plain xs
plain [] e = record { some = λ f b. cc; each = λ f b. refl }
plain (seen_barred ∷ xs) e = let p = plain xs e in record { some = p.some; each = p.each }
plain (seen_skipped ∷ xs) e = cc
plain (seen_bound m ∷ xs) e = record { some = λ f b. cc; each = λ f b. cc }
plain (seen_node lost ∷ xs) e = let p = plain xs e in record { some = p.some; each = λ f b. cc }
plain (seen_node (exact v) ∷ xs) e = let p = plain xs e in record { some = λ f b. refl; each = p.each }
plain (seen_node (at_most n) ∷ xs) e = record { some = λ f b. cc; each = λ f b. cc }
plain (seen_node unknown ∷ xs) e = cc

-- where nothing is demanded, nothing is beaten: so there is no bound
pub no_bounds : (ns ms : List ℤ) → are_beaten [] ns ms ≡ true → is_none_of ms ≡ true
no_bounds ns [] h = refl
no_bounds ns (m ∷ ms) h = cc

pub known : (above : ℤ → Bool) (g : Game) (later : List Scope) (d : List Condition) (a : List ℤ) (xs : List Seen) → is_goal later ≡ false → some_open xs ≡ false → EachHas (list_after g later d) xs → are_beaten (scope_wishes later g d) (firsts xs) (bounds xs) ≡ true →
    is_vague_verdict above (scope_verdict later g d a xs) ≡ false
known above g [] d a xs e f l b = cc
known above g (s ∷ later) d a xs e f l b = by s.kind s.condition l b
  where
    p : Plain xs
    p = plain xs f

    plainly : is_none_of (bounds xs) ≡ true → (b c : Bool) → each_node is_lost xs ≡ b → some_node is_exact xs ≡ c → is_vague_verdict above (cond c (exact []) (cond b lost unknown)) ≡ false
    plainly n b true q r = refl
    plainly n true false q r = refl
    plainly n false false q r = absurd (none_exact xs f n q r)
      where
        none_exact : (ys : List Seen) → some_open ys ≡ false → is_none_of (bounds ys) ≡ true → each_node is_lost ys ≡ false → some_node is_exact ys ≡ false → ⊥
        none_exact [] e n f h = cc
        none_exact (seen_barred ∷ ys) e n f h = none_exact ys e n f h
        none_exact (seen_skipped ∷ ys) e n f h = cc
        none_exact (seen_bound m ∷ ys) e n f h = cc
        none_exact (seen_node lost ∷ ys) e n f h = none_exact ys e n f h
        none_exact (seen_node (exact v) ∷ ys) e n f h = cc
        none_exact (seen_node (at_most m) ∷ ys) e n f h = cc
        none_exact (seen_node unknown ∷ ys) e n f h = cc

    -- the tests of a bounded existential scope: all lost, no bound, some open, no exact leaf, the best beats the bounds
    tests : (lost_all no_bound open_any none_any beaten : Bool) (v : List ℤ) (w : Verdict) → open_any ≡ false → (lost_all ≡ false → no_bound ≡ true → none_any ≡ false) → (no_bound ≡ false → none_any ≡ false) → beaten ≡ true →
        is_vague_verdict above (cond (lost_all && no_bound) lost (cond open_any unknown (cond (not none_any && beaten) (exact v) w))) ≡ false
    tests true true o n b v w q r u t = refl
    tests true false true n b v w q r u t = cc
    tests true false false true b v w q r u t = let k = u refl in cc
    tests true false false false true v w q r u t = refl
    tests true false false false false v w q r u t = cc
    tests false m true n b v w q r u t = cc
    tests false true false true b v w q r u t = let k = r refl refl in cc
    tests false false false true b v w q r u t = let k = u refl in cc
    tests false m false false true v w q r u t = refl
    tests false m false false false v w q r u t = cc

    existing : (own : Option Condition) (dd : List Condition) → EachHas dd xs → are_beaten dd (firsts xs) (bounds xs) ≡ true → is_vague_verdict above (exists_verdict own dd xs) ≡ false
    existing own [] l b = plainly (no_bounds (firsts xs) (bounds xs) b) (each_node is_lost xs) (some_node is_exact xs) refl refl
    existing own (c ∷ dd) l b =
        let v = best_vector (c ∷ dd) (exact_vectors xs) in
        tests (each_node is_lost xs) (is_none_of (bounds xs)) (some_open xs) (is_none_of (exact_vectors xs)) (list_all (beats c.sense (is_none_of dd) (first_value v)) (bounds xs)) (without_own own v)
        (cond (is_none own) (at_most (best_number c.sense (map first_value (exact_vectors xs) ++ bounds xs))) unknown) f p.some (some_beats (c ∷ dd) (exact_vectors xs) (bounds xs) b)
        (best_beats c dd (exact_vectors xs) (bounds xs) (each_long (c ∷ dd) xs l) b)

    universal : (b c : Bool) (v : List ℤ) (w : Verdict) → (b ≡ false → c ≡ true) → is_vague_verdict above (cond b lost (cond c (exact v) w)) ≡ false
    universal true c v w q = refl
    universal false true v w q = refl
    universal false false v w q = let r = q refl in cc

    by : (k : Kind) (own : Option Condition) → EachHas (demands_after g k own d) xs → are_beaten (kind_wishes k own g d) (firsts xs) (bounds xs) ≡ true → is_vague_verdict above (kind_verdict k own g d a xs) ≡ false
    by Exists own l b = existing own (demands_after g Exists own d) l b
    by Forall own l b = universal (some_node is_lost xs) (each_node is_exact xs) (entry_values g d a (numbers_for d (exact_vectors xs))) (bounded_forall g d xs) (λ q. p.each q (no_bounds (firsts xs) (bounds xs) b))

-- bounds speak of nothing in a scope that a leaf settles
pub settled_wishes : (g : Game) (later : List Scope) (d : List Condition) (xs : List Seen) → is_settled later (list_after g later d) xs ≡ true → scope_wishes later g d ≡ []
settled_wishes g [] d xs e = refl
settled_wishes g (s ∷ later) d xs e = by s.kind s.condition e
  where
    asks_nothing : (dd : List Condition) → some_node (λ v. is_none_of dd && is_exact v) xs ≡ true → dd ≡ []
    asks_nothing [] e = refl
    asks_nothing (c ∷ dd) e = let f = some_never (λ v. is_none_of (c ∷ dd) && is_exact v) xs (λ v. refl) in cc

    by : (k : Kind) (own : Option Condition) → some_node (λ v. of_kind k (is_none_of (demands_after g k own d) && is_exact v) (is_lost v)) xs ≡ true → kind_wishes k own g d ≡ []
    by Exists own e = asks_nothing (demands_after g Exists own d) e
    by Forall own e = refl

pub not_unknown : (above : ℤ → Bool) (v : Verdict) → is_vague_verdict above v ≡ false → is_unknown v ≡ false
not_unknown above lost e = refl
not_unknown above (exact v) e = refl
not_unknown above (at_most p) e = refl
not_unknown above unknown e = cc

-- the words of joins say the same
pub settled_so : (g : Game) (later : List Scope) (d : List Condition) (xs : List Seen) → scope_settled later g d xs ≡ is_settled later (list_after g later d) xs
settled_so g [] d xs = sym (some_never (settles [] d) xs (λ v. refl))
settled_so g (s ∷ later) d xs = by s.kind s.condition
  where
    tested : (b : Bool) → (b && some_node is_exact xs) ≡ some_node (λ v. b && is_exact v) xs
    tested true = refl
    tested false = sym (some_never (λ v. false && is_exact v) xs (λ v. refl))

    by : (k : Kind) (own : Option Condition) → kind_settled k own g d xs ≡ some_node (λ v. of_kind k (is_none_of (demands_after g k own d) && is_exact v) (is_lost v)) xs
    by Exists own = tested (is_none_of (demands_after g Exists own d))
    by Forall own = refl

pub own_so : (g : Game) (later : List Scope) (i : ℕ) (d : List Condition) (a : List ℤ) (ls : List Leaf) → (scope_finding later g i d a ls).own ≡ scope_own later g d (map seen_of ls)
own_so g [] i d a ls = refl
own_so g (s ∷ later) i d a ls = by s.kind s.condition
  where
    by : (k : Kind) (own : Option Condition) → (kind_finding k own g i d a ls).own ≡ kind_own k own g d (map seen_of ls)
    by Exists own = refl
    by Forall own = refl

-- a scope that a leaf can settle has no condition, or is universal
pub own_none : (g : Game) (later : List Scope) (d : List Condition) (xs : List Seen) → is_settled later (list_after g later d) xs ≡ true → scope_own later g d xs ≡ None
own_none g [] d xs e = refl
own_none g (s ∷ later) d xs e = by s.kind s.condition (settled_so g (s ∷ later) d xs ∙ e)
  where
    by : (k : Kind) (own : Option Condition) → kind_settled k own g d xs ≡ true → kind_own k own g d xs ≡ None
    by Exists None e = refl
    by Exists (Some c) e = cc
    by Forall own e = refl
