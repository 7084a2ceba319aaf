-- What the leaves of a scope's own tree say, as a list.
use Rattle.std.proofs.Common.{◌≡◌, inl, inr, ℕ, suc, Bool, true, false, ◌&&◌, List, [], ◌∷◌, ◌++◌, length, map, drop, refl, sym, ap, ◌∙◌, subst}
use Rattle.std.specs.Prelude.{ℤ, ⊤, IsTrue}
use Rattle.std.specs.List.{list_all}
use Rattle.std.proofs.Math.Seq.{drop-append_seam}
use Rattle.qc_model.specs.declared.problem.Kind.{Kind}
use Rattle.qc_model.specs.declared.problem.Kind.TheVariants.{Exists, Forall}
use Rattle.qc_model.specs.declared.problem.Scope.{Scope}
use Rattle.qc_model.specs.declared.problem.Condition.{Condition}
use Rattle.qc_model.specs.Content.{Game}
use Rattle.qc_model.specs.Lists.{Among}
use Rattle.qc_model.specs.Domains.{Box, InBox}
use Rattle.qc_model.specs.Game.{IsMove}
use Rattle.qc_model.specs.Plan.{Plan}
use Rattle.qc_model.specs.Optimal.{Optimal}
use Rattle.qc_model.specs.Counter.{CounterWins, AnswersOnce}
use Rattle.qc_model.specs.Demands.{vector}
use Rattle.qc_model.specs.Verdict.{Seen, exact, is_lost}
use Rattle.qc_model.proofs.ExistsMeans.{SomeAllows}
use Rattle.qc_model.specs.Lists.{Distinct}
use Rattle.model_laws.specs.Verdicts.{Means, barred, skipped, marked, reaches, tuples_of}
use Rattle.model_laws.specs.Verdicts.{Claim}
use Rattle.proof_tree.specs.Finding.{Finding, Leaf, leaf_barred, leaf_skipped, leaf_bound, leaf_node, seen_of}
use Rattle.proof_meaning.proofs.LeafWords.{Reached, not_skipped}
use Rattle.proof_meaning.proofs.Passing.{GoodAfter}
use Rattle.proof_meaning.proofs.Reach.{reach}
use Rattle.proof_meaning.proofs.Entering.{TheMove}

-- the strategy is optimal, goes through the box, and has the vector
pub record Shown (g : Game) (later : List Scope) (i : ℕ) (e : List Condition) (w : List ℤ) (box : Box) (s : Plan) (v : List ℤ) : Type 0 where
  pub optimal : Optimal g later i w s
  pub lies : InBox (reach w s) box
  pub has_vector : vector g e w s ≡ v

-- a leaf that goes on; later has the scopes after i, and e is the list after i
pub record LeafMeans (g : Game) (k : Kind) (later : List Scope) (i : ℕ) (e : List Condition) (a : List ℤ) (box : Box) (w : List ℤ) (f : Finding) : Type 0 where
  pub move : TheMove g i a w box
  pub shown : (v : List ℤ) → f.verdict ≡ exact v → Shown g later (suc i) e w box f.strategy v
  pub means : k ≡ Forall → Means g e w (Optimal g later (suc i) w) f.verdict

abbrev pub EachLeaf : Game → Kind → List Scope → ℕ → List Condition → List ℤ → Box → List Leaf → Type 0
EachLeaf g k later i e a box [] = ⊤
EachLeaf g k later i e a box (leaf_barred ∷ ls) = EachLeaf g k later i e a box ls
EachLeaf g k later i e a box (leaf_skipped ∷ ls) = EachLeaf g k later i e a box ls
EachLeaf g k later i e a box (leaf_bound m ∷ ls) = EachLeaf g k later i e a box ls
EachLeaf g k later i e a box (leaf_node w f ∷ ls) = LeafMeans g k later i e a box w f × EachLeaf g k later i e a box ls

-- the counterstrategies of lost leaves win
abbrev pub EachLoses : Game → List Scope → ℕ → List Leaf → Type 0
EachLoses g later i [] = ⊤
EachLoses g later i (leaf_barred ∷ ls) = EachLoses g later i ls
EachLoses g later i (leaf_skipped ∷ ls) = EachLoses g later i ls
EachLoses g later i (leaf_bound m ∷ ls) = EachLoses g later i ls
EachLoses g later i (leaf_node w f ∷ ls) = (IsTrue (is_lost f.verdict) → CounterWins g later (suc i) w f.counter) × EachLoses g later i ls

-- the counterstrategies of the leaves have one reply for each tuple
abbrev pub EachOnce : List Leaf → Type 0
EachOnce [] = ⊤
EachOnce (leaf_barred ∷ ls) = EachOnce ls
EachOnce (leaf_skipped ∷ ls) = EachOnce ls
EachOnce (leaf_bound m ∷ ls) = EachOnce ls
EachOnce (leaf_node w f ∷ ls) = AnswersOnce f.counter × EachOnce ls

-- no mark of a bound stands among the leaves
abbrev pub is_unmarked : List Leaf → Bool
is_unmarked [] = true
is_unmarked (leaf_barred ∷ ls) = is_unmarked ls
is_unmarked (leaf_skipped ∷ ls) = is_unmarked ls
is_unmarked (leaf_bound m ∷ ls) = false
is_unmarked (leaf_node w f ∷ ls) = is_unmarked ls

-- what is claimed at a leaf, in the words of the laws of optimal play; n values stand before the scope
abbrev pub claim : ℕ → Leaf → Claim
claim n leaf_barred = barred
claim n leaf_skipped = skipped
claim n (leaf_bound m) = marked m
claim n (leaf_node w f) = reaches (drop n w) f.verdict

abbrev pub leaf_tuples : ℕ → List Leaf → List (List ℤ)
leaf_tuples n ls = tuples_of (map (claim n) ls)

pub record LeavesMean (g : Game) (is_bounded : Bool) (k : Kind) (later : List Scope) (i : ℕ) (e : List Condition) (a : List ℤ) (box : Box) (ls : List Leaf) : Type 0 where
  pub each : EachLeaf g k later i e a box ls
  pub loses : is_bounded ≡ false → (k ≡ Exists → is_unmarked ls ≡ true) → EachLoses g later i ls
  -- where nothing is skipped or bounded, each move with good values in the box has its leaf
  pub complete : (k ≡ Exists → is_unmarked ls ≡ true) → list_all not_skipped ls ≡ true → (t w : List ℤ) → IsMove g i a t → GoodAfter k g later i (a ++ t) w → InBox w box → Reached (a ++ t) ls
  -- each choice in the box is left possible by some leaf or mark
  pub covers : k ≡ Exists → (t : List ℤ) (s : Plan) → IsMove g i a t → Optimal g later (suc i) (a ++ t) s → InBox (reach (a ++ t) s) box → SomeAllows e (map seen_of ls) (vector g e (a ++ t) s)
  pub distinct : Distinct (leaf_tuples (length a) ls)
  pub once : EachOnce ls
  pub no_marks : e ≡ [] → is_unmarked ls ≡ true

-- lists one after the other
pub each_append : (g : Game) (k : Kind) (later : List Scope) (i : ℕ) (e : List Condition) (a : List ℤ) (box : Box) (ks ls : List Leaf) → EachLeaf g k later i e a box ks → EachLeaf g k later i e a box ls → EachLeaf g k later i e a box (ks ++ ls)
each_append g k later i e a box [] ls h j = j
each_append g k later i e a box (leaf_barred ∷ ks) ls h j = each_append g k later i e a box ks ls h j
each_append g k later i e a box (leaf_skipped ∷ ks) ls h j = each_append g k later i e a box ks ls h j
each_append g k later i e a box (leaf_bound m ∷ ks) ls h j = each_append g k later i e a box ks ls h j
each_append g k later i e a box (leaf_node w f ∷ ks) ls h j = (h.0, each_append g k later i e a box ks ls h.1 j)

pub loses_append : (g : Game) (later : List Scope) (i : ℕ) (ks ls : List Leaf) → EachLoses g later i ks → EachLoses g later i ls → EachLoses g later i (ks ++ ls)
loses_append g later i [] ls h j = j
loses_append g later i (leaf_barred ∷ ks) ls h j = loses_append g later i ks ls h j
loses_append g later i (leaf_skipped ∷ ks) ls h j = loses_append g later i ks ls h j
loses_append g later i (leaf_bound m ∷ ks) ls h j = loses_append g later i ks ls h j
loses_append g later i (leaf_node w f ∷ ks) ls h j = (h.0, loses_append g later i ks ls h.1 j)

pub once_append : (ks ls : List Leaf) → EachOnce ks → EachOnce ls → EachOnce (ks ++ ls)
once_append [] ls h j = j
once_append (leaf_barred ∷ ks) ls h j = once_append ks ls h j
once_append (leaf_skipped ∷ ks) ls h j = once_append ks ls h j
once_append (leaf_bound m ∷ ks) ls h j = once_append ks ls h j
once_append (leaf_node w f ∷ ks) ls h j = (h.0, once_append ks ls h.1 j)

pub unmarked_append : (ks ls : List Leaf) → is_unmarked (ks ++ ls) ≡ (is_unmarked ks && is_unmarked ls)
unmarked_append [] ls = refl
unmarked_append (leaf_barred ∷ ks) ls = unmarked_append ks ls
unmarked_append (leaf_skipped ∷ ks) ls = unmarked_append ks ls
unmarked_append (leaf_bound m ∷ ks) ls = refl
unmarked_append (leaf_node w f ∷ ks) ls = unmarked_append ks ls

pub tuples_append : (n : ℕ) (ks ls : List Leaf) → leaf_tuples n (ks ++ ls) ≡ leaf_tuples n ks ++ leaf_tuples n ls
tuples_append n [] ls = refl
tuples_append n (leaf_barred ∷ ks) ls = tuples_append n ks ls
tuples_append n (leaf_skipped ∷ ks) ls = tuples_append n ks ls
tuples_append n (leaf_bound m ∷ ks) ls = tuples_append n ks ls
tuples_append n (leaf_node w f ∷ ks) ls = ap (λ ts. drop n w ∷ ts) (tuples_append n ks ls)

pub allows_left : (e : List Condition) (xs ys : List Seen) (v : List ℤ) → SomeAllows e xs v → SomeAllows e (xs ++ ys) v
allows_left e [] ys v h = absurd h
allows_left e (x ∷ xs) ys v h = elim h [ inl q ↦ inl q | inr r ↦ inr (allows_left e xs ys v r) ]

pub allows_right : (e : List Condition) (xs ys : List Seen) (v : List ℤ) → SomeAllows e ys v → SomeAllows e (xs ++ ys) v
allows_right e [] ys v h = h
allows_right e (x ∷ xs) ys v h = inr (allows_right e xs ys v h)

-- in a wider box
pub each_wider : (g : Game) (k : Kind) (later : List Scope) (i : ℕ) (e : List Condition) (a : List ℤ) (small box : Box) (ls : List Leaf) → ((w : List ℤ) → InBox w small → InBox w box) →
    EachLeaf g k later i e a small ls → EachLeaf g k later i e a box ls
each_wider g k later i e a small box [] f h = tt
each_wider g k later i e a small box (leaf_barred ∷ ls) f h = each_wider g k later i e a small box ls f h
each_wider g k later i e a small box (leaf_skipped ∷ ls) f h = each_wider g k later i e a small box ls f h
each_wider g k later i e a small box (leaf_bound m ∷ ls) f h = each_wider g k later i e a small box ls f h
each_wider g k later i e a small box (leaf_node w x ∷ ls) f h = (
  record {
    move = record { tuple = h.0.move.tuple; after = h.0.move.after; is_move = h.0.move.is_move; lies = f w h.0.move.lies };
    shown = λ v q. let s = h.0.shown v q in record { optimal = s.optimal; lies = f (reach w x.strategy) s.lies; has_vector = s.has_vector };
    means = h.0.means;
  },
  each_wider g k later i e a small box ls f h.1,
)

-- each tuple of the leaves is a move in the box
pub tuple_lies : (g : Game) (k : Kind) (later : List Scope) (i : ℕ) (e : List Condition) (a : List ℤ) (box : Box) (ls : List Leaf) → EachLeaf g k later i e a box ls → (t : List ℤ) → Among t (leaf_tuples (length a) ls) → IsMove g i a t × InBox (a ++ t) box
tuple_lies g k later i e a box [] h t m = absurd m
tuple_lies g k later i e a box (leaf_barred ∷ ls) h t m = tuple_lies g k later i e a box ls h t m
tuple_lies g k later i e a box (leaf_skipped ∷ ls) h t m = tuple_lies g k later i e a box ls h t m
tuple_lies g k later i e a box (leaf_bound n ∷ ls) h t m = tuple_lies g k later i e a box ls h t m
tuple_lies g k later i e a box (leaf_node w f ∷ ls) h t m = elim m [
  | inl q ↦ (let p = h.0.move in
      let r : t ≡ p.tuple = q ∙ (ap (drop (length a)) p.after ∙ drop-append_seam a p.tuple) in
      (subst (IsMove g i a) (sym r) p.is_move, subst (λ u. InBox u box) (p.after ∙ ap (λ u. a ++ u) (sym r)) p.lies))
  | inr n ↦ tuple_lies g k later i e a box ls h.1 t n
]

-- a leaf that is reached has its tuple among those of the leaves
pub reached_tuple : (a t : List ℤ) (ls : List Leaf) → Reached (a ++ t) ls → Among t (leaf_tuples (length a) ls)
reached_tuple a t [] h = absurd h
reached_tuple a t (leaf_barred ∷ ls) h = reached_tuple a t ls h
reached_tuple a t (leaf_skipped ∷ ls) h = reached_tuple a t ls h
reached_tuple a t (leaf_bound m ∷ ls) h = reached_tuple a t ls h
reached_tuple a t (leaf_node w f ∷ ls) h = elim h [ inl q ↦ inl (sym (ap (drop (length a)) q ∙ drop-append_seam a t)) | inr r ↦ inr (reached_tuple a t ls r) ]
