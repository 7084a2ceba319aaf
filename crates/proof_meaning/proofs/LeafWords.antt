-- Words on lists of leaves: which go on with given values, and what is read from them.
use Rattle.std.proofs.Common.{◌≡◌, ◌⊎◌, inl, inr, Bool, true, false, ◌&&◌, List, [], ◌∷◌, ◌++◌, map, refl, sym, ap, ◌∙◌, subst, cond}
use Rattle.std.specs.Prelude.{ℤ}
use Rattle.std.specs.List.{list_all}
use Rattle.std.specs.Ordering.{int_eq}
use Rattle.std.proofs.lemmas.Bool.Decides.{Decides-int_eq}
use Rattle.std.proofs.lemmas.Bool.{and_parts}
use Rattle.qc_model.specs.Lists.{Among, same_values}
use Rattle.qc_model.specs.Plan.{Plan, entry_tuples, EachEntry}
use Rattle.qc_model.specs.Verdict.{Verdict, lost, exact, unknown, Seen, is_exact, is_lost, some_node, each_node}
use Rattle.qc_model.specs.ExistsVerdict.{plain_exists}
use Rattle.proof_tree.specs.Finding.{Leaf, leaf_barred, leaf_skipped, leaf_bound, leaf_node, seen_of, strategy_at, answers}
use Rattle.proof_meaning.proofs.Boxes.{differ}

-- a leaf goes on with these values
abbrev pub Reached : List ℤ → List Leaf → Type 0
Reached w [] = ⊥
Reached w (leaf_barred ∷ ls) = Reached w ls
Reached w (leaf_skipped ∷ ls) = Reached w ls
Reached w (leaf_bound m ∷ ls) = Reached w ls
Reached w (leaf_node u f ∷ ls) = (u ≡ w) ⊎ Reached w ls

abbrev pub not_skipped : Leaf → Bool
not_skipped leaf_barred = true
not_skipped leaf_skipped = false
not_skipped (leaf_bound m) = true
not_skipped (leaf_node w f) = true

pub reached_left : (w : List ℤ) (ks ls : List Leaf) → Reached w ks → Reached w (ks ++ ls)
reached_left w [] ls h = absurd h
reached_left w (leaf_barred ∷ ks) ls h = reached_left w ks ls h
reached_left w (leaf_skipped ∷ ks) ls h = reached_left w ks ls h
reached_left w (leaf_bound m ∷ ks) ls h = reached_left w ks ls h
reached_left w (leaf_node u f ∷ ks) ls h = elim h [ inl e ↦ inl e | inr m ↦ inr (reached_left w ks ls m) ]

pub reached_right : (w : List ℤ) (ks ls : List Leaf) → Reached w ls → Reached w (ks ++ ls)
reached_right w [] ls h = h
reached_right w (leaf_barred ∷ ks) ls h = reached_right w ks ls h
reached_right w (leaf_skipped ∷ ks) ls h = reached_right w ks ls h
reached_right w (leaf_bound m ∷ ks) ls h = reached_right w ks ls h
reached_right w (leaf_node u f ∷ ks) ls h = inr (reached_right w ks ls h)

pub none_skipped : (p : Verdict → Bool) (ls : List Leaf) → each_node p (map seen_of ls) ≡ true → list_all not_skipped ls ≡ true
none_skipped p [] e = refl
none_skipped p (leaf_barred ∷ ls) e = none_skipped p ls e
none_skipped p (leaf_skipped ∷ ls) e = cc
none_skipped p (leaf_bound m ∷ ls) e = none_skipped p ls e
none_skipped p (leaf_node w f ∷ ls) e = none_skipped p ls (and_parts (p f.verdict) (each_node p (map seen_of ls)) e).1

pub same_true : (u w : List ℤ) → same_values u w ≡ true → u ≡ w
same_true [] [] e = refl
same_true [] (y ∷ w) e = cc
same_true (x ∷ u) [] e = cc
same_true (x ∷ u) (y ∷ w) e =
    let p = and_parts (int_eq x y) (same_values u w) e in
    let h : x ≡ y = (Decides-int_eq x y).0 p.0 in
    let k : u ≡ w = same_true u w p.1 in cc

pub same_self : (w : List ℤ) → same_values w w ≡ true
same_self [] = refl
same_self (x ∷ w) = ap (λ b. b && same_values w w) ((Decides-int_eq x x).1 refl) ∙ same_self w

pub answer_tuples : (a : List ℤ) (ls : List Leaf) (ts : List (List ℤ)) → entry_tuples (answers a ls ts) ≡ ts
answer_tuples a ls [] = refl
answer_tuples a ls (t ∷ ts) = ap (λ us. t ∷ us) (answer_tuples a ls ts)

pub answer_each : (R : List ℤ → Plan → Type 0) (a : List ℤ) (ls : List Leaf) (ts : List (List ℤ)) → ((t : List ℤ) → Among t ts → R t (strategy_at (a ++ t) ls)) → EachEntry R (answers a ls ts)
answer_each R a ls [] h = tt
answer_each R a ls (t ∷ ts) h = (h t (inl refl), answer_each R a ls ts (λ u m. h u (inr m)))

pub decide_reached : (w : List ℤ) (ls : List Leaf) → Reached w ls ⊎ (Reached w ls → ⊥)
decide_reached w [] = inr (λ h. h)
decide_reached w (leaf_barred ∷ ls) = decide_reached w ls
decide_reached w (leaf_skipped ∷ ls) = decide_reached w ls
decide_reached w (leaf_bound m ∷ ls) = decide_reached w ls
decide_reached w (leaf_node u f ∷ ls) = go (same_values u w) refl (decide_reached w ls)
  where
    go : (b : Bool) → same_values u w ≡ b → Reached w ls ⊎ (Reached w ls → ⊥) → ((u ≡ w) ⊎ Reached w ls) ⊎ ((u ≡ w) ⊎ Reached w ls → ⊥)
    go true q r = inl (inl (same_true u w q))
    go false q r = elim r [
      | inl k ↦ inl (inr k)
      | inr n ↦ inr (λ h. elim h [ inl e ↦ differ (sym q ∙ subst (λ v. same_values u v ≡ true) e (same_self u)) | inr k ↦ n k ])
    ]

pub exists_lost : (xs : List Seen) → is_lost (plain_exists xs) ≡ true → each_node is_lost xs ≡ true
exists_lost xs e = go (some_node is_exact xs) (each_node is_lost xs) e
  where
    go : (a b : Bool) → is_lost (cond a (exact []) (cond b lost unknown)) ≡ true → b ≡ true
    go true b e = cc
    go false true e = refl
    go false false e = e
