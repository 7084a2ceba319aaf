-- What is read from leaves, where others come after them.
use Rattle.std.proofs.Common.{◌≡◌, ℕ, Bool, true, false, cond, List, [], ◌∷◌, ◌++◌, map, drop, refl, sym, ap, ◌∙◌, ℤ}
use Rattle.std.specs.Prelude.{⊤}
use Rattle.std.proofs.lemmas.Bool.{and_parts}
use Rattle.qc_model.specs.Plan.{Plan, finish, choose, Entries, no_entries, entry}
use Rattle.qc_model.specs.Verdict.{Verdict, exact, seen_node, each_node, exact_vectors}
use Rattle.joins.proofs.Bests.{each_join, vectors_join, append_nothing}
use Rattle.proof_tree.specs.Finding.{Finding, Leaf, leaf_barred, leaf_skipped, leaf_bound, leaf_node, seen_of, first_choice}
use Rattle.check_lines.proofs.Leaves.{seen-append}
use Rattle.qc_play.specs.Entries.{entries_on}

-- the leaf doesn't go on
abbrev pub IsQuiet : Leaf → Type 0
IsQuiet leaf_barred = ⊤
IsQuiet leaf_skipped = ⊤
IsQuiet (leaf_bound m) = ⊤
IsQuiet (leaf_node w f) = ⊥

pub vectors_more : (ls ms : List Leaf) → exact_vectors (map seen_of (ls ++ ms)) ≡ exact_vectors (map seen_of ls) ++ exact_vectors (map seen_of ms)
vectors_more ls ms = ap exact_vectors (seen-append ls ms) ∙ vectors_join (map seen_of ls) (map seen_of ms)

-- a leaf that isn't exact
pub vectors_same : (ls : List Leaf) (l : Leaf) → exact_vectors (seen_of l ∷ []) ≡ [] → exact_vectors (map seen_of (ls ++ l ∷ [])) ≡ exact_vectors (map seen_of ls)
vectors_same ls l e =
    vectors_more ls (l ∷ [])
    ∙ (ap (λ vs. exact_vectors (map seen_of ls) ++ vs) e ∙ append_nothing (exact_vectors (map seen_of ls)))

-- and one that is
pub vectors_exact : (ls : List Leaf) (w : List ℤ) (f : Finding) (v : List ℤ) → f.verdict ≡ exact v → exact_vectors (map seen_of (ls ++ leaf_node w f ∷ [])) ≡ exact_vectors (map seen_of ls) ++ v ∷ []
vectors_exact ls w f v e =
    vectors_more ls (leaf_node w f ∷ [])
    ∙ ap (λ x. exact_vectors (map seen_of ls) ++ exact_vectors (seen_node x ∷ [])) e

pub quiet_vectors : (l : Leaf) → IsQuiet l → exact_vectors (seen_of l ∷ []) ≡ []
quiet_vectors leaf_barred q = refl
quiet_vectors leaf_skipped q = refl
quiet_vectors (leaf_bound m) q = refl
quiet_vectors (leaf_node w f) q = absurd q

pub each_before : (p : Verdict → Bool) (ls ms : List Leaf) → each_node p (map seen_of (ls ++ ms)) ≡ true → (each_node p (map seen_of ls) ≡ true) × (each_node p (map seen_of ms) ≡ true)
each_before p ls ms e =
    and_parts (each_node p (map seen_of ls)) (each_node p (map seen_of ms))
    (sym (ap (each_node p) (seen-append ls ms) ∙ each_join p (map seen_of ls) (map seen_of ms)) ∙ e)

-- and the leaf after them passes too
pub each_last : (p : Verdict → Bool) (ls : List Leaf) (w : List ℤ) (f : Finding) → each_node p (map seen_of (ls ++ leaf_node w f ∷ [])) ≡ true → (each_node p (map seen_of ls) ≡ true) × (p f.verdict ≡ true)
each_last p ls w f e =
    let q = each_before p ls (leaf_node w f ∷ []) e in
    (q.0, (and_parts (p f.verdict) true q.1).0)

-- no choice yet
pub choice_none : (p : Verdict → Bool) (plan : Finding → Plan) (n : ℕ) (ls ms : List Leaf) → first_choice p plan n ls ≡ finish → first_choice p plan n (ls ++ ms) ≡ first_choice p plan n ms
choice_none p plan n [] ms e = refl
choice_none p plan n (leaf_barred ∷ ls) ms e = choice_none p plan n ls ms e
choice_none p plan n (leaf_skipped ∷ ls) ms e = choice_none p plan n ls ms e
choice_none p plan n (leaf_bound m ∷ ls) ms e = choice_none p plan n ls ms e
choice_none p plan n (leaf_node w f ∷ ls) ms e = by (p f.verdict) (choice_none p plan n ls ms) e
  where
    by : (b : Bool) → (first_choice p plan n ls ≡ finish → first_choice p plan n (ls ++ ms) ≡ first_choice p plan n ms) → cond b (choose (drop n w) (plan f)) (first_choice p plan n ls) ≡ finish →
        cond b (choose (drop n w) (plan f)) (first_choice p plan n (ls ++ ms)) ≡ first_choice p plan n ms
    by true k e = cc
    by false k e = k e

-- there is one
pub choice_some : (p : Verdict → Bool) (plan : Finding → Plan) (n : ℕ) (ls ms : List Leaf) (t : List ℤ) (s : Plan) → first_choice p plan n ls ≡ choose t s → first_choice p plan n (ls ++ ms) ≡ choose t s
choice_some p plan n [] ms t s e = cc
choice_some p plan n (leaf_barred ∷ ls) ms t s e = choice_some p plan n ls ms t s e
choice_some p plan n (leaf_skipped ∷ ls) ms t s e = choice_some p plan n ls ms t s e
choice_some p plan n (leaf_bound m ∷ ls) ms t s e = choice_some p plan n ls ms t s e
choice_some p plan n (leaf_node w f ∷ ls) ms t s e = by (p f.verdict) (choice_some p plan n ls ms t s) e
  where
    by : (b : Bool) → (first_choice p plan n ls ≡ choose t s → first_choice p plan n (ls ++ ms) ≡ choose t s) → cond b (choose (drop n w) (plan f)) (first_choice p plan n ls) ≡ choose t s →
        cond b (choose (drop n w) (plan f)) (first_choice p plan n (ls ++ ms)) ≡ choose t s
    by true k e = e
    by false k e = k e

-- a leaf that doesn't pass is no choice
pub choice_quiet : (p : Verdict → Bool) (plan : Finding → Plan) (n : ℕ) (ls : List Leaf) (l : Leaf) → first_choice p plan n (l ∷ []) ≡ finish → first_choice p plan n (ls ++ l ∷ []) ≡ first_choice p plan n ls
choice_quiet p plan n [] l q = q
choice_quiet p plan n (leaf_barred ∷ ls) l q = choice_quiet p plan n ls l q
choice_quiet p plan n (leaf_skipped ∷ ls) l q = choice_quiet p plan n ls l q
choice_quiet p plan n (leaf_bound m ∷ ls) l q = choice_quiet p plan n ls l q
choice_quiet p plan n (leaf_node w f ∷ ls) l q = ap (cond (p f.verdict) (choose (drop n w) (plan f))) (choice_quiet p plan n ls l q)

pub no_choice : (p : Verdict → Bool) (plan : Finding → Plan) (n : ℕ) (l : Leaf) → IsQuiet l → first_choice p plan n (l ∷ []) ≡ finish
no_choice p plan n leaf_barred q = refl
no_choice p plan n leaf_skipped q = refl
no_choice p plan n (leaf_bound m) q = refl
no_choice p plan n (leaf_node w f) q = absurd q

-- an entry at the end
abbrev pub add_entry : Entries → List ℤ → Plan → Entries
add_entry no_entries u r = entry u r no_entries
add_entry (entry t s rest) u r = entry t s (add_entry rest u r)

pub entries_more : (plan : Finding → Plan) (n : ℕ) (ls : List Leaf) (w : List ℤ) (f : Finding) → entries_on plan n (ls ++ leaf_node w f ∷ []) ≡ add_entry (entries_on plan n ls) (drop n w) (plan f)
entries_more plan n [] w f = refl
entries_more plan n (leaf_barred ∷ ls) w f = entries_more plan n ls w f
entries_more plan n (leaf_skipped ∷ ls) w f = entries_more plan n ls w f
entries_more plan n (leaf_bound m ∷ ls) w f = entries_more plan n ls w f
entries_more plan n (leaf_node u h ∷ ls) w f = ap (entry (drop n u) (plan h)) (entries_more plan n ls w f)

pub entries_quiet : (plan : Finding → Plan) (n : ℕ) (ls : List Leaf) (l : Leaf) → IsQuiet l → entries_on plan n (ls ++ l ∷ []) ≡ entries_on plan n ls
entries_quiet plan n [] leaf_barred q = refl
entries_quiet plan n [] leaf_skipped q = refl
entries_quiet plan n [] (leaf_bound m) q = refl
entries_quiet plan n [] (leaf_node w f) q = absurd q
entries_quiet plan n (leaf_barred ∷ ls) l q = entries_quiet plan n ls l q
entries_quiet plan n (leaf_skipped ∷ ls) l q = entries_quiet plan n ls l q
entries_quiet plan n (leaf_bound m ∷ ls) l q = entries_quiet plan n ls l q
entries_quiet plan n (leaf_node u h ∷ ls) l q = ap (entry (drop n u) (plan h)) (entries_quiet plan n ls l q)
