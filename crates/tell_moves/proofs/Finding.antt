-- The tuples found after some values are the allowed ones that begin so.
use Rattle.std.proofs.Common.{◌≡◌, ◌∙◌, inl, inr, ℕ, false, cond, List, [], ◌∷◌, ◌++◌, ℤ, length, drop, map, filter, flat_map, refl, sym, ap, append_assoc, append-nil, map-id}
use Rattle.std.proofs.Math.Seq.{drop-append_seam}
use Rattle.std.proofs.lemmas.List.{map-append}
use Rattle.std.proofs.lemmas.List.Elements.{filter-append}
use Rattle.qc_model.specs.Content.{Game}
use Rattle.qc_model.specs.Domains.{Box, Values}
use Rattle.qc_model.specs.Game.{allows, scope_domains, moves}
use Rattle.qc_model.specs.Lists.{Among, LiesIn, tuples}
use Rattle.tell_moves.specs.Found.{found}

module _ (g : Game) (i : ℕ) where
  -- the allowed tuples that begin with s, where those of the other variables have these domains
  abbrev pub begun : List ℤ → List ℤ → Box → List (List ℤ)
  begun a s ds = filter (λ t. allows g i (a ++ t)) (map (λ u. s ++ u) (tuples ds))

  begun_each : (a s : List ℤ) (d : Values) (ds : Box) →
      filter (λ t. allows g i (a ++ t)) (map (λ u. s ++ u) (flat_map (λ v. map (λ t. v ∷ t) (tuples ds)) d)) ≡ flat_map (λ v. begun a (s ++ v ∷ []) ds) d
  begun_each a s [] ds = refl
  begun_each a s (v ∷ d) ds =
      ap (filter (λ t. allows g i (a ++ t))) (map-append (λ u. s ++ u) (map (λ t. v ∷ t) (tuples ds)) (flat_map (λ v. map (λ t. v ∷ t) (tuples ds)) d))
      ∙ (filter-append (λ t. allows g i (a ++ t)) (map (λ u. s ++ u) (map (λ t. v ∷ t) (tuples ds))) (map (λ u. s ++ u) (flat_map (λ v. map (λ t. v ∷ t) (tuples ds)) d))
      ∙ (ap (λ us. filter (λ t. allows g i (a ++ t)) us ++ filter (λ t. allows g i (a ++ t)) (map (λ u. s ++ u) (flat_map (λ v. map (λ t. v ∷ t) (tuples ds)) d))) (onto (tuples ds))
      ∙ ap (λ us. begun a (s ++ v ∷ []) ds ++ us) (begun_each a s d ds)))
    where
      onto : (ts : List (List ℤ)) → map (λ u. s ++ u) (map (λ t. v ∷ t) ts) ≡ map (λ u. (s ++ v ∷ []) ++ u) ts
      onto [] = refl
      onto (t ∷ ts) = ap (λ x. x ∷ map (λ u. s ++ u) (map (λ t. v ∷ t) ts)) (sym (append_assoc s (v ∷ []) t)) ∙ ap (λ xs. ((s ++ v ∷ []) ++ t) ∷ xs) (onto ts)

  each_found : (a s : List ℤ) (vs : Values) (ds : Box) → ((u : List ℤ) → found g i (length a) (a ++ u) ds ≡ begun a u ds) →
      flat_map (λ v. found g i (length a) ((a ++ s) ++ v ∷ []) ds) vs ≡ flat_map (λ v. begun a (s ++ v ∷ []) ds) vs
  each_found a s [] ds k = refl
  each_found a s (v ∷ vs) ds k =
      ap (λ w. found g i (length a) w ds ++ flat_map (λ v. found g i (length a) ((a ++ s) ++ v ∷ []) ds) vs) (append_assoc a s (v ∷ []))
      ∙ (ap (λ us. us ++ flat_map (λ v. found g i (length a) ((a ++ s) ++ v ∷ []) ds) vs) (k (s ++ v ∷ []))
      ∙ ap (λ us. begun a (s ++ v ∷ []) ds ++ us) (each_found a s vs ds k))

  pub found_is : (a s : List ℤ) (ds : Box) → found g i (length a) (a ++ s) ds ≡ begun a s ds
  found_is a s [] =
      ap (λ u. cond (allows g i (a ++ s)) (u ∷ []) []) (drop-append_seam a s)
      ∙ ap (λ u. cond (allows g i (a ++ u)) (u ∷ []) []) (sym (append-nil s))
  found_is a s (d ∷ ds) = each_found a s d ds (λ u. found_is a u ds) ∙ sym (begun_each a s d ds)

  -- after the values before the scope they are all its allowed tuples
  pub found_moves : (a : List ℤ) → found g i (length a) a (scope_domains g i) ≡ moves g i a
  found_moves a =
      ap (λ w. found g i (length a) w (scope_domains g i)) (sym (append-nil a))
      ∙ (found_is a [] (scope_domains g i) ∙ ap (filter (λ t. allows g i (a ++ t))) (map-id (tuples (scope_domains g i))))

  -- where no tuple that begins so is allowed there are none
  each_none : (n : ℕ) (w : List ℤ) (vs : Values) (ds : Box) → ((v : ℤ) → Among v vs → found g i n (w ++ v ∷ []) ds ≡ []) → flat_map (λ v. found g i n (w ++ v ∷ []) ds) vs ≡ []
  each_none n w [] ds k = refl
  each_none n w (v ∷ vs) ds k =
      ap (λ us. us ++ flat_map (λ v. found g i n (w ++ v ∷ []) ds) vs) (k v (inl refl)) ∙ each_none n w vs ds (λ u m. k u (inr m))

  pub found_none : (n : ℕ) (w : List ℤ) (ds : Box) → ((t : List ℤ) → LiesIn t ds → allows g i (w ++ t) ≡ false) → found g i n w ds ≡ []
  found_none n w [] f = ap (λ b. cond b (drop n w ∷ []) []) (ap (allows g i) (sym (append-nil w)) ∙ f [] tt)
  found_none n w (d ∷ ds) f =
      each_none n w d ds (λ v m. found_none n (w ++ v ∷ []) ds (λ t l. ap (allows g i) (append_assoc w (v ∷ []) t) ∙ f (v ∷ t) (m, l)))
