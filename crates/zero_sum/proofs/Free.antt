-- In a valid game an opponent without constraints has a move.
use Rattle.std.proofs.Common.{◌≡◌, inl, inr, refl, sym, subst, ℕ, zero, suc, ◌+◌, Bool, true, false, List, [], ◌∷◌, ◌++◌, length, take, drop, arith, ℤ}
use Rattle.std.specs.Prelude.{◌==◌}
use Rattle.std.specs.List.{list_all}
use Rattle.std.proofs.lemmas.Bool.Decides.{nat_tests}
use Rattle.qc_model.specs.declared.problem.Variable.{Variable}
use Rattle.qc_model.specs.Content.{Game}
use Rattle.qc_model.specs.Lists.{Among, LiesIn}
use Rattle.qc_model.specs.Domains.{Values, domain_values, declared_box, is_none_left}
use Rattle.qc_model.specs.Holds.{holds_on}
use Rattle.qc_model.specs.Game.{before, scope_domains, restriction, moves}
use Rattle.qc_model.specs.Valid.{IsValid, is_domain}
use Rattle.qc_model.proofs.DomainValues.{domain_full}
use Rattle.qc_model.proofs.Moves.{of_map, moves_from}
use Rattle.model_laws.proofs.Listed.{all_to}
use Rattle.zero_sum.specs.Stake.{is_free}

none_fails : {X : Type 0} (p : X → Bool) (xs : List X) → (length xs == 0) ≡ true → list_all p xs ≡ true
none_fails p [] e = refl
none_fails p (x ∷ xs) e = absurd (more (length xs) (length (x ∷ xs)) (omega arith) e)
  where
    more : (n m : ℕ) → m ≡ n + 1 → (m == 0) ≡ true → ⊥
    more n m h e = grind (arith, nat_tests)

of_drop : {X : Type 0} (n : ℕ) (x : X) (xs : List X) → Among x (drop n xs) → Among x xs
of_drop zero x xs m = m
of_drop (suc n) x [] m = m
of_drop (suc n) x (y ∷ xs) m = inr (of_drop n x xs m)

of_take : {X : Type 0} (n : ℕ) (x : X) (xs : List X) → Among x (take n xs) → Among x xs
of_take zero x xs m = absurd m
of_take (suc n) x [] m = m
of_take (suc n) x (y ∷ xs) m = elim m [ inl e ↦ inl e | inr k ↦ inr (of_take n x xs k) ]

some_tuple : (ds : List Values) → ((d : Values) → Among d ds → is_none_left d ≡ false) → (t : List ℤ) × LiesIn t ds
some_tuple [] full = ([], tt)
some_tuple ([] ∷ ds) full = let never : true ≡ false = full [] (inl refl) in absurd cc
some_tuple ((v ∷ vs) ∷ ds) full = let r = some_tuple ds (λ d m. full d (inr m)) in (v ∷ r.0, (inl refl, r.1))

full_box : (g : Game) → IsValid g → (d : Values) → Among d (declared_box g) → is_none_left d ≡ false
full_box g valid d m =
    let r = of_map (λ (x : Variable). domain_values x.domain) d g.variables m in
    subst (λ vs. is_none_left vs ≡ false) (sym r.2) (domain_full r.0.domain (all_to (λ (x : Variable). is_domain x.domain) g.variables valid.domains r.0 r.1))

pub free_move : (g : Game) → IsValid g → (i : ℕ) (a : List ℤ) → is_free g i ≡ true → (t : List ℤ) × Among t (moves g i a)
free_move g valid i a free =
    let r = some_tuple (scope_domains g i) (λ d m. full_box g valid d (of_take (before g (suc i)) d (declared_box g) (of_drop (before g i) d (take (before g (suc i)) (declared_box g)) m))) in
    (r.0, moves_from g i a r.0 (record { is_tuple = r.1; is_allowed = none_fails (λ c. holds_on c (a ++ r.0)) (restriction g i) free }))
