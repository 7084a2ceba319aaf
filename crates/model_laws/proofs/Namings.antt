-- The first namings of a list: each aggregate once, and its place.
use Rattle.std.proofs.Common.{◌≡◌, ◌⊎◌, inl, inr, ℕ, suc, Bool, true, false, ◌||◌, List, [], ◌∷◌, ◌++◌, map, drop, refl, sym, ap, ◌∙◌, subst, ℤ, pos, cond, eq-eqb, eqb-true}
use Rattle.std.specs.Prelude.{◌==◌, slice_get, slice_index_or, Some, ⊤}
use Rattle.std.proofs.lemmas.List.{append_assoc, append-nil}
use Rattle.std.proofs.lemmas.List.Folds.{list_any-append}
use Rattle.std.proofs.lemmas.Bool.{or_cases, or_left, or_right, or_from, false_from_ne_true}
use Rattle.qc_model.specs.declared.problem.Target.{Target}
use Rattle.qc_model.specs.declared.problem.Target.TheVariants.{Var, Aggregate as Agg}
use Rattle.qc_model.specs.declared.problem.Condition.{Condition}
use Rattle.qc_model.specs.Content.{Game}
use Rattle.qc_model.specs.Value.{inner_target}
use Rattle.qc_model.specs.Demands.{is_aggregate, names, with_naming, first_namings, demand_within, place_among}
use Rattle.qc_model.specs.Verdict.{first_value}
use Rattle.model_laws.specs.Branches.{IsAggregate}

not_both : (b : Bool) → b ≡ true → b ≡ false → ⊥
not_both true e f = cc
not_both false e f = cc

abbrev pub number_of : Target → ℕ
number_of (Var x) = 0
number_of (Agg q) = q.0

pub is_itself : (q : ℕ) → (q == q) ≡ true
is_itself q = eq-eqb q q refl

pub names_itself : (t : Target) → IsAggregate t → is_aggregate (number_of t) t ≡ true
names_itself (Var x) h = absurd h
names_itself (Agg q) h = is_itself q.0

pub named_is : (q : ℕ) (t : Target) → is_aggregate q t ≡ true → (IsAggregate t) × (number_of t ≡ q)
named_is q (Var x) e = cc
named_is q (Agg r) e = (tt, eqb-true r.0 q e)

-- the entries of d that are the first to name their aggregate, where those of p came before
abbrev pub keep : List Condition → Condition → Target → List Condition → List Condition → List Condition
keep p c (Var x) skip more = skip
keep p c (Agg q) skip more = cond (names q.0 p) skip (c ∷ more)

abbrev pub fresh : List Condition → List Condition → List Condition
fresh p [] = []
fresh p (c ∷ d) = keep p c c.target (fresh p d) (fresh (p ++ c ∷ []) d)

pub namings_fresh : (p d : List Condition) → first_namings p d ≡ p ++ fresh p d
namings_fresh p [] = sym (append-nil p)
namings_fresh p (c ∷ d) = by c.target (namings_fresh p d) (namings_fresh (p ++ c ∷ []) d)
  where
    split : (b : Bool) → first_namings p d ≡ p ++ fresh p d → first_namings (p ++ c ∷ []) d ≡ (p ++ c ∷ []) ++ fresh (p ++ c ∷ []) d →
        first_namings (cond b p (p ++ c ∷ [])) d ≡ p ++ cond b (fresh p d) (c ∷ fresh (p ++ c ∷ []) d)
    split true h k = h
    split false h k = k ∙ append_assoc p (c ∷ []) (fresh (p ++ c ∷ []) d)

    by : (t : Target) → first_namings p d ≡ p ++ fresh p d → first_namings (p ++ c ∷ []) d ≡ (p ++ c ∷ []) ++ fresh (p ++ c ∷ []) d →
        first_namings (with_naming p c t) d ≡ p ++ keep p c t (fresh p d) (fresh (p ++ c ∷ []) d)
    by (Var x) h k = h
    by (Agg q) h k = split (names q.0 p) h k

-- whether the list names q after c is put at its end
names_end : (q : ℕ) (p : List Condition) (c : Condition) → names q (p ++ c ∷ []) ≡ (names q p || (is_aggregate q c.target || false))
names_end q p c = list_any-append (λ b. is_aggregate q b.target) p (c ∷ [])

pub names_before : (q : ℕ) (p : List Condition) (c : Condition) → names q p ≡ true → names q (p ++ c ∷ []) ≡ true
names_before q p c h = names_end q p c ∙ or_left (names q p) (is_aggregate q c.target || false) h

pub names_last : (q : ℕ) (p : List Condition) (c : Condition) → is_aggregate q c.target ≡ true → names q (p ++ c ∷ []) ≡ true
names_last q p c h = names_end q p c ∙ or_right (names q p) (is_aggregate q c.target || false) (or_left (is_aggregate q c.target) false h)

pub names_either : (q : ℕ) (p : List Condition) (c : Condition) → names q (p ++ c ∷ []) ≡ true → (names q p ≡ true) ⊎ (is_aggregate q c.target ≡ true)
names_either q p c h = elim (or_cases (names q p) (is_aggregate q c.target || false) (sym (names_end q p c) ∙ h)) [
  | inl e ↦ inl e
  | inr e ↦ elim (or_cases (is_aggregate q c.target) false e) [ inl f ↦ inr f | inr f ↦ absurd (not_both false f refl) ]
]

-- what was named before is no fresh naming
not_fresh : (q : ℕ) (p d : List Condition) → names q p ≡ true → names q (fresh p d) ≡ false
not_fresh q p [] h = refl
not_fresh q p (c ∷ d) h = by c.target refl (not_fresh q p d h) (not_fresh q (p ++ c ∷ []) d (names_before q p c h))
  where
    by : (t : Target) → c.target ≡ t → names q (fresh p d) ≡ false → names q (fresh (p ++ c ∷ []) d) ≡ false → names q (keep p c t (fresh p d) (fresh (p ++ c ∷ []) d)) ≡ false
    by (Var x) e f k = f
    by (Agg r) e f k = split (names r.0 p) refl
      where
        other : names r.0 p ≡ false → is_aggregate q c.target ≡ false
        other n = false_from_ne_true (is_aggregate q c.target) (λ m. (let s : r.0 ≡ q = eqb-true r.0 q (ap (is_aggregate q) (sym e) ∙ m) in not_both (names r.0 p) (ap (λ z. names z p) s ∙ h) n))

        split : (b : Bool) → names r.0 p ≡ b → names q (cond b (fresh p d) (c ∷ fresh (p ++ c ∷ []) d)) ≡ false
        split true n = f
        split false n = or_from (is_aggregate q c.target) (names q (fresh (p ++ c ∷ []) d)) (other n) k

-- each entry names an aggregate, which no later entry names
abbrev pub NamesOnce : List Condition → Type 0
NamesOnce [] = ⊤
NamesOnce (c ∷ d) = (IsAggregate c.target × (names (number_of c.target) d ≡ false)) × NamesOnce d

pub fresh_once : (p d : List Condition) → NamesOnce (fresh p d)
fresh_once p [] = tt
fresh_once p (c ∷ d) = by c.target refl (fresh_once p d) (fresh_once (p ++ c ∷ []) d)
  where
    by : (t : Target) → c.target ≡ t → NamesOnce (fresh p d) → NamesOnce (fresh (p ++ c ∷ []) d) → NamesOnce (keep p c t (fresh p d) (fresh (p ++ c ∷ []) d))
    by (Var x) e f k = f
    by (Agg r) e f k = split (names r.0 p)
      where
        is : IsAggregate c.target
        is = subst IsAggregate (sym e) tt

        split : (b : Bool) → NamesOnce (cond b (fresh p d) (c ∷ fresh (p ++ c ∷ []) d))
        split true = f
        split false = ((is, not_fresh (number_of c.target) (p ++ c ∷ []) d (names_last (number_of c.target) p c (names_itself c.target is))), k)

-- what the list names is named first somewhere
pub first_named : (q : ℕ) (p d : List Condition) → (names q p ≡ true) ⊎ (names q d ≡ true) → names q (first_namings p d) ≡ true
first_named q p [] h = elim h [ inl e ↦ e | inr e ↦ absurd (not_both false e refl) ]
first_named q p (c ∷ d) h = first_named q (with_naming p c c.target) d (elim h [ inl e ↦ inl (kept c.target e) | inr e ↦ elim (or_cases (is_aggregate q c.target) (names q d) e) [ inl f ↦ inl (added c.target refl f) | inr f ↦ inr f ] ])
  where
    kept : (t : Target) → names q p ≡ true → names q (with_naming p c t) ≡ true
    kept (Var x) e = e
    kept (Agg r) e = split (names r.0 p)
      where
        split : (b : Bool) → names q (cond b p (p ++ c ∷ [])) ≡ true
        split true = e
        split false = names_before q p c e

    added : (t : Target) → c.target ≡ t → is_aggregate q c.target ≡ true → names q (with_naming p c t) ≡ true
    added (Var x) e f = absurd (not_both false (ap (is_aggregate q) (sym e) ∙ f) refl)
    added (Agg r) e f = split (names r.0 p) refl
      where
        same : r.0 ≡ q
        same = eqb-true r.0 q (ap (is_aggregate q) (sym e) ∙ f)

        split : (b : Bool) → names r.0 p ≡ b → names q (cond b p (p ++ c ∷ [])) ≡ true
        split true n = ap (λ z. names z p) (sym same) ∙ n
        split false n = names_last q p c f

-- at the place of an aggregate the list after the scope asks for its own target
pub record Asked (g : Game) (q : ℕ) (d : List Condition) : Type 0 where
  pub entry : Condition
  pub at_place : slice_get (map (demand_within g) d) (place_among q d) ≡ Some entry
  pub target : entry.target ≡ inner_target (slice_get g.aggregates q)

pub asked : (g : Game) (q : ℕ) (d : List Condition) → names q d ≡ true → Asked g q d
asked g q [] h = absurd (not_both false h refl)
asked g q (c ∷ d) h = split (is_aggregate q c.target) refl (asked g q d)
  where
    within : (t : Target) → is_aggregate q t ≡ true → (demand_within g (record { sense = c.sense; target = t })).target ≡ inner_target (slice_get g.aggregates q)
    within (Var x) e = cc
    within (Agg r) e = ap (λ n. inner_target (slice_get g.aggregates n)) (eqb-true r.0 q e)

    split : (b : Bool) → is_aggregate q c.target ≡ b → (names q d ≡ true → Asked g q d) → Asked g q (c ∷ d)
    split true e f = record {
      entry = demand_within g c;
      at_place = ap (λ b. slice_get (map (demand_within g) (c ∷ d)) (cond b 0 (suc (place_among q d)))) e;
      target = within c.target e;
    }
    split false e f =
        let r = f (ap (λ b. b || names q d) (sym e) ∙ h) in
        record {
          entry = r.entry;
          at_place = ap (λ b. slice_get (map (demand_within g) (c ∷ d)) (cond b 0 (suc (place_among q d)))) e ∙ r.at_place;
          target = r.target;
        }

-- ns has for the aggregate of each entry the values that the vectors have at its place
abbrev pub Columns : (ℕ → List ℤ) → List Condition → List (List ℤ) → Type 0
Columns ns [] ws = ⊤
Columns ns (c ∷ d) ws = (ns (number_of c.target) ≡ map first_value ws) × Columns ns d (map (λ w. drop 1 w) ws)

first_is : (ws : List (List ℤ)) → map (λ w. slice_index_or w 0 (pos 0)) ws ≡ map first_value ws
first_is [] = refl
first_is ([] ∷ ws) = ap (λ zs. pos 0 ∷ zs) (first_is ws)
first_is ((x ∷ w) ∷ ws) = ap (λ zs. x ∷ zs) (first_is ws)

next_is : (k : ℕ) (ws : List (List ℤ)) → map (λ w. slice_index_or w (suc k) (pos 0)) ws ≡ map (λ w. slice_index_or w k (pos 0)) (map (λ w. drop 1 w) ws)
next_is k [] = refl
next_is k ([] ∷ ws) = ap (λ zs. slice_index_or [] k (pos 0) ∷ zs) (next_is k ws)
next_is k ((x ∷ w) ∷ ws) = ap (λ zs. slice_index_or w k (pos 0) ∷ zs) (next_is k ws)

pub columns : (ns : ℕ → List ℤ) (d : List Condition) (ws : List (List ℤ)) → NamesOnce d →
    ((q : ℕ) → names q d ≡ true → ns q ≡ map (λ w. slice_index_or w (place_among q d) (pos 0)) ws) → Columns ns d ws
columns ns [] ws o f = tt
columns ns (c ∷ d) ws o f = (here, columns ns d (map (λ w. drop 1 w) ws) o.1 there)
  where
    at : Bool → ℕ → List ℤ
    at b q = map (λ w. slice_index_or w (cond b 0 (suc (place_among q d))) (pos 0)) ws

    here : ns (number_of c.target) ≡ map first_value ws
    here =
        let n = number_of c.target in
        let e = names_itself c.target o.0.0 in
        f n (or_left (is_aggregate n c.target) (names n d) e) ∙ ap (λ b. at b n) e ∙ first_is ws

    there : (q : ℕ) → names q d ≡ true → ns q ≡ map (λ w. slice_index_or w (place_among q d) (pos 0)) (map (λ w. drop 1 w) ws)
    there q m =
        f q (or_right (is_aggregate q c.target) (names q d) m)
        ∙ ap (λ b. at b q) (false_from_ne_true (is_aggregate q c.target) (λ e. not_both (names (number_of c.target) d) (ap (λ z. names z d) (named_is q c.target e).1 ∙ m) o.0.1))
        ∙ next_is (place_among q d) ws
