-- What stands for a symbol, and what is owed after its first byte, are the same texts.
use Rattle.std.proofs.Common.{◌≡◌, inl, inr, refl, sym, ap, ◌∙◌, subst, ℕ, suc, ◌+◌, ◌^◌, ◌≤◌, ◌<◌, List, [], ◌∷◌, Option, Some, Bool, true, false, ◌&&◌, ◌||◌, cond, eqb, arith, leb-true, le-leb}
use Rattle.std.specs.Prelude.{nat_le, nat_eq}
use Rattle.std.specs.List.{list_all}
use Rattle.std.proofs.lemmas.Bool.{and_from, and_parts, eqb-true}
use Rattle.proof_tree.specs.declared.tree.Version.TheVariants.{One, Two}
use Rattle.proof_text.specs.Symbols.{Symbol, byte, number, signed, digits, certificate, outcome, optimum, prunes, node, body, cases, ending, case, branches, Choices, after, chosen, first_digit, next_digit, certificate_choices, outcome_choices, optimum_choices, prune_choices, ending_choices, case_choices, body_choices, node_choices, one_choices, branch_choices}
use Rattle.proof_text.specs.Running.{nests_within}
use Rattle.proof_text.proofs.Grammar.{Begins, Runs, Choice}
use Rattle.proof_text.proofs.Choices.{Enters, choice_enters, chosen_choice}
use Rattle.proof_text.proofs.Forward.{certificate_choice, outcome_choice, optimum_choice, prune_choice, ending_choice, case_choice, body_choice, node_choice, one_choice, branch_choice}
use Rattle.proof_text.proofs.Backward.{certificate_back, outcome_back, optimum_back, prune_back, ending_back, case_back, body_back, node_back, one_back, branch_back}
use Rattle.proof_text.proofs.Numbers.{number_enters, signed_enters, digits_enter, number_leaves, signed_leaves, digits_leave, is_first, is_next}

-- the ranges of numbers that occur, and the bytes after them
abbrev pub is_range : ℕ → ℕ → Bool
is_range most end = nat_le 9 most && nat_le most (2 ^ 62) && nat_le end 47

abbrev pub is_sound : Symbol → Bool
is_sound (byte c) = true
is_sound (number most end) = is_range most end
is_sound (signed most end) = is_range most end
is_sound (digits most v end) = nat_le v most && is_range most end
is_sound certificate = true
is_sound outcome = true
is_sound optimum = true
is_sound prunes = true
is_sound (node ver n) = true
is_sound (body ver n) = true
is_sound (cases ver n) = true
is_sound (ending ver n) = true
is_sound (case ver n) = true
is_sound (branches ver n) = true

pub record Range (most end : ℕ) : Type 0 where
  pub low : 9 ≤ most
  pub high : most ≤ 2 ^ 62
  pub ended : end < 48

pub range : (most end : ℕ) → is_range most end ≡ true → Range most end
range most end h =
    let p = and_parts (nat_le 9 most && nat_le most (2 ^ 62)) (nat_le end 47) h in
    let q = and_parts (nat_le 9 most) (nat_le most (2 ^ 62)) p.0 in
    let e = leb-true end 47 p.1 in
    record { low = leb-true _ _ q.0; high = leb-true _ _ q.1; ended = omega arith }

enters_at : (m : ℕ) (goes : ℕ → Option (List Symbol)) (u w b : List ℕ) → u ≡ w → Enters m goes w b → Enters m goes u b
enters_at m goes u w b e h = subst (λ (l : List ℕ). Enters m goes l b) (sym e) h

pub enter : (m : ℕ) (s : Symbol) (u b : List ℕ) → is_sound s ≡ true → Begins m s u b → Enters m (after s) u b
enter m (byte c) u b f h = choice_enters m ((c, []) ∷ []) u b (refl, tt) (inl (b, h, refl))
enter m (number most end) u b f h = enters_at m _ u _ b h.told (number_enters m most end h.n b h.low h.high (range most end f).high)
enter m (signed most end) u b f h = enters_at m _ u _ b h.told (signed_enters m most end h.z b h.fits (range most end f).high)
enter m (digits most v end) u b f h =
    let p = and_parts (nat_le v most) (is_range most end) f in
    enters_at m _ u _ b h.told (digits_enter m most v end h.ds b h.are h.high (range most end p.1).ended)
enter m certificate u b f h = choice_enters m certificate_choices u b (refl, (refl, tt)) (certificate_choice m u b h)
enter m outcome u b f h = choice_enters m outcome_choices u b (refl, (refl, (refl, tt))) (outcome_choice m u b h)
enter m optimum u b f h = choice_enters m optimum_choices u b (refl, (refl, tt)) (optimum_choice m u b h)
enter m prunes u b f h = choice_enters m prune_choices u b (refl, (refl, tt)) (prune_choice m u b h)
enter m (node ver n) u b f h = choice_enters m (node_choices ver n) u b (refl, (refl, (refl, (refl, (refl, (refl, (refl, (refl, (refl, tt))))))))) (node_choice m ver n u b h)
enter m (body ver n) u b f h = choice_enters m (body_choices ver n) u b (refl, (refl, (refl, (refl, (refl, (refl, (refl, (refl, tt)))))))) (body_choice m ver n u b h)
enter m (cases ver n) u b f h = choice_enters m (case_choices ver n) u b (refl, (refl, (refl, (refl, (refl, (refl, tt)))))) (case_choice m ver n u b h)
enter m (ending ver n) u b f h = choice_enters m (ending_choices ver n) u b (refl, (refl, (refl, (refl, tt)))) (ending_choice m ver n u b h)
enter m (case ver n) u b f h = choice_enters m (one_choices ver n) u b (refl, (refl, (refl, (refl, (refl, (refl, (refl, (refl, tt)))))))) (one_choice m ver n u b h)
enter m (branches One n) u b f h = choice_enters m (branch_choices One n) u b (refl, (refl, (refl, (refl, (refl, (refl, (refl, (refl, (refl, tt))))))))) (branch_choice m One n u b h)
enter m (branches Two n) u b f h = choice_enters m (branch_choices Two n) u b (refl, (refl, (refl, (refl, (refl, (refl, (refl, (refl, (refl, (refl, tt)))))))))) (branch_choice m Two n u b h)

byte_back : (m c : ℕ) (u b : List ℕ) → Choice m ((c, []) ∷ []) u b → u ≡ c ∷ b
byte_back m c u b (inl h) = h.1 ∙ ap (λ (l : List ℕ). c ∷ l) h.2
byte_back m c u b (inr h) = absurd h

pub leave : (m : ℕ) (s : Symbol) (c : ℕ) (owed : List Symbol) (w b : List ℕ) → is_sound s ≡ true → nests_within m s ≡ true → after s c ≡ Some owed → Runs m owed w b → Begins m s (c ∷ w) b
leave m (byte x) c owed w b f g h r = byte_back m x (c ∷ w) b (chosen_choice m ((x, []) ∷ []) c w b owed h r)
leave m (number most end) c owed w b f g h r = number_leaves m most end c owed w b (range most end f).high h r
leave m (signed most end) c owed w b f g h r = signed_leaves m most end c owed w b (range most end f).high h r
leave m (digits most v end) c owed w b f g h r =
    let p = and_parts (nat_le v most) (is_range most end) f in
    digits_leave m most v end c owed w b (leb-true _ _ p.0) h r
leave m certificate c owed w b f g h r = certificate_back m _ b (chosen_choice m certificate_choices c w b owed h r)
leave m outcome c owed w b f g h r = outcome_back m _ b (chosen_choice m outcome_choices c w b owed h r)
leave m optimum c owed w b f g h r = optimum_back m _ b (chosen_choice m optimum_choices c w b owed h r)
leave m prunes c owed w b f g h r = prune_back m _ b (chosen_choice m prune_choices c w b owed h r)
leave m (node ver n) c owed w b f g h r = node_back m ver n _ b (leb-true _ _ g) (chosen_choice m (node_choices ver n) c w b owed h r)
leave m (body ver n) c owed w b f g h r = body_back m ver n _ b (leb-true _ _ g) (chosen_choice m (body_choices ver n) c w b owed h r)
leave m (cases ver n) c owed w b f g h r = case_back m ver n _ b (leb-true _ _ g) (chosen_choice m (case_choices ver n) c w b owed h r)
leave m (ending ver n) c owed w b f g h r = ending_back m ver n _ b (leb-true _ _ g) (chosen_choice m (ending_choices ver n) c w b owed h r)
leave m (case ver n) c owed w b f g h r = one_back m ver n _ b (leb-true _ _ g) (chosen_choice m (one_choices ver n) c w b owed h r)
leave m (branches ver n) c owed w b f g h r = branch_back m ver n _ b (leb-true _ _ g) (chosen_choice m (branch_choices ver n) c w b owed h r)

-- what is so of each choice is so of the one taken
by_test : (t : Bool) (test : ℕ × List Symbol → Bool) (x : ℕ × List Symbol) (choices : Choices) (c : ℕ) (owed : List Symbol) → eqb c x.0 ≡ t → test x ≡ true → cond t (Some x.1) (chosen c choices) ≡ Some owed
    → (chosen c choices ≡ Some owed → test (c, owed) ≡ true) → test (c, owed) ≡ true
by_test true test x choices c owed e f h more =
    let same : x.1 ≡ owed = cc in
    let first : c ≡ x.0 = eqb-true c x.0 e in
    rw (first, ← same) f
by_test false test x choices c owed e f h more = more h

pub of_choice : (test : ℕ × List Symbol → Bool) (choices : Choices) (c : ℕ) (owed : List Symbol) → list_all test choices ≡ true → chosen c choices ≡ Some owed → test (c, owed) ≡ true
of_choice test [] c owed f h = absurd (cc)
of_choice test (x ∷ choices) c owed f h =
    let p = and_parts (test x) (list_all test choices) f in
    by_test (eqb c x.0) test x choices c owed refl p.0 h (λ g. of_choice test choices c owed p.1 g)

abbrev pub Test : Type 0
Test = ℕ × List Symbol → Bool

abbrev pub sound_test : Test
sound_test x = list_all is_sound x.1

number_sound : (most end c : ℕ) (owed : List Symbol) → is_range most end ≡ true → first_digit most end c ≡ Some owed → list_all is_sound owed ≡ true
number_sound most end c owed f h =
    let i = is_first most end c owed h in
    subst (λ (k : List Symbol). list_all is_sound k ≡ true) (sym i.is) (and_from _ true (and_from _ _ (le-leb _ _ i.within) f) refl)

signed_sound : (s t : Bool) (most end c : ℕ) (owed : List Symbol) → is_range most end ≡ true
    → cond s (Some (number most end ∷ [])) (cond t (Some (byte end ∷ [])) (first_digit most end c)) ≡ Some owed → list_all is_sound owed ≡ true
signed_sound true t most end c owed f h =
    let same : number most end ∷ [] ≡ owed = cc in
    subst (λ (k : List Symbol). list_all is_sound k ≡ true) same (and_from _ true f refl)
signed_sound false true most end c owed f h =
    let same : byte end ∷ [] ≡ owed = cc in
    subst (λ (k : List Symbol). list_all is_sound k ≡ true) same refl
signed_sound false false most end c owed f h = number_sound most end c owed f h

digits_sound : (s : Bool) (most v end c : ℕ) (owed : List Symbol) → is_range most end ≡ true
    → cond s (Some []) (next_digit most v end c) ≡ Some owed → list_all is_sound owed ≡ true
digits_sound true most v end c owed f h =
    let same : [] ≡ owed = cc in
    subst (λ (k : List Symbol). list_all is_sound k ≡ true) same refl
digits_sound false most v end c owed f h =
    let i = is_next most v end c owed h in
    subst (λ (k : List Symbol). list_all is_sound k ≡ true) (sym i.is) (and_from _ true (and_from _ _ (le-leb _ _ i.within) f) refl)

pub sound_after : (s : Symbol) (c : ℕ) (owed : List Symbol) → is_sound s ≡ true → after s c ≡ Some owed → list_all is_sound owed ≡ true
sound_after (byte x) c owed f h = of_choice sound_test ((x, []) ∷ []) c owed refl h
sound_after (number most end) c owed f h = number_sound most end c owed f h
sound_after (signed most end) c owed f h = signed_sound (eqb c 45) (eqb c 48) most end c owed f h
sound_after (digits most v end) c owed f h = digits_sound (eqb c end) most v end c owed (and_parts (nat_le v most) (is_range most end) f).1 h
sound_after certificate c owed f h = of_choice sound_test certificate_choices c owed refl h
sound_after outcome c owed f h = of_choice sound_test outcome_choices c owed refl h
sound_after optimum c owed f h = of_choice sound_test optimum_choices c owed refl h
sound_after prunes c owed f h = of_choice sound_test prune_choices c owed refl h
sound_after (node ver n) c owed f h = of_choice sound_test (node_choices ver n) c owed refl h
sound_after (body ver n) c owed f h = of_choice sound_test (body_choices ver n) c owed refl h
sound_after (cases ver n) c owed f h = of_choice sound_test (case_choices ver n) c owed refl h
sound_after (ending ver n) c owed f h = of_choice sound_test (ending_choices ver n) c owed refl h
sound_after (case ver n) c owed f h = of_choice sound_test (one_choices ver n) c owed refl h
sound_after (branches One n) c owed f h = of_choice sound_test (branch_choices One n) c owed refl h
sound_after (branches Two n) c owed f h = of_choice sound_test (branch_choices Two n) c owed refl h

-- The nesting grows by one at most, and only at a `v` or an `n`.
abbrev pub nest_test : ℕ → Test
nest_test m x = list_all (nests_within (suc m)) x.1 && (list_all (nests_within m) x.1 || (nat_eq x.0 118 || nat_eq x.0 110))

number_nests : (m most end c : ℕ) (owed : List Symbol) → first_digit most end c ≡ Some owed → nest_test m (c, owed) ≡ true
number_nests m most end c owed h =
    let i = is_first most end c owed h in
    subst (λ (k : List Symbol). nest_test m (c, k) ≡ true) (sym i.is) refl

signed_nests : (s t : Bool) (m most end c : ℕ) (owed : List Symbol)
    → cond s (Some (number most end ∷ [])) (cond t (Some (byte end ∷ [])) (first_digit most end c)) ≡ Some owed → nest_test m (c, owed) ≡ true
signed_nests true t m most end c owed h =
    let same : number most end ∷ [] ≡ owed = cc in
    subst (λ (k : List Symbol). nest_test m (c, k) ≡ true) same refl
signed_nests false true m most end c owed h =
    let same : byte end ∷ [] ≡ owed = cc in
    subst (λ (k : List Symbol). nest_test m (c, k) ≡ true) same refl
signed_nests false false m most end c owed h = number_nests m most end c owed h

digits_nest : (s : Bool) (m most v end c : ℕ) (owed : List Symbol) → cond s (Some []) (next_digit most v end c) ≡ Some owed → nest_test m (c, owed) ≡ true
digits_nest true m most v end c owed h =
    let same : [] ≡ owed = cc in
    subst (λ (k : List Symbol). nest_test m (c, k) ≡ true) same refl
digits_nest false m most v end c owed h =
    let i = is_next most v end c owed h in
    subst (λ (k : List Symbol). nest_test m (c, k) ≡ true) (sym i.is) refl

or_true : (x : Bool) → (x || true) ≡ true
or_true true = refl
or_true false = refl

pub nests_after : (m : ℕ) (s : Symbol) (c : ℕ) (owed : List Symbol) → nests_within m s ≡ true → after s c ≡ Some owed → nest_test m (c, owed) ≡ true
nests_after m (byte x) c owed g h = of_choice (nest_test m) ((x, []) ∷ []) c owed refl h
nests_after m (number most end) c owed g h = number_nests m most end c owed h
nests_after m (signed most end) c owed g h = signed_nests (eqb c 45) (eqb c 48) m most end c owed h
nests_after m (digits most v end) c owed g h = digits_nest (eqb c end) m most v end c owed h
nests_after m certificate c owed g h =
    let e : nat_le 0 (suc m) ≡ true = le-leb _ _ (omega arith) in
    let f : nat_le 0 m ≡ true = le-leb _ _ (omega arith) in
    of_choice (nest_test m) certificate_choices c owed (rw (e, f) refl) h
nests_after m outcome c owed g h = of_choice (nest_test m) outcome_choices c owed refl h
nests_after m optimum c owed g h = of_choice (nest_test m) optimum_choices c owed refl h
nests_after m prunes c owed g h = of_choice (nest_test m) prune_choices c owed refl h
nests_after m (node ver n) c owed g h =
    let le = leb-true _ _ g in
    let e : nat_le n (suc m) ≡ true = le-leb _ _ (omega arith) in
    let f : nat_le (n + 1) (suc m) ≡ true = le-leb _ _ (omega arith) in
    of_choice (nest_test m) (node_choices ver n) c owed (rw (e, f, g, or_true (nat_le (n + 1) m && true)) refl) h
nests_after m (body ver n) c owed g h =
    let le = leb-true _ _ g in
    let e : nat_le n (suc m) ≡ true = le-leb _ _ (omega arith) in
    let f : nat_le (n + 1) (suc m) ≡ true = le-leb _ _ (omega arith) in
    of_choice (nest_test m) (body_choices ver n) c owed (rw (e, f, g, or_true (nat_le (n + 1) m && true)) refl) h
nests_after m (cases ver n) c owed g h =
    let le = leb-true _ _ g in
    let e : nat_le n (suc m) ≡ true = le-leb _ _ (omega arith) in
    let f : nat_le (n + 1) (suc m) ≡ true = le-leb _ _ (omega arith) in
    of_choice (nest_test m) (case_choices ver n) c owed (rw (e, f, g, or_true (nat_le (n + 1) m && true)) refl) h
nests_after m (ending ver n) c owed g h =
    let le = leb-true _ _ g in
    let f : nat_le (n + 1) (suc m) ≡ true = le-leb _ _ (omega arith) in
    of_choice (nest_test m) (ending_choices ver n) c owed (rw (f, or_true (nat_le (n + 1) m && true)) refl) h
nests_after m (case ver n) c owed g h =
    let le = leb-true _ _ g in
    let e : nat_le n (suc m) ≡ true = le-leb _ _ (omega arith) in
    let f : nat_le (n + 1) (suc m) ≡ true = le-leb _ _ (omega arith) in
    of_choice (nest_test m) (one_choices ver n) c owed (rw (e, f, g, or_true (nat_le (n + 1) m && true)) refl) h
nests_after m (branches One n) c owed g h =
    let le = leb-true _ _ g in
    let e : nat_le n (suc m) ≡ true = le-leb _ _ (omega arith) in
    let f : nat_le (n + 1) (suc m) ≡ true = le-leb _ _ (omega arith) in
    of_choice (nest_test m) (branch_choices One n) c owed (rw (e, f, g, or_true (nat_le (n + 1) m && true)) refl) h
nests_after m (branches Two n) c owed g h =
    let le = leb-true _ _ g in
    let e : nat_le n (suc m) ≡ true = le-leb _ _ (omega arith) in
    let f : nat_le (n + 1) (suc m) ≡ true = le-leb _ _ (omega arith) in
    of_choice (nest_test m) (branch_choices Two n) c owed (rw (e, f, g, or_true (nat_le (n + 1) m && true)) refl) h
