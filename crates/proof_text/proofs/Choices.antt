-- What is owed after a first byte, from the table of choices.
use Rattle.std.proofs.Common.{◌≡◌, inl, inr, refl, sym, ap, ◌∙◌, subst, ℕ, List, [], ◌∷◌, Option, Some, None, Bool, true, false, cond, eqb}
use Rattle.std.proofs.lemmas.Bool.{eqb-true, eq-eqb}
use Rattle.proof_text.specs.Symbols.{Symbol, Choices, chosen, followed}
use Rattle.proof_text.proofs.Grammar.{Begins, Runs, Choice, runs_append, runs_split}

-- u begins as the answer to its first byte says
pub record Enters (m : ℕ) (goes : ℕ → Option (List Symbol)) (u b : List ℕ) : Type 0 where
  pub first : ℕ
  pub w : List ℕ
  pub owed : List Symbol
  pub is : u ≡ first ∷ w
  pub goes_on : goes first ≡ Some owed
  pub runs : Runs m owed w b

-- no first byte stands twice
abbrev pub AreDistinct : Choices → Type 0
AreDistinct [] = Unit {0}
AreDistinct (c ∷ choices) = (chosen c.0 choices ≡ None) × AreDistinct choices

later : (t : Bool) (c : ℕ × List Symbol) (choices : Choices) (first : ℕ) (owed : List Symbol) → eqb first c.0 ≡ t → chosen c.0 choices ≡ None → chosen first choices ≡ Some owed → cond t (Some c.1) (chosen first choices) ≡ Some owed
later true c choices first owed e new h =
    let same : first ≡ c.0 = eqb-true first c.0 e in
    let clash : None ≡ Some owed = sym new ∙ ap (λ (x : ℕ). chosen x choices) (sym same) ∙ h in
    absurd (cc)
later false c choices first owed e new h = h

pub choice_enters : (m : ℕ) (choices : Choices) (u b : List ℕ) → AreDistinct choices → Choice m choices u b → Enters m (λ x. chosen x choices) u b
choice_enters m [] u b d h = absurd h
choice_enters m (c ∷ choices) u b d (inl h) = record {
  first = c.0;
  w = h.0;
  owed = c.1;
  is = h.1;
  goes_on = ap (λ (t : Bool). cond t (Some c.1) (chosen c.0 choices)) (eq-eqb c.0 c.0 refl);
  runs = h.2;
}
choice_enters m (c ∷ choices) u b d (inr h) =
    let r = choice_enters m choices u b d.1 h in
    record {
      first = r.first;
      w = r.w;
      owed = r.owed;
      is = r.is;
      goes_on = later (eqb r.first c.0) c choices r.first r.owed refl d.0 r.goes_on;
      runs = r.runs;
    }

picked : (t : Bool) (m : ℕ) (c : ℕ × List Symbol) (choices : Choices) (first : ℕ) (w b : List ℕ) (owed : List Symbol) → eqb first c.0 ≡ t → cond t (Some c.1) (chosen first choices) ≡ Some owed → Runs m owed w b
    → (chosen first choices ≡ Some owed → Choice m choices (first ∷ w) b) → Choice m (c ∷ choices) (first ∷ w) b
picked true m c choices first w b owed e h r more =
    let same : c.1 ≡ owed = cc in
    inl (w, ap (λ (x : ℕ). x ∷ w) (eqb-true first c.0 e), subst (λ (k : List Symbol). Runs m k w b) (sym same) r)
picked false m c choices first w b owed e h r more = inr (more h)

pub chosen_choice : (m : ℕ) (choices : Choices) (first : ℕ) (w b : List ℕ) (owed : List Symbol) → chosen first choices ≡ Some owed → Runs m owed w b → Choice m choices (first ∷ w) b
chosen_choice m [] first w b owed h r = absurd (cc)
chosen_choice m (c ∷ choices) first w b owed h r = picked (eqb first c.0) m c choices first w b owed refl h r (λ g. chosen_choice m choices first w b owed g r)

pub followed_choice : (m : ℕ) (choices : Choices) (s : Symbol) (u v b : List ℕ) → Choice m choices u v → Begins m s v b → Choice m (followed choices s) u b
followed_choice m [] s u v b h g = absurd h
followed_choice m (c ∷ choices) s u v b (inl h) g = inl (h.0, h.1, runs_append m c.1 (s ∷ []) h.0 v b h.2 (b, g, refl))
followed_choice m (c ∷ choices) s u v b (inr h) g = inr (followed_choice m choices s u v b h g)

pub choice_followed : (m : ℕ) (choices : Choices) (s : Symbol) (u b : List ℕ) → Choice m (followed choices s) u b → (v : List ℕ) × Choice m choices u v × Begins m s v b
choice_followed m [] s u b h = absurd h
choice_followed m (c ∷ choices) s u b (inl h) =
    let r = runs_split m c.1 (s ∷ []) h.0 b h.2 in
    (r.0, inl (h.0, h.1, r.1), subst (λ (x : List ℕ). Begins m s r.0 x) r.2.2 r.2.1)
choice_followed m (c ∷ choices) s u b (inr h) =
    let r = choice_followed m choices s u b h in
    (r.0, inr r.1, r.2)
