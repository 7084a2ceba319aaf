-- Lists that are read one by one.
use Rattle.std.proofs.Common.{◌≡◌, ◌∙◌, ℕ, ◌+◌, ◌<◌, ◌≤◌, Bool, true, false, ◌||◌, List, [], ◌∷◌, ◌++◌, length, map, take, drop, get_or, sym, ap, subst}
use Rattle.std.specs.List.{list_any}
use Rattle.std.proofs.lemmas.List.{take_more, take_all, map-append, at_drop_more, at_drop_all}

-- all of them are read
pub taken_all : {X : Type 0} (xs : List X) (k n : ℕ) → n ≡ length xs → n ≤ k → take k xs ≡ xs
taken_all xs k n e h = take_all k xs (subst (λ m. m ≤ k) e h)

-- what is made of each, appended one by one
pub mapped_next : {X Y : Type 0} (f : X → Y) (xs vs : List X) (ys zs : List Y) (k : ℕ) (x : X) → vs ≡ xs → k < length vs → x ≡ get_or vs k x → ys ≡ map f (take k xs) → zs ≡ ys ++ (f x ∷ []) → zs ≡ map f (take (k + 1) xs)
mapped_next f xs vs ys zs k x v h e i m =
    m ∙ (ap (λ l. l ++ (f x ∷ [])) i
    ∙ (ap (λ y. map f (take k xs) ++ (f y ∷ [])) (e ∙ ap (λ l. get_or l k x) v)
    ∙ sym (ap (map f) (take_more xs k x (subst (λ l. k < length l) v h)) ∙ map-append f (take k xs) (get_or xs k x ∷ []))))

pub mapped_all : {X Y : Type 0} (f : X → Y) (xs vs : List X) (ys : List Y) (k : ℕ) → vs ≡ xs → length vs ≤ k → ys ≡ map f (take k xs) → ys ≡ map f xs
mapped_all f xs vs ys k v h i = i ∙ ap (map f) (take_all k xs (subst (λ l. length l ≤ k) v h))

-- whether some passes: so far, where one does, and at the end
module _ {X Y : Type 0} (p : Y → Bool) (f : X → Y) (xs : List X) (k : ℕ) (w : Bool) where
  pub some_next : (x : X) (r : Bool) → k < length xs → r ≡ p (f (get_or xs k x)) → r ≡ false → list_any p (map f (drop k xs)) ≡ w → list_any p (map f (drop (k + 1) xs)) ≡ w
  some_next x r h e t i = sym (at_drop_more (λ l. list_any p (map f l)) xs k x h ∙ ap (λ b. b || list_any p (map f (drop (k + 1) xs))) (sym e ∙ t)) ∙ i

  pub some_stop : (x : X) (r : Bool) → k < length xs → r ≡ p (f (get_or xs k x)) → r ≡ true → list_any p (map f (drop k xs)) ≡ w → true ≡ w
  some_stop x r h e t i = sym (at_drop_more (λ l. list_any p (map f l)) xs k x h ∙ ap (λ b. b || list_any p (map f (drop (k + 1) xs))) (sym e ∙ t)) ∙ i

  pub some_end : length xs ≤ k → list_any p (map f (drop k xs)) ≡ w → false ≡ w
  some_end h i = sym (at_drop_all (λ l. list_any p (map f l)) xs k h) ∙ i
