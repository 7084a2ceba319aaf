-- Boxes that are like values.
use Rattle.std.proofs.Common.{◌≡◌, ◌≤◌, ◌<◌, ◌∙◌, ◌⊎◌, inl, inr, ℕ, zero, suc, Bool, true, false, List, [], ◌∷◌, map, length, take, refl, sym, ap, subst, arith, ℤ}
use Rattle.std.specs.Prelude.{nat_le, nat_lt, slice_index_or, pos}
use Rattle.std.specs.List.{list_all, list_any}
use Rattle.std.proofs.lemmas.List.{get_or_past}
use Rattle.std.proofs.lemmas.Bool.Decides.{nat_tests}
use Rattle.std.proofs.lemmas.Bool.{or_left, or_right, and_parts, and_from, or_cases}
use Rattle.qc_model.specs.Content.{Game, Rule}
use Rattle.qc_model.specs.Domains.{Values, Box, declared_box, values_left, box_values, has_empty, is_single, least_value}
use Rattle.qc_model.specs.Game.{before}
use Rattle.model_arguments.specs.Asked.{is_box_of}
use Rattle.model_arguments.proofs.Boxes.{sub_length}
use Rattle.proof_alike.specs.Alike.{is_among, constrains, is_named, is_seen, is_looked_at, AreAlike}
use Rattle.proof_alike.specs.Reading.{read_alone}
use Rattle.proof_alike.proofs.Boxes.{owned_below, ahead_looks}
use Rattle.proof_alike.proofs.Starting.{early}
use Rattle.proof_tree.specs.Place.{position}
use Rattle.likeness.specs.Likeness.{IsLike, SeenAlike}

inside : (x n : ℕ) → nat_lt x n ≡ true → x < n
inside x n e = grind (arith, nat_tests)

past : (x n : ℕ) → nat_lt x n ≡ false → n ≤ x
past x n e = grind (arith, nat_tests)

-- the value of a variable that has one left
pub single_stands : (box : Box) (n x : ℕ) → x < n → x < length box → list_all is_single (take n box) ≡ true → values_left box x ≡ slice_index_or (box_values (take n box)) x (pos 0) ∷ []
single_stands [] n x h l e = absurd (omega arith)
single_stands (d ∷ box) zero x h l e = absurd (omega arith)
single_stands (d ∷ box) (suc n) zero h l e = one d (and_parts (is_single d) (list_all is_single (take n box)) e).0
  where
    one : (d : Values) → is_single d ≡ true → d ≡ least_value d ∷ []
    one [] e = cc
    one (v ∷ []) e = refl
    one (v ∷ w ∷ vs) e = cc
single_stands (d ∷ box) (suc n) (suc x) h l e = single_stands box n x (omega arith) (omega arith) (and_parts (is_single d) (list_all is_single (take n box)) e).1

-- where one value is left to each variable before the scope, and all later ones have their declared values, the box is like
-- the values of its position
pub like_itself : (g : Game) (i : ℕ) (box : Box) → is_box_of g box ≡ true → has_empty box ≡ false → list_all is_single (take (before g i) box) ≡ true → before g i ≤ length box →
    ((x : ℕ) → before g i ≤ x → x < length box → values_left box x ≡ values_left (declared_box g) x) → IsLike g i (position g i box) box
like_itself g i box declared full singles few fresh = record {
  declared = declared;
  full = full;
  fresh = λ x h. by x (nat_lt x (length box)) refl h;
  single = λ x h. subst (λ (d : Values). is_single d ≡ true) (sym (stands x h)) refl;
  fixed = λ x h l. stands x h;
  seen = λ c m o. refl;
}
  where
    stands : (x : ℕ) → x < before g i → values_left box x ≡ slice_index_or (position g i box) x (pos 0) ∷ []
    stands x h = single_stands box (before g i) x h (omega (arith, h, few)) singles

    by : (x : ℕ) (c : Bool) → nat_lt x (length box) ≡ c → before g i ≤ x → values_left box x ≡ values_left (declared_box g) x
    by x true e h = fresh x h (inside x (length box) e)
    by x false e h =
        let l = past x (length box) e in
        get_or_past box x [] l ∙ sym (get_or_past (declared_box g) x [] (subst (λ n. n ≤ x) (sub_length box (declared_box g) declared) l))

-- so where the values of the first variables stand in it
pub like_fresh : (g : Game) (i : ℕ) (vs : List ℤ) (box : Box) → is_box_of g box ≡ true → has_empty box ≡ false → take (before g i) box ≡ map (λ v. v ∷ []) (take (before g i) vs) → before g i ≤ length box →
    ((x : ℕ) → before g i ≤ x → x < length box → values_left box x ≡ values_left (declared_box g) x) → IsLike g i (take (before g i) vs) box
like_fresh g i vs box declared full stand few fresh =
    let one : list_all is_single (take (before g i) box) ≡ true = ap (list_all is_single) stand ∙ are_single (take (before g i) vs) in
    let values : position g i box ≡ take (before g i) vs = ap box_values stand ∙ values_are (take (before g i) vs) in
    subst (λ ws. IsLike g i ws box) values (like_itself g i box declared full one few fresh)
  where
    are_single : (ws : List ℤ) → list_all is_single (map (λ w. w ∷ []) ws) ≡ true
    are_single [] = refl
    are_single (w ∷ ws) = are_single ws

    values_are : (ws : List ℤ) → box_values (map (λ w. w ∷ []) ws) ≡ ws
    values_are [] = refl
    values_are (w ∷ ws) = ap (λ us. w ∷ us) (values_are ws)

-- a box that is like values is like any that show the same
pub like_kept : (g : Game) (i : ℕ) (kept here : List ℤ) (box : Box) → IsLike g i here box → SeenAlike g i kept here → IsLike g i kept box
like_kept g i kept here box p s = record {
  declared = p.declared;
  full = p.full;
  fresh = p.fresh;
  single = p.single;
  fixed = λ x h l. p.fixed x h l ∙ ap (λ v. v ∷ []) (sym (s.same x h l));
  seen = λ c m o. s.seen c m o ∙ p.seen c m o;
}

-- boxes that are like the same values look the same
pub likes_alike : (g : Game) (i : ℕ) (vs : List ℤ) (a b : Box) → IsLike g i vs a → IsLike g i vs b → AreAlike g i a b
likes_alike g i vs a b p q =
    let size = sub_length a (declared_box g) p.declared ∙ sym (sub_length b (declared_box g) q.declared) in
    record {
      size = size;
      same = λ x e. by x (nat_lt x (before g i)) refl e;
      others = λ x h e. let k = early g i x e in (p.single x k, q.single x k);
      rules = λ c m o. sym (p.seen c m o) ∙ q.seen c m o;
    }
  where
    by : (x : ℕ) (c : Bool) → nat_lt x (before g i) ≡ c → is_looked_at g i x ≡ true → values_left a x ≡ values_left b x
    by x true e l = let h = inside x (before g i) e in p.fixed x h l ∙ sym (q.fixed x h l)
    by x false e l = let h = past x (before g i) e in p.fresh x h ∙ sym (q.fresh x h)

-- what is looked at from a scope on is looked at from each earlier one on
pub looked_before : (g : Game) (i j x : ℕ) → i ≤ j → is_looked_at g j x ≡ true → is_looked_at g i x ≡ true
looked_before g i j x h e = by (or_cases (nat_le (before g j) x) (is_seen g j x) e)
  where
    some : (cs : List Rule) → list_any (constrains j x) cs ≡ true → list_any (constrains i x) cs ≡ true
    some [] e = e
    some (c ∷ cs) e = first (or_cases (constrains j x c) (list_any (constrains j x) cs) e) (λ q. some cs q)
      where
        first : ((constrains j x c ≡ true) ⊎ (list_any (constrains j x) cs ≡ true)) → (list_any (constrains j x) cs ≡ true → list_any (constrains i x) cs ≡ true) → list_any (constrains i x) (c ∷ cs) ≡ true
        first (inl q) rest =
            let p = and_parts (nat_le j c.owner.0) (is_among (read_alone c) x) q in
            or_left (constrains i x c) (list_any (constrains i x) cs) (and_from (nat_le i c.owner.0) (is_among (read_alone c) x) (owned_below i j c.owner.0 h p.0) p.1)
        first (inr q) rest = or_right (constrains i x c) (list_any (constrains i x) cs) (rest q)

    seen : ((list_any (constrains j x) g.constraints ≡ true) ⊎ (is_named g x ≡ true)) → is_seen g i x ≡ true
    seen (inl q) = or_left (list_any (constrains i x) g.constraints) (is_named g x) (some g.constraints q)
    seen (inr q) = or_right (list_any (constrains i x) g.constraints) (is_named g x) q

    by : ((nat_le (before g j) x ≡ true) ⊎ (is_seen g j x ≡ true)) → is_looked_at g i x ≡ true
    by (inl q) = ahead_looks g i j x h q
    by (inr q) = or_right (nat_le (before g i) x) (is_seen g i x) (seen (or_cases (list_any (constrains j x) g.constraints) (is_named g x) q))
