-- Restrictions that look at their own variables alone.
use Rattle.std.proofs.Common.{◌≡◌, inl, inr, ℕ, zero, suc, ◌≤◌, Bool, true, false, List, [], ◌∷◌, ◌++◌, length, map, refl, sym, ap, ◌∙◌, subst, arith, ℤ, pos}
use Rattle.std.specs.Prelude.{slice_index_or, ◌==◌, ◌&&◌}
use Rattle.std.specs.List.{list_all}
use Rattle.std.proofs.lemmas.Bool.Decides.{nat_tests}
use Rattle.qc_model.specs.declared.problem.Arg.{Arg}
use Rattle.qc_model.specs.declared.problem.Arg.TheVariants.{Var, Num}
use Rattle.qc_model.specs.declared.problem.Argument.{Argument}
use Rattle.qc_model.specs.declared.problem.Argument.TheVariants.{One, Many, Numbers, Members}
use Rattle.qc_model.specs.Content.{Game, Rule}
use Rattle.qc_model.specs.Lists.{Among}
use Rattle.qc_model.specs.Domains.{Box}
use Rattle.qc_model.specs.Arguments.{filled_one, filled_many, fill}
use Rattle.qc_model.specs.Meaning.{meaning_of}
use Rattle.qc_model.specs.Holds.{arg_value, holds_as, holds_on}
use Rattle.qc_model.specs.Game.{before, restriction, IsMove}
use Rattle.qc_model.proofs.Moves.{of_filter}
use Rattle.dense_meaning.specs.Plays.{HasMoves}
use Rattle.dense_meaning.proofs.Bits.{place_of}
use Rattle.dense_meaning.specs.Kept.{ArgFrom, ArgsFrom, ArgumentFrom, ArgumentsFrom, LooksAtOwn}

past_front : (a b t : List ℤ) (x : ℕ) → length a ≡ length b → length a ≤ x → slice_index_or (a ++ t) x (pos 0) ≡ slice_index_or (b ++ t) x (pos 0)
past_front [] [] t x e l = refl
past_front [] (u ∷ b) t x e l = cc
past_front (v ∷ a) [] t x e l = cc
past_front (v ∷ a) (u ∷ b) t zero e l = absurd (omega arith)
past_front (v ∷ a) (u ∷ b) t (suc x) e l = past_front a b t x (omega arith) (omega arith)

value_past : (a b t : List ℤ) (x : Arg) → length a ≡ length b → ArgFrom (length a) x → arg_value (a ++ t) x ≡ arg_value (b ++ t) x
value_past a b t (Var x) e h = past_front a b t x.0 e h
value_past a b t (Num v) e h = refl

values_past : (a b t : List ℤ) (xs : List Arg) → length a ≡ length b → ArgsFrom (length a) xs → map (arg_value (a ++ t)) xs ≡ map (arg_value (b ++ t)) xs
values_past a b t [] e h = refl
values_past a b t (x ∷ xs) e h =
    ap (λ v. v ∷ map (arg_value (a ++ t)) xs) (value_past a b t x e h.0) ∙ ap (λ vs. arg_value (b ++ t) x ∷ vs) (values_past a b t xs e h.1)

fill_past : (a b t : List ℤ) (x : Argument) → length a ≡ length b → ArgumentFrom (length a) x → fill (arg_value (a ++ t)) x ≡ fill (arg_value (b ++ t)) x
fill_past a b t (One x) e h = ap filled_one (value_past a b t x e h)
fill_past a b t (Many xs) e h = ap filled_many (values_past a b t xs e h)
fill_past a b t (Numbers ns) e h = refl
fill_past a b t (Members s) e h = refl

given_past : (a b t : List ℤ) (args : List Argument) → length a ≡ length b → ArgumentsFrom (length a) args → map (fill (arg_value (a ++ t))) args ≡ map (fill (arg_value (b ++ t))) args
given_past a b t [] e h = refl
given_past a b t (x ∷ args) e h =
    ap (λ v. v ∷ map (fill (arg_value (a ++ t))) args) (fill_past a b t x e h.0) ∙ ap (λ vs. fill (arg_value (b ++ t)) x ∷ vs) (given_past a b t args e h.1)

holds_past : (c : Rule) (a b t : List ℤ) → length a ≡ length b → ArgumentsFrom (length a) c.args → holds_on c (a ++ t) ≡ holds_on c (b ++ t)
holds_past c a b t e h = ap (holds_as (meaning_of c.pred)) (given_past a b t c.args e h)

all_same : (p q : Rule → Bool) (cs : List Rule) → ((c : Rule) → Among c cs → p c ≡ q c) → list_all p cs ≡ true → list_all q cs ≡ true
all_same p q [] f e = refl
all_same p q (c ∷ cs) f e =
    by (p c) (q c) (list_all p cs) (list_all q cs) (f c (inl refl)) e (λ k. all_same p q cs (λ x m. f x (inr m)) k)
  where
    by : (a b x y : Bool) → a ≡ b → (a && x) ≡ true → (x ≡ true → y ≡ true) → (b && y) ≡ true
    by true true x y s h k = k h
    by true false x y s h k = cc
    by false b x y s h k = cc

same_number : (m n : ℕ) → (m == n) ≡ true → m ≡ n
same_number m n e = grind (arith, nat_tests)

pub moves_anywhere : (g : Game) (i : ℕ) (a t : List ℤ) (box : Box) → LooksAtOwn g i → length a ≡ before g i → IsMove g i a t → HasMoves g i box
moves_anywhere g i a t box own n m b at =
    (t, record { is_tuple = m.is_tuple; is_allowed = all_same (λ c. holds_on c (a ++ t)) (λ c. holds_on c (b ++ t)) (restriction g i) same m.is_allowed })
  where
    same : (c : Rule) → Among c (restriction g i) → holds_on c (a ++ t) ≡ holds_on c (b ++ t)
    same c k =
        let q = of_filter (λ (x : Rule). x.owner.0 == i) c g.constraints k in
        let j = place_of g.constraints c q.0 in
        holds_past c a b t (n ∙ sym at.count) (subst (λ z. ArgumentsFrom z c.args) (sym n) (own j.0 c j.1 (same_number c.owner.0 i q.1)))
