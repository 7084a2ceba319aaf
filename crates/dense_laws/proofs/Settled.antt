-- Where each variable that a constraint sees has one value, the constraint is refuted or holds.
use Rattle.std.proofs.Common.{◌≡◌, inl, inr, ℕ, zero, suc, ◌<◌, ◌≤◌, ◌==◌, Bool, true, false, not, ◌&&◌, ◌||◌, List, [], ◌∷◌, length, take, map, refl, ap, ◌∙◌, subst, arith}
use Rattle.std.specs.List.{list_any, list_all}
use Rattle.std.proofs.lemmas.Bool.{and_parts, and_from, not_from_false}
use Rattle.qc_model.specs.declared.problem.Arg.{Arg}
use Rattle.qc_model.specs.declared.problem.Arg.TheVariants.{Var, Num}
use Rattle.qc_model.specs.declared.problem.Argument.{Argument}
use Rattle.qc_model.specs.declared.problem.Argument.TheVariants.{One, Many, Numbers, Members}
use Rattle.qc_model.specs.Arguments.{fill}
use Rattle.qc_model.specs.Content.{Game, Rule}
use Rattle.qc_model.specs.Domains.{Box, values_left, is_single}
use Rattle.qc_model.specs.Entailed.{entailed_as}
use Rattle.qc_model.specs.Game.{before, restriction}
use Rattle.qc_model.specs.Lists.{Among}
use Rattle.qc_model.specs.Meaning.{meaning_of}
use Rattle.qc_model.specs.Refuted.{left_to, refuted_by}
use Rattle.qc_model.specs.Valid.{IsValid}
use Rattle.qc_model.specs.Visible.{ArgBelow, ArgsBelow, ArgumentBelow, ArgumentsBelow}
use Rattle.qc_model.proofs.Moves.{of_filter}
use Rattle.lemma_list.specs.Entailment.{is_settled, entailed_by_index, entailed_by}
use Rattle.proof_meaning.proofs.Premises.{sound_of}
use Rattle.dense_meaning.proofs.Bits.{place_of, all_from}
use Rattle.dense_tree.specs.Tuples.{all_hold, some_fails}
use Rattle.dense_laws.proofs.Small.{same_number}

single_at : (n x : ℕ) (box : Box) → list_all is_single (take n box) ≡ true → x < n → n ≤ length box → is_single (values_left box x) ≡ true
single_at zero x box h l k = absurd (omega arith)
single_at (suc n) x [] h l k = absurd (omega arith)
single_at (suc n) zero (d ∷ box) h l k = (and_parts (is_single d) (list_all is_single (take n box)) h).0
single_at (suc n) (suc x) (d ∷ box) h l k = single_at n x box (and_parts (is_single d) (list_all is_single (take n box)) h).1 (omega arith) (omega arith)

module _ (n : ℕ) (box : Box) (singles : list_all is_single (take n box) ≡ true) (long : n ≤ length box) where
  arg_single : (x : Arg) → ArgBelow n x → is_single (left_to box x) ≡ true
  arg_single (Var x) h = single_at n x.0 box singles h long
  arg_single (Num v) h = refl

  args_single : (xs : List Arg) → ArgsBelow n xs → list_all is_single (map (left_to box) xs) ≡ true
  args_single [] h = refl
  args_single (x ∷ xs) h = and_from (is_single (left_to box x)) (list_all is_single (map (left_to box) xs)) (arg_single x h.0) (args_single xs h.1)

  argument_settled : (x : Argument) → ArgumentBelow n x → is_settled (fill (left_to box) x) ≡ true
  argument_settled (One x) h = arg_single x h
  argument_settled (Many xs) h = args_single xs h
  argument_settled (Numbers ns) h = refl
  argument_settled (Members s) h = refl

  all_settled : (args : List Argument) → ArgumentsBelow n args → list_all is_settled (map (fill (left_to box)) args) ≡ true
  all_settled [] h = refl
  all_settled (x ∷ args) h =
      and_from (is_settled (fill (left_to box) x)) (list_all is_settled (map (fill (left_to box)) args)) (argument_settled x h.0) (all_settled args h.1)

  settled_entails : (c : Rule) → ArgumentsBelow n c.args → refuted_by c box ≡ false → entailed_by c box ≡ true
  settled_entails c h r =
      or_last (entailed_as (meaning_of c.pred) (map (fill (left_to box)) c.args) || entailed_by_index (meaning_of c.pred) (map (fill (left_to box)) c.args)) (list_all is_settled (map (fill (left_to box)) c.args) && not (refuted_by c box))
      (and_from (list_all is_settled (map (fill (left_to box)) c.args)) (not (refuted_by c box)) (all_settled c.args h) (not_from_false (refuted_by c box) r))
    where
      or_last : (a b : Bool) → b ≡ true → (a || b) ≡ true
      or_last true b e = refl
      or_last false b e = e

none_fails : (cs : List Rule) (box : Box) → some_fails cs box ≡ false → (c : Rule) → Among c cs → refuted_by c box ≡ false
none_fails [] box e c m = absurd m
none_fails (d ∷ cs) box e c m =
    by (refuted_by d box) (list_any (λ c. refuted_by c box) cs) e (λ k. elim m [ inl q ↦ ap (λ (z : Rule). refuted_by z box) q ∙ k | inr n ↦ none_fails cs box (rest (refuted_by d box) e) c n ])
  where
    rest : (a : Bool) → (a || list_any (λ c. refuted_by c box) cs) ≡ false → list_any (λ c. refuted_by c box) cs ≡ false
    rest true e = cc
    rest false e = e

    by : (a b : Bool) → (a || b) ≡ false → (a ≡ false → refuted_by c box ≡ false) → refuted_by c box ≡ false
    by true b e f = cc
    by false b e f = f refl

-- so a scope whose variables and earlier ones are single allows what isn't refuted
pub settled_holds : (g : Game) → IsValid g → (i : ℕ) (box : Box) → list_all is_single (take (before g (suc i)) box) ≡ true → before g (suc i) ≤ length box → some_fails (restriction g i) box ≡ false → all_hold (restriction g i) box ≡ true
settled_holds g valid i box h long e = all_from (λ c. entailed_by c box) (restriction g i) each
  where
    each : (c : Rule) → Among c (restriction g i) → entailed_by c box ≡ true
    each c m =
        let q = of_filter (λ (x : Rule). x.owner.0 == i) c g.constraints m in
        let k = place_of g.constraints c q.0 in
        let owner : c.owner.0 ≡ i = same_number c.owner.0 i q.1 in
        settled_entails (before g (suc i)) box h long c
        (subst (λ z. ArgumentsBelow (before g (suc z)) c.args) owner ((sound_of g valid).ordered.visible k.0 c k.1))
        (none_fails (restriction g i) box e c m)
