-- In a free game the opponent is never stuck.
use Rattle.std.proofs.Common.{◌≡◌, inl, inr, ℕ, zero, suc, ◌+◌, ◌==◌, true, List, [], ◌∷◌, ◌++◌, length, take, drop, map, refl, sym, ap, ◌∙◌, subst, arith, ℤ}
use Rattle.std.specs.List.{list_any, list_all}
use Rattle.std.proofs.lemmas.Bool.{and_parts, or_cases}
use Rattle.qc_model.specs.declared.problem.Kind.{Kind}
use Rattle.qc_model.specs.declared.problem.Kind.TheVariants.{Exists, Forall}
use Rattle.qc_model.specs.declared.problem.Scope.{Scope}
use Rattle.qc_model.specs.Block.{of_kind}
use Rattle.qc_model.specs.Content.{Game, Rule}
use Rattle.qc_model.specs.Domains.{InBox, Box, Values, declared_box, has_value, is_sub_box}
use Rattle.qc_model.specs.Game.{before, part, scope_domains, restriction, allows, IsMove}
use Rattle.qc_model.specs.Holds.{holds_on}
use Rattle.qc_model.specs.Lists.{Among, LiesIn}
use Rattle.qc_model.specs.Valid.{IsValid}
use Rattle.qc_model.specs.Verdict.{is_none_of}
use Rattle.qc_model.specs.Visible.{ArgumentsBelow}
use Rattle.qc_model.proofs.Moves.{of_filter}
use Rattle.model_laws.proofs.Listed.{all_to}
use Rattle.model_table.proofs.Fits.{any_at}
use Rattle.proof_meaning.proofs.Premises.{sound_of}
use Rattle.lemma_list.specs.Entailment.{entailed_by}
use Rattle.lemma_boxes.proofs.Entailments.{entailed_holds}
use Rattle.dense_meaning.specs.Plays.{NeverStuck, OpponentHasMoves, HasMoves, IsDeclared}
use Rattle.dense_meaning.proofs.Bits.{place_of, all_from, has_to}
use Rattle.dense_meaning.proofs.FullBoxes.{full_values}
use Rattle.dense_tree.specs.Free.{is_unrestricted, is_always_allowed, gives, is_never_stuck, is_free_from}
use Rattle.dense_tree.specs.Tree.{Given}
use Rattle.dense_tree.specs.Tuples.{all_hold, are_of, is_tuple_of, box_taken}
use Rattle.dense_laws.proofs.Small.{sub_in_box, same_number}
use Rattle.dense_laws.proofs.Tuple.{tuple_lies, tuple_long}

-- a tuple of some domains
pub are_in : (ds : List Values) (t : List ℤ) → are_of ds t ≡ true → LiesIn t ds
are_in [] [] e = tt
are_in [] (v ∷ t) e = cc
are_in (d ∷ ds) [] e = cc
are_in (d ∷ ds) (v ∷ t) e = let p = and_parts (has_value d v) (are_of ds t) e in (has_to d v p.0, are_in ds t p.1)

in_single : (t : List ℤ) (rest : Box) → InBox t (map (λ v. v ∷ []) t ++ rest)
in_single [] rest = tt
in_single (v ∷ t) rest = (inl refl, in_single t rest)

pub in_fronts : (n : ℕ) (a t : List ℤ) (ds es : Box) → length a ≡ n → InBox a ds → InBox t es → InBox (a ++ t) (take n ds ++ es)
in_fronts zero [] t ds es e h k = k
in_fronts zero (v ∷ a) t ds es e h k = cc
in_fronts (suc n) [] t ds es e h k = cc
in_fronts (suc n) (v ∷ a) t [] es e h k = absurd h
in_fronts (suc n) (v ∷ a) t (d ∷ ds) es e h k = (h.0, in_fronts n a t ds es (omega arith) h.1 k)

-- values with a tuple lie in the box with that tuple taken
pub in_taken : (g : Game) (i : ℕ) (box : Box) (a t : List ℤ) → length a ≡ before g i → InBox a box → InBox (a ++ t) (box_taken g i box t)
in_taken g i box a t n j = in_fronts (before g i) a t box (map (λ v. v ∷ []) t ++ drop (before g (suc i)) box) n j (in_single t (drop (before g (suc i)) box))

-- a restriction that a box entails holds of all values in it that are declared
pub entailed_allows : (g : Game) → IsValid g → (i : ℕ) (box : Box) (w : List ℤ) → length w ≡ before g (suc i) → InBox w (declared_box g) → InBox w box → all_hold (restriction g i) box ≡ true → allows g i w ≡ true
entailed_allows g valid i box w n d j e = all_from (λ c. holds_on c w) (restriction g i) each
  where
    each : (c : Rule) → Among c (restriction g i) → holds_on c w ≡ true
    each c m =
        let q = of_filter (λ (x : Rule). x.owner.0 == i) c g.constraints m in
        let k = place_of g.constraints c q.0 in
        let owner : c.owner.0 ≡ i = same_number c.owner.0 i q.1 in
        entailed_holds g valid k.0 c w box k.1 (subst (λ z. ArgumentsBelow z c.args) (ap (λ z. before g (suc z)) owner ∙ sym n) ((sound_of g valid).ordered.visible k.0 c k.1)) d j
        (all_to (λ c. entailed_by c box) (restriction g i) e c m)

none_restricts : (cs : List Rule) (w : List ℤ) → is_none_of cs ≡ true → list_all (λ c. holds_on c w) cs ≡ true
none_restricts [] w e = refl
none_restricts (c ∷ cs) w e = cc

-- a scope without a restriction allows all
pub unrestricted_allows : (g : Game) (i : ℕ) (w : List ℤ) → is_unrestricted g i ≡ true → allows g i w ≡ true
unrestricted_allows g i w e = none_restricts (restriction g i) w e

module _ (g : Game) (valid : IsValid g) where
  declared_all : IsDeclared g (declared_box g)
  declared_all = record { size = refl; values = λ x v m. m }

  tuple_in : (i : ℕ) (a t : List ℤ) → length a ≡ before g i → InBox a (declared_box g) → LiesIn t (scope_domains g i) → InBox (a ++ t) (declared_box g)
  tuple_in i a t n j l =
      tuple_lies g i a t (declared_box g) n j l

  -- the opponent has a move at each position with declared values
  pub has_moves : (us : List Given) (i : ℕ) (box : Box) → is_sub_box box (declared_box g) ≡ true → is_never_stuck g us i ≡ true → HasMoves g i box
  has_moves us i box d e a at =
      let j = sub_in_box a box (declared_box g) d at.lies in
      elim (or_cases (is_unrestricted g i) (list_any (gives g i) us) e) [
        | inl q ↦ (let t = full_values g i (declared_box g) (sound_of g valid).ordered.no_empty declared_all a (record { count = at.count; lies = j }) in
            (t.0, record { is_tuple = t.1; is_allowed = unrestricted_allows g i (a ++ t.0) q }))
        | inr q ↦ (let u = any_at (gives g i) us q in given u.0 j (and_parts (u.0.scope.0 == i) (is_always_allowed g i u.0.tuple) u.2).1)
      ]
    where
      given : (u : Given) → InBox a (declared_box g) → is_always_allowed g i u.tuple ≡ true → (t : List ℤ) × IsMove g i a t
      given u j h =
          let p = and_parts (is_tuple_of g i (declared_box g) u.tuple) (all_hold (restriction g i) (box_taken g i (declared_box g) u.tuple)) h in
          let l = are_in (part g i (declared_box g)) u.tuple p.0 in
          let w = tuple_in i a u.tuple at.count j l in (
            u.tuple,
            record {
              is_tuple = l;
              is_allowed = entailed_allows g valid i (box_taken g i (declared_box g) u.tuple) (a ++ u.tuple) (tuple_long g i a u.tuple at.count l) w
                  (in_taken g i (declared_box g) a u.tuple at.count j) p.1;
            },
          )

  pub never_stuck : (us : List Given) (later : List Scope) (i : ℕ) (box : Box) → is_sub_box box (declared_box g) ≡ true → is_free_from g us later i ≡ true → NeverStuck g later i box
  never_stuck us [] i box d e = tt
  never_stuck us (s ∷ later) i box d e =
      let p = and_parts (of_kind s.kind true (is_never_stuck g us i)) (is_free_from g us later (suc i)) e in
      (by s.kind p.0, never_stuck us later (suc i) box d p.1)
    where
      by : (k : Kind) → of_kind k true (is_never_stuck g us i) ≡ true → OpponentHasMoves k g i box
      by Exists h = tt
      by Forall h = has_moves us i box d h

-- a game that is free is so from each of its scopes on
pub free_later : (g : Game) (us : List Given) (scopes : List Scope) (n i : ℕ) → is_free_from g us scopes i ≡ true → is_free_from g us (drop n scopes) (n + i) ≡ true
free_later g us scopes zero i e = subst (λ j. is_free_from g us scopes j ≡ true) (let q : i ≡ 0 + i = omega arith in q) e
free_later g us [] (suc n) i e = refl
free_later g us (s ∷ scopes) (suc n) i e =
    subst (λ j. is_free_from g us (drop n scopes) j ≡ true) (let q : n + suc i ≡ suc n + i = omega arith in q)
    (free_later g us scopes n (suc i) (and_parts (of_kind s.kind true (is_never_stuck g us i)) (is_free_from g us scopes (suc i)) e).1)
