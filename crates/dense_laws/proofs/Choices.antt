-- Parts of the own tree of a scope of the player.
use Rattle.std.proofs.Common.{◌≡◌, inl, inr, ℕ, zero, suc, ◌<◌, ◌≤◌, Bool, not, ◌||◌, true, false, List, [], ◌∷◌, ◌++◌, length, refl, sym, ap, subst, ◌∙◌, set, arith, ℤ, Option}
use Rattle.std.proofs.lemmas.Bool.{or_parts, or_from}
use Rattle.qc_model.specs.declared.problem.Condition.{Condition}
use Rattle.qc_model.specs.declared.problem.Scope.{Scope}
use Rattle.qc_model.specs.Content.{Game}
use Rattle.qc_model.specs.Domains.{InBox, Box, Values, declared_box, has_empty}
use Rattle.qc_model.specs.Game.{before, IsMove}
use Rattle.qc_model.specs.Plan.{Plan, finish, choose, answer}
use Rattle.qc_model.specs.Optimal.{Optimal}
use Rattle.qc_model.specs.Demands.{is_better_vector}
use Rattle.qc_model.specs.Verdict.{Verdict, lost, exact, at_most, unknown, Seen, seen_barred, seen_skipped, seen_bound, seen_node, is_exact, some_node}
use Rattle.model_laws.specs.Positions.{existential}
use Rattle.model_laws.proofs.Choosing.{choose_vector}
use Rattle.proof_meaning.proofs.Boxes.{values_split}
use Rattle.proof_meaning.proofs.Passing.{move_count}
use Rattle.proof_meaning.proofs.Blocks.{blocked_less, blocked_next}
use Rattle.proof_meaning.proofs.Boxes.{set_widen}
use Rattle.qc_model.specs.Lists.{Among}
use Rattle.proof_tree.specs.Place.{list_after, next_scopes}
use Rattle.proof_tree.specs.Cover.{box_to}
use Rattle.dense_meaning.specs.Throughout.{IsPositionIn, PlaysLie, IsOptimalWithin, Says}
use Rattle.dense_meaning.proofs.PlansLie.{lie_front, lie_part, set_part}
use Rattle.dense_tree.specs.Place.{Setting, Place, with_box, place_below}
use Rattle.qc_model.proofs.Before.{before-le}
use Rattle.qc_model.proofs.Moves.{among_left, among_right}
use Rattle.model_arguments.proofs.Boxes.{sub_length}
use Rattle.proof_tree.specs.Place.{is_fixed}
use Rattle.dense_meaning.proofs.FullBoxes.{some_values}
use Rattle.dense_laws.specs.Stands.{StandsNode, StandsPart}
use Rattle.dense_laws.specs.Says.{IsAt, NodeTold, Holds, SomeHolds, SomeBest, EachReached, OnlyAt, ChoicesSay}
use Rattle.dense_laws.proofs.Small.{clash}
use Rattle.dense_laws.proofs.Standing.{Enters}

-- a choice of an allowed tuple, with an optimal strategy after it, all in the place's box
pub record Chose (s : Setting) (p : Place) (a : List ℤ) (r : Plan) : Type 0 where
  pub tuple : List ℤ
  pub after : Plan
  pub plan : r ≡ choose tuple after
  pub is_move : IsMove s.game p.number a tuple
  pub optimal : Optimal s.game (next_scopes p.later) (suc p.number) (a ++ tuple) after
  pub lies : PlaysLie p.box (a ++ tuple) after

-- each optimal strategy at a scope of the player is one
pub chose : (s : Setting) (p : Place) (x : Option Condition) (later : List Scope) → p.later ≡ existential x ∷ later → (a : List ℤ) (r : Plan) →
    IsOptimalWithin s.game p.later p.number p.box a r → Chose s p a r
chose s p x later e a r o = by r (subst (λ ls. Optimal s.game ls p.number a r) e o.optimal) o.lies
  where
    by : (r : Plan) → Optimal s.game (existential x ∷ later) p.number a r → PlaysLie p.box a r → Chose s p a r
    by finish o l = absurd o
    by (choose t q) o l = record {
      tuple = t;
      after = q;
      plan = refl;
      is_move = o.is_move;
      optimal = subst (λ ls. Optimal s.game ls (suc p.number) (a ++ t) q) (sym (ap next_scopes e)) o.after;
      lies = l;
    }
    by (answer ls) o l = absurd o

-- the position after it
pub chosen_at : (s : Setting) (p : Place) (a : List ℤ) (r : Plan) → IsAt s p a → (c : Chose s p a r) → IsAt s (place_below s p) (a ++ c.tuple)
chosen_at s p a r at c = record {
  position = record { count = move_count s.game p.number a c.tuple at.position.count c.is_move; lies = lie_front p.box c.after (a ++ c.tuple) c.lies };
  blocked = blocked_next s.game p.number a c.tuple (a ++ c.tuple) p.box p.horizon refl c.is_move at.blocked;
}

-- what the next node says holds the choices that lead there
pub node_holds : (v : Verdict) (g : Game) (later : List Scope) (i : ℕ) (e : List Condition) (box : Box) (a t : List ℤ) (q : Plan) →
    Says v g later (suc i) e box (a ++ t) → IsOptimalWithin g later (suc i) box (a ++ t) q → Holds g e a (choose t q) (seen_node v)
node_holds lost g later i e box a t q h o = h q o
node_holds (exact v) g later i e box a t q h o = subst (λ z. is_better_vector e z v ≡ false) (sym (choose_vector g e a t q)) (h.best q o)
node_holds (at_most p) g later i [] box a t q h o = tt
node_holds (at_most p) g later i (c ∷ e) box a t q h o = h q o
node_holds unknown g later i e box a t q h o = tt

-- an exact node is reached by its tuple
node_reached : (v : Verdict) (g : Game) (later : List Scope) (i : ℕ) (e : List Condition) (box : Box) (a : List ℤ) →
    (is_exact v ≡ true → (t : List ℤ) × IsMove g i a t × Says v g later (suc i) e box (a ++ t)) → EachReached g later i e a (seen_node v ∷ [])
node_reached lost g later i e box a f = (tt, tt)
node_reached (exact v) g later i e box a f =
    let h = f refl in let b = h.2.some in ((h.0, b.0, h.1, b.1, subst (λ z. z ≡ v) (sym (choose_vector g e a h.0 b.0)) b.2), tt)
node_reached (at_most p) g later i e box a f = (tt, tt)
node_reached unknown g later i e box a f = (tt, tt)

-- some position in a box that isn't empty
pub some_position : (g : Game) (i : ℕ) (box : Box) → has_empty box ≡ false → length box ≡ length (declared_box g) → (b : List ℤ) × IsPositionIn g i box b
some_position g i box full size =
    let most = before-le g i in
    let r = some_values (before g i) box full (omega arith) in (r.0, record { count = r.1; lies = r.2 })

module _ (s : Setting) (p : Place) (x : Option Condition) (later : List Scope) (e : p.later ≡ existential x ∷ later) (st : StandsPart s p) where
  -- a leaf that goes on: whatever is left of the scope's values, all of them lead to the next node. What is exact there is reached
  pub next_says : has_empty p.box ≡ false → (p.loose ≡ false → is_fixed s.game p.number p.box ≡ true → Enters s p) → (v : Verdict) → NodeTold s (place_below s p) v → StandsNode s (place_below s p) → ChoicesSay s p (seen_node v ∷ []) []
  next_says full enters v h below = record {
    held = λ a at r o.
        (let c = chose s p x later e a r o in
        inl (inl (subst (λ z. Holds s.game (list_after s.game p.later p.list) a z (seen_node v)) (sym c.plan)
        (node_holds v s.game (next_scopes p.later) p.number (list_after s.game p.later p.list) p.box a c.tuple c.after
        (h.says (a ++ c.tuple) (chosen_at s p a r at c)) (record { optimal = c.optimal; lies = c.lies })))));
    reached = λ l a only.
        node_reached v s.game (next_scopes p.later) p.number (list_after s.game p.later p.list) p.box a
        (λ q. (let strict = strict_below v q (h.loose) in
        let b = some_position s.game (suc p.number) p.box full (sub_length p.box (declared_box s.game) st.stands.box) in
        let n = enters l (fixed_of strict) b.0 b.1 in
        let same : n.0 ≡ a = only n.0 n.3 in (
          n.1,
          subst (λ z. IsMove s.game p.number z n.1) same n.4,
          subst (λ z. Says v s.game (next_scopes p.later) (suc p.number) (list_after s.game p.later p.list) p.box z) (n.2 ∙ ap (λ z. z ++ n.1) same)
              (h.says b.0 (record { position = b.1; blocked = below.stands.blocked strict b.0 b.1 })),
        )));
    loose = λ l. or_false (is_exact v) (h.loose (or_true p.loose (not (is_fixed s.game p.number p.box)) l));
  }
    where
      or_true : (a b : Bool) → a ≡ true → (a || b) ≡ true
      or_true true b e = refl
      or_true false b e = cc

      or_false : (a : Bool) → a ≡ false → (a || false) ≡ false
      or_false true e = cc
      or_false false e = refl

      strict_below : (v : Verdict) → is_exact v ≡ true → ((place_below s p).loose ≡ true → is_exact v ≡ false) → (place_below s p).loose ≡ false
      strict_below v q f = by ((place_below s p).loose) f
        where
          by : (b : Bool) → (b ≡ true → is_exact v ≡ false) → b ≡ false
          by true f = clash (is_exact v) q (f refl)
          by false f = refl

      fixed_of : (place_below s p).loose ≡ false → is_fixed s.game p.number p.box ≡ true
      fixed_of l = by p.loose (is_fixed s.game p.number p.box) l
        where
          by : (a b : Bool) → (a || not b) ≡ false → b ≡ true
          by true b e = cc
          by false true e = refl
          by false false e = cc

-- leaves beside others
pub holds_left : (g : Game) (e : List Condition) (a : List ℤ) (r : Plan) (xs ys : List Seen) → SomeHolds g e a r xs → SomeHolds g e a r (xs ++ ys)
holds_left g e a r [] ys h = absurd h
holds_left g e a r (x ∷ xs) ys h = elim h [ inl k ↦ inl k | inr k ↦ inr (holds_left g e a r xs ys k) ]

pub holds_right : (g : Game) (e : List Condition) (a : List ℤ) (r : Plan) (xs ys : List Seen) → SomeHolds g e a r ys → SomeHolds g e a r (xs ++ ys)
holds_right g e a r [] ys h = h
holds_right g e a r (x ∷ xs) ys h = inr (holds_right g e a r xs ys h)

best_left : (g : Game) (e : List Condition) (a : List ℤ) (r : Plan) (xs ys : List ℤ) → SomeBest g e a r xs → SomeBest g e a r (xs ++ ys)
best_left g e a r [] ys h = absurd h
best_left g e a r (x ∷ xs) ys h = elim h [ inl k ↦ inl k | inr k ↦ inr (best_left g e a r xs ys k) ]

best_right : (g : Game) (e : List Condition) (a : List ℤ) (r : Plan) (xs ys : List ℤ) → SomeBest g e a r ys → SomeBest g e a r (xs ++ ys)
best_right g e a r [] ys h = h
best_right g e a r (x ∷ xs) ys h = inr (best_right g e a r xs ys h)

pub reached_both : (g : Game) (later : List Scope) (i : ℕ) (e : List Condition) (a : List ℤ) (xs ys : List Seen) → EachReached g later i e a xs → EachReached g later i e a ys → EachReached g later i e a (xs ++ ys)
reached_both g later i e a [] ys h k = k
reached_both g later i e a (x ∷ xs) ys h k = (h.0, reached_both g later i e a xs ys h.1 k)

-- values of the scope's own variables don't matter to positions before it
same_front : (ds : Box) (x : ℕ) (us vs w : List ℤ) → length w ≤ x → InBox w (set ds x us) → InBox w (set ds x vs)
same_front ds x us vs [] l h = tt
same_front [] x us vs (v ∷ w) l h = h
same_front (d ∷ ds) zero us vs (v ∷ w) l h = absurd (omega arith)
same_front (d ∷ ds) (suc x) us vs (v ∷ w) l h = (h.0, same_front ds x us vs w (omega arith) h.1)

abbrev pub case_place : Place → ℕ → Values → Place
case_place p x us = with_box (box_to p.box x us) p

-- a case is a part of the box, at the same positions
pub case_at : (s : Setting) (p : Place) (x : ℕ) (us vs : Values) (a : List ℤ) → before s.game p.number ≤ x → ((z : ℤ) → Among z us → Among z vs) → IsAt s (case_place p x vs) a → IsAt s (case_place p x us) a
case_at s p x us vs a l f at = record {
  position = record { count = at.position.count; lies = same_front p.box x vs us a (let n = at.position.count in omega arith) at.position.lies };
  blocked = blocked_less s.game p.number a (set p.box x vs) (set p.box x us) p.horizon (λ w. set_widen p.box x us vs w f) at.blocked;
}

pub no_exact : (xs ys : List Seen) → some_node is_exact xs ≡ false → some_node is_exact ys ≡ false → some_node is_exact (xs ++ ys) ≡ false
no_exact [] ys h k = k
no_exact (seen_barred ∷ xs) ys h k = no_exact xs ys h k
no_exact (seen_skipped ∷ xs) ys h k = no_exact xs ys h k
no_exact (seen_bound m ∷ xs) ys h k = no_exact xs ys h k
no_exact (seen_node v ∷ xs) ys h k = let q = or_parts (is_exact v) (some_node is_exact xs) h in or_from (is_exact v) (some_node is_exact (xs ++ ys)) q.0 (no_exact xs ys q.1 k)

-- what is so of two parts of a variable's values is so of both
module _ (s : Setting) (p : Place) (y : Option Condition) (later : List Scope) (e : p.later ≡ existential y ∷ later) (x : ℕ) (low : before s.game p.number ≤ x) (high : x < before s.game (suc p.number)) (us vs : Values) where
  -- positions are the same whatever values of the variable are left
  only_case : (zs : Values) (a : List ℤ) → OnlyAt s (case_place p x (us ++ vs)) a → OnlyAt s (case_place p x zs) a
  only_case zs a f b at = f b (record { count = at.count; lies = same_front p.box x zs (us ++ vs) b (let n = at.count in omega arith) at.lies })

  in_case : (zs : Values) (a : List ℤ) (r : Plan) → length a ≡ before s.game p.number → (c : Chose s (case_place p x (us ++ vs)) a r) → InBox (a ++ c.tuple) (set p.box x zs) → PlaysLie (set p.box x zs) a r
  in_case zs a r n c j =
      let m = move_count s.game p.number a c.tuple n c.is_move in
      subst (PlaysLie (set p.box x zs) a) (sym c.plan)
      (lie_part (suc x) (set p.box x (us ++ vs)) (set p.box x zs) (λ w. set_part p.box x (us ++ vs) zs w) c.after (a ++ c.tuple) (omega arith) j c.lies)

  pub cases_say : (xs ys : List Seen) (bs cs : List ℤ) → ChoicesSay s (case_place p x us) xs bs → ChoicesSay s (case_place p x vs) ys cs → ChoicesSay s (case_place p x (us ++ vs)) (xs ++ ys) (bs ++ cs)
  cases_say xs ys bs cs h k = record {
    held = λ a at r o.
        (let whole = case_place p x (us ++ vs) in
        let c = chose s whole y later e a r o in
        elim (values_split p.box x us vs (a ++ c.tuple) (lie_front whole.box c.after (a ++ c.tuple) c.lies)) [
          | inl q ↦ elim (h.held a (case_at s p x us (us ++ vs) a low (λ z m. among_left z us vs m) at) r (record { optimal = o.optimal; lies = in_case us a r at.position.count c q })) [
            | inl t ↦ inl (holds_left s.game (list_after s.game p.later p.list) a r xs ys t)
            | inr t ↦ inr (best_left s.game p.list a r bs cs t)
          ]
          | inr q ↦ elim (k.held a (case_at s p x vs (us ++ vs) a low (λ z m. among_right z us vs m) at) r (record { optimal = o.optimal; lies = in_case vs a r at.position.count c q })) [
            | inl t ↦ inl (holds_right s.game (list_after s.game p.later p.list) a r xs ys t)
            | inr t ↦ inr (best_right s.game p.list a r bs cs t)
          ]
        ]);
    reached = λ l a only.
        reached_both s.game (next_scopes p.later) p.number (list_after s.game p.later p.list) a xs ys (h.reached l a (only_case us a only)) (k.reached l a (only_case vs a only));
    loose = λ l. no_exact xs ys (h.loose l) (k.loose l);
  }

-- a smaller box that keeps the strategies
pub smaller_says : (s : Setting) (p : Place) (small : Box) (xs : List Seen) (bs : List ℤ) → ((w : List ℤ) → InBox w small → InBox w p.box) →
    ((a : List ℤ) → IsPositionIn s.game p.number p.box a → (r : Plan) → IsOptimalWithin s.game p.later p.number p.box a r → IsOptimalWithin s.game p.later p.number small a r) →
    ChoicesSay s (with_box small p) xs bs → ChoicesSay s p xs bs
smaller_says s p small xs bs sub keeps h = record {
  held = λ a at r o.
      (let k = keeps a at.position r o in
      h.held a (record { position = record { count = at.position.count; lies = lie_front small r a k.lies }; blocked = blocked_less s.game p.number a p.box small p.horizon sub at.blocked }) r k);
  reached = λ l a only. h.reached l a (λ b at. only b (record { count = at.count; lies = sub b at.lies }));
  loose = h.loose;
}

-- where no strategy lies in the box
pub none_say : (s : Setting) (p : Place) → ((a : List ℤ) → IsAt s p a → (r : Plan) → ¬ IsOptimalWithin s.game p.later p.number p.box a r) → ChoicesSay s p [] []
none_say s p f = record { held = λ a at r o. absurd (f a at r o); reached = λ l a only. tt; loose = λ l. refl }

-- leaves that are lost or barred
pub lost_say : (s : Setting) (p : Place) → ((a : List ℤ) → IsAt s p a → (r : Plan) → ¬ IsOptimalWithin s.game p.later p.number p.box a r) → ChoicesSay s p (seen_node lost ∷ []) []
lost_say s p f = record { held = λ a at r o. absurd (f a at r o); reached = λ l a only. (tt, tt); loose = λ l. refl }

pub barred_say : (s : Setting) (p : Place) → ((a : List ℤ) → IsAt s p a → (r : Plan) → ¬ IsOptimalWithin s.game p.later p.number p.box a r) → ChoicesSay s p (seen_barred ∷ []) []
barred_say s p f = record { held = λ a at r o. absurd (f a at r o); reached = λ l a only. (tt, tt); loose = λ l. refl }

-- where choices are left out
pub skipped_say : (s : Setting) (p : Place) → ChoicesSay s p (seen_skipped ∷ []) []
skipped_say s p = record { held = λ a at r o. inl (inl tt); reached = λ l a only. (tt, tt); loose = λ l. refl }
