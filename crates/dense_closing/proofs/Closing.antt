-- The steps of closing take ends, and come to a closed box or empty a domain.
use Rattle.std.proofs.Common.{◌≡◌, ◌⊎◌, inl, inr, ℕ, zero, suc, ◌+◌, ◌<◌, Bool, true, false, not, ◌&&◌, ◌||◌, cond, List, [], ◌∷◌, length, set, filter, refl, sym, ap, ◌∙◌, subst, arith, ℤ, Option, Some, None}
use Rattle.std.specs.Prelude.{int_le, slice_get, flat_map, MatchOption}
use Rattle.std.specs.List.{list_all, list_any}
use Rattle.std.proofs.lemmas.Int.{ints}
use Rattle.std.proofs.lemmas.List.Filters.{length-filter_both}
use Rattle.std.proofs.lemmas.Bool.{or_left, or_right, or_from, or_parts, not_from_false, false_from_ne_true, or_cases, and_from}
use Rattle.qc_model.specs.Arguments.{variables_of}
use Rattle.qc_model.specs.Block.{is_owned_within, constraints_within}
use Rattle.qc_model.specs.Closed.{refutes_at}
use Rattle.qc_model.specs.Content.{Game, Rule}
use Rattle.qc_model.specs.Domains.{Values, Box, declared_box, values_left, values_within, values_outside, box_within, has_value, has_empty, is_none_left, is_within, least_value, greatest_value}
use Rattle.qc_model.specs.Lists.{Among}
use Rattle.qc_model.specs.Refuted.{refuted_by}
use Rattle.qc_model.specs.Valid.{IsValid}
use Rattle.qc_model.specs.Verdict.{is_none_of}
use Rattle.qc_model.proofs.Moves.{among_left, among_right, among_either, among_flat_map, of_flat_map, of_filter, among_filter}
use Rattle.qc_model.proofs.Readable.{first, second}
use Rattle.model_arguments.specs.Asked.{is_box_of}
use Rattle.model_arguments.proofs.Bools.{clash, not_false}
use Rattle.model_arguments.proofs.Boxes.{some_left, sub_ascending, sub_without}
use Rattle.model_arguments.proofs.Values.{has_least, has_greatest, only_within}
use Rattle.proof_tree.specs.declared.tree.Step.{Step}
use Rattle.proof_tree.specs.Steps.{after_step, after_steps, is_legal, removes_some, is_refuted_within}
use Rattle.dense_closing.specs.Closing.{IsGreatestClosed}
use Rattle.dense_closing.specs.Ends.{is_end, may_take, takes_end, is_end_step, are_end_steps}
use Rattle.dense_closing.specs.ClosingSteps.{removal, both_ends, own_ends, refuted_ends, first_then, steps_by, total, closing_steps, is_hopeless, greatest_closed}
use Rattle.dense_closing.specs.Takes.{Takes, takes_all, keeps_at, keeps_box, is_closed_by, NoneClosedBy}
use Rattle.dense_closing.proofs.Keeping.{Placed, placed, reach, show_none, show_hopeless}
use Rattle.dense_closing.proofs.Own.{own_place, rule_below}
use Rattle.dense_closing.proofs.Within.{sub_same}

abbrev IsEndOf : Box → ℕ → ℤ → Type 0
IsEndOf box x v = (v ≡ least_value (values_left box x)) ⊎ (v ≡ greatest_value (values_left box x))

-- a step of an end of a constraint's own variable
record OwnEnd (takes : Takes) (k : ℕ) (cs : List Rule) (box : Box) (s : Step) : Type 0 where
  pub number : ℕ
  pub place : ℕ
  pub counts : number ≡ k + place
  pub rule : Rule
  pub there : slice_get cs place ≡ Some rule
  pub variable : ℕ
  pub own : Among variable (variables_of rule.args)
  pub taken : takes rule variable ≡ true
  pub value : ℤ
  pub end : IsEndOf box variable value
  pub step : s ≡ removal number variable value

own_end_is : (takes : Takes) (k : ℕ) (cs : List Rule) (box : Box) (s : Step) → Among s (own_ends takes k cs box) → OwnEnd takes k cs box s
own_end_is takes k [] box s m = absurd m
own_end_is takes k (c ∷ cs) box s m =
    elim (among_either s (flat_map (both_ends k box) (filter (takes c) (variables_of c.args))) (own_ends takes (suc k) cs box) m) [
      | inl h ↦ (let f = of_flat_map (both_ends k box) s (filter (takes c) (variables_of c.args)) h in here f.0 (of_filter (takes c) f.0 (variables_of c.args) f.1) f.2)
      | inr h ↦ later (own_end_is takes (suc k) cs box s h)
    ]
  where
    at : (x : ℕ) → Among x (variables_of c.args) × (takes c x ≡ true) → (v : ℤ) → IsEndOf box x v → s ≡ removal k x v → OwnEnd takes k (c ∷ cs) box s
    at x o v e q = record { number = k; place = zero; counts = omega arith; rule = c; there = refl; variable = x; own = o.0; taken = o.1; value = v; end = e; step = q }

    here : (x : ℕ) → Among x (variables_of c.args) × (takes c x ≡ true) → Among s (both_ends k box x) → OwnEnd takes k (c ∷ cs) box s
    here x o (inl q) = at x o (least_value (values_left box x)) (inl refl) q
    here x o (inr (inl q)) = at x o (greatest_value (values_left box x)) (inr refl) q
    here x o (inr (inr n)) = absurd n

    later : OwnEnd takes (suc k) cs box s → OwnEnd takes k (c ∷ cs) box s
    later f = record { number = f.number; place = suc f.place; counts = (let n = f.counts in omega arith); rule = f.rule; there = f.there; variable = f.variable; own = f.own; taken = f.taken; value = f.value; end = f.end; step = f.step }

among_ends : (k : ℕ) (box : Box) (x : ℕ) (v : ℤ) → IsEndOf box x v → Among (removal k x v) (both_ends k box x)
among_ends k box x v (inl e) = inl (ap (removal k x) e)
among_ends k box x v (inr e) = inr (inl (ap (removal k x) e))

own_end_in : (takes : Takes) (k : ℕ) (cs : List Rule) (box : Box) (place : ℕ) (c : Rule) (x : ℕ) (v : ℤ) → slice_get cs place ≡ Some c → Among x (variables_of c.args) → takes c x ≡ true → IsEndOf box x v → (number : ℕ) → number ≡ k + place →
    Among (removal number x v) (own_ends takes k cs box)
own_end_in takes k [] box place c x v e o t n number q = cc
own_end_in takes k (d ∷ cs) box zero c x v e o t n number q =
    let same : d ≡ c = cc in
    let here : k ≡ number = omega arith in
    among_left (removal number x v) (flat_map (both_ends k box) (filter (takes d) (variables_of d.args))) (own_ends takes (suc k) cs box)
    (subst (λ (r : Rule). Among (removal number x v) (flat_map (both_ends k box) (filter (takes r) (variables_of r.args)))) (sym same)
    (subst (λ j. Among (removal j x v) (flat_map (both_ends k box) (filter (takes c) (variables_of c.args)))) here
    (among_flat_map (both_ends k box) x (removal k x v) (filter (takes c) (variables_of c.args)) (among_filter (takes c) x (variables_of c.args) o t) (among_ends k box x v n))))
own_end_in takes k (d ∷ cs) box (suc place) c x v e o t n number q =
    among_right (removal number x v) (flat_map (both_ends k box) (filter (takes d) (variables_of d.args))) (own_ends takes (suc k) cs box) (own_end_in takes (suc k) cs box place c x v e o t n number (omega arith))

-- an end that is refuted may go
some_of_own : (xs : List ℕ) (x : ℕ) → Among x xs → not (is_none_of xs) ≡ true
some_of_own [] x m = absurd m
some_of_own (y ∷ xs) x m = refl

may_take_is : (takes : Takes) (r : Option Rule) (c : Rule) (x : ℕ) → r ≡ Some c → takes c x ≡ true → Among x (variables_of c.args) → may_take takes r x ≡ true
may_take_is takes r c x e t own =
    subst (λ o. may_take takes o x ≡ true) (sym e) (and_from (takes c x) (not (is_none_of (variables_of c.args))) t (some_of_own (variables_of c.args) x own))

at_most_itself : (v w : ℤ) → v ≡ w → int_le v w ≡ true
at_most_itself v w e = grind (arith, ints)

is_at_end : (vs : Values) (v : ℤ) → (v ≡ least_value vs) ⊎ (v ≡ greatest_value vs) → is_end v v vs ≡ true
is_at_end vs v (inl e) = or_left (int_le v (least_value vs)) (int_le (greatest_value vs) v) (at_most_itself v (least_value vs) e)
is_at_end vs v (inr e) = or_right (int_le v (least_value vs)) (int_le (greatest_value vs) v) (at_most_itself (greatest_value vs) v (sym e))

pub end_may_go : (takes : Takes) (g : Game) → IsValid g → (i stop k : ℕ) (c : Rule) (x : ℕ) (v : ℤ) (box : Box) → is_box_of g box ≡ true → has_empty box ≡ false → slice_get g.constraints k ≡ Some c → is_owned_within i stop c ≡ true →
    Among x (variables_of c.args) → takes c x ≡ true → (v ≡ least_value (values_left box x)) ⊎ (v ≡ greatest_value (values_left box x)) → refutes_at c box x v ≡ true → is_end_step takes g i stop (removal k x v) box ≡ true
end_may_go takes g valid i stop k c x v box d full there owned own taken end r =
    and_from (is_legal g i stop None (removal k x v) box) (is_end v v vs && may_take takes (slice_get g.constraints k) x)
    (and_from (removes_some box x v v) (is_refuted_within i stop (slice_get g.constraints k) (box_within box x v v))
    (and_from (not (has_empty box)) (not (is_none_left (values_within v v vs))) (not_from_false (has_empty box) full) (not_from_false (is_none_left (values_within v v vs)) (ap is_none_left alone)))
    (subst (λ o. is_refuted_within i stop o (box_within box x v v) ≡ true) (sym there)
    (and_from (is_owned_within i stop c) (refuted_by c (box_within box x v v)) owned (ap (λ us. refuted_by c (set box x us)) alone ∙ r))))
    (and_from (is_end v v vs) (may_take takes (slice_get g.constraints k) x) (is_at_end vs v end) (may_take_is takes (slice_get g.constraints k) c x there taken own))
  where
    vs : Values
    vs = values_left box x

    some : is_none_left (values_left box x) ≡ false
    some = some_left box x full (own_place (length box) x c.args (rule_below g valid box d k c there) own)

    left : has_value (values_left box x) v ≡ true
    left = elim end [
      | inl e ↦ subst (λ w. has_value (values_left box x) w ≡ true) (sym e) (has_least (values_left box x) some)
      | inr e ↦ subst (λ w. has_value (values_left box x) w ≡ true) (sym e) (has_greatest (values_left box x) some)
    ]

    alone : values_within v v (values_left box x) ≡ v ∷ []
    alone = only_within v (values_left box x) (sub_ascending box (declared_box g) x d) left

-- a step leaves fewer values
fewer : (q : ℤ → Bool) (vs : Values) → is_none_left (filter q vs) ≡ false → length (filter (λ v. not (q v)) vs) < length vs
fewer q vs h = let both = length-filter_both q (λ v. not (q v)) (λ v. refl) vs in let some = long (filter q vs) h in omega arith
  where
    long : (us : Values) → is_none_left us ≡ false → 0 < length us
    long [] n = cc
    long (u ∷ us) n = omega arith

total_less : (box : Box) (x : ℕ) (us : Values) → length us < length (values_left box x) → total (set box x us) < total box
total_less [] x us l = absurd (omega arith)
total_less (vs ∷ box) zero us l = omega arith
total_less (vs ∷ box) (suc x) us l = let m = total_less box x us l in omega arith

shrinks : (box : Box) (k x : ℕ) (v : ℤ) → removes_some box x v v ≡ true → total (after_step (removal k x v) box) < total box
shrinks box k x v h =
    let some = not_false (is_none_left (values_within v v (values_left box x))) (second (not (has_empty box)) (not (is_none_left (values_within v v (values_left box x)))) h) in
    total_less box x (values_outside v v (values_left box x)) (fewer (is_within v v) (values_left box x) some)

-- what is among none isn't there
none_there : {X : Type 0} (x : X) (xs : List X) → xs ≡ [] → Among x xs → ⊥
none_there x xs e m = let n : Among x [] = subst (λ ys. Among x ys) e m in absurd n

all_if : {X : Type 0} (p : X → Bool) (xs : List X) → ((x : X) → Among x xs → p x ≡ true) → list_all p xs ≡ true
all_if p [] f = refl
all_if p (x ∷ xs) f = and_from (p x) (list_all p xs) (f x (inl refl)) (all_if p xs (λ y m. f y (inr m)))

-- where all may be taken, no box is hopeless
none_spared : (xs : List ℕ) → list_any (λ x. false) xs ≡ false
none_spared [] = refl
none_spared (x ∷ xs) = none_spared xs

pub never_hopeless : (cs : List Rule) (box : Box) → is_hopeless takes_all cs box ≡ false
never_hopeless [] box = refl
never_hopeless (c ∷ cs) box = or_from (refuted_by c box && list_any (λ x. false) (variables_of c.args)) (is_hopeless takes_all cs box) (never_both (refuted_by c box) (list_any (λ x. false) (variables_of c.args)) (none_spared (variables_of c.args))) (never_hopeless cs box)
  where
    never_both : (a b : Bool) → b ≡ false → (a && b) ≡ false
    never_both true b h = h
    never_both false b h = refl

-- of a constraint that refutes a box that isn't hopeless all variables may be taken
any_if : {X : Type 0} (p : X → Bool) (xs : List X) (x : X) → Among x xs → p x ≡ true → list_any p xs ≡ true
any_if p [] x m e = absurd m
any_if p (y ∷ xs) x (inl q) e = or_left (p y) (list_any p xs) (subst (λ z. p z ≡ true) q e)
any_if p (y ∷ xs) x (inr m) e = or_right (p y) (list_any p xs) (any_if p xs x m e)

spared_stands : (takes : Takes) (cs : List Rule) (box : Box) (c : Rule) (x : ℕ) → is_hopeless takes cs box ≡ false → Among c cs → Among x (variables_of c.args) → takes c x ≡ false → refuted_by c box ≡ false
spared_stands takes cs box c x h m o t = false_from_ne_true (refuted_by c box) (λ r.
    clash (is_hopeless takes cs box)
    (any_if (λ c. refuted_by c box && list_any (λ x. not (takes c x)) (variables_of c.args)) cs c m
    (and_from (refuted_by c box) (list_any (λ x. not (takes c x)) (variables_of c.args)) r (any_if (λ x. not (takes c x)) (variables_of c.args) x o (not_from_false (takes c x) t)))) h)

module _ (takes : Takes) (g : Game) (valid : IsValid g) (i stop : ℕ) where
  abbrev rules : List Rule
  rules = constraints_within g i stop

  -- where no end is refuted, the box is closed, or hopeless
  closed_then : (box : Box) → is_box_of g box ≡ true → has_empty box ≡ false → is_hopeless takes rules box ≡ false → refuted_ends takes g i stop box ≡ [] → is_closed_by takes rules box ≡ true
  closed_then box d full hope none =
      and_from (not (has_empty box)) (list_all (keeps_box takes box) rules) (not_from_false (has_empty box) full)
      (all_if (keeps_box takes box) rules (λ c m. (let f = of_filter (is_owned_within i stop) c g.constraints m in
      all_if (keeps_at takes box c) (variables_of c.args) (λ x o. at c (placed g.constraints c f.0) f.1 m x o (takes c x) refl))))
    where
      kept : (c : Rule) → Placed g.constraints c → is_owned_within i stop c ≡ true → (x : ℕ) → Among x (variables_of c.args) → takes c x ≡ true → (v : ℤ) → IsEndOf box x v → refutes_at c box x v ≡ false
      kept c p o x m t v e = false_from_ne_true (refutes_at c box x v) (λ r.
          none_there (removal p.place x v) (refuted_ends takes g i stop box) none
          (among_filter (λ s. is_legal g i stop None s box) (removal p.place x v) (own_ends takes 0 g.constraints box)
          (own_end_in takes 0 g.constraints box p.place c x v p.there m t e p.place (omega arith))
          (first (is_legal g i stop None (removal p.place x v) box) (takes_end takes g (removal p.place x v) box) (end_may_go takes g valid i stop p.place c x v box d full p.there o m t e r))))

      at : (c : Rule) → Placed g.constraints c → is_owned_within i stop c ≡ true → Among c rules → (x : ℕ) → Among x (variables_of c.args) → (b : Bool) → takes c x ≡ b → keeps_at takes box c x ≡ true
      at c p o m x k true t =
          subst (λ b. cond b (not (refutes_at c box x (least_value (values_left box x))) && not (refutes_at c box x (greatest_value (values_left box x)))) (not (refuted_by c box)) ≡ true) (sym t)
          (and_from (not (refutes_at c box x (least_value (values_left box x)))) (not (refutes_at c box x (greatest_value (values_left box x))))
          (not_from_false (refutes_at c box x (least_value (values_left box x))) (kept c p o x k t (least_value (values_left box x)) (inl refl)))
          (not_from_false (refutes_at c box x (greatest_value (values_left box x))) (kept c p o x k t (greatest_value (values_left box x)) (inr refl))))
      at c p o m x k false t =
          subst (λ b. cond b (not (refutes_at c box x (least_value (values_left box x))) && not (refutes_at c box x (greatest_value (values_left box x)))) (not (refuted_by c box)) ≡ true) (sym t)
          (not_from_false (refuted_by c box) (spared_stands takes rules box c x hope m k t))

  -- steps that take ends until a domain is empty or no end is refuted
  record EndsWell (box : Box) (steps : List Step) : Type 0 where
    pub ends : are_end_steps takes g i stop steps box ≡ true
    pub declared : is_box_of g (after_steps steps box) ≡ true
    pub last : (has_empty (after_steps steps box) ≡ true) ⊎ (refuted_ends takes g i stop (after_steps steps box) ≡ [])

  -- the first of the refuted ends
  record First (box : Box) (s : Step) : Type 0 where
    pub end : is_end_step takes g i stop s box ≡ true
    pub less : total (after_step s box) < total box
    pub declared : is_box_of g (after_step s box) ≡ true

  first_is : (box : Box) (s : Step) → is_box_of g box ≡ true → Among s (refuted_ends takes g i stop box) → First box s
  first_is box s d m =
      let f = of_filter (λ t. is_legal g i stop None t box) s (own_ends takes 0 g.constraints box) m in
      let e = own_end_is takes 0 g.constraints box s f.0 in
      subst (First box) (sym e.step) (by e.number e.place e.counts e.variable e.value e.rule e.there e.own e.taken e.end (subst (λ t. is_legal g i stop None t box ≡ true) e.step f.1))
    where
      by : (k place : ℕ) → k ≡ 0 + place → (x : ℕ) (v : ℤ) (c : Rule) → slice_get g.constraints place ≡ Some c → Among x (variables_of c.args) → takes c x ≡ true → IsEndOf box x v → is_legal g i stop None (removal k x v) box ≡ true → First box (removal k x v)
      by k place n x v c there own taken end legal =
          let same : place ≡ k = omega arith in
          let some = first (removes_some box x v v) (is_refuted_within i stop (slice_get g.constraints k) (box_within box x v v)) legal in
          record {
            end = and_from (is_legal g i stop None (removal k x v) box) (takes_end takes g (removal k x v) box) legal
                (and_from (is_end v v (values_left box x)) (may_take takes (slice_get g.constraints k) x) (is_at_end (values_left box x) v end)
                (may_take_is takes (slice_get g.constraints k) c x (subst (λ j. slice_get g.constraints j ≡ Some c) same there) taken own));
            less = shrinks box k x v some;
            declared = sub_without box (declared_box g) x v v d;
          }

  run : (n : ℕ) (box : Box) → is_box_of g box ≡ true → total box < n → EndsWell box (steps_by n takes g i stop box)
  run zero box d l = absurd (omega arith)
  run (suc n) box d l = by (refuted_ends takes g i stop box) refl (λ b e m. run n b e m)
    where
      by : (ss : List Step) → refuted_ends takes g i stop box ≡ ss → ((b : Box) → is_box_of g b ≡ true → total b < n → EndsWell b (steps_by n takes g i stop b)) → EndsWell box (first_then (steps_by n takes g i stop) box ss)
      by [] q more = record { ends = refl; declared = d; last = inr q }
      by (s ∷ ss) q more =
          let f = first_is box s d (subst (λ ts. Among s ts) (sym q) (inl refl)) in
          let r = more (after_step s box) f.declared (let m = f.less in omega arith) in
          record { ends = and_from (is_end_step takes g i stop s box) (are_end_steps takes g i stop (steps_by n takes g i stop (after_step s box)) (after_step s box)) f.end r.ends; declared = r.declared; last = r.last }

  closing_ends : (box : Box) → is_box_of g box ≡ true → EndsWell box (closing_steps takes g i stop box)
  closing_ends box d = run (suc (total box)) box d (omega arith)

  pub closing_takes_ends : (box : Box) → is_box_of g box ≡ true → are_end_steps takes g i stop (closing_steps takes g i stop box) box ≡ true
  closing_takes_ends box d = (closing_ends box d).ends

  module _ (box : Box) (d : is_box_of g box ≡ true) where
    abbrev steps : List Step
    steps = closing_steps takes g i stop box

    abbrev left : Box
    left = after_steps steps box

    well : EndsWell box steps
    well = closing_ends box d

    -- what they leave is the greatest closed box, unless it shows that there is none
    left_is : (b : Bool) → has_empty left || is_hopeless takes rules left ≡ b →
        MatchOption (cond b None (Some left)) (NoneClosedBy takes rules box) (IsGreatestClosed takes rules box)
    left_is true e =
        elim (or_cases (has_empty left) (is_hopeless takes rules left) e) [
          | inl n ↦ show_none takes g valid i stop steps box d well.ends n
          | inr n ↦ show_hopeless takes g valid i stop steps box d well.ends n
        ]
    left_is false e =
        let n = or_parts (has_empty left) (is_hopeless takes rules left) e in
        elim well.last [
          | inl q ↦ absurd (clash (has_empty left) q n.0)
          | inr q ↦ reach takes g valid i stop steps box d well.ends (closed_then left well.declared n.0 n.1 q)
        ]

    pub closing_finds : MatchOption (greatest_closed takes g i stop box) (NoneClosedBy takes rules box) (IsGreatestClosed takes rules box)
    closing_finds = left_is (has_empty left || is_hopeless takes rules left) refl

    -- where there is a greatest closed box, it is what they come to
    pub closing_leads : (small : Box) → IsGreatestClosed takes rules box small → left ≡ small
    closing_leads small h = by (has_empty left || is_hopeless takes rules left) refl
      where
        by : (b : Bool) → has_empty left || is_hopeless takes rules left ≡ b → left ≡ small
        by true e = let n = left_is true e in absurd (clash (is_closed_by takes rules small) h.closed (n small h.within))
        by false e = let m = left_is false e in sub_same left small (h.greatest left m.within m.closed) (m.greatest small h.within h.closed)

-- where all may be taken, they empty a domain exactly where no box within is closed
module _ (g : Game) (valid : IsValid g) (i stop : ℕ) (box : Box) (d : is_box_of g box ≡ true) where
  abbrev all_gone : Box
  all_gone = after_steps (closing_steps takes_all g i stop box) box

  pub emptied_shows : has_empty all_gone ≡ true → NoneClosedBy takes_all (constraints_within g i stop) box
  emptied_shows e = show_none takes_all g valid i stop (closing_steps takes_all g i stop box) box d (closing_takes_ends takes_all g valid i stop box d) e

  pub none_empties : NoneClosedBy takes_all (constraints_within g i stop) box → has_empty all_gone ≡ true
  none_empties h = by (has_empty all_gone) refl
    where
      by : (b : Bool) → has_empty all_gone ≡ b → b ≡ true
      by true e = refl
      by false e =
          let m = left_is takes_all g valid i stop box d false (or_from (has_empty all_gone) (is_hopeless takes_all (constraints_within g i stop) all_gone) e (never_hopeless (constraints_within g i stop) all_gone)) in
          absurd (clash (is_closed_by takes_all (constraints_within g i stop) all_gone) m.closed (h all_gone m.within))
