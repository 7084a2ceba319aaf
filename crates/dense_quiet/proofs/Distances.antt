-- How far a term moves with its variable's value.
use Rattle.std.proofs.Common.{◌≡◌, ◌≢◌, inl, inr, rules, ℕ, zero, suc, ◌+◌, ◌≤◌, Bool, false, true, refl, ap, ◌∙◌, sym, arith, ℤ}
use Rattle.std.specs.Prelude.{pos, negsuc, ◌+ℤ◌, ◌-ℤ◌, ◌*ℤ◌, ◌≤ℤ◌, ◌<ℤ◌, nat_abs, int_lt, unsigned_abs}
use Rattle.std.proofs.Math.IntN.{*ℤ_comm, *ℤ-negsuc, zero-*ℤ, suc_ℤ-*ℤ, +ℤ-suc_ℤ, neg_ℤ}
use Rattle.std.proofs.Math.Nat.{mul-le-mul_left}
use Rattle.std.proofs.lemmas.Int.{ints}
use mir.Val.{SFits}
use mir.Syntax.{w64}
use Rattle.model_arguments.proofs.Kept.{lower, over_low, under_high, small_between}
use Rattle.qc_model.specs.Valid.{is_number}
use Rattle.qc_model.proofs.Sound.{differ}
use Rattle.qc_refuter.proofs.Terms.{product_small}
use Rattle.dense_quiet.specs.declared.slack.Room.{Room}
use Rattle.dense_quiet.specs.Slack.{most_room, IsPast}

-- e steps up
by_right : (a w : ℤ) (e : ℕ) → (w +ℤ pos e) *ℤ a ≡ (w *ℤ a) +ℤ (pos e *ℤ a)
by_right a w zero = ap (λ z. z *ℤ a) (none w) ∙ none_more (w *ℤ a) (pos 0 *ℤ a) (zero-*ℤ a)
  where
    none : (v : ℤ) → v +ℤ pos 0 ≡ v
    none v = omega (arith, ints)

    none_more : (z u : ℤ) → u ≡ pos 0 → z ≡ z +ℤ u
    none_more z u e = omega (arith, ints)
by_right a w (suc e) = ap (λ z. z *ℤ a) (+ℤ-suc_ℤ w (pos e)) ∙ (suc_ℤ-*ℤ (w +ℤ pos e) a ∙ regroup ((w +ℤ pos e) *ℤ a) (w *ℤ a) (pos e *ℤ a) (pos (suc e) *ℤ a) (by_right a w e) (suc_ℤ-*ℤ (pos e) a))
  where
    regroup : (z u s t : ℤ) → z ≡ u +ℤ s → t ≡ s +ℤ a → z +ℤ a ≡ u +ℤ t
    regroup z u s t h k = omega (arith, ints)

reached : (w v : ℤ) → w ≤ℤ v → v ≡ w +ℤ pos (nat_abs (v -ℤ w))
reached w v h = omega (arith, ints)

pub moved_by : (n w v : ℤ) → w ≤ℤ v → n *ℤ v ≡ (n *ℤ w) +ℤ (n *ℤ pos (nat_abs (v -ℤ w)))
moved_by n w v h =
    let e = nat_abs (v -ℤ w) in
    by (n *ℤ v) (v *ℤ n) (n *ℤ w) (w *ℤ n) (n *ℤ pos e) (pos e *ℤ n) (*ℤ_comm n v) (*ℤ_comm n w) (*ℤ_comm n (pos e)) (ap (λ z. z *ℤ n) (reached w v h) ∙ by_right n w e)
  where
    by : (a b c d s t : ℤ) → a ≡ b → c ≡ d → s ≡ t → b ≡ d +ℤ t → a ≡ c +ℤ s
    by a b c d s t h k l m = omega (arith, ints)

-- more steps take it farther
farther : (p k e : ℕ) → k + 1 ≤ e → (pos p *ℤ (pos k +ℤ pos 1)) ≤ℤ (pos p *ℤ pos e)
farther p k e h = omega (arith, ints, mul-le-mul_left p h)

pub rising : (n w k v r : ℤ) → n ≢ pos 0 → int_lt n (pos 0) ≡ false → pos 0 ≤ℤ k → r <ℤ (n *ℤ (k +ℤ pos 1)) → ((w +ℤ k) +ℤ pos 1) ≤ℤ v → ((n *ℤ w) +ℤ r) <ℤ (n *ℤ v)
rising (pos p) w (pos k) v r s h z l m =
    let e = nat_abs (v -ℤ w) in
    let up : w ≤ℤ v = omega (arith, ints) in
    let steps : k + 1 ≤ e = omega (arith, ints) in
    let far = farther p k e steps in
    by (pos p *ℤ v) (pos p *ℤ w) (pos p *ℤ pos e) (pos p *ℤ (pos k +ℤ pos 1)) (moved_by (pos p) w v up) far l
  where
    by : (a b s t : ℤ) → a ≡ b +ℤ s → t ≤ℤ s → r <ℤ t → (b +ℤ r) <ℤ a
    by a b s t h k l = omega (arith, ints)
rising (pos p) w (negsuc k) v r s h z l m = absurd z.le
rising (negsuc p) w k v r s h z l m = absurd (differ (sym h))

pub falling : (n w k v r : ℤ) → int_lt n (pos 0) ≡ true → pos 0 ≤ℤ k → r <ℤ (neg_ℤ n *ℤ (k +ℤ pos 1)) → ((w +ℤ k) +ℤ pos 1) ≤ℤ v → ((n *ℤ v) +ℤ r) <ℤ (n *ℤ w)
falling (pos p) w k v r h z l m = absurd (let below = lower (pos p) (pos 0) h in omega (arith, ints))
falling (negsuc p) w (negsuc k) v r h z l m = absurd z.le
falling (negsuc p) w (pos k) v r h z l m =
    let e = nat_abs (v -ℤ w) in
    let up : w ≤ℤ v = omega (arith, ints) in
    let steps : k + 1 ≤ e = omega (arith, ints) in
    let far = farther (suc p) k e steps in
    by (negsuc p *ℤ v) (negsuc p *ℤ w) (negsuc p *ℤ pos e) (pos (suc p) *ℤ pos e) (pos (suc p) *ℤ (pos k +ℤ pos 1)) (moved_by (negsuc p) w v up) turned far l
  where
    turned : negsuc p *ℤ pos (nat_abs (v -ℤ w)) ≡ neg_ℤ (pos (suc p) *ℤ pos (nat_abs (v -ℤ w)))
    turned = *ℤ_comm (negsuc p) (pos (nat_abs (v -ℤ w))) ∙ (*ℤ-negsuc (pos (nat_abs (v -ℤ w))) p ∙ ap neg_ℤ (*ℤ_comm (pos (nat_abs (v -ℤ w))) (pos (suc p))))

    by : (a b s u t : ℤ) → a ≡ b +ℤ s → s ≡ neg_ℤ u → t ≤ℤ u → r <ℤ t → (a +ℤ r) <ℤ b
    by a b s u t h q k l = omega (arith, ints)

-- products of numbers within the limit are nearer to each other than the most that is told
pub little_room : (n v w r : ℤ) → is_number n ≡ true → is_number v ≡ true → is_number w ≡ true → ((n *ℤ w) +ℤ r) <ℤ (n *ℤ v) → r <ℤ most_room
little_room n v w r a b c h = by (n *ℤ v) (n *ℤ w) (product_small n v a b) (product_small n w a c) h
  where
    by : (p q : ℤ) → unsigned_abs p ≤ 1000000000000000000 → unsigned_abs q ≤ 1000000000000000000 → (q +ℤ r) <ℤ p → r <ℤ most_room
    by p q k l m = omega (arith, ints)

-- the numbers of the code fit their type
pub small_fits : (v : ℤ) → neg_ℤ (pos 4000000000) ≤ℤ v → v ≤ℤ pos 4000000000 → SFits w64 v
small_fits v h k = search (rules, ints)

pub width_fits : (least greatest : ℤ) → is_number least ≡ true → is_number greatest ≡ true → SFits w64 (greatest -ℤ least)
width_fits least greatest a b =
    let p = over_low least a in
    let q = under_high least a in
    let r = over_low greatest b in
    let s = under_high greatest b in
    small_fits (greatest -ℤ least) (omega (arith, ints)) (omega (arith, ints))

pub inside_fits : (least greatest v : ℤ) → is_number least ≡ true → is_number greatest ≡ true → (least -ℤ pos 1) ≤ℤ v → v ≤ℤ (greatest +ℤ pos 1) → SFits w64 v
inside_fits least greatest v a b h k =
    let p = over_low least a in
    let q = under_high greatest b in
    small_fits v (omega (arith, ints)) (omega (arith, ints))

-- the values that are farther from the least than there is room, and from the greatest
pub past_up : (r : Room) (n least greatest up : ℤ) → is_number n ≡ true → n ≢ pos 0 → is_number least ≡ true → is_number greatest ≡ true → pos 0 ≤ℤ up →
    (int_lt n (pos 0) ≡ true → up <ℤ (greatest -ℤ least) → r.over <ℤ (neg_ℤ n *ℤ (up +ℤ pos 1))) → (int_lt n (pos 0) ≡ false → up <ℤ (greatest -ℤ least) → r.under <ℤ (n *ℤ (up +ℤ pos 1))) →
    IsPast r n least ((least +ℤ up) +ℤ pos 1) greatest
past_up r n least greatest up small some a b z f g = by (int_lt n (pos 0)) refl
  where
    less : (v : ℤ) → ((least +ℤ up) +ℤ pos 1) ≤ℤ v → v ≤ℤ greatest → up <ℤ (greatest -ℤ least)
    less v h k = omega (arith, ints)

    number : (v : ℤ) → ((least +ℤ up) +ℤ pos 1) ≤ℤ v → v ≤ℤ greatest → is_number v ≡ true
    number v h k = small_between least greatest v a b (omega (arith, ints)) k

    by : (t : Bool) → int_lt n (pos 0) ≡ t → IsPast r n least ((least +ℤ up) +ℤ pos 1) greatest
    by true e = inr (λ v h k. (let far = falling n least up v r.over e z (f e (less v h k)) h in (little_room n least v r.over small a (number v h k) far, far)))
    by false e = inl (λ v h k. (let far = rising n least up v r.under some e z (g e (less v h k)) h in (little_room n v least r.under small (number v h k) a far, far)))

pub past_down : (r : Room) (n least greatest down : ℤ) → is_number n ≡ true → n ≢ pos 0 → is_number least ≡ true → is_number greatest ≡ true → pos 0 ≤ℤ down →
    (int_lt n (pos 0) ≡ true → down <ℤ (greatest -ℤ least) → r.under <ℤ (neg_ℤ n *ℤ (down +ℤ pos 1))) → (int_lt n (pos 0) ≡ false → down <ℤ (greatest -ℤ least) → r.over <ℤ (n *ℤ (down +ℤ pos 1))) →
    IsPast r n greatest least ((greatest -ℤ down) -ℤ pos 1)
past_down r n least greatest down small some a b z f g = by (int_lt n (pos 0)) refl
  where
    less : (v : ℤ) → least ≤ℤ v → v ≤ℤ ((greatest -ℤ down) -ℤ pos 1) → down <ℤ (greatest -ℤ least)
    less v h k = omega (arith, ints)

    below : (v : ℤ) → v ≤ℤ ((greatest -ℤ down) -ℤ pos 1) → ((v +ℤ down) +ℤ pos 1) ≤ℤ greatest
    below v k = omega (arith, ints)

    number : (v : ℤ) → least ≤ℤ v → v ≤ℤ ((greatest -ℤ down) -ℤ pos 1) → is_number v ≡ true
    number v h k = small_between least greatest v a b h (omega (arith, ints))

    by : (t : Bool) → int_lt n (pos 0) ≡ t → IsPast r n greatest least ((greatest -ℤ down) -ℤ pos 1)
    by true e = inl (λ v h k. (let far = falling n v down greatest r.under e z (f e (less v h k)) (below v k) in (little_room n v greatest r.under small (number v h k) b far, far)))
    by false e = inr (λ v h k. (let far = rising n v down greatest r.over some e z (g e (less v h k)) (below v k) in (little_room n greatest v r.over small b (number v h k) far, far)))
