-- Values with which a term is farther above its least than there is room.
use Rattle.std.proofs.Common.{◌≡◌, ◌≢◌, inl, inr, ℕ, suc, ◌≤◌, true, false, refl, ap, ◌∙◌, sym, subst, cond, arith, ℤ}
use Rattle.std.specs.Prelude.{pos, negsuc, ◌+ℤ◌, ◌-ℤ◌, ◌*ℤ◌, ◌≤ℤ◌, ◌<ℤ◌, nat_abs, int_lt}
use Rattle.std.proofs.Math.IntN.{*ℤ_comm, *ℤ-negsuc, neg_ℤ}
use Rattle.std.proofs.Math.Nat.{mul-le-mul_left}
use Rattle.std.proofs.lemmas.Int.{ints}
use Rattle.model_arguments.proofs.Kept.{lower, small_between}
use Rattle.qc_model.specs.Domains.{is_within}
use Rattle.qc_model.specs.Valid.{is_number}
use Rattle.qc_model.proofs.Sound.{differ}
use Rattle.dense_quiet.specs.Slack.{most_room, least_end, IsFar}
use Rattle.dense_quiet.proofs.Distances.{moved_by, rising, falling, little_room}

-- fewer steps take it less far
nearer : (p e k : ℕ) → e ≤ k → (pos p *ℤ pos e) ≤ℤ (pos p *ℤ pos k)
nearer p e k h = omega (arith, ints, mul-le-mul_left p h)

still_up : (n w k v s : ℤ) → int_lt n (pos 0) ≡ false → (n *ℤ k) ≤ℤ s → w ≤ℤ v → v ≤ℤ (w +ℤ k) → (n *ℤ v) ≤ℤ ((n *ℤ w) +ℤ s)
still_up (pos p) w (pos k) v s h l low high =
    let e = nat_abs (v -ℤ w) in
    let steps : e ≤ k = omega (arith, ints) in
    by (pos p *ℤ v) (pos p *ℤ w) (pos p *ℤ pos e) (pos p *ℤ pos k) (moved_by (pos p) w v low) (nearer p e k steps) l
  where
    by : (a b t u : ℤ) → a ≡ b +ℤ t → t ≤ℤ u → u ≤ℤ s → a ≤ℤ (b +ℤ s)
    by a b t u h k l = omega (arith, ints)
still_up (pos p) w (negsuc k) v s h l low high = absurd (omega (arith, ints))
still_up (negsuc p) w k v s h l low high = absurd (differ (sym h))

still_down : (n w k v s : ℤ) → int_lt n (pos 0) ≡ true → (neg_ℤ n *ℤ k) ≤ℤ s → v ≤ℤ w → w ≤ℤ (v +ℤ k) → (n *ℤ v) ≤ℤ ((n *ℤ w) +ℤ s)
still_down (pos p) w k v s h l high low = absurd (let below = lower (pos p) (pos 0) h in omega (arith, ints))
still_down (negsuc p) w (negsuc k) v s h l high low = absurd (omega (arith, ints))
still_down (negsuc p) w (pos k) v s h l high low =
    let e = nat_abs (w -ℤ v) in
    let steps : e ≤ k = omega (arith, ints) in
    by (negsuc p *ℤ w) (negsuc p *ℤ v) (negsuc p *ℤ pos e) (pos (suc p) *ℤ pos e) (pos (suc p) *ℤ pos k) (moved_by (negsuc p) v w high) turned (nearer (suc p) e k steps) l
  where
    turned : negsuc p *ℤ pos (nat_abs (w -ℤ v)) ≡ neg_ℤ (pos (suc p) *ℤ pos (nat_abs (w -ℤ v)))
    turned = *ℤ_comm (negsuc p) (pos (nat_abs (w -ℤ v))) ∙ (*ℤ-negsuc (pos (nat_abs (w -ℤ v))) p ∙ ap neg_ℤ (*ℤ_comm (pos (nat_abs (w -ℤ v))) (pos (suc p))))

    by : (a b t u z : ℤ) → a ≡ b +ℤ t → t ≡ neg_ℤ u → u ≤ℤ z → z ≤ℤ s → b ≤ℤ (a +ℤ s)
    by a b t u z h q k l = omega (arith, ints)

-- those outside of what is past the room
below_it : (low high v : ℤ) → is_within low high v ≡ false → v ≤ℤ high → (v +ℤ pos 1) ≤ℤ low
below_it low high v h k = grind (arith, ints)

above_it : (low high v : ℤ) → is_within low high v ≡ false → low ≤ℤ v → (high +ℤ pos 1) ≤ℤ v
above_it low high v h k = grind (arith, ints)

-- a rising term is least at the least value, and a falling one at the greatest
pub far_above : (s n least greatest up : ℤ) → is_number n ≡ true → n ≢ pos 0 → int_lt n (pos 0) ≡ false → is_number least ≡ true → is_number greatest ≡ true → pos 0 ≤ℤ up →
    (up <ℤ (greatest -ℤ least) → s <ℤ (n *ℤ (up +ℤ pos 1))) → (n *ℤ up) ≤ℤ s → IsFar s n least greatest ((least +ℤ up) +ℤ pos 1) greatest
far_above s n least greatest up small some rise a b z g f = record {
  end = inr refl;
  far = λ v h k. subst (λ w. (s <ℤ most_room) × (((n *ℤ w) +ℤ s) <ℤ (n *ℤ v))) (sym least_at_least) (let far = rising n least up v s some rise z (g (less v h k)) h in (little_room n v least s small (number v h k) a far, far));
  near = λ v h k out. subst (λ w. (n *ℤ v) ≤ℤ ((n *ℤ w) +ℤ s)) (sym least_at_least) (still_up n least up v s rise f h (under v (below_it ((least +ℤ up) +ℤ pos 1) greatest v out k)));
}
  where
    least_at_least : least_end n least greatest ≡ least
    least_at_least = ap (λ b. cond b greatest least) rise

    less : (v : ℤ) → ((least +ℤ up) +ℤ pos 1) ≤ℤ v → v ≤ℤ greatest → up <ℤ (greatest -ℤ least)
    less v h k = omega (arith, ints)

    number : (v : ℤ) → ((least +ℤ up) +ℤ pos 1) ≤ℤ v → v ≤ℤ greatest → is_number v ≡ true
    number v h k = small_between least greatest v a b (omega (arith, ints)) k

    under : (v : ℤ) → (v +ℤ pos 1) ≤ℤ ((least +ℤ up) +ℤ pos 1) → v ≤ℤ (least +ℤ up)
    under v h = omega (arith, ints)

pub far_below : (s n least greatest down : ℤ) → is_number n ≡ true → int_lt n (pos 0) ≡ true → is_number least ≡ true → is_number greatest ≡ true → pos 0 ≤ℤ down →
    (down <ℤ (greatest -ℤ least) → s <ℤ (neg_ℤ n *ℤ (down +ℤ pos 1))) → (neg_ℤ n *ℤ down) ≤ℤ s → IsFar s n least greatest least ((greatest -ℤ down) -ℤ pos 1)
far_below s n least greatest down small fall a b z g f = record {
  end = inl refl;
  far = λ v h k. subst (λ w. (s <ℤ most_room) × (((n *ℤ w) +ℤ s) <ℤ (n *ℤ v))) (sym least_at_greatest) (let far = falling n v down greatest s fall z (g (less v h k)) (below v k) in (little_room n v greatest s small (number v h k) b far, far));
  near = λ v h k out. subst (λ w. (n *ℤ v) ≤ℤ ((n *ℤ w) +ℤ s)) (sym least_at_greatest) (still_down n greatest down v s fall f k (over v (above_it least ((greatest -ℤ down) -ℤ pos 1) v out h)));
}
  where
    least_at_greatest : least_end n least greatest ≡ greatest
    least_at_greatest = ap (λ b. cond b greatest least) fall

    less : (v : ℤ) → least ≤ℤ v → v ≤ℤ ((greatest -ℤ down) -ℤ pos 1) → down <ℤ (greatest -ℤ least)
    less v h k = omega (arith, ints)

    below : (v : ℤ) → v ≤ℤ ((greatest -ℤ down) -ℤ pos 1) → ((v +ℤ down) +ℤ pos 1) ≤ℤ greatest
    below v k = omega (arith, ints)

    number : (v : ℤ) → least ≤ℤ v → v ≤ℤ ((greatest -ℤ down) -ℤ pos 1) → is_number v ≡ true
    number v h k = small_between least greatest v a b h (omega (arith, ints))

    over : (v : ℤ) → (((greatest -ℤ down) -ℤ pos 1) +ℤ pos 1) ≤ℤ v → greatest ≤ℤ (v +ℤ down)
    over v h = omega (arith, ints)
