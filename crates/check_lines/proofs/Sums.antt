-- Laws of sums over lines.
use Rattle.std.proofs.Common.{◌≡◌, ◌+◌, Bool, true, false, ◌&&◌, refl, ap, ◌∙◌, arith}
use Rattle.check_lines.specs.Tally.{Tally, ◌&◌}

pub and_assoc : (a b c : Bool) → ((a && b) && c) ≡ (a && (b && c))
and_assoc true b c = refl
and_assoc false b c = refl

pub same_tally : (a b : Tally) → a.in_place ≡ b.in_place → a.turns ≡ b.turns → a.opens ≡ b.opens → a ≡ b
same_tally a b p q r =
    let one : a ≡ record { in_place = b.in_place; turns = a.turns; opens = a.opens } = ap (λ x. let t : Tally = record { in_place = x; turns = a.turns; opens = a.opens } in t) p in
    let two : record { in_place = b.in_place; turns = a.turns; opens = a.opens } ≡ record { in_place = b.in_place; turns = b.turns; opens = a.opens } = ap (λ x. let t : Tally = record { in_place = b.in_place; turns = x; opens = a.opens } in t) q in
    let three : record { in_place = b.in_place; turns = b.turns; opens = a.opens } ≡ b = ap (λ x. let t : Tally = record { in_place = b.in_place; turns = b.turns; opens = x } in t) r in
    one ∙ (two ∙ three)

-- a sum that is gone on with
pub joined : (n a b c : Tally) → (a.in_place && b.in_place) ≡ c.in_place → a.turns + b.turns ≡ c.turns → a.opens + b.opens ≡ c.opens → ((n & a) & b) ≡ (n & c)
joined n a b c p q r =
    same_tally ((n & a) & b) (n & c)
    (and_assoc n.in_place a.in_place b.in_place ∙ ap (λ x. n.in_place && x) p)
    (omega (arith, q))
    (omega (arith, r))
