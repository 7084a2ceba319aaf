use Rattle.std.proofs.Common.{rules, refl}
use Rattle.std.specs.Prelude.{◌↔◌, ◌≤ℤ◌, ◌+ℤ◌, ◌-ℤ◌, ℤ, pos}
use Rattle.std.proofs.lemmas.Int.{to_z-of_z}
use mir.Val.{SFits}
use mir.Syntax.{w64}
use Rattle.dense_close.specs.Cutting.{IsInside}
use Rattle.dense_close.proofs.Cuts.{longer_up, longer_down, fits_up, fits_down}
use Rattle.dense_close.proofs.cutting.longer.Goals as goal

pub returns-in-Least-clause-inside : goal.returns-in-Least-clause-inside
returns-in-Least-clause-inside c =
    let s = c.args.s in
    let low : SFits w64 s.low = search rules in
    let high : SFits w64 s.high = search rules in
    let greatest : SFits w64 c.args.greatest = search rules in
    let gap : SFits w64 (s.high -ℤ s.low) = search rules in
    let count : SFits w64 ((s.high -ℤ s.low) +ℤ pos 1) = search rules in
    let far : SFits w64 (s.high +ℤ ((s.high -ℤ s.low) +ℤ pos 1)) = search rules in
    let end : SFits w64 c.lesser.result = search rules in
    let told : (n : ℤ) → (n ≤ℤ c.lesser.result) ↔ ((n ≤ℤ (s.high +ℤ ((s.high -ℤ s.low) +ℤ pos 1))) × (n ≤ℤ c.args.greatest)) = simp to_z-of_z at c.lesser.ensures in
    let inside : IsInside c.args.least c.args.greatest s.low c.lesser.result = (longer_up c.args.least c.args.greatest s.low s.high _ c.lesser.result c.requires.inside told refl).0 in
    simp to_z-of_z inside

pub returns-in-Least-clause-high : goal.returns-in-Least-clause-high
returns-in-Least-clause-high c =
    let s = c.args.s in
    let low : SFits w64 s.low = search rules in
    let high : SFits w64 s.high = search rules in
    let greatest : SFits w64 c.args.greatest = search rules in
    let gap : SFits w64 (s.high -ℤ s.low) = search rules in
    let count : SFits w64 ((s.high -ℤ s.low) +ℤ pos 1) = search rules in
    let far : SFits w64 (s.high +ℤ ((s.high -ℤ s.low) +ℤ pos 1)) = search rules in
    let end : SFits w64 c.lesser.result = search rules in
    let told : (n : ℤ) → (n ≤ℤ c.lesser.result) ↔ ((n ≤ℤ (s.high +ℤ ((s.high -ℤ s.low) +ℤ pos 1))) × (n ≤ℤ c.args.greatest)) = simp to_z-of_z at c.lesser.ensures in
    let up : s.high ≤ℤ c.lesser.result = (longer_up c.args.least c.args.greatest s.low s.high _ c.lesser.result c.requires.inside told refl).1 in
    simp to_z-of_z up

pub returns-in-Greatest-clause-inside : goal.returns-in-Greatest-clause-inside
returns-in-Greatest-clause-inside c =
    let s = c.args.s in
    let low : SFits w64 s.low = search rules in
    let high : SFits w64 s.high = search rules in
    let least : SFits w64 c.args.least = search rules in
    let gap : SFits w64 (s.high -ℤ s.low) = search rules in
    let count : SFits w64 ((s.high -ℤ s.low) +ℤ pos 1) = search rules in
    let far : SFits w64 (s.low -ℤ ((s.high -ℤ s.low) +ℤ pos 1)) = fits_down c.args.least c.args.greatest s.low s.high c.requires.least c.requires.greatest c.requires.inside in
    let end : SFits w64 c.greater.result = search rules in
    let told : (n : ℤ) → (c.greater.result ≤ℤ n) ↔ (((s.low -ℤ ((s.high -ℤ s.low) +ℤ pos 1)) ≤ℤ n) × (c.args.least ≤ℤ n)) = simp to_z-of_z at c.greater.ensures in
    let inside : IsInside c.args.least c.args.greatest c.greater.result s.high = (longer_down c.args.least c.args.greatest s.low s.high _ c.greater.result c.requires.inside told refl).0 in
    simp to_z-of_z inside

pub returns-in-Greatest-clause-low : goal.returns-in-Greatest-clause-low
returns-in-Greatest-clause-low c =
    let s = c.args.s in
    let low : SFits w64 s.low = search rules in
    let high : SFits w64 s.high = search rules in
    let least : SFits w64 c.args.least = search rules in
    let gap : SFits w64 (s.high -ℤ s.low) = search rules in
    let count : SFits w64 ((s.high -ℤ s.low) +ℤ pos 1) = search rules in
    let far : SFits w64 (s.low -ℤ ((s.high -ℤ s.low) +ℤ pos 1)) = fits_down c.args.least c.args.greatest s.low s.high c.requires.least c.requires.greatest c.requires.inside in
    let end : SFits w64 c.greater.result = search rules in
    let told : (n : ℤ) → (c.greater.result ≤ℤ n) ↔ (((s.low -ℤ ((s.high -ℤ s.low) +ℤ pos 1)) ≤ℤ n) × (c.args.least ≤ℤ n)) = simp to_z-of_z at c.greater.ensures in
    let down : c.greater.result ≤ℤ s.low = (longer_down c.args.least c.args.greatest s.low s.high _ c.greater.result c.requires.inside told refl).1 in
    simp to_z-of_z down

pub overflow_add-s : goal.overflow_add-s
overflow_add-s c =
    let s = c.args.s in
    let low : SFits w64 s.low = search rules in
    let high : SFits w64 s.high = search rules in
    let gap : SFits w64 (s.high -ℤ s.low) = search rules in
    let count : SFits w64 ((s.high -ℤ s.low) +ℤ pos 1) = search rules in
    let far : SFits w64 (s.high +ℤ ((s.high -ℤ s.low) +ℤ pos 1)) = fits_up c.args.least c.args.greatest s.low s.high c.requires.least c.requires.greatest c.requires.inside in
    simp to_z-of_z far

pub overflow_sub-s : goal.overflow_sub-s
overflow_sub-s c =
    let s = c.args.s in
    let low : SFits w64 s.low = search rules in
    let high : SFits w64 s.high = search rules in
    let gap : SFits w64 (s.high -ℤ s.low) = search rules in
    let count : SFits w64 ((s.high -ℤ s.low) +ℤ pos 1) = search rules in
    let far : SFits w64 (s.low -ℤ ((s.high -ℤ s.low) +ℤ pos 1)) = fits_down c.args.least c.args.greatest s.low s.high c.requires.least c.requires.greatest c.requires.inside in
    simp to_z-of_z far
