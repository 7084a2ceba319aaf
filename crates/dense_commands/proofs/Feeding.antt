-- A file that was handed to a checker piece by piece.
use Rattle.std.proofs.Common.{◌≡◌, ◌+◌, ◌≤◌, ◌<◌, ◌∙◌, ℕ, List, [], ◌++◌, length, take, Option, None, Some, IfSome, Ok, refl, sym, subst, arith, length-append, length-take-le}
use Rattle.std.proofs.Math.Seq.{take_all}
use Rattle.qc_io.specs.Shelf.{Gives, IsFront, EndsBy}
use Rattle.qc_io.specs.declared.shelf.Failed.{Failed}
use Rattle.qc_io.proofs.Front.{front_more}
use Rattle.dense_commands.specs.Fed.{FedTo, IsFed}

front_of_none : (told : Option (List ℕ)) → IsFront told []
front_of_none None = tt
front_of_none (Some bytes) = record { bound = omega arith; same = refl }

pub fed_none : (told : Option (List ℕ)) (c : List ℕ → Type 0) → c [] → FedTo told 0 c
fed_none told c checking = record { bytes = []; count = refl; front = front_of_none told; checking = checking }

-- n bytes more
pub fed_more : (told : Option (List ℕ)) (at n : ℕ) (piece : List ℕ) (old new : List ℕ → Type 0) → n ≤ length piece → Gives {E = Failed} told at (Ok n) piece →
    ((before : List ℕ) → old before → new (before ++ take n piece)) → FedTo told at old → FedTo told (at + n) new
fed_more told at n piece old new within gives feeds fed = record {
  bytes = fed.bytes ++ take n piece;
  count = let cut = length-take-le n piece within in rw (length-append, cut, fed.count) refl;
  front = front_more Failed told fed.bytes piece n fed.front (subst (λ k. Gives {E = Failed} told k (Ok n) piece) (sym fed.count) gives);
  checking = feeds fed.bytes fed.checking;
}

whole_front : (told : Option (List ℕ)) (xs : List ℕ) → IsFront told xs → EndsBy told (length xs) → IfSome told (λ file. xs ≡ file)
whole_front None xs front ends = tt
whole_front (Some bytes) xs front ends = front.same ∙ take_all (length xs) bytes ends

-- no byte is left
pub fed_whole : (told : Option (List ℕ)) (at : ℕ) (c : List ℕ → Type 0) → at ≤ 1073741824 → EndsBy told at → FedTo told at c → IsFed told c
fed_whole told at c within ends fed = record {
  bytes = fed.bytes;
  file = record { same = whole_front told fed.bytes fed.front (subst (EndsBy told) (sym fed.count) ends); within = subst (λ k. k ≤ 1073741824) (sym fed.count) within };
  checking = fed.checking;
}

-- more bytes than the limit were given
longer : (told : Option (List ℕ)) (xs : List ℕ) → IsFront told xs → 1073741824 < length xs → IfSome told (λ file. 1073741824 < length file)
longer None xs front more = tt
longer (Some bytes) xs front more = let bound = front.bound in omega arith

pub fed_longer : (told : Option (List ℕ)) (at : ℕ) (c : List ℕ → Type 0) → 1073741824 < at → FedTo told at c → IfSome told (λ file. 1073741824 < length file)
fed_longer told at c more fed = longer told fed.bytes fed.front (subst (λ k. 1073741824 < k) (sym fed.count) more)
