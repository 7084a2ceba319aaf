-- Leaves as what was seen.
use Rattle.std.proofs.Common.{◌≡◌, List, [], ◌∷◌, ◌++◌, map, refl, ap}
use Rattle.proof_tree.specs.Finding.{Leaf, seen_of}

pub seen-append : (ks ls : List Leaf) → map seen_of (ks ++ ls) ≡ map seen_of ks ++ map seen_of ls
seen-append [] ls = refl
seen-append (k ∷ ks) ls = ap (λ xs. seen_of k ∷ xs) (seen-append ks ls)
