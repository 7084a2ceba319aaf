-- How the nodes of a chain point to one another.
use Rattle.std.specs.Prelude.{◌≡◌, ℕ, List, [], ◌∷◌, map, slice_index_or}
use denote.RawPtr.{Ptr, null_ptr}

-- where a node lies, its `next` and its `prev`
abbrev pub Link : Type 0
Link = Ptr × Ptr × Ptr

-- where the nodes lie
abbrev pub places_of : List Link → List Ptr
places_of = map (λ l. l.0)

-- where the i-th node lies
unfoldable pub place_of : List Link → ℕ → Ptr
place_of ls i = (slice_index_or ls i (null_ptr, null_ptr, null_ptr)).0

-- h leads to the first node, and each `next` but the last to the node after
abbrev pub LeadsForward : Ptr → List Link → Type 0
LeadsForward h [] = Unit {0}
LeadsForward h (l ∷ ls) = (h ≡ l.0) × LeadsForward l.1 ls

-- the nodes come after one at a: each `prev` leads to the node before, and t to the last
abbrev pub LeadsBackTo : Ptr → List Link → Ptr → Type 0
LeadsBackTo a [] t = t ≡ a
LeadsBackTo a (l ∷ ls) t = (l.2 ≡ a) × LeadsBackTo l.0 ls t

-- the same, with nothing said of the first `prev`
abbrev pub LeadsBack : List Link → Ptr → Type 0
LeadsBack [] t = Unit {0}
LeadsBack (l ∷ ls) t = LeadsBackTo l.0 ls t

-- the nodes are linked both ways, from head and from tail
abbrev pub IsChained : Ptr → Ptr → List Link → Type 0
IsChained head tail ls = LeadsForward head ls × LeadsBack ls tail
