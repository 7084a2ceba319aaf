-- Which pieces make a list.
use Rattle.std.specs.Prelude.{Bool, true, ◌&&◌, ◌≡◌, List, [], ◌∷◌}
use Rattle.lemma_text.specs.declared.item.Item.{Item}
use Rattle.lemma_text.specs.declared.parts.Due.{Due}
use Rattle.lemma_text.specs.States.{Place, at, allows, place_after}

-- each piece may come where it comes
abbrev pub accepts : Place → List Item → Bool
accepts p [] = true
accepts p (i ∷ is) = allows p i && accepts (place_after i) is

abbrev pub end_place : Place → List Item → Place
end_place p [] = p
end_place p (i ∷ is) = end_place (place_after i) is

-- and the last of them ends a line
abbrev pub IsWhole : Place → List Item → Type 0
IsWhole p is = (accepts p is ≡ true) × (d : Due) × (end_place p is ≡ at d)
