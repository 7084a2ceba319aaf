-- Words on a page.
use Rattle.std.specs.Prelude.{List, take}
use denote.RawPtr.{Ptr}
use Rattle.paged_stack.specs.declared.page.Page.{Page}

module _ {X : Type 0} where
  -- the items that a page holds
  abbrev pub items_of : Page X → List X
  items_of p = take p.count p.row.items

  -- where the page's node lies
  abbrev pub home_of : Page X → Ptr
  home_of p = p.deed.node
