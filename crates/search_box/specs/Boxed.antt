-- What a search box holds, and how it goes on.
use Rattle.std.specs.Prelude.{◌≡◌, ◌≤◌, ℕ, List, take, IsTrue, ℤ}
use Rattle.qc_model.specs.Content.{Game}
use Rattle.qc_model.specs.Domains.{is_sub_box}
use Rattle.qc_model.specs.Game.{before}
use Rattle.model_arguments.specs.Asked.{is_box_of}
use Rattle.fd_store.specs.Held.{Held, Follows, trail_len, past_box}

-- the game, the values left to each variable with the past boxes, and a place for one value of each variable
pub record Boxed : Type 0 where
  pub game : Game
  pub store : Held
  pub values : List ℤ

-- c comes after b: no value came back, the places have what they had, and undoing leads from c back to b
pub record LeadsOn (b c : Boxed) : Type 0 where
  pub game : c.game ≡ b.game
  pub values : c.values ≡ b.values
  pub follows : Follows b.store c.store
  pub fewer : IsTrue (is_sub_box c.store.box b.store.box)

-- the places of the variables before scope i have what they had
abbrev pub KeepsValues : Game → ℕ → Boxed → Boxed → Type 0
KeepsValues g i b c = take (before g i) c.values ≡ take (before g i) b.values

-- undoing down to n gives a box of the game's values
pub record IsMarked (n : ℕ) (b : Boxed) : Type 0 where
  pub at : n ≤ trail_len b.store
  pub declared : IsTrue (is_box_of b.game (past_box b.store n))
