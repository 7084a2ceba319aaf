-- What no line changes.
use Rattle.std.proofs.Common.{◌≡◌, ℕ, refl, ap}
use Rattle.qc_model.specs.Content.{Game}
use Rattle.qc_model.specs.Domains.{Box}
use Rattle.check_lines.specs.declared.bounds.Bounds.{Bounds}
use Rattle.check_lines.specs.Machine.{Base}

abbrev pub base_with : Box → Bounds → Game → Game → ℕ → Base
base_with x b j v m = record { first = x; bounds = b; joined = j; valued = v; marks = m }

pub same_base : (x y : Box) (b : Bounds) (j k v w : Game) (m n : ℕ) → x ≡ y → j ≡ k → v ≡ w → m ≡ n → base_with x b j v m ≡ base_with y b k w n
same_base x y b j k v w m n e f g h = rw (e, f, g, h) refl

-- as the joins change
pub base_joined : (x : Box) (b : Bounds) (j k v : Game) (m : ℕ) → j ≡ k → base_with x b j v m ≡ base_with x b k v m
base_joined x b j k v m e = ap (λ i. base_with x b i v m) e

-- as the box does
pub base_boxed : (x y : Box) (b : Bounds) (j v : Game) (m : ℕ) → x ≡ y → base_with x b j v m ≡ base_with y b j v m
base_boxed x y b j v m e = ap (λ i. base_with i b j v m) e

-- as variables are read
pub base_read : (x : Box) (b : Bounds) (j v w : Game) (m n : ℕ) → v ≡ w → m ≡ n → base_with x b j v m ≡ base_with x b j w n
base_read x b j v w m n e f = same_base x x b j j v w m n refl refl e f
