-- What an option has or lacks, said otherwise.
use Rattle.std.specs.Prelude.{Option, Some, None, IfNone, IfSome}

pub none_so : {X : Type 0} (o : Option X) (P Q : Type 0) → (P → Q) → IfNone o P → IfNone o Q
none_so None P Q f h = f h
none_so (Some t) P Q f h = h

pub some_so : {X : Type 0} (o : Option X) (P Q : X → Type 0) → ((t : X) → P t → Q t) → IfSome o P → IfSome o Q
some_so None P Q f h = h
some_so (Some t) P Q f h = f t h
