-- What may be missing.
use Rattle.std.specs.Prelude.{ℕ, suc, Option, Some, None}

-- the first, or else the second
abbrev pub or_else : {A : Type 0} → Option A → Option A → Option A
or_else (Some x) other = Some x
or_else None other = other

-- one more, if there is a number
abbrev pub one_more : Option ℕ → Option ℕ
one_more None = None
one_more (Some n) = Some (suc n)
