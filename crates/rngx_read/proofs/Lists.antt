-- What holds of the parts of a list holds of it.
use Rattle.std.proofs.Common.{List, [], ◌∷◌, ◌++◌}
use Rattle.std.specs.List.{AllByRecursion}

pub all_append : {A : Type 0} (P : A → Type 0) (xs ys : List A) → AllByRecursion P xs → AllByRecursion P ys → AllByRecursion P (xs ++ ys)
all_append P [] ys hx hy = hy
all_append P (x ∷ xs) ys hx hy = (hx.0, all_append P xs ys hx.1 hy)
