-- What a contract sees of a list with a gap in it.
use Rattle.std.specs.Prelude.{ℕ, List, refl}
use Rattle.std.specs.Coded.{Coded, code_by, coded×, coded_ℕ, coded_list}

-- what stands in front of the gap and behind it, and how many items the gap has room for
pub record Parted (T : Type 0) : Type 0 where
  pub front : List T
  pub back : List T
  pub room : ℕ

-- it is stored as the tuple of its fields
abbrev pub parted_code : {T : Type 0} → Coded T → Coded (Parted T)
parted_code {T} code =
    code_by (List T × (List T × ℕ)) (coded× (coded_list code) (coded× (coded_list code) coded_ℕ))
    (λ p. (p.front, (p.back, p.room))) (λ t. record { front = t.0; back = t.1.0; room = t.1.1 }) (λ _. refl)
