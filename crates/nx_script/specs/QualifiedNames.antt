-- Qualified names (Namespaces in XML 1.0, sections 3 and 4).
use Rattle.std.specs.Prelude.{◌≡◌, ℕ, true, ◌⊎◌, List, ◌∷◌, ◌++◌}
use Rattle.nx_base.specs.Names.{is_local}

-- a QName (section 4 [7] to [11]): an NCName, or two of them with a colon (58) between
abbrev pub IsQName : List ℕ → Type 0
IsQName name =
    (is_local name ≡ true)
    ⊎ ((prefix local : List ℕ) × (name ≡ prefix ++ 58 ∷ local) × (is_local prefix ≡ true) × (is_local local ≡ true))
