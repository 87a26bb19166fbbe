-- Qualified names by their grammar (Namespaces in XML 1.0, section 3 [4] and section 4 [7] to [11]).
use Rattle.std.specs.Prelude.{◌≡◌, ◌↔◌, ℕ, true, false, ◌==◌, List, [], ◌∷◌, ◌++◌}
use Rattle.std.specs.List.{AllByRecursion}
use Rattle.std.specs.Str.{IsUtf8}
use Rattle.nx_events.specs.Names.{prefix_of, local_of, is_qname}
use Rattle.nx_events.specs.SpelledTags.{IsName}

-- NCName: a Name without a colon (58)
pub record IsNcName (name : List ℕ) : Type 0 where
  pub is_name : IsName name
  pub no_colon : AllByRecursion (λ (b : ℕ). (b == 58) ≡ false) name

-- QName: an NCName, or two of them with a colon between
pub data IsQName (name prefix local : List ℕ) : Type 0 where
  unprefixed : IsNcName name → prefix ≡ [] → local ≡ name → IsQName name prefix local
  prefixed : IsNcName prefix → IsNcName local → name ≡ prefix ++ 58 ∷ local → IsQName name prefix local

-- a name is a QName in one way at most, and that way is found
abbrev pub QNamesAreSpelled : Type 0
QNamesAreSpelled = (name prefix local : List ℕ) → IsUtf8 name →
    IsQName name prefix local ↔ ((is_qname name ≡ true) × (prefix ≡ prefix_of name) × (local ≡ local_of name))
