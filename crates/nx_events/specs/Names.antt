-- Qualified names (Namespaces in XML 1.0, sections 3 and 4).
use Rattle.std.specs.Prelude.{ℕ, Bool, false, not, ◌&&◌, ◌||◌, ◌==◌, nat_lt, length, if◌then◌else◌, List, [], ◌∷◌}
use Rattle.std.specs.List.{list_all, position_or_len, before_first, after_first}
use Rattle.std.specs.Str.{byte, chars}
use Rattle.nx_base.specs.Characters.{is_name_start, is_name_char}

abbrev pub is_colon : ℕ → Bool
is_colon c = c == byte ":"

unfoldable pub begins_unprefixed : ℕ → Bool
begins_unprefixed c = is_name_start c && not (is_colon c)

unfoldable pub goes_on_unprefixed : ℕ → Bool
goes_on_unprefixed c = is_name_char c && not (is_colon c)

-- NCName (section 3 [4]), of characters and of bytes
abbrev pub is_unprefixed : List ℕ → Bool
is_unprefixed [] = false
is_unprefixed (c ∷ cs) = begins_unprefixed c && list_all goes_on_unprefixed cs

unfoldable pub is_ncname : List ℕ → Bool
is_ncname name = is_unprefixed (chars name)

abbrev pub has_colon : List ℕ → Bool
has_colon name = nat_lt (position_or_len is_colon name) (length name)

-- what stands before the first colon, and nothing where there is none; what stands behind it, or all
unfoldable pub prefix_of : List ℕ → List ℕ
prefix_of name = if has_colon name then before_first is_colon name else []

unfoldable pub local_of : List ℕ → List ℕ
local_of name = if has_colon name then after_first is_colon name else name

-- QName (section 4 [7])
unfoldable pub is_qname : List ℕ → Bool
is_qname name = (not (has_colon name) || is_ncname (prefix_of name)) && is_ncname (local_of name)
