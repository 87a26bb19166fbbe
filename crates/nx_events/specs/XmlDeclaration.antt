-- The XML declaration (XML 1.0, 2.8 and 4.3.3), read from left to right: each step gives what is left behind it.
use Rattle.std.specs.Prelude.{ℕ, ◌+◌, Bool, false, ◌&&◌, ◌||◌, ◌==◌, nat_lt, nat_eq, if◌then◌else◌, List, length, drop, slice_index}
use Rattle.std.specs.Prelude.{Option, Some, None, is_some, codes, option_and_then}
use Rattle.std.specs.List.{starts_with, prefix_len, list_all, before_first}
use Rattle.std.specs.Str.{bytes_eq, str_eq_ignore_ascii_case}
use Rattle.std.specs.Char.{is_ascii_digit}
use Rattle.nx_events.specs.declared.declaration.Setting.{Setting}
use Rattle.nx_events.specs.declared.declaration.Setting.TheVariants.{Version, Encoding, Standalone}
use Rattle.nx_base.specs.Characters.{is_space, is_quote}

infixl 10 ◌>>=◌
abbrev pub ◌>>=◌ : {A B : Type 0} → Option A → (A → Option B) → Option B
o >>= f = option_and_then f o

-- what is left behind S*, behind S+, and behind these bytes
abbrev pub after_spaces : List ℕ → List ℕ
after_spaces bytes = drop (prefix_len is_space bytes) bytes

unfoldable pub after_some_spaces : List ℕ → Option (List ℕ)
after_some_spaces bytes = if is_space (slice_index bytes 0) then Some (after_spaces bytes) else None

unfoldable pub after_word : List ℕ → List ℕ → Option (List ℕ)
after_word word bytes = if starts_with nat_eq bytes word then Some (drop (length word) bytes) else None

-- Eq (2.8 [25])
unfoldable pub after_equals : List ℕ → Option (List ℕ)
after_equals bytes = do
  rest ← after_word (codes "=") (after_spaces bytes)
  Some (after_spaces rest)

-- VersionNum ([26])
unfoldable pub is_version : List ℕ → Bool
is_version value = starts_with nat_eq value (codes "1.") && nat_lt 2 (length value) && list_all is_ascii_digit (drop 2 value)

-- the encodings that a text of UTF-8 may name (4.3.3)
unfoldable pub is_encoding : List ℕ → Bool
is_encoding value = str_eq_ignore_ascii_case value (codes "UTF-8") || str_eq_ignore_ascii_case value (codes "US-ASCII")

-- SDDecl's values (2.9 [32])
unfoldable pub is_yes_or_no : List ℕ → Bool
is_yes_or_no value = bytes_eq value (codes "yes") || bytes_eq value (codes "no")

-- the words of the settings, and what values they may have
abbrev pub word_of : Setting → List ℕ
word_of Version = codes "version"
word_of Encoding = codes "encoding"
word_of Standalone = codes "standalone"

abbrev pub may_be : Setting → List ℕ → Bool
may_be Version value = is_version value
may_be Encoding value = is_encoding value
may_be Standalone value = is_yes_or_no value

-- what stands behind such a value in quotes
unfoldable pub after_value : Setting → List ℕ → Option (List ℕ)
after_value setting bytes =
    let value = before_first (λ b. b == slice_index bytes 0) (drop 1 bytes) in
    if is_quote (slice_index bytes 0) && nat_lt (length value + 1) (length bytes) && may_be setting value
    then Some (drop (length value + 2) bytes) else None

-- S+ and the setting's word
unfoldable pub after_spaced_word : Setting → List ℕ → Option (List ℕ)
after_spaced_word setting bytes = do
  rest ← after_some_spaces bytes
  after_word (word_of setting) rest

-- S+, the word, Eq and a value
unfoldable pub after_setting : Setting → List ℕ → Option (List ℕ)
after_setting setting bytes = do
  named ← after_spaced_word setting bytes
  valued ← after_equals named
  after_value setting valued

-- the same, or nothing
unfoldable pub after_optional_setting : Setting → List ℕ → Option (List ℕ)
after_optional_setting setting bytes =
    if is_some (after_spaced_word setting bytes) then after_setting setting bytes else Some bytes

-- what stands behind the settings of an XML declaration ([23])
unfoldable pub after_settings : List ℕ → Option (List ℕ)
after_settings bytes = do
  opened ← after_word (codes "<?xml") bytes
  versioned ← after_setting Version opened
  encoded ← after_optional_setting Encoding versioned
  after_optional_setting Standalone encoded

-- the bytes are an XML declaration ([23])
abbrev pub is_end_of_declaration : Option (List ℕ) → Bool
is_end_of_declaration None = false
is_end_of_declaration (Some rest) = bytes_eq (after_spaces rest) (codes "?>")

unfoldable pub is_xml_declaration : List ℕ → Bool
is_xml_declaration bytes = is_end_of_declaration (after_settings bytes)
