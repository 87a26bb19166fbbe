-- What columns count, as client and server agree upon it.
use Rattle.std.specs.Prelude.{ℕ, List, codes, Option, Some, None, cond, option_and_then, unwrap_or}
use Rattle.std.specs.Str.{bytes_eq}
use Rattle.nx_position.specs.declared.position.Encoding.{Encoding}
use Rattle.nx_position.specs.declared.position.Encoding.TheVariants.{Utf8, Utf16, Utf32}
use Rattle.serde_json.specs.Data.{Data, Items, no_items, item}
use Rattle.serde_json.specs.Find.{get, as_array, as_str}

-- the encoding of a name of `PositionEncodingKind`
abbrev pub encoding_named : List ℕ → Option Encoding
encoding_named name =
    cond (bytes_eq name (codes "utf-8")) (Some Utf8)
    (cond (bytes_eq name (codes "utf-16")) (Some Utf16) (cond (bytes_eq name (codes "utf-32")) (Some Utf32) None))

-- its name
abbrev pub encoding_name : Encoding → List ℕ
encoding_name Utf8 = codes "utf-8"
encoding_name Utf16 = codes "utf-16"
encoding_name Utf32 = codes "utf-32"

abbrev pub encoding_of : Data → Option Encoding
encoding_of value = option_and_then encoding_named (as_str value)

-- the first that is known; UTF-16, which each client knows, where none is
abbrev pub first_encoding : Items → Encoding
first_encoding no_items = Utf16
first_encoding (item value rest) = unwrap_or (encoding_of value) (first_encoding rest)

-- the encodings that a client lists: `{"capabilities": {"general": {"positionEncodings": [NAME, ..]}}}`
abbrev pub encodings_in : Data → Option Items
encodings_in params =
    option_and_then as_array (option_and_then (get (codes "positionEncodings"))
    (option_and_then (get (codes "general")) (get (codes "capabilities") params)))

-- the encoding that is agreed upon
abbrev pub encoding_listed : Option Items → Encoding
encoding_listed None = Utf16
encoding_listed (Some values) = first_encoding values

abbrev pub encoding_in : Data → Encoding
encoding_in params = encoding_listed (encodings_in params)
