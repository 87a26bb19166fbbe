-- Names of elements and attributes, which a detail has as `{NAMESPACE}LOCAL`, in a sentence.
use Rattle.std.specs.Prelude.{ℕ, ◌-◌, Bool, ◌==◌, not, cond, List, [], ◌++◌, length, take, drop, codes}
use Rattle.std.specs.List.{suffix_len}
use Rattle.std.specs.Str.{bytes_eq}
use Rattle.nx_report.specs.Printed.{printed_text}

abbrev pub is_no_brace : ℕ → Bool
is_no_brace byte = not (byte == 125)

-- a name's namespace in its braces, of which the last brace is the end, since no local part has one; nothing where it has none
abbrev pub namespace_of : List ℕ → List ℕ
namespace_of name = take (length name - suffix_len is_no_brace name) name

abbrev pub local_of : List ℕ → List ℕ
local_of name = drop (length name - suffix_len is_no_brace name) name

-- the namespace of the prefix `xml`, which each document has
abbrev pub xml_namespace : List ℕ
xml_namespace = codes "{http://www.w3.org/XML/1998/namespace}"

-- a name where one namespace, in its braces or none, goes without saying; where that is a namespace, a name in none has empty braces
abbrev pub short_name : List ℕ → List ℕ → List ℕ
short_name own name =
    cond (bytes_eq (namespace_of name) xml_namespace) (codes "xml:" ++ printed_text (local_of name))
    (cond (bytes_eq (namespace_of name) own) (printed_text (local_of name))
    (cond (bytes_eq (namespace_of name) []) (codes "{}" ++ printed_text name) (printed_text name)))

-- the same in quotes
abbrev pub quoted_name : List ℕ → List ℕ → List ℕ
quoted_name own name = codes "\"" ++ short_name own name ++ codes "\""
