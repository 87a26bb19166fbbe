-- The forms of tags, XML 1.0 section 3.1. What a name or a reference means isn't asked here.
use Rattle.std.specs.Prelude.{ℕ}
use Rattle.nx_base.specs.Form.{Form, space, name_start, name_char, only, other_than, one, seq, alt, many}

-- Name
abbrev pub name_form : Form
name_form = seq (one name_start) (many (one name_char))

-- S*
abbrev pub spaces : Form
spaces = many (one space)

-- what stands between two such quotes, and the second: neither the quote nor `<` (60)
abbrev pub quoted_rest : ℕ → Form
quoted_rest quote = seq (many (one (other_than quote 60))) (one (only quote))

-- a value in double (34) or single (39) quotes
abbrev pub value_form : Form
value_form = alt (seq (one (only 34)) (quoted_rest 34)) (seq (one (only 39)) (quoted_rest 39))

-- S* value
abbrev pub attribute_value : Form
attribute_value = seq spaces value_form

-- S* = S* value; `=` is 61
abbrev pub attribute_rest : Form
attribute_rest = seq spaces (seq (one (only 61)) attribute_value)

-- S+ Name S* = S* value
abbrev pub attribute : Form
attribute = seq (one space) (seq spaces (seq name_form attribute_rest))

-- attributes, S*, and how the tag ends
abbrev pub tag_rest : Form → Form
tag_rest close = seq (many attribute) (seq spaces close)

-- `<` Name, attributes, S*, `>`
abbrev pub start_form : Form
start_form = seq (one (only 60)) (seq name_form (tag_rest (one (only 62))))

-- `<` Name, attributes, S*, `/>`
abbrev pub empty_form : Form
empty_form = seq (one (only 60)) (seq name_form (tag_rest (seq (one (only 47)) (one (only 62)))))

-- `</` Name S* `>`
abbrev pub end_form : Form
end_form =
    seq (one (only 60)) (seq (one (only 47)) (seq name_form (seq spaces (one (only 62)))))
