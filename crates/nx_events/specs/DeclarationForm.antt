-- The grammar of the XML declaration (XML 1.0, 2.8 [23] to [26], 2.9 [32], 4.3.3 [80]).
use Rattle.std.specs.Prelude.{◌↔◌, ℕ, List, codes, IsTrue}
use Rattle.std.specs.Str.{IsUtf8, chars}
use Rattle.nx_base.specs.Form.{Form, Spells, space, only, one, seq, alt}
use Rattle.nx_base.specs.Tags.{spaces}
use Rattle.nx_events.specs.Words.{word, in_any_case, optional, some, digit}
use Rattle.nx_events.specs.XmlDeclaration.{is_xml_declaration}

-- Eq: S? `=` S? ([25])
abbrev pub equals : Form
equals = seq spaces (seq (word (codes "=")) spaces)

-- the same between two such quotes, and between two single (39) or two double (34) ones
abbrev pub within : ℕ → Form → Form
within quote form = seq (one (only quote)) (seq form (one (only quote)))

abbrev pub quoted : Form → Form
quoted form = alt (within 39 form) (within 34 form)

-- S, a word, Eq, and a value in quotes ([24], [32], [80])
abbrev pub setting : List ℕ → Form → Form
setting name value = seq (some (one space)) (seq (word name) (seq equals (quoted value)))

-- VersionNum: `1.` [0-9]+ ([26])
abbrev pub version_number : Form
version_number = seq (word (codes "1.")) (some digit)

-- of all EncNames ([81]) the two by which UTF-8 can be read; case is ignored (4.3.3)
abbrev pub encoding_name : Form
encoding_name = alt (in_any_case (codes "UTF-8")) (in_any_case (codes "US-ASCII"))

abbrev pub yes_or_no : Form
yes_or_no = alt (word (codes "yes")) (word (codes "no"))

-- XMLDecl: `<?xml` VersionInfo EncodingDecl? SDDecl? S? `?>` ([23])
abbrev pub version_setting : Form
version_setting = setting (codes "version") version_number

abbrev pub encoding_setting : Form
encoding_setting = setting (codes "encoding") encoding_name

abbrev pub standalone_setting : Form
standalone_setting = setting (codes "standalone") yes_or_no

abbrev pub declaration_form : Form
declaration_form =
    seq (word (codes "<?xml"))
    (seq version_setting (seq (optional encoding_setting) (seq (optional standalone_setting) (seq spaces (word (codes "?>"))))))

-- what is read from left to right is what the grammar spells
abbrev pub DeclarationsAreSpelled : Type 0
DeclarationsAreSpelled = (bytes : List ℕ) → IsUtf8 bytes →
    IsTrue (is_xml_declaration bytes) ↔ Spells declaration_form (chars bytes)
