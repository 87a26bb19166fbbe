-- Whether a type has a member beside excepts, by its form.
use Rattle.std.specs.Prelude.{◌≡◌, ℕ, ◌≤◌, Bool, true, if◌then◌else◌, List, length, IsTrue, ◌↔◌, Ok}
use Rattle.std.specs.Str.{is_utf8}
use Rattle.rng_more_types.specs.declared.more_type.MoreType.{MoreType}
use Rattle.rng_more_types.specs.declared.more_type.MoreType.TheVariants.{Date, Time, DateTime, GYear, GYearMonth, HexBinary, Base64Binary}
use Rattle.rng_types.specs.declared.kind.Word.{Word}
use Rattle.rng_types.specs.declared.kind.Word.TheVariants.{Name, NcName, NmToken, Language, Boolean, Decimal, Integer}
use Rattle.rng_types.specs.declared.kind.Form.{Form}
use Rattle.rng_types.specs.declared.kind.Form.TheVariants.{Any, One, Several, More}
use Rattle.rng_types.specs.Naming.{type_of}
use Rattle.rng_types.specs.declared.datatype.Datatype.{Datatype}
use Rattle.rng_types.specs.declared.datatype.Param.{Param}
use Rattle.rng_types.specs.declared.datatype.Except.{Except}
use Rattle.rng_types.specs.WellMade.{is_well_made}
use Rattle.rng_types.specs.NumberMembers.{has_integer, has_decimal}
use Rattle.rng_types.specs.TextMembers.{allows, has_length, has_text, has_truth, has_octets}
use Rattle.rng_types.specs.Members.{IsMember, HasMember}

-- of one word: names by their length, language tags always, since they are without end
abbrev pub has_word : Word → Datatype → List Except → Bool → Bool
has_word Name type excepts one_token = has_length type.facets
has_word NcName type excepts one_token = has_length type.facets
has_word NmToken type excepts one_token = has_length type.facets
has_word Language type excepts one_token = true
has_word Boolean type excepts one_token = has_truth type excepts one_token
has_word Decimal type excepts one_token = has_decimal type.facets excepts
has_word Integer type excepts one_token = has_integer type.facets excepts

-- of several words, by how many there are. One token is one word
abbrev pub has_words : Datatype → Bool → Bool
has_words type one_token = if one_token then allows type.facets 1 else has_length type.facets

-- dates and times always, since there are more than excepts can be; octets by how many there are
abbrev pub has_more : MoreType → Datatype → List Except → Bool → Bool
has_more Date type excepts one_token = true
has_more Time type excepts one_token = true
has_more DateTime type excepts one_token = true
has_more GYear type excepts one_token = true
has_more GYearMonth type excepts one_token = true
has_more HexBinary type excepts one_token = has_octets type excepts one_token
has_more Base64Binary type excepts one_token = has_octets type excepts one_token

abbrev pub has_member_of : Form → Datatype → List Except → Bool → Bool
has_member_of (Any whitespace) type excepts one_token = has_text whitespace type excepts one_token
has_member_of (One word) type excepts one_token = has_word word type excepts one_token
has_member_of (Several word) type excepts one_token = has_words type one_token
has_member_of (More more) type excepts one_token = has_more more type excepts one_token

-- whether there is a member, by the form
abbrev pub has_member : Datatype → List Except → Bool → Bool
has_member type excepts one_token = has_member_of type.form type excepts one_token

-- the most excepts of which that can be said
abbrev pub most_excepts : ℕ
most_excepts = 129

-- of well made types, beside no more excepts than that, it is true exactly where there is a member
abbrev pub MembersExist : Type 0
MembersExist = (type : Datatype) (excepts : List Except) (one_token : Bool) →
    IsTrue (is_well_made type) → length excepts ≤ most_excepts →
    IsTrue (has_member type excepts one_token) ↔ HasMember type excepts one_token

-- and a member that is UTF-8, whatever its characters, gives one of characters that XML allows
abbrev pub TextsGiveMembers : Type 0
TextsGiveMembers = (type : Datatype) (excepts : List Except) (one_token : Bool) (text : List ℕ) →
    IsTrue (is_well_made type) → length excepts ≤ most_excepts →
    IsTrue (is_utf8 text) → IsMember type excepts one_token text → HasMember type excepts one_token

-- the types that names and params stand for are well made
abbrev pub NamedAreWellMade : Type 0
NamedAreWellMade = (library name : List ℕ) (params : List Param) (type : Datatype) →
    type_of library name params ≡ Ok type → IsTrue (is_well_made type)
