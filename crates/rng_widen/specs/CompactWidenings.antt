-- What is put to something wider in a schema file in the compact syntax, by its tokens (ISO/IEC 19757-2, Annex C).
use Rattle.std.specs.Prelude.{ℕ, zero, suc, Bool, true, false, if◌then◌else◌, List, [], ◌∷◌, ◌++◌, codes, Option, Some, None}
use Rattle.rnc_lex.specs.declared.token.Lexeme.{Lexeme}
use Rattle.rnc_lex.specs.declared.token.Lexeme.TheVariants.{Identifier, PrefixedName}
use Rattle.rnc_lex.specs.declared.token.RncToken.{RncToken}
use Rattle.rng_widen.specs.declared.context.Context.{Context}
use Rattle.rng_widen.specs.declared.context.Stand.{Stand}
use Rattle.rng_widen.specs.declared.context.Stand.TheVariants as stands
use Rattle.rng_widen.specs.declared.facet.Facet.{Facet}
use Rattle.rng_widen.specs.declared.schema_type.SchemaType.{SchemaType}
use Rattle.rng_widen.specs.declared.schema_type.SchemaType.TheVariants as type
use Rattle.rng_widen.specs.declared.widening.Note.TheVariants as note
use Rattle.rng_widen.specs.declared.widening.Widening.{Widening}
use Rattle.rng_widen.specs.CompactHead.{body}
use Rattle.rng_widen.specs.CompactPlaces.{type_of_name, behind, outermost}
use Rattle.rng_widen.specs.CompactTokens.{begins, is_left_bracket, is_equals, is_tilde, is_literal}
use Rattle.rng_widen.specs.Facets.{is_left_out_of}
use Rattle.rng_widen.specs.Naming.{facet_named}
use Rattle.rng_widen.specs.Types.{type_text, wider_type}

-- the place of the first token, or the end
abbrev pub place_of : List RncToken → ℕ → ℕ
place_of [] end = end
place_of (token ∷ tokens) end = token.at

-- ---- types

abbrev pub is_token : SchemaType → Bool
is_token type.Token = true
is_token _ = false

-- How the type by which another is checked is written in the place of that: with its prefix, or by the keyword `token`, whose type takes no
-- params
abbrev pub named_with : List ℕ → SchemaType → List ℕ
named_with prefix named = if is_token named then codes "token" else prefix ++ codes ":" ++ type_text named

abbrev pub word_of : Lexeme → SchemaType → List ℕ
word_of (PrefixedName prefix local) wider = named_with prefix wider
word_of _ _ = []

-- a type that isn't held, from its token up to the next
abbrev pub wider_by : ℕ → RncToken → List RncToken → SchemaType → Option SchemaType → Option Widening
wider_by end token rest old None = None
wider_by end token rest old (Some wider) =
    Some (record { from = token.at; to = place_of rest end; word = word_of token.lexeme wider; note = note.Type old wider })

abbrev pub type_by : ℕ → RncToken → List RncToken → Option SchemaType → Option Widening
type_by end token rest None = None
type_by end token rest (Some old) = wider_by end token rest old (wider_type old)

-- the same, unless a literal follows: values are compared as those of their type, which a wider one doesn't do
unfoldable pub type_widening : List RncToken → ℕ → RncToken → List RncToken → Option Widening
type_widening file end token rest =
    if begins is_literal rest then None else type_by end token rest (type_of_name file token.lexeme)

-- ---- facets

-- what is behind literals that are joined by `~`, where one is needed first or not; none where one is missing
unfoldable pub behind_literals : Bool → List RncToken → Option (List RncToken)
behind_literals true [] = None
behind_literals true (token ∷ tokens) = if is_literal token.lexeme then behind_literals false tokens else None
behind_literals false [] = Some []
behind_literals false (token ∷ tokens) = if is_tilde token.lexeme then behind_literals true tokens else Some (token ∷ tokens)

-- what is behind `=` and a literal
abbrev pub behind_param : List RncToken → Option (List RncToken)
behind_param [] = None
behind_param (token ∷ tokens) = if is_equals token.lexeme then behind_literals true tokens else None

abbrev pub facet_of : Lexeme → Option Facet
facet_of (Identifier name) = facet_named name
facet_of _ = None

-- a facet, from its name up to the token behind its value
abbrev pub facet_by : ℕ → RncToken → Facet → Option (List RncToken) → Option Widening
facet_by end token facet None = None
facet_by end token facet (Some rest) = Some (record { from = token.at; to = place_of rest end; word = []; note = note.Facet facet })

-- the facet, if it is left out
abbrev pub left_out_by : SchemaType → ℕ → RncToken → List RncToken → Option Facet → Option Widening
left_out_by old end token rest None = None
left_out_by old end token rest (Some facet) =
    if is_left_out_of old facet then facet_by end token facet (behind_param rest) else None

unfoldable pub facet_widening : SchemaType → ℕ → RncToken → List RncToken → Option Widening
facet_widening old end token rest = left_out_by old end token rest (facet_of token.lexeme)

-- ---- a token, by what is in front of it and behind it

-- Behind `{` a name with brackets behind it is that of an annotation. A param behind an annotation stays, to which that belongs
abbrev pub widening_by : List RncToken → ℕ → Stand → RncToken → List RncToken → Option Widening
widening_by file end stands.Pattern token rest = type_widening file end token rest
widening_by file end stands.Braced token rest = if begins is_left_bracket rest then None else type_widening file end token rest
widening_by file end (stands.Params old false) token rest = facet_widening old end token rest
widening_by file end _ token rest = None

-- nothing of what is passed over
abbrev pub widening_in : List RncToken → ℕ → ℕ → Stand → RncToken → List RncToken → Option Widening
widening_in file end zero stand token rest = widening_by file end stand token rest
widening_in file end (suc n) stand token rest = None

abbrev pub widening_at : List RncToken → ℕ → Context → RncToken → List RncToken → Option Widening
widening_at file end context token rest = widening_in file end context.passed context.stand token rest

abbrev pub listed : Option Widening → List Widening
listed None = []
listed (Some one) = one ∷ []

-- of tokens behind this context, in a file of these tokens and so many bytes
unfoldable pub widenings_from : List RncToken → ℕ → Context → List RncToken → List Widening
widenings_from file end context [] = []
widenings_from file end context (token ∷ rest) =
    listed (widening_at file end context token rest) ++ widenings_from file end (behind file context token.lexeme) rest

-- of a file of so many bytes: what stands in its body
unfoldable pub widenings_of : ℕ → List RncToken → List Widening
widenings_of end file = widenings_from file end outermost (body file)
