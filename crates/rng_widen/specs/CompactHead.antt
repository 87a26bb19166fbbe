-- The declarations at the head of a file in the compact syntax, and the prefixes of types that they bind (ISO/IEC 19757-2, Annex C).
use Rattle.std.specs.Prelude.{ℕ, ◌&&◌, not, Bool, true, false, if◌then◌else◌, List, [], ◌∷◌, codes, unwrap_or, Option, Some, None}
use Rattle.std.specs.Str.{bytes_eq}
use Rattle.rnc_lex.specs.declared.token.Lexeme.{Lexeme}
use Rattle.rnc_lex.specs.declared.token.Lexeme.TheVariants.{Literal, Keyword as word}
use Rattle.rnc_lex.specs.declared.token.Keyword.TheVariants as keyword
use Rattle.rnc_lex.specs.declared.token.RncToken.{RncToken}
use Rattle.rng_widen.specs.declared.head.Head.{Head}
use Rattle.rng_widen.specs.declared.head.Head.TheVariants as heads
use Rattle.rng_widen.specs.CompactTokens.{begins, is_equals, is_tilde, is_datatypes, name_of}

-- ---- how far declarations go

abbrev pub begins_declaration : Lexeme → Bool
begins_declaration (word keyword.Namespace) = true
begins_declaration (word keyword.Default) = true
begins_declaration (word keyword.Datatypes) = true
begins_declaration _ = false

-- what something is declared to be
abbrev pub is_value : Lexeme → Bool
is_value (Literal text) = true
is_value (word keyword.Inherit) = true
is_value _ = false

abbrev pub is_before : Head → Bool
is_before heads.Before = true
is_before _ = false

abbrev pub is_body : Head → Bool
is_body heads.Body = true
is_body _ = false

-- behind a token that begins a declaration or the body, or joins a literal to the last one by `~`
abbrev pub behind_first : Lexeme → Head
behind_first token = if begins_declaration token then heads.Named else (if is_tilde token then heads.Valued else heads.Body)

abbrev pub behind_head : Head → Lexeme → Head
behind_head heads.Before token = behind_first token
behind_head heads.Named token = if is_equals token then heads.Valued else heads.Named
behind_head heads.Valued token = if is_value token then heads.Before else heads.Body
behind_head heads.Body token = heads.Body

-- the tokens behind the declarations: the body
unfoldable pub body_from : Head → List RncToken → List RncToken
body_from head [] = []
body_from head (token ∷ tokens) =
    if is_body (behind_head head token.lexeme) then token ∷ tokens else body_from (behind_head head token.lexeme) tokens

abbrev pub body : List RncToken → List RncToken
body tokens = body_from heads.Before tokens

-- ---- what a prefix stands for

abbrev pub schema_library : List ℕ
schema_library = codes "http://www.w3.org/2001/XMLSchema-datatypes"

abbrev pub is_library : Lexeme → Bool
is_library (Literal text) = bytes_eq text schema_library
is_library _ = false

-- the tokens begin with the literal of the library, to which none is joined
abbrev pub begins_library : List RncToken → Bool
begins_library [] = false
begins_library (token ∷ tokens) = is_library token.lexeme && not (begins is_tilde tokens)

abbrev pub gives_library : List RncToken → Bool
gives_library [] = false
gives_library (token ∷ tokens) = is_equals token.lexeme && begins_library tokens

abbrev pub is_named : List ℕ → Option (List ℕ) → Bool
is_named prefix None = false
is_named prefix (Some name) = bytes_eq name prefix

-- whether a declaration behind its word binds the prefix to XML Schema's library; none where it binds another prefix
abbrev pub binds_named : List ℕ → List RncToken → Option Bool
binds_named prefix [] = None
binds_named prefix (token ∷ tokens) = if is_named prefix (name_of token.lexeme) then Some (gives_library tokens) else None

-- the same of a declaration, if one of a library begins here
abbrev pub binds : List ℕ → Head → List RncToken → Option Bool
binds prefix head [] = None
binds prefix head (token ∷ tokens) = if is_before head && is_datatypes token.lexeme then binds_named prefix tokens else None

abbrev pub or_else : Option Bool → Option Bool → Option Bool
or_else (Some found) other = Some found
or_else None other = other

-- the first declaration of the prefix decides
unfoldable pub bound_from : List ℕ → Head → List RncToken → Option Bool
bound_from prefix head [] = None
bound_from prefix head (token ∷ tokens) =
    if is_body (behind_head head token.lexeme) then None
    else or_else (binds prefix head (token ∷ tokens)) (bound_from prefix (behind_head head token.lexeme) tokens)

-- The prefix stands for XML Schema's library in a file of these tokens. `xsd` does without a declaration
unfoldable pub is_schemas : List RncToken → List ℕ → Bool
is_schemas file prefix = unwrap_or (bound_from prefix heads.Before file) (bytes_eq prefix (codes "xsd"))
