-- A text is cut into tokens: the constructs of XML 1.0, each by its marks alone. Bad and Unclosed are the
-- project's own: what is no construct, and what has no end.
use Rattle.std.specs.Prelude.{◌≡◌, ℕ, zero, suc, ◌+◌, ◌-◌, ◌<◌, min, nat_le, Bool, true, false, ◌==◌, ◌&&◌, ◌||◌, not, if◌then◌else◌}
use Rattle.std.specs.Prelude.{List, [], ◌∷◌, length, take, drop, slice_index, count_by, codes, Option, Some, None}
use Rattle.std.specs.Option.{option_map, option_map_or}
use Rattle.std.specs.Str.{chars, encode_utf8_all}
use Rattle.nx_base.specs.Characters.{is_space, is_quote}
use Rattle.nx_base.specs.Form.{Form, spells, begins, shortest_front, passing_front}
use Rattle.nx_base.specs.Tags.{start_form, empty_form, end_form}
use Rattle.nx_base.specs.declared.token.Token.{Token}
use Rattle.nx_base.specs.declared.token.TokenKind.{TokenKind}
use Rattle.nx_base.specs.declared.token.TokenKind.TheVariants as kind

-- the kind of a token, and how many bytes it has
pub record Cut : Type 0 where
  pub kind : TokenKind
  pub len : ℕ

abbrev pub cut_as : TokenKind → ℕ → Cut
cut_as kind len = record { kind = kind; len = len }

-- the bytes begin with this mark
unfoldable pub begins_with : List ℕ → List ℕ → Bool
begins_with [] rest = true
begins_with (m ∷ mark) [] = false
begins_with (m ∷ mark) (b ∷ rest) = b == m && begins_with mark rest

-- how many bytes stand before the first place of the mark, if it has one
unfoldable pub bytes_before : List ℕ → List ℕ → Option ℕ
bytes_before mark [] = None
bytes_before mark (b ∷ bs) =
    if begins_with mark (b ∷ bs) then Some 0 else option_map (λ n. n + 1) (bytes_before mark bs)

-- how many bytes stand before the first such byte, or in all where there is none
unfoldable pub bytes_up_to : ℕ → List ℕ → ℕ
bytes_up_to byte [] = 0
bytes_up_to byte (b ∷ bs) = if b == byte then 0 else bytes_up_to byte bs + 1

-- a token that has no end reaches the end of the text
abbrev pub unclosed : List ℕ → Cut
unclosed rest = cut_as kind.Unclosed (length rest)

-- it ends with the first such mark that begins so many bytes on or later (2.5 [15], 2.6 [16], 2.7 [18])
unfoldable pub closed : TokenKind → List ℕ → ℕ → List ℕ → Cut
closed kind mark skip rest =
    option_map_or (λ n. cut_as kind (skip + n + length mark)) (bytes_before mark (drop skip rest)) (unclosed rest)

-- what is passed at once in a document type, in its subset or not: a quoted text, in the subset also a
-- comment or a processing instruction, otherwise a byte. None where it has no end. `"` is 34, `'` is 39
unfoldable pub piece : Bool → List ℕ → Option ℕ
piece subset [] = None
piece subset (b ∷ bs) =
    if is_quote b then option_map (λ n. 1 + n + 1) (bytes_before (b ∷ []) bs)
    else (if subset && begins_with (codes "<!--") (b ∷ bs) then option_map (λ n. 4 + n + 3) (bytes_before (codes "-->") (drop 4 (b ∷ bs)))
    else (if subset && begins_with (codes "<?") (b ∷ bs) then option_map (λ n. 2 + n + 2) (bytes_before (codes "?>") (drop 2 (b ∷ bs)))
    else Some 1))

-- whether the subset is open behind a piece that begins with this byte: `[` (91) opens it, `]` (93) closes it
abbrev pub in_subset : Bool → ℕ → Bool
in_subset subset b = if b == 91 then true else (if b == 93 then false else subset)

-- how many bytes there are through the first `>` (62) outside of the subset, where so many bytes of a
-- piece are still to be passed
unfoldable pub doctype_bytes : Bool → ℕ → List ℕ → Option ℕ
doctype_bytes subset passed [] = None
doctype_bytes subset (suc passed) (b ∷ bs) = option_map (λ n. n + 1) (doctype_bytes subset passed bs)
doctype_bytes subset zero (b ∷ bs) =
    if b == 62 && not subset then Some 1
    else option_map_or
    (λ n. option_map (λ m. m + 1) (doctype_bytes (in_subset subset b) (n - 1) bs)) (piece subset (b ∷ bs)) None

-- the forms of the three kinds of tags, or what is left of them
pub record Tags : Type 0 where
  pub end : Form
  pub start : Form
  pub empty : Form

abbrev pub tags : Tags
tags = record { end = end_form; start = start_form; empty = empty_form }

-- the characters can be continued to a tag
abbrev pub begins_tag : Tags → List ℕ → Bool
begins_tag forms cs = begins forms.end cs || (begins forms.start cs || begins forms.empty cs)

-- how far such a token goes on: to the next `<` (60), through the next `>` (62), or to the end of the text
unfoldable pub bad_rest : List ℕ → ℕ
bad_rest left = min (bytes_up_to 60 left) (bytes_up_to 62 left + 1)

-- where no tag stands, the token is Bad: up to the first character through which none can, and on from there
unfoldable pub bad : Tags → List ℕ → Cut
bad forms rest =
    let begun = length (encode_utf8_all (passing_front (begins_tag forms) (chars rest))) in
    cut_as kind.Bad (begun + bad_rest (drop begun rest))

-- a tag of this kind, where one stands here
unfoldable pub tag_or : TokenKind → Form → List ℕ → Cut → Cut
tag_or kind form rest other =
    option_map_or (λ cs. cut_as kind (length (encode_utf8_all cs))) (shortest_front (spells form) (chars rest)) other

unfoldable pub tag : Tags → List ℕ → Cut
tag forms rest =
    tag_or kind.End forms.end rest (tag_or kind.Start forms.start rest (tag_or kind.Empty forms.empty rest (bad forms rest)))

-- a document type declaration (2.8 [28])
unfoldable pub doctype : List ℕ → Cut
doctype rest =
    option_map_or (λ n. cut_as kind.Doctype (9 + n)) (doctype_bytes false 0 (drop 9 rest)) (unclosed rest)

-- `<?xml` and S, which is one byte
unfoldable pub begins_declaration : List ℕ → Bool
begins_declaration rest = begins_with (codes "<?xml") rest && is_space (slice_index rest 5)

-- an XML declaration (2.8 [23]) or a processing instruction (2.6 [16])
unfoldable pub instruction : List ℕ → Cut
instruction rest =
    if begins_declaration rest then closed kind.Decl (codes "?>") 6 rest
    else closed kind.Pi (codes "?>") 2 rest

-- a token that begins with `<`: the first row that applies, of comments (2.5), CDATA sections (2.7), document types (2.8),
-- processing instructions (2.6) and tags (3.1)
unfoldable pub markup : List ℕ → Cut
markup rest =
    if begins_with (codes "<!--") rest then closed kind.Comment (codes "-->") 4 rest
    else (if begins_with (codes "<![CDATA[") rest then closed kind.Cdata (codes "]]>") 9 rest
    else (if begins_with (codes "<!DOCTYPE") rest then doctype rest
    else (if begins_with (codes "<?") rest then instruction rest
    else tag tags rest)))

-- U+FEFF, the byte order mark
abbrev pub order_mark : List ℕ
order_mark = 0xEF ∷ 0xBB ∷ 0xBF ∷ []

-- the token with which the rest of a text begins: the first row that applies
unfoldable pub first_token : Bool → List ℕ → Cut
first_token at_start rest =
    if at_start && begins_with order_mark rest then cut_as kind.Bom 3
    else (if begins_with (codes "<") rest then markup rest
    else cut_as kind.Text (bytes_up_to 60 rest))

-- the token at a place of a text
unfoldable pub cut : List ℕ → ℕ → Token
cut text at =
    let found = first_token (at == 0) (drop at text) in
    record { kind = found.kind; from = at; bytes = take found.len (drop at text) }

-- a token whose bytes are of its kind: it is the token with which its own bytes begin
abbrev pub IsOfKind : Token → Type 0
IsOfKind token = first_token (token.from == 0) token.bytes ≡ cut_as token.kind (length token.bytes)

-- what is found at a place: the token that is cut there, and none exactly at the end
abbrev pub CutAt : List ℕ → ℕ → Option Token → Type 0
CutAt text at None = at ≡ length text
CutAt text at (Some token) = (at < length text) × (token ≡ cut text at)

-- at most so many tokens of a text, from a place on, at each place the one that is cut there
unfoldable pub tokens_within : ℕ → List ℕ → ℕ → List Token
tokens_within zero text at = []
tokens_within (suc n) text at =
    if nat_le (length text) at then []
    else (let token = cut text at in token ∷ tokens_within n text (at + length token.bytes))

-- the tokens of a text from a border on, and all of them
abbrev pub tokens_from : List ℕ → ℕ → List Token
tokens_from text at = tokens_within (length text - at) text at

abbrev pub tokens_of : List ℕ → List Token
tokens_of text = tokens_from text 0

-- the byte offset at which a token ends
abbrev pub end_of : Token → ℕ
end_of token = token.from + length token.bytes

-- tokens that lie one behind another, from a place to the end of a text of this length
unfoldable pub AreTokensFrom : ℕ → ℕ → List Token → Type 0
AreTokensFrom len at [] = at ≡ len
AreTokensFrom len at (token ∷ others) = (token.from ≡ at) × AreTokensFrom len (at + length token.bytes) others

-- they cover a text of this length
abbrev pub AreTokensOf : ℕ → List Token → Type 0
AreTokensOf len all = AreTokensFrom len 0 all

-- how many tokens of the text start at `from` or later and end at `to` or earlier
abbrev pub token_count : List ℕ → ℕ → ℕ → ℕ
token_count text from to = count_by (λ token. nat_le from token.from && nat_le (end_of token) to) (tokens_of text)
