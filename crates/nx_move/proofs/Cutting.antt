-- The tags of a text from one border of its tokens to the next.
use Rattle.std.proofs.Common.{◌≡◌, ℕ, ◌+◌, ◌-◌, ◌<◌, ◌≤◌, List, [], ◌∷◌, length, Option, Some, None, refl, sym, ap, subst, ◌∙◌, arith}
use Rattle.std.specs.List.{filter_map, cons_option}
use Rattle.std.specs.Option.{option_map}
use Rattle.std.specs.Str.{IsUtf8}
use Rattle.std.proofs.lemmas.Bool.{le-leb, lt-leb}
use Rattle.nx_base.specs.Text.{IsPlace}
use Rattle.nx_base.specs.Tokens.{cut, end_of, tokens_within, tokens_from, AreTokensFrom}
use Rattle.nx_base.specs.declared.token.Token.{Token}
use Rattle.nx_scan.proofs.Every.{cut-is_token}
use Rattle.nx_scan.proofs.Joined.{tokens-go_on, joined-from}
use Rattle.nx_move.specs.declared.tag.Piece.{Piece}
use Rattle.nx_move.specs.declared.tag.Tag.{Tag}
use Rattle.nx_move.specs.declared.tag.TagKind.{TagKind}
use Rattle.nx_move.specs.Tags.{tag_kind, tag_of, tags_from}
use Rattle.nx_move.specs.Ways.{ahead, behind}
use Rattle.nx_move.specs.Walks.{IsPiece, IsNext}

-- no tag stands at the end
pub at_end : (text : List ℕ) (at : ℕ) → length text ≤ at → tags_from text at ≡ []
unfolding tokens_within
at_end text at past =
    let none : length text - at ≡ 0 = omega arith in
    ap (λ n. filter_map tag_of (tokens_within n text at)) none

-- a token that was cut at a border
pub record IsHere (text : List ℕ) (at : ℕ) (token : Token) : Type 0 where
  pub utf8 : IsUtf8 text
  pub place : IsPlace text at
  pub within : at < length text
  pub is : token ≡ cut text at

-- it moves on to the next border
pub record MovesOn (text : List ℕ) (at : ℕ) (token : Token) : Type 0 where
  pub from : token.from ≡ at
  pub some : 0 < length token.bytes
  pub border : IsPlace text (at + length token.bytes)
  pub tags : tags_from text at ≡ cons_option (tag_of token) (tags_from text (at + length token.bytes))

pub moves_on : (text : List ℕ) (at : ℕ) (token : Token) → IsHere text at token → MovesOn text at token
moves_on text at token here =
    let P : Token → Type 0 = λ t. MovesOn text at t in
    let its = cut-is_token text at here.utf8 here.place here.within in
    let end : end_of (cut text at) ≡ at + length (cut text at).bytes = ap (λ n. n + length (cut text at).bytes) its.from in
    subst P (sym here.is) (record {
      from = its.from;
      some = its.some;
      border = subst (λ n. IsPlace text n) end its.border;
      tags = ap (filter_map tag_of) (tokens-go_on text at here.utf8 here.place here.within)
          ∙ ap (λ n. cons_option (tag_of (cut text at)) (tags_from text n)) end;
    })

pub fits_here : (text : List ℕ) (at : ℕ) (token : Token) → IsHere text at token → at + length token.bytes ≤ length text
fits_here text at token here = (moves_on text at token here).border.0

whole_tag : (from to : ℕ) (tag : Tag) (found : Option TagKind) → option_map (λ kind. record { kind = kind; from = from; to = to }) found ≡ Some tag
    → (tag.from ≡ from) × (tag.to ≡ to)
whole_tag from to tag None e = absurd (cc)
whole_tag from to tag (Some kind) e =
    let same : record { kind = kind; from = from; to = to } ≡ tag = cc in
    (sym (ap (λ (t : Tag). t.from) same), sym (ap (λ (t : Tag). t.to) same))

pub is_piece : (text : List ℕ) (at : ℕ) (token : Token) (piece : Piece) → IsHere text at token → piece.to ≡ at + length token.bytes
    → piece.tag ≡ option_map (λ kind. record { kind = kind; from = at; to = piece.to }) (tag_kind token.kind) → IsPiece text at piece
is_piece text at token piece here e is =
    let more = moves_on text at token here in
    let from = more.from in
    let some = more.some in
    let end : end_of token ≡ piece.to = omega arith in
    let same : tag_of token ≡ piece.tag =
    ap (λ n. option_map (λ kind. record { kind = kind; from = n; to = end_of token }) (tag_kind token.kind)) from
    ∙ ap (λ n. option_map (λ kind. record { kind = kind; from = at; to = n }) (tag_kind token.kind)) end ∙ sym is in
    record {
      further = omega arith;
      border = subst (λ n. IsPlace text n) (sym e) more.border;
      tags = more.tags ∙ ap (λ t. cons_option t (tags_from text (at + length token.bytes))) same
          ∙ ap (λ n. cons_option piece.tag (tags_from text n)) (sym e);
      whole = λ tag h. whole_tag at piece.to tag (tag_kind token.kind) (sym is ∙ h);
    }

-- a piece that is no tag is passed over
pub passed_over : (text : List ℕ) (from at : ℕ) (piece : Piece) → tags_from text from ≡ tags_from text at → IsPiece text at piece → piece.tag ≡ None
    → tags_from text from ≡ tags_from text piece.to
passed_over text from at piece same h none = same ∙ h.tags ∙ ap (λ t. cons_option t (tags_from text piece.to)) none

-- one that is a tag is the next
pub next_here : (text : List ℕ) (from at : ℕ) (piece : Piece) (tag : Tag) → from ≤ at → tags_from text from ≡ tags_from text at → IsPiece text at piece
    → piece.tag ≡ Some tag → IsNext text from tag
next_here text from at piece tag le same h is =
    let place = h.whole tag is in
    let tag_from = place.0 in
    let tag_to = place.1 in
    let further = h.further in
    record {
      tags = same ∙ h.tags ∙ ap (λ t. cons_option t (tags_from text piece.to)) is ∙ ap (λ n. tag ∷ tags_from text n) (sym tag_to);
      starts = omega arith;
      further = omega arith;
      border = subst (λ n. IsPlace text n) (sym tag_to) h.border;
    }

-- a piece in front of a place has no tag ahead of it
pub not_ahead : (text : List ℕ) (at place : ℕ) (piece : Piece) (all : List Tag) → all ≡ ahead at (tags_from text place) → place < at → IsPiece text place piece
    → all ≡ ahead at (tags_from text piece.to)
not_ahead text at place piece all same lt h = same ∙ ap (ahead at) h.tags ∙ dropped piece.tag refl
  where
    dropped : (found : Option Tag) → piece.tag ≡ found → ahead at (cons_option found (tags_from text piece.to)) ≡ ahead at (tags_from text piece.to)
    dropped None is = refl
    dropped (Some tag) is =
        let from = (h.whole tag is).0 in
        let front : tag.from < at = omega arith in
        rw (lt-leb at tag.from front) refl

-- from a border on, all tags are ahead of what is in front of it
all_ahead_of : (at len place : ℕ) (tokens : List Token) → AreTokensFrom len place tokens → at ≤ place → ahead at (filter_map tag_of tokens) ≡ filter_map tag_of tokens
unfolding AreTokensFrom
all_ahead_of at len place [] lie le = refl
all_ahead_of at len place (token ∷ tokens) lie le =
    let from : token.from ≡ place = lie.0 in
    let front : at ≤ token.from = omega arith in
    kept (tag_kind token.kind) front (all_ahead_of at len (place + length token.bytes) tokens lie.1 (omega arith))
  where
    kept : (found : Option TagKind) → at ≤ token.from → ahead at (filter_map tag_of tokens) ≡ filter_map tag_of tokens
        → ahead at (cons_option (option_map (λ kind. record { kind = kind; from = token.from; to = end_of token }) found) (filter_map tag_of tokens))
        ≡ cons_option (option_map (λ kind. record { kind = kind; from = token.from; to = end_of token }) found) (filter_map tag_of tokens)
    kept None front more = more
    kept (Some kind) front more = rw (le-leb at token.from front) (ap (λ ts. record { kind = kind; from = token.from; to = end_of token } ∷ ts) more)

pub all_ahead : (text : List ℕ) (at place : ℕ) → IsUtf8 text → IsPlace text place → at ≤ place → ahead at (tags_from text place) ≡ tags_from text place
all_ahead text at place utf8 border le =
    all_ahead_of at (length text) place (tokens_from text place) (joined-from (length text - place) text place utf8 border (omega arith)).lie le

-- and none is behind it
none_behind_of : (at len place : ℕ) (tokens : List Token) → AreTokensFrom len place tokens → at < place → behind at (filter_map tag_of tokens) ≡ []
unfolding AreTokensFrom
none_behind_of at len place [] lie lt = refl
none_behind_of at len place (token ∷ tokens) lie lt =
    let from : token.from ≡ place = lie.0 in
    let past : at < end_of token = omega arith in
    dropped (tag_kind token.kind) past (none_behind_of at len (place + length token.bytes) tokens lie.1 (omega arith))
  where
    dropped : (found : Option TagKind) → at < end_of token → behind at (filter_map tag_of tokens) ≡ []
        → behind at (cons_option (option_map (λ kind. record { kind = kind; from = token.from; to = end_of token }) found) (filter_map tag_of tokens)) ≡ []
    dropped None past more = more
    dropped (Some kind) past more = rw (lt-leb (end_of token) at past) more

pub none_behind : (text : List ℕ) (at place : ℕ) → IsUtf8 text → IsPlace text place → at < place → behind at (tags_from text place) ≡ []
none_behind text at place utf8 border lt =
    none_behind_of at (length text) place (tokens_from text place) (joined-from (length text - place) text place utf8 border (omega arith)).lie lt

pub none_behind_next : (text : List ℕ) (at place : ℕ) (tag : Tag) → IsUtf8 text → IsNext text place tag → at < tag.to → behind at (tags_from text place) ≡ []
none_behind_next text at place tag utf8 next lt =
    ap (behind at) next.tags ∙ rw (lt-leb tag.to at lt) (none_behind text at tag.to utf8 next.border lt)
