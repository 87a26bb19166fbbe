-- Tokens of small texts, worked out by hand.
use Rattle.std.proofs.Common.{◌≡◌, ℕ, List, [], ◌∷◌, refl, codes}
use Rattle.std.specs.Prelude.{Bool, true, false, map}
use Rattle.std.specs.Str.{chars}
use lib.Utf8.{encode}
use Rattle.nx_base.specs.Tokens.{Cut, cut_as, first_token, markup, begins_declaration, instruction, doctype, begins_with, closed, bytes_before, bytes_up_to, doctype_bytes, piece, bad, bad_rest, tag_or, tag}
use Rattle.nx_base.specs.Form.{spells, begins, shortest_front, passing_front}
use Rattle.nx_base.specs.Characters.{is_space, is_name_start, is_name_char}
use Rattle.nx_base.specs.declared.token.TokenKind.TheVariants as kind

-- each text begins with this token
abbrev AreCut : Bool → List (List ℕ × Cut) → Type 0
AreCut at_start rows = map (λ row. first_token at_start row.0) rows ≡ map (λ row. row.1) rows

-- at the start of a text
abbrev first_rows : List (List ℕ × Cut)
first_rows =
    (codes "ab<c>", cut_as kind.Text 2)
    ∷ (codes "<a><b>", cut_as kind.Start 3)
    ∷ (codes "<a x='1' x='2'>&nbsp;", cut_as kind.Start 15)
    ∷ (codes "<!-->-->x", cut_as kind.Comment 8)
    ∷ (codes "<?xml version=\"1.0\"?>\n", cut_as kind.Decl 21)
    ∷ (codes "<!DOCTYPE book SYSTEM \"book.dtd\" [ <!-- it's > --> ]>\n", cut_as kind.Doctype 53)
    ∷ (0xEF ∷ 0xBB ∷ 0xBF ∷ codes "a", cut_as kind.Bom 3)
    ∷ []

first_tokens : AreCut true first_rows
unfolding first_token markup begins_declaration instruction doctype begins_with closed bytes_before bytes_up_to doctype_bytes piece bad bad_rest tag_or tag spells begins shortest_front passing_front is_space is_name_start is_name_char chars encode
first_tokens = refl

-- further on
abbrev later_rows : List (List ℕ × Cut)
later_rows =
    (codes "</a></b>", cut_as kind.End 4)
    ∷ (codes "</a \n>", cut_as kind.End 6)
    ∷ (codes "<p:a/>", cut_as kind.Empty 6)
    ∷ (codes "<a x = '>\"'/>", cut_as kind.Empty 13)
    ∷ (codes "<b </a>", cut_as kind.Bad 3)
    ∷ (codes "<1x>y", cut_as kind.Bad 4)
    ∷ (codes "<a x=1>b", cut_as kind.Bad 7)
    ∷ (codes "<a x='<b>", cut_as kind.Bad 6)
    ∷ (codes "<a x='1'y='2'>z", cut_as kind.Bad 14)
    ∷ (codes "<", cut_as kind.Bad 1)
    ∷ (codes "<<a>", cut_as kind.Bad 1)
    ∷ (codes "<a b", cut_as kind.Bad 4)
    ∷ (codes "<!x>y", cut_as kind.Bad 4)
    ∷ (codes "<!--->", cut_as kind.Unclosed 6)
    ∷ (codes "<!-- x", cut_as kind.Unclosed 6)
    ∷ (codes "<![CDATA[<y>]]></p>", cut_as kind.Cdata 15)
    ∷ (codes "<![CDATA[a]] >", cut_as kind.Unclosed 14)
    ∷ (codes "<?xml-stylesheet a?>\n", cut_as kind.Pi 20)
    ∷ (codes "<??>", cut_as kind.Pi 4)
    ∷ (codes "<?>", cut_as kind.Unclosed 3)
    ∷ (codes "<!DOCTYPE a '>' [ <? ]> ?> \"]\" ]>", cut_as kind.Doctype 33)
    ∷ (codes "<!DOCTYPE a [ > ", cut_as kind.Unclosed 16)
    ∷ (0xEF ∷ 0xBB ∷ 0xBF ∷ codes "a", cut_as kind.Text 4)
    ∷ (60 ∷ 0xC3 ∷ 0xA9 ∷ codes "/>", cut_as kind.Empty 5)
    ∷ []

later_tokens : AreCut false later_rows
unfolding first_token markup begins_declaration instruction doctype begins_with closed bytes_before bytes_up_to doctype_bytes piece bad bad_rest tag_or tag spells begins shortest_front passing_front is_space is_name_start is_name_char chars encode
later_tokens = refl
