-- A QName is a Name.
use Rattle.std.proofs.Common.{◌≡◌, ℕ, ◌<◌, true, false, List, [], ◌∷◌, ◌++◌, refl, sym, ◌∙◌, ap, subst, arith}
use Rattle.std.specs.Prelude.{◌&&◌}
use Rattle.std.specs.Str.{IsUtf8, chars}
use lib.Utf8.{encode, encodes, scalar, scalars}
use Rattle.std.proofs.lemmas.Bool.{and_parts, and_from}
use Rattle.std.proofs.lemmas.Str.{encode_ascii, encodes-append, encodes-chars, scalars-chars, chars-encodes}
use Rattle.nx_base.specs.Characters.{is_name_start, is_name_char}
use Rattle.nx_base.specs.Form.{Spells}
use Rattle.nx_base.specs.Tags.{name_form}
use Rattle.nx_events.specs.Names.{is_qname, prefix_of, local_of}
use Rattle.nx_events.specs.QualifiedNames as grammar
use Rattle.nx_events.specs.QualifiedNames.{IsNcName, unprefixed, prefixed}
use Rattle.nx_events.specs.SpelledTags.{IsName}
use Rattle.nx_events.proofs.FormWords.{AllPass}
use Rattle.nx_events.proofs.QualifiedNames.{qnames_are_spelled}
use Rattle.nx_events.proofs.ReferenceForms.{name_all, name_spells, start_is_name}
use Rattle.nx_tags.specs.Answers.{IsQName}

all_two : (xs ys : List ℕ) → AllPass is_name_char xs → AllPass is_name_char ys → AllPass is_name_char (xs ++ ys)
all_two [] ys h k = k
all_two (x ∷ xs) ys h k = (h.0, all_two xs ys h.1 k)

scalars_two : (xs ys : List ℕ) → scalars xs ≡ true → scalars ys ≡ true → scalars (xs ++ ys) ≡ true
scalars_two [] ys h k = k
scalars_two (x ∷ xs) ys h k = let parts = and_parts (scalar x) (scalars xs) h in and_from (scalar x) (scalars (xs ++ ys)) parts.0 (scalars_two xs ys parts.1 k)

colon_is_name : is_name_char 58 ≡ true
unfolding is_name_char is_name_start
colon_is_name = refl

two_names : (name prefix local : List ℕ) → IsName prefix → IsName local → name ≡ prefix ++ 58 ∷ local → IsUtf8 name → IsName name
two_names name prefix local front back is utf8 =
    let p = name_all (chars prefix) front.spelled in
    let l = name_all (chars local) back.spelled in
    let behind : AllPass is_name_char (chars local) = subst (λ xs. AllPass is_name_char xs) (sym l.4) (start_is_name l.0 l.2, l.3) in
    let cs : List ℕ = chars prefix ++ 58 ∷ chars local in
    let spelled : encodes cs ≡ name =
    encodes-append (chars prefix) (58 ∷ chars local)
    ∙ ap (λ xs. xs ++ (encode 58 ++ encodes (chars local))) (encodes-chars prefix front.utf8)
    ∙ ap (λ xs. prefix ++ (xs ++ encodes (chars local))) (encode_ascii 58 (omega arith))
    ∙ ap (λ xs. prefix ++ 58 ∷ xs) (encodes-chars local back.utf8) ∙ sym is in
    let ok : scalars cs ≡ true = scalars_two (chars prefix) (58 ∷ chars local) (scalars-chars prefix front.utf8) (scalars-chars local back.utf8) in
    let read : chars name ≡ p.0 ∷ (p.1 ++ 58 ∷ chars local) = ap chars (sym spelled) ∙ chars-encodes cs ok ∙ ap (λ xs. xs ++ 58 ∷ chars local) p.4 in
    record {
      utf8 = utf8;
      spelled = subst (λ xs. Spells name_form xs) (sym read) (name_spells p.0 (p.1 ++ 58 ∷ chars local) p.2 (all_two p.1 (58 ∷ chars local) p.3 (colon_is_name, behind)));
    }

by_grammar : (name prefix local : List ℕ) → IsUtf8 name → grammar.IsQName name prefix local → IsName name
by_grammar name prefix local utf8 (unprefixed is _ _) = is.is_name
by_grammar name prefix local utf8 (prefixed front back is) = two_names name prefix local front.is_name back.is_name is utf8

pub qname_is_name : (name : List ℕ) → IsQName name → IsName name
qname_is_name name is =
    by_grammar name (prefix_of name) (local_of name) is.0 ((qnames_are_spelled name (prefix_of name) (local_of name) is.0).1 (is.1, refl, refl))
