-- What the kind of a token says of its characters, where it is a tag.
use Rattle.std.proofs.Common.{◌≡◌, ℕ, ◌+◌, IsUtf8, append-nil, Bool, false, Option, Some, List, [], ◌∷◌, ◌++◌, length, drop, refl, ap, subst, sym, ◌∙◌, arith, codes}
use Rattle.std.specs.Prelude.{◌&&◌, ◌==◌}
use Rattle.std.specs.Str.{chars}
use lib.Utf8.{encodes}
use Rattle.std.proofs.lemmas.List.{take-append-drop, length-append, nil_from_length}
use Rattle.std.proofs.lemmas.Str.{encodes-append, encodes-chars, scalars-chars, length-le-encodes}
use Rattle.nx_base.specs.Characters.{is_space}
use Rattle.nx_base.specs.Form.{Form, only, one, seq, Spells, spells, shortest_front, IsShortestFront}
use Rattle.nx_base.specs.Tags.{start_form, empty_form, end_form}
use Rattle.nx_base.specs.Tokens.{Cut, cut_as, begins_with, bytes_before, bytes_up_to, unclosed, closed, doctype, doctype_bytes, begins_declaration, instruction, tags, bad, tag_or, tag, markup, order_mark, first_token, IsOfKind}
use Rattle.nx_base.specs.declared.token.Token.{Token}
use Rattle.nx_base.specs.declared.token.TokenKind.{TokenKind}
use Rattle.nx_base.specs.declared.token.TokenKind.TheVariants as kinds
use Rattle.nx_base.proofs.Forms.{spells-exactly}
use Rattle.nx_base.proofs.Fronts.{shortest-exactly}
use Rattle.nx_events.specs.SpelledTags.{IsSpelledTag, IsSpelledEnd, IsSpelled, TagsAreSpelled}
use Rattle.nx_events.proofs.Texts.{test_is}
use Rattle.nx_events.proofs.TextKinds.{found_is}
use Rattle.nx_events.proofs.SpelledTags.{Closes, only_bytes, tag_is, end_is}

-- the characters of a token that has all the bytes
abbrev IsForm : List ℕ → TokenKind → ℕ → Type 0
IsForm bs kinds.Start n = n ≡ length bs → Spells start_form (chars bs)
IsForm bs kinds.Empty n = n ≡ length bs → Spells empty_form (chars bs)
IsForm bs kinds.End n = n ≡ length bs → Spells end_form (chars bs)
IsForm bs _ n = Unit {0}

abbrev Has : List ℕ → Cut → Type 0
Has bs c = IsForm bs c.kind c.len

front_form : (form : Form) (bs cs : List ℕ) → IsUtf8 bs → shortest_front (spells form) (chars bs) ≡ Some cs → length (encodes cs) ≡ length bs → Spells form (chars bs)
front_form form bs cs u e size =
    let P : Option (List ℕ) → Type 0 = λ found. IsShortestFront (spells form) (chars bs) found in
    let t = subst P e (shortest-exactly (chars bs) (spells form)) in
    let rest = drop (length cs) (chars bs) in
    let split : cs ++ rest ≡ chars bs = ap (λ xs. xs ++ rest) t.1 ∙ take-append-drop (length cs) (chars bs) in
    let whole : encodes cs ++ encodes rest ≡ bs = sym (encodes-append cs rest) ∙ ap encodes split ∙ encodes-chars bs u in
    let sizes : length (encodes cs) + length (encodes rest) ≡ length bs = sym (length-append (encodes cs) (encodes rest)) ∙ ap length whole in
    let few = length-le-encodes rest in
    let nothing : rest ≡ [] = nil_from_length rest (omega arith) in
    let same : cs ≡ chars bs = sym (append-nil cs) ∙ ap (λ xs. cs ++ xs) (sym nothing) ∙ split in
    subst (λ xs. Spells form xs) same ((spells-exactly form cs).0 t.0)

module _ (bs : List ℕ) (u : IsUtf8 bs) where
  closed_has : (mark : List ℕ) (n : ℕ) → Has bs (closed kinds.Cdata mark n bs) × Has bs (closed kinds.Comment mark n bs) × Has bs (closed kinds.Decl mark n bs) × Has bs (closed kinds.Pi mark n bs)
  unfolding closed
  closed_has mark n = (
    found_is (Has bs) (λ k. cut_as kinds.Cdata (n + k + length mark)) (bytes_before mark (drop n bs)) (unclosed bs) (λ k found. tt) tt,
    found_is (Has bs) (λ k. cut_as kinds.Comment (n + k + length mark)) (bytes_before mark (drop n bs)) (unclosed bs) (λ k found. tt) tt,
    found_is (Has bs) (λ k. cut_as kinds.Decl (n + k + length mark)) (bytes_before mark (drop n bs)) (unclosed bs) (λ k found. tt) tt,
    found_is (Has bs) (λ k. cut_as kinds.Pi (n + k + length mark)) (bytes_before mark (drop n bs)) (unclosed bs) (λ k found. tt) tt,
  )

  doctype_has : Has bs (doctype bs)
  unfolding doctype
  doctype_has = found_is (Has bs) (λ n. cut_as kinds.Doctype (9 + n)) (doctype_bytes false 0 (drop 9 bs)) (unclosed bs) (λ n found. tt) tt

  instruction_has : Has bs (instruction bs)
  unfolding instruction
  instruction_has =
      test_is (Has bs) (begins_declaration bs) (closed kinds.Decl (codes "?>") 6 bs) (closed kinds.Pi (codes "?>") 2 bs)
      (λ _. (closed_has (codes "?>") 6).2) (λ _. (closed_has (codes "?>") 2).3)

  tag_has : Has bs (tag tags bs)
  unfolding tag tag_or bad
  tag_has =
      found_is (Has bs) (λ cs. cut_as kinds.End (length (encodes cs))) (shortest_front (spells end_form) (chars bs)) _ (λ cs found size. front_form end_form bs cs u found size)
      (found_is (Has bs) (λ cs. cut_as kinds.Start (length (encodes cs))) (shortest_front (spells start_form) (chars bs)) _ (λ cs found size. front_form start_form bs cs u found size)
      (found_is (Has bs) (λ cs. cut_as kinds.Empty (length (encodes cs))) (shortest_front (spells empty_form) (chars bs)) _ (λ cs found size. front_form empty_form bs cs u found size) tt))

  markup_has : Has bs (markup bs)
  unfolding markup
  markup_has =
      test_is (Has bs) (begins_with (codes "<!--") bs) _ _ (λ _. (closed_has (codes "-->") 4).1)
      (λ _. test_is (Has bs) (begins_with (codes "<![CDATA[") bs) _ _ (λ _. (closed_has (codes "]]>") 9).0)
      (λ _. test_is (Has bs) (begins_with (codes "<!DOCTYPE") bs) _ _ (λ _. doctype_has)
      (λ _. test_is (Has bs) (begins_with (codes "<?") bs) _ _ (λ _. instruction_has) (λ _. tag_has))))

  first_has : (at_start : Bool) → Has bs (first_token at_start bs)
  unfolding first_token
  first_has at_start =
      test_is (Has bs) (at_start && begins_with order_mark bs) (cut_as kinds.Bom 3) _ (λ _. tt)
      (λ _. test_is (Has bs) (begins_with (codes "<") bs) (markup bs) (cut_as kinds.Text (bytes_up_to 60 bs)) (λ _. markup_has) (λ _. tt))

form_of : (token : Token) → IsUtf8 token.bytes → IsOfKind token → IsForm token.bytes token.kind (length token.bytes)
form_of token u kind = subst (λ (c : Cut). Has token.bytes c) kind (first_has token.bytes u (token.from == 0))

-- `>`, and `/>`
start_closes : Closes (one (only 62)) (codes ">")
unfolding is_space
start_closes = record { is_mark = λ cs s. only_bytes 62 cs (omega arith) s; between = (refl, tt); some = omega arith }

empty_closes : Closes (seq (one (only 47)) (one (only 62))) (codes "/>")
unfolding Spells is_space
empty_closes = record {
  is_mark = λ cs s. ap encodes s.4 ∙ encodes-append s.0 s.1 ∙ ap (λ xs. xs ++ encodes s.1) (only_bytes 47 s.0 (omega arith) s.2) ∙ ap (λ xs. 47 ∷ xs) (only_bytes 62 s.1 (omega arith) s.3);
  between = (refl, (refl, tt));
  some = omega arith;
}

spelled_by_kind : (kind : TokenKind) (bs : List ℕ) → IsUtf8 bs → IsForm bs kind (length bs) → IsSpelled kind bs
spelled_by_kind kinds.Start bs u h = subst (λ xs. IsSpelledTag (codes ">") xs) (encodes-chars bs u) (tag_is (one (only 62)) (codes ">") start_closes (chars bs) (scalars-chars bs u) (h refl))
spelled_by_kind kinds.Empty bs u h =
    subst (λ xs. IsSpelledTag (codes "/>") xs) (encodes-chars bs u) (tag_is (seq (one (only 47)) (one (only 62))) (codes "/>") empty_closes (chars bs) (scalars-chars bs u) (h refl))
spelled_by_kind kinds.End bs u h = subst (λ xs. IsSpelledEnd xs) (encodes-chars bs u) (end_is (chars bs) (scalars-chars bs u) (h refl))
spelled_by_kind _ bs u h = tt

pub tags_are_spelled : TagsAreSpelled
tags_are_spelled token u kind = spelled_by_kind token.kind token.bytes u (form_of token u kind)
