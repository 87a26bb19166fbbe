-- The tags of a Name as texts that are put in.
use Rattle.std.proofs.Common.{◌≡◌, ℕ, suc, ◌+◌, ◌<◌, Bool, true, List, [], ◌∷◌, ◌++◌, length, refl, sym, ◌∙◌, ap, arith, append_assoc, length-append, codes}
use Rattle.std.specs.Str.{IsUtf8}
use lib.Utf8.{scalars}
use Rattle.std.proofs.lemmas.Str.{encode_ascii, IsUtf8-append}
use Rattle.nx_base.specs.Tokens.{cut_as, first_token}
use Rattle.nx_base.specs.declared.token.TokenKind.TheVariants as kinds
use Rattle.nx_events.specs.SpelledTags.{IsName}
use Rattle.nx_scan.proofs.NameTags as tags
use Rattle.nx_tags.specs.Changing.{start_tag, end_tag}

pub one_utf8 : (b : ℕ) → b < 128 → scalars (b ∷ []) ≡ true → IsUtf8 (b ∷ [])
one_utf8 b low ok = (b ∷ [], (ok, ap (λ xs. xs ++ []) (encode_ascii b low)))

pub start_tag_utf8 : (name : List ℕ) → IsName name → IsUtf8 (start_tag name)
start_tag_utf8 name is =
    IsUtf8-append (60 ∷ []) (name ++ 62 ∷ []) (one_utf8 60 (omega arith) refl) (IsUtf8-append name (62 ∷ []) is.utf8 (one_utf8 62 (omega arith) refl))

pub end_tag_utf8 : (name : List ℕ) → IsName name → IsUtf8 (end_tag name)
end_tag_utf8 name is =
    IsUtf8-append (60 ∷ []) (47 ∷ (name ++ 62 ∷ [])) (one_utf8 60 (omega arith) refl)
    (IsUtf8-append (47 ∷ []) (name ++ 62 ∷ []) (one_utf8 47 (omega arith) refl) (IsUtf8-append name (62 ∷ []) is.utf8 (one_utf8 62 (omega arith) refl)))

pub start_is_token : (s : Bool) (name more : List ℕ) → IsName name → IsUtf8 more → first_token s (start_tag name ++ more) ≡ cut_as kinds.Start (length (start_tag name))
start_is_token s name more is utf8 =
    let k = length-append name (62 ∷ []) in
    ap (λ xs. first_token s (60 ∷ xs)) (append_assoc name (62 ∷ []) more)
    ∙ tags.start_is_token s name more is.utf8 is.spelled utf8
    ∙ ap (cut_as kinds.Start) (let e : length name + 2 ≡ suc (length (name ++ 62 ∷ [])) = omega arith in e)

pub end_is_token : (s : Bool) (name more : List ℕ) → IsName name → IsUtf8 more → first_token s (end_tag name ++ more) ≡ cut_as kinds.End (length (end_tag name))
end_is_token s name more is utf8 =
    let k = length-append name (62 ∷ []) in
    ap (λ xs. first_token s (60 ∷ 47 ∷ xs)) (append_assoc name (62 ∷ []) more)
    ∙ tags.end_is_token s name more is.utf8 is.spelled utf8
    ∙ ap (cut_as kinds.End) (let e : length name + 3 ≡ suc (suc (length (name ++ 62 ∷ []))) = omega arith in e)
