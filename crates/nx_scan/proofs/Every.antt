-- What holds of every token.
use Rattle.std.proofs.Common.{◌≡◌, ℕ, ◌+◌, ◌-◌, ◌<◌, Bool, true, List, length, take, drop, get_or, refl, sym, ap, subst, arith, length-drop, codes}
use Rattle.std.specs.Prelude.{◌==◌, ◌&&◌, if◌then◌else◌}
use Rattle.std.specs.Str.{IsUtf8, IsCharBoundary}
use Rattle.std.proofs.lemmas.Bool.{and_parts}
use Rattle.std.proofs.lemmas.List.{length-take-le}
use Rattle.std.proofs.lemmas.Str.{IsUtf8-drop, IsCharBoundary-from_rest, IsCharBoundary-after_ascii}
use Rattle.nx_base.specs.Text.{IsPlace}
use Rattle.nx_base.specs.Tokens.{Cut, cut_as, begins_with, bytes_up_to, closed, doctype, instruction, tags, tag, markup, order_mark, first_token, cut}
use Rattle.nx_base.specs.declared.token.TokenKind.TheVariants as kinds
use Rattle.nx_scan.specs.Borders.{IsTokenOf}
use Rattle.nx_scan.specs.Tag.{left_of, later}
use Rattle.nx_scan.specs.declared.tag.TagState.TheVariants as seen
use Rattle.nx_scan.proofs.Fitting.{FitsIn, if_cases, closed-fits, doctype-fits, instruction-fits, text-fits}
use Rattle.nx_scan.proofs.Marks.{byte-here, here-within}
use Rattle.nx_scan.proofs.Rows.{token-order_mark}
use Rattle.nx_scan.proofs.TagEnds.{begin-tag}
use Rattle.nx_scan.proofs.Walking.{tag-border}

-- a tag, or what stands in its place, fits
tag-fits : (rest : List ℕ) → IsUtf8 rest → begins_with (codes "<") rest ≡ true → FitsIn rest (tag tags rest).len
tag-fits rest utf8 h =
    let within : 0 < length rest = here-within (codes "<") rest 0 (omega arith) h in
    let less : get_or rest 0 0 ≡ 60 = byte-here 60 rest 0 h in
    let begun : tag tags rest ≡ later 1 (tag (left_of seen.Open) (drop 1 rest)) = begin-tag rest 0 utf8 within less in
    let start : IsCharBoundary rest 1 = IsCharBoundary-after_ascii rest 0 utf8 within (omega (arith, less)) in
    let more : IsUtf8 (drop 1 rest) = IsUtf8-drop rest 1 utf8 start in
    let border : IsCharBoundary (drop 1 rest) (tag (left_of seen.Open) (drop 1 rest)).len =
    subst (λ xs. IsCharBoundary xs (tag (left_of seen.Open) xs).len) more.1.1 (tag-border more.0 seen.Open more.1.0) in
    let len : (tag tags rest).len ≡ 1 + (tag (left_of seen.Open) (drop 1 rest)).len = ap (λ (t : Cut). t.len) begun in
    record {
      some = omega arith;
      border = subst (λ n. IsCharBoundary rest n) (sym len) (IsCharBoundary-from_rest rest 1 (tag (left_of seen.Open) (drop 1 rest)).len (omega arith) border);
    }

markup-fits : (rest : List ℕ) → IsUtf8 rest → 0 < length rest → begins_with (codes "<") rest ≡ true → FitsIn rest (markup rest).len
unfolding markup
markup-fits rest utf8 some h =
    let P : Cut → Type 0 = λ c. FitsIn rest c.len in
    let tags_or : Cut = if begins_with (codes "<?") rest then instruction rest else tag tags rest in
    let types_or : Cut = if begins_with (codes "<!DOCTYPE") rest then doctype rest else tags_or in
    let cdata_or : Cut = if begins_with (codes "<![CDATA[") rest then closed kinds.Cdata (codes "]]>") 9 rest else types_or in
    if_cases P (begins_with (codes "<!--") rest) (closed kinds.Comment (codes "-->") 4 rest) cdata_or
    (λ a. closed-fits kinds.Comment (codes "-->") rest 4 utf8 some (omega arith) refl)
    (λ a. if_cases P (begins_with (codes "<![CDATA[") rest) (closed kinds.Cdata (codes "]]>") 9 rest) types_or
    (λ b. closed-fits kinds.Cdata (codes "]]>") rest 9 utf8 some (omega arith) refl)
    (λ b. if_cases P (begins_with (codes "<!DOCTYPE") rest) (doctype rest) tags_or
    (λ d. doctype-fits rest utf8 some)
    (λ d. if_cases P (begins_with (codes "<?") rest) (instruction rest) (tag tags rest)
    (λ e. instruction-fits rest utf8 some)
    (λ e. tag-fits rest utf8 h))))

order_mark-fits : (at_start : Bool) (rest : List ℕ) → IsUtf8 rest → (at_start && begins_with order_mark rest) ≡ true → FitsIn rest 3
order_mark-fits at_start rest utf8 h =
    record {
      some = omega arith;
      border = (token-order_mark rest 0 utf8 (and_parts at_start (begins_with order_mark rest) h).1).border;
    }

pub first_token-fits : (at_start : Bool) (rest : List ℕ) → IsUtf8 rest → 0 < length rest → FitsIn rest (first_token at_start rest).len
unfolding first_token
first_token-fits at_start rest utf8 some =
    let P : Cut → Type 0 = λ c. FitsIn rest c.len in
    let others : Cut = if begins_with (codes "<") rest then markup rest else cut_as kinds.Text (bytes_up_to 60 rest) in
    if_cases P (at_start && begins_with order_mark rest) (cut_as kinds.Bom 3) others
    (λ a. order_mark-fits at_start rest utf8 a)
    (λ a. if_cases P (begins_with (codes "<") rest) (markup rest) (cut_as kinds.Text (bytes_up_to 60 rest))
    (λ b. markup-fits rest utf8 some b) (λ b. text-fits rest utf8 some b))

-- the token that is cut
module _ (text : List ℕ) (at : ℕ) (utf8 : IsUtf8 text) (place : IsPlace text at) (within : at < length text) where
  pub cut-fits : FitsIn (drop at text) (first_token (at == 0) (drop at text)).len
  cut-fits = first_token-fits (at == 0) (drop at text) (IsUtf8-drop text at utf8 place) (omega (arith, length-drop at text))

  pub cut-length : length (cut text at).bytes ≡ (first_token (at == 0) (drop at text)).len
  unfolding cut
  cut-length = length-take-le (first_token (at == 0) (drop at text)).len (drop at text) cut-fits.border.0

  pub cut-is_token : IsTokenOf text at (cut text at)
  unfolding cut
  cut-is_token =
      let len = (first_token (at == 0) (drop at text)).len in
      let bytes : length (take len (drop at text)) ≡ len = length-take-le len (drop at text) cut-fits.border.0 in
      record {
        from = refl;
        some = (let some = cut-fits.some in omega arith);
        bytes = ap (λ n. take n (drop at text)) (let e : len ≡ at + length (take len (drop at text)) - at = omega arith in e);
        border = subst (λ n. IsPlace text n) (let e : at + len ≡ at + length (take len (drop at text)) = omega arith in e)
            (IsCharBoundary-from_rest text at len (omega arith) cut-fits.border);
      }
