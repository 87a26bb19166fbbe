-- The URI of a path leads back to it, and is ASCII.
use Rattle.std.proofs.Common.{◌≡◌, ◌≢◌, ℕ, ◌-◌, ◌<◌, Bool, true, false, cond, List, [], ◌∷◌, ◌++◌, length, take, codes, All, IsAscii, IsUtf8, refl, sym, ap, ◌∙◌, subst, arith}
use Rattle.std.proofs.lemmas.Bool.{cond-false, cond_both}
use Rattle.std.proofs.lemmas.Bool.Decides.{nat_tests}
use Rattle.std.proofs.lemmas.List.{append_cancel_left}
use Rattle.std.proofs.lemmas.List.Elements.{All-from_recursion, All-nil, All-cons, All-head, All-tail, All-append, All-push, All-take, All-weaker, All-contains}
use Rattle.std.proofs.lemmas.Str.{IsUtf8-from_ascii}
use Rattle.std.proofs.lemmas.Str.Ascii.{IsAscii-from_all}
use Rattle.std.specs.List.{flat_map, slice_split, onto_first}
use Rattle.std.specs.Str.{bytes_eq}
use Rattle.percent_encoding.specs.Percent.{percent_decode, percent_encode_byte}
use Rattle.percent_encoding.proofs.PercentLemmas.{IsByte, IsEscapeByte, All-percent_encode_byte, percent_decode-nil, percent_decode_not_percent, percent_decode-percent_encode_byte}
use Rattle.nx_host.specs.PathUri.{is_plain, written, is_uri, uri_of_path, plain_path, path_of_names, names_of, names_along, names_behind, joined_path, stays, is_slash, LeadsBack, PathUrisLeadBack}

-- ---- how bytes are written

-- ASCII, and neither `?` nor `#`
abbrev pub IsUriByte : ℕ → Type 0
IsUriByte b = (b < 128) × (b ≢ 63) × (b ≢ 35)

plain_small : (b : ℕ) → is_plain b ≡ true → b < 128
plain_small b plain = grind (arith, nat_tests)

not_plain : (b other : ℕ) → is_plain other ≡ false → is_plain b ≡ true → b ≢ other
not_plain b other needs plain same =
    let stands : is_plain other ≡ true = subst (λ x. is_plain x ≡ true) same plain in
    cc

escape_is_uri : (b : ℕ) → IsEscapeByte b → IsUriByte b
escape_is_uri b h = (grind arith, grind arith, grind arith)

written_is_uri : (b : ℕ) → All IsUriByte (written b)
written_is_uri b =
    cond_both (is_plain b) (b ∷ []) (percent_encode_byte b) (All IsUriByte)
    (λ plain. All-cons IsUriByte b [] (plain_small b plain, not_plain b 63 refl plain, not_plain b 35 refl plain) (All-nil IsUriByte))
    (λ needs. All-weaker IsEscapeByte IsUriByte escape_is_uri (percent_encode_byte b) (All-percent_encode_byte b))

all_written : (bytes : List ℕ) → All IsUriByte (flat_map written bytes)
all_written [] = All-nil IsUriByte
all_written (b ∷ bytes) = All-append IsUriByte (written b) (flat_map written bytes) (written_is_uri b) (all_written bytes)

decoded : (bytes : List ℕ) → All IsByte bytes → percent_decode (flat_map written bytes) ≡ bytes
decoded [] small = percent_decode-nil
decoded (b ∷ bytes) small =
    let rest = ap (λ (x : List ℕ). b ∷ x) (decoded bytes (All-tail IsByte b bytes small)) in
    cond_both (is_plain b) (b ∷ []) (percent_encode_byte b) (λ w. percent_decode (w ++ flat_map written bytes) ≡ b ∷ bytes)
    (λ plain. percent_decode_not_percent b (flat_map written bytes) (not_plain b 37 refl plain) ∙ rest)
    (λ needs. percent_decode-percent_encode_byte b (flat_map written bytes) (All-head IsByte b bytes small) ∙ rest)

-- ---- the bytes of a plain path are bytes

either : {A : Type 0} (P : A → Type 0) (b : Bool) (x y : A) → P x → P y → P (cond b x y)
either P true x y px py = px
either P false x y px py = py

abbrev AllOfBytes : List (List ℕ) → Type 0
AllOfBytes parts = All (All IsByte) parts

onto_bytes : (x : ℕ) (parts : List (List ℕ)) → IsByte x → AllOfBytes parts → AllOfBytes (onto_first x parts)
onto_bytes x [] small parts = All-cons (All IsByte) (x ∷ []) [] (All-cons IsByte x [] small (All-nil IsByte)) (All-nil (All IsByte))
onto_bytes x (part ∷ parts) small all =
    All-cons (All IsByte) (x ∷ part) parts (All-cons IsByte x part small (All-head (All IsByte) part parts all)) (All-tail (All IsByte) part parts all)

split_bytes : (p : ℕ → Bool) (xs : List ℕ) → All IsByte xs → AllOfBytes (slice_split p xs)
split_bytes p [] small = All-cons (All IsByte) [] [] (All-nil IsByte) (All-nil (All IsByte))
split_bytes p (x ∷ xs) small =
    let rest = split_bytes p xs (All-tail IsByte x xs small) in
    either AllOfBytes (p x) ([] ∷ slice_split p xs) (onto_first x (slice_split p xs))
    (All-cons (All IsByte) [] (slice_split p xs) (All-nil IsByte) rest)
    (onto_bytes x (slice_split p xs) (All-head IsByte x xs small) rest)

behind_bytes : (names : List (List ℕ)) (piece : List ℕ) → AllOfBytes names → All IsByte piece → AllOfBytes (names_behind names piece)
unfolding names_behind
behind_bytes names piece all small =
    either AllOfBytes (stays piece) names _ all
    (either AllOfBytes (bytes_eq piece (codes "..")) (take (length names - 1) names) (names ++ piece ∷ [])
    (All-take (All IsByte) (length names - 1) names all) (All-push (All IsByte) names piece all small))

along_bytes : (names pieces : List (List ℕ)) → AllOfBytes names → AllOfBytes pieces → AllOfBytes (names_along names pieces)
unfolding names_along
along_bytes names [] all pieces = all
along_bytes names (piece ∷ pieces) all parts =
    along_bytes (names_behind names piece) pieces (behind_bytes names piece all (All-head (All IsByte) piece pieces parts))
    (All-tail (All IsByte) piece pieces parts)

slash_small : All IsByte (codes "/")
slash_small = All-cons IsByte 47 [] (omega arith) (All-nil IsByte)

slashed_bytes : (names : List (List ℕ)) → AllOfBytes names → All IsByte (flat_map (λ (one : List ℕ). codes "/" ++ one) names)
slashed_bytes [] all = All-nil IsByte
slashed_bytes (name ∷ names) all =
    All-append IsByte (codes "/" ++ name) (flat_map (λ (one : List ℕ). codes "/" ++ one) names)
    (All-append IsByte (codes "/") name slash_small (All-head (All IsByte) name names all))
    (slashed_bytes names (All-tail (All IsByte) name names all))

path_bytes : (names : List (List ℕ)) → AllOfBytes names → All IsByte (path_of_names names)
unfolding path_of_names
path_bytes [] all = slash_small
path_bytes (name ∷ names) all = slashed_bytes (name ∷ names) all

plain_bytes : (folder word : List ℕ) → All IsByte folder → All IsByte word → All IsByte (plain_path folder word)
plain_bytes folder word folder_small word_small =
    path_bytes (names_of (joined_path folder word)) (along_bytes [] (slice_split is_slash (joined_path folder word)) (All-nil (All IsByte))
    (split_bytes is_slash (joined_path folder word)
    (either (All IsByte) (bytes_eq (take 1 word) (codes "/")) word (folder ++ codes "/" ++ word) word_small
    (All-append IsByte (folder ++ codes "/") word (All-append IsByte folder (codes "/") folder_small slash_small) word_small))))

-- ---- the way back

begins_at_root : (names : List (List ℕ)) → (rest : List ℕ) × (path_of_names names ≡ 47 ∷ rest)
unfolding path_of_names
begins_at_root [] = ([], refl)
begins_at_root (name ∷ names) = (name ++ flat_map (λ (one : List ℕ). codes "/" ++ one) names, refl)

leads_back_by : (folder word path rest : List ℕ) → is_uri word ≡ false → plain_path folder word ≡ path → path ≡ 47 ∷ rest → All IsByte path →
    LeadsBack folder word
unfolding uri_of_path
leads_back_by folder word path rest other is begins small =
    let bytes : All IsByte rest = All-tail IsByte 47 rest (subst (All IsByte) begins small) in
    let uri_is : uri_of_path folder word ≡ codes "file:///" ++ flat_map written rest =
    cond-false _ _ _ other ∙ ap (λ (p : List ℕ). codes "file://" ++ flat_map written p) (is ∙ begins) in
    let path_is : plain_path folder word ≡ codes "/" ++ percent_decode (flat_map written rest) =
    is ∙ begins ∙ ap (λ (r : List ℕ). 47 ∷ r) (sym (decoded rest bytes)) in
    record {
      names = (
        flat_map written rest,
        uri_is,
        (
          (λ has. (All-contains IsUriByte (flat_map written rest) 63 (all_written rest) has).1 refl),
          (λ has. (All-contains IsUriByte (flat_map written rest) 35 (all_written rest) has).2 refl),
        ),
        path_is,
      );
      alone = λ found (tail, tail_is, tail_alone, found_is).
          let same : tail ≡ flat_map written rest = append_cancel_left (codes "file:///") tail (flat_map written rest) (sym tail_is ∙ uri_is) in
          found_is ∙ ap (λ (r : List ℕ). codes "/" ++ percent_decode r) same ∙ sym path_is;
    }

pub paths_lead_back : PathUrisLeadBack
paths_lead_back folder word folder_small word_small other =
    let (rest, begins) = begins_at_root (names_of (joined_path folder word)) in
    leads_back_by folder word (plain_path folder word) rest other refl begins (plain_bytes folder word folder_small word_small)

-- ---- texts

pub path_is_ascii : (path : List ℕ) → IsAscii (codes "file://" ++ flat_map written path)
path_is_ascii path =
    IsAscii-from_all (codes "file://" ++ flat_map written path)
    (All-append (λ b. b < 128) (codes "file://") (flat_map written path) (scheme_small)
    (All-weaker IsUriByte (λ b. b < 128) (λ b h. h.0) (flat_map written path) (all_written path)))
  where
    scheme_small : All (λ b. b < 128) (codes "file://")
    scheme_small = All-from_recursion (λ b. b < 128) (codes "file://") (omega arith, (omega arith, (omega arith, (omega arith, (omega arith, (omega arith, (omega arith, tt)))))))

pub path_is_text : (path : List ℕ) → IsUtf8 (codes "file://" ++ flat_map written path)
path_is_text path = IsUtf8-from_ascii _ (path_is_ascii path)

-- ---- the walk along a path

pub along_more : (names : List (List ℕ)) (piece : List ℕ) (pieces : List (List ℕ)) →
    names_along names (piece ∷ pieces) ≡ names_along (names_behind names piece) pieces
unfolding names_along
along_more names piece pieces = refl

pub along_last : (names : List (List ℕ)) (piece : List ℕ) → names_along names (piece ∷ []) ≡ names_behind names piece
unfolding names_along
along_last names piece = refl
