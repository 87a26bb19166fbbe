-- The URI of what a word of the command line names.
use Rattle.std.specs.Prelude.{◌≡◌, ℕ, ◌-◌, ◌<◌, Bool, false, ◌==◌, ◌||◌, if◌then◌else◌, List, [], ◌∷◌, ◌++◌, length, take, codes}
use Rattle.std.specs.Char.{is_ascii_alphanumeric}
use Rattle.std.specs.List.{All, flat_map, slice_split}
use Rattle.std.specs.Str.{byte, bytes_eq}
use Rattle.percent_encoding.specs.Percent.{percent_encode_byte}
use Rattle.nx_host.specs.DiskPath.{NamesFromRoot}

-- ---- paths

abbrev pub is_slash : ℕ → Bool
is_slash b = b == byte "/"

-- the path that is meant by one that is written in this folder
abbrev pub joined_path : List ℕ → List ℕ → List ℕ
joined_path folder path = if bytes_eq (take 1 path) (codes "/") then path else folder ++ codes "/" ++ path

-- the piece of a path stays where it is: it is empty, as between two slashes, or a dot
abbrev pub stays : List ℕ → Bool
stays piece = length piece == 0 || bytes_eq piece (codes ".")

-- the names on the way from the root behind one more piece; two dots lead back to where the last name stands
unfoldable pub names_behind : List (List ℕ) → List ℕ → List (List ℕ)
names_behind names piece =
    if stays piece then names
    else (if bytes_eq piece (codes "..") then take (length names - 1) names
    else names ++ piece ∷ [])

unfoldable pub names_along : List (List ℕ) → List (List ℕ) → List (List ℕ)
names_along names [] = names
names_along names (piece ∷ pieces) = names_along (names_behind names piece) pieces

-- the names on the way from the root along a path, which is cut at its slashes
abbrev pub names_of : List ℕ → List (List ℕ)
names_of path = names_along [] (slice_split is_slash path)

-- the path of such names: each behind a slash, and the root alone is a slash
unfoldable pub path_of_names : List (List ℕ) → List ℕ
path_of_names [] = codes "/"
path_of_names (name ∷ names) = flat_map (λ (one : List ℕ). codes "/" ++ one) (name ∷ names)

-- the path from the root, without pieces that lead nowhere, of one that is written in this folder
abbrev pub plain_path : List ℕ → List ℕ → List ℕ
plain_path folder path = path_of_names (names_of (joined_path folder path))

-- ---- URIs

-- a byte that stands for itself in the path of a URI: RFC 3986, 2.3 (unreserved), and a slash
abbrev pub is_plain : ℕ → Bool
is_plain b = is_ascii_alphanumeric b || (b == byte "-" || (b == byte "." || (b == byte "_" || (b == byte "~" || is_slash b))))

-- how a byte is written in the path of a URI (RFC 3986, 2.1)
abbrev pub written : ℕ → List ℕ
written b = if is_plain b then b ∷ [] else percent_encode_byte b

-- the word is the text of a URI
abbrev pub is_uri : List ℕ → Bool
is_uri word = bytes_eq (take 5 word) (codes "file:")

-- the text of the URI that a word names in this folder: a path's, or the word itself
unfoldable pub uri_of_path : List ℕ → List ℕ → List ℕ
uri_of_path folder word = if is_uri word then word else codes "file://" ++ flat_map written (plain_path folder word)

-- ---- laws

abbrev pub AreBytes : List ℕ → Type 0
AreBytes bytes = All (λ b. b < 256) bytes

-- a word that is no URI comes to a URI that names, from the root, the path that was meant, and no other
pub record LeadsBack (folder word : List ℕ) : Type 0 where
  pub names : NamesFromRoot (uri_of_path folder word) (plain_path folder word)
  pub alone : (path : List ℕ) → NamesFromRoot (uri_of_path folder word) path → path ≡ plain_path folder word

abbrev pub PathUrisLeadBack : Type 0
PathUrisLeadBack = (folder word : List ℕ) → AreBytes folder → AreBytes word → is_uri word ≡ false → LeadsBack folder word
