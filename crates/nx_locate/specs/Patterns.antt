-- Patterns of URIs. In a pattern each `*` stands for any run without `/`, the shortest from the left that lets the rest match.
use Rattle.std.specs.Prelude.{◌≡◌, ◌≢◌, ◌<◌, ◌-◌, Bool, true, false, not, ◌&&◌, ◌==◌, nat_lt, if◌then◌else◌, List, [], ◌∷◌, ◌++◌, ℕ, suc, length, take, drop}
use Rattle.std.specs.Prelude.{slice_get, count_by, Option, Some, None}
use Rattle.std.specs.Char.{is_ascii_alphabetic}
use Rattle.std.specs.List.{list_any, prefix_len, suffix_len}

-- ---- stars

-- a slash (47) stands in it
abbrev pub has_slash : List ℕ → Bool
has_slash bytes = list_any (λ b. b == 47) bytes

abbrev pub IsRun : List ℕ → Type 0
IsRun run = has_slash run ≡ false

-- the text is the pattern with each star (42) replaced by its run
pub data Matches : List ℕ → List ℕ → List (List ℕ) → Type 0 where
  match_end : Matches [] [] []
  match_byte : {b : ℕ} {pattern text : List ℕ} {runs : List (List ℕ)} → b ≢ 42 → Matches pattern text runs →
      Matches (b ∷ pattern) (b ∷ text) runs
  match_star : {pattern text rest run : List ℕ} {runs : List (List ℕ)} → IsRun run → text ≡ run ++ rest → Matches pattern rest runs →
      Matches (42 ∷ pattern) text (run ∷ runs)

abbrev pub CanMatch : List ℕ → List ℕ → Type 0
CanMatch pattern text = (runs : List (List ℕ)) × Matches pattern text runs

-- so it is, and each run, from the left, is the shortest with which what follows can match
pub data Fits : List ℕ → List ℕ → List (List ℕ) → Type 0 where
  fit_end : Fits [] [] []
  fit_byte : {b : ℕ} {pattern text : List ℕ} {runs : List (List ℕ)} → b ≢ 42 → Fits pattern text runs →
      Fits (b ∷ pattern) (b ∷ text) runs
  fit_star : {pattern text rest run : List ℕ} {runs : List (List ℕ)} → IsRun run → text ≡ run ++ rest → Fits pattern rest runs →
      ((shorter more : List ℕ) → text ≡ shorter ++ more → length shorter < length run → ¬ CanMatch pattern more) →
      Fits (42 ∷ pattern) text (run ∷ runs)

-- ---- the folder and the name of a URI

-- how many bytes follow the last slash, and how many there are up to it, with it
abbrev pub name_len : List ℕ → ℕ
name_len uri = suffix_len (λ b. not (b == 47)) uri

abbrev pub folder_len : List ℕ → ℕ
folder_len uri = length uri - name_len uri

-- the URI up to its last slash, with it, and what follows that
abbrev pub folder_of : List ℕ → List ℕ
folder_of uri = take (folder_len uri) uri

abbrev pub file_name_of : List ℕ → List ℕ
file_name_of uri = drop (folder_len uri) uri

-- a colon (58) stands at that place
abbrev pub is_colon_there : Option ℕ → Bool
is_colon_there None = false
is_colon_there (Some b) = b == 58

abbrev pub is_colon_at : List ℕ → ℕ → Bool
is_colon_at pattern at = is_colon_there (slice_get pattern at)

-- ASCII letters, one or more, and a colon stand at the front
unfoldable pub has_scheme : List ℕ → Bool
has_scheme pattern =
    let letters = prefix_len is_ascii_alphabetic pattern in nat_lt 0 letters && is_colon_at pattern letters

-- ---- patterns of a rules file

-- The pattern of a rules file with the URI `base` fits the document's URI. Without a slash it is held against what follows the
-- last slash, with one against the whole, behind the rules file's folder unless it has a scheme.
pub data PatternFits (base document pattern : List ℕ) (runs : List (List ℕ)) : Type 0 where
  fits_name : has_slash pattern ≡ false → Fits pattern (file_name_of document) runs → PatternFits base document pattern runs
  fits_whole : has_slash pattern ≡ true → has_scheme pattern ≡ true → Fits pattern document runs → PatternFits base document pattern runs
  fits_in_folder : {rest : List ℕ} → has_slash pattern ≡ true → has_scheme pattern ≡ false → document ≡ folder_of base ++ rest →
      Fits pattern rest runs → PatternFits base document pattern runs

-- ---- the URI that is made of a document's

-- how many stars there are
abbrev pub stars : List ℕ → ℕ
stars pattern = count_by (λ b. b == 42) pattern

-- each star is replaced by its run
unfoldable pub filled : List ℕ → List (List ℕ) → List ℕ
filled [] runs = []
filled (b ∷ pattern) [] = b ∷ filled pattern []
filled (b ∷ pattern) (run ∷ runs) = if b == 42 then run ++ filled pattern runs else b ∷ filled pattern (run ∷ runs)

-- What stands before the text that a pattern makes: the document's folder where the pattern has no slash, otherwise nothing where
-- it has a scheme, and the rules file's folder where it has none.
unfoldable pub made_in : List ℕ → List ℕ → List ℕ → List ℕ
made_in base document to =
    if has_slash to then (if has_scheme to then [] else folder_of base) else folder_of document

abbrev pub made_text : List ℕ → List ℕ → List ℕ → List (List ℕ) → List ℕ
made_text base document to runs = made_in base document to ++ filled to runs
