-- Texts that patterns make.
use Rattle.std.proofs.Common.{◌≡◌, refl, sym, ap, ◌∙◌, subst, ℕ, suc, ◌+◌, ◌-◌, ◌<◌, ◌≤◌, Bool, true, false, cond, eqb, List, [], ◌∷◌, ◌++◌, length, take, drop, get_or, Option, Some, None, arith, append_assoc, append-nil, drop-cons, length-append, ltb, lt-ltb, not, ◌&&◌, Result, Ok, Err, IfOk, IsUtf8, IsAscii}
use Rattle.std.specs.List.{AllByRecursion}
use Rattle.std.specs.Prelude.{reverse, IsCharBoundary}
use Rattle.std.proofs.lemmas.Grind.{common_steps}
use Rattle.std.proofs.Math.Seq.{get_or-append_seam, take-append_seam, drop-append_seam, drop-append-add}
use Rattle.std.proofs.lemmas.Bool.{false≢true}
use Rattle.std.proofs.lemmas.List.{get_or-reverse, length-reverse, take-append-drop}
use Rattle.std.specs.Char.{is_ascii_alphabetic}
use Rattle.std.specs.Cmp.Lexicographic.{bytes_decides}
use Rattle.std.specs.List.{prefix_len}
use Rattle.std.specs.Str.{bytes_eq}
use Rattle.std.proofs.lemmas.List.Sums.{prefix_len_stops}
use Rattle.std.proofs.lemmas.Str.{IsUtf8-nil, IsUtf8-append, IsUtf8-take, IsUtf8-drop, IsUtf8-from_ascii, IsCharBoundary-before_ascii, IsCharBoundary-after_ascii, IsAscii-take, IsAscii-drop}
use Rattle.nx_locate.specs.Patterns.{Fits, fit_end, fit_byte, fit_star, Matches, match_end, match_byte, match_star, PatternFits, fits_name, fits_whole, fits_in_folder, name_len, folder_len, folder_of, file_name_of, has_slash, has_scheme, is_colon_at, CanMatch, filled, made_in, made_text}
use Rattle.nx_locate.specs.Making.{filled_by, runs_behind, HasPatternRuns}
use Rattle.nx_locate.specs.Running.{HasRuns}

-- ---- filling

pub filled_step : (b : ℕ) (pattern : List ℕ) (runs : List (List ℕ)) →
    filled (b ∷ pattern) runs ≡ filled_by b runs ++ filled pattern (runs_behind b runs)
unfolding filled
filled_step b pattern [] = refl
filled_step b pattern (run ∷ runs) = by (eqb b 42)
  where
    by : (star : Bool) → cond star (run ++ filled pattern runs) (b ∷ filled pattern (run ∷ runs)) ≡
        cond star run (b ∷ []) ++ filled pattern (cond star runs (run ∷ runs))
    by true = refl
    by false = refl

-- ---- runs are texts

abbrev AreAscii : List (List ℕ) → Type 0
AreAscii runs = AllByRecursion (λ (run : List ℕ). IsAscii run) runs

ascii_front : (xs ys zs : List ℕ) → zs ≡ xs ++ ys → IsAscii zs → IsAscii xs
ascii_front xs ys zs is h =
    subst (λ u. IsAscii u) (ap (take (length xs)) is ∙ take-append_seam xs ys) (IsAscii-take zs (length xs) h)

ascii_back : (xs ys zs : List ℕ) → zs ≡ xs ++ ys → IsAscii zs → IsAscii ys
ascii_back xs ys zs is h =
    subst (λ u. IsAscii u) (ap (drop (length xs)) is ∙ drop-append_seam xs ys) (IsAscii-drop zs (length xs) h)

runs_ascii : {pattern text : List ℕ} {runs : List (List ℕ)} → Fits pattern text runs → IsAscii text → AreAscii runs
runs_ascii fit_end h = tt
runs_ascii (fit_byte {b = b} {text = text} ne fits) h = runs_ascii fits (ascii_back (b ∷ []) text (b ∷ text) refl h)
runs_ascii (fit_star {text = text} {rest = rest} {run = run} is_run same fits shortest) h =
    (ascii_front run rest text same h, runs_ascii fits (ascii_back run rest text same h))

pattern_runs_ascii : {base document pattern : List ℕ} {runs : List (List ℕ)} → PatternFits base document pattern runs → IsAscii document →
    AreAscii runs
pattern_runs_ascii {base} {document} (fits_name none fits) h = runs_ascii fits (IsAscii-drop document (folder_len document) h)
pattern_runs_ascii (fits_whole some scheme fits) h = runs_ascii fits h
pattern_runs_ascii {base} {document} (fits_in_folder {rest = rest} some none same fits) h =
    runs_ascii fits (ascii_back (folder_of base) rest document same h)

-- ---- what is made is text

-- what stands before and behind a star
star_parts : (front pattern : List ℕ) → IsUtf8 (front ++ 42 ∷ pattern) → IsUtf8 front × IsUtf8 pattern
star_parts front pattern h =
    let whole : List ℕ = front ++ 42 ∷ pattern in
    let here : get_or whole (length front) 0 ≡ 42 = get_or-append_seam front 42 pattern 0 in
    let small : get_or whole (length front) 0 < 128 = omega (arith, here) in
    let inside : length front < length whole = grind (arith, length-append) in (
      subst (λ xs. IsUtf8 xs) (take-append_seam front (42 ∷ pattern))
          (IsUtf8-take whole (length front) h (IsCharBoundary-before_ascii whole (length front) inside small)),
      subst (λ xs. IsUtf8 xs) (drop-append-add front (42 ∷ pattern) 1)
          (IsUtf8-drop whole (length front + 1) h (IsCharBoundary-after_ascii whole (length front) h inside small)),
    )

-- behind a front that may end inside of a character
filled_text : (front pattern : List ℕ) (runs : List (List ℕ)) → IsUtf8 (front ++ pattern) → AreAscii runs → IsUtf8 (front ++ filled pattern runs)
unfolding filled
filled_text front [] runs h ascii = h
filled_text front (b ∷ pattern) [] h ascii =
    subst (λ xs. IsUtf8 xs) (append_assoc front (b ∷ []) (filled pattern []))
    (filled_text (front ++ b ∷ []) pattern [] (subst (λ xs. IsUtf8 xs) (sym (append_assoc front (b ∷ []) pattern)) h) tt)
filled_text front (b ∷ pattern) (run ∷ runs) h ascii =
    by (eqb b 42) refl
    (filled_text (front ++ b ∷ []) pattern (run ∷ runs) (subst (λ xs. IsUtf8 xs) (sym (append_assoc front (b ∷ []) pattern)) h) ascii)
    (λ rest. filled_text [] pattern runs rest ascii.1)
  where
    at_star : b ≡ 42 → IsUtf8 front × IsUtf8 pattern
    at_star star = star_parts front pattern (subst (λ x. IsUtf8 (front ++ x ∷ pattern)) star h)

    by : (star : Bool) → eqb b 42 ≡ star → IsUtf8 ((front ++ b ∷ []) ++ filled pattern (run ∷ runs)) →
        (IsUtf8 pattern → IsUtf8 (filled pattern runs)) →
        IsUtf8 (front ++ cond star (run ++ filled pattern runs) (b ∷ filled pattern (run ∷ runs)))
    by true e byte rest =
        let parts = at_star (grind (arith, e)) in
        IsUtf8-append front (run ++ filled pattern runs) parts.0
        (IsUtf8-append run (filled pattern runs) (IsUtf8-from_ascii run ascii.0) (rest parts.1))
    by false e byte rest = subst (λ xs. IsUtf8 xs) (append_assoc front (b ∷ []) (filled pattern (run ∷ runs))) byte

slash_of : (b : ℕ) → not (eqb b 47) ≡ false → b ≡ 47
slash_of b h = by (eqb b 47) refl h
  where
    by : (same : Bool) → eqb b 47 ≡ same → not same ≡ false → b ≡ 47
    by true e n = grind (arith, e)
    by false e n = let never : ⊥ = cc in absurd never

-- a folder ends behind a slash
folder_text : (uri : List ℕ) → IsUtf8 uri → IsUtf8 (folder_of uri)
folder_text uri h = by (ltb (name_len uri) (length uri)) refl
  where
    by : (some : Bool) → ltb (name_len uri) (length uri) ≡ some → IsUtf8 (folder_of uri)
    by false e =
        let none : folder_len uri ≡ 0 = grind (arith, e) in
        subst (λ n. IsUtf8 (take n uri)) (sym none) IsUtf8-nil
    by true e =
        let less : name_len uri < length uri = grind (arith, e) in
        let at : ℕ = length uri - 1 - name_len uri in
        let less_there : name_len uri < length (reverse uri) = grind (arith, length-reverse, e) in
        let stops : not (eqb (get_or (reverse uri) (name_len uri) 0) 47) ≡ false =
        prefix_len_stops (λ b. not (eqb b 47)) (reverse uri) 0 less_there in
        let here : get_or (reverse uri) (name_len uri) 0 ≡ get_or uri at 0 = get_or-reverse uri (name_len uri) 0 less in
        let slash : get_or uri at 0 ≡ 47 = slash_of (get_or uri at 0) (ap (λ b. not (eqb b 47)) (sym here) ∙ stops) in
        let same : at + 1 ≡ folder_len uri = omega (arith, less) in
        IsUtf8-take uri (folder_len uri) h (subst (λ n. IsCharBoundary uri n) same
        (IsCharBoundary-after_ascii uri at h (omega (arith, less)) (omega (arith, slash))))

pub made_is_text : (base document from to : List ℕ) (runs : List (List ℕ)) → PatternFits base document from runs → IsAscii document →
    IsUtf8 base → IsUtf8 to → IsUtf8 (made_text base document to runs)
unfolding made_in
made_is_text base document from to runs fits ascii hb ht =
    IsUtf8-append (made_in base document to) (filled to runs) (by (has_slash to) (has_scheme to))
    (filled_text [] to runs ht (pattern_runs_ascii fits ascii))
  where
    by : (slash scheme : Bool) → IsUtf8 (cond slash (cond scheme [] (folder_of base)) (folder_of document))
    by true true = IsUtf8-nil
    by true false = folder_text base hb
    by false scheme = folder_text document (IsUtf8-from_ascii document ascii)

-- ---- the loop that fills

pub fill_more : (pattern : List ℕ) (i : ℕ) (left rest : List (List ℕ)) (old new all : List ℕ) → i < length pattern →
    new ≡ old ++ filled_by (get_or pattern i 0) left → rest ≡ runs_behind (get_or pattern i 0) left →
    old ++ filled (drop i pattern) left ≡ all → new ++ filled (drop (i + 1) pattern) rest ≡ all
fill_more pattern i left rest old new all inside pushed behind inv =
    let b : ℕ = get_or pattern i 0 in
    let next : suc i ≡ i + 1 = omega arith in
    let here : drop i pattern ≡ b ∷ drop (i + 1) pattern = drop-cons pattern i 0 inside ∙ ap (λ k. b ∷ drop k pattern) next in
    rw (pushed, behind) (append_assoc old (filled_by b left) (filled (drop (i + 1) pattern) (runs_behind b left))
    ∙ ap (λ xs. old ++ xs) (sym (ap (λ p. filled p left) here ∙ filled_step b (drop (i + 1) pattern) left)) ∙ inv)

pub fill_whole : (pattern : List ℕ) (i : ℕ) (left : List (List ℕ)) (out all : List ℕ) → length pattern ≤ i →
    out ++ filled (drop i pattern) left ≡ all → out ≡ all
unfolding filled
fill_whole pattern i left out all past inv =
    let none : drop i pattern ≡ [] = grind (arith, common_steps) in
    sym (append-nil out) ∙ ap (λ p. out ++ filled p left) (sym none) ∙ inv

-- ---- runs of a rules file's pattern

fits_match : {pattern text : List ℕ} {runs : List (List ℕ)} → Fits pattern text runs → Matches pattern text runs
fits_match fit_end = match_end
fits_match (fit_byte ne fits) = match_byte ne (fits_match fits)
fits_match (fit_star is_run same fits shortest) = match_star is_run same (fits_match fits)

module _ (base document pattern : List ℕ) where
  no_name_runs : has_slash pattern ≡ false → (CanMatch pattern (file_name_of document) → ⊥) → (runs : List (List ℕ)) →
      PatternFits base document pattern runs → ⊥
  no_name_runs slash h runs (fits_name none fits) = h (runs, fits_match fits)
  no_name_runs slash h runs (fits_whole some scheme fits) = let never : ⊥ = cc in never
  no_name_runs slash h runs (fits_in_folder some scheme same fits) = let never : ⊥ = cc in never

  pub name_runs : (found : Option (List (List ℕ))) → has_slash pattern ≡ false → HasRuns pattern (file_name_of document) found →
      HasPatternRuns base document pattern found
  name_runs None slash h = no_name_runs slash h
  name_runs (Some found) slash h = fits_name slash h

  no_whole_runs : has_slash pattern ≡ true → has_scheme pattern ≡ true → (CanMatch pattern document → ⊥) → (runs : List (List ℕ)) →
      PatternFits base document pattern runs → ⊥
  no_whole_runs slash is_scheme h runs (fits_name none fits) = let never : ⊥ = cc in never
  no_whole_runs slash is_scheme h runs (fits_whole some scheme fits) = h (runs, fits_match fits)
  no_whole_runs slash is_scheme h runs (fits_in_folder some scheme same fits) = let never : ⊥ = cc in never

  pub whole_runs : (found : Option (List (List ℕ))) → has_slash pattern ≡ true → has_scheme pattern ≡ true → HasRuns pattern document found →
      HasPatternRuns base document pattern found
  whole_runs None slash is_scheme h = no_whole_runs slash is_scheme h
  whole_runs (Some found) slash is_scheme h = fits_whole slash is_scheme h

  no_folder_runs : (rest : List ℕ) → has_slash pattern ≡ true → has_scheme pattern ≡ false → document ≡ folder_of base ++ rest →
      (CanMatch pattern rest → ⊥) → (runs : List (List ℕ)) → PatternFits base document pattern runs → ⊥
  no_folder_runs rest slash no_scheme is h runs (fits_name none fits) = let never : ⊥ = cc in never
  no_folder_runs rest slash no_scheme is h runs (fits_whole some scheme fits) = let never : ⊥ = cc in never
  no_folder_runs rest slash no_scheme is h runs (fits_in_folder {rest = other} some scheme same fits) =
      let rests : other ≡ rest =
      sym (drop-append_seam (folder_of base) other) ∙ ap (drop (length (folder_of base))) (sym same ∙ is)
      ∙ drop-append_seam (folder_of base) rest in
      h (runs, fits_match (subst (λ x. Fits pattern x runs) rests fits))

  pub folder_runs : (found : Option (List (List ℕ))) (rest : List ℕ) → has_slash pattern ≡ true → has_scheme pattern ≡ false →
      document ≡ folder_of base ++ rest → HasRuns pattern rest found → HasPatternRuns base document pattern found
  folder_runs None rest slash no_scheme is h = no_folder_runs rest slash no_scheme is h
  folder_runs (Some found) rest slash no_scheme is h = fits_in_folder slash no_scheme is h

  pub no_folder : has_slash pattern ≡ true → has_scheme pattern ≡ false → ((rest : List ℕ) → document ≡ folder_of base ++ rest → ⊥) →
      HasPatternRuns base document pattern None
  no_folder slash no_scheme none runs (fits_name never_slash fits) = let never : ⊥ = cc in never
  no_folder slash no_scheme none runs (fits_whole some scheme fits) = let never : ⊥ = cc in never
  no_folder slash no_scheme none runs (fits_in_folder {rest = rest} some scheme same fits) = none rest same

-- what stands behind a folder, by a comparison of bytes
pub behind_folder : (folder is document rest : List ℕ) → folder ≡ is → bytes_eq (take (length folder) document) folder ≡ true →
    rest ≡ drop (length folder) document → document ≡ is ++ rest
behind_folder folder is document rest folder_is same rest_is =
    sym (take-append-drop (length folder) document)
    ∙ ap (λ xs. xs ++ drop (length folder) document) ((bytes_decides (take (length folder) document) folder).0 same)
    ∙ ap (λ xs. folder ++ xs) (sym rest_is) ∙ ap (λ xs. xs ++ rest) folder_is

pub not_behind : (folder is document : List ℕ) → folder ≡ is → bytes_eq (take (length folder) document) folder ≡ false →
    (rest : List ℕ) → document ≡ is ++ rest → ⊥
not_behind folder is document folder_is other rest same =
    let front : take (length folder) document ≡ folder =
    ap (take (length folder)) (same ∙ ap (λ xs. xs ++ rest) (sym folder_is)) ∙ take-append_seam folder rest in
    false≢true (sym other ∙ (bytes_decides (take (length folder) document) folder).1 front)

-- the same by what slices hold
pub runs_are : (b base d document p pattern : List ℕ) (f found : Option (List (List ℕ))) → b ≡ base → d ≡ document → p ≡ pattern →
    f ≡ found → HasPatternRuns b d p f → HasPatternRuns base document pattern found
runs_are b base d document p pattern f found hb hd hp hf h =
    subst (λ x. HasPatternRuns x document pattern found) hb (subst (λ x. HasPatternRuns b x pattern found) hd
    (subst (λ x. HasPatternRuns b d x found) hp (subst (λ x. HasPatternRuns b d p x) hf h)))

pub ok_with : {A E : Type 0} (P Q : A → Type 0) (result : Result A E) → ((x : A) → P x → Q x) → IfOk result P → IfOk result Q
ok_with P Q (Ok x) f h = f x h
ok_with P Q (Err e) f h = tt

pub scheme_by : (pattern : List ℕ) (n : ℕ) (r : Bool) → n ≡ prefix_len is_ascii_alphabetic pattern → 0 < n → r ≡ is_colon_at pattern n →
    r ≡ has_scheme pattern
unfolding has_scheme
scheme_by pattern n r is some colon =
    colon ∙ rw (sym is) (sym (ap (λ b. b && is_colon_at pattern n) (lt-ltb 0 n some)))

pub made_are : (b base d document t to : List ℕ) (runs : List (List ℕ)) (made : List ℕ) → b ≡ base → d ≡ document → t ≡ to →
    made ≡ made_text b d t runs → made ≡ made_text base document to runs
made_are b base d document t to runs made hb hd ht h =
    subst (λ x. made ≡ made_text x document to runs) hb (subst (λ x. made ≡ made_text b x to runs) hd
    (subst (λ x. made ≡ made_text b d x runs) ht h))
