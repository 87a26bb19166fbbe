-- What it means that a prefix was stripped from a URI, and which path is left.
use Rattle.std.proofs.Common.{◌≡◌, ◌≢◌, ℕ, true, false, List, ◌++◌, length, take, drop, codes, Option, Some, None, MatchOption, IsUtf8, Contains, ◌<◌, ◌∷◌, [], refl, sym, ap, subst, ◌∙◌, inl, inr, ⊎_elim, arith}
use Rattle.std.proofs.lemmas.Bool.{cases_Bool}
use Rattle.std.proofs.lemmas.List.Elements.{Contains-append_right}
use Rattle.std.proofs.lemmas.Str.{IsUtf8-append, IsUtf8-from_ascii, IsUtf8-past_char, encode_ascii}
use Rattle.std.proofs.lemmas.Str.Ascii.{IsAscii-cons, IsAscii-nil}
use Rattle.std.proofs.lemmas.List.{take-append-drop, append_cancel_left}
use Rattle.std.proofs.Math.Seq.{take-append_seam}
use Rattle.std.specs.Cmp.Lexicographic.{bytes_decides}
use Rattle.std.specs.Str.{bytes_eq}
use Rattle.percent_encoding.specs.Percent.{percent_decode}
use Rattle.nx_host.specs.Disk.{IsNowhere}
use Rattle.nx_host.specs.DiskPath.{IsPathAlone, NamesPath, NamesFromRoot}
use Rattle.nx_host.specs.DiskRoot.{IsPathFrom}
use Rattle.nx_host.specs.declared.disk_path.Start.{Start}
use Rattle.nx_host.specs.declared.disk_path.Start.TheVariants.{Work, Root}
use Rattle.percent_encoding.proofs.PercentLemmas.{percent_decode_not_percent}

-- a text that begins with the prefix is the prefix and the rest
pub stripped : (prefix text rest : List ℕ) → bytes_eq (take (length prefix) text) prefix ≡ true → rest ≡ drop (length prefix) text → text ≡ prefix ++ rest
stripped prefix text rest same is_rest =
    sym (take-append-drop (length prefix) text)
    ∙ ap (λ front. front ++ drop (length prefix) text) ((bytes_decides _ _).0 same)
    ∙ ap (λ back. prefix ++ back) (sym is_rest)

-- and one that doesn't isn't the prefix and some rest
pub not_stripped : (prefix text rest : List ℕ) → bytes_eq (take (length prefix) text) prefix ≡ false → text ≢ prefix ++ rest
not_stripped prefix text rest differs is =
    let same : take (length prefix) text ≡ prefix = ap (take (length prefix)) is ∙ take-append_seam prefix rest in
    let yes : bytes_eq (take (length prefix) text) prefix ≡ true = (bytes_decides _ _).1 same in
    cc

-- what `path_below` found, and what `path_of` says of it
abbrev pub Below : {S : Type 0} → (S → List ℕ) → List ℕ → List ℕ → Option S → Type 0
Below bytes_of rest path named = MatchOption named (IsPathAlone rest → ¬ IsUtf8 path) (λ text. IsPathAlone rest × (bytes_of text ≡ path))

abbrev pub Named : {S : Type 0} → (S → List ℕ) → List ℕ → Option S → Type 0
Named bytes_of uri named = MatchOption named ((path : List ℕ) → NamesPath uri path → ¬ IsUtf8 path) (λ text. NamesPath uri (bytes_of text))

-- and `rooted_path`
abbrev pub RootNamed : {S : Type 0} → (S → List ℕ) → List ℕ → Option S → Type 0
RootNamed bytes_of uri named = MatchOption named ((path : List ℕ) → NamesFromRoot uri path → ¬ IsUtf8 path) (λ text. NamesFromRoot uri (bytes_of text))

module _ {S : Type 0} (bytes_of : S → List ℕ) where
  -- a URI in the folder of the work
  pub named_in_work : (uri rest : List ℕ) → uri ≡ codes "file:///work/" ++ rest → (named : Option S) → Below bytes_of rest (codes "./" ++ percent_decode rest) named → Named bytes_of uri named
  named_in_work uri rest is (Some text) (alone, same) = inl (rest, is, alone, same)
  named_in_work uri rest is None none = λ path names text. let (alone, same) = only path names in none alone (subst IsUtf8 same text)
    where
      only : (path : List ℕ) → NamesPath uri path → IsPathAlone rest × (path ≡ codes "./" ++ percent_decode rest)
      only path (inl (other, other_is, alone, path_is)) =
          let e : other ≡ rest = append_cancel_left (codes "file:///work/") other rest (sym other_is ∙ is) in
          (subst IsPathAlone e alone, path_is ∙ ap (λ r. codes "./" ++ percent_decode r) e)
      only path (inr (outside, _)) = absurd (outside rest is)

  -- a URI elsewhere
  pub named_elsewhere : (uri rest : List ℕ) → ((inner : List ℕ) → uri ≢ codes "file:///work/" ++ inner) → uri ≡ codes "file:///" ++ rest → (named : Option S) → Below bytes_of rest (codes "/" ++ percent_decode rest) named → Named bytes_of uri named
  named_elsewhere uri rest outside is (Some text) (alone, same) = inr (outside, (rest, is, alone, same))
  named_elsewhere uri rest outside is None none = λ path names text. let (alone, same) = only path names in none alone (subst IsUtf8 same text)
    where
      only : (path : List ℕ) → NamesPath uri path → IsPathAlone rest × (path ≡ codes "/" ++ percent_decode rest)
      only path (inl (inner, inner_is, _, _)) = absurd (outside inner inner_is)
      only path (inr (_, (other, other_is, alone, path_is))) =
          let e : other ≡ rest = append_cancel_left (codes "file:///") other rest (sym other_is ∙ is) in
          (subst IsPathAlone e alone, path_is ∙ ap (λ r. codes "/" ++ percent_decode r) e)

  -- a URI of the disk that is seen from its root
  pub named_from_root : (uri rest : List ℕ) → uri ≡ codes "file:///" ++ rest → (named : Option S) → Below bytes_of rest (codes "/" ++ percent_decode rest) named →
      RootNamed bytes_of uri named
  named_from_root uri rest is (Some text) (alone, same) = (rest, is, alone, same)
  named_from_root uri rest is None none = λ path (other, other_is, alone, path_is) text.
      let e : other ≡ rest = append_cancel_left (codes "file:///") other rest (sym other_is ∙ is) in
      none (subst IsPathAlone e alone) (subst IsUtf8 (path_is ∙ ap (λ r. codes "/" ++ percent_decode r) e) text)

-- ---- a URI that leads somewhere from the root isn't nowhere

-- what is below a folder of this name is decoded behind its name
work_stays : (rest : List ℕ) → percent_decode (codes "work/" ++ rest) ≡ codes "work/" ++ percent_decode rest
work_stays rest =
    percent_decode_not_percent 119 (codes "ork/" ++ rest) (λ e. cc)
    ∙ ap (λ (r : List ℕ). 119 ∷ r) (percent_decode_not_percent 111 (codes "rk/" ++ rest) (λ e. cc)
    ∙ ap (λ (r : List ℕ). 111 ∷ r) (percent_decode_not_percent 114 (codes "k/" ++ rest) (λ e. cc)
    ∙ ap (λ (r : List ℕ). 114 ∷ r) (percent_decode_not_percent 107 (codes "/" ++ rest) (λ e. cc)
    ∙ ap (λ (r : List ℕ). 107 ∷ r) (percent_decode_not_percent 47 rest (λ e. cc)))))

-- what stands behind an ASCII character of a text is one
past : (b : ℕ) (bytes : List ℕ) → IsUtf8 (b ∷ bytes) → b < 128 → IsUtf8 bytes
past b bytes whole small = IsUtf8-past_char (b ∷ bytes) bytes b whole (ap (λ (c : List ℕ). c ++ bytes) (sym (encode_ascii b small)))

-- text stays text where another folder is put before it
refoldered : (rest : List ℕ) → IsUtf8 (codes "/work/" ++ rest) → IsUtf8 (codes "./" ++ rest)
refoldered rest text =
    IsUtf8-append (codes "./") rest (IsUtf8-from_ascii (codes "./") (IsAscii-cons 46 (47 ∷ []) (omega arith) (IsAscii-cons 47 [] (omega arith) IsAscii-nil)))
    (past 47 rest (past 107 (codes "/" ++ rest) (past 114 (codes "k/" ++ rest) (past 111 (codes "rk/" ++ rest) (past 119 (codes "ork/" ++ rest)
    (past 47 (codes "work/" ++ rest) text (omega arith)) (omega arith)) (omega arith)) (omega arith)) (omega arith)) (omega arith))

-- where the rest of the URI begins with that folder, and where it doesn't
below_work : (uri path rest inner : List ℕ) → uri ≡ codes "file:///" ++ rest → rest ≡ codes "work/" ++ inner → IsPathAlone rest →
    path ≡ codes "/" ++ percent_decode rest → IsUtf8 path → IsNowhere uri → ⊥
below_work uri path rest inner is begins alone path_is text nowhere =
    let whole : IsUtf8 (codes "/work/" ++ percent_decode inner) =
    subst IsUtf8 (path_is ∙ ap (λ (r : List ℕ). codes "/" ++ percent_decode r) begins ∙ ap (λ (r : List ℕ). codes "/" ++ r) (work_stays inner)) text in
    nowhere (codes "./" ++ percent_decode inner)
    (inl (
      inner,
      is ∙ ap (λ (r : List ℕ). codes "file:///" ++ r) begins,
      (
        (λ has. alone.0 (subst (λ (r : List ℕ). Contains r 63) (sym begins) (Contains-append_right (codes "work/") inner 63 has))),
        (λ has. alone.1 (subst (λ (r : List ℕ). Contains r 35) (sym begins) (Contains-append_right (codes "work/") inner 35 has))),
      ),
      refl,
    ))
    (refoldered (percent_decode inner) whole)

elsewhere : (uri path rest : List ℕ) → uri ≡ codes "file:///" ++ rest → bytes_eq (take 5 rest) (codes "work/") ≡ false → IsPathAlone rest →
    path ≡ codes "/" ++ percent_decode rest → IsUtf8 path → IsNowhere uri → ⊥
elsewhere uri path rest is other alone path_is text nowhere =
    nowhere path (inr (
      (λ inner inner_is. not_stripped (codes "work/") rest inner other
          (append_cancel_left (codes "file:///") rest (codes "work/" ++ inner) (sym is ∙ inner_is))),
      (rest, is, alone, path_is),
    )) text

pub leads_somewhere : (start : Start) (uri path : List ℕ) → IsPathFrom start uri (Some path) → IsUtf8 path → IsNowhere uri → ⊥
leads_somewhere Work uri path names text nowhere = nowhere path names text
leads_somewhere Root uri path (rest, is, alone, path_is) text nowhere =
    ⊎_elim
    (λ begins. below_work uri path rest (drop 5 rest) is (stripped (codes "work/") rest (drop 5 rest) begins refl) alone path_is text nowhere)
    (λ other. elsewhere uri path rest is other alone path_is text nowhere)
    (cases_Bool (bytes_eq (take 5 rest) (codes "work/")))
