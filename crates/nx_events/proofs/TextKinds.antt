-- What the kind of a token says of its first bytes, where the token is UTF-8.
use Rattle.std.proofs.Common.{◌≡◌, ℕ, zero, suc, ◌+◌, ◌-◌, ◌<◌, Bool, true, false, cond, inl, inr, Option, Some, None, List, [], ◌∷◌, ◌++◌, length, take, drop, get_or, refl, ap, sym, subst, ◌∙◌, arith, codes}
use Rattle.std.specs.Prelude.{◌==◌, ◌&&◌}
use Rattle.std.specs.Option.{option_map, option_map_or}
use Rattle.std.specs.Str.{IsUtf8, chars}
use lib.Utf8.{encode, encodes, scalar, scalars}
use Rattle.std.proofs.lemmas.Bool.{cases_Bool, and_parts, eqb-true}
use Rattle.std.proofs.lemmas.Str.{chars_past_char, chars_from_encodes, encode_ascii}
use Rattle.nx_base.specs.Form.{never, spells, shortest_front}
use Rattle.nx_base.specs.Tags.{start_form, empty_form, end_form}
use Rattle.nx_base.specs.Rules.{lexeme_of, IsLexeme}
use Rattle.nx_base.specs.Tokens.{Cut, cut_as, begins_with, bytes_before, bytes_up_to, unclosed, closed, doctype, doctype_bytes, begins_declaration, instruction, tags, bad, tag_or, tag, markup, order_mark, first_token}
use Rattle.nx_base.specs.declared.token.Token.{Token}
use Rattle.nx_base.specs.declared.token.TokenKind.{TokenKind}
use Rattle.nx_base.specs.declared.token.TokenKind.TheVariants as kinds
use Rattle.nx_events.proofs.Texts.{test_is, behind, up_to}

-- what is said of a token's bytes by its kind and length
abbrev pub HasContent : List ℕ → TokenKind → ℕ → Type 0
HasContent bs kinds.Start n = IsUtf8 (drop 1 bs)
HasContent bs kinds.Empty n = IsUtf8 (drop 1 bs)
HasContent bs kinds.End n = IsUtf8 (drop 2 bs)
HasContent bs kinds.Cdata n = IsUtf8 (take (n - 12) (drop 9 bs))
HasContent bs _ n = Unit {0}

abbrev Has : List ℕ → Cut → Type 0
Has bs c = HasContent bs c.kind c.len

pub found_is : {A : Type 0} (P : Cut → Type 0) (f : A → Cut) (found : Option A) (other : Cut) → ((x : A) → found ≡ Some x → P (f x)) → P other →
    P (option_map_or f found other)
found_is P f None other h k = k
found_is P f (Some x) other h k = h x refl

-- marks
mark_reads : (mark bs : List ℕ) (k : ℕ) → begins_with mark bs ≡ true → k < length mark → (k < length bs) × (get_or bs k 0 ≡ get_or mark k 0)
unfolding begins_with
mark_reads [] bs k h lt = absurd (omega arith)
mark_reads (m ∷ mark) [] k h lt = let bad : false ≡ true = h in absurd (cc)
mark_reads (m ∷ mark) (b ∷ bs) zero h lt = (omega arith, eqb-true b m (and_parts (b == m) (begins_with mark bs) h).0)
mark_reads (m ∷ mark) (b ∷ bs) (suc k) h lt =
    let r = mark_reads mark bs k (and_parts (b == m) (begins_with mark bs) h).1 (omega arith) in (omega (arith, r.0), r.1)

mark_found : (m : ℕ) (mark bs : List ℕ) (n : ℕ) → bytes_before (m ∷ mark) bs ≡ Some n → (n < length bs) × (get_or bs n 0 ≡ m)
unfolding bytes_before
mark_found m mark [] n e = let bad : None ≡ Some n = e in absurd (cc)
mark_found m mark (b ∷ bs) n e = by_test (begins_with (m ∷ mark) (b ∷ bs)) refl (bytes_before (m ∷ mark) bs) (λ k f. mark_found m mark bs k f) e
  where
    by_test : (t : Bool) → begins_with (m ∷ mark) (b ∷ bs) ≡ t → (found : Option ℕ) → ((k : ℕ) → found ≡ Some k → (k < length bs) × (get_or bs k 0 ≡ m)) →
        cond t (Some 0) (option_map (λ n. n + 1) found) ≡ Some n → (n < suc (length bs)) × (get_or (b ∷ bs) n 0 ≡ m)
    by_test true h found more f =
        let both : Some 0 ≡ Some n = f in
        let at : 0 ≡ n = cc in
        let r = mark_reads (m ∷ mark) (b ∷ bs) 0 h (omega arith) in
        (omega arith, ap (λ k. get_or (b ∷ bs) k 0) (sym at) ∙ r.1)
    by_test false h None more f = let bad : None ≡ Some n = f in absurd (cc)
    by_test false h (Some k) more f =
        let both : Some (k + 1) ≡ Some n = f in
        let at : k + 1 ≡ n = cc in
        let next : n ≡ suc k = omega arith in
        let r = more k refl in
        (omega (arith, r.0), ap (λ j. get_or (b ∷ bs) j 0) next ∙ r.1)

module _ (bs : List ℕ) (u : IsUtf8 bs) where
  cdata_has : begins_with (codes "<![CDATA[") bs ≡ true → Has bs (closed kinds.Cdata (codes "]]>") 9 bs)
  unfolding closed
  cdata_has h =
      let mark = mark_reads (codes "<![CDATA[") bs 8 h (omega arith) in
      let rest : IsUtf8 (drop 9 bs) = behind bs 8 u mark.0 (omega (arith, mark.1)) in
      found_is (Has bs) (λ n. cut_as kinds.Cdata (9 + n + 3)) (bytes_before (codes "]]>") (drop 9 bs)) (unclosed bs)
      (λ n found. let r = mark_found 93 (93 ∷ 62 ∷ []) (drop 9 bs) n found in
      subst (λ k. IsUtf8 (take k (drop 9 bs))) (let e : n ≡ 9 + n + 3 - 12 = omega arith in e)
      (up_to (drop 9 bs) n rest (omega (arith, r.0)) (λ _. omega (arith, r.1)))) tt

  comment_has : Has bs (closed kinds.Comment (codes "-->") 4 bs)
  unfolding closed
  comment_has = found_is (Has bs) (λ n. cut_as kinds.Comment (4 + n + 3)) (bytes_before (codes "-->") (drop 4 bs)) (unclosed bs) (λ n found. tt) tt

  doctype_has : Has bs (doctype bs)
  unfolding doctype
  doctype_has = found_is (Has bs) (λ n. cut_as kinds.Doctype (9 + n)) (doctype_bytes false 0 (drop 9 bs)) (unclosed bs) (λ n found. tt) tt

  instruction_has : Has bs (instruction bs)
  unfolding instruction closed
  instruction_has =
      test_is (Has bs) (begins_declaration bs) (closed kinds.Decl (codes "?>") 6 bs) (closed kinds.Pi (codes "?>") 2 bs)
      (λ _. found_is (Has bs) (λ n. cut_as kinds.Decl (6 + n + 2)) (bytes_before (codes "?>") (drop 6 bs)) (unclosed bs) (λ n found. tt) tt)
      (λ _. found_is (Has bs) (λ n. cut_as kinds.Pi (2 + n + 2)) (bytes_before (codes "?>") (drop 2 bs)) (unclosed bs) (λ n found. tt) tt)

never_front : (cs : List ℕ) → shortest_front (spells never) cs ≡ None
unfolding shortest_front spells
never_front [] = refl
never_front (c ∷ cs) = ap (option_map (λ front. c ∷ front)) (never_front cs)

-- behind `<` an end tag has a `/`
end_front : (cs found : List ℕ) → shortest_front (spells end_form) (60 ∷ cs) ≡ Some found → (ds : List ℕ) × (cs ≡ 47 ∷ ds)
unfolding shortest_front spells
end_front [] found e = let bad : None ≡ Some found = e in absurd (cc)
end_front (d ∷ ds) found e =
    elim (cases_Bool (d == 47)) [
      | inl h ↦ (ds, ap (λ x. x ∷ ds) (eqb-true d 47 h))
      | inr h ↦
          (let none : shortest_front (spells end_form) (60 ∷ d ∷ ds) ≡ None =
          rw h (ap (λ f. option_map (λ front. 60 ∷ front) (option_map (λ front. d ∷ front) f)) (never_front ds)) in
          let bad : None ≡ Some found = sym none ∙ e in absurd (cc))
    ]

module _ (more : List ℕ) (u : IsUtf8 (60 ∷ more)) (behind_utf8 : IsUtf8 more) where
  end_has : (cs : List ℕ) → shortest_front (spells end_form) (chars (60 ∷ more)) ≡ Some cs → IsUtf8 (drop 1 more)
  end_has cs e =
      let spelled : 60 ∷ more ≡ encode 60 ++ more = ap (λ xs. xs ++ more) (sym (encode_ascii 60 (omega arith))) in
      let characters : chars (60 ∷ more) ≡ 60 ∷ chars more = chars_past_char (60 ∷ more) more 60 u spelled in
      let second = end_front (chars more) cs (ap (shortest_front (spells end_form)) (sym characters) ∙ e) in
      on behind_utf8.0 behind_utf8.1.0 behind_utf8.1.1 second.0 (chars_from_encodes behind_utf8.0 more behind_utf8 behind_utf8.1.1 ∙ second.1)
    where
      on : (ds : List ℕ) → scalars ds ≡ true → encodes ds ≡ more → (es : List ℕ) → ds ≡ 47 ∷ es → IsUtf8 (drop 1 more)
      on [] s f es e = let bad : [] ≡ 47 ∷ es = e in absurd (cc)
      on (d ∷ ds) s f es e =
          let both : d ∷ ds ≡ 47 ∷ es = e in
          let first : d ≡ 47 = cc in
          let spelled : more ≡ 47 ∷ encodes ds = sym f ∙ ap (λ x. encode x ++ encodes ds) first ∙ ap (λ xs. xs ++ encodes ds) (encode_ascii 47 (omega arith)) in
          (ds, ((and_parts (scalar d) (scalars ds) s).1, ap (drop 1) (sym spelled)))

  tag_has : Has (60 ∷ more) (tag tags (60 ∷ more))
  unfolding tag tag_or bad
  tag_has =
      found_is (Has (60 ∷ more)) (λ cs. cut_as kinds.End (length (encodes cs))) (shortest_front (spells end_form) (chars (60 ∷ more))) _
      (λ cs found. end_has cs found)
      (found_is (Has (60 ∷ more)) (λ cs. cut_as kinds.Start (length (encodes cs))) (shortest_front (spells start_form) (chars (60 ∷ more))) _
      (λ cs found. behind_utf8)
      (found_is (Has (60 ∷ more)) (λ cs. cut_as kinds.Empty (length (encodes cs))) (shortest_front (spells empty_form) (chars (60 ∷ more))) _
      (λ cs found. behind_utf8) tt))

tag_has_by : (bs : List ℕ) → IsUtf8 bs → IsUtf8 (drop 1 bs) → (0 < length bs) × (get_or bs 0 0 ≡ 60) → Has bs (tag tags bs)
tag_has_by [] u v r = absurd (omega (arith, r.0))
tag_has_by (b ∷ more) u v r = subst (λ x. Has (x ∷ more) (tag tags (x ∷ more))) (sym r.1) (tag_has more (subst (λ x. IsUtf8 (x ∷ more)) r.1 u) v)

markup_has : (bs : List ℕ) → IsUtf8 bs → begins_with (codes "<") bs ≡ true → Has bs (markup bs)
unfolding markup
markup_has bs u h =
    let first = mark_reads (codes "<") bs 0 h (omega arith) in
    let rest : IsUtf8 (drop 1 bs) = behind bs 0 u first.0 (omega (arith, first.1)) in
    test_is (Has bs) (begins_with (codes "<!--") bs) _ _ (λ _. comment_has bs u)
    (λ _. test_is (Has bs) (begins_with (codes "<![CDATA[") bs) _ _ (λ b. cdata_has bs u b)
    (λ _. test_is (Has bs) (begins_with (codes "<!DOCTYPE") bs) _ _ (λ _. doctype_has bs u)
    (λ _. test_is (Has bs) (begins_with (codes "<?") bs) _ _ (λ _. instruction_has bs u)
    (λ _. tag_has_by bs u rest first))))

first_has : (at_start : Bool) (bs : List ℕ) → IsUtf8 bs → Has bs (first_token at_start bs)
unfolding first_token
first_has at_start bs u =
    test_is (Has bs) (at_start && begins_with order_mark bs) (cut_as kinds.Bom 3) _ (λ _. tt)
    (λ _. test_is (Has bs) (begins_with (codes "<") bs) (markup bs) (cut_as kinds.Text (bytes_up_to 60 bs)) (λ b. markup_has bs u b) (λ _. tt))

pub content_text : (token : Token) → IsUtf8 token.bytes → IsLexeme (lexeme_of token) → HasContent token.bytes token.kind (length token.bytes)
content_text token u kind = subst (λ (c : Cut). Has token.bytes c) kind.1 (first_has kind.0 token.bytes u)
