-- Where the names of tags stand, and what gives them another one.
use Rattle.std.proofs.Common.{◌≡◌, ℕ, ◌+◌, ◌<◌, ◌≤◌, ◌==◌, true, ◌⊎◌, inl, inr, Some, None, List, [], ◌∷◌, ◌++◌, length, take, drop, refl, sym, ◌∙◌}
use Rattle.std.proofs.Common.{ap, subst, arith, append_assoc, length-append, codes}
use Rattle.std.specs.Str.{IsUtf8}
use lib.Utf8.{scalars}
use Rattle.std.proofs.lemmas.List.{take_at, take-append-drop, length-take-le}
use Rattle.std.proofs.lemmas.Str.{encode_ascii, IsUtf8-append, IsUtf8-take, IsCharBoundary-from_take}
use Rattle.nx_base.specs.Text.{IsPlace}
use Rattle.nx_base.specs.Tokens.{first_token, cut, end_of, tokens_from, tokens_of}
use Rattle.nx_base.specs.declared.change.Change.{Change}
use Rattle.nx_base.specs.declared.token.Token.{Token}
use Rattle.nx_base.specs.declared.token.TokenKind.TheVariants as kinds
use Rattle.nx_events.specs.Spelling.{spelled_all}
use Rattle.nx_events.specs.SpelledTags.{IsSpelled, IsSpelledTag, IsSpelledEnd}
use Rattle.nx_events.specs.Tags.{start_name, end_name}
use Rattle.nx_events.proofs.TagKinds.{tags_are_spelled}
use Rattle.nx_scan.proofs.Every.{cut-is_token}
use Rattle.nx_scan.proofs.OwnBytes.{cut-own}
use Rattle.nx_text.specs.Changing.{AreChanges}
use Rattle.nx_text.specs.Editing.{IsRange}
use Rattle.nx_tags.specs.Answers.{Renames, IfRenamed}
use Rattle.nx_tags.specs.Changing.{renaming}
use Rattle.nx_tags.specs.Closing.{BeginsAt, IsEndTag}
use Rattle.nx_tags.specs.Elements.{IsElementAt, IsEmptyAt}
use Rattle.nx_tags.specs.Parts.{ending_by}
use Rattle.nx_tags.proofs.Closing.{closing_end, end_is, no_end}
use Rattle.nx_tags.proofs.OpenNames.{bytes_utf8}
use Rattle.nx_tags.proofs.Reading.{all_behind}
use Rattle.nx_tags.proofs.Standing.{begins, tokens_there}

-- ---- places in a tag

one_utf8 : (b : ℕ) → b < 128 → scalars (b ∷ []) ≡ true → IsUtf8 (b ∷ [])
one_utf8 b low ok = (b ∷ [], (ok, ap (λ xs. xs ++ []) (encode_ascii b low)))

-- what is UTF-8 at a place of a text ends at another
behind_front : (text front rest : List ℕ) (p : ℕ) → IsUtf8 text → IsPlace text p → drop p text ≡ front ++ rest → IsUtf8 front → IsPlace text (p + length front)
behind_front text front rest p utf8 place spelled front_utf8 =
    let whole : text ≡ take p text ++ (front ++ rest) = sym (take-append-drop p text) ∙ ap (λ xs. take p text ++ xs) spelled in
    let size = length-take-le p text place.0 in
    let both = length-append (take p text) front in
    let parts = length-append (take p text) (front ++ rest) in
    let more = length-append front rest in
    let all = ap length whole in
    let begun : take (p + length front) text ≡ take p text ++ front =
    ap (take (p + length front)) (whole ∙ sym (append_assoc (take p text) front rest)) ∙ take_at (take p text ++ front) rest (p + length front) (omega arith) in
    IsCharBoundary-from_take text (p + length front) utf8 (omega arith)
    (subst (λ xs. IsUtf8 xs) (sym begun) (IsUtf8-append (take p text) front (IsUtf8-take text p utf8 place) front_utf8))

module _ (text : List ℕ) (p : ℕ) (utf8 : IsUtf8 text) (place : IsPlace text p) (within : p < length text) where
  there : drop p text ≡ (cut text p).bytes ++ drop (first_token (p == 0) (drop p text)).len (drop p text)
  unfolding cut
  there = sym (take-append-drop (first_token (p == 0) (drop p text)).len (drop p text))

  spelled_here : IsSpelled (cut text p).kind (cut text p).bytes
  spelled_here = tags_are_spelled (cut text p) (bytes_utf8 text p utf8 place within) (cut-own text p utf8 place within)

  -- a name behind a mark
  name_range : (mark name rest : List ℕ) → IsUtf8 mark → IsUtf8 name → (cut text p).bytes ≡ mark ++ (name ++ rest) → IsRange text (p + length mark) (p + length mark + length name)
  name_range mark name rest mark_utf8 name_utf8 spelled =
      let left = drop (first_token (p == 0) (drop p text)).len (drop p text) in
      let begun : drop p text ≡ mark ++ ((name ++ rest) ++ left) = there ∙ ap (λ xs. xs ++ left) spelled ∙ append_assoc mark (name ++ rest) left in
      let named : drop p text ≡ (mark ++ name) ++ (rest ++ left) =
      begun ∙ ap (λ xs. mark ++ xs) (append_assoc name rest left) ∙ sym (append_assoc mark name (rest ++ left)) in
      let two = length-append mark name in
      let sum : p + length (mark ++ name) ≡ p + length mark + length name = omega arith in
      record {
        start = behind_front text mark ((name ++ rest) ++ left) p utf8 place begun mark_utf8;
        end = subst (λ n. IsPlace text n) sum (behind_front text (mark ++ name) (rest ++ left) p utf8 place named (IsUtf8-append mark name mark_utf8 name_utf8));
        ordered = omega arith;
      }

  tag_range : (mark : List ℕ) → IsSpelledTag mark (cut text p).bytes → IsRange text (p + 1) (p + 1 + length (start_name (cut text p).bytes))
  tag_range mark tag =
      subst (λ (name : List ℕ). IsRange text (p + 1) (p + 1 + length name)) (sym tag.name_read)
      (name_range (60 ∷ []) tag.name (spelled_all tag.attributes (tag.space ++ mark)) (one_utf8 60 (omega arith) refl) tag.is_name.utf8 tag.spelled)

  pub start_range : (cut text p).kind ≡ kinds.Start → IsRange text (p + 1) (p + 1 + length (start_name (cut text p).bytes))
  start_range is = tag_range (codes ">") (subst (λ k. IsSpelled k (cut text p).bytes) is spelled_here)

  name_within : (mark name rest : List ℕ) → (cut text p).bytes ≡ mark ++ (name ++ rest) → p + length mark + length name ≤ end_of (cut text p)
  name_within mark name rest spelled =
      let from = (cut-is_token text p utf8 place within).from in
      let all = ap length spelled in
      let two = length-append mark (name ++ rest) in
      let more = length-append name rest in
      omega arith

  pub start_within : (cut text p).kind ≡ kinds.Start → p + 1 + length (start_name (cut text p).bytes) ≤ end_of (cut text p)
  start_within is =
      let tag : IsSpelledTag (codes ">") (cut text p).bytes = subst (λ k. IsSpelled k (cut text p).bytes) is spelled_here in
      subst (λ (n : List ℕ). p + 1 + length n ≤ end_of (cut text p)) (sym tag.name_read)
      (name_within (60 ∷ []) tag.name (spelled_all tag.attributes (tag.space ++ codes ">")) tag.spelled)

  pub empty_range : (cut text p).kind ≡ kinds.Empty → IsRange text (p + 1) (p + 1 + length (start_name (cut text p).bytes))
  empty_range is = tag_range (codes "/>") (subst (λ k. IsSpelled k (cut text p).bytes) is spelled_here)

  pub end_range : (cut text p).kind ≡ kinds.End → IsRange text (p + 2) (p + 2 + length (end_name (cut text p).bytes))
  end_range is =
      let tag : IsSpelledEnd (cut text p).bytes = subst (λ k. IsSpelled k (cut text p).bytes) is spelled_here in
      let mark_utf8 : IsUtf8 (60 ∷ 47 ∷ []) = IsUtf8-append (60 ∷ []) (47 ∷ []) (one_utf8 60 (omega arith) refl) (one_utf8 47 (omega arith) refl) in
      subst (λ (name : List ℕ). IsRange text (p + 2) (p + 2 + length name)) (sym tag.name_read)
      (name_range (60 ∷ 47 ∷ []) tag.name (tag.space ++ codes ">") mark_utf8 tag.is_name.utf8 tag.spelled)

-- ---- what an element gets

module _ (text : List ℕ) (at : ℕ) (name : List ℕ) (utf8 : IsUtf8 text) where
  pub element_begins : (start end : Token) → IsElementAt text at start end → BeginsAt text at × (start ≡ cut text at) × IsEndTag start (tokens_from text (end_of start)) end
  element_begins start end is =
      let b = begins text utf8 is.before start (is.inner ++ end ∷ is.others) is.tokens in (
        subst (λ n. BeginsAt text n) is.from b.0,
        b.1 ∙ ap (cut text) is.from,
        record { inner = is.inner; others = is.others; tokens = sym b.2; nested = is.nested; kind = is.end_kind; named = is.named },
      )

  pub empty_begins : (tag : Token) → IsEmptyAt text at tag → BeginsAt text at × (tag ≡ cut text at)
  empty_begins tag is =
      let b = begins text utf8 is.before tag is.others is.tokens in
      (subst (λ n. BeginsAt text n) is.from b.0, b.1 ∙ ap (cut text) is.from)

  -- where no token begins
  pub none_begins : (BeginsAt text at → ⊥) → IfRenamed text at name None
  none_begins none changes (inl (tag, is, _)) = none (empty_begins tag is).0
  none_begins none changes (inr (start, end, is, _)) = none (element_begins start end is).0

  -- where another token begins
  pub no_tag : ((cut text at).kind ≡ kinds.Empty → ⊥) → ((cut text at).kind ≡ kinds.Start → ⊥) → IfRenamed text at name None
  no_tag no_empty no_start changes (inl (tag, is, _)) =
      no_empty (ap (λ (x : Token). x.kind) (sym (empty_begins tag is).1) ∙ is.kind)
  no_tag no_empty no_start changes (inr (start, end, is, _)) =
      no_start (ap (λ (x : Token). x.kind) (sym (element_begins start end is).1) ∙ is.start_kind)

  module _ (here : BeginsAt text at) where
    from_here : (cut text at).from ≡ at
    from_here = (cut-is_token text at utf8 here.border.place here.within).from

    pub empty_renamed : (cut text at).kind ≡ kinds.Empty → Renames text at name (renaming at None (length (start_name (cut text at).bytes)) name)
    empty_renamed is =
        inl (
          cut text at,
          record {
            before = ending_by at (tokens_of text);
            others = tokens_from text (end_of (cut text at));
            tokens = tokens_there text utf8 at here;
            from = from_here;
            kind = is;
          },
          refl,
        )

    -- the end tag of a start tag
    pub both_renamed : (end : Token) → (cut text at).kind ≡ kinds.Start → closing_end (cut text at ∷ []) (tokens_from text (end_of (cut text at))) ≡ Some end →
        Renames text at name (renaming at (Some end.from) (length (start_name (cut text at).bytes)) name)
    both_renamed end is found =
        let e = end_is (cut text at) (tokens_from text (end_of (cut text at))) end found in
        inr (
          cut text at,
          end,
          record {
            before = ending_by at (tokens_of text);
            inner = e.inner;
            others = e.others;
            tokens = tokens_there text utf8 at here ∙ ap (λ xs. ending_by at (tokens_of text) ++ cut text at ∷ xs) e.tokens;
            from = from_here;
            start_kind = is;
            nested = e.nested;
            end_kind = e.kind;
            named = e.named;
          },
          refl,
        )

    pub not_closed : (cut text at).kind ≡ kinds.Start → closing_end (cut text at ∷ []) (tokens_from text (end_of (cut text at))) ≡ None → IfRenamed text at name None
    not_closed is none changes (inl (tag, empty, _)) =
        let bad : kinds.Start ≡ kinds.Empty = sym is ∙ ap (λ (x : Token). x.kind) (sym (empty_begins tag empty).1) ∙ empty.kind in cc
    not_closed is none changes (inr (start, end, it, _)) =
        let e = element_begins start end it in
        no_end start (tokens_from text (end_of start)) end
        (subst (λ (x : Token). closing_end (x ∷ []) (tokens_from text (end_of x)) ≡ None) (sym e.1) none) e.2

  -- the names stand apart, the end tag's behind the other one
  module _ (start end : Token) (is : IsElementAt text at start end) where
    end_stands : (BeginsAt text end.from × (end ≡ cut text end.from)) × (end_of start ≤ end.from)
    end_stands =
        let split : tokens_of text ≡ (is.before ++ start ∷ is.inner) ++ end ∷ is.others =
        is.tokens ∙ sym (append_assoc is.before (start ∷ is.inner) (end ∷ is.others)) in
        let b = begins text utf8 (is.before ++ start ∷ is.inner) end is.others split in
        ((b.0, b.1), (all_behind (λ (x : Token). end_of x ≤ end.from) is.before (start ∷ is.inner) b.3).0)

    its_end : IsRange text (end.from + 2) (end.from + 2 + length (start_name start.bytes))
    its_end =
        let e = end_stands.0 in
        let same : end_name (cut text end.from).bytes ≡ start_name start.bytes = ap (λ (x : Token). end_name x.bytes) (sym e.1) ∙ sym is.named in
        subst (λ (n : List ℕ). IsRange text (end.from + 2) (end.from + 2 + length n)) same
        (end_range text end.from utf8 e.0.border.place e.0.within (ap (λ (x : Token). x.kind) (sym e.1) ∙ is.end_kind))

    its_start : IsRange text (at + 1) (at + 1 + length (start_name start.bytes)) × (at + 1 + length (start_name start.bytes) ≤ end_of start)
    its_start =
        let b = element_begins start end is in
        subst (λ (x : Token). IsRange text (at + 1) (at + 1 + length (start_name x.bytes)) × (at + 1 + length (start_name x.bytes) ≤ end_of x)) (sym b.1)
        (let kind = ap (λ (x : Token). x.kind) (sym b.1) ∙ is.start_kind in
        (start_range text at utf8 b.0.border.place b.0.within kind, start_within text at utf8 b.0.border.place b.0.within kind))

  -- so they are changes of the text
  pub are_changes : IsUtf8 name → (changes : List Change) → Renames text at name changes → AreChanges text changes
  are_changes name_utf8 changes (inl (tag, is, e)) =
      let b = empty_begins tag is in
      let kind = ap (λ (x : Token). x.kind) (sym b.1) ∙ is.kind in
      subst (λ cs. AreChanges text cs) (sym e) (
        subst (λ (x : Token). IsRange text (at + 1) (at + 1 + length (start_name x.bytes))) (sym b.1) (empty_range text at utf8 b.0.border.place b.0.within kind),
        name_utf8,
        tt,
        tt,
      )
  are_changes name_utf8 changes (inr (start, end, is, e)) =
      let s = its_start start end is in
      let apart = (end_stands start end is).1 in
      let within = s.1 in
      subst (λ cs. AreChanges text cs) (sym e) (its_end start end is, name_utf8, (omega arith), (s.0, name_utf8, tt, tt))

  -- the ends of the names fit in the text
  pub names_fit : (here : BeginsAt text at) → ((cut text at).kind ≡ kinds.Start) ⊎ ((cut text at).kind ≡ kinds.Empty) →
      at + 1 + length (start_name (cut text at).bytes) ≤ length text
  names_fit here is =
      elim is [
        | inl start ↦ (start_range text at utf8 here.border.place here.within start).end.0
        | inr empty ↦ (empty_range text at utf8 here.border.place here.within empty).end.0
      ]

  pub end_name_fits : (end : Token) → (here : BeginsAt text at) → (cut text at).kind ≡ kinds.Start →
      closing_end (cut text at ∷ []) (tokens_from text (end_of (cut text at))) ≡ Some end → end.from + 2 + length (start_name (cut text at).bytes) ≤ length text
  end_name_fits end here is found =
      let e = end_is (cut text at) (tokens_from text (end_of (cut text at))) end found in
      (its_end (cut text at) end (record {
        before = ending_by at (tokens_of text);
        inner = e.inner;
        others = e.others;
        tokens = tokens_there text utf8 at here ∙ ap (λ xs. ending_by at (tokens_of text) ++ cut text at ∷ xs) e.tokens;
        from = from_here here;
        start_kind = is;
        nested = e.nested;
        end_kind = e.kind;
        named = e.named;
      })).end.0
