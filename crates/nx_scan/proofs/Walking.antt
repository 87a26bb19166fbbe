-- Tags of a text, walked through character by character.
use Rattle.std.proofs.Common.{◌≡◌, ℕ, ◌+◌, true, List, [], ◌∷◌, ◌++◌, length, drop, refl, sym, ◌∙◌, ap, subst, arith, length-append, zero-add}
use Rattle.std.specs.Str.{IsUtf8, IsCharBoundary, chars}
use lib.Utf8.{encode, encodes, scalar, scalars}
use Rattle.std.proofs.lemmas.Bool.{and_parts}
use Rattle.std.proofs.lemmas.List.{drop_at}
use Rattle.std.proofs.lemmas.Str.{IsCharBoundary-start, IsCharBoundary-from_rest, chars_past_char}
use Rattle.nx_base.specs.Form.{never, begins, passing_front}
use Rattle.nx_base.specs.Tokens.{Cut, cut_as, bad_rest, bad, begins_tag, tag_or, tag}
use Rattle.nx_base.specs.declared.token.TokenKind.{TokenKind}
use Rattle.nx_base.specs.declared.token.TokenKind.TheVariants as kinds
use Rattle.nx_scan.specs.Tag.{left_of, left_after, in_end, later}
use Rattle.nx_scan.specs.declared.tag.TagState.{TagState}
use Rattle.nx_scan.specs.declared.tag.TagState.TheVariants as seen
use Rattle.nx_scan.proofs.Fitting.{bad_rest-border}
use Rattle.nx_scan.proofs.Reading.{next}
use Rattle.nx_scan.proofs.TagEnds.{IsOpen, IsWhole, can_go_on, start-whole, empty-whole, end-whole, tag-step, tag-lost, tag-end, tag_or-never, lost_left}

-- what was read is open, whole or lost
pub data Status : TagState → Type 0 where
  is_open : {read : TagState} → IsOpen read → Status read
  is_whole : {read : TagState} (kind : TokenKind) → IsWhole read kind → Status read
  is_lost : Status seen.Lost

pub status : (read : TagState) → Status read
unfolding left_of
status seen.Open = is_open (record { part = record { end = refl; start = refl; empty = refl }; possible = refl })
status seen.Name = is_open (record { part = record { end = refl; start = refl; empty = refl }; possible = refl })
status seen.Gap = is_open (record { part = record { end = refl; start = refl; empty = refl }; possible = refl })
status seen.Attribute = is_open (record { part = record { end = refl; start = refl; empty = refl }; possible = refl })
status seen.AttributeGap = is_open (record { part = record { end = refl; start = refl; empty = refl }; possible = refl })
status seen.Equals = is_open (record { part = record { end = refl; start = refl; empty = refl }; possible = refl })
status seen.Double = is_open (record { part = record { end = refl; start = refl; empty = refl }; possible = refl })
status seen.Single = is_open (record { part = record { end = refl; start = refl; empty = refl }; possible = refl })
status seen.Value = is_open (record { part = record { end = refl; start = refl; empty = refl }; possible = refl })
status seen.Slash = is_open (record { part = record { end = refl; start = refl; empty = refl }; possible = refl })
status seen.EndOpen = is_open (record { part = record { end = refl; start = refl; empty = refl }; possible = refl })
status seen.EndName = is_open (record { part = record { end = refl; start = refl; empty = refl }; possible = refl })
status seen.EndGap = is_open (record { part = record { end = refl; start = refl; empty = refl }; possible = refl })
status seen.Start = is_whole kinds.Start start-whole
status seen.Empty = is_whole kinds.Empty empty-whole
status seen.End = is_whole kinds.End end-whole
status seen.Lost = is_lost

-- where no tag can come, the token goes on as a Bad one
passing-never : (cs : List ℕ) → passing_front (begins_tag (in_end never)) cs ≡ []
unfolding passing_front begins
passing-never [] = refl
passing-never (c ∷ cs) = refl

pub bad-never : (rest : List ℕ) → bad (in_end never) rest ≡ cut_as kinds.Bad (bad_rest rest)
unfolding bad
bad-never rest =
    ap (λ xs. let n = length (encodes xs) in cut_as kinds.Bad (n + bad_rest (drop n rest))) (passing-never (chars rest))
    ∙ ap (cut_as kinds.Bad) (zero-add (bad_rest rest))

pub tag-never : (rest : List ℕ) → tag (left_of seen.Lost) rest ≡ cut_as kinds.Bad (bad_rest rest)
unfolding tag left_of
tag-never rest =
    tag_or-never kinds.End rest (tag_or kinds.Start never rest (tag_or kinds.Empty never rest (bad (in_end never) rest)))
    ∙ tag_or-never kinds.Start rest (tag_or kinds.Empty never rest (bad (in_end never) rest))
    ∙ tag_or-never kinds.Empty rest (bad (in_end never) rest)
    ∙ bad-never rest

-- a character is read: the tag goes on behind it, or is lost
pub data Walk (read : TagState) (c : ℕ) : Type 0 where
  on : (behind : TagState) → ((more : List ℕ) → IsUtf8 (encode c ++ more) →
      tag (left_of read) (encode c ++ more) ≡ later (length (encode c)) (tag (left_of behind) more)) → Walk read c
  off : ((more : List ℕ) → IsUtf8 (encode c ++ more) → tag (left_of read) (encode c ++ more) ≡ cut_as kinds.Bad (bad_rest (encode c ++ more))) → Walk read c

walk-on : (read : TagState) (c : ℕ) (behind : TagState) → IsOpen read → left_of behind ≡ left_after (left_of read) c → can_go_on (left_of behind) ≡ true → Walk read c
walk-on read c behind open_read reads possible =
    on behind (λ more utf8.
    tag-step (left_of read) c (encode c ++ more) more open_read.part (sym (ap can_go_on reads) ∙ possible)
    (chars_past_char (encode c ++ more) more c utf8 refl) refl
    ∙ ap (λ left. later (length (encode c)) (tag left more)) (sym reads))

pub walk-by : (read : TagState) (c : ℕ) (behind : TagState) → IsOpen read → left_of behind ≡ left_after (left_of read) c → Status behind → Walk read c
walk-by read c behind open_read reads (is_open o) = walk-on read c behind open_read reads o.possible
walk-by read c behind open_read reads (is_whole kind w) = walk-on read c behind open_read reads w.possible
walk-by read c seen.Lost open_read reads is_lost =
    off (λ more utf8. tag-lost (left_of read) c (encode c ++ more) (chars more) open_read.part (sym reads ∙ lost_left)
    (chars_past_char (encode c ++ more) more c utf8 refl))

pub walk : (read : TagState) (c : ℕ) → IsOpen read → Walk read c
walk read c open_read = walk-by read c (next read c).behind open_read (next read c).reads (status (next read c).behind)

-- a tag, or what stands in its place, ends at a place
module _ (c : ℕ) (cs : List ℕ) (u : scalars (c ∷ cs) ≡ true) where
  rest_utf8 : IsUtf8 (encode c ++ encodes cs)
  rest_utf8 = (c ∷ cs, (u, refl))

  walked-border : (read : TagState) → ((behind : TagState) → IsCharBoundary (encodes cs) (tag (left_of behind) (encodes cs)).len) → Walk read c →
      IsCharBoundary (encode c ++ encodes cs) (tag (left_of read) (encode c ++ encodes cs)).len
  walked-border read border (on behind is) =
      let len : (tag (left_of read) (encode c ++ encodes cs)).len ≡ length (encode c) + (tag (left_of behind) (encodes cs)).len =
      ap (λ (t : Cut). t.len) (is (encodes cs) rest_utf8) in
      subst (λ n. IsCharBoundary (encode c ++ encodes cs) n) (sym len)
      (IsCharBoundary-from_rest (encode c ++ encodes cs) (length (encode c)) (tag (left_of behind) (encodes cs)).len
      (omega (arith, length-append (encode c) (encodes cs)))
      (subst (λ xs. IsCharBoundary xs (tag (left_of behind) (encodes cs)).len) (sym (drop_at (encode c) (encodes cs) (length (encode c)) refl)) (border behind)))
  walked-border read border (off is) =
      let len : (tag (left_of read) (encode c ++ encodes cs)).len ≡ bad_rest (encode c ++ encodes cs) = ap (λ (t : Cut). t.len) (is (encodes cs) rest_utf8) in
      subst (λ n. IsCharBoundary (encode c ++ encodes cs) n) (sym len) (bad_rest-border (encode c ++ encodes cs) rest_utf8)

border-by : (cs : List ℕ) (read : TagState) → scalars cs ≡ true →
    (IsOpen read → IsCharBoundary (encodes cs) (tag (left_of read) (encodes cs)).len) → Status read → IsCharBoundary (encodes cs) (tag (left_of read) (encodes cs)).len
border-by cs read u further (is_open o) = further o
border-by cs read u further (is_whole kind w) =
    subst (λ (t : Cut). IsCharBoundary (encodes cs) t.len) (sym (w.cut (encodes cs))) (IsCharBoundary-start (encodes cs) (cs, (u, refl)))
border-by cs seen.Lost u further is_lost =
    subst (λ (t : Cut). IsCharBoundary (encodes cs) t.len) (sym (tag-never (encodes cs))) (bad_rest-border (encodes cs) (cs, (u, refl)))

pub tag-border : (cs : List ℕ) (read : TagState) → scalars cs ≡ true → IsCharBoundary (encodes cs) (tag (left_of read) (encodes cs)).len
tag-border [] read u =
    border-by [] read u
    (λ o. subst (λ (t : Cut). IsCharBoundary [] t.len) (sym (tag-end (left_of read) o.part)) (bad_rest-border [] ([], (refl, refl)))) (status read)
tag-border (c ∷ cs) read u =
    border-by (c ∷ cs) read u
    (λ o. walked-border c cs u read (λ behind. tag-border cs behind (and_parts (scalar c) (scalars cs) u).1) (walk read c o)) (status read)
