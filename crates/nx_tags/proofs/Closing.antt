-- The end tag that closes a start tag, and what makes an element of them.
use Rattle.std.proofs.Common.{◌≡◌, ◌≢◌, ℕ, zero, suc, ◌<◌, ◌≤◌, Bool, true, false, cond, inl, inr, Option, Some, None}
use Rattle.std.proofs.Common.{List, [], ◌∷◌, ◌++◌, length, reverse, refl, sym, ◌∙◌, ap, subst, arith, append_assoc, length-append}
use Rattle.std.specs.Prelude.{◌==◌, if◌then◌else◌}
use Rattle.std.specs.Option.{option_map}
use Rattle.std.specs.Str.{bytes_eq}
use Rattle.std.proofs.lemmas.Bool.{cases_Bool}
use Rattle.std.proofs.lemmas.Bool.Decides.{nat_tests}
use Rattle.std.proofs.lemmas.List.{reverse-append, reverse-reverse, length-reverse}
use Rattle.std.proofs.lemmas.Slice.Eq.{bytes_eq-Decides}
use Rattle.nx_base.specs.declared.token.Token.{Token}
use Rattle.nx_base.specs.declared.token.TokenKind.{TokenKind}
use Rattle.nx_base.specs.declared.token.TokenKind.TheVariants as kinds
use Rattle.nx_events.specs.Tags.{start_name, end_name}
use Rattle.nx_tags.specs.declared.element.Nesting.{Nesting}
use Rattle.nx_tags.specs.declared.element.Nesting.TheVariants.{Inside, Closed, Broken}
use Rattle.nx_tags.specs.Closing.{IsEndTag, FoundEnd, ClosesInnermost, Closes, PassesNested}
use Rattle.nx_tags.specs.Elements.{IsNoStartOrEnd, Nested, nothing, other, element}

-- ---- the end tag, found token by token

-- what is left of open start tags, the innermost first, behind an end tag; none where it isn't that of the innermost
abbrev left_by_end : Token → List Token → Option (List Token)
left_by_end token [] = None
left_by_end token (innermost ∷ outer) = if bytes_eq (start_name innermost.bytes) (end_name token.bytes) then Some outer else None

-- what comes of a token behind which these start tags are open: it closes the last of them, or the tokens behind it tell
abbrev closed_or : Token → (List Token → Option Token) → Option (List Token) → Option Token
closed_or token next None = None
closed_or token next (Some []) = Some token
closed_or token next (Some (innermost ∷ outer)) = next (innermost ∷ outer)

abbrev pub closing_by : TokenKind → Token → List Token → (List Token → Option Token) → Option Token
closing_by kinds.Start token inner next = next (token ∷ inner)
closing_by kinds.End token inner next = closed_or token next (left_by_end token inner)
closing_by _ token inner next = next inner

-- the end tag that closes the outermost of these open start tags, where all tags up to there nest
unfoldable pub closing_end : List Token → List Token → Option Token
closing_end inner [] = None
closing_end inner (token ∷ others) = closing_by token.kind token inner (λ open_tags. closing_end open_tags others)

-- the same by what was found of a token, with the innermost last
abbrev pub found_by : Token → List Token → (List Token → Option Token) → Nesting → Option Token
found_by token left next Inside = next (reverse left)
found_by token left next Closed = Some token
found_by token left next Broken = None

-- ---- tokens that nest are passed

between_passed : (kind : TokenKind) (token : Token) (inner : List Token) (next : List Token → Option Token) → IsNoStartOrEnd kind → closing_by kind token inner next ≡ next inner
between_passed kinds.Start token inner next h = absurd h
between_passed kinds.End token inner next h = absurd h
between_passed _ token inner next h = refl

abbrev pub behind : List Token → List Token → Option Token
behind others open_tags = closing_end open_tags others

pub one_passed : (token : Token) (others open_tags : List Token) (kind : TokenKind) → token.kind ≡ kind →
    closing_end open_tags (token ∷ others) ≡ closing_by kind token open_tags (behind others)
unfolding closing_end
one_passed token others open_tags kind is = ap (λ k. closing_by k token open_tags (behind others)) is

closes_its : (start end : Token) (outer : List Token) → start_name start.bytes ≡ end_name end.bytes → left_by_end end (start ∷ outer) ≡ Some outer
closes_its start end outer named = ap (λ (b : Bool). cond b (Some outer) None) ((bytes_eq-Decides (start_name start.bytes) (end_name end.bytes)).1 named)

pub nests_on : (ts : List Token) → Nested ts → (tag : Token) (outer rest : List Token) → closing_end (tag ∷ outer) (ts ++ rest) ≡ closing_end (tag ∷ outer) rest
nests_on _ nothing tag outer rest = refl
nests_on _ (other token others between nested) tag outer rest =
    one_passed token (others ++ rest) (tag ∷ outer) token.kind refl
    ∙ between_passed token.kind token (tag ∷ outer) (behind (others ++ rest)) between
    ∙ nests_on others nested tag outer rest
nests_on _ (element start end inner others is nested end_is named further) tag outer rest =
    one_passed start ((inner ++ end ∷ others) ++ rest) (tag ∷ outer) kinds.Start is
    ∙ ap (closing_end (start ∷ tag ∷ outer)) (append_assoc inner (end ∷ others) rest)
    ∙ nests_on inner nested start (tag ∷ outer) (end ∷ (others ++ rest))
    ∙ one_passed end (others ++ rest) (start ∷ tag ∷ outer) kinds.End end_is
    ∙ ap (closed_or end (behind (others ++ rest))) (closes_its start end (tag ∷ outer) named)
    ∙ nests_on others further tag outer rest

pub end_found : (start end : Token) (inner others : List Token) → Nested inner → end.kind ≡ kinds.End → start_name start.bytes ≡ end_name end.bytes →
    closing_end (start ∷ []) (inner ++ end ∷ others) ≡ Some end
end_found start end inner others nested is named =
    nests_on inner nested start [] (end ∷ others)
    ∙ one_passed end others (start ∷ []) kinds.End is
    ∙ ap (closed_or end (behind others)) (closes_its start end [] named)

-- ---- what is found closes it

record IsClosing (tag : Token) (outer ts : List Token) (found : Token) : Type 0 where
  inner : List Token
  end : Token
  others : List Token
  tokens : ts ≡ inner ++ end ∷ others
  nested : Nested inner
  kind : end.kind ≡ kinds.End
  named : start_name tag.bytes ≡ end_name end.bytes
  goes_on : closed_or end (behind others) (Some outer) ≡ Some found

module _ (t : Token) (ts : List Token) (tag : Token) (outer : List Token) (found : Token) where
  by_end : t.kind ≡ kinds.End → (same : Bool) → bytes_eq (start_name tag.bytes) (end_name t.bytes) ≡ same →
      closed_or t (behind ts) (cond same (Some outer) None) ≡ Some found → IsClosing tag outer (t ∷ ts) found
  by_end is true e h = record {
    inner = [];
    end = t;
    others = ts;
    tokens = refl;
    nested = nothing;
    kind = is;
    named = (bytes_eq-Decides (start_name tag.bytes) (end_name t.bytes)).0 e;
    goes_on = h;
  }
  by_end is false e h = let bad : None ≡ Some found = h in absurd (cc)

  by_other : IsNoStartOrEnd t.kind → IsClosing tag outer ts found → IsClosing tag outer (t ∷ ts) found
  by_other is i = record {
    inner = t ∷ i.inner;
    end = i.end;
    others = i.others;
    tokens = ap (λ xs. t ∷ xs) i.tokens;
    nested = other t i.inner is i.nested;
    kind = i.kind;
    named = i.named;
    goes_on = i.goes_on;
  }

  by_start : t.kind ≡ kinds.Start → (i : IsClosing t (tag ∷ outer) ts found) → IsClosing tag outer i.others found → IsClosing tag outer (t ∷ ts) found
  by_start is i j = record {
    inner = t ∷ (i.inner ++ i.end ∷ j.inner);
    end = j.end;
    others = j.others;
    tokens = ap (λ xs. t ∷ xs)
        (i.tokens ∙ ap (λ xs. i.inner ++ i.end ∷ xs) j.tokens ∙ sym (append_assoc i.inner (i.end ∷ j.inner) (j.end ∷ j.others)));
    nested = element t i.end i.inner j.inner is i.nested i.kind i.named j.nested;
    kind = j.kind;
    named = j.named;
    goes_on = j.goes_on;
  }

none_found : (tag : Token) (outer : List Token) (found : Token) → closing_end (tag ∷ outer) [] ≡ Some found → IsClosing tag outer [] found
unfolding closing_end
none_found tag outer found h = let bad : None ≡ Some found = h in absurd (cc)

-- one token, where fewer are known
module _ (n : ℕ) (t : Token) (ts : List Token) (fuel : length ts ≤ n) (found : Token)
    (known : (others : List Token) → length others ≤ n → (tag : Token) (outer : List Token) → closing_end (tag ∷ outer) others ≡ Some found → IsClosing tag outer others found)
    (tag : Token) (outer : List Token) where
  shorter : (i : IsClosing t (tag ∷ outer) ts found) → length i.others ≤ n
  shorter i = let k = ap length i.tokens in let m = length-append i.inner (i.end ∷ i.others) in omega arith

  by_kind : (kind : TokenKind) → t.kind ≡ kind → closing_by kind t (tag ∷ outer) (behind ts) ≡ Some found → IsClosing tag outer (t ∷ ts) found
  by_kind kinds.Start is h =
      let i = known ts fuel t (tag ∷ outer) h in
      by_start t ts tag outer found is i (known i.others (shorter i) tag outer i.goes_on)
  by_kind kinds.End is h = by_end t ts tag outer found is (bytes_eq (start_name tag.bytes) (end_name t.bytes)) refl h
  by_kind _ is h = by_other t ts tag outer found (subst (λ k. IsNoStartOrEnd k) (sym is) tt) (known ts fuel tag outer h)

closes : (n : ℕ) (ts : List Token) → length ts ≤ n → (tag : Token) (outer : List Token) (found : Token) → closing_end (tag ∷ outer) ts ≡ Some found → IsClosing tag outer ts found
closes zero [] fuel tag outer found h = none_found tag outer found h
closes zero (t ∷ ts) fuel tag outer found h = absurd (omega arith)
closes (suc n) [] fuel tag outer found h = none_found tag outer found h
closes (suc n) (t ∷ ts) fuel tag outer found h =
    by_kind n t ts (omega arith) found (λ others short one around is. closes n others short one around found is) tag outer t.kind refl
    (sym (one_passed t ts (tag ∷ outer) t.kind refl) ∙ h)

pub end_is : (start : Token) (ts : List Token) (found : Token) → closing_end (start ∷ []) ts ≡ Some found → IsEndTag start ts found
end_is start ts found h =
    let i = closes (length ts) ts (omega arith) start [] found h in
    let same : i.end ≡ found = (let e : Some i.end ≡ Some found = i.goes_on in cc) in
    record {
      inner = i.inner;
      others = i.others;
      tokens = i.tokens ∙ ap (λ x. i.inner ++ x ∷ i.others) same;
      nested = i.nested;
      kind = subst (λ (x : Token). x.kind ≡ kinds.End) same i.kind;
      named = subst (λ (x : Token). start_name start.bytes ≡ end_name x.bytes) same i.named;
    }

found_end : (start : Token) (ts : List Token) (end : Token) → IsEndTag start ts end → closing_end (start ∷ []) ts ≡ Some end
found_end start ts end i = ap (closing_end (start ∷ [])) i.tokens ∙ end_found start end i.inner i.others i.nested i.kind i.named

pub no_end : (start : Token) (ts : List Token) (end : Token) → closing_end (start ∷ []) ts ≡ None → IsEndTag start ts end → ⊥
no_end start ts end h i = let bad : None ≡ Some end = sym h ∙ found_end start ts end i in absurd (cc)

-- there is one at most
pub one_end : (start : Token) (ts : List Token) (one two : Token) → IsEndTag start ts one → IsEndTag start ts two → one ≡ two
one_end start ts one two i j = let same : Some one ≡ Some two = sym (found_end start ts one i) ∙ found_end start ts two j in cc

abbrev from_of : Option Token → Option ℕ
from_of found = option_map (λ (end : Token). end.from) found

none_told : (start : Token) (ts : List Token) → ((end : Token) → IsEndTag start ts end → ⊥) → (found : Option Token) → closing_end (start ∷ []) ts ≡ found → None ≡ from_of found
none_told start ts h None e = refl
none_told start ts h (Some end) e = absurd (h end (end_is start ts end e))

-- where it begins is told by it
pub end_told : (start : Token) (ts : List Token) (found : Option ℕ) → FoundEnd start ts found → found ≡ option_map (λ (end : Token). end.from) (closing_end (start ∷ []) ts)
end_told start ts None h = none_told start ts h (closing_end (start ∷ []) ts) refl
end_told start ts (Some at) h = ap (λ n. Some n) (sym h.2) ∙ ap from_of (sym (found_end start ts h.0 h.1))

-- ---- a stack of start tags with the innermost last

last_reversed : (open_tags left : List Token) (tag : Token) → open_tags ≡ left ++ tag ∷ [] → reverse open_tags ≡ tag ∷ reverse left
last_reversed open_tags left tag e = ap reverse e ∙ reverse-append left (tag ∷ [])

some_left : (token : Token) (next : List Token → Option Token) (open_tags : List Token) → 0 < length open_tags → closed_or token next (Some open_tags) ≡ next open_tags
some_left token next [] h = absurd (omega arith)
some_left token next (x ∷ xs) h = refl

pub not_innermost : (end : Token) (old new : List Token) (last : Token) → old ≡ new ++ last ∷ [] → (start_name last.bytes ≢ end_name end.bytes) → Closes end old new Broken
not_innermost end old new last e differ innermost outer is named =
    let tops : innermost ∷ reverse outer ≡ last ∷ reverse new = sym (last_reversed old outer innermost is) ∙ last_reversed old new last e in
    let same : innermost ≡ last = cc in
    differ (ap (λ (t : Token). start_name t.bytes) (sym same) ∙ named)

is_zero : (n : ℕ) → (n == 0) ≡ true → n ≡ 0
is_zero n h = grind (arith, nat_tests)

pub none_left : (xs : List Token) → (length xs == 0) ≡ true → xs ≡ []
none_left [] h = refl
none_left (x ∷ xs) h = absurd (let k = is_zero (length (x ∷ xs)) h in omega arith)

module _ (token : Token) (old new : List Token) (next : List Token → Option Token) where
  innermost_left : ClosesInnermost token old new → left_by_end token (reverse old) ≡ Some (reverse new)
  innermost_left h = ap (left_by_end token) (last_reversed old new h.0 h.1) ∙ closes_its h.0 token (reverse new) h.2

  not_closed : ((innermost : Token) (outer : List Token) → old ≡ outer ++ innermost ∷ [] → start_name innermost.bytes ≢ end_name token.bytes) →
      (left : List Token) → reverse old ≡ left → closed_or token next (left_by_end token left) ≡ None
  not_closed h [] e = refl
  not_closed h (x ∷ xs) e =
      elim (cases_Bool (bytes_eq (start_name x.bytes) (end_name token.bytes))) [
        | inl same ↦
            absurd (h x (reverse xs) (sym (reverse-reverse old) ∙ ap reverse e ∙ reverse-append (x ∷ []) xs)
            ((bytes_eq-Decides (start_name x.bytes) (end_name token.bytes)).0 same))
        | inr differ ↦ ap (λ (b : Bool). closed_or token next (cond b (Some xs) None)) differ
      ]

  end_passed : (found : Nesting) → Closes token old new found → closed_or token next (left_by_end token (reverse old)) ≡ found_by token new next found
  end_passed Inside h =
      let len = length-reverse new in
      let some = h.1 in
      ap (closed_or token next) (innermost_left h.0) ∙ some_left token next (reverse new) (omega arith)
  end_passed Closed h = ap (closed_or token next) (innermost_left h.0) ∙ ap (λ (ts : List Token). closed_or token next (Some (reverse ts))) h.1
  end_passed Broken h = not_closed h (reverse old) refl

  start_passed : (found : Nesting) → (found ≡ Inside) × (new ≡ old ++ token ∷ []) → next (token ∷ reverse old) ≡ found_by token new next found
  start_passed found h = ap next (sym (last_reversed new old token h.1)) ∙ ap (found_by token new next) (sym h.0)

  other_passed : (found : Nesting) → (found ≡ Inside) × (new ≡ old) → next (reverse old) ≡ found_by token new next found
  other_passed found h = ap (λ (ts : List Token). next (reverse ts)) (sym h.1) ∙ ap (found_by token new next) (sym h.0)

  -- what a token does to them tells what is found behind it
  pub passed_on : (kind : TokenKind) (found : Nesting) → PassesNested kind token old new found → closing_by kind token (reverse old) next ≡ found_by token new next found
  passed_on kinds.Start found h = start_passed found h
  passed_on kinds.End found h = end_passed found h
  passed_on _ found h = other_passed found h
