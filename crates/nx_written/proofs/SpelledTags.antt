-- What a form of a tag spells is cut as that tag, in front of any text. The argument is one walk: outside of quotes, a start tag has neither
-- `/` (47) nor `>` (62) in front of its last `>`, and an empty-element tag none in front of `/>`; so no tag begins another.
use Rattle.std.proofs.Common.{◌≡◌, ◌≢◌, ℕ, suc, ◌+◌, ◌-◌, ◌<◌, Bool, true, false, cond, inl, inr, List, [], ◌∷◌, ◌++◌, length, take, drop, refl, sym, ◌∙◌, ap, subst, arith, length-append, append_assoc, codes}
use Rattle.std.specs.Prelude.{◌==◌, ◌&&◌, ◌||◌, not, slice_index, if◌then◌else◌, Option, Some, None}
use Rattle.std.specs.List.{AllByRecursion}
use Rattle.std.specs.Option.{option_map_or}
use Rattle.std.specs.Str.{chars}
use lib.Utf8.{encode, encodes, scalars}
use Rattle.std.proofs.Math.Seq.{take-append_seam}
use Rattle.std.proofs.lemmas.Bool.{and_parts, eqb-true, eq-eqb, ne_eqb, or_cases, cases_Bool, cases_lt, true≢false}
use Rattle.std.proofs.lemmas.List.{take-append-drop, length-drop}
use Rattle.std.proofs.lemmas.Str.{chars-append, chars-encodes, encode_ascii, char_from_byte, len_utf8_bounds, length-encode}
use Rattle.nx_base.specs.Characters.{is_space, is_name_start, is_name_char, is_quote}
use Rattle.nx_base.specs.Form.{Form, Set, space, name_start, name_char, only, other_than, has, one, seq, alt, many, joined, Spells, spells, shortest_front, IsShortestFront}
use Rattle.nx_base.specs.Tags.{name_form, spaces, quoted_rest, attribute, tag_rest, start_form, empty_form, end_form}
use Rattle.nx_base.specs.Tokens.{Cut, cut_as, tag, tags, tag_or, bad, begins_with, bytes_up_to, markup, first_token, order_mark}
use Rattle.nx_base.specs.declared.token.TokenKind.{TokenKind}
use Rattle.nx_base.specs.declared.token.TokenKind.TheVariants as kinds
use Rattle.nx_base.proofs.Forms.{spells-exactly}
use Rattle.nx_base.proofs.Fronts.{shortest-exactly}

-- ---- what is shown

-- the characters of such a form are a token of the kind, in front of any text
abbrev pub AreCutAs : Form → TokenKind → List ℕ → List ℕ → Bool → Type 0
AreCutAs form kind cs rest at_start =
    Spells form cs → first_token at_start (encodes cs ++ rest) ≡ cut_as kind (length (encodes cs))

-- so no tag begins another, and none is begun by another token
abbrev pub SpelledTagsAreCut : Type 0
SpelledTagsAreCut = (cs rest : List ℕ) (at_start : Bool) → scalars cs ≡ true →
    AreCutAs start_form kinds.Start cs rest at_start × AreCutAs empty_form kinds.Empty cs rest at_start
    × AreCutAs end_form kinds.End cs rest at_start

-- bytes without a `<` (60) are one text, up to a `<`
abbrev pub TextsAreCut : Type 0
TextsAreCut = (bytes rest : List ℕ) → 0 < length bytes → AllByRecursion (λ (b : ℕ). (b == 60) ≡ false) bytes →
    first_token false (bytes ++ 60 ∷ rest) ≡ cut_as kinds.Text (length bytes)

-- ---- the walk

-- outside of quotes (0) a tag may end with `/` or `>`
may_close : ℕ → ℕ → Bool
may_close quote c = (quote == 0) && (c == 47 || c == 62)

-- the quote that is open behind a character
behind : ℕ → ℕ → ℕ
behind quote c = if quote == 0 then (if is_quote c then c else 0) else (if c == quote then 0 else quote)

-- what is left from the first such character on
left_from : ℕ → List ℕ → List ℕ
left_from quote [] = []
left_from quote (c ∷ cs) = if may_close quote c then c ∷ cs else left_from (behind quote c) cs

one_on : (quote next c : ℕ) (cs : List ℕ) → may_close quote c ≡ false → behind quote c ≡ next → left_from quote (c ∷ cs) ≡ left_from next cs
unfolding left_from
one_on quote next c cs h e =
    ap (λ (t : Bool). if t then c ∷ cs else left_from (behind quote c) cs) h ∙ ap (λ q. left_from q cs) e

-- neither a quote nor `/` nor `>`
record IsPlain (c : ℕ) : Type 0 where
  double : (c == 34) ≡ false
  single : (c == 39) ≡ false
  slash : (c == 47) ≡ false
  close : (c == 62) ≡ false

plain_on : (c : ℕ) (cs : List ℕ) → IsPlain c → left_from 0 (c ∷ cs) ≡ left_from 0 cs
unfolding may_close behind
plain_on c cs p = one_on 0 0 c cs
    (ap (λ (t : Bool). t || (c == 62)) p.slash ∙ p.close)
    (ap (λ (t : Bool). if t || (c == 39) then c else 0) p.double ∙ ap (λ (t : Bool). if t then c else 0) p.single)

differs : (p : ℕ → Bool) (c d : ℕ) → p c ≡ true → p d ≡ false → (c == d) ≡ false
differs p c d h k = ne_eqb c d (λ e. true≢false (sym h ∙ ap p e ∙ k))

of_class : (p : ℕ → Bool) (c : ℕ) → p c ≡ true → p 34 ≡ false → p 39 ≡ false → p 47 ≡ false → p 62 ≡ false → IsPlain c
of_class p c h a b d e = record { double = differs p c 34 h a; single = differs p c 39 h b; slash = differs p c 47 h d; close = differs p c 62 h e }

space_plain : (c : ℕ) → is_space c ≡ true → IsPlain c
unfolding is_space
space_plain c h = of_class is_space c h refl refl refl refl

start_plain : (c : ℕ) → is_name_start c ≡ true → IsPlain c
unfolding is_name_start
start_plain c h = of_class is_name_start c h refl refl refl refl

char_plain : (c : ℕ) → is_name_char c ≡ true → IsPlain c
unfolding is_name_char is_name_start
char_plain c h = of_class is_name_char c h refl refl refl refl

byte_plain : (b c : ℕ) → IsPlain b → (c == b) ≡ true → IsPlain c
byte_plain b c p e = subst IsPlain (sym (eqb-true c b e)) p

-- ---- forms that are walked over

record Passes (form : Form) : Type 0 where
  by : (cs more : List ℕ) → Spells form cs → left_from 0 (cs ++ more) ≡ left_from 0 more

one_passes : (set : Set) → ((c : ℕ) → has set c ≡ true → IsPlain c) → Passes (one set)
unfolding Spells
one_passes set plain = record {
  by = λ cs more s. ap (λ xs. left_from 0 (xs ++ more)) s.2 ∙ plain_on s.0 more (plain s.0 s.1);
}

seq_passes : {a b : Form} → Passes a → Passes b → Passes (seq a b)
unfolding Spells
seq_passes {a} {b} p q = record {
  by = λ cs more s.
      ap (λ xs. left_from 0 (xs ++ more)) s.4 ∙ ap (left_from 0) (append_assoc s.0 s.1 more) ∙ p.by s.0 (s.1 ++ more) s.2 ∙ q.by s.1 more s.3;
}

alt_passes : {a b : Form} → Passes a → Passes b → Passes (alt a b)
unfolding Spells
alt_passes {a} {b} p q = record { by = λ cs more s. elim s [ inl h ↦ p.by cs more h | inr h ↦ q.by cs more h ] }

all_pass : {a : Form} → Passes a → (parts : List (List ℕ)) (more : List ℕ) → AllByRecursion (Spells a) parts → left_from 0 (joined parts ++ more) ≡ left_from 0 more
all_pass {a} p [] more all = refl
all_pass {a} p (part ∷ parts) more all =
    ap (left_from 0) (append_assoc part (joined parts) more) ∙ p.by part (joined parts ++ more) all.0 ∙ all_pass p parts more all.1

many_passes : {a : Form} → Passes a → Passes (many a)
unfolding Spells
many_passes {a} p = record { by = λ cs more s. ap (λ xs. left_from 0 (xs ++ more)) s.2 ∙ all_pass p s.0 more s.1 }

-- between quotes
inside_on : (quote c : ℕ) (cs : List ℕ) → (quote == 0) ≡ false → (c == quote) ≡ false → left_from quote (c ∷ cs) ≡ left_from quote cs
unfolding may_close behind
inside_on quote c cs q h = one_on quote quote c cs
    (ap (λ (t : Bool). t && (c == 47 || c == 62)) q)
    (ap (λ (t : Bool). if t then (if is_quote c then c else 0) else (if c == quote then 0 else quote)) q ∙ ap (λ (t : Bool). if t then 0 else quote) h)

inside_all : (quote : ℕ) (parts : List (List ℕ)) (more : List ℕ) → (quote == 0) ≡ false → AllByRecursion (Spells (one (other_than quote 60))) parts →
    left_from quote (joined parts ++ more) ≡ left_from quote more
unfolding Spells
inside_all quote [] more q all = refl
inside_all quote (part ∷ parts) more q all =
    let c = all.0.0 in
    ap (λ xs. left_from quote ((xs ++ joined parts) ++ more)) all.0.2
    ∙ inside_on quote c (joined parts ++ more) q (not_true (c == quote) (and_parts (not (c == quote)) (not (c == 60)) all.0.1).0)
    ∙ inside_all quote parts more q all.1
  where
    not_true : (t : Bool) → not t ≡ true → t ≡ false
    not_true true h = cc
    not_true false h = refl

opens : (quote : ℕ) (more : List ℕ) → is_quote quote ≡ true → left_from 0 (quote ∷ more) ≡ left_from quote more
unfolding may_close behind
opens quote more h = one_on 0 quote quote more
    (elim (or_cases (quote == 34) (quote == 39) h) [
      | inl e ↦ ap (λ c. c == 47 || c == 62) (eqb-true quote 34 e)
      | inr e ↦ ap (λ c. c == 47 || c == 62) (eqb-true quote 39 e)
    ])
    (ap (λ (t : Bool). if t then quote else 0) h)

closes : (quote : ℕ) (more : List ℕ) → (quote == 0) ≡ false → left_from quote (quote ∷ more) ≡ left_from 0 more
unfolding may_close behind
closes quote more q = one_on quote 0 quote more
    (ap (λ (t : Bool). t && (quote == 47 || quote == 62)) q)
    (ap (λ (t : Bool). if t then (if is_quote quote then quote else 0) else (if quote == quote then 0 else quote)) q
    ∙ ap (λ (t : Bool). if t then 0 else quote) (eq-eqb quote quote refl))

quoted_passes : (quote : ℕ) → is_quote quote ≡ true → (quote == 0) ≡ false → Passes (seq (one (only quote)) (quoted_rest quote))
unfolding Spells
quoted_passes quote is some = record {
  by = λ cs more s.
      let first : s.0 ≡ quote ∷ [] = s.2.2 ∙ ap (λ c. c ∷ []) (eqb-true s.2.0 quote s.2.1) in
      let rest = s.3 in
      let inner : rest.0 ≡ joined rest.2.0 = rest.2.2 in
      let last : rest.1 ≡ quote ∷ [] = rest.3.2 ∙ ap (λ c. c ∷ []) (eqb-true rest.3.0 quote rest.3.1) in
      ap (λ xs. left_from 0 (xs ++ more)) (s.4 ∙ ap (λ xs. xs ++ s.1) first)
      ∙ opens quote (s.1 ++ more) is
      ∙ ap (λ xs. left_from quote (xs ++ more)) (rest.4 ∙ ap (λ xs. xs ++ rest.1) inner)
      ∙ ap (left_from quote) (append_assoc (joined rest.2.0) rest.1 more)
      ∙ inside_all quote rest.2.0 (rest.1 ++ more) some rest.2.1
      ∙ ap (λ xs. left_from quote (xs ++ more)) last
      ∙ closes quote more some;
}

name_passes : Passes name_form
name_passes = seq_passes (one_passes name_start start_plain) (many_passes (one_passes name_char char_plain))

spaces_pass : Passes spaces
spaces_pass = many_passes (one_passes space space_plain)

byte_passes : (b : ℕ) → IsPlain b → Passes (one (only b))
byte_passes b p = one_passes (only b) (λ c h. byte_plain b c p h)

less_plain : IsPlain 60
less_plain = record { double = refl; single = refl; slash = refl; close = refl }

equals_plain : IsPlain 61
equals_plain = record { double = refl; single = refl; slash = refl; close = refl }

attributes_pass : Passes (many attribute)
attributes_pass = many_passes (seq_passes (one_passes space space_plain) (seq_passes spaces_pass (seq_passes name_passes
    (seq_passes spaces_pass (seq_passes (byte_passes 61 equals_plain) (seq_passes spaces_pass (alt_passes (quoted_passes 34 refl refl) (quoted_passes 39 refl refl))))))))

-- ---- where tags stop

-- what is left from the first such character on, in front of more
record Leads (form : Form) (left : List ℕ → List ℕ) : Type 0 where
  by : (cs more : List ℕ) → Spells form cs → left_from 0 (cs ++ more) ≡ left more

seq_leads : {a b : Form} {left : List ℕ → List ℕ} → Passes a → Leads b left → Leads (seq a b) left
unfolding Spells
seq_leads {a} {b} {left} p q = record {
  by = λ cs more s.
      ap (λ xs. left_from 0 (xs ++ more)) s.4 ∙ ap (left_from 0) (append_assoc s.0 s.1 more) ∙ p.by s.0 (s.1 ++ more) s.2 ∙ q.by s.1 more s.3;
}

stop_here : (c : ℕ) (more : List ℕ) → (c == 47 || c == 62) ≡ true → left_from 0 (c ∷ more) ≡ c ∷ more
unfolding left_from may_close
stop_here c more h = ap (λ (t : Bool). if t then c ∷ more else left_from (behind 0 c) more) h

close_leads : Leads (one (only 62)) (λ more. 62 ∷ more)
unfolding Spells
close_leads = record {
  by = λ cs more s.
      ap (λ xs. left_from 0 (xs ++ more)) (s.2 ∙ ap (λ c. c ∷ []) (eqb-true s.0 62 s.1)) ∙ stop_here 62 more refl;
}

slash_leads : Leads (seq (one (only 47)) (one (only 62))) (λ more. 47 ∷ 62 ∷ more)
unfolding Spells
slash_leads = record {
  by = λ cs more s.
      ap (λ xs. left_from 0 (xs ++ more))
      (s.4 ∙ ap (λ xs. xs ++ s.1) (s.2.2 ∙ ap (λ c. c ∷ []) (eqb-true s.2.0 47 s.2.1)) ∙ ap (λ xs. 47 ∷ xs) (s.3.2 ∙ ap (λ c. c ∷ []) (eqb-true s.3.0 62 s.3.1)))
      ∙ stop_here 47 (62 ∷ more) refl;
}

tag_leads : {close : Form} {left : List ℕ → List ℕ} → Leads close left → Leads (seq (one (only 60)) (seq name_form (tag_rest close))) left
tag_leads {close} {left} leads = seq_leads (byte_passes 60 less_plain) (seq_leads name_passes (seq_leads attributes_pass (seq_leads spaces_pass leads)))

start_leads : Leads start_form (λ more. 62 ∷ more)
start_leads = tag_leads close_leads

empty_leads : Leads empty_form (λ more. 47 ∷ 62 ∷ more)
empty_leads = tag_leads slash_leads

-- behind `</`: a name, white space, `>`
abbrev end_rest : Form
end_rest = seq name_form (seq spaces (one (only 62)))

end_rest_leads : Leads end_rest (λ more. 62 ∷ more)
end_rest_leads = seq_leads name_passes (seq_leads spaces_pass close_leads)

record EndLeads (cs : List ℕ) : Type 0 where
  rest : List ℕ
  spelled : Spells end_rest rest
  is : cs ≡ 60 ∷ 47 ∷ rest
  leads : (more : List ℕ) → left_from 0 (cs ++ more) ≡ 47 ∷ (rest ++ more)

end_leads : (cs : List ℕ) → Spells end_form cs → EndLeads cs
unfolding Spells
end_leads cs s =
    let less : s.0 ≡ 60 ∷ [] = s.2.2 ∙ ap (λ c. c ∷ []) (eqb-true s.2.0 60 s.2.1) in
    let slash : s.3.0 ≡ 47 ∷ [] = s.3.2.2 ∙ ap (λ c. c ∷ []) (eqb-true s.3.2.0 47 s.3.2.1) in
    let is : cs ≡ 60 ∷ 47 ∷ s.3.1 = s.4 ∙ ap (λ xs. xs ++ s.1) less ∙ ap (λ xs. 60 ∷ xs) (s.3.4 ∙ ap (λ xs. xs ++ s.3.1) slash) in
    record {
      rest = s.3.1;
      spelled = s.3.3;
      is = is;
      leads = λ more. ap (λ xs. left_from 0 (xs ++ more)) is ∙ plain_on 60 (47 ∷ (s.3.1 ++ more)) less_plain ∙ stop_here 47 (s.3.1 ++ more) refl;
    }

-- a name begins with no `>`
name_no_close : (form : Form) (cs more rest : List ℕ) → Spells (seq name_form form) cs → cs ++ more ≡ 62 ∷ rest → ⊥
unfolding Spells is_name_start
name_no_close form cs more rest s e =
    let c = s.2.2.0 in
    let front : s.0 ≡ c ∷ s.2.1 = s.2.4 ∙ ap (λ xs. xs ++ s.2.1) s.2.2.2 in
    let whole : c ∷ ((s.2.1 ++ s.1) ++ more) ≡ 62 ∷ rest = ap (λ xs. xs ++ more) (sym (s.4 ∙ ap (λ xs. xs ++ s.1) front)) ∙ e in
    let same : c ≡ 62 = cc in
    true≢false (sym s.2.2.1 ∙ ap is_name_start same)

-- ---- tags in front of one list end at one place

heads : (b c : ℕ) (xs ys : List ℕ) → b ∷ xs ≡ c ∷ ys → (b ≡ c) × (xs ≡ ys)
heads b c xs ys e = (cc, cc)

-- what follows both is the same
record OneEnd (form other : Form) : Type 0 where
  by : (cs more ds rest : List ℕ) → Spells form cs → Spells other ds → cs ++ more ≡ ds ++ rest → more ≡ rest

start_one : OneEnd start_form start_form
start_one = record {
  by = λ cs more ds rest s t e.
      (heads 62 62 more rest (sym (start_leads.by cs more s) ∙ ap (left_from 0) e ∙ start_leads.by ds rest t)).1;
}

empty_one : OneEnd empty_form empty_form
empty_one = record {
  by = λ cs more ds rest s t e.
      (heads 62 62 more rest (heads 47 47 (62 ∷ more) (62 ∷ rest) (sym (empty_leads.by cs more s) ∙ ap (left_from 0) e ∙ empty_leads.by ds rest t)).1).1;
}

end_one : OneEnd end_form end_form
end_one = record {
  by = λ cs more ds rest s t e.
      let p = end_leads cs s in
      let q = end_leads ds t in
      let tails = (heads 47 47 (p.rest ++ more) (q.rest ++ rest) (sym (p.leads more) ∙ ap (left_from 0) e ∙ q.leads rest)).1 in
      (heads 62 62 more rest (sym (end_rest_leads.by p.rest more p.spelled) ∙ ap (left_from 0) tails ∙ end_rest_leads.by q.rest rest q.spelled)).1;
}

-- and they are of one kind
differ : (b c : ℕ) (xs ys : List ℕ) → (b == c) ≡ false → b ∷ xs ≡ c ∷ ys → ⊥
differ b c xs ys n e = true≢false (sym (eq-eqb b c (heads b c xs ys e).0) ∙ n)

start_empty : (cs more ds rest : List ℕ) → Spells start_form cs → Spells empty_form ds → cs ++ more ≡ ds ++ rest → ⊥
start_empty cs more ds rest s t e =
    differ 62 47 more (62 ∷ rest) refl (sym (start_leads.by cs more s) ∙ ap (left_from 0) e ∙ empty_leads.by ds rest t)

start_end : (cs more ds rest : List ℕ) → Spells start_form cs → Spells end_form ds → cs ++ more ≡ ds ++ rest → ⊥
start_end cs more ds rest s t e =
    let q = end_leads ds t in
    differ 62 47 more (q.rest ++ rest) refl (sym (start_leads.by cs more s) ∙ ap (left_from 0) e ∙ q.leads rest)

empty_end : (cs more ds rest : List ℕ) → Spells empty_form cs → Spells end_form ds → cs ++ more ≡ ds ++ rest → ⊥
empty_end cs more ds rest s t e =
    let q = end_leads ds t in
    let tails = (heads 47 47 (62 ∷ more) (q.rest ++ rest) (sym (empty_leads.by cs more s) ∙ ap (left_from 0) e ∙ q.leads rest)).1 in
    name_no_close (seq spaces (one (only 62))) q.rest rest more q.spelled (sym tails)

-- ---- shortest fronts

-- no front is of the form
none_is : (p : List ℕ → Bool) (xs : List ℕ) → ((n : ℕ) → p (take n xs) ≡ false) → shortest_front p xs ≡ None
none_is p xs none = pick (shortest_front p xs) (shortest-exactly xs p)
  where
    pick : (found : Option (List ℕ)) → IsShortestFront p xs found → found ≡ None
    pick None is = refl
    pick (Some front) is = absurd (true≢false (sym is.0 ∙ ap p is.1 ∙ none (length front)))

shortest_is : (p : List ℕ → Bool) (cs rest : List ℕ) → p cs ≡ true → ((n : ℕ) → n < length cs → p (take n (cs ++ rest)) ≡ false) →
    shortest_front p (cs ++ rest) ≡ Some cs
shortest_is p cs rest h shorter = pick (shortest_front p (cs ++ rest)) (shortest-exactly (cs ++ rest) p)
  where
    own : take (length cs) (cs ++ rest) ≡ cs
    own = take-append_seam cs rest

    pick : (found : Option (List ℕ)) → IsShortestFront p (cs ++ rest) found → found ≡ Some cs
    pick None is = absurd (true≢false (sym h ∙ ap p (sym own) ∙ is (length cs)))
    pick (Some front) is = elim (cases_lt (length front) (length cs)) [
      | inl less ↦ absurd (true≢false (sym is.0 ∙ ap p is.1 ∙ shorter (length front) less))
      | inr more ↦ elim (cases_lt (length cs) (length front)) [
        | inl less ↦ absurd (true≢false (sym h ∙ ap p (sym own) ∙ is.2 (length cs) less))
        | inr same ↦ (let e : length front ≡ length cs = omega (arith, more, same) in
            ap Some (is.1 ∙ ap (λ n. take n (cs ++ rest)) e ∙ own))
      ]
    ]

-- a test of a form that fails
not_spelled : (form : Form) (cs : List ℕ) → (Spells form cs → ⊥) → spells form cs ≡ false
not_spelled form cs none = elim (cases_Bool (spells form cs)) [ inl h ↦ absurd (none ((spells-exactly form cs).0 h)) | inr h ↦ h ]

none_of : (form other : Form) (cs rest : List ℕ) → Spells form cs →
    ((ds more es left : List ℕ) → Spells form ds → Spells other es → ds ++ more ≡ es ++ left → ⊥) → shortest_front (spells other) (cs ++ rest) ≡ None
none_of form other cs rest s apart = none_is (spells other) (cs ++ rest)
    (λ n. not_spelled other (take n (cs ++ rest)) (λ t. apart cs rest (take n (cs ++ rest)) (drop n (cs ++ rest)) s t (sym (take-append-drop n (cs ++ rest)))))

found_is : (form : Form) (cs rest : List ℕ) → OneEnd form form → Spells form cs → shortest_front (spells form) (cs ++ rest) ≡ Some cs
found_is form cs rest one_end s = shortest_is (spells form) cs rest ((spells-exactly form cs).1 s)
    (λ n less. not_spelled form (take n (cs ++ rest)) (λ t. no_shorter n less
    (one_end.by cs rest (take n (cs ++ rest)) (drop n (cs ++ rest)) s t (sym (take-append-drop n (cs ++ rest))))))
  where
    no_shorter : (n : ℕ) → n < length cs → rest ≡ drop n (cs ++ rest) → ⊥
    no_shorter n less e =
        let both = length-append cs rest in
        let dropped : length rest ≡ length (cs ++ rest) - n = ap length e ∙ length-drop n (cs ++ rest) in
        absurd (omega (arith, both, dropped, less))

-- ---- the tag that is cut

chars_are : (cs rest : List ℕ) → scalars cs ≡ true → chars (encodes cs ++ rest) ≡ cs ++ chars rest
chars_are cs rest ok = chars-append (encodes cs) rest (cs, (ok, refl)) ∙ ap (λ xs. xs ++ chars rest) (chars-encodes cs ok)

-- a row that applies, and one that doesn't
row_is : (kind : TokenKind) (form : Form) (bytes cs : List ℕ) (other : Cut) → shortest_front (spells form) (chars bytes) ≡ Some cs →
    tag_or kind form bytes other ≡ cut_as kind (length (encodes cs))
unfolding tag_or
row_is kind form bytes cs other e = ap (λ found. option_map_or (λ ds. cut_as kind (length (encodes ds))) found other) e

row_passes : (kind : TokenKind) (form : Form) (bytes : List ℕ) (other : Cut) → shortest_front (spells form) (chars bytes) ≡ None →
    tag_or kind form bytes other ≡ other
unfolding tag_or
row_passes kind form bytes other e = ap (λ found. option_map_or (λ ds. cut_as kind (length (encodes ds))) found other) e

module _ (cs rest : List ℕ) (ok : scalars cs ≡ true) where
  front_is : (form : Form) (found : Option (List ℕ)) → shortest_front (spells form) (cs ++ chars rest) ≡ found →
      shortest_front (spells form) (chars (encodes cs ++ rest)) ≡ found
  front_is form found e = ap (shortest_front (spells form)) (chars_are cs rest ok) ∙ e

  end_tag_is : Spells end_form cs → tag tags (encodes cs ++ rest) ≡ cut_as kinds.End (length (encodes cs))
  unfolding tag
  end_tag_is s =
      let bytes = encodes cs ++ rest in
      row_is kinds.End end_form bytes cs (tag_or kinds.Start start_form bytes (tag_or kinds.Empty empty_form bytes (bad tags bytes)))
      (front_is end_form (Some cs) (found_is end_form cs (chars rest) end_one s))

  start_tag_is : Spells start_form cs → tag tags (encodes cs ++ rest) ≡ cut_as kinds.Start (length (encodes cs))
  unfolding tag
  start_tag_is s =
      let bytes = encodes cs ++ rest in
      row_passes kinds.End end_form bytes (tag_or kinds.Start start_form bytes (tag_or kinds.Empty empty_form bytes (bad tags bytes)))
      (front_is end_form None (none_of start_form end_form cs (chars rest) s start_end))
      ∙ row_is kinds.Start start_form bytes cs (tag_or kinds.Empty empty_form bytes (bad tags bytes))
      (front_is start_form (Some cs) (found_is start_form cs (chars rest) start_one s))

  empty_tag_is : Spells empty_form cs → tag tags (encodes cs ++ rest) ≡ cut_as kinds.Empty (length (encodes cs))
  unfolding tag
  empty_tag_is s =
      let bytes = encodes cs ++ rest in
      row_passes kinds.End end_form bytes (tag_or kinds.Start start_form bytes (tag_or kinds.Empty empty_form bytes (bad tags bytes)))
      (front_is end_form None (none_of empty_form end_form cs (chars rest) s empty_end))
      ∙ row_passes kinds.Start start_form bytes (tag_or kinds.Empty empty_form bytes (bad tags bytes))
      (front_is start_form None (none_of empty_form start_form cs (chars rest) s (λ ds more es left a b e. start_empty es left ds more b a (sym e))))
      ∙ row_is kinds.Empty empty_form bytes cs (bad tags bytes)
      (front_is empty_form (Some cs) (found_is empty_form cs (chars rest) empty_one s))

-- ---- it is a token: neither `!` (33) nor `?` (63) follows its `<`

record NoMark (bytes : List ℕ) : Type 0 where
  bang : (slice_index bytes 0 == 33) ≡ false
  question : (slice_index bytes 0 == 63) ≡ false

no_mark_begins : (d : ℕ) (mark bytes : List ℕ) → (slice_index bytes 0 == d) ≡ false → begins_with (60 ∷ d ∷ mark) (60 ∷ bytes) ≡ false
unfolding begins_with
no_mark_begins d mark [] h = refl
no_mark_begins d mark (b ∷ bytes) h = ap (λ (t : Bool). t && begins_with mark bytes) h

is_tag : (at_start : Bool) (bytes : List ℕ) → NoMark bytes → first_token at_start (60 ∷ bytes) ≡ tag tags (60 ∷ bytes)
unfolding first_token markup begins_with
is_tag at_start bytes n =
    let rest = 60 ∷ bytes in
    let no_order : (at_start && begins_with order_mark rest) ≡ false = no_bom at_start in
    rw (no_order, no_mark_begins 33 (45 ∷ 45 ∷ []) bytes n.bang, no_mark_begins 33 (codes "[CDATA[") bytes n.bang, no_mark_begins 33 (codes "DOCTYPE") bytes n.bang, no_mark_begins 63 [] bytes n.question) refl
  where
    no_bom : (t : Bool) → (t && false) ≡ false
    no_bom true = refl
    no_bom false = refl

head_differs : (c d : ℕ) (rest : List ℕ) → d < 128 → c ≢ d → (slice_index (encode c ++ rest) 0 == d) ≡ false
head_differs c d rest low n =
    elim (cases_Bool (slice_index (encode c ++ rest) 0 == d)) [
      | inl e ↦ absurd (let is = eqb-true (slice_index (encode c ++ rest) 0) d e in
          let more = length-append (encode c) rest in let some = length-encode c in let few = (len_utf8_bounds c).0 in
          let same : c ≡ slice_index (encode c ++ rest) 0 = char_from_byte (encode c ++ rest) rest c refl (omega arith) (omega arith) in
          n (same ∙ is))
      | inr e ↦ e
    ]

-- a form behind `<`, which spells no text that begins with either mark
record Unmarked (form : Form) : Type 0 where
  by : (cs more : List ℕ) → Spells form cs → NoMark (encodes cs ++ more)

headed : (form : Form) (c : ℕ) (cs more tail : List ℕ) → cs ≡ c ∷ tail → c ≢ 33 → c ≢ 63 → NoMark (encodes cs ++ more)
headed form c cs more tail is a b =
    let spelled : encodes cs ++ more ≡ encode c ++ (encodes tail ++ more) = ap (λ xs. encodes xs ++ more) is ∙ append_assoc (encode c) (encodes tail) more in
    subst NoMark (sym spelled) (record { bang = head_differs c 33 (encodes tail ++ more) (omega arith) a; question = head_differs c 63 (encodes tail ++ more) (omega arith) b })

not_of_class : (p : ℕ → Bool) (c d : ℕ) → p c ≡ true → p d ≡ false → c ≢ d
not_of_class p c d h k e = true≢false (sym h ∙ ap p e ∙ k)

name_unmarked : (form : Form) → Unmarked (seq name_form form)
unfolding Spells is_name_start
name_unmarked form = record {
  by = λ cs more s.
      let c = s.2.2.0 in
      let is : cs ≡ c ∷ (s.2.1 ++ s.1) = s.4 ∙ ap (λ xs. xs ++ s.1) (s.2.4 ∙ ap (λ xs. xs ++ s.2.1) s.2.2.2) in
      headed form c cs more (s.2.1 ++ s.1) is (not_of_class is_name_start c 33 s.2.2.1 refl) (not_of_class is_name_start c 63 s.2.2.1 refl);
}

slash_unmarked : (form : Form) → Unmarked (seq (one (only 47)) form)
unfolding Spells
slash_unmarked form = record {
  by = λ cs more s.
      let c = s.2.0 in
      let is : cs ≡ c ∷ s.1 = s.4 ∙ ap (λ xs. xs ++ s.1) s.2.2 in
      headed form c cs more s.1 is (not_of_class (λ x. x == 47) c 33 s.2.1 refl) (not_of_class (λ x. x == 47) c 63 s.2.1 refl);
}

token_is : (form : Form) (cs rest : List ℕ) (at_start : Bool) → Unmarked form → Spells (seq (one (only 60)) form) cs →
    first_token at_start (encodes cs ++ rest) ≡ tag tags (encodes cs ++ rest)
unfolding Spells
token_is form cs rest at_start free s =
    let is : encodes cs ≡ 60 ∷ encodes s.1 =
    ap encodes (s.4 ∙ ap (λ xs. xs ++ s.1) (s.2.2 ∙ ap (λ c. c ∷ []) (eqb-true s.2.0 60 s.2.1))) ∙ ap (λ bs. bs ++ encodes s.1) (encode_ascii 60 (omega arith)) in
    let P : List ℕ → Type 0 = λ xs. first_token at_start (xs ++ rest) ≡ tag tags (xs ++ rest) in
    subst P (sym is) (is_tag at_start (encodes s.1 ++ rest) (free.by s.1 rest s.3))

pub spelled_tags_are_cut : SpelledTagsAreCut
spelled_tags_are_cut cs rest at_start ok = (
  λ s. token_is (seq name_form (tag_rest (one (only 62)))) cs rest at_start (name_unmarked (tag_rest (one (only 62)))) s ∙ start_tag_is cs rest ok s,
  λ s. token_is (seq name_form (tag_rest (seq (one (only 47)) (one (only 62))))) cs rest at_start (name_unmarked (tag_rest (seq (one (only 47)) (one (only 62))))) s
      ∙ empty_tag_is cs rest ok s,
  λ s. token_is (seq (one (only 47)) (seq name_form (seq spaces (one (only 62))))) cs rest at_start (slash_unmarked (seq name_form (seq spaces (one (only 62))))) s
      ∙ end_tag_is cs rest ok s,
)

-- ---- texts

up_to_less : (bytes rest : List ℕ) → AllByRecursion (λ (b : ℕ). (b == 60) ≡ false) bytes → bytes_up_to 60 (bytes ++ 60 ∷ rest) ≡ length bytes
unfolding bytes_up_to
up_to_less [] rest h = refl
up_to_less (b ∷ bytes) rest h =
    ap (λ (t : Bool). cond t 0 (bytes_up_to 60 (bytes ++ 60 ∷ rest) + 1)) h.0 ∙ ap (λ n. n + 1) (up_to_less bytes rest h.1) ∙ (let e : length bytes + 1 ≡ suc (length bytes) = omega arith in e)

pub texts_are_cut : TextsAreCut
unfolding first_token begins_with
texts_are_cut [] rest some h = absurd (omega arith)
texts_are_cut (b ∷ bytes) rest some h =
    ap (λ (t : Bool). cond (t && true) (markup (b ∷ (bytes ++ 60 ∷ rest))) (cut_as kinds.Text (bytes_up_to 60 (b ∷ (bytes ++ 60 ∷ rest))))) h.0
    ∙ ap (cut_as kinds.Text) (up_to_less (b ∷ bytes) rest h)
