-- Of the faults of a text those that are told, and the law of strings and faults.
use Rattle.std.proofs.Common.{◌≡◌, ℕ, IsUtf8, Bool, true, false, cond, inl, inr, Some, List, [], ◌∷◌, ◌++◌, length, refl, ap, subst, sym, ◌∙◌, arith}
use Rattle.std.specs.Prelude.{◌&&◌, ◌||◌}
use Rattle.std.proofs.lemmas.Bool.{cases_Bool, or_cases, or_left, or_right}
use Rattle.nx_base.specs.declared.fault.Fault.{Fault}
use Rattle.nx_base.specs.declared.fault.Kind.{Kind}
use Rattle.nx_base.specs.declared.fault.Kind.TheVariants.{BadChar, BadText}
use Rattle.nx_events.specs.Strings.{string_of}
use Rattle.nx_events.specs.CharacterFaults.{once, is_bad_char, is_bad_text, is_told, told_behind, character_faults}
use Rattle.nx_events.specs.StringsRead.{IsToldOnce, HasKind, AreTold, none, again, new, IsReadAs, StringsAreRead}
use Rattle.nx_events.specs.declared.reading.Reading.{Reading}
use Rattle.nx_events.specs.declared.character_fault.Told.{Told}
use Rattle.nx_events.proofs.CharacterFaults.{by_inner, kept_both, told_both, apart, both_once, chars_once}
use Rattle.nx_events.proofs.StringParts.{all_faults}
use Rattle.nx_events.proofs.StringsRead.{reads_sound, some_reading}

-- which of the two kinds came before
told_of : List Kind → Told
told_of [] = record { bad_char = false; bad_text = false }
told_of (kind ∷ kinds) = told_behind (told_of kinds) (Some kind)

-- the fault at the front, unless it is told already
one_more : (told : Told) (f : Fault) (fs : List Fault) →
    both_once told (f ∷ fs) ≡ cond (is_told told f.kind) [] (f ∷ []) ++ both_once (told_behind told (Some f.kind)) fs
unfolding once
one_more told f fs =
    let b = told.bad_text && is_bad_text f.kind in
    let rest = once (told.bad_text || is_bad_text f.kind) is_bad_text fs in
    by_inner told.bad_char b f rest
    ∙ ap (λ (x : List Fault). x ++ chars_once (cond b told.bad_char (told.bad_char || is_bad_char f.kind)) rest) (kept_both b (told.bad_char && is_bad_char f.kind) (f ∷ []))
    ∙ ap (λ (t : Bool). cond (is_told told f.kind) [] (f ∷ []) ++ chars_once t rest) (told_both told.bad_char told.bad_text (is_bad_char f.kind) (is_bad_text f.kind) (apart f.kind))

nothing_more : (told : Told) → both_once told [] ≡ []
unfolding once
nothing_more told = refl

bad_char_only : (kind : Kind) → is_bad_char kind ≡ true → kind ≡ BadChar
bad_char_only BadChar h = refl
bad_char_only _ h = absurd (let bad : false ≡ true = h in cc)

bad_text_only : (kind : Kind) → is_bad_text kind ≡ true → kind ≡ BadText
bad_text_only BadText h = refl
bad_text_only _ h = absurd (let bad : false ≡ true = h in cc)

char_came : (before : List Kind) → (told_of before).bad_char ≡ true → HasKind before BadChar
unfolding told_of
char_came [] h = absurd (let bad : false ≡ true = h in cc)
char_came (kind ∷ before) h =
    elim (or_cases (told_of before).bad_char (is_bad_char kind) h) [ inl e ↦ inr (char_came before e) | inr e ↦ inl (bad_char_only kind e) ]

text_came : (before : List Kind) → (told_of before).bad_text ≡ true → HasKind before BadText
unfolding told_of
text_came [] h = absurd (let bad : false ≡ true = h in cc)
text_came (kind ∷ before) h =
    elim (or_cases (told_of before).bad_text (is_bad_text kind) h) [ inl e ↦ inr (text_came before e) | inr e ↦ inl (bad_text_only kind e) ]

char_told : (before : List Kind) → HasKind before BadChar → (told_of before).bad_char ≡ true
unfolding told_of
char_told [] h = absurd h
char_told (kind ∷ before) h =
    elim h [ inl e ↦ or_right (told_of before).bad_char (is_bad_char kind) (ap is_bad_char e) | inr e ↦ or_left (told_of before).bad_char (is_bad_char kind) (char_told before e) ]

text_told : (before : List Kind) → HasKind before BadText → (told_of before).bad_text ≡ true
unfolding told_of
text_told [] h = absurd h
text_told (kind ∷ before) h =
    elim h [ inl e ↦ or_right (told_of before).bad_text (is_bad_text kind) (ap is_bad_text e) | inr e ↦ or_left (told_of before).bad_text (is_bad_text kind) (text_told before e) ]

at_true : (t : Bool) → (t && true) ≡ t
at_true true = refl
at_true false = refl

at_false : (t : Bool) → (t && false) ≡ false
at_false true = refl
at_false false = refl

-- it is told already exactly where it is of a kind that is told once and came before
no_char : (told : Told) → is_told told BadChar ≡ told.bad_char
no_char told = ap (λ (t : Bool). t || (told.bad_text && false)) (at_true told.bad_char) ∙ last told.bad_char told.bad_text
  where
    last : (t u : Bool) → (t || (u && false)) ≡ t
    last true u = refl
    last false true = refl
    last false false = refl

no_text : (told : Told) → is_told told BadText ≡ told.bad_text
no_text told = last told.bad_char told.bad_text
  where
    last : (t u : Bool) → ((t && false) || (u && true)) ≡ u
    last true true = refl
    last true false = refl
    last false true = refl
    last false false = refl

other_kind : (told : Told) → ((told.bad_char && false) || (told.bad_text && false)) ≡ false
other_kind told = last told.bad_char told.bad_text
  where
    last : (t u : Bool) → ((t && false) || (u && false)) ≡ false
    last true true = refl
    last true false = refl
    last false true = refl
    last false false = refl

is_again : (before : List Kind) (kind : Kind) → IsToldOnce kind → HasKind before kind → is_told (told_of before) kind ≡ true
is_again before BadChar o h = no_char (told_of before) ∙ char_told before h
is_again before BadText o h = no_text (told_of before) ∙ text_told before h
is_again before _ o h = absurd o

again_is : (before : List Kind) (kind : Kind) → is_told (told_of before) kind ≡ true → IsToldOnce kind × HasKind before kind
again_is before BadChar h = (tt, char_came before (sym (no_char (told_of before)) ∙ h))
again_is before BadText h = (tt, text_came before (sym (no_text (told_of before)) ∙ h))
again_is before _ h = absurd (let bad : false ≡ true = sym (other_kind (told_of before)) ∙ h in cc)

told_sound : (before : List Kind) (all told : List Fault) → AreTold before all told → told ≡ both_once (told_of before) all
unfolding told_of
told_sound before all told (none _ _ _ e f) = f ∙ sym (ap (both_once (told_of before)) e ∙ nothing_more (told_of before))
told_sound before all told (again _ _ _ fault others o h more e) =
    let test = is_again before fault.kind o h in
    told_sound (fault.kind ∷ before) others told more
    ∙ sym (ap (both_once (told_of before)) e ∙ one_more (told_of before) fault others
    ∙ ap (λ (t : Bool). cond t [] (fault ∷ []) ++ both_once (told_behind (told_of before) (Some fault.kind)) others) test)
told_sound before all told (new _ _ _ fault others later n more e f) =
    let test : is_told (told_of before) fault.kind ≡ false =
    elim (cases_Bool (is_told (told_of before) fault.kind)) [ inl h ↦ absurd (let t = again_is before fault.kind h in n t.0 t.1) | inr h ↦ h ] in
    f ∙ ap (λ xs. fault ∷ xs) (told_sound (fault.kind ∷ before) others later more)
    ∙ sym (ap (both_once (told_of before)) e ∙ one_more (told_of before) fault others
    ∙ ap (λ (t : Bool). cond t [] (fault ∷ []) ++ both_once (told_behind (told_of before) (Some fault.kind)) others) test)

some_told : (all : List Fault) (before : List Kind) → (told : List Fault) × AreTold before all told
some_told [] before = ([], none before [] [] refl refl)
some_told (fault ∷ others) before =
    let r = some_told others (fault.kind ∷ before) in
    elim (cases_Bool (is_told (told_of before) fault.kind)) [
      | inl h ↦ (let t = again_is before fault.kind h in (r.0, again before (fault ∷ others) r.0 fault others t.0 t.1 r.1 refl))
      | inr h ↦ (fault ∷ r.0, new before (fault ∷ others) (fault ∷ r.0) fault others r.0 (λ o k. absurd (let bad : true ≡ false = sym (is_again before fault.kind o k) ∙ h in cc)) r.1 refl refl)
    ]

-- the law
all_told : (reading : Reading) (at : ℕ) (bytes : List ℕ) → both_once (told_of []) (all_faults reading at bytes) ≡ character_faults reading at bytes
unfolding told_of character_faults
all_told reading at bytes = refl

read_sound : (reading : Reading) (at : ℕ) (bytes string : List ℕ) (faults : List Fault) → IsUtf8 bytes → IsReadAs reading at bytes string faults →
    (string ≡ string_of reading bytes) × (faults ≡ character_faults reading at bytes)
read_sound reading at bytes string faults u h =
    let t = reads_sound reading at bytes string h.all h.reads u in
    (t.0, told_sound [] h.all faults h.told ∙ ap (both_once (told_of [])) t.1 ∙ all_told reading at bytes)

pub strings_are_read : StringsAreRead
strings_are_read reading at bytes string faults u = (
  λ h. read_sound reading at bytes string faults u h,
  λ e. (let r = some_reading (length bytes) reading at bytes (omega arith) u in
      let k = some_told r.faults [] in
      let found : IsReadAs reading at bytes r.string k.0 = record { all = r.faults; reads = r.reads; told = k.1 } in
      let t = read_sound reading at bytes r.string k.0 u found in
      subst (λ xs. IsReadAs reading at bytes xs faults) (t.0 ∙ sym e.0) (subst (λ fs. IsReadAs reading at bytes r.string fs) (t.1 ∙ sym e.1) found)),
)
