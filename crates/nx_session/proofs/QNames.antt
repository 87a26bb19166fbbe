-- A QName of a script's line is one by the grammar of names in tags.
use Rattle.std.proofs.Common.{◌≡◌, ℕ, ◌+◌, ◌<◌, ◌≤◌, Bool, true, false, cond, not, List, [], ◌∷◌, ◌++◌, length, take, drop}
use Rattle.std.proofs.Common.{refl, sym, ap, subst, ◌∙◌, arith, inl, inr}
use Rattle.std.specs.Prelude.{◌&&◌, ◌||◌, ◌==◌, nat_lt}
use Rattle.std.specs.List.{list_all, position_or_len, before_first, after_first}
use Rattle.std.specs.Str.{IsUtf8, chars}
use Rattle.std.proofs.lemmas.Bool.{and_parts, and_from, lt-ltb, le-ltb}
use Rattle.std.proofs.lemmas.List.{take_at, length-append}
use Rattle.std.proofs.Math.Seq.{drop-append-add}
use Rattle.nx_base.specs.Characters.{is_name_start, is_name_char, is_name, is_nc_name}
use Rattle.nx_base.specs.Names.{is_local}
use Rattle.nx_events.specs.Names.{is_colon, begins_unprefixed, goes_on_unprefixed, is_unprefixed, is_ncname, has_colon, prefix_of, local_of, is_qname}
use Rattle.nx_script.proofs.QNames.{local_text, no_colon, first_colon, prefixed_text}
use Rattle.nx_script.specs.QualifiedNames.{IsQName}
use Rattle.nx_tags.specs.Answers.{IsQName as IsTagName}

go_on : (cs : List ℕ) → list_all is_name_char cs ≡ true → list_all (λ c. not (c == 58)) cs ≡ true → list_all goes_on_unprefixed cs ≡ true
unfolding goes_on_unprefixed
go_on [] h k = refl
go_on (c ∷ cs) h k =
    let first = and_parts (is_name_char c) (list_all is_name_char cs) h in
    let none = and_parts (not (c == 58)) (list_all (λ c. not (c == 58)) cs) k in
    and_from (is_name_char c && not (is_colon c)) (list_all goes_on_unprefixed cs) (and_from (is_name_char c) (not (is_colon c)) first.0 none.0) (go_on cs first.1 none.1)

unprefixed_are : (cs : List ℕ) → is_nc_name cs ≡ true → is_unprefixed cs ≡ true
unfolding begins_unprefixed
unprefixed_are [] h = h
unprefixed_are (c ∷ cs) h =
    let whole = and_parts (is_name (c ∷ cs)) (list_all (λ c. not (c == 58)) (c ∷ cs)) h in
    let name = and_parts (is_name_start c) (list_all is_name_char cs) whole.0 in
    let none = and_parts (not (c == 58)) (list_all (λ c. not (c == 58)) cs) whole.1 in
    and_from (is_name_start c && not (is_colon c)) (list_all goes_on_unprefixed cs) (and_from (is_name_start c) (not (is_colon c)) name.0 none.0) (go_on cs name.1 none.1)

ncname_is : (name : List ℕ) → is_local name ≡ true → is_ncname name ≡ true
unfolding is_ncname
ncname_is name h = unprefixed_are (chars name) (local_text name h).1

unprefixed_qname : (name : List ℕ) → is_local name ≡ true → is_qname name ≡ true
unfolding is_qname prefix_of local_of
unprefixed_qname name h =
    let text = local_text name h in
    let none : has_colon name ≡ false = le-ltb (position_or_len is_colon name) (length name) (no_colon name text.0 text.1) in
    let whole : local_of name ≡ name = ap (λ (t : Bool). cond t (after_first is_colon name) name) none in
    and_from (not (has_colon name) || is_ncname (prefix_of name)) (is_ncname (local_of name))
    (ap (λ (t : Bool). not t || is_ncname (prefix_of name)) none) (ap is_ncname whole ∙ ncname_is name h)

prefixed_qname : (prefix local : List ℕ) → is_local prefix ≡ true → is_local local ≡ true → is_qname (prefix ++ 58 ∷ local) ≡ true
unfolding is_qname prefix_of local_of
prefixed_qname prefix local h k =
    let name = prefix ++ 58 ∷ local in
    let at : position_or_len is_colon name ≡ length prefix = first_colon prefix local h in
    let long = length-append prefix (58 ∷ local) in
    let some : has_colon name ≡ true = lt-ltb (position_or_len is_colon name) (length name) (omega (arith, at, long)) in
    let front : prefix_of name ≡ prefix = ap (λ (t : Bool). cond t (before_first is_colon name) []) some ∙ ap (λ n. take n name) at
    ∙ take_at prefix (58 ∷ local) (length prefix) refl in
    let back : local_of name ≡ local = ap (λ (t : Bool). cond t (after_first is_colon name) name) some ∙ ap (λ n. drop (n + 1) name) at
    ∙ drop-append-add prefix (58 ∷ local) 1 in
    and_from (not (has_colon name) || is_ncname (prefix_of name)) (is_ncname (local_of name))
    (ap (λ (t : Bool). not t || is_ncname (prefix_of name)) some ∙ ap is_ncname front ∙ ncname_is prefix h) (ap is_ncname back ∙ ncname_is local k)

pub tag_name : (name : List ℕ) → IsQName name → IsTagName name
tag_name name (inl h) = ((local_text name h).0, unprefixed_qname name h)
tag_name name (inr (prefix, local, e, h, k)) =
    let P : List ℕ → Type 0 = λ n. IsTagName n in
    subst P (sym e) (prefixed_text prefix local h k, prefixed_qname prefix local h k)
