-- Tokens that are names are read, and names that are read are tokens.
use Rattle.std.proofs.Common.{◌≡◌, ℕ, suc, ◌+◌, true, false, eqb, ◌||◌, List, [], ◌∷◌, ◌++◌, length, take, drop, Some, Ok, refl, sym, ap, ◌∙◌, arith, inl, inr}
use Rattle.std.proofs.lemmas.Bool.{cases_Bool, eqb-true, ne_eqb, eq-eqb}
use Rattle.std.proofs.lemmas.List.{append_assoc, length-append, take_at, drop_at, take-append-drop}
use Rattle.std.proofs.lemmas.List.Folds.{length-prefix_len}
use Rattle.nx_base.specs.Characters.{is_name_start, is_name_char, is_nc_name}
use Rattle.rnc_lex.specs.declared.letter.Letter.{Letter}
use Rattle.rnc_lex.specs.declared.token.Lexeme.{Lexeme}
use Rattle.rnc_lex.specs.declared.token.Lexeme.TheVariants as lexeme
use Rattle.rnc_lex.specs.Tokens.{said, utf8, begins_nc_name, IsWholeName, IsQualified, IsPlainName, escaped_identifier, prefixed_name, namespace_wildcard}
use Rattle.rnc_lex.specs.Reading.{front, name_len, word_of, plain, prefixed, wildcard, qualified, after_name, named, escaped_name}
use Rattle.rnc_lex.proofs.Prefixes.{Pass, FirstFails, prefix_len_is, front_passes, rest_fails, or_none}
use Rattle.rnc_lex.proofs.Names.{in_name, name_parts, parts_name, name_ends, ends_name, plain_stands}
use Rattle.rnc_lex.proofs.Meant.{Meant, is_meant, IsFront}

-- ---- what stands there is read

len_is : (more rest : List Letter) → Pass in_name more → FirstFails in_name rest → name_len (more ++ rest) ≡ length more
len_is more rest all ends = prefix_len_is in_name more rest all ends

named_is : (first : Letter) (more rest : List Letter) → Pass in_name more → FirstFails in_name rest → named first (more ++ rest) ≡ after_name first more rest
unfolding named
named_is first more rest all ends = rw (len_is more rest all ends, take_at more rest (length more) refl, drop_at more rest (length more) refl) refl

-- a `:` with what makes a prefix of the name before it
qualifies : (colon next : Letter) (rest : List Letter) → eqb colon.character 58 ≡ true → begins_nc_name next.character || eqb next.character 42 ≡ true → IsQualified (said (colon ∷ next ∷ rest))
qualifies colon next rest is test = (said (next ∷ rest), ap (λ c. c ∷ said (next ∷ rest)) (eqb-true colon.character 58 is), test)

behind_colon_plain : (first : Letter) (more : List Letter) (colon : Letter) (rest : List Letter) → eqb colon.character 58 ≡ true → (IsQualified (said (colon ∷ rest)) → ⊥) → qualified first more rest ≡ plain first more
unfolding qualified
behind_colon_plain first more colon [] is none = refl
behind_colon_plain first more colon (next ∷ rest) is none =
    elim (cases_Bool (begins_nc_name next.character || eqb next.character 42)) [
      | inl test ↦ absurd (none (qualifies colon next rest is test))
      | inr test ↦ let parts = or_none (begins_nc_name next.character) (eqb next.character 42) test in rw (parts.1, parts.0) refl
    ]

after_plain : (first : Letter) (more rest : List Letter) → (IsQualified (said rest) → ⊥) → after_name first more rest ≡ plain first more
after_plain first more [] none = refl
after_plain first more (colon ∷ rest) none =
    elim (cases_Bool (eqb colon.character 58)) [
      | inl is ↦ rw is (behind_colon_plain first more colon rest is none)
      | inr is ↦ rw is refl
    ]

pub plain_read : (letters rest : List Letter) (found : Lexeme) → IsPlainName letters rest → word_of (utf8 letters) ≡ found → IsFront named letters rest (Some found)
unfolding plain
plain_read letters rest found ((name, ends), none) e =
    let parts = name_parts letters name in
    record {
      first = parts.first;
      more = parts.more;
      letters_are = parts.letters_are;
      reads_so = named_is parts.first parts.more rest parts.all (name_ends rest ends) ∙ after_plain parts.first parts.more rest none
          ∙ ap (λ x. Ok (front (Some x) (length parts.more))) (ap (λ (t : List Letter). word_of (utf8 t)) (sym parts.letters_are) ∙ e);
    }

-- `:` stands in no name
colon_fails : (colon : Letter) (rest : List Letter) → colon.character ≡ 58 → FirstFails in_name (colon ∷ rest)
unfolding is_name_char is_name_start
colon_fails colon rest e = rw e refl

-- `*` begins no name
begun_no_star : (c : ℕ) → begins_nc_name c ≡ true → eqb c 42 ≡ false
unfolding is_name_start
begun_no_star c h = ne_eqb c 42 (λ e. let none : begins_nc_name c ≡ false = rw e refl in absurd cc)

behind_colon_prefixed : (first : Letter) (more : List Letter) (next : Letter) (local rest : List Letter) → begins_nc_name next.character ≡ true → Pass in_name local → FirstFails in_name rest
    → qualified first more (next ∷ (local ++ rest)) ≡ Ok (front (Some (lexeme.PrefixedName (utf8 (first ∷ more)) (utf8 (next ∷ local)))) (length more + 2 + length local))
unfolding qualified prefixed
behind_colon_prefixed first more next local rest begins all ends =
    rw (begun_no_star next.character begins, begins, len_is local rest all ends, take_at local rest (length local) refl) refl

at_colon : (first : Letter) (more : List Letter) (colon : Letter) (rest : List Letter) → colon.character ≡ 58 → after_name first more (colon ∷ rest) ≡ qualified first more rest
at_colon first more colon rest e = rw e refl

pub prefixed_read : (letters rest name local : List Letter) (colon : Letter) (found : Lexeme) → letters ≡ name ++ colon ∷ local → is_nc_name (said name) ≡ true → colon.character ≡ 58 → IsWholeName local rest
    → found ≡ lexeme.PrefixedName (utf8 name) (utf8 local) → IsFront named letters rest (Some found)
prefixed_read letters rest name local colon found e front_name is (local_name, ends) what =
    let n = name_parts name front_name in
    let l = name_parts local local_name in
    let more = n.more ++ colon ∷ l.first ∷ l.more in
    let long = length-append n.more (colon ∷ l.first ∷ l.more) in
    let len : length n.more + 2 + length l.more ≡ length more = omega (arith, long) in
    let texts : lexeme.PrefixedName (utf8 (n.first ∷ n.more)) (utf8 (l.first ∷ l.more)) ≡ found =
    ap (λ (t : List Letter). lexeme.PrefixedName (utf8 t) (utf8 (l.first ∷ l.more))) (sym n.letters_are) ∙ ap (λ (t : List Letter). lexeme.PrefixedName (utf8 name) (utf8 t)) (sym l.letters_are) ∙ sym what in
    record {
      first = n.first;
      more = more;
      letters_are = e ∙ ap (λ (t : List Letter). t ++ colon ∷ local) n.letters_are ∙ ap (λ (t : List Letter). n.first ∷ (n.more ++ colon ∷ t)) l.letters_are;
      reads_so =
          ap (named n.first) (append_assoc n.more (colon ∷ l.first ∷ l.more) rest)
          ∙ named_is n.first n.more (colon ∷ l.first ∷ (l.more ++ rest)) n.all (colon_fails colon (l.first ∷ (l.more ++ rest)) is)
          ∙ at_colon n.first n.more colon (l.first ∷ (l.more ++ rest)) is
          ∙ behind_colon_prefixed n.first n.more l.first l.more rest l.begins l.all (name_ends rest ends)
          ∙ ap (λ x. Ok (front (Some x) (length n.more + 2 + length l.more))) texts
          ∙ ap (λ k. Ok (front (Some found) k)) len;
    }

star_read : (first : Letter) (more : List Letter) (star : Letter) (rest : List Letter) → star.character ≡ 42 → qualified first more (star ∷ rest) ≡ wildcard first more
unfolding qualified
star_read first more star rest e = rw e refl

pub wildcard_read : (letters rest name mark : List Letter) (found : Lexeme) → letters ≡ name ++ mark → is_nc_name (said name) ≡ true → said mark ≡ 58 ∷ 42 ∷ [] → found ≡ lexeme.NamespaceWildcard (utf8 name) → IsFront named letters rest (Some found)
wildcard_read letters rest name [] found e front_name is what = absurd cc
wildcard_read letters rest name (colon ∷ []) found e front_name is what = absurd cc
wildcard_read letters rest name (colon ∷ star ∷ x ∷ mark) found e front_name is what = absurd cc
wildcard_read letters rest name (colon ∷ star ∷ []) found e front_name is what =
    let n = name_parts name front_name in
    let more = n.more ++ colon ∷ star ∷ [] in
    let long = length-append n.more (colon ∷ star ∷ []) in
    let len : length n.more + 2 ≡ length more = omega (arith, long) in
    let colon_is : colon.character ≡ 58 = cc in
    let star_is : star.character ≡ 42 = cc in
    record {
      first = n.first;
      more = more;
      letters_are = e ∙ ap (λ (t : List Letter). t ++ colon ∷ star ∷ []) n.letters_are;
      reads_so =
          ap (named n.first) (append_assoc n.more (colon ∷ star ∷ []) rest)
          ∙ named_is n.first n.more (colon ∷ star ∷ rest) n.all (colon_fails colon (star ∷ rest) colon_is)
          ∙ at_colon n.first n.more colon (star ∷ rest) colon_is ∙ star_read n.first n.more star rest star_is
          ∙ ap (λ (t : List Letter). Ok (front (Some (lexeme.NamespaceWildcard (utf8 t))) (length n.more + 2))) (sym n.letters_are)
          ∙ ap (λ x. Ok (front (Some x) (length n.more + 2))) (sym what)
          ∙ ap (λ k. Ok (front (Some found) k)) len;
    }

escaped_is : (first next : Letter) (more rest : List Letter) → begins_nc_name next.character ≡ true → Pass in_name more → FirstFails in_name rest
    → escaped_name first (next ∷ (more ++ rest)) ≡ Ok (front (Some (lexeme.Identifier (utf8 (next ∷ more)))) (1 + length more))
unfolding escaped_name
escaped_is first next more rest begins all ends = rw (begins, len_is more rest all ends, take_at more rest (length more) refl) refl

pub escaped_read : (letters rest : List Letter) (mark : Letter) (name : List Letter) (found : Lexeme) → letters ≡ mark ∷ name → IsWholeName name rest → found ≡ lexeme.Identifier (utf8 name) → IsFront escaped_name letters rest (Some found)
escaped_read letters rest mark name found e (whole, ends) what =
    let n = name_parts name whole in
    let len : 1 + length n.more ≡ suc (length n.more) = omega arith in
    record {
      first = mark;
      more = n.first ∷ n.more;
      letters_are = e ∙ ap (λ (t : List Letter). mark ∷ t) n.letters_are;
      reads_so = escaped_is mark n.first n.more rest n.begins n.all (name_ends rest ends)
          ∙ ap (λ (t : List Letter). Ok (front (Some (lexeme.Identifier (utf8 t))) (1 + length n.more))) (sym n.letters_are)
          ∙ ap (λ x. Ok (front (Some x) (1 + length n.more))) (sym what) ∙ ap (λ k. Ok (front (Some found) k)) len;
    }

-- ---- what is read stands there

-- a name, so many letters behind its first, with the others behind it
record Read (first : Letter) (behind more rest : List Letter) : Type 0 where
  behind_are : behind ≡ more ++ rest
  begins : begins_nc_name first.character ≡ true
  all : Pass in_name more
  ends : FirstFails in_name rest

whole_name : (first : Letter) (behind more rest : List Letter) → Read first behind more rest → IsWholeName (first ∷ more) rest
whole_name first behind more rest r = (parts_name first more r.begins r.all, ends_name rest r.ends)

plain_meant : (first : Letter) (behind more rest : List Letter) → Read first behind more rest → (IsQualified (said rest) → ⊥) → Meant first behind (plain first more)
unfolding plain
plain_meant first behind more rest r none =
    is_meant first behind more rest (length more) (Some (word_of (utf8 (first ∷ more)))) r.behind_are refl (plain_stands (first ∷ more) rest (whole_name first behind more rest r, none))

no_qualified_nil : IsQualified [] → ⊥
no_qualified_nil (more, e, begins) = cc

not_colon : (colon : Letter) (rest : List Letter) → eqb colon.character 58 ≡ false → IsQualified (said (colon ∷ rest)) → ⊥
not_colon colon rest h (more, e, begins) = let is : colon.character ≡ 58 = cc in let same = eq-eqb colon.character 58 is in absurd cc

colon_alone : (colon : Letter) → IsQualified (said (colon ∷ [])) → ⊥
colon_alone colon ([], e, begins) = begins
colon_alone colon (x ∷ more, e, begins) = absurd cc

colon_then : (colon next : Letter) (rest : List Letter) → begins_nc_name next.character ≡ false → eqb next.character 42 ≡ false → IsQualified (said (colon ∷ next ∷ rest)) → ⊥
colon_then colon next rest a b ([], e, begins) = begins
colon_then colon next rest a b (c ∷ more, e, begins) =
    let is : next.character ≡ c = cc in
    let none : begins_nc_name next.character || eqb next.character 42 ≡ false = rw (a, b) refl in
    let some : begins_nc_name next.character || eqb next.character 42 ≡ true = ap (λ x. begins_nc_name x || eqb x 42) is ∙ begins in
    absurd cc

local_read : (next : Letter) (rest : List Letter) → begins_nc_name next.character ≡ true → let len = name_len rest in Read next rest (take len rest) (drop len rest)
local_read next rest begins = let len = name_len rest in record { behind_are = sym (take-append-drop len rest); begins = begins; all = front_passes in_name rest; ends = rest_fails in_name rest }

prefixed_meant : (first : Letter) (behind more : List Letter) (colon next : Letter) (rest : List Letter) → Read first behind more (colon ∷ next ∷ rest) → colon.character ≡ 58 → begins_nc_name next.character ≡ true → Meant first behind (prefixed first more next rest)
unfolding prefixed
prefixed_meant first behind more colon next rest r is begins =
    let len = name_len rest in
    let local = take len rest in
    let l = local_read next rest begins in
    let name = first ∷ more in
    let longer = more ++ colon ∷ next ∷ local in
    let long = length-append more (colon ∷ next ∷ local) in
    let short = length-prefix_len in_name rest in
    let whole : behind ≡ longer ++ drop len rest =
    r.behind_are ∙ ap (λ (t : List Letter). more ++ colon ∷ next ∷ t) l.behind_are ∙ sym (append_assoc more (colon ∷ next ∷ local) (drop len rest)) in
    is_meant first behind longer (drop len rest) (length more + 2 + len) (Some (lexeme.PrefixedName (utf8 name) (utf8 (next ∷ local)))) whole (omega (arith, long, short))
    (prefixed_name name (next ∷ local) colon refl (parts_name first more r.begins r.all) is (whole_name next rest local (drop len rest) l) refl)

wildcard_meant : (first : Letter) (behind more : List Letter) (colon next : Letter) (rest : List Letter) → Read first behind more (colon ∷ next ∷ rest) → colon.character ≡ 58 → next.character ≡ 42 → Meant first behind (wildcard first more)
wildcard_meant first behind more colon next rest r is star =
    let name = first ∷ more in
    let longer = more ++ colon ∷ next ∷ [] in
    let long = length-append more (colon ∷ next ∷ []) in
    let mark : said (colon ∷ next ∷ []) ≡ 58 ∷ 42 ∷ [] = ap (λ c. c ∷ next.character ∷ []) is ∙ ap (λ c. 58 ∷ c ∷ []) star in
    is_meant first behind longer rest (length more + 2) (Some (lexeme.NamespaceWildcard (utf8 name))) (r.behind_are ∙ sym (append_assoc more (colon ∷ next ∷ []) rest)) (omega (arith, long))
    (namespace_wildcard name (colon ∷ next ∷ []) refl (parts_name first more r.begins r.all) mark refl)

qualified_meant : (first : Letter) (behind more : List Letter) (colon : Letter) (rest : List Letter) → Read first behind more (colon ∷ rest) → colon.character ≡ 58 → Meant first behind (qualified first more rest)
unfolding qualified
qualified_meant first behind more colon [] r is = plain_meant first behind more (colon ∷ []) r (colon_alone colon)
qualified_meant first behind more colon (next ∷ rest) r is =
    elim (cases_Bool (eqb next.character 42)) [
      | inl star ↦ rw star (wildcard_meant first behind more colon next rest r is (eqb-true next.character 42 star))
      | inr star ↦
          elim (cases_Bool (begins_nc_name next.character)) [
            | inl begins ↦ rw (star, begins) (prefixed_meant first behind more colon next rest r is begins)
            | inr begins ↦ rw (star, begins) (plain_meant first behind more (colon ∷ next ∷ rest) r (colon_then colon next rest begins star))
          ]
    ]

after_meant : (first : Letter) (behind more rest : List Letter) → Read first behind more rest → Meant first behind (after_name first more rest)
after_meant first behind more [] r = plain_meant first behind more [] r no_qualified_nil
after_meant first behind more (colon ∷ rest) r =
    elim (cases_Bool (eqb colon.character 58)) [
      | inl is ↦ rw is (qualified_meant first behind more colon rest r (eqb-true colon.character 58 is))
      | inr is ↦ rw is (plain_meant first behind more (colon ∷ rest) r (not_colon colon rest is))
    ]

pub named_meant : (first : Letter) (behind : List Letter) → begins_nc_name first.character ≡ true → Meant first behind (named first behind)
unfolding named
named_meant first behind begins = let len = name_len behind in after_meant first behind (take len behind) (drop len behind) (local_read first behind begins)

pub escaped_meant : (first : Letter) (behind : List Letter) → first.character ≡ 92 → Meant first behind (escaped_name first behind)
unfolding escaped_name
escaped_meant first [] is = (refl, rw is refl)
escaped_meant first (next ∷ rest) is =
    elim (cases_Bool (begins_nc_name next.character)) [
      | inl begins ↦
          let len = name_len rest in
          let local = take len rest in
          let l = local_read next rest begins in
          let short = length-prefix_len in_name rest in
          rw begins
          (is_meant first (next ∷ rest) (next ∷ local) (drop len rest) (1 + len) (Some (lexeme.Identifier (utf8 (next ∷ local)))) (ap (λ (t : List Letter). next ∷ t) l.behind_are) (omega (arith, short))
          (escaped_identifier first (next ∷ local) refl is (whole_name next rest local (drop len rest) l) refl))
      | inr begins ↦ rw begins (refl, rw is refl)
    ]
