-- Where tokens end that a mark or a byte ends.
use Rattle.std.proofs.Common.{◌≡◌, ℕ, ◌+◌, ◌-◌, ◌<◌, ◌≤◌, true, false, inl, inr, List, length, drop, get_or, refl, sym, ◌∙◌, ap, subst, arith, codes}
use Rattle.std.specs.Prelude.{Option, Some, None}
use Rattle.std.specs.Option.{option_map}
use Rattle.std.specs.Str.{IsUtf8}
use Rattle.std.proofs.lemmas.Bool.{cases_lt}
use Rattle.std.proofs.lemmas.List.{drop-drop, get_or-drop, get_or_past}
use Rattle.std.proofs.lemmas.Str.{IsCharBoundary-end, IsCharBoundary-before_ascii, IsCharBoundary-after_ascii}
use Rattle.nx_base.specs.Characters.{is_space}
use Rattle.nx_base.specs.Text.{IsPlace}
use Rattle.nx_base.specs.Tokens.{Cut, cut_as, bytes_before, bytes_up_to, begins_with, begins_declaration, closed, unclosed, doctype_bytes, doctype, instruction, bad_rest}
use Rattle.nx_base.specs.declared.token.TokenKind.{TokenKind}
use Rattle.nx_base.specs.declared.token.TokenKind.TheVariants as kinds
use Rattle.nx_scan.specs.Ending.{EndsAt}
use Rattle.nx_scan.specs.declared.scan.End.{End}

-- a place behind an ASCII byte
behind_ascii : (text : List ℕ) (place byte : ℕ) → IsUtf8 text → 0 < place → place ≤ length text → get_or text (place - 1) 0 ≡ byte → byte < 128 → IsPlace text place
behind_ascii text place byte utf8 some within is ascii =
    let same : place - 1 + 1 ≡ place = omega arith in
    subst (λ n. IsPlace text n) same (IsCharBoundary-after_ascii text (place - 1) utf8 (omega arith) (omega (arith, is)))

-- a cut of this kind and length ends where it says
ends : (text : List ℕ) (at : ℕ) (cut : Cut) (kind : TokenKind) (place len : ℕ) → cut ≡ cut_as kind len → place ≡ at + len → IsPlace text place →
    EndsAt text at cut (record { kind = kind; place = place })
ends text at cut kind place len is there border =
    record { kind = sym (ap (λ (c : Cut). c.kind) is); place = there ∙ sym (ap (λ (c : Cut). at + c.len) is); border = border }

-- another name for the same cut
as_same : (text : List ℕ) (at : ℕ) (a b : Cut) (found : End) → a ≡ b → EndsAt text at a found → EndsAt text at b found
as_same text at a b found same e = subst (λ (c : Cut). EndsAt text at c found) same e

-- a token that a mark ends
pub closed_by : (kind : TokenKind) (mark rest : List ℕ) (skip n : ℕ) → bytes_before mark (drop skip rest) ≡ Some n → closed kind mark skip rest ≡ cut_as kind (skip + n + length mark)
unfolding closed
closed_by kind mark rest skip n e = rw e refl

pub not_closed : (kind : TokenKind) (mark rest : List ℕ) (skip : ℕ) → bytes_before mark (drop skip rest) ≡ None → closed kind mark skip rest ≡ unclosed rest
unfolding closed
not_closed kind mark rest skip e = rw e refl

module _ (text : List ℕ) (at skip : ℕ) (kind : TokenKind) (mark : List ℕ) where
  pub closed-some : (place : ℕ) → Some place ≡ option_map (λ n. at + skip + n + length mark) (bytes_before mark (drop (at + skip) text)) →
      IsUtf8 text → at + skip < place → place ≤ length text → get_or text (place - 1) 0 ≡ 62 →
      EndsAt text at (closed kind mark skip (drop at text)) (record { kind = kind; place = place })
  closed-some place e utf8 some within last = on (bytes_before mark (drop (at + skip) text)) refl e
    where
      on : (found : Option ℕ) → bytes_before mark (drop (at + skip) text) ≡ found → Some place ≡ option_map (λ n. at + skip + n + length mark) found →
          EndsAt text at (closed kind mark skip (drop at text)) (record { kind = kind; place = place })
      on None is f = let bad : Some place ≡ None = f in absurd (cc)
      on (Some n) is f =
          let same : Some place ≡ Some (at + skip + n + length mark) = f in
          let there : place ≡ at + skip + n + length mark = cc in
          ends text at (closed kind mark skip (drop at text)) kind place (skip + n + length mark)
          (closed_by kind mark (drop at text) skip n (ap (bytes_before mark) (drop-drop skip at text) ∙ is))
          (omega arith) (behind_ascii text place 62 utf8 (omega arith) within last (omega arith))

  pub closed-none : None ≡ option_map (λ n. at + skip + n + length mark) (bytes_before mark (drop (at + skip) text)) → (found : End) →
      EndsAt text at (unclosed (drop at text)) found → EndsAt text at (closed kind mark skip (drop at text)) found
  closed-none e end u = on (bytes_before mark (drop (at + skip) text)) refl e
    where
      on : (found : Option ℕ) → bytes_before mark (drop (at + skip) text) ≡ found → None ≡ option_map (λ n. at + skip + n + length mark) found →
          EndsAt text at (closed kind mark skip (drop at text)) end
      on None is f =
          as_same text at (unclosed (drop at text)) (closed kind mark skip (drop at text)) end
          (sym (not_closed kind mark (drop at text) skip (ap (bytes_before mark) (drop-drop skip at text) ∙ is))) u
      on (Some n) is f = let bad : None ≡ Some (at + skip + n + length mark) = f in absurd (cc)

-- a document type declaration
pub doctype_of : (rest : List ℕ) (n : ℕ) → doctype_bytes false 0 (drop 9 rest) ≡ Some n → doctype rest ≡ cut_as kinds.Doctype (9 + n)
unfolding doctype
doctype_of rest n e = rw e refl

pub no_doctype : (rest : List ℕ) → doctype_bytes false 0 (drop 9 rest) ≡ None → doctype rest ≡ unclosed rest
unfolding doctype
no_doctype rest e = rw e refl

pub doctype-some : (text : List ℕ) (at place : ℕ) → Some place ≡ option_map (λ n. at + 9 + n) (doctype_bytes false 0 (drop (at + 9) text)) →
    IsUtf8 text → at + 9 < place → place ≤ length text → get_or text (place - 1) 0 ≡ 62 →
    EndsAt text at (doctype (drop at text)) (record { kind = kinds.Doctype; place = place })
doctype-some text at place e utf8 some within last = on (doctype_bytes false 0 (drop (at + 9) text)) refl e
  where
    on : (found : Option ℕ) → doctype_bytes false 0 (drop (at + 9) text) ≡ found → Some place ≡ option_map (λ n. at + 9 + n) found →
        EndsAt text at (doctype (drop at text)) (record { kind = kinds.Doctype; place = place })
    on None is f = let bad : Some place ≡ None = f in absurd (cc)
    on (Some n) is f =
        let same : Some place ≡ Some (at + 9 + n) = f in
        let there : place ≡ at + 9 + n = cc in
        ends text at (doctype (drop at text)) kinds.Doctype place (9 + n)
        (doctype_of (drop at text) n (ap (doctype_bytes false 0) (drop-drop 9 at text) ∙ is))
        (omega arith) (behind_ascii text place 62 utf8 (omega arith) within last (omega arith))

pub doctype-none : (text : List ℕ) (at : ℕ) → None ≡ option_map (λ n. at + 9 + n) (doctype_bytes false 0 (drop (at + 9) text)) → (end : End) →
    EndsAt text at (unclosed (drop at text)) end → EndsAt text at (doctype (drop at text)) end
doctype-none text at e end u = on (doctype_bytes false 0 (drop (at + 9) text)) refl e
  where
    on : (found : Option ℕ) → doctype_bytes false 0 (drop (at + 9) text) ≡ found → None ≡ option_map (λ n. at + 9 + n) found →
        EndsAt text at (doctype (drop at text)) end
    on None is f =
        as_same text at (unclosed (drop at text)) (doctype (drop at text)) end
        (sym (no_doctype (drop at text) (ap (doctype_bytes false 0) (drop-drop 9 at text) ∙ is))) u
    on (Some n) is f = let bad : None ≡ Some (at + 9 + n) = f in absurd (cc)

-- a declaration
pub declaration-begins : (text : List ℕ) (at : ℕ) → begins_with (codes "<?xml") (drop at text) ≡ true → is_space (get_or text (at + 5) 0) ≡ begins_declaration (drop at text)
unfolding begins_declaration
declaration-begins text at e = rw (e, get_or-drop at text 5 0) refl

pub declaration-not : (text : List ℕ) (at : ℕ) → begins_with (codes "<?xml") (drop at text) ≡ false → false ≡ begins_declaration (drop at text)
unfolding begins_declaration
declaration-not text at e = rw e refl

pub instruction-declaration : (text : List ℕ) (at : ℕ) (end : End) → begins_declaration (drop at text) ≡ true →
    EndsAt text at (closed kinds.Decl (codes "?>") 6 (drop at text)) end → EndsAt text at (instruction (drop at text)) end
unfolding instruction
instruction-declaration text at end e c = rw e c

pub instruction-other : (text : List ℕ) (at : ℕ) (end : End) → begins_declaration (drop at text) ≡ false →
    EndsAt text at (closed kinds.Pi (codes "?>") 2 (drop at text)) end → EndsAt text at (instruction (drop at text)) end
unfolding instruction
instruction-other text at end e c = rw e c

-- a Bad token goes on through a `>` or up to a `<`
module _ (text : List ℕ) (from less greater : ℕ) (utf8 : IsUtf8 text)
    (less_is : less ≡ from + bytes_up_to 60 (drop from text)) (greater_is : greater ≡ from + bytes_up_to 62 (drop from text))
    (less_in : less ≤ length text) where
  pub bad-close : greater < less → get_or text greater 0 ≡ 62 →
      EndsAt text from (cut_as kinds.Bad (bad_rest (drop from text))) (record { kind = kinds.Bad; place = greater + 1 })
  unfolding bad_rest
  bad-close before is =
      let same : greater + 1 - 1 ≡ greater = omega arith in
      record {
        kind = refl;
        place = omega arith;
        border = behind_ascii text (greater + 1) 62 utf8 (omega arith) (omega arith) (ap (λ n. get_or text n 0) same ∙ is) (omega arith);
      }

  pub bad-open : less ≤ greater → (less < length text → get_or text less 0 ≡ 60) →
      EndsAt text from (cut_as kinds.Bad (bad_rest (drop from text))) (record { kind = kinds.Bad; place = less })
  unfolding bad_rest
  bad-open before is =
      record {
        kind = refl;
        place = omega arith;
        border = elim (cases_lt less (length text)) [
          | inl within ↦ IsCharBoundary-before_ascii text less within (omega (arith, is within))
          | inr past ↦ subst (λ n. IsPlace text n) (let e : length text ≡ less = omega arith in e) (IsCharBoundary-end text)
        ];
      }

-- behind the end of the text there is no white space
pub no_space : (text : List ℕ) (at : ℕ) → length text ≤ at → false ≡ is_space (get_or text at 0)
unfolding is_space
no_space text at past = rw (get_or_past text at 0 past) refl
