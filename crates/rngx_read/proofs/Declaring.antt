-- The own declarations of the tags of a text.
use Rattle.std.proofs.Common.{◌≡◌, ℕ, zero, suc, ◌+◌, ◌-◌, ◌≤◌, Bool, true, false, cond, ◌||◌, List, [], ◌∷◌, ◌++◌, length, take, drop, refl, sym, ap, subst, ◌∙◌, arith, append_assoc, append-nil}
use Rattle.std.specs.Prelude.{◌&&◌, ◌==◌, codes, nat_eq}
use Rattle.std.specs.List.{flat_map, list_any, starts_with}
use Rattle.std.specs.Str.{byte, bytes_eq}
use Rattle.std.proofs.lemmas.Grind.{common_steps}
use Rattle.std.proofs.lemmas.Slice.Eq.{bytes_eq-Decides}
use Rattle.nx_base.specs.Tokens.{AreTokensFrom}
use Rattle.nx_base.specs.declared.name.Name.{Name}
use Rattle.nx_base.specs.declared.token.Token.{Token}
use Rattle.nx_events.specs.declared.tag.Attribute.{Attribute as TheAttribute}
use Rattle.nx_events.specs.Declarations.{is_declaration, declaration_flaw, binding_unless, bindings, bindings_at}
use Rattle.nx_events.specs.InForce.{pairs_of, scope_of}
use Rattle.nx_events.specs.Items.{first_state, own_bindings, state_behind}
use Rattle.nx_events.specs.Tags.{start_name, tag_attributes, attributes_from, written_name, begins_attribute, attribute_at, front_attribute, front_len}
use Rattle.nx_events.proofs.Folding.{tokens_end}
use Rattle.rngx_read.specs.Elements.{declared_of_token}
use Rattle.rngx_read.specs.Marking.{as_start, has_xmlns}

-- those in force behind the tag as a start tag that stands alone
pub own_are : (token : Token) → scope_of (state_behind first_state (as_start token)) ≡ pairs_of (own_bindings token)
unfolding scope_of state_behind
own_are token = refl

-- a tag without an attribute that declares has none
abbrev declaring : TheAttribute → Bool
declaring it = is_declaration it.name

none_bound : (before attributes : List TheAttribute) → list_any declaring attributes ≡ false → bindings before attributes ≡ []
unfolding bindings bindings_at
none_bound before [] none = refl
none_bound before (it ∷ more) none = by_test (is_declaration it.name) none (none_bound (before ++ it ∷ []) more)
  where
    by_test : (b : Bool) → (b || list_any declaring more) ≡ false → (list_any declaring more ≡ false → bindings (before ++ it ∷ []) more ≡ []) →
        cond b (binding_unless it (declaration_flaw before it)) [] ++ bindings (before ++ it ∷ []) more ≡ []
    by_test true never others = absurd cc
    by_test false rest others = others rest

-- the name of a declaration begins with `xmlns`
begins_so : (name : List ℕ) → is_declaration name ≡ true → take 5 name ≡ codes "xmlns"
unfolding is_declaration
begins_so name h = by_test (bytes_eq name (codes "xmlns")) refl h
  where
    by_test : (b : Bool) → bytes_eq name (codes "xmlns") ≡ b → (b || starts_with nat_eq name (codes "xmlns:")) ≡ true → take 5 name ≡ codes "xmlns"
    by_test true e t = ap (take 5) ((bytes_eq-Decides name (codes "xmlns")).0 e)
    by_test false e t =
        let six : codes "xmlns:" ≡ take 6 name = (bytes_eq-Decides (codes "xmlns:") (take 6 name)).0 t in
        let five : take 5 (take 6 name) ≡ take 5 name = grind (arith, common_steps) in
        sym (ap (take 5) six ∙ five)

-- what a name begins with, the bytes that it stands in do, too
take_front : (m n : ℕ) (bytes : List ℕ) → length (take m (take n bytes)) ≡ m → take m (take n bytes) ≡ take m bytes
take_front zero n bytes e = refl
take_front (suc m) zero bytes e = absurd (omega (arith, e))
take_front (suc m) (suc n) [] e = refl
take_front (suc m) (suc n) (b ∷ bytes) e = ap (λ (xs : List ℕ). b ∷ xs) (take_front m n bytes (omega (arith, e)))

front_of : (n : ℕ) (bytes : List ℕ) → take 5 (take n bytes) ≡ codes "xmlns" → take 5 bytes ≡ codes "xmlns"
front_of n bytes h = sym (take_front 5 n bytes (ap length h)) ∙ h

-- it stands at the front
at_front : (b : ℕ) (bytes : List ℕ) → take 5 (b ∷ bytes) ≡ codes "xmlns" → (b == byte "x" && starts_with nat_eq (b ∷ bytes) (codes "xmlns")) ≡ true
at_front b bytes h =
    let first : b ≡ byte "x" = cc in
    let all : starts_with nat_eq (b ∷ bytes) (codes "xmlns") ≡ true = (bytes_eq-Decides (codes "xmlns") (take 5 (b ∷ bytes))).1 (sym h) in
    rw (all, first) refl

-- where `xmlns` doesn't stand, no name begins with it, and none declares
none_at_front : (b : ℕ) (bytes : List ℕ) → has_xmlns (b ∷ bytes) ≡ false → is_declaration (written_name (b ∷ bytes)) ≡ false
unfolding has_xmlns written_name
none_at_front b bytes none = by_test (is_declaration (written_name (b ∷ bytes))) refl
  where
    by_test : (d : Bool) → is_declaration (written_name (b ∷ bytes)) ≡ d → d ≡ false
    by_test false e = refl
    by_test true e =
        let here = at_front b bytes (front_of _ (b ∷ bytes) (begins_so (written_name (b ∷ bytes)) e)) in
        absurd cc

none_further : (b : ℕ) (bytes : List ℕ) → has_xmlns (b ∷ bytes) ≡ false → has_xmlns bytes ≡ false
unfolding has_xmlns
none_further b bytes none = by_test (b == byte "x" && starts_with nat_eq (b ∷ bytes) (codes "xmlns")) none
  where
    by_test : (d : Bool) → (d || has_xmlns bytes) ≡ false → has_xmlns bytes ≡ false
    by_test true e = absurd cc
    by_test false e = e

none_behind : (n : ℕ) (bytes : List ℕ) → has_xmlns bytes ≡ false → has_xmlns (drop n bytes) ≡ false
none_behind zero bytes none = none
none_behind (suc n) [] none = none
none_behind (suc n) (b ∷ bytes) none = none_behind n bytes (none_further b bytes none)

none_declare : (n at : ℕ) (bytes : List ℕ) → has_xmlns bytes ≡ false → list_any declaring (attributes_from n at bytes) ≡ false
unfolding attributes_from front_attribute attribute_at
none_declare n at [] none = refl
none_declare (suc n) at (b ∷ bytes) none = none_declare n (at + 1) bytes (none_further b bytes none)
none_declare zero at (b ∷ bytes) none =
    by_begins (begins_attribute (b ∷ bytes)) (none_declare (front_len (b ∷ bytes) - 1) (at + 1) bytes (none_further b bytes none))
  where
    more : List TheAttribute
    more = attributes_from (front_len (b ∷ bytes) - 1) (at + 1) bytes

    by_begins : (begins : Bool) → list_any declaring more ≡ false → list_any declaring (cond begins (attribute_at at (b ∷ bytes) ∷ []) [] ++ more) ≡ false
    by_begins false rest = rest
    by_begins true rest = rw (none_at_front b bytes none) rest

pub none_are : (token : Token) → has_xmlns token.bytes ≡ false → pairs_of (own_bindings token) ≡ []
unfolding pairs_of tag_attributes
none_are token none =
    let n = 1 + length (start_name token.bytes) in
    ap pairs_of
    (none_bound [] (tag_attributes token.from token.bytes)
    (none_declare 0 (token.from + n) (drop n token.bytes) (none_behind n token.bytes none)))

-- a token's end is a place of the text
pub room_for : (len at : ℕ) (token : Token) (rest all : List Token) → all ≡ token ∷ rest → AreTokensFrom len at all →
    token.from + length token.bytes ≤ len
unfolding AreTokensFrom
room_for len at token rest all are h =
    let here : AreTokensFrom len at (token ∷ rest) = subst (AreTokensFrom len at) are h in
    let end = tokens_end len (at + length token.bytes) rest here.1 in
    omega (arith, here.0, end)

pub tokens_behind : (len at : ℕ) (token : Token) (rest all : List Token) → all ≡ token ∷ rest → AreTokensFrom len at all →
    AreTokensFrom len (at + length token.bytes) rest
unfolding AreTokensFrom
tokens_behind len at token rest all are h = let here : AreTokensFrom len at (token ∷ rest) = subst (AreTokensFrom len at) are h in here.1

-- those of one token more
pub declared_more : (token : Token) (rest all : List Token) (old new whole : List (List Name)) → all ≡ token ∷ rest →
    new ≡ old ++ declared_of_token token → old ++ flat_map declared_of_token all ≡ whole → new ++ flat_map declared_of_token rest ≡ whole
declared_more token rest all old new whole are added so_far =
    ap (λ (l : List (List Name)). l ++ flat_map declared_of_token rest) added
    ∙ append_assoc old (declared_of_token token) (flat_map declared_of_token rest)
    ∙ ap (λ (l : List Token). old ++ flat_map declared_of_token l) (sym are) ∙ so_far

pub declared_whole : (all : List Token) (old whole : List (List Name)) → length all ≡ 0 → old ++ flat_map declared_of_token all ≡ whole → old ≡ whole
declared_whole [] old whole none so_far = sym (append-nil old) ∙ so_far
declared_whole (token ∷ all) old whole none so_far = absurd (omega (arith, none))
