-- The schema that the tokens of a text name, one token at a time.
use Rattle.std.proofs.Common.{◌≡◌, [], ◌∷◌, ◌||◌, ◌+◌, ◌<◌, length, Bool, codes, List, ℕ, true, false, cond, Option, Some, None, is_some, IfSome, IsUtf8, drop, not, ◌&&◌, refl, sym, ap, subst, ◌∙◌}
use Rattle.std.proofs.lemmas.Bool.{cond-true, cond-false, false_from_ne_true}
use Rattle.std.proofs.lemmas.Str.{is_utf8-from_IsUtf8, IsUtf8-from_is_utf8}
use Rattle.std.specs.List.{list_any}
use Rattle.std.specs.Str.{is_utf8}
use Rattle.nx_events.specs.Items.{items_of_text}
use Rattle.nx_events.specs.Texts.{ItemsAreText}
use Rattle.nx_events.specs.declared.item.Item.{Item}
use Rattle.nx_locate.specs.RulesRead.{is_fault, value_among, IsTextIfGiven}
use Rattle.nx_locate.proofs.RuleTexts.{either, value_text}
use Rattle.nx_base.specs.Text.{IsPlace}
use Rattle.nx_base.specs.Tokens.{tokens_from, cut}
use Rattle.nx_base.specs.declared.token.Token.{Token}
use Rattle.nx_scan.specs.Borders.{TokensGoOn, TokensFit}
use Rattle.nx_locate.proofs.Cutting.{tokens_are}
use Rattle.nx_locate.specs.Rules.{first_of}
use Rattle.nx_locate.specs.NamedSchemas.{reference, is_relax_ng, is_named_so, schema_among, is_faultless, schema_in, named_by, is_tag, first_named, named_schema}

pub named_none : first_named [] ≡ None
unfolding first_named
named_none = refl

-- a tag ends the front
pub named_tag : (token : Token) (others : List Token) → is_tag token.kind ≡ true → first_named (token ∷ others) ≡ None
unfolding first_named
named_tag token others tag = cond-true _ _ _ tag

-- a token that names one is the first
pub named_here : (token : Token) (others : List Token) (found : Option (List ℕ)) → is_tag token.kind ≡ false → found ≡ named_by token → is_some found ≡ true →
    first_named (token ∷ others) ≡ found
unfolding first_named
named_here token others None other is some = let never : ⊥ = cc in absurd never
named_here token others (Some href) other is some =
    cond-false _ _ _ other ∙ ap (λ (o : Option (List ℕ)). first_of o (first_named others)) (sym is)

-- one that names none is passed over
pub named_later : (token : Token) (others : List Token) (found : Option (List ℕ)) → is_tag token.kind ≡ false → found ≡ named_by token → is_some found ≡ false →
    first_named (token ∷ others) ≡ first_named others
unfolding first_named
named_later token others None other is some =
    cond-false _ _ _ other ∙ ap (λ (o : Option (List ℕ)). first_of o (first_named others)) (sym is)
named_later token others (Some href) other is some = let never : ⊥ = cc in absurd never

-- ---- one tag

pub not_text : (tag : List ℕ) → ¬ IsUtf8 tag → None ≡ schema_in tag
unfolding schema_in is_faultless
not_text tag other =
    let e : is_utf8 tag ≡ false = false_from_ne_true _ (λ valid. other (IsUtf8-from_is_utf8 tag valid)) in
    sym (cond-false _ _ _ (ap (λ b. b && not (list_any is_fault (items_of_text tag))) e))

pub is_read : (tag written text : List ℕ) (items shown behind : List Item) → IsUtf8 tag → written ≡ tag → text ≡ written → items ≡ items_of_text text →
    shown ≡ items → list_any is_fault shown ≡ false → behind ≡ drop 1 shown → schema_among behind ≡ schema_in tag
unfolding schema_in is_faultless
is_read tag written text items shown behind utf8 same is_text are shows none is_behind =
    let all : shown ≡ items_of_text tag = shows ∙ are ∙ ap items_of_text (is_text ∙ same) in
    let clean : list_any is_fault (items_of_text tag) ≡ false = subst (λ (its : List Item). list_any is_fault its ≡ false) all none in
    let faultless : (is_utf8 tag && not (list_any is_fault (items_of_text tag))) ≡ true = rw (is_utf8-from_IsUtf8 tag utf8, clean) refl in
    ap schema_among (is_behind ∙ ap (drop 1) all) ∙ sym (cond-true _ _ _ faultless)

-- ---- texts

behind_text : (items : List Item) → ItemsAreText items → ItemsAreText (drop 1 items)
behind_text [] h = tt
behind_text (item ∷ items) h = h.1

reference_text : (href : Option (List ℕ)) (typed : Bool) → IsTextIfGiven href → IfSome (reference href typed) IsUtf8
reference_text None typed h = tt
reference_text (Some href) typed h = either (λ (o : Option (List ℕ)). IfSome o IsUtf8) (typed || is_named_so href) (Some href) None h tt

pub among_text : (items shown behind : List Item) (found : Option (List ℕ)) → ItemsAreText items → shown ≡ items → behind ≡ drop 1 shown →
    found ≡ schema_among behind → IfSome found IsUtf8
unfolding schema_among
among_text items shown behind found texts shows is_behind is =
    let all : ItemsAreText behind = subst ItemsAreText (sym (is_behind ∙ ap (drop 1) shows)) (behind_text items texts) in
    subst (λ (o : Option (List ℕ)). IfSome o IsUtf8) (sym is) (reference_text (value_among (codes "href") behind) _ (value_text (codes "href") behind all))

-- ---- the tokens of a text

-- what a place names, its token first
pub from_token : (text : List ℕ) (at : ℕ) (token : Token) → TokensFit → IsUtf8 text → IsPlace text at → at < length text → token ≡ cut text at → TokensGoOn →
    first_named (tokens_from text at) ≡ named_schema text → first_named (token ∷ tokens_from text (at + length token.bytes)) ≡ named_schema text
from_token text at token fit is_text place inside is_cut go_on named =
    sym (ap first_named (tokens_are text at token fit is_text place inside is_cut go_on)) ∙ named
