-- Where a byte order mark stands, and where a token ends that has no end of its own.
use Rattle.std.proofs.Common.{◌≡◌, ℕ, ◌+◌, ◌<◌, Bool, true, false, List, length, drop, refl, arith, length-drop, codes}
use Rattle.std.specs.Prelude.{◌==◌, ◌&&◌, if◌then◌else◌, Option, Some, None}
use Rattle.std.specs.Option.{option_map_or}
use Rattle.std.specs.Str.{IsUtf8, chars}
use lib.Utf8.{encodes}
use Rattle.std.proofs.lemmas.Bool.{and_parts, eqb-true}
use Rattle.nx_base.specs.Form.{Form, spells, shortest_front}
use Rattle.nx_base.specs.Text.{IsPlace}
use Rattle.nx_base.specs.Tokens.{Cut, cut_as, begins_with, bytes_before, bytes_up_to, closed, unclosed, doctype_bytes, doctype, begins_declaration, instruction, bad, tag_or, Tags, tags, tag, markup, order_mark, first_token, cut, end_of}
use Rattle.nx_base.specs.declared.token.TokenKind.{TokenKind}
use Rattle.nx_base.specs.declared.token.TokenKind.TheVariants as kinds
use Rattle.nx_scan.proofs.Every.{cut-length}
use Rattle.nx_scan.proofs.Fitting.{if_cases}

-- a Bom only at the start, an Unclosed token only as the whole rest
record AtEnds (at_start : Bool) (rest : List ℕ) (c : Cut) : Type 0 where
  bom : c.kind ≡ kinds.Bom → at_start ≡ true
  unclosed : c.kind ≡ kinds.Unclosed → c.len ≡ length rest

-- any other kind
other_kind : (at_start : Bool) (rest : List ℕ) (kind : TokenKind) (len : ℕ) → (kind ≡ kinds.Bom → ⊥) → (kind ≡ kinds.Unclosed → ⊥) → AtEnds at_start rest (cut_as kind len)
other_kind at_start rest kind len p q = record { bom = λ e. absurd (p e); unclosed = λ e. absurd (q e) }

whole : (at_start : Bool) (rest : List ℕ) → AtEnds at_start rest (unclosed rest)
whole at_start rest = record { bom = λ e. absurd (cc); unclosed = λ e. refl }

found_or : (at_start : Bool) (rest : List ℕ) (A : Type 0) (kind : TokenKind) (len : A → ℕ) (found : Option A) (other : Cut) →
    (kind ≡ kinds.Bom → ⊥) → (kind ≡ kinds.Unclosed → ⊥) → AtEnds at_start rest other →
    AtEnds at_start rest (option_map_or (λ x. cut_as kind (len x)) found other)
found_or at_start rest A kind len None other p q r = r
found_or at_start rest A kind len (Some x) other p q r = other_kind at_start rest kind (len x) p q

closed-at_ends : (at_start : Bool) (kind : TokenKind) (mark rest : List ℕ) (skip : ℕ) → (kind ≡ kinds.Bom → ⊥) → (kind ≡ kinds.Unclosed → ⊥) →
    AtEnds at_start rest (closed kind mark skip rest)
unfolding closed
closed-at_ends at_start kind mark rest skip p q =
    found_or at_start rest ℕ kind (λ n. skip + n + length mark) (bytes_before mark (drop skip rest)) (unclosed rest) p q (whole at_start rest)

doctype-at_ends : (at_start : Bool) (rest : List ℕ) → AtEnds at_start rest (doctype rest)
unfolding doctype
doctype-at_ends at_start rest =
    found_or at_start rest ℕ kinds.Doctype (λ n. 9 + n) (doctype_bytes false 0 (drop 9 rest)) (unclosed rest) (λ e. cc) (λ e. cc) (whole at_start rest)

instruction-at_ends : (at_start : Bool) (rest : List ℕ) → AtEnds at_start rest (instruction rest)
unfolding instruction
instruction-at_ends at_start rest =
    if_cases (AtEnds at_start rest) (begins_declaration rest) (closed kinds.Decl (codes "?>") 6 rest) (closed kinds.Pi (codes "?>") 2 rest)
    (λ h. closed-at_ends at_start kinds.Decl (codes "?>") rest 6 (λ e. cc) (λ e. cc))
    (λ h. closed-at_ends at_start kinds.Pi (codes "?>") rest 2 (λ e. cc) (λ e. cc))

tag_or-at_ends : (at_start : Bool) (rest : List ℕ) (kind : TokenKind) (form : Form) (other : Cut) → (kind ≡ kinds.Bom → ⊥) → (kind ≡ kinds.Unclosed → ⊥) →
    AtEnds at_start rest other → AtEnds at_start rest (tag_or kind form rest other)
unfolding tag_or
tag_or-at_ends at_start rest kind form other p q r =
    found_or at_start rest (List ℕ) kind (λ cs. length (encodes cs)) (shortest_front (spells form) (chars rest)) other p q r

bad-at_ends : (at_start : Bool) (forms : Tags) (rest : List ℕ) → AtEnds at_start rest (bad forms rest)
unfolding bad
bad-at_ends at_start forms rest = record { bom = λ e. absurd (cc); unclosed = λ e. absurd (cc) }

tag-at_ends : (at_start : Bool) (forms : Tags) (rest : List ℕ) → AtEnds at_start rest (tag forms rest)
unfolding tag
tag-at_ends at_start forms rest =
    tag_or-at_ends at_start rest kinds.End forms.end (tag_or kinds.Start forms.start rest (tag_or kinds.Empty forms.empty rest (bad forms rest))) (λ e. cc) (λ e. cc)
    (tag_or-at_ends at_start rest kinds.Start forms.start (tag_or kinds.Empty forms.empty rest (bad forms rest)) (λ e. cc) (λ e. cc)
    (tag_or-at_ends at_start rest kinds.Empty forms.empty (bad forms rest) (λ e. cc) (λ e. cc) (bad-at_ends at_start forms rest)))

markup-at_ends : (at_start : Bool) (rest : List ℕ) → AtEnds at_start rest (markup rest)
unfolding markup
markup-at_ends at_start rest =
    let P : Cut → Type 0 = AtEnds at_start rest in
    let tags_or : Cut = if begins_with (codes "<?") rest then instruction rest else tag tags rest in
    let types_or : Cut = if begins_with (codes "<!DOCTYPE") rest then doctype rest else tags_or in
    let cdata_or : Cut = if begins_with (codes "<![CDATA[") rest then closed kinds.Cdata (codes "]]>") 9 rest else types_or in
    if_cases P (begins_with (codes "<!--") rest) (closed kinds.Comment (codes "-->") 4 rest) cdata_or
    (λ a. closed-at_ends at_start kinds.Comment (codes "-->") rest 4 (λ e. cc) (λ e. cc))
    (λ a. if_cases P (begins_with (codes "<![CDATA[") rest) (closed kinds.Cdata (codes "]]>") 9 rest) types_or
    (λ b. closed-at_ends at_start kinds.Cdata (codes "]]>") rest 9 (λ e. cc) (λ e. cc))
    (λ b. if_cases P (begins_with (codes "<!DOCTYPE") rest) (doctype rest) tags_or
    (λ d. doctype-at_ends at_start rest)
    (λ d. if_cases P (begins_with (codes "<?") rest) (instruction rest) (tag tags rest)
    (λ f. instruction-at_ends at_start rest) (λ f. tag-at_ends at_start tags rest))))

first_token-at_ends : (at_start : Bool) (rest : List ℕ) → AtEnds at_start rest (first_token at_start rest)
unfolding first_token
first_token-at_ends at_start rest =
    let P : Cut → Type 0 = AtEnds at_start rest in
    let others : Cut = if begins_with (codes "<") rest then markup rest else cut_as kinds.Text (bytes_up_to 60 rest) in
    if_cases P (at_start && begins_with order_mark rest) (cut_as kinds.Bom 3) others
    (λ a. record { bom = λ e. (and_parts at_start (begins_with order_mark rest) a).0; unclosed = λ e. absurd (cc) })
    (λ a. if_cases P (begins_with (codes "<") rest) (markup rest) (cut_as kinds.Text (bytes_up_to 60 rest))
    (λ b. markup-at_ends at_start rest) (λ b. other_kind at_start rest kinds.Text (bytes_up_to 60 rest) (λ e. cc) (λ e. cc)))

pub cut-at_ends : (text : List ℕ) (at : ℕ) → IsUtf8 text → IsPlace text at → at < length text →
    ((cut text at).kind ≡ kinds.Bom → at ≡ 0) × ((cut text at).kind ≡ kinds.Unclosed → end_of (cut text at) ≡ length text)
unfolding cut
cut-at_ends text at utf8 place within =
    let ends = first_token-at_ends (at == 0) (drop at text) in
    let len = cut-length text at utf8 place within in
    (λ e. eqb-true at 0 (ends.bom e), λ e. (let whole_rest = ends.unclosed e in omega (arith, length-drop at text)))
