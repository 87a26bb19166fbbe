-- A token of character data, of which a front or what is left behind it is taken for itself.
use Rattle.std.proofs.Common.{◌≡◌, ℕ, zero, suc, ◌+◌, ◌-◌, ◌<◌, ◌≤◌, Bool, true, false, inl, inr, List, [], ◌∷◌, length, take, drop, refl, sym, ◌∙◌, ap, arith, codes}
use Rattle.std.specs.Prelude.{◌==◌, ◌&&◌, if◌then◌else◌, Option, Some, None}
use Rattle.std.specs.Option.{option_map_or}
use Rattle.std.specs.Str.{chars}
use lib.Utf8.{encodes}
use Rattle.std.proofs.lemmas.Bool.{cases_Bool, and_parts, and_from, true≢false}
use Rattle.nx_base.specs.Form.{Form, spells, shortest_front}
use Rattle.nx_base.specs.Tokens.{Cut, cut_as, begins_with, bytes_before, bytes_up_to, closed, unclosed, doctype_bytes, doctype, begins_declaration}
use Rattle.nx_base.specs.Tokens.{instruction, bad, tag_or, Tags, tags, tag, markup, order_mark, first_token}
use Rattle.nx_base.specs.declared.token.TokenKind.{TokenKind}
use Rattle.nx_base.specs.declared.token.TokenKind.TheVariants as kinds
use Rattle.nx_scan.proofs.Fitting.{if_cases}
use Rattle.nx_scan.proofs.Themselves.{row-order_mark, row-markup, row-text}

-- no markup is character data
NoText : Cut → Type 0
NoText c = c.kind ≡ kinds.Text → ⊥

other_kind : (kind : TokenKind) (len : ℕ) → (kind ≡ kinds.Text → ⊥) → NoText (cut_as kind len)
unfolding NoText
other_kind kind len h = h

found_or : (A : Type 0) (kind : TokenKind) (len : A → ℕ) (found : Option A) (other : Cut) → (kind ≡ kinds.Text → ⊥) → NoText other →
    NoText (option_map_or (λ x. cut_as kind (len x)) found other)
found_or A kind len None other h rest = rest
found_or A kind len (Some x) other h rest = other_kind kind (len x) h

whole : (rest : List ℕ) → NoText (unclosed rest)
unfolding NoText
whole rest e = cc

closed-no : (kind : TokenKind) (mark rest : List ℕ) (skip : ℕ) → (kind ≡ kinds.Text → ⊥) → NoText (closed kind mark skip rest)
unfolding closed
closed-no kind mark rest skip h = found_or ℕ kind (λ n. skip + n + length mark) (bytes_before mark (drop skip rest)) (unclosed rest) h (whole rest)

doctype-no : (rest : List ℕ) → NoText (doctype rest)
unfolding doctype
doctype-no rest = found_or ℕ kinds.Doctype (λ n. 9 + n) (doctype_bytes false 0 (drop 9 rest)) (unclosed rest) (λ e. cc) (whole rest)

instruction-no : (rest : List ℕ) → NoText (instruction rest)
unfolding instruction
instruction-no rest =
    if_cases NoText (begins_declaration rest) (closed kinds.Decl (codes "?>") 6 rest) (closed kinds.Pi (codes "?>") 2 rest)
    (λ h. closed-no kinds.Decl (codes "?>") rest 6 (λ e. cc)) (λ h. closed-no kinds.Pi (codes "?>") rest 2 (λ e. cc))

tag_or-no : (kind : TokenKind) (form : Form) (rest : List ℕ) (other : Cut) → (kind ≡ kinds.Text → ⊥) → NoText other → NoText (tag_or kind form rest other)
unfolding tag_or
tag_or-no kind form rest other h further = found_or (List ℕ) kind (λ cs. length (encodes cs)) (shortest_front (spells form) (chars rest)) other h further

bad-no : (forms : Tags) (rest : List ℕ) → NoText (bad forms rest)
unfolding bad NoText
bad-no forms rest e = cc

tag-no : (forms : Tags) (rest : List ℕ) → NoText (tag forms rest)
unfolding tag
tag-no forms rest =
    tag_or-no kinds.End forms.end rest (tag_or kinds.Start forms.start rest (tag_or kinds.Empty forms.empty rest (bad forms rest))) (λ e. cc)
    (tag_or-no kinds.Start forms.start rest (tag_or kinds.Empty forms.empty rest (bad forms rest)) (λ e. cc)
    (tag_or-no kinds.Empty forms.empty rest (bad forms rest) (λ e. cc) (bad-no forms rest)))

markup-no : (rest : List ℕ) → NoText (markup rest)
unfolding markup
markup-no rest =
    let tags_or : Cut = if begins_with (codes "<?") rest then instruction rest else tag tags rest in
    let types_or : Cut = if begins_with (codes "<!DOCTYPE") rest then doctype rest else tags_or in
    let cdata_or : Cut = if begins_with (codes "<![CDATA[") rest then closed kinds.Cdata (codes "]]>") 9 rest else types_or in
    if_cases NoText (begins_with (codes "<!--") rest) (closed kinds.Comment (codes "-->") 4 rest) cdata_or
    (λ a. closed-no kinds.Comment (codes "-->") rest 4 (λ e. cc))
    (λ a. if_cases NoText (begins_with (codes "<![CDATA[") rest) (closed kinds.Cdata (codes "]]>") 9 rest) types_or
    (λ b. closed-no kinds.Cdata (codes "]]>") rest 9 (λ e. cc))
    (λ b. if_cases NoText (begins_with (codes "<!DOCTYPE") rest) (doctype rest) tags_or
    (λ d. doctype-no rest)
    (λ d. if_cases NoText (begins_with (codes "<?") rest) (instruction rest) (tag tags rest) (λ f. instruction-no rest) (λ f. tag-no tags rest))))

-- character data begins with no mark, and goes on up to `<`
pub record BeginsText (s : Bool) (bs : List ℕ) : Type 0 where
  pub unmarked : (s && begins_with order_mark bs) ≡ false
  pub no_less : begins_with (codes "<") bs ≡ false
  pub cut : first_token s bs ≡ cut_as kinds.Text (bytes_up_to 60 bs)

pub begins_text : (s : Bool) (bs : List ℕ) → (first_token s bs).kind ≡ kinds.Text → BeginsText s bs
unfolding NoText
begins_text s bs is =
    elim (cases_Bool (s && begins_with order_mark bs)) [
      | inl a ↦ absurd (let e : kinds.Bom ≡ kinds.Text = ap (λ (c : Cut). c.kind) (sym (row-order_mark s bs a)) ∙ is in cc)
      | inr a ↦ elim (cases_Bool (begins_with (codes "<") bs)) [
        | inl b ↦ absurd (markup-no bs (ap (λ (c : Cut). c.kind) (sym (row-markup s bs a b)) ∙ is))
        | inr b ↦ record { unmarked = a; no_less = b; cut = row-text s bs a b }
      ]
    ]

-- a front of it
up_to-take : (bs : List ℕ) (k : ℕ) → k ≤ bytes_up_to 60 bs → k ≤ length bs → bytes_up_to 60 (take k bs) ≡ k
unfolding bytes_up_to
up_to-take bs zero h le = refl
up_to-take [] (suc k) h le = absurd (omega arith)
up_to-take (b ∷ bs) (suc k) h le =
    elim (cases_Bool (b == 60)) [
      | inl e ↦ absurd (let none : bytes_up_to 60 (b ∷ bs) ≡ 0 = rw e refl in omega arith)
      | inr e ↦
          (let next : bytes_up_to 60 (b ∷ bs) ≡ bytes_up_to 60 bs + 1 = rw e refl in
          let further = up_to-take bs k (omega arith) (omega arith) in
          rw e (omega arith))
    ]

-- a mark that doesn't stand there stands in no front
begins-longer : (mark : List ℕ) (n : ℕ) (bs : List ℕ) → begins_with mark (take n bs) ≡ true → begins_with mark bs ≡ true
unfolding begins_with
begins-longer [] n bs h = refl
begins-longer (m ∷ mark) zero bs h = cc
begins-longer (m ∷ mark) (suc n) [] h = h
begins-longer (m ∷ mark) (suc n) (b ∷ bs) h =
    let parts = and_parts (b == m) (begins_with mark (take n bs)) h in
    and_from (b == m) (begins_with mark bs) parts.0 (begins-longer mark n bs parts.1)

begins-not : (mark : List ℕ) (n : ℕ) (bs : List ℕ) → begins_with mark bs ≡ false → begins_with mark (take n bs) ≡ false
begins-not mark n bs h =
    elim (cases_Bool (begins_with mark (take n bs))) [ inl e ↦ absurd (true≢false (sym (begins-longer mark n bs e) ∙ h)) | inr e ↦ e ]

front_unmarked : (s : Bool) (bs : List ℕ) (k : ℕ) → (s && begins_with order_mark bs) ≡ false → (s && begins_with order_mark (take k bs)) ≡ false
front_unmarked true bs k h = begins-not order_mark k bs h
front_unmarked false bs k h = refl

pub front_of_text : (s : Bool) (bs : List ℕ) (k : ℕ) → (first_token s bs).kind ≡ kinds.Text → k ≤ (first_token s bs).len → k ≤ length bs →
    first_token s (take k bs) ≡ cut_as kinds.Text k
front_of_text s bs k is le fits =
    let t = begins_text s bs is in
    let len : (first_token s bs).len ≡ bytes_up_to 60 bs = ap (λ (c : Cut). c.len) t.cut in
    row-text s (take k bs) (front_unmarked s bs k t.unmarked) (begins-not (codes "<") k bs t.no_less)
    ∙ ap (cut_as kinds.Text) (up_to-take bs k (omega arith) fits)

-- what is left behind a front
up_to-drop : (bs : List ℕ) (k : ℕ) → k ≤ bytes_up_to 60 bs → bytes_up_to 60 (drop k bs) ≡ bytes_up_to 60 bs - k
unfolding bytes_up_to
up_to-drop bs zero h = (let e : bytes_up_to 60 bs ≡ bytes_up_to 60 bs - 0 = omega arith in e)
up_to-drop [] (suc k) h = let e : 0 ≡ 0 - suc k = omega arith in e
up_to-drop (b ∷ bs) (suc k) h =
    elim (cases_Bool (b == 60)) [
      | inl e ↦ absurd (let none : bytes_up_to 60 (b ∷ bs) ≡ 0 = rw e refl in omega arith)
      | inr e ↦
          (let next : bytes_up_to 60 (b ∷ bs) ≡ bytes_up_to 60 bs + 1 = rw e refl in
          let further = up_to-drop bs k (omega arith) in
          further ∙ omega arith)
    ]

less-up_to : (bs : List ℕ) → begins_with (codes "<") bs ≡ true → bytes_up_to 60 bs ≡ 0
unfolding bytes_up_to begins_with
less-up_to [] h = refl
less-up_to (b ∷ bs) h = rw (and_parts (b == 60) true h).0 refl

pub back_of_text : (s : Bool) (bs : List ℕ) (k : ℕ) → (first_token s bs).kind ≡ kinds.Text → k < (first_token s bs).len →
    first_token false (drop k bs) ≡ cut_as kinds.Text ((first_token s bs).len - k)
back_of_text s bs k is lt =
    let t = begins_text s bs is in
    let len : (first_token s bs).len ≡ bytes_up_to 60 bs = ap (λ (c : Cut). c.len) t.cut in
    let rest = up_to-drop bs k (omega arith) in
    let no_less : begins_with (codes "<") (drop k bs) ≡ false =
    elim (cases_Bool (begins_with (codes "<") (drop k bs))) [ inl e ↦ absurd (let none = less-up_to (drop k bs) e in omega arith) | inr e ↦ e ] in
    row-text false (drop k bs) refl no_less ∙ ap (cut_as kinds.Text) (omega arith)
