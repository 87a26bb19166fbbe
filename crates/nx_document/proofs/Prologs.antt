-- Tokens without faults are a document.
use Rattle.std.proofs.Common.{◌≡◌, ℕ, Bool, true, false, ◌⊎◌, inl, inr, None, List, [], ◌∷◌, ◌++◌, refl, ap, subst, ◌∙◌}
use Rattle.nx_base.specs.Trees.{Tree}
use Rattle.nx_base.specs.declared.token.Token.{Token}
use Rattle.nx_base.specs.declared.token.TokenKind.{TokenKind}
use Rattle.nx_base.specs.declared.token.TokenKind.TheVariants as kinds
use Rattle.nx_events.specs.Items.{doctype_items, cdata_items, text_items, start_items, empty_items, around_innermost, end_items, items_by_kind, items_of_token, state_by_kind, state_behind, items_at_end, items_from, items_of}
use Rattle.nx_events.specs.Runs.{run_items}
use Rattle.nx_events.specs.declared.item.Item.{Item}
use Rattle.nx_events.specs.declared.state.EventState.{EventState}
use Rattle.nx_document.specs.Constraints.{IsMark, IsXmlDeclaration, IsDoctype}
use Rattle.nx_document.specs.Document.{Optional, absent, present, Repeated, no_further, further, IsMisc, comment, instruction, white_space, Element, Document}
use Rattle.nx_events.specs.Among.{faults_among}
use Rattle.nx_document.proofs.Told.{Clean, faulty}
use Rattle.nx_document.proofs.Frames.{at}
use Rattle.nx_document.proofs.Steps.{comment_silent, instruction_silent, mark_silent, declaration_silent, doctype_silent, blank_silent, declaration_kept, doctype_kept, comment_kept, instruction_kept, blank_kept, section_outside, bad_never, unclosed_never}
use Rattle.nx_document.proofs.Faultless.{NoMark, first_clean, rest_clean, Rest, outside_all, Rooted, end_extra, with_start, with_empty, rest_of}

-- before the root
abbrev outside : Bool → Bool → EventState
outside came doctype = at [] came doctype false None

record RootRest (all : List Token) : Type 0 where
  tree : Tree
  behind : List Token
  root : Element [] all behind tree
  last : Repeated IsMisc behind []

misc_of : {all : List Token} → Rest [] all → Repeated IsMisc all []
misc_of (outside_all more) = more

root_of : (all : List Token) → Rooted [] all → RootRest all
root_of all r = record { tree = r.tree; behind = r.behind; root = r.one; last = misc_of r.rest }

-- what the first of some tokens in front of the root is
data Front (doctype : Bool) (token : Token) (others : List Token) (len : ℕ) : Type 0 where
  is_misc : IsMisc token → Clean (items_from (outside true doctype) others len) → Front doctype token others len
  is_doctype : token.kind ≡ kinds.Doctype → doctype ≡ false → Clean (items_from (outside true true) others len) → Front doctype token others len
  is_root : RootRest (token ∷ others) → Front doctype token others len

front : (kind : TokenKind) (doctype : Bool) (token : Token) (others : List Token) (len : ℕ) → token.kind ≡ kind → NoMark (token ∷ others) → Clean (items_from (outside true doctype) (token ∷ others) len) → Front doctype token others len
front kinds.Bom doctype token others len kind unmarked h = absurd (unmarked.0 kind)
front kinds.Decl doctype token others len kind unmarked h =
    let bad : true ≡ false = (declaration_kept [] true doctype false None token kind (first_clean (outside true doctype) token others len h)).0 in absurd (cc)
front kinds.Doctype doctype token others len kind unmarked h =
    let free = (doctype_kept [] true doctype false None token kind (first_clean (outside true doctype) token others len h)).1 in
    is_doctype kind free (rest_clean (outside true false) (outside true true) token others len (doctype_silent [] true None token kind).behind
    (subst (λ d. Clean (items_from (outside true d) (token ∷ others) len)) free h))
front kinds.Comment doctype token others len kind unmarked h =
    let is = comment_kept (outside true doctype) token kind (first_clean (outside true doctype) token others len h) in
    is_misc (comment is) (rest_clean (outside true doctype) (outside true doctype) token others len (comment_silent [] true doctype false None token is).behind h)
front kinds.Pi doctype token others len kind unmarked h =
    let is = instruction_kept (outside true doctype) token kind (first_clean (outside true doctype) token others len h) in
    is_misc (instruction is) (rest_clean (outside true doctype) (outside true doctype) token others len (instruction_silent [] true doctype false None token is).behind h)
front kinds.Text doctype token others len kind unmarked h =
    let is = blank_kept true doctype false None token kind (first_clean (outside true doctype) token others len h) in
    is_misc (white_space is) (rest_clean (outside true doctype) (outside true doctype) token others len (blank_silent true doctype false None token is).behind h)
front kinds.Cdata doctype token others len kind unmarked h = section_outside true doctype false None token kind (first_clean (outside true doctype) token others len h)
front kinds.Bad doctype token others len kind unmarked h = bad_never (outside true doctype) token kind (first_clean (outside true doctype) token others len h)
front kinds.Unclosed doctype token others len kind unmarked h = unclosed_never (outside true doctype) token kind (first_clean (outside true doctype) token others len h)
front kinds.End doctype token others len kind unmarked h = end_extra true doctype false None token kind (first_clean (outside true doctype) token others len h)
front kinds.Start doctype token others len kind unmarked h =
    is_root (root_of (token ∷ others) (with_start [] true doctype false None token others len (λ fs r c. rest_of others len doctype unmarked.1 fs r c) kind h))
front kinds.Empty doctype token others len kind unmarked h =
    is_root (root_of (token ∷ others) (with_empty [] true doctype false None token others len (λ fs r c. rest_of others len doctype unmarked.1 fs r c) kind h))

no_root : {A : Type 0} (came doctype : Bool) (len : ℕ) → Clean (items_from (outside came doctype) [] len) → A
unfolding items_from items_at_end run_items
no_root came doctype len h = faulty _ _ h

record MiscRoot (all : List Token) : Type 0 where
  root : List Token
  misc : Repeated IsMisc all root
  rest : RootRest root

record DoctypeRest (all : List Token) : Type 0 where
  before : List Token
  behind : List Token
  misc : Repeated IsMisc all before
  doctype : Optional IsDoctype before behind
  rest : MiscRoot behind

behind_doctype : (all : List Token) (len : ℕ) → NoMark all → Clean (items_from (outside true true) all len) → MiscRoot all
behind_doctype [] len unmarked h = no_root true true len h
behind_doctype (token ∷ others) len unmarked h =
    by_front (λ c. behind_doctype others len unmarked.1 c) (front token.kind true token others len refl unmarked h)
  where
    by_front : (Clean (items_from (outside true true) others len) → MiscRoot others) → Front true token others len → MiscRoot (token ∷ others)
    by_front more (is_misc is c) = let w = more c in record { root = w.root; misc = further is w.misc; rest = w.rest }
    by_front more (is_doctype kind free c) = absurd (cc)
    by_front more (is_root r) = record { root = token ∷ others; misc = no_further; rest = r }

before_doctype : (all : List Token) (len : ℕ) → NoMark all → Clean (items_from (outside true false) all len) → DoctypeRest all
before_doctype [] len unmarked h = no_root true false len h
before_doctype (token ∷ others) len unmarked h =
    by_front (λ c. before_doctype others len unmarked.1 c) (front token.kind false token others len refl unmarked h)
  where
    by_front : (Clean (items_from (outside true false) others len) → DoctypeRest others) → Front false token others len → DoctypeRest (token ∷ others)
    by_front more (is_misc is c) = let w = more c in record { before = w.before; behind = w.behind; misc = further is w.misc; doctype = w.doctype; rest = w.rest }
    by_front more (is_doctype kind free c) = record { before = token ∷ others; behind = others; misc = no_further; doctype = present kind; rest = behind_doctype others len unmarked.1 c }
    by_front more (is_root r) = record { before = token ∷ others; behind = token ∷ others; misc = no_further; doctype = absent; rest = record { root = token ∷ others; misc = no_further; rest = r } }

-- but for a declaration a first token is as any other
record Alike (token : Token) : Type 0 where
  items : items_of_token (outside false false) token ≡ items_of_token (outside true false) token
  states : state_behind (outside false false) token ≡ state_behind (outside true false) token

alike_by_kind : (kind : TokenKind) (token : Token) → (kind ≡ kinds.Bom → ⊥) → (kind ≡ kinds.Decl → ⊥) →
    (items_by_kind kind (outside false false) token ≡ items_by_kind kind (outside true false) token) × (state_by_kind kind (outside false false) token ≡ state_by_kind kind (outside true false) token)
unfolding doctype_items cdata_items text_items start_items empty_items end_items around_innermost
alike_by_kind kinds.Bom token b d = absurd (b refl)
alike_by_kind kinds.Decl token b d = absurd (d refl)
alike_by_kind kinds.Doctype token b d = (refl, refl)
alike_by_kind kinds.Comment token b d = (refl, refl)
alike_by_kind kinds.Pi token b d = (refl, refl)
alike_by_kind kinds.Text token b d = (refl, refl)
alike_by_kind kinds.Cdata token b d = (refl, refl)
alike_by_kind kinds.Bad token b d = (refl, refl)
alike_by_kind kinds.Unclosed token b d = (refl, refl)
alike_by_kind kinds.Start token b d = (refl, refl)
alike_by_kind kinds.Empty token b d = (refl, refl)
alike_by_kind kinds.End token b d = (refl, refl)

alike : (token : Token) (others : List Token) (len : ℕ) → (token.kind ≡ kinds.Bom → ⊥) → (token.kind ≡ kinds.Decl → ⊥) →
    items_from (outside false false) (token ∷ others) len ≡ items_from (outside true false) (token ∷ others) len
unfolding items_from items_of_token state_behind
alike token others len b d =
    let same = alike_by_kind token.kind token b d in
    ap (λ (xs : List Item). xs ++ items_from (state_by_kind token.kind (outside false false) token) others len) same.0
    ∙ ap (λ s. items_by_kind token.kind (outside true false) token ++ items_from s others len) same.1

record DeclarationRest (all : List Token) : Type 0 where
  behind : List Token
  declaration : Optional IsXmlDeclaration all behind
  rest : DoctypeRest behind

is_declaration_kind : (kind : TokenKind) → (kind ≡ kinds.Decl → ⊥) ⊎ (kind ≡ kinds.Decl)
is_declaration_kind kinds.Decl = inr refl
is_declaration_kind kinds.Bom = inl (λ e. cc)
is_declaration_kind kinds.Doctype = inl (λ e. cc)
is_declaration_kind kinds.Comment = inl (λ e. cc)
is_declaration_kind kinds.Pi = inl (λ e. cc)
is_declaration_kind kinds.Text = inl (λ e. cc)
is_declaration_kind kinds.Cdata = inl (λ e. cc)
is_declaration_kind kinds.Bad = inl (λ e. cc)
is_declaration_kind kinds.Unclosed = inl (λ e. cc)
is_declaration_kind kinds.Start = inl (λ e. cc)
is_declaration_kind kinds.Empty = inl (λ e. cc)
is_declaration_kind kinds.End = inl (λ e. cc)

begin : (all : List Token) (len : ℕ) → NoMark all → Clean (items_from (outside false false) all len) → DeclarationRest all
begin [] len unmarked h = no_root false false len h
begin (token ∷ others) len unmarked h = by_kind_of (is_declaration_kind token.kind)
  where
    by_kind_of : (token.kind ≡ kinds.Decl → ⊥) ⊎ (token.kind ≡ kinds.Decl) → DeclarationRest (token ∷ others)
    by_kind_of (inl not_one) =
        record { behind = token ∷ others; declaration = absent; rest = before_doctype (token ∷ others) len unmarked (subst Clean (alike token others len unmarked.0 not_one) h) }
    by_kind_of (inr kind) =
        let is = (declaration_kept [] false false false None token kind (first_clean (outside false false) token others len h)).1 in
        record {
          behind = others;
          declaration = present is;
          rest = before_doctype others len unmarked.1 (rest_clean (outside false false) (outside true false) token others len (declaration_silent [] false false None token is).behind h);
        }

-- a byte order mark is the first token or none
pub data MarkFirst : List Token → Type 0 where
  marked : {token : Token} {others : List Token} → token.kind ≡ kinds.Bom → NoMark others → MarkFirst (token ∷ others)
  no_mark : {all : List Token} → NoMark all → MarkFirst all

whole : (all behind : List Token) → Optional IsMark all behind → DeclarationRest behind → (tree : Tree) × Document all tree
whole all behind mark d = (
  d.rest.rest.rest.tree,
  record {
    behind_mark = behind;
    behind_declaration = d.behind;
    before_doctype = d.rest.before;
    behind_doctype = d.rest.behind;
    root = d.rest.rest.root;
    behind_root = d.rest.rest.rest.behind;
    mark = mark;
    declaration = d.declaration;
    first_misc = d.rest.misc;
    doctype = d.rest.doctype;
    second_misc = d.rest.rest.misc;
    element = d.rest.rest.rest.root;
    last_misc = d.rest.rest.rest.last;
  },
)

pub faultless_is_document : (all : List Token) (len : ℕ) → MarkFirst all → faults_among (items_of all len) ≡ [] → (tree : Tree) × Document all tree
faultless_is_document all len (no_mark unmarked) e = whole all all absent (begin all len unmarked (record { none = e }))
faultless_is_document all len (marked {token = token} {others = others} kind unmarked) e =
    whole (token ∷ others) others (present kind)
    (begin others len unmarked (rest_clean (outside false false) (outside false false) token others len (mark_silent [] false false false None token kind).behind (record { none = e })))
