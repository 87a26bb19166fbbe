-- Each kind of token: no fault exactly where it keeps its constraints, and what it does to the state.
use Rattle.std.proofs.Common.{◌≡◌, ℕ, Bool, true, false, cond, Option, Some, List, [], ◌∷◌, ◌++◌, length, map, refl, ap, sym, subst, ◌∙◌, append_assoc}
use Rattle.std.specs.Prelude.{◌&&◌, ◌||◌, not}
use Rattle.std.specs.List.{list_all}
use Rattle.std.proofs.lemmas.Bool.{or_parts}
use Rattle.nx_base.specs.Characters.{is_space}
use Rattle.nx_base.specs.Trees as trees
use Rattle.nx_base.specs.Trees.{attributes_flat}
use Rattle.nx_base.specs.declared.fault.Kind.{Kind}
use Rattle.nx_base.specs.declared.fault.Kind.TheVariants as faults
use Rattle.nx_base.specs.declared.name.Name.{Name}
use Rattle.nx_base.specs.declared.token.Token.{Token}
use Rattle.nx_base.specs.declared.token.TokenKind.{TokenKind}
use Rattle.nx_base.specs.declared.token.TokenKind.TheVariants as kinds
use Rattle.nx_events.specs.CharacterFaults.{character_faults}
use Rattle.nx_events.specs.Declarations.{declaration_faults}
use Rattle.nx_events.specs.Elements.{element_resolved, element_items, attribute_items}
use Rattle.nx_events.specs.Faults.{faults_as_items}
use Rattle.nx_events.specs.Items.{token_span, token_fault_if, is_inside, is_behind, declaration_items, doctype_items, character_items, comment_items, pi_items, cdata_items, text_items, own_bindings, start_items, items_by_kind, items_of_token, passed, is_doctype, passed_other, joined, state_by_kind, state_behind}
use Rattle.nx_events.specs.Markup.{is_bad_comment, is_bad_pi}
use Rattle.nx_events.specs.Runs.{run_passed, run_joined, run_items}
use Rattle.nx_events.specs.Scopes.{expand_element}
use Rattle.nx_events.specs.Strings.{string_of, cdata_content}
use Rattle.nx_events.specs.Tags.{start_name, tag_attributes}
use Rattle.nx_events.specs.XmlDeclaration.{is_xml_declaration}
use Rattle.nx_events.specs.declared.item.Event.{Event}
use Rattle.nx_events.specs.declared.item.Event.TheVariants.{Enter, TagEnd}
use Rattle.nx_events.specs.declared.item.Item.{Item}
use Rattle.nx_events.specs.declared.item.Item.TheVariants as items
use Rattle.nx_events.specs.declared.reading.Reading.{Reading}
use Rattle.nx_events.specs.declared.reading.Reading.TheVariants.{Plain, Text, Value}
use Rattle.nx_events.specs.declared.state.EventState.{EventState}
use Rattle.nx_events.specs.declared.state.Run.{Run}
use Rattle.nx_document.specs.Constraints.{IsXmlDeclaration, IsComment, IsInstruction, IsWhiteSpace, IsCharacterData, IsSection, IsLegal, declared, written_in, in_force, IsLegalTag, Expand}
use Rattle.nx_events.specs.Among.{events_among}
use Rattle.nx_events.specs.TreeEvents.{as_event}
use Rattle.nx_document.proofs.Told.{Clean, clean_nil, clean_both, clean_first, clean_second, faulty, no_faults, clean_faults, fault_events, no_fault_if, clean_if, if_events, events_append, events_skip}
use Rattle.nx_document.proofs.Characters.{is_legal, legal_faultless}
use Rattle.nx_document.proofs.Blank.{blank_legal}
use Rattle.nx_document.proofs.Tags.{declares_legally, bindings_declared, all_faultless, expanded, written_once, attributes_told, entered, enters}
use Rattle.nx_document.proofs.Trees.{pending, text_flat, run_clean, run_events}
use Rattle.nx_document.proofs.Frames.{Frame, at, inside_some}

pub items_kind : (state : EventState) (token : Token) (kind : TokenKind) → token.kind ≡ kind → items_of_token state token ≡ items_by_kind kind state token
unfolding items_of_token
items_kind state token kind e = ap (λ k. items_by_kind k state token) e

pub state_kind : (state : EventState) (token : Token) (kind : TokenKind) → token.kind ≡ kind → state_behind state token ≡ state_by_kind kind state token
unfolding state_behind
state_kind state token kind e = ap (λ k. state_by_kind k state token) e

pub by_kind : (state : EventState) (token : Token) (kind : TokenKind) → token.kind ≡ kind → Clean (items_of_token state token) → Clean (items_by_kind kind state token)
by_kind state token kind e h = subst Clean (items_kind state token kind e) h

-- characters, and one test of the whole token
record Plainly (reading : Reading) (test : Bool) (token : Token) : Type 0 where
  characters : IsLegal reading token.bytes
  passes : test ≡ false

characters_kept : (reading : Reading) (test : Bool) (kind : Kind) (token : Token) → Clean (character_items reading test kind token) → Plainly reading test token
characters_kept reading test kind token h =
    let faults = faults_as_items (character_faults reading token.from token.bytes) in
    record {
      characters = is_legal reading token.from token.bytes (no_faults (character_faults reading token.from token.bytes) (clean_first faults (token_fault_if test kind token) h));
      passes = no_fault_if test kind token (clean_second faults (token_fault_if test kind token) h);
    }

characters_clean : (reading : Reading) (test : Bool) (kind : Kind) (token : Token) → IsLegal reading token.bytes → test ≡ false → Clean (character_items reading test kind token)
characters_clean reading test kind token c t =
    clean_both (clean_faults (character_faults reading token.from token.bytes) (legal_faultless reading token.from token.bytes c)) (clean_if test kind token t)

characters_silent : (reading : Reading) (test : Bool) (kind : Kind) (token : Token) → events_among (character_items reading test kind token) ≡ []
characters_silent reading test kind token =
    events_skip (faults_as_items (character_faults reading token.from token.bytes)) (token_fault_if test kind token) (fault_events (character_faults reading token.from token.bytes))
    ∙ if_events test kind token

-- a token without events
pub record Silent (state : EventState) (token : Token) (next : EventState) : Type 0 where
  pub clean : Clean (items_of_token state token)
  pub silent : events_among (items_of_token state token) ≡ []
  pub behind : state_behind state token ≡ next

silently : (state : EventState) (token : Token) (next : EventState) (kind : TokenKind) → token.kind ≡ kind → Clean (items_by_kind kind state token) →
    events_among (items_by_kind kind state token) ≡ [] → state_by_kind kind state token ≡ next → Silent state token next
silently state token next kind e c s b = record {
  clean = subst Clean (sym (items_kind state token kind e)) c;
  silent = ap events_among (items_kind state token kind e) ∙ s;
  behind = state_kind state token kind e ∙ b;
}

or_no : (d t : Bool) → t ≡ false → (d || t) ≡ d
or_no true t e = refl
or_no false t e = e

passed_at : (frames : List Frame) (came doctype started : Bool) (run : Option Run) (token : Token) → is_doctype token.kind ≡ false →
    passed_other (at frames came doctype started run) token ≡ at frames true doctype started (run_passed (length token.bytes) run)
passed_at frames came doctype started run token e =
    ap (λ d. at frames true d started (run_passed (length token.bytes) run)) (or_no doctype (is_doctype token.kind) e)

pub mark_silent : (frames : List Frame) (came doctype started : Bool) (run : Option Run) (token : Token) → token.kind ≡ kinds.Bom →
    Silent (at frames came doctype started run) token (at frames came doctype started (run_passed (length token.bytes) run))
mark_silent frames came doctype started run token e = silently (at frames came doctype started run) token _ kinds.Bom e clean_nil refl refl

pub declaration_silent : (frames : List Frame) (doctype started : Bool) (run : Option Run) (token : Token) → IsXmlDeclaration token →
    Silent (at frames false doctype started run) token (at frames true doctype started (run_passed (length token.bytes) run))
unfolding declaration_items
declaration_silent frames doctype started run token d =
    silently (at frames false doctype started run) token _ kinds.Decl d.kind
    (clean_if (not (is_xml_declaration token.bytes)) faults.BadDecl token (ap not d.form))
    (if_events (not (is_xml_declaration token.bytes)) faults.BadDecl token)
    (passed_at frames false doctype started run token (ap is_doctype d.kind))

pub doctype_silent : (frames : List Frame) (came : Bool) (run : Option Run) (token : Token) → token.kind ≡ kinds.Doctype →
    Silent (at frames came false false run) token (at frames true true false (run_passed (length token.bytes) run))
unfolding doctype_items
doctype_silent frames came run token e =
    silently (at frames came false false run) token _ kinds.Doctype e clean_nil refl
    (ap (λ d. at frames true d false (run_passed (length token.bytes) run)) (ap is_doctype e))

pub comment_silent : (frames : List Frame) (came doctype started : Bool) (run : Option Run) (token : Token) → IsComment token →
    Silent (at frames came doctype started run) token (at frames true doctype started (run_passed (length token.bytes) run))
unfolding comment_items
comment_silent frames came doctype started run token c =
    silently (at frames came doctype started run) token _ kinds.Comment c.kind
    (characters_clean Plain (is_bad_comment token.bytes) faults.BadComment token c.characters c.form)
    (characters_silent Plain (is_bad_comment token.bytes) faults.BadComment token)
    (passed_at frames came doctype started run token (ap is_doctype c.kind))

pub instruction_silent : (frames : List Frame) (came doctype started : Bool) (run : Option Run) (token : Token) → IsInstruction token →
    Silent (at frames came doctype started run) token (at frames true doctype started (run_passed (length token.bytes) run))
unfolding pi_items
instruction_silent frames came doctype started run token c =
    silently (at frames came doctype started run) token _ kinds.Pi c.kind
    (characters_clean Plain (is_bad_pi token.bytes) faults.BadPi token c.characters c.form)
    (characters_silent Plain (is_bad_pi token.bytes) faults.BadPi token)
    (passed_at frames came doctype started run token (ap is_doctype c.kind))

pub blank_silent : (came doctype started : Bool) (run : Option Run) (token : Token) → IsWhiteSpace token →
    Silent (at [] came doctype started run) token (at [] true doctype started (run_passed (length token.bytes) run))
unfolding text_items
blank_silent came doctype started run token w =
    silently (at [] came doctype started run) token _ kinds.Text w.kind
    (characters_clean Text (not (is_inside (at [] came doctype started run)) && not (list_all is_space token.bytes)) faults.TextOutside token (blank_legal token.bytes w.blank) (ap not w.blank))
    (characters_silent Text (not (is_inside (at [] came doctype started run)) && not (list_all is_space token.bytes)) faults.TextOutside token)
    refl

module _ (frame : Frame) (outer : List Frame) (came doctype started : Bool) (run : Option Run) (token : Token) where
  joined_at : (text : List ℕ) → joined (at (frame ∷ outer) came doctype started run) token text ≡ at (frame ∷ outer) true doctype started (run_joined text (length token.bytes) run)
  joined_at text =
      ap (λ t. cond t (at (frame ∷ outer) true doctype started (run_joined text (length token.bytes) run)) (passed (at (frame ∷ outer) came doctype started run) token)) (inside_some frame outer)

  pub text_silent : IsCharacterData token →
      Silent (at (frame ∷ outer) came doctype started run) token (at (frame ∷ outer) true doctype started (run_joined (string_of Text token.bytes) (length token.bytes) run))
  unfolding text_items
  text_silent c =
      let test = not (is_inside (at (frame ∷ outer) came doctype started run)) && not (list_all is_space token.bytes) in
      silently (at (frame ∷ outer) came doctype started run) token _ kinds.Text c.kind
      (characters_clean Text test faults.TextOutside token c.characters (ap (λ t. not t && not (list_all is_space token.bytes)) (inside_some frame outer)))
      (characters_silent Text test faults.TextOutside token)
      (joined_at (string_of Text token.bytes))

  pub section_silent : IsSection token →
      Silent (at (frame ∷ outer) came doctype started run) token (at (frame ∷ outer) true doctype started (run_joined (string_of Plain (cdata_content token.bytes)) (length token.bytes) run))
  unfolding cdata_items
  section_silent c =
      let test = not (is_inside (at (frame ∷ outer) came doctype started run)) in
      silently (at (frame ∷ outer) came doctype started run) token _ kinds.Cdata c.kind
      (characters_clean Plain test faults.TextOutside token c.characters (ap not (inside_some frame outer)))
      (characters_silent Plain test faults.TextOutside token)
      (joined_at (string_of Plain (cdata_content token.bytes)))

-- what a token without faults keeps
pub declaration_kept : (frames : List Frame) (came doctype started : Bool) (run : Option Run) (token : Token) → token.kind ≡ kinds.Decl → Clean (items_of_token (at frames came doctype started run) token) →
    (came ≡ false) × IsXmlDeclaration token
unfolding declaration_items
declaration_kept frames true doctype started run token e h = faulty _ _ (by_kind (at frames true doctype started run) token kinds.Decl e h)
declaration_kept frames false doctype started run token e h =
    (refl, record { kind = e; form = form (is_xml_declaration token.bytes) (no_fault_if (not (is_xml_declaration token.bytes)) faults.BadDecl token (by_kind (at frames false doctype started run) token kinds.Decl e h)) })
  where
    form : (t : Bool) → not t ≡ false → t ≡ true
    form true e = refl
    form false e = sym e

pub doctype_kept : (frames : List Frame) (came doctype started : Bool) (run : Option Run) (token : Token) → token.kind ≡ kinds.Doctype → Clean (items_of_token (at frames came doctype started run) token) →
    (started ≡ false) × (doctype ≡ false)
unfolding doctype_items
doctype_kept frames came doctype started run token e h =
    or_parts started doctype (no_fault_if (started || doctype) faults.Misplaced token (by_kind (at frames came doctype started run) token kinds.Doctype e h))

pub comment_kept : (state : EventState) (token : Token) → token.kind ≡ kinds.Comment → Clean (items_of_token state token) → IsComment token
unfolding comment_items
comment_kept state token e h =
    let kept = characters_kept Plain (is_bad_comment token.bytes) faults.BadComment token (by_kind state token kinds.Comment e h) in
    record { kind = e; characters = kept.characters; form = kept.passes }

pub instruction_kept : (state : EventState) (token : Token) → token.kind ≡ kinds.Pi → Clean (items_of_token state token) → IsInstruction token
unfolding pi_items
instruction_kept state token e h =
    let kept = characters_kept Plain (is_bad_pi token.bytes) faults.BadPi token (by_kind state token kinds.Pi e h) in
    record { kind = e; characters = kept.characters; form = kept.passes }

pub text_kept : (state : EventState) (token : Token) → token.kind ≡ kinds.Text → Clean (items_of_token state token) → IsCharacterData token
unfolding text_items
text_kept state token e h =
    let kept = characters_kept Text (not (is_inside state) && not (list_all is_space token.bytes)) faults.TextOutside token (by_kind state token kinds.Text e h) in
    record { kind = e; characters = kept.characters }

pub section_kept : (state : EventState) (token : Token) → token.kind ≡ kinds.Cdata → Clean (items_of_token state token) → IsSection token
unfolding cdata_items
section_kept state token e h =
    let kept = characters_kept Plain (not (is_inside state)) faults.TextOutside token (by_kind state token kinds.Cdata e h) in
    record { kind = e; characters = kept.characters }

pub blank_kept : (came doctype started : Bool) (run : Option Run) (token : Token) → token.kind ≡ kinds.Text → Clean (items_of_token (at [] came doctype started run) token) → IsWhiteSpace token
unfolding text_items
blank_kept came doctype started run token e h =
    let kept = characters_kept Text (not (is_inside (at [] came doctype started run)) && not (list_all is_space token.bytes)) faults.TextOutside token (by_kind (at [] came doctype started run) token kinds.Text e h) in
    record { kind = e; blank = form (list_all is_space token.bytes) kept.passes }
  where
    form : (t : Bool) → not t ≡ false → t ≡ true
    form true e = refl
    form false e = sym e

pub section_outside : {A : Type 0} (came doctype started : Bool) (run : Option Run) (token : Token) → token.kind ≡ kinds.Cdata → Clean (items_of_token (at [] came doctype started run) token) → A
unfolding cdata_items
section_outside came doctype started run token e h =
    let kept = characters_kept Plain (not (is_inside (at [] came doctype started run))) faults.TextOutside token (by_kind (at [] came doctype started run) token kinds.Cdata e h) in
    let bad : true ≡ false = kept.passes in
    absurd (cc)

pub bad_never : {A : Type 0} (state : EventState) (token : Token) → token.kind ≡ kinds.Bad → Clean (items_of_token state token) → A
bad_never state token e h = faulty _ _ (by_kind state token kinds.Bad e h)

pub unclosed_never : {A : Type 0} (state : EventState) (token : Token) → token.kind ≡ kinds.Unclosed → Clean (items_of_token state token) → A
unclosed_never state token e h = faulty _ _ (by_kind state token kinds.Unclosed e h)

-- tags
pub record TagKept (state : EventState) (token : Token) : Type 0 where
  pub name : Name
  pub attributes : List trees.Attribute
  pub inside : is_behind state ≡ false
  pub tag : IsLegalTag state.scope token name attributes
  pub own : own_bindings token ≡ declared (written_in token)

pub tag_kept : (state : EventState) (token : Token) → Clean (start_items state token) → TagKept state token
unfolding start_items
tag_kept state token h =
    let attributes = tag_attributes token.from token.bytes in
    let scope = state.scope ++ own_bindings token in
    let resolved = element_resolved (is_behind state) scope (start_name token.bytes) in
    let h5 = clean_first _ (items.Event TagEnd (token_span token) ∷ []) h in
    let h4 = clean_first _ (attribute_items scope [] attributes) h5 in
    let h3 = clean_first _ (element_items (token_span token) resolved) h4 in
    let h2 = clean_first (run_items token.from state.run ++ faults_as_items (character_faults Value token.from token.bytes)) (faults_as_items (declaration_faults [] attributes)) h3 in
    let characters = no_faults (character_faults Value token.from token.bytes) (clean_second (run_items token.from state.run) (faults_as_items (character_faults Value token.from token.bytes)) h2) in
    let legal : declaration_faults [] attributes ≡ [] = no_faults (declaration_faults [] attributes)
    (clean_second (run_items token.from state.run ++ faults_as_items (character_faults Value token.from token.bytes)) (faults_as_items (declaration_faults [] attributes)) h3) in
    let own : own_bindings token ≡ declared (written_in token) = bindings_declared [] attributes legal in
    let same : scope ≡ in_force state.scope token = ap (λ bs. state.scope ++ bs) own in
    let name = entered (is_behind state) scope (start_name token.bytes) (token_span token) (clean_second _ (element_items (token_span token) resolved) h4) in
    let all = expanded scope [] attributes (clean_second _ (attribute_items scope [] attributes) h5) in
    record {
      name = name.name;
      attributes = all.attributes;
      inside = name.inside;
      own = own;
      tag = record {
        characters = is_legal Value token.from token.bytes characters;
        once = written_once scope [] legal all.expand all.distinct;
        declarations = declares_legally [] attributes legal;
        qualified = name.qualified;
        named = subst (λ s. expand_element s (start_name token.bytes) ≡ Some name.name) same name.named;
        expanded = subst (λ s. Expand s (written_in token) all.attributes) same all.expand;
        distinct = all.distinct;
      };
    }

six_events : (r c d e a t : List Item) (x : List Event) → events_among c ≡ [] → events_among d ≡ [] →
    events_among (((((r ++ c) ++ d) ++ e) ++ a) ++ t) ++ x ≡ events_among r ++ (events_among e ++ (events_among a ++ (events_among t ++ x)))
six_events r c d e a t x h k = simp (events_append, append_assoc, h, k)

pub record TagTold (state : EventState) (token : Token) (name : Name) (attributes : List trees.Attribute) : Type 0 where
  pub clean : Clean (start_items state token)
  pub own : own_bindings token ≡ declared (written_in token)
  pub events : (x : List trees.Event) → events_among (start_items state token) ++ map as_event x
      ≡ map as_event (text_flat (pending state.run) (trees.Enter name ∷ attributes_flat attributes (trees.TagEnd ∷ x)))

pub tag_told : (state : EventState) (token : Token) (name : Name) (attributes : List trees.Attribute) → is_behind state ≡ false → IsLegalTag state.scope token name attributes →
    TagTold state token name attributes
unfolding start_items
tag_told state token name attributes inside tag =
    let written = tag_attributes token.from token.bytes in
    let scope = state.scope ++ own_bindings token in
    let resolved = element_resolved (is_behind state) scope (start_name token.bytes) in
    let legal : declaration_faults [] written ≡ [] = all_faultless written tag.once tag.declarations in
    let own : own_bindings token ≡ declared (written_in token) = bindings_declared [] written legal in
    let same : in_force state.scope token ≡ scope = ap (λ bs. state.scope ++ bs) (sym own) in
    let enter = enters (is_behind state) scope (start_name token.bytes) (token_span token) name inside tag.qualified (rw same at tag.named) in
    let all = attributes_told scope (rw same at tag.expanded) tag.distinct in
    let run = run_items token.from state.run in
    let characters = faults_as_items (character_faults Value token.from token.bytes) in
    let declarations = faults_as_items (declaration_faults [] written) in
    let element = element_items (token_span token) resolved in
    let others = attribute_items scope [] written in
    let end : List Item = items.Event TagEnd (token_span token) ∷ [] in
    record {
      own = own;
      clean = clean_both (clean_both (clean_both (clean_both (clean_both (run_clean token.from state.run)
          (clean_faults (character_faults Value token.from token.bytes) (legal_faultless Value token.from token.bytes tag.characters)))
          (clean_faults (declaration_faults [] written) legal))
          (subst Clean (sym enter) (record { none = refl }))) all.clean) (record { none = refl });
      events = λ x.
          six_events run characters declarations element others end (map as_event x) (fault_events (character_faults Value token.from token.bytes)) (fault_events (declaration_faults [] written))
          ∙ ap (λ (es : List Item). events_among run ++ (events_among es ++ (events_among others ++ (TagEnd ∷ map as_event x)))) enter
          ∙ ap (λ (es : List Event). events_among run ++ (Enter name ∷ es)) (all.events (trees.TagEnd ∷ x))
          ∙ run_events token.from state.run (trees.Enter name ∷ attributes_flat attributes (trees.TagEnd ∷ x));
    }
