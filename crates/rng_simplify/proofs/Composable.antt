-- Files that are there make one piece, or they are broken.
use Rattle.std.proofs.Common.{◌≡◌, refl, sym, ap, ◌∙◌, subst, ℕ, zero, suc, ◌+◌, ◌<◌, ◌≤◌, Bool, true, false, inl, inr, ◌⊎◌, List, [], ◌∷◌, ◌++◌, length, get_or, slice_get, Option, Some, None, Contains, arith}
use Rattle.std.specs.Cmp.Lexicographic.{bytes_decides}
use Rattle.std.specs.Str.{bytes_eq}
use Rattle.std.proofs.lemmas.List.Elements.{Contains-append_left, Contains-append_right}
use Rattle.std.proofs.lemmas.Option.{same_Some, none-some, slice_get-get_or}
use Rattle.nx_base.specs.declared.cause.Cause.{Cause}
use Rattle.nx_base.specs.declared.cause.Cause.TheVariants as cause
use Rattle.nx_host.specs.Files.{FileMap}
use Rattle.nx_host.specs.Uri.{TextsJoinOrAreBad}
use Rattle.rnc_parse.specs.declared.surface.Defined.{Defined}
use Rattle.rnc_parse.specs.declared.surface.FileReference.{FileReference}
use Rattle.rnc_parse.specs.Written.{WrittenPattern, WrittenItem, WrittenItems, WrittenReplacement, WrittenReplacements, WrittenSurface, a_pattern, a_grammar}
use Rattle.rnc_parse.specs.Written as written
use Rattle.rngx_read.specs.Files.{is_markup}
use Rattle.rngx_read.specs.Laws.{TextsAreReadOrRefused}
use Rattle.rng_core.specs.Patterns.{Pattern, Definition}
use Rattle.rng_simplify.specs.Broken.{IsRefused, IsBroken}
use Rattle.rng_simplify.specs.Classes.{class_in}
use Rattle.rng_simplify.specs.Composed.{Composed, Clauses, end_of_clauses, clause_then, then_clauses, defines, but_for, names_of}
use Rattle.rng_simplify.specs.Composed as composed
use Rattle.rng_simplify.specs.ComposedFiles.{Context, top, referred, Says, Opens, grammar_items, DefinesEach, Composes, by_element, by_attribute, by_list, by_ref, by_parent_ref, by_empty, by_text, by_not_allowed, by_value, by_type, by_type_but, by_external, by_grammar, by_optional, by_zero_or_more, by_one_or_more, by_mixed, by_choice, by_group, by_interleave, ComposesFile, of_pattern, of_grammar, Gathers, no_item, definition, division, inclusion, GathersAnew, none_anew, definition_anew, division_anew, ComposesSchema}
use Rattle.rng_simplify.specs.Exact.{AreWithin, SimplifiedOrBroken}
use Rattle.rng_simplify.specs.References.{Mention, an_external, an_include, reference_of, mentions, mentions_of_item, mentions_of_items, mentions_of_replacement, mentions_anew, mentions_of, Reached, the_first, a_further, Mentions}
use Rattle.rng_simplify.specs.Simplified.{Simplifies}
use Rattle.rng_simplify.proofs.Answered.{piece_broken}
use Rattle.rng_simplify.proofs.Deciding.{Decided, all_or}
use Rattle.rng_simplify.proofs.Decisions.{is_true}
use Rattle.rng_simplify.proofs.Exact.{simplified_or_broken}
use Rattle.rng_simplify.proofs.Freely.{numbers_are_free}
use Rattle.rng_simplify.proofs.Nodes.{in_none, in_cases, in_first, in_more}
use Rattle.rng_simplify.proofs.Passed.{names_gathered}
use Rattle.rng_simplify.proofs.Returning.{some_twice}
use Rattle.rng_simplify.proofs.Unread.{refused_of_reading}

-- ---- lists of URIs

uri_decided : (uris : List (List ℕ)) (uri : List ℕ) → Decided (Contains uris uri)
uri_decided [] uri = inr (λ among. in_none among)
uri_decided (first ∷ more) uri = elim (is_true (bytes_eq first uri)) [
  | inl same ↦
      let P : List ℕ → Type 0 = Contains (first ∷ more) in inl (subst P ((bytes_decides first uri).0 same) (in_first first more))
  | inr differ ↦ elim (uri_decided more uri) [
    | inl among ↦ inl (in_more first more uri among)
    | inr none ↦ inr (λ among. elim (in_cases first more uri among) [
      | inl is ↦ differ ((bytes_decides first uri).1 is)
      | inr further ↦ none further
    ])
  ]
]

at_place : (xs : List (List ℕ)) (i : ℕ) (other : List ℕ) → i < length xs → Contains xs (get_or xs i other)
at_place [] i other within = absurd (omega arith)
at_place (x ∷ xs) zero other within = in_first x xs
at_place (x ∷ xs) (suc i) other within = in_more x xs (get_or xs i other) (at_place xs i other (omega arith))

all_among : (xs uris : List (List ℕ)) (i : ℕ) (other : List ℕ) → ((uri : List ℕ) → Contains xs uri → Contains uris uri) →
    Contains uris other → Contains uris (get_or xs i other)
all_among [] uris i other each also = also
all_among (x ∷ xs) uris zero other each also = each x (in_first x xs)
all_among (x ∷ xs) uris (suc i) other each also = all_among xs uris i other (λ uri among. each uri (in_more x xs uri among)) also

module _ (joins_or_bad : TextsJoinOrAreBad) (read_or_refused : TextsAreReadOrRefused) (files : FileMap) (uri : List ℕ)
    (uris : List (List ℕ)) (are : AreWithin files uri uris) where
  -- ---- how long a chain is

  chain_within : {context : Context} → Reached files uri context → (other : List ℕ) → Contains context.chain other → Contains uris other
  chain_within the_first other among = elim (in_cases uri [] other among) [
    | inl is ↦ let P : List ℕ → Type 0 = Contains uris in subst P is (are.within (top uri) the_first)
    | inr none ↦ absurd (in_none none)
  ]
  chain_within (a_further {context = context} {mention = mention} {other = next} reached says mentioned joins apart) other among =
      elim (in_cases next context.chain other among) [
        | inl is ↦
            let P : List ℕ → Type 0 = Contains uris in
            subst P is (are.within (referred context (reference_of mention) next) (a_further reached says mentioned joins apart))
        | inr further ↦ chain_within reached other further
      ]

  -- no URI is in it twice
  chain_apart : {context : Context} → Reached files uri context → (i j : ℕ) (other : List ℕ) → i < j → j < length context.chain →
      get_or context.chain i other ≡ get_or context.chain j other → ⊥
  chain_apart the_first i j other less within same = absurd (omega arith)
  chain_apart (a_further reached says mentioned joins apart) i zero other less within same = absurd (omega arith)
  chain_apart (a_further {context = context} {other = next} reached says mentioned joins apart) zero (suc j) other less within same =
      let P : List ℕ → Type 0 = Contains context.chain in
      apart (subst P (sym same) (at_place context.chain j other (omega arith)))
  chain_apart (a_further reached says mentioned joins apart) (suc i) (suc j) other less within same =
      chain_apart reached i j other (omega arith) (omega arith) same

  index : {context : Context} → Reached files uri context → (i : ℕ) →
      (k : ℕ) × (k < length uris) × (slice_get uris k ≡ Some (get_or context.chain i uri))
  index {context = context} reached i =
      let among = all_among context.chain uris i uri (chain_within reached) (are.within (top uri) the_first) in
      (among.0, among.1, slice_get-get_or uris among.0 (get_or context.chain i uri) among.1 ∙ ap (λ x. Some x) among.2)

  -- so it is no longer than the list of all
  never_longer : {context : Context} → Reached files uri context → length uris < length context.chain → ⊥
  never_longer {context = context} reached longer =
      let twice = some_twice (length uris) (λ i. (index reached i).0) (λ i within. (index reached i).1) in
      let within : twice.second ≤ length uris = twice.within in
      let one : List ℕ = get_or context.chain twice.first uri in
      let other : List ℕ = get_or context.chain twice.second uri in
      let same : one ≡ other =
      same_Some one other (sym (index reached twice.first).2 ∙ ap (slice_get uris) twice.same ∙ (index reached twice.second).2) in
      chain_apart reached twice.first twice.second uri twice.before (omega arith) same

  -- ---- what is composed, or broken

  abbrev Breaks : Type 0
  Breaks = (why : Cause) × IsBroken files uri why

  abbrev Or : Type 0 → Type 0
  Or A = A ⊎ Breaks

  or_both : {A B : Type 0} → Or A → (A → Or B) → Or B
  or_both (inl a) more = more a
  or_both (inr broken) more = inr broken

  -- a text is refused for a cause of reading
  refused_so : (why : Cause) → IsRefused files uri why → Breaks
  refused_so cause.BadEscape h = (cause.BadEscape, h)
  refused_so cause.BadLiteral h = (cause.BadLiteral, h)
  refused_so cause.BadCharacter h = (cause.BadCharacter, h)
  refused_so cause.Syntax h = (cause.Syntax, h)
  refused_so cause.TooDeep h = (cause.TooDeep, h)
  refused_so cause.UndeclaredPrefix h = (cause.UndeclaredPrefix, h)
  refused_so cause.Twice h = (cause.Twice, h)
  refused_so cause.BadMarkup h = (cause.BadMarkup, h)
  refused_so cause.BadForm h = (cause.BadForm, h)
  refused_so why h = absurd (refused_of_reading (is_markup h.bytes) h.bytes why h.refused)

  -- what a file that is reached says
  said : (context : Context) → Reached files uri context → Or ((surface : WrittenSurface) × Says files context.uri surface)
  said context reached =
      let t = are.texts context reached in
      elim (read_or_refused t.0 t.2) [
        | inl h ↦ inl (h.0, record { bytes = t.0; there = t.1; is_text = t.2; reads = h.1 })
        | inr h ↦ inr (refused_so h.0
            (record { context = context; reached = reached; bytes = t.0; there = t.1; is_text = t.2; refused = h.1 }))
      ]

  -- a mention leads to a file that is one piece
  record Opened (context : Context) (mention : Mention) : Type 0 where
    inner : Context
    surface : WrittenSurface
    piece : Composed
    opens : Opens files context (reference_of mention) inner surface
    composes : ComposesFile files inner surface piece

  -- a piece that is a grammar has definitions
  items_composed : {context : Context} {p : WrittenPattern} {q : Composed} → Composes files context p q → (items : WrittenItems) →
      grammar_items (a_pattern p) ≡ Some items → (clauses : Clauses) × Gathers files context items clauses
  items_composed {context = context} (by_grammar {items = others} {clauses = clauses} gathered) items is =
      let P : WrittenItems → Type 0 = λ all. (clauses : Clauses) × Gathers files context all clauses in
      subst P (same_Some others items is) (clauses, gathered)
  items_composed composes items is = absurd (none-some items is)

  file_items : {context : Context} {surface : WrittenSurface} {q : Composed} → ComposesFile files context surface q →
      (items : WrittenItems) → grammar_items surface ≡ Some items → (clauses : Clauses) × Gathers files context items clauses
  file_items (of_pattern composes) items is = items_composed composes items is
  file_items {context = context} (of_grammar {items = others} {clauses = clauses} gathered) items is =
      let P : WrittenItems → Type 0 = λ all. (clauses : Clauses) × Gathers files context all clauses in
      subst P (same_Some others items is) (clauses, gathered)

  each_or : (old : Clauses) (names : List Defined) →
      DefinesEach old names ⊎ ((name : Defined) × Contains names name × (defines name old ≡ false))
  each_or old [] = inl tt
  each_or old (name ∷ names) = at (defines name old) refl (each_or old names)
    where
      at : (b : Bool) → defines name old ≡ b →
          DefinesEach old names ⊎ ((other : Defined) × Contains names other × (defines other old ≡ false)) →
          DefinesEach old (name ∷ names) ⊎ ((other : Defined) × Contains (name ∷ names) other × (defines other old ≡ false))
      at false none rest = inr (name, in_first name names, none)
      at true some (inl each) = inl (some, each)
      at true some (inr h) = inr (h.0, in_more name names h.0 h.1, h.2)

  module _ (context : Context) (reached : Reached files uri context) (surface : WrittenSurface)
      (says : Says files context.uri surface) where
    -- each of these is mentioned in the file, and leads to one that is one piece
    abbrev AllOpened : List Mention → Type 0
    AllOpened all = (mention : Mention) → Contains all mention → Contains (mentions_of surface) mention × Opened context mention

    first_opened : (xs ys : List Mention) → AllOpened (xs ++ ys) → AllOpened xs
    first_opened xs ys all mention among = all mention (Contains-append_left xs ys mention among)

    others_opened : (xs ys : List Mention) → AllOpened (xs ++ ys) → AllOpened ys
    others_opened xs ys all mention among = all mention (Contains-append_right xs ys mention among)

    -- a grammar is included, in which all is defined that is defined anew
    record Included (reference : FileReference) (new : Clauses) : Type 0 where
      inner : Context
      inner_surface : WrittenSurface
      opens : Opens files context reference inner inner_surface
      others : WrittenItems
      is_grammar : grammar_items inner_surface ≡ Some others
      old : Clauses
      gathered : Gathers files inner others old
      each : DefinesEach old (names_of new)

    included : (reference : FileReference) (replacements : WrittenReplacements) (new : Clauses) →
        GathersAnew files context replacements new → Contains (mentions_of surface) (an_include reference replacements) →
        (h : Opened context (an_include reference replacements)) (items : Option WrittenItems) → grammar_items h.surface ≡ items →
        Or (Included reference new)
    included reference replacements new anew mentioned h None none = inr (
      cause.NotGrammar,
      record {
        context = context;
        reference = reference;
        replacements = replacements;
        mentioned = record { reached = reached; surface = surface; says = says; mentioned = mentioned };
        inner = h.inner;
        surface = h.surface;
        opens = h.opens;
        no_grammar = none;
      },
    )
    included reference replacements new anew mentioned h (Some items) is =
        let old = file_items h.composes items is in
        elim (each_or old.0 (names_of new)) [
          | inl each ↦ inl (record {
            inner = h.inner;
            inner_surface = h.surface;
            opens = h.opens;
            others = items;
            is_grammar = is;
            old = old.0;
            gathered = old.1;
            each = each;
          })
          | inr lost ↦
              let P : List Defined → Type 0 = λ names. Contains names lost.0 in
              inr (
                cause.NoDefinition,
                inl (record {
                  context = context;
                  reference = reference;
                  replacements = replacements;
                  mentioned = record { reached = reached; surface = surface; says = says; mentioned = mentioned };
                  inner = h.inner;
                  surface = h.surface;
                  opens = h.opens;
                  items = items;
                  items_are = is;
                  clauses = old.0;
                  gathered = old.1;
                  name = lost.0;
                  anew = subst P (names_gathered anew) lost.1;
                  undefined = lost.2;
                }),
              )
        ]

    abbrev PieceOf : WrittenPattern → Type 0
    PieceOf p = (q : Composed) × Composes files context p q

    abbrev ClausesOf : WrittenItems → Type 0
    ClausesOf items = (clauses : Clauses) × Gathers files context items clauses

    abbrev NewClausesOf : WrittenReplacements → Type 0
    NewClausesOf replacements = (clauses : Clauses) × GathersAnew files context replacements clauses

    mutual
      composable : (p : WrittenPattern) → AllOpened (mentions p) → Or (PieceOf p)
      composable (written.element class p) all =
          or_both (composable p all) (λ h. inl (composed.element 0 (class_in context.inherited class) h.0, by_element 0 h.1))
      composable (written.attribute class p) all =
          or_both (composable p all) (λ h. inl (composed.attribute (class_in context.inherited class) h.0, by_attribute h.1))
      composable (written.list p) all = or_both (composable p all) (λ h. inl (composed.listed h.0, by_list h.1))
      composable (written.mixed p) all =
          or_both (composable p all) (λ h. inl (composed.interleave composed.any_text h.0, by_mixed h.1))
      composable (written.ref name) all = inl (composed.ref name, by_ref)
      composable (written.parent_ref name) all = inl (composed.parent_ref name, by_parent_ref)
      composable written.empty all = inl (composed.empty, by_empty)
      composable written.any_text all = inl (composed.any_text, by_text)
      composable written.not_allowed all = inl (composed.not_allowed, by_not_allowed)
      composable (written.value type text) all = inl (composed.value type text, by_value)
      composable (written.typed type params) all = inl (composed.typed type params composed.not_allowed, by_type)
      composable (written.typed_but type params except) all =
          or_both (composable except all) (λ h. inl (composed.typed type params h.0, by_type_but h.1))
      composable (written.external reference) all =
          let h : Opened context (an_external reference) = (all (an_external reference) (in_first (an_external reference) [])).1 in
          inl (h.piece, by_external h.opens h.composes)
      composable (written.grammar items) all =
          or_both (gatherable items all) (λ h. inl (composed.grammar h.0, by_grammar h.1))
      composable (written.optional p) all =
          or_both (composable p all) (λ h. inl (composed.choice h.0 composed.empty, by_optional h.1))
      composable (written.zero_or_more p) all =
          or_both (composable p all) (λ h. inl (composed.choice (composed.one_or_more h.0) composed.empty, by_zero_or_more h.1))
      composable (written.one_or_more p) all = or_both (composable p all) (λ h. inl (composed.one_or_more h.0, by_one_or_more h.1))
      composable (written.choice p q) all =
          or_both (composable p (first_opened (mentions p) (mentions q) all)) (λ h.
          or_both (composable q (others_opened (mentions p) (mentions q) all)) (λ k.
          inl (composed.choice h.0 k.0, by_choice h.1 k.1)))
      composable (written.group p q) all =
          or_both (composable p (first_opened (mentions p) (mentions q) all)) (λ h.
          or_both (composable q (others_opened (mentions p) (mentions q) all)) (λ k.
          inl (composed.group h.0 k.0, by_group h.1 k.1)))
      composable (written.interleave p q) all =
          or_both (composable p (first_opened (mentions p) (mentions q) all)) (λ h.
          or_both (composable q (others_opened (mentions p) (mentions q) all)) (λ k.
          inl (composed.interleave h.0 k.0, by_interleave h.1 k.1)))

      gatherable : (items : WrittenItems) → AllOpened (mentions_of_items items) → Or (ClausesOf items)
      gatherable written.no_items all = inl (end_of_clauses, no_item)
      gatherable (written.item_then item items) all =
          item_gatherable item items (first_opened (mentions_of_item item) (mentions_of_items items) all)
          (gatherable items (others_opened (mentions_of_item item) (mentions_of_items items) all))

      item_gatherable : (item : WrittenItem) (items : WrittenItems) → AllOpened (mentions_of_item item) → Or (ClausesOf items) →
          Or (ClausesOf (written.item_then item items))
      item_gatherable (written.define name combine p) items all more =
          or_both (composable p all) (λ h. or_both more (λ k. inl (clause_then name combine h.0 k.0, definition h.1 k.1)))
      item_gatherable (written.div inside) items all more =
          or_both (gatherable inside all) (λ h. or_both more (λ k. inl (then_clauses h.0 k.0, division h.1 k.1 refl)))
      item_gatherable (written.include reference replacements) items all more =
          let own = all (an_include reference replacements) (in_first (an_include reference replacements) (mentions_anew replacements)) in
          or_both (anew_gatherable replacements
          (others_opened (an_include reference replacements ∷ []) (mentions_anew replacements) all)) (λ new.
          or_both (included reference replacements new.0 new.1 own.0 own.1 (grammar_items own.1.surface) refl) (λ h.
          or_both more (λ k. inl (
            then_clauses (but_for new.0 h.old) (then_clauses new.0 k.0),
            inclusion h.opens h.is_grammar h.gathered new.1 h.each k.1 refl,
          ))))

      anew_gatherable : (replacements : WrittenReplacements) → AllOpened (mentions_anew replacements) → Or (NewClausesOf replacements)
      anew_gatherable written.no_replacements all = inl (end_of_clauses, none_anew)
      anew_gatherable (written.replacement_then replacement replacements) all =
          replacement_gatherable replacement replacements
          (first_opened (mentions_of_replacement replacement) (mentions_anew replacements) all)
          (anew_gatherable replacements (others_opened (mentions_of_replacement replacement) (mentions_anew replacements) all))

      replacement_gatherable : (replacement : WrittenReplacement) (replacements : WrittenReplacements) →
          AllOpened (mentions_of_replacement replacement) → Or (NewClausesOf replacements) →
          Or (NewClausesOf (written.replacement_then replacement replacements))
      replacement_gatherable (written.define_anew name combine p) others all more =
          or_both (composable p all) (λ h. or_both more (λ k. inl (clause_then name combine h.0 k.0, definition_anew h.1 k.1)))
      replacement_gatherable (written.div_anew inside) others all more =
          or_both (anew_gatherable inside all) (λ h. or_both more (λ k. inl (then_clauses h.0 k.0, division_anew h.1 k.1 refl)))

    file_composable : (other : WrittenSurface) → AllOpened (mentions_of other) → Or ((q : Composed) × ComposesFile files context other q)
    file_composable (a_pattern p) all = or_both (composable p all) (λ h. inl (h.0, of_pattern h.1))
    file_composable (a_grammar items) all = or_both (gatherable items all) (λ h. inl (composed.grammar h.0, of_grammar h.1))

  -- ---- from file to file

  -- with so much left of the list
  abbrev FilesFrom : ℕ → Type 0
  FilesFrom fuel =
      (context : Context) → Reached files uri context → (surface : WrittenSurface) → Says files context.uri surface →
      length uris < fuel + length context.chain → Or ((q : Composed) × ComposesFile files context surface q)

  opened_or : (fuel : ℕ) → FilesFrom fuel → (context : Context) → Reached files uri context → (surface : WrittenSurface) →
      Says files context.uri surface → (mention : Mention) → Contains (mentions_of surface) mention →
      length uris < suc fuel + length context.chain → Or (Opened context mention)
  opened_or fuel from context reached surface says mention among short =
      let mentioned : Mentions files uri context mention =
      record { reached = reached; surface = surface; says = says; mentioned = among } in
      elim (joins_or_bad context.uri (reference_of mention).uri) [
        | inr bad ↦ absurd (are.no_bad_uri (reference_of mention).uri
            (record { context = context; mention = mention; mentioned = mentioned; text_is = refl; bad = bad }))
        | inl joined ↦ elim (uri_decided context.chain joined.0) [
          | inl back ↦ inr (
            cause.IncludeLoop,
            record {
              context = context;
              mention = mention;
              mentioned = mentioned;
              other = joined.0;
              refers = joined.1;
              leads_here = back;
            },
          )
          | inr apart ↦
              let inner : Context = referred context (reference_of mention) joined.0 in
              let further : Reached files uri inner = a_further reached says among joined.1 apart in
              or_both (said inner further) (λ s. or_both (from inner further s.0 s.1 (omega (arith, short))) (λ h. inl (record {
                inner = inner;
                surface = s.0;
                piece = h.0;
                opens = record { uri = joined.0; refers = joined.1; inner_is = refl; no_loop = apart; says = s.1 };
                composes = h.1;
              })))
        ]
      ]

  files_from : (fuel : ℕ) → FilesFrom fuel
  files_from zero context reached surface says short = absurd (never_longer reached (omega (arith, short)))
  files_from (suc fuel) context reached surface says short =
      or_both (all_or Breaks (λ mention. Contains (mentions_of surface) mention × Opened context mention) (mentions_of surface)
      (λ mention among. or_both (opened_or fuel (files_from fuel) context reached surface says mention among short)
      (λ h. inl (among, h)))) (λ all. file_composable context reached surface says surface all)

  schema_or : Or ((whole : Composed) × ComposesSchema files uri whole)
  schema_or = or_both (said (top uri) the_first) (λ s.
      or_both (files_from (suc (length uris)) (top uri) the_first s.0 s.1 (omega arith)) (λ h.
      inl (h.0, record { surface = s.0; says = s.1; composed = h.1 })))

  -- the piece has a grammar, or it is broken
  grammar_or : (piece : Composed) → ComposesSchema files uri piece →
      Or ((start : Pattern) × (definitions : List Definition) × Simplifies files uri start definitions)
  grammar_or piece composes =
      let w = simplified_or_broken piece in
      let whole = numbers_are_free files uri piece w.0 composes w.1 in
      elim w.2 [
        | inl h ↦ inl (
          h.0,
          h.1,
          record {
            whole = w.0;
            composed = whole;
            unbroken = h.2.unbroken;
            start_form = h.2.start_form;
            definition_forms = h.2.definition_forms;
            form = h.2.form;
            start_is = h.2.start_is;
            definitions_are = h.2.definitions_are;
          },
        )
        | inr h ↦ inr (h.0, piece_broken files uri h.0 (record { whole = w.0; composed = whole; broken = h.1 }))
      ]

  files_or : Or ((start : Pattern) × (definitions : List Definition) × Simplifies files uri start definitions)
  files_or = or_both schema_or (λ h. grammar_or h.0 h.1)

pub files_simplified_or_broken : TextsJoinOrAreBad → TextsAreReadOrRefused → SimplifiedOrBroken
files_simplified_or_broken joins_or_bad read_or_refused files uri uris are = files_or joins_or_bad read_or_refused files uri uris are
