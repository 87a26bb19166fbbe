-- Where files make one piece, nothing is wrong with the files themselves.
use Rattle.std.proofs.Common.{◌≡◌, refl, sym, ap, ◌∙◌, subst, ℕ, true, false, inl, inr, List, [], ◌∷◌, ◌++◌, Some, None, Contains}
use Rattle.std.specs.Prelude.{IsUtf8}
use Rattle.std.proofs.lemmas.List.Elements.{Contains-append_cases}
use Rattle.std.proofs.lemmas.Option.{same_Some}
use Rattle.nx_base.specs.declared.cause.Cause.{Cause}
use Rattle.nx_host.specs.Files.{FileMap}
use Rattle.nx_host.specs.Uri.{IsBadUri, JoinsIsDecided}
use Rattle.rnc_parse.specs.declared.surface.Defined.{Defined}
use Rattle.rnc_parse.specs.Written.{WrittenPattern, WrittenItem, WrittenItems, WrittenReplacement, WrittenReplacements, WrittenSurface, a_pattern, a_grammar}
use Rattle.rnc_parse.specs.Written as written
use Rattle.rngx_read.specs.Files.{RefusesFile}
use Rattle.rngx_read.proofs.WholeFiles.{read_not_refused}
use Rattle.rng_simplify.specs.Unambiguous.{ArePassed}
use Rattle.rng_simplify.specs.Broken.{IsAbsent, IsNoText, HasBadUri, IsRefused, HasIncludeLoop, IncludesOther, ReplacesNothing}
use Rattle.rng_simplify.specs.Composed.{Composed, Clauses, end_of_clauses, clause_then, then_clauses, defines, names_of}
use Rattle.rng_simplify.specs.ComposedFiles.{Context, referred, Says, Opens, grammar_items, DefinesEach, Composes, by_element, by_attribute, by_list, by_ref, by_parent_ref, by_empty, by_text, by_not_allowed, by_value, by_type, by_type_but, by_external, by_grammar, by_optional, by_zero_or_more, by_one_or_more, by_mixed, by_choice, by_group, by_interleave, ComposesFile, of_pattern, of_grammar, Gathers, no_item, definition, division, inclusion, GathersAnew, none_anew, definition_anew, division_anew, ComposesSchema}
use Rattle.rng_simplify.specs.References.{Mention, an_external, an_include, reference_of, mentions, mentions_of_items, mentions_anew, mentions_of, names_anew, Reached, the_first, a_further, Mentions}
use Rattle.rng_simplify.specs.Unnumbered.{unnumbered_in}
use Rattle.rng_simplify.proofs.Nodes.{in_none, in_cases, in_one}
use Rattle.rng_simplify.proofs.OneComposed.{says_one, opens_one, defines_same, gathers_one}

-- ---- names that are defined anew

-- the names of clauses that are written so
names_then : (first more : Clauses) → names_of (then_clauses first more) ≡ names_of first ++ names_of more
names_then end_of_clauses more = refl
names_then (clause_then name combine p first) more = ap (λ names. name ∷ names) (names_then first more)

pub names_gathered : {files : FileMap} {context : Context} {replacements : WrittenReplacements} {new : Clauses} →
    GathersAnew files context replacements new → names_of new ≡ names_anew replacements
names_gathered none_anew = refl
names_gathered (definition_anew {name = name} part more) = ap (λ names. name ∷ names) (names_gathered more)
names_gathered (division_anew {inside = inside} {first = first} {clauses = rest} within more is) =
    ap names_of is ∙ names_then first rest ∙ ap (λ names. names ++ names_of rest) (names_gathered within)
    ∙ ap (λ names. names_anew inside ++ names) (names_gathered more)

-- each of them is defined
each_defined : (old : Clauses) (names : List Defined) (name : Defined) → DefinesEach old names → Contains names name →
    defines name old ≡ true
each_defined old [] name each among = absurd (in_none among)
each_defined old (first ∷ names) name each among =
    elim (in_cases first names name among) [
      | inl is ↦ let P : Defined → Type 0 = λ n. defines n old ≡ true in subst P is each.0
      | inr further ↦ each_defined old names name each.1 further
    ]

-- ---- what is mentioned opens

module _ (files : FileMap) where
  -- the file is one piece, as a pattern or as the definitions of a grammar
  pub data IsWhole (context : Context) (surface : WrittenSurface) : Type 0 where
    as_file : (q : Composed) → ComposesFile files context surface q → IsWhole context surface
    as_items : (items : WrittenItems) (clauses : Clauses) → grammar_items surface ≡ Some items → Gathers files context items clauses →
        IsWhole context surface

  -- an include leads to a grammar, which defines all that is defined anew
  pub record IsIncluded (inner : Context) (surface : WrittenSurface) (replacements : WrittenReplacements) : Type 0 where
    pub items : WrittenItems
    pub is_grammar : grammar_items surface ≡ Some items
    pub old : Clauses
    pub gathered : Gathers files inner items old
    pub new : Clauses
    pub anew : names_of new ≡ names_anew replacements
    pub each : DefinesEach old (names_of new)

  abbrev IncludedIf : Mention → Context → WrittenSurface → Type 0
  IncludedIf (an_external reference) inner surface = Unit {0}
  IncludedIf (an_include reference replacements) inner surface = IsIncluded inner surface replacements

  -- a mention leads to a file that is one piece
  pub record LeadsToFile (context : Context) (mention : Mention) : Type 0 where
    pub inner : Context
    pub surface : WrittenSurface
    pub opens : Opens files context (reference_of mention) inner surface
    pub whole : IsWhole inner surface
    pub included : IncludedIf mention inner surface

  abbrev EachLeads : Context → List Mention → Type 0
  EachLeads context all = (mention : Mention) → Contains all mention → LeadsToFile context mention

  no_mention : {context : Context} → EachLeads context []
  no_mention mention among = absurd (in_none among)

  both_lead : {context : Context} (first second : List Mention) → EachLeads context first → EachLeads context second →
      EachLeads context (first ++ second)
  both_lead first second one other mention among =
      elim (Contains-append_cases first second mention among) [ inl here ↦ one mention here | inr there ↦ other mention there ]

  one_leads : {context : Context} (first : Mention) → LeadsToFile context first → EachLeads context (first ∷ [])
  one_leads {context = context} first leads mention among =
      let P : Mention → Type 0 = LeadsToFile context in subst P (in_one first mention among) leads

  mutual
    pattern_leads : {context : Context} {p : WrittenPattern} {q : Composed} → Composes files context p q → EachLeads context (mentions p)
    pattern_leads (by_element number part) = pattern_leads part
    pattern_leads (by_attribute part) = pattern_leads part
    pattern_leads (by_list part) = pattern_leads part
    pattern_leads by_ref = no_mention
    pattern_leads by_parent_ref = no_mention
    pattern_leads by_empty = no_mention
    pattern_leads by_text = no_mention
    pattern_leads by_not_allowed = no_mention
    pattern_leads by_value = no_mention
    pattern_leads by_type = no_mention
    pattern_leads (by_type_but part) = pattern_leads part
    pattern_leads (by_external {reference = reference} {q = q} opens file) =
        one_leads (an_external reference) (record { inner = _; surface = _; opens = opens; whole = as_file q file; included = tt })
    pattern_leads (by_grammar gathered) = items_lead gathered
    pattern_leads (by_optional part) = pattern_leads part
    pattern_leads (by_zero_or_more part) = pattern_leads part
    pattern_leads (by_one_or_more part) = pattern_leads part
    pattern_leads (by_mixed part) = pattern_leads part
    pattern_leads (by_choice {p1 = p1} {p2 = p2} one other) =
        both_lead (mentions p1) (mentions p2) (pattern_leads one) (pattern_leads other)
    pattern_leads (by_group {p1 = p1} {p2 = p2} one other) = both_lead (mentions p1) (mentions p2) (pattern_leads one) (pattern_leads other)
    pattern_leads (by_interleave {p1 = p1} {p2 = p2} one other) =
        both_lead (mentions p1) (mentions p2) (pattern_leads one) (pattern_leads other)

    items_lead : {context : Context} {items : WrittenItems} {clauses : Clauses} → Gathers files context items clauses →
        EachLeads context (mentions_of_items items)
    items_lead no_item = no_mention
    items_lead (definition {p = p} {items = items} part more) =
        both_lead (mentions p) (mentions_of_items items) (pattern_leads part) (items_lead more)
    items_lead (division {inside = inside} {items = items} within more is) =
        both_lead (mentions_of_items inside) (mentions_of_items items) (items_lead within) (items_lead more)
    items_lead (inclusion {reference = reference} {replacements = replacements} {others = others} {items = items} {old = old} {new = new} opens is_grammar gathered anew each more is) =
        both_lead (an_include reference replacements ∷ mentions_anew replacements) (mentions_of_items items)
        (both_lead (an_include reference replacements ∷ []) (mentions_anew replacements)
        (one_leads (an_include reference replacements) (record {
          inner = _;
          surface = _;
          opens = opens;
          whole = as_items others old is_grammar gathered;
          included = record { items = others; is_grammar = is_grammar; old = old; gathered = gathered; new = new; anew = names_gathered anew; each = each };
        }))
        (anew_lead anew))
        (items_lead more)

    anew_lead : {context : Context} {replacements : WrittenReplacements} {clauses : Clauses} →
        GathersAnew files context replacements clauses → EachLeads context (mentions_anew replacements)
    anew_lead none_anew = no_mention
    anew_lead (definition_anew {p = p} {replacements = replacements} part more) =
        both_lead (mentions p) (mentions_anew replacements) (pattern_leads part) (anew_lead more)
    anew_lead (division_anew {inside = inside} {replacements = replacements} within more is) =
        both_lead (mentions_anew inside) (mentions_anew replacements) (anew_lead within) (anew_lead more)

  file_leads : {context : Context} {surface : WrittenSurface} {q : Composed} → ComposesFile files context surface q →
      EachLeads context (mentions_of surface)
  file_leads (of_pattern part) = pattern_leads part
  file_leads (of_grammar gathered) = items_lead gathered

  -- the items of a grammar mention what its file mentions
  items_mention : (surface : WrittenSurface) (items : WrittenItems) → grammar_items surface ≡ Some items →
      mentions_of surface ≡ mentions_of_items items
  items_mention (a_grammar others) items is = ap mentions_of_items (same_Some others items is)
  items_mention (a_pattern (written.grammar others)) items is = ap mentions_of_items (same_Some others items is)
  items_mention (a_pattern p) items is = let never : ⊥ = cc in absurd never

  whole_leads : {context : Context} {surface : WrittenSurface} → IsWhole context surface → EachLeads context (mentions_of surface)
  whole_leads (as_file q file) = file_leads file
  whole_leads {context = context} {surface = surface} (as_items items clauses is gathered) =
      let P : List Mention → Type 0 = EachLeads context in
      subst P (sym (items_mention surface items is)) (items_lead gathered)

  -- ---- each file that is reached is one piece

  module _ (decided : JoinsIsDecided) (uri : List ℕ) (whole : Composed) (schema : ComposesSchema files uri whole) where
    pub record IsGoodFile (context : Context) : Type 0 where
      pub surface : WrittenSurface
      pub says : Says files context.uri surface
      pub is_whole : IsWhole context surface

    leads_from : {context : Context} {surface : WrittenSurface} {mention : Mention} → IsGoodFile context → Says files context.uri surface →
        Contains (mentions_of surface) mention → LeadsToFile context mention
    leads_from {context = context} {surface = surface} {mention = mention} good says mentioned =
        let P : WrittenSurface → Type 0 = λ s. Contains (mentions_of s) mention in
        whole_leads good.is_whole mention (subst P (says_one files context.uri surface good.surface says good.says) mentioned)

    good_file : {context : Context} → Reached files uri context → IsGoodFile context
    good_file the_first = record { surface = schema.surface; says = schema.says; is_whole = as_file whole schema.composed }
    good_file (a_further {context = context} {surface = surface} {mention = mention} {other = other} reached says mentioned joins apart) =
        let leads = leads_from (good_file reached) says mentioned in
        let uris : leads.opens.uri ≡ other =
        decided.1 context.uri (reference_of mention).uri leads.opens.uri other leads.opens.refers joins in
        let inner : leads.inner ≡ referred context (reference_of mention) other =
        leads.opens.inner_is ∙ ap (referred context (reference_of mention)) uris in
        let P : List ℕ → Type 0 = λ u. Says files u leads.surface in
        let Q : Context → Type 0 = λ k. IsWhole k leads.surface in
        record { surface = leads.surface; says = subst P uris leads.opens.says; is_whole = subst Q inner leads.whole }

    mention_leads : {context : Context} {mention : Mention} → Mentions files uri context mention → LeadsToFile context mention
    mention_leads h = leads_from (good_file h.reached) h.says h.mentioned

    absent_never : (absent : List ℕ) → IsAbsent files uri absent → ⊥
    absent_never absent h =
        let good = good_file h.reached in
        let P : List ℕ → Type 0 = λ u. files u ≡ None in
        let same : None ≡ Some good.says.bytes = sym (subst P h.uri_is h.nothing_there) ∙ good.says.there in
        let never : ⊥ = cc in
        never

    no_text_never : (wrong : List ℕ) (at : ℕ) → IsNoText files uri wrong at → ⊥
    no_text_never wrong at h =
        let good = good_file h.reached in
        let P : List ℕ → Type 0 = λ u. files u ≡ Some h.bytes in
        let same : good.says.bytes ≡ h.bytes = same_Some good.says.bytes h.bytes (sym good.says.there ∙ subst P h.uri_is h.there) in
        h.no_text (subst (λ bytes. IsUtf8 bytes) same good.says.is_text)

    bad_uri_never : (text : List ℕ) → HasBadUri files uri text → ⊥
    bad_uri_never text h =
        let leads = mention_leads h.mentioned in
        let P : List ℕ → Type 0 = λ t. IsBadUri h.context.uri t in
        decided.0 h.context.uri (reference_of h.mention).uri leads.opens.uri leads.opens.refers (subst P h.text_is h.bad)

    refused_never : (why : Cause) → IsRefused files uri why → ⊥
    refused_never why h =
        let good = good_file h.reached in
        let same : h.bytes ≡ good.says.bytes = same_Some h.bytes good.says.bytes (sym h.there ∙ good.says.there) in
        let P : List ℕ → Type 0 = λ bytes. RefusesFile bytes why in
        read_not_refused good.says.bytes good.surface why good.says.reads (subst P same h.refused)

    loop_never : HasIncludeLoop files uri → ⊥
    loop_never h =
        let leads = mention_leads h.mentioned in
        let P : List ℕ → Type 0 = λ u. Contains h.context.chain u in
        leads.opens.no_loop (subst P (decided.1 h.context.uri (reference_of h.mention).uri h.other leads.opens.uri h.refers leads.opens.refers) h.leads_here)

    other_never : IncludesOther files uri → ⊥
    other_never h =
        let leads = mention_leads h.mentioned in
        let same = opens_one decided files h.context h.reference h.inner leads.inner h.surface leads.surface h.opens leads.opens in
        let nothing : None ≡ Some leads.included.items = sym h.no_grammar ∙ ap grammar_items same.surface_is ∙ leads.included.is_grammar in
        let never : ⊥ = cc in
        never

    replaces_never : ReplacesNothing files uri → ⊥
    replaces_never h =
        let leads = mention_leads h.mentioned in
        let same = opens_one decided files h.context h.reference h.inner leads.inner h.surface leads.surface h.opens leads.opens in
        let items : h.items ≡ leads.included.items =
        same_Some h.items leads.included.items (sym h.items_are ∙ ap grammar_items same.surface_is ∙ leads.included.is_grammar) in
        let P : Context → Type 0 = λ k. Gathers files k h.items h.clauses in
        let Q : WrittenItems → Type 0 = λ s. Gathers files leads.inner s h.clauses in
        let clauses : unnumbered_in h.clauses ≡ unnumbered_in leads.included.old =
        gathers_one decided files (subst Q items (subst P same.context h.gathered)) leads.included.gathered in
        let R : List Defined → Type 0 = λ names. Contains names h.name in
        let defined : defines h.name leads.included.old ≡ true =
        each_defined leads.included.old (names_of leads.included.new) h.name leads.included.each
        (subst R (sym leads.included.anew) h.anew) in
        let both : false ≡ true = sym h.undefined ∙ defines_same h.name h.clauses leads.included.old clauses ∙ defined in
        let never : ⊥ = cc in
        never

pub are_passed : JoinsIsDecided → (files : FileMap) (uri : List ℕ) (whole : Composed) → ComposesSchema files uri whole → ArePassed files uri
are_passed decided files uri whole schema = record {
  none_absent = absent_never files decided uri whole schema;
  all_texts = no_text_never files decided uri whole schema;
  no_bad_uri = bad_uri_never files decided uri whole schema;
  none_refused = refused_never files decided uri whole schema;
  no_loop = loop_never files decided uri whole schema;
  grammars_included = other_never files decided uri whole schema;
  replaced_defined = replaces_never files decided uri whole schema;
}
