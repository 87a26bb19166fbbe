-- Files make one piece, but for the numbers of its elements.
use Rattle.std.proofs.Common.{◌≡◌, refl, sym, ap, ◌∙◌, subst, ℕ, Bool, true, false, List, Some}
use Rattle.std.specs.Prelude.{if◌then◌else◌}
use Rattle.std.proofs.lemmas.Option.{same_Some}
use Rattle.nx_host.specs.Files.{FileMap}
use Rattle.nx_host.specs.Uri.{JoinsIsDecided}
use Rattle.rnc_parse.specs.declared.surface.FileReference.{FileReference}
use Rattle.rnc_parse.specs.declared.surface.Defined.{Defined}
use Rattle.rnc_parse.specs.declared.surface.Combine.{Combine}
use Rattle.rnc_parse.specs.Written.{WrittenPattern, WrittenItem, WrittenItems, WrittenReplacement, WrittenReplacements, WrittenSurface, a_pattern, a_grammar}
use Rattle.rnc_parse.specs.Written as written
use Rattle.rngx_read.specs.Files.{ReadsFile}
use Rattle.rngx_read.proofs.WholeFiles.{read_as_one}
use Rattle.rng_simplify.specs.Classes.{class_in}
use Rattle.rng_simplify.specs.Composed.{Composed, Clauses, end_of_clauses, clause_then, then_clauses, same_defined, defines, but_for, names_of}
use Rattle.rng_simplify.specs.Composed as composed
use Rattle.rng_simplify.specs.ComposedFiles.{Context, top, referred, Says, Opens, grammar_items, DefinesEach, Composes, by_element, by_attribute, by_list, by_ref, by_parent_ref, by_empty, by_text, by_not_allowed, by_value, by_type, by_type_but, by_external, by_grammar, by_optional, by_zero_or_more, by_one_or_more, by_mixed, by_choice, by_group, by_interleave, ComposesFile, of_pattern, of_grammar, Gathers, no_item, definition, division, inclusion, GathersAnew, none_anew, definition_anew, division_anew, ComposesSchema}
use Rattle.rng_simplify.specs.Unnumbered.{unnumbered, unnumbered_in}

-- ---- one file

-- a file says one thing
pub says_one : (files : FileMap) (uri : List ℕ) (one other : WrittenSurface) → Says files uri one → Says files uri other → one ≡ other
says_one files uri one other is also =
    let P : List ℕ → Type 0 = λ bytes. ReadsFile bytes one in
    read_as_one also.bytes one other (subst P (same_Some is.bytes also.bytes (sym is.there ∙ also.there)) is.reads) also.reads

-- a reference leads to one file, which says one thing
pub record OpensOne (inner other : Context) (surface others : WrittenSurface) : Type 0 where
  pub context : inner ≡ other
  pub surface_is : surface ≡ others

pub opens_one : JoinsIsDecided →
    (files : FileMap) (context : Context) (reference : FileReference) (inner other : Context) (surface others : WrittenSurface) →
    Opens files context reference inner surface → Opens files context reference other others → OpensOne inner other surface others
opens_one decided files context reference inner other surface others is also =
    let uris : is.uri ≡ also.uri = decided.1 context.uri reference.uri is.uri also.uri is.refers also.refers in
    let P : List ℕ → Type 0 = λ uri. Says files uri surface in
    record {
      context = is.inner_is ∙ ap (referred context reference) uris ∙ sym also.inner_is;
      surface_is = says_one files also.uri surface others (subst P uris is.says) also.says;
    }

-- ---- clauses without numbers

then_unnumbered : (first more : Clauses) → unnumbered_in (then_clauses first more) ≡ then_clauses (unnumbered_in first) (unnumbered_in more)
then_unnumbered end_of_clauses more = refl
then_unnumbered (clause_then name combine p first) more = ap (clause_then name combine (unnumbered p)) (then_unnumbered first more)

pub defines_unnumbered : (name : Defined) (clauses : Clauses) → defines name (unnumbered_in clauses) ≡ defines name clauses
defines_unnumbered name end_of_clauses = refl
defines_unnumbered name (clause_then other combine p more) =
    ap (λ rest. if same_defined name other then true else rest) (defines_unnumbered name more)

-- what the same clauses without numbers define is the same
pub defines_same : (name : Defined) (some others : Clauses) → unnumbered_in some ≡ unnumbered_in others →
    defines name some ≡ defines name others
defines_same name some others same = sym (defines_unnumbered name some) ∙ ap (defines name) same ∙ defines_unnumbered name others

but_for_if : (defined : Bool) (name : Defined) (combine : Combine) (p : Composed) (rest : Clauses) (more : Clauses) → unnumbered_in
    rest ≡ more → unnumbered_in
    (if defined then rest else clause_then name combine p rest) ≡ (if defined then more else clause_then name combine (unnumbered p) more)
but_for_if true name combine p rest more same = same
but_for_if false name combine p rest more same = ap (clause_then name combine (unnumbered p)) same

but_for_unnumbered : (others clauses : Clauses) →
    unnumbered_in (but_for others clauses) ≡ but_for (unnumbered_in others) (unnumbered_in clauses)
but_for_unnumbered others end_of_clauses = refl
but_for_unnumbered others (clause_then name combine p more) =
    but_for_if (defines name others) name combine p (but_for others more) (but_for (unnumbered_in others) (unnumbered_in more))
    (but_for_unnumbered others more)
    ∙ ap (λ b. if b then but_for (unnumbered_in others) (unnumbered_in more) else clause_then name combine (unnumbered p) (but_for (unnumbered_in others) (unnumbered_in more))) (sym (defines_unnumbered name others))

-- ---- what is composed, by what is written

module _ (decided : JoinsIsDecided) (files : FileMap) where
  abbrev ComposesBy : WrittenPattern → Context → Composed → Type 0
  ComposesBy (written.element class p) context q =
      (number : ℕ) × (r : Composed) × Composes files context p r × (q ≡ composed.element number (class_in context.inherited class) r)
  ComposesBy (written.attribute class p) context q =
      (r : Composed) × Composes files context p r × (q ≡ composed.attribute (class_in context.inherited class) r)
  ComposesBy (written.list p) context q = (r : Composed) × Composes files context p r × (q ≡ composed.listed r)
  ComposesBy (written.mixed p) context q = (r : Composed) × Composes files context p r × (q ≡ composed.interleave composed.any_text r)
  ComposesBy (written.ref name) context q = q ≡ composed.ref name
  ComposesBy (written.parent_ref name) context q = q ≡ composed.parent_ref name
  ComposesBy written.empty context q = q ≡ composed.empty
  ComposesBy written.any_text context q = q ≡ composed.any_text
  ComposesBy written.not_allowed context q = q ≡ composed.not_allowed
  ComposesBy (written.value type text) context q = q ≡ composed.value type text
  ComposesBy (written.typed type params) context q = q ≡ composed.typed type params composed.not_allowed
  ComposesBy (written.typed_but type params except) context q =
      (r : Composed) × Composes files context except r × (q ≡ composed.typed type params r)
  ComposesBy (written.external reference) context q =
      (inner : Context) × (surface : WrittenSurface) × Opens files context reference inner surface × ComposesFile files inner surface q
  ComposesBy (written.grammar items) context q = (clauses : Clauses) × Gathers files context items clauses × (q ≡ composed.grammar clauses)
  ComposesBy (written.optional p) context q = (r : Composed) × Composes files context p r × (q ≡ composed.choice r composed.empty)
  ComposesBy (written.zero_or_more p) context q =
      (r : Composed) × Composes files context p r × (q ≡ composed.choice (composed.one_or_more r) composed.empty)
  ComposesBy (written.one_or_more p) context q = (r : Composed) × Composes files context p r × (q ≡ composed.one_or_more r)
  ComposesBy (written.choice p1 p2) context q =
      (r1 : Composed) × (r2 : Composed) × Composes files context p1 r1 × Composes files context p2 r2 × (q ≡ composed.choice r1 r2)
  ComposesBy (written.group p1 p2) context q =
      (r1 : Composed) × (r2 : Composed) × Composes files context p1 r1 × Composes files context p2 r2 × (q ≡ composed.group r1 r2)
  ComposesBy (written.interleave p1 p2) context q =
      (r1 : Composed) × (r2 : Composed) × Composes files context p1 r1 × Composes files context p2 r2 × (q ≡ composed.interleave r1 r2)

  composes_by : {context : Context} {p : WrittenPattern} {q : Composed} → Composes files context p q → ComposesBy p context q
  composes_by (by_element number part) = (number, _, part, refl)
  composes_by (by_attribute part) = (_, part, refl)
  composes_by (by_list part) = (_, part, refl)
  composes_by by_ref = refl
  composes_by by_parent_ref = refl
  composes_by by_empty = refl
  composes_by by_text = refl
  composes_by by_not_allowed = refl
  composes_by by_value = refl
  composes_by by_type = refl
  composes_by (by_type_but part) = (_, part, refl)
  composes_by (by_external opens file) = (_, _, opens, file)
  composes_by (by_grammar gathered) = (_, gathered, refl)
  composes_by (by_optional part) = (_, part, refl)
  composes_by (by_zero_or_more part) = (_, part, refl)
  composes_by (by_one_or_more part) = (_, part, refl)
  composes_by (by_mixed part) = (_, part, refl)
  composes_by (by_choice one other) = (_, _, one, other, refl)
  composes_by (by_group one other) = (_, _, one, other, refl)
  composes_by (by_interleave one other) = (_, _, one, other, refl)

  abbrev FileBy : WrittenSurface → Context → Composed → Type 0
  FileBy (a_pattern p) context q = Composes files context p q
  FileBy (a_grammar items) context q = (clauses : Clauses) × Gathers files context items clauses × (q ≡ composed.grammar clauses)

  file_by : {context : Context} {surface : WrittenSurface} {q : Composed} → ComposesFile files context surface q → FileBy surface context q
  file_by (of_pattern part) = part
  file_by (of_grammar gathered) = (_, gathered, refl)

  -- an include, with what it leads to
  pub record Includes (context : Context) (reference : FileReference) (replacements : WrittenReplacements) (items : WrittenItems)
      (all : Clauses) : Type 0 where
    pub inner : Context
    pub surface : WrittenSurface
    pub others : WrittenItems
    pub old : Clauses
    pub new : Clauses
    pub clauses : Clauses
    pub opens : Opens files context reference inner surface
    pub is_grammar : grammar_items surface ≡ Some others
    pub gathered : Gathers files inner others old
    pub anew : GathersAnew files context replacements new
    pub each : DefinesEach old (names_of new)
    pub more : Gathers files context items clauses
    pub all_is : all ≡ then_clauses (but_for new old) (then_clauses new clauses)

  abbrev ItemBy : WrittenItem → Context → WrittenItems → Clauses → Type 0
  ItemBy (written.define name combine p) context items all =
      (q : Composed) × (rest : Clauses) × Composes files context p q × Gathers files context items rest
      × (all ≡ clause_then name combine q rest)
  ItemBy (written.div inside) context items all =
      (first : Clauses) × (rest : Clauses) × Gathers files context inside first × Gathers files context items rest
      × (all ≡ then_clauses first rest)
  ItemBy (written.include reference replacements) context items all = Includes context reference replacements items all

  abbrev GathersBy : WrittenItems → Context → Clauses → Type 0
  GathersBy written.no_items context all = all ≡ end_of_clauses
  GathersBy (written.item_then item items) context all = ItemBy item context items all

  gathers_by : {context : Context} {items : WrittenItems} {all : Clauses} → Gathers files context items all → GathersBy items context all
  gathers_by no_item = refl
  gathers_by (definition part more) = (_, _, part, more, refl)
  gathers_by (division inside more is) = (_, _, inside, more, is)
  gathers_by (inclusion opens is_grammar gathered anew each more is) = record {
    inner = _;
    surface = _;
    others = _;
    old = _;
    new = _;
    clauses = _;
    opens = opens;
    is_grammar = is_grammar;
    gathered = gathered;
    anew = anew;
    each = each;
    more = more;
    all_is = is;
  }

  abbrev ReplacementBy : WrittenReplacement → Context → WrittenReplacements → Clauses → Type 0
  ReplacementBy (written.define_anew name combine p) context more all =
      (q : Composed) × (rest : Clauses) × Composes files context p q × GathersAnew files context more rest
      × (all ≡ clause_then name combine q rest)
  ReplacementBy (written.div_anew inside) context more all =
      (first : Clauses) × (rest : Clauses) × GathersAnew files context inside first × GathersAnew files context more rest
      × (all ≡ then_clauses first rest)

  abbrev AnewBy : WrittenReplacements → Context → Clauses → Type 0
  AnewBy written.no_replacements context all = all ≡ end_of_clauses
  AnewBy (written.replacement_then replacement more) context all = ReplacementBy replacement context more all

  anew_by : {context : Context} {replacements : WrittenReplacements} {all : Clauses} → GathersAnew files context replacements all →
      AnewBy replacements context all
  anew_by none_anew = refl
  anew_by (definition_anew part more) = (_, _, part, more, refl)
  anew_by (division_anew inside more is) = (_, _, inside, more, is)

  -- ---- it is one

  both_then : (some others more rest all also : Clauses) → all ≡ then_clauses some more → also ≡ then_clauses others rest →
      unnumbered_in some ≡ unnumbered_in others → unnumbered_in more ≡ unnumbered_in rest → unnumbered_in all ≡ unnumbered_in also
  both_then some others more rest all also is again first second =
      ap unnumbered_in is
      ∙ then_unnumbered some more
      ∙ ap (λ cs. then_clauses cs (unnumbered_in more)) first
      ∙ ap (then_clauses (unnumbered_in others)) second
      ∙ sym (then_unnumbered others rest)
      ∙ ap unnumbered_in (sym again)

  both_but_for : (new other old also : Clauses) → unnumbered_in new ≡ unnumbered_in other → unnumbered_in old ≡ unnumbered_in also →
      unnumbered_in (but_for new old) ≡ unnumbered_in (but_for other also)
  both_but_for new other old also first second =
      but_for_unnumbered new old
      ∙ ap (λ cs. but_for cs (unnumbered_in old)) first
      ∙ ap (but_for (unnumbered_in other)) second
      ∙ sym (but_for_unnumbered other also)

  mutual
    composes_one : {context : Context} {p : WrittenPattern} {q r : Composed} → Composes files context p q → Composes files context p r →
        unnumbered q ≡ unnumbered r
    composes_one {context = context} (by_element {class = class} number part) again =
        let h = composes_by again in ap (composed.element 0 (class_in context.inherited class)) (composes_one part h.2)
        ∙ ap unnumbered (sym h.3)
    composes_one {context = context} (by_attribute {class = class} part) again =
        let h = composes_by again in ap (composed.attribute (class_in context.inherited class)) (composes_one part h.1)
        ∙ ap unnumbered (sym h.2)
    composes_one (by_list part) again = let h = composes_by again in ap composed.listed (composes_one part h.1) ∙ ap unnumbered (sym h.2)
    composes_one by_ref again = ap unnumbered (sym (composes_by again))
    composes_one by_parent_ref again = ap unnumbered (sym (composes_by again))
    composes_one by_empty again = ap unnumbered (sym (composes_by again))
    composes_one by_text again = ap unnumbered (sym (composes_by again))
    composes_one by_not_allowed again = ap unnumbered (sym (composes_by again))
    composes_one by_value again = ap unnumbered (sym (composes_by again))
    composes_one by_type again = ap unnumbered (sym (composes_by again))
    composes_one (by_type_but {type = type} {params = params} part) again =
        let h = composes_by again in ap (composed.typed type params) (composes_one part h.1) ∙ ap unnumbered (sym h.2)
    composes_one {context = context} {r = r} (by_external {inner = inner} {reference = reference} {surface = surface} opens file) again =
        let h = composes_by again in
        let same = opens_one decided files context reference h.0 inner h.1 surface h.2 opens in
        let P : Context → Type 0 = λ k. ComposesFile files k h.1 r in
        let Q : WrittenSurface → Type 0 = λ s. ComposesFile files inner s r in
        file_one file (subst Q same.surface_is (subst P same.context h.3))
    composes_one (by_grammar gathered) again =
        let h = composes_by again in ap composed.grammar (gathers_one gathered h.1) ∙ ap unnumbered (sym h.2)
    composes_one (by_optional part) again =
        let h = composes_by again in ap (λ s. composed.choice s composed.empty) (composes_one part h.1) ∙ ap unnumbered (sym h.2)
    composes_one (by_zero_or_more part) again =
        let h = composes_by again in ap (λ s. composed.choice (composed.one_or_more s) composed.empty) (composes_one part h.1)
        ∙ ap unnumbered (sym h.2)
    composes_one (by_one_or_more part) again =
        let h = composes_by again in ap composed.one_or_more (composes_one part h.1) ∙ ap unnumbered (sym h.2)
    composes_one (by_mixed part) again =
        let h = composes_by again in ap (composed.interleave composed.any_text) (composes_one part h.1) ∙ ap unnumbered (sym h.2)
    composes_one (by_choice {q2 = second} one other) again =
        let h = composes_by again in
        ap (λ s. composed.choice s (unnumbered second)) (composes_one one h.2)
        ∙ ap (composed.choice (unnumbered h.0)) (composes_one other h.3) ∙ ap unnumbered (sym h.4)
    composes_one (by_group {q2 = second} one other) again =
        let h = composes_by again in
        ap (λ s. composed.group s (unnumbered second)) (composes_one one h.2)
        ∙ ap (composed.group (unnumbered h.0)) (composes_one other h.3) ∙ ap unnumbered (sym h.4)
    composes_one (by_interleave {q2 = second} one other) again =
        let h = composes_by again in
        ap (λ s. composed.interleave s (unnumbered second)) (composes_one one h.2)
        ∙ ap (composed.interleave (unnumbered h.0)) (composes_one other h.3) ∙ ap unnumbered (sym h.4)

    file_one : {context : Context} {surface : WrittenSurface} {q r : Composed} → ComposesFile files context surface q →
        ComposesFile files context surface r → unnumbered q ≡ unnumbered r
    file_one (of_pattern part) again = composes_one part (file_by again)
    file_one (of_grammar gathered) again = let h = file_by again in ap composed.grammar (gathers_one gathered h.1) ∙ ap unnumbered (sym h.2)

    pub gathers_one : {context : Context} {items : WrittenItems} {all also : Clauses} → Gathers files context items all →
        Gathers files context items also → unnumbered_in all ≡ unnumbered_in also
    gathers_one no_item again = ap unnumbered_in (sym (gathers_by again))
    gathers_one (definition {name = name} {combine = combine} {clauses = rest} part more) again =
        let h = gathers_by again in
        ap (λ s. clause_then name combine s (unnumbered_in rest)) (composes_one part h.2)
        ∙ ap (clause_then name combine (unnumbered h.0)) (gathers_one more h.3)
        ∙ ap unnumbered_in (sym h.4)
    gathers_one {all = all} {also = also} (division {first = first} {clauses = rest} inside more is) again =
        let h = gathers_by again in
        both_then first h.0 rest h.1 all also is h.4 (gathers_one inside h.2) (gathers_one more h.3)
    gathers_one {context = context} {all = all} {also = also} (inclusion {inner = inner} {reference = reference} {surface = surface} {others = others} {old = old} {new = new} {clauses = rest} opens is_grammar gathered anew each more is) again =
        let h = gathers_by again in
        let same = opens_one decided files context reference h.inner inner h.surface surface h.opens opens in
        let items : h.others ≡ others = same_Some h.others others (sym h.is_grammar ∙ ap grammar_items same.surface_is ∙ is_grammar) in
        let P : Context → Type 0 = λ k. Gathers files k h.others h.old in
        let Q : WrittenItems → Type 0 = λ s. Gathers files inner s h.old in
        let old_same = gathers_one gathered (subst Q items (subst P same.context h.gathered)) in
        let new_same = anew_one anew h.anew in
        both_then (but_for new old) (but_for h.new h.old) (then_clauses new rest) (then_clauses h.new h.clauses) all also is h.all_is
        (both_but_for new h.new old h.old new_same old_same)
        (both_then new h.new rest h.clauses (then_clauses new rest) (then_clauses h.new h.clauses) refl refl new_same (gathers_one more h.more))

    anew_one : {context : Context} {replacements : WrittenReplacements} {all also : Clauses} → GathersAnew files context replacements all →
        GathersAnew files context replacements also → unnumbered_in all ≡ unnumbered_in also
    anew_one none_anew again = ap unnumbered_in (sym (anew_by again))
    anew_one (definition_anew {name = name} {combine = combine} {clauses = rest} part more) again =
        let h = anew_by again in
        ap (λ s. clause_then name combine s (unnumbered_in rest)) (composes_one part h.2)
        ∙ ap (clause_then name combine (unnumbered h.0)) (anew_one more h.3)
        ∙ ap unnumbered_in (sym h.4)
    anew_one {all = all} {also = also} (division_anew {first = first} {clauses = rest} inside more is) again =
        let h = anew_by again in
        both_then first h.0 rest h.1 all also is h.4 (anew_one inside h.2) (anew_one more h.3)

-- files make one piece
pub piece_one : JoinsIsDecided → (files : FileMap) (uri : List ℕ) (whole other : Composed) → ComposesSchema files uri whole →
    ComposesSchema files uri other → unnumbered whole ≡ unnumbered other
piece_one decided files uri whole other is also =
    let same = says_one files uri also.surface is.surface also.says is.says in
    let P : WrittenSurface → Type 0 = λ surface. ComposesFile files (top uri) surface other in
    file_one decided files is.composed (subst P same also.composed)
