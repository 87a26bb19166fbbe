-- The files that a schema file refers to, and all that are reached so: ISO/IEC 19757-2, sections 7.6 to 7.8.
use Rattle.std.specs.Prelude.{ℕ, List, [], ◌∷◌, ◌++◌, Contains}
use Rattle.nx_host.specs.Files.{FileMap}
use Rattle.nx_host.specs.Uri.{Joins}
use Rattle.rnc_parse.specs.declared.surface.FileReference.{FileReference}
use Rattle.rnc_parse.specs.declared.surface.Defined.{Defined}
use Rattle.rnc_parse.specs.Written.{WrittenPattern, WrittenItem, WrittenItems, WrittenReplacement, WrittenReplacements}
use Rattle.rnc_parse.specs.Written.{WrittenSurface, a_pattern, a_grammar}
use Rattle.rnc_parse.specs.Written as written
use Rattle.rng_simplify.specs.ComposedFiles.{Context, top, referred, Says}

-- a file that is mentioned for its pattern, or for its definitions, with those that are defined anew
pub data Mention : Type 0 where
  an_external : FileReference → Mention
  an_include : FileReference → WrittenReplacements → Mention

abbrev pub reference_of : Mention → FileReference
reference_of (an_external reference) = reference
reference_of (an_include reference anew) = reference

-- the files that are mentioned, in order
abbrev mutual
  pub mentions : WrittenPattern → List Mention
  mentions (written.element class p) = mentions p
  mentions (written.attribute class p) = mentions p
  mentions (written.list p) = mentions p
  mentions (written.mixed p) = mentions p
  mentions (written.ref name) = []
  mentions (written.parent_ref name) = []
  mentions written.empty = []
  mentions written.any_text = []
  mentions written.not_allowed = []
  mentions (written.value type text) = []
  mentions (written.typed type params) = []
  mentions (written.typed_but type params except) = mentions except
  mentions (written.external reference) = an_external reference ∷ []
  mentions (written.grammar items) = mentions_of_items items
  mentions (written.optional p) = mentions p
  mentions (written.zero_or_more p) = mentions p
  mentions (written.one_or_more p) = mentions p
  mentions (written.choice p q) = mentions p ++ mentions q
  mentions (written.group p q) = mentions p ++ mentions q
  mentions (written.interleave p q) = mentions p ++ mentions q

  pub mentions_of_item : WrittenItem → List Mention
  mentions_of_item (written.define name combine p) = mentions p
  mentions_of_item (written.div items) = mentions_of_items items
  mentions_of_item (written.include reference replacements) = an_include reference replacements ∷ mentions_anew replacements

  pub mentions_of_items : WrittenItems → List Mention
  mentions_of_items written.no_items = []
  mentions_of_items (written.item_then item items) = mentions_of_item item ++ mentions_of_items items

  pub mentions_of_replacement : WrittenReplacement → List Mention
  mentions_of_replacement (written.define_anew name combine p) = mentions p
  mentions_of_replacement (written.div_anew replacements) = mentions_anew replacements

  pub mentions_anew : WrittenReplacements → List Mention
  mentions_anew written.no_replacements = []
  mentions_anew (written.replacement_then replacement replacements) = mentions_of_replacement replacement ++ mentions_anew replacements

abbrev pub mentions_of : WrittenSurface → List Mention
mentions_of (a_pattern p) = mentions p
mentions_of (a_grammar items) = mentions_of_items items

-- what is defined anew
abbrev mutual
  pub names_of_replacement : WrittenReplacement → List Defined
  names_of_replacement (written.define_anew name combine p) = name ∷ []
  names_of_replacement (written.div_anew replacements) = names_anew replacements

  pub names_anew : WrittenReplacements → List Defined
  names_anew written.no_replacements = []
  names_anew (written.replacement_then replacement replacements) = names_of_replacement replacement ++ names_anew replacements

-- a file is reached from the first one through what files mention, never twice on one chain
pub data Reached (files : FileMap) (uri : List ℕ) : Context → Type 0 where
  the_first : Reached files uri (top uri)
  a_further : {context : Context} {surface : WrittenSurface} {mention : Mention} {other : List ℕ} → Reached files uri context →
      Says files context.uri surface → Contains (mentions_of surface) mention → Joins context.uri (reference_of mention).uri other →
      ¬ Contains context.chain other → Reached files uri (referred context (reference_of mention) other)

-- a file that is reached mentions a file so
pub record Mentions (files : FileMap) (uri : List ℕ) (context : Context) (mention : Mention) : Type 0 where
  pub reached : Reached files uri context
  pub surface : WrittenSurface
  pub says : Says files context.uri surface
  pub mentioned : Contains (mentions_of surface) mention
