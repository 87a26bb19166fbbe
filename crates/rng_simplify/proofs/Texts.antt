-- The texts of what a file mentions are UTF-8.
use Rattle.std.proofs.Common.{ℕ, List, [], ◌∷◌, ◌++◌}
use Rattle.std.specs.Prelude.{IsUtf8}
use Rattle.rnc_parse.specs.declared.surface.Namespace.{Namespace}
use Rattle.rnc_parse.specs.declared.surface.Namespace.TheVariants as namespace
use Rattle.rng_simplify.specs.Classes.{namespace_in}
use Rattle.rnc_parse.specs.Texts.{NamespaceIsText, PatternIsText, ItemIsText, ItemsAreText, ReplacementIsText, ReplacementsAreText, HasUtf8Texts}
use Rattle.rnc_parse.specs.Written.{WrittenPattern, WrittenItem, WrittenItems, WrittenReplacement, WrittenReplacements, WrittenSurface, a_pattern, a_grammar}
use Rattle.rnc_parse.specs.Written as written
use Rattle.rng_simplify.specs.KeptMentions.{kept_of_all, AreTextMentions}
use Rattle.rng_simplify.specs.References.{Mention, mentions, mentions_of, mentions_of_item, mentions_of_items, mentions_of_replacement, mentions_anew}

both_texts : (ns : List ℕ) (xs ys : List Mention) → AreTextMentions (kept_of_all ns xs) → AreTextMentions (kept_of_all ns ys) →
    AreTextMentions (kept_of_all ns (xs ++ ys))
both_texts ns [] ys first second = second
both_texts ns (x ∷ xs) ys first second = (first.0, both_texts ns xs ys first.1 second)

module _ (ns : List ℕ) (is_text : IsUtf8 ns) where
  namespace_text : (namespace : Namespace) → NamespaceIsText namespace → IsUtf8 (namespace_in ns namespace)
  namespace_text namespace.Inherited h = is_text
  namespace_text (namespace.Uri uri) h = h

  mutual
    pattern_texts : (p : WrittenPattern) → PatternIsText p → AreTextMentions (kept_of_all ns (mentions p))
    pattern_texts (written.element class p) h = pattern_texts p h.1
    pattern_texts (written.attribute class p) h = pattern_texts p h.1
    pattern_texts (written.list p) h = pattern_texts p h
    pattern_texts (written.mixed p) h = pattern_texts p h
    pattern_texts (written.ref name) h = tt
    pattern_texts (written.parent_ref name) h = tt
    pattern_texts written.empty h = tt
    pattern_texts written.any_text h = tt
    pattern_texts written.not_allowed h = tt
    pattern_texts (written.value type text) h = tt
    pattern_texts (written.typed type params) h = tt
    pattern_texts (written.typed_but type params except) h = pattern_texts except h.2
    pattern_texts (written.external reference) h = ((h.0, namespace_text reference.namespace h.1), tt)
    pattern_texts (written.grammar items) h = items_texts items h
    pattern_texts (written.optional p) h = pattern_texts p h
    pattern_texts (written.zero_or_more p) h = pattern_texts p h
    pattern_texts (written.one_or_more p) h = pattern_texts p h
    pattern_texts (written.choice p q) h = both_texts ns (mentions p) (mentions q) (pattern_texts p h.0) (pattern_texts q h.1)
    pattern_texts (written.group p q) h = both_texts ns (mentions p) (mentions q) (pattern_texts p h.0) (pattern_texts q h.1)
    pattern_texts (written.interleave p q) h = both_texts ns (mentions p) (mentions q) (pattern_texts p h.0) (pattern_texts q h.1)

    item_texts : (item : WrittenItem) → ItemIsText item → AreTextMentions (kept_of_all ns (mentions_of_item item))
    item_texts (written.define name combine p) h = pattern_texts p h.1
    item_texts (written.div items) h = items_texts items h
    item_texts (written.include reference replacements) h = ((h.0.0, namespace_text reference.namespace h.0.1), anew_texts replacements h.1)

    items_texts : (items : WrittenItems) → ItemsAreText items → AreTextMentions (kept_of_all ns (mentions_of_items items))
    items_texts written.no_items h = tt
    items_texts (written.item_then item items) h =
        both_texts ns (mentions_of_item item) (mentions_of_items items) (item_texts item h.0) (items_texts items h.1)

    replacement_texts : (replacement : WrittenReplacement) → ReplacementIsText replacement →
        AreTextMentions (kept_of_all ns (mentions_of_replacement replacement))
    replacement_texts (written.define_anew name combine p) h = pattern_texts p h.1
    replacement_texts (written.div_anew replacements) h = anew_texts replacements h

    anew_texts : (replacements : WrittenReplacements) → ReplacementsAreText replacements →
        AreTextMentions (kept_of_all ns (mentions_anew replacements))
    anew_texts written.no_replacements h = tt
    anew_texts (written.replacement_then replacement replacements) h =
        both_texts ns (mentions_of_replacement replacement) (mentions_anew replacements) (replacement_texts replacement h.0)
        (anew_texts replacements h.1)

  pub surface_texts : (surface : WrittenSurface) → HasUtf8Texts surface → AreTextMentions (kept_of_all ns (mentions_of surface))
  surface_texts (a_pattern p) h = pattern_texts p h
  surface_texts (a_grammar items) h = items_texts items h
