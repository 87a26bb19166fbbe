-- What is no document, worked out by hand.
use Rattle.std.proofs.Common.{◌≡◌, Bool, true, false, List, [], ◌∷◌, sym, ap, ◌∙◌, refl, codes}
use Prim.Native.String.{String}
use Rattle.nx_base.specs.Tokens.{tokens_of}
use Rattle.nx_base.specs.Trees.{Tree}
use Rattle.nx_base.specs.declared.fault.Fault.{Fault}
use Rattle.nx_base.specs.declared.token.Token.{Token}
use Rattle.nx_events.specs.Among.{faults_among}
use Rattle.nx_events.specs.Items.{items_of}
use Rattle.nx_document.specs.Document.{Document}
use Rattle.nx_document.proofs.Examples.{opened}
use Rattle.nx_document.proofs.Nesting.{document_reads}

abbrev IsNoDocument : String → Type 0
IsNoDocument text = (tree : Tree) → Document (tokens_of (codes text)) tree → ⊥

abbrev has_some : List Fault → Bool
has_some [] = false
has_some (fault ∷ others) = true

refuted : (all : List Token) → has_some (faults_among (items_of all 0)) ≡ true → (tree : Tree) → Document all tree → ⊥
refuted all e tree is = let bad : false ≡ true = sym (ap has_some (document_reads all tree 0 is).0) ∙ e in cc

missing_end : IsNoDocument "<a><b></a>"
unfolding opened
missing_end = refuted (tokens_of (codes "<a><b></a>")) refl

twice_and_unknown : IsNoDocument "<a x='1' x='2'>&nbsp;</a>"
unfolding opened
twice_and_unknown = refuted (tokens_of (codes "<a x='1' x='2'>&nbsp;</a>")) refl

no_token : IsNoDocument "<a><b </a>"
unfolding opened
no_token = refuted (tokens_of (codes "<a><b </a>")) refl

second_root : IsNoDocument "<a/><b/>"
unfolding opened
second_root = refuted (tokens_of (codes "<a/><b/>")) refl

no_declaration : IsNoDocument "<p:a/>"
unfolding opened
no_declaration = refuted (tokens_of (codes "<p:a/>")) refl

nothing : IsNoDocument ""
unfolding opened
nothing = refuted (tokens_of (codes "")) refl

text_outside : IsNoDocument "<a/>x"
unfolding opened
text_outside = refuted (tokens_of (codes "<a/>x")) refl

late_declaration : IsNoDocument " <?xml version='1.0'?><a/>"
unfolding opened
late_declaration = refuted (tokens_of (codes " <?xml version='1.0'?><a/>")) refl

two_doctypes : IsNoDocument "<!DOCTYPE a><!DOCTYPE a><a/>"
unfolding opened
two_doctypes = refuted (tokens_of (codes "<!DOCTYPE a><!DOCTYPE a><a/>")) refl

other_name : IsNoDocument "<a xmlns:p='u' xmlns:q='u'><p:b></q:b></a>"
unfolding opened
other_name = refuted (tokens_of (codes "<a xmlns:p='u' xmlns:q='u'><p:b></q:b></a>")) refl

late_doctype : IsNoDocument "<a/><!DOCTYPE a>"
unfolding opened
late_doctype = refuted (tokens_of (codes "<a/><!DOCTYPE a>")) refl

inner_declaration : IsNoDocument "<a><?xml version='1.0'?></a>"
unfolding opened
inner_declaration = refuted (tokens_of (codes "<a><?xml version='1.0'?></a>")) refl

loose_brackets : IsNoDocument "<a>]]></a>"
unfolding opened
loose_brackets = refuted (tokens_of (codes "<a>]]></a>")) refl

prefixed_target : IsNoDocument "<?a:b?><a/>"
unfolding opened
prefixed_target = refuted (tokens_of (codes "<?a:b?><a/>")) refl

three_hyphens : IsNoDocument "<!--a---><a/>"
unfolding opened
three_hyphens = refuted (tokens_of (codes "<!--a---><a/>")) refl

xml_bound_elsewhere : IsNoDocument "<a xmlns:xml='u'/>"
unfolding opened
xml_bound_elsewhere = refuted (tokens_of (codes "<a xmlns:xml='u'/>")) refl

-- a document type declares no entity here
declared_entity : IsNoDocument "<!DOCTYPE a [<!ENTITY b 'c'>]><a>&b;</a>"
unfolding opened
declared_entity = refuted (tokens_of (codes "<!DOCTYPE a [<!ENTITY b 'c'>]><a>&b;</a>")) refl

-- two prefixes for one namespace
same_expanded : IsNoDocument "<a xmlns:p='u' xmlns:q='u' p:x='1' q:x='2'/>"
unfolding opened
same_expanded = refuted (tokens_of (codes "<a xmlns:p='u' xmlns:q='u' p:x='1' q:x='2'/>")) refl

-- a text is UTF-8, and may call itself US-ASCII, but nothing else
other_encoding : IsNoDocument "<?xml version='1.0' encoding='ISO-8859-1'?><a/>"
unfolding opened
other_encoding = refuted (tokens_of (codes "<?xml version='1.0' encoding='ISO-8859-1'?><a/>")) refl
