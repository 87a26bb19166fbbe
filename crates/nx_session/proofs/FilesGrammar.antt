-- What no fault says of the grammar that the schema's files define.
use Rattle.std.proofs.Common.{◌≡◌, ◌⊎◌, ℕ, List, [], ◌∷◌, Option, Some, IsUtf8, sym, ap, subst, inl, inr, ⊎_elim}
use Rattle.std.specs.Prelude.{◌↔◌}
use Rattle.std.specs.Option.{option_map}
use Rattle.nx_script.specs.declared.reply.Reply.TheVariants.{Errors}
use Rattle.nx_base.specs.Tokens.{tokens_of}
use Rattle.nx_base.specs.Trees.{Attribute, Children, Event, Tree, nil, string, element, alone, flat, attributes_flat, children_flat, TagEnd, Leave, AreWritable}
use Rattle.nx_document.specs.Document.{Document}
use Rattle.nx_document.specs.WellFormed.{DocumentsAreWritable}
use Rattle.nx_recovery.specs.Validity.{IsValidDocument}
use Rattle.nx_session.specs.Editor.{schema_of}
use Rattle.nx_session.specs.Schemas.{IsUsable}
use Rattle.nx_session.specs.Validity.{IsDocumentFor, NoErrorsIsValid, NoErrorsIsValidForFiles}
use Rattle.rng_core.specs.Meaning.{language_of}
use Rattle.rng_core.specs.declared.grammar.Grammar.{Grammar}
use Rattle.rng_live.specs.Dead.{ValuesAre, StringsAre, IsOfUtf8, no_values, one_value, no_strings, one_string, one_element}
use Rattle.rng_residual.proofs.SmallPatterns.{and_true}

-- what can be written is text
values_text : (a : List Attribute) (z : List Event) → AreWritable (attributes_flat a z) → ValuesAre IsOfUtf8 a × AreWritable z
values_text [] z h = (no_values, h)
values_text (x ∷ a) z h = let w = values_text a z h.1 in (one_value (record { of_utf8 = (and_true _ _ h.0.1).0 }) w.0, w.1)

children_text : (k : Children) (z : List Event) → AreWritable (children_flat k z) → StringsAre IsOfUtf8 k × AreWritable z
children_text nil z h = (no_strings, h)
children_text (string t r) z h = let w = children_text r z h.1 in (one_string (record { of_utf8 = (and_true _ _ h.0).0 }) w.0, w.1)
children_text (element n a k r) z h =
    let v = values_text a (TagEnd ∷ children_flat k (Leave ∷ children_flat r z)) h.1 in
    let s = children_text k (Leave ∷ children_flat r z) v.1.1 in
    let w = children_text r z s.1.1 in
    (one_element v.0 s.0 w.0, w.1)

-- a document is valid against what can be used of a grammar exactly where it is valid against the grammar
valid_alike : DocumentsAreWritable → (whole left : Grammar) → IsUsable whole left → (text : List ℕ) → IsUtf8 text →
    IsValidDocument (language_of left) text ↔ IsValidDocument (language_of whole) text
valid_alike writable whole left usable text utf8 =
    let strings : (tree : Tree) → Document (tokens_of text) tree → StringsAre IsOfUtf8 (alone tree) =
    λ tree document. (children_text (alone tree) [] (writable text tree utf8 document)).0 in (
      (λ d. record {
        tree = d.tree;
        document = d.document;
        matched = (usable.trees [] (alone d.tree) no_values (strings d.tree d.document)).0 d.matched;
      }),
      (λ d. record {
        tree = d.tree;
        document = d.document;
        matched = (usable.trees [] (alone d.tree) no_values (strings d.tree d.document)).1 d.matched;
      }),
    )

pub valid_for_files : DocumentsAreWritable → NoErrorsIsValid → NoErrorsIsValidForFiles
valid_for_files writable exact session files views steps reply new told uri whole left right held defines usable schema h =
    let alike = valid_alike writable whole left usable session.editor.text right.utf8 in
    ⊎_elim
    (λ same.
    let known = subst (λ o. (reply ≡ Errors []) ↔ IsDocumentFor (option_map language_of o) session.editor.text) schema same in
    inl ((λ e. alike.0 (known.0 e)), (λ d. known.1 (alike.1 d))))
    (λ refused. inr refused)
    (exact session files views steps reply new right held h)
