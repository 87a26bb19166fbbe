-- What the changes of an answer give, and that they are changes of the text.
use Rattle.std.proofs.Common.{◌≡◌, ℕ, ◌≤◌, Option, Some, None, List, [], ◌∷◌, ◌++◌, sym, subst, arith}
use Rattle.std.specs.Prelude.{IfSome}
use Rattle.std.specs.Str.{IsUtf8}
use Rattle.std.proofs.lemmas.Str.{IsUtf8-append}
use Rattle.nx_base.specs.Text.{IsPlace}
use Rattle.nx_base.specs.declared.change.Change.{Change}
use Rattle.nx_text.specs.Changing.{AreChanges}
use Rattle.nx_tags.specs.declared.command.TagCommand.{TagCommand}
use Rattle.nx_tags.specs.declared.command.TagCommand.TheVariants.{Finish, Split, Pair, Rename}
use Rattle.nx_tags.specs.Answers.{Answers, PutsInQName, place_of, innermost_name_at}
use Rattle.nx_tags.specs.Changing.{inserting, start_tag, end_tag}
use Rattle.nx_tags.specs.Given.{Gives, GivesItsItems}
use Rattle.nx_tags.proofs.Insertions.{finishing, pairing, splitting, name_is}
use Rattle.nx_tags.proofs.NameTags.{start_tag_utf8, end_tag_utf8}
use Rattle.nx_tags.proofs.NewNames.{are_changes}
use Rattle.nx_tags.proofs.QNames.{qname_is_name}
use Rattle.nx_tags.proofs.Renaming.{renaming_gives}

module _ (text : List ℕ) (utf8 : IsUtf8 text) where
  pub gives_its_items : (command : TagCommand) → IsPlace text (place_of command) → PutsInQName command → (answer : Option (List Change)) → Answers text command answer →
      GivesItsItems text command answer
  gives_its_items command place name None h = tt
  gives_its_items (Finish at) place name (Some changes) h =
      subst (λ cs. Gives text (Finish at) cs) (sym h.1) (finishing text at utf8 place h.0)
  gives_its_items (Split at) place name (Some changes) h =
      subst (λ cs. Gives text (Split at) cs) (sym h.1) (splitting text at utf8 place h.0)
  gives_its_items (Pair at written) place name (Some changes) h =
      subst (λ cs. Gives text (Pair at written) cs) (sym h.1) (pairing text written at utf8 place (qname_is_name written name) h.0)
  gives_its_items (Rename at written) place name (Some changes) h =
      renaming_gives text written at changes utf8 (qname_is_name written name) h

  inserted : (at : ℕ) (added : List ℕ) → IsPlace text at → IsUtf8 added → AreChanges text (inserting at added ∷ [])
  inserted at added place added_utf8 = (record { start = place; end = place; ordered = omega arith }, added_utf8, tt, tt)

  pub are_changes_of : (command : TagCommand) → IsPlace text (place_of command) → PutsInQName command → (answer : Option (List Change)) → Answers text command answer →
      IfSome answer (AreChanges text)
  are_changes_of command place name None h = tt
  are_changes_of (Finish at) place name (Some changes) h =
      subst (λ cs. AreChanges text cs) (sym h.1)
      (inserted at (end_tag (innermost_name_at text at)) place (end_tag_utf8 (innermost_name_at text at) (name_is text at utf8 place h.0)))
  are_changes_of (Split at) place name (Some changes) h =
      let is = name_is text at utf8 place h.0.free in
      let written = innermost_name_at text at in
      subst (λ cs. AreChanges text cs) (sym h.1)
      (inserted at (end_tag written ++ start_tag written) place
      (IsUtf8-append (end_tag written) (start_tag written) (end_tag_utf8 written is) (start_tag_utf8 written is)))
  are_changes_of (Pair at written) place name (Some changes) h =
      let is = qname_is_name written name in
      subst (λ cs. AreChanges text cs) (sym h.1)
      (inserted at (start_tag written ++ end_tag written) place
      (IsUtf8-append (start_tag written) (end_tag written) (start_tag_utf8 written is) (end_tag_utf8 written is)))
  are_changes_of (Rename at written) place name (Some changes) h = are_changes text at written utf8 name.0 changes h
