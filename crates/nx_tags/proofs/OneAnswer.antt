-- A command has one answer.
use Rattle.std.proofs.Common.{◌≡◌, ℕ, inl, inr, Option, Some, None, List, length, refl, sym, ◌∙◌, ap, subst}
use Rattle.std.specs.Str.{IsUtf8}
use Rattle.nx_base.specs.Tokens.{end_of, tokens_from}
use Rattle.nx_base.specs.declared.change.Change.{Change}
use Rattle.nx_base.specs.declared.token.Token.{Token}
use Rattle.nx_base.specs.declared.token.TokenKind.TheVariants as kinds
use Rattle.nx_events.specs.Tags.{start_name}
use Rattle.nx_tags.specs.declared.command.TagCommand.{TagCommand}
use Rattle.nx_tags.specs.declared.command.TagCommand.TheVariants.{Finish, Split, Pair, Rename}
use Rattle.nx_tags.specs.Answers.{Answers, IfDone, Renames, IfRenamed}
use Rattle.nx_tags.specs.Changing.{renaming}
use Rattle.nx_tags.specs.Closing.{IsEndTag}
use Rattle.nx_tags.specs.Elements.{IsElementAt, IsEmptyAt}
use Rattle.nx_tags.proofs.Closing.{one_end}
use Rattle.nx_tags.proofs.NewNames.{element_begins, empty_begins}

one_done : (allowed : Type 0) (there : List Change) (one other : Option (List Change)) → IfDone allowed there one → IfDone allowed there other → one ≡ other
one_done allowed there None None h k = refl
one_done allowed there None (Some other) h k = absurd (h k.0)
one_done allowed there (Some one) None h k = absurd (k h.0)
one_done allowed there (Some one) (Some other) h k = ap (λ (cs : List Change). Some cs) (h.1 ∙ sym k.1)

module _ (text : List ℕ) (at : ℕ) (name : List ℕ) (utf8 : IsUtf8 text) where
  not_both : (tag start end : Token) → IsEmptyAt text at tag → IsElementAt text at start end → ⊥
  not_both tag start end empty is =
      let bad : kinds.Empty ≡ kinds.Start =
      sym empty.kind ∙ ap (λ (x : Token). x.kind) ((empty_begins text at name utf8 tag empty).1 ∙ sym (element_begins text at name utf8 start end is).1) ∙ is.start_kind in
      cc

  one_naming : (one other : List Change) → Renames text at name one → Renames text at name other → one ≡ other
  one_naming one other (inl (tag, is, e)) (inl (same, its, k)) =
      let tags : tag ≡ same = (empty_begins text at name utf8 tag is).1 ∙ sym (empty_begins text at name utf8 same its).1 in
      e ∙ ap (λ (x : Token). renaming at None (length (start_name x.bytes)) name) tags ∙ sym k
  one_naming one other (inl (tag, is, e)) (inr (start, end, its, k)) = absurd (not_both tag start end is its)
  one_naming one other (inr (start, end, is, e)) (inl (tag, its, k)) = absurd (not_both tag start end its is)
  one_naming one other (inr (start, end, is, e)) (inr (first, last, its, k)) =
      let b = element_begins text at name utf8 start end is in
      let c = element_begins text at name utf8 first last its in
      let starts : first ≡ start = c.1 ∙ sym b.1 in
      let closed : IsEndTag start (tokens_from text (end_of start)) last = subst (λ (x : Token). IsEndTag x (tokens_from text (end_of x)) last) starts c.2 in
      let ends : end ≡ last = one_end start (tokens_from text (end_of start)) end last b.2 closed in
      e ∙ ap (λ (x : Token). renaming at (Some x.from) (length (start_name start.bytes)) name) ends
      ∙ ap (λ (x : Token). renaming at (Some last.from) (length (start_name x.bytes)) name) (sym starts) ∙ sym k

  one_renamed : (one other : Option (List Change)) → IfRenamed text at name one → IfRenamed text at name other → one ≡ other
  one_renamed None None h k = refl
  one_renamed None (Some other) h k = absurd (h other k)
  one_renamed (Some one) None h k = absurd (k one h)
  one_renamed (Some one) (Some other) h k = ap (λ (cs : List Change). Some cs) (one_naming one other h k)

pub answers_are_one : (text : List ℕ) (command : TagCommand) (one other : Option (List Change)) → IsUtf8 text → Answers text command one → Answers text command other → one ≡ other
answers_are_one text (Finish at) one other utf8 h k = one_done _ _ one other h k
answers_are_one text (Split at) one other utf8 h k = one_done _ _ one other h k
answers_are_one text (Pair at name) one other utf8 h k = one_done _ _ one other h k
answers_are_one text (Rename at name) one other utf8 h k = one_renamed text at name utf8 one other h k
