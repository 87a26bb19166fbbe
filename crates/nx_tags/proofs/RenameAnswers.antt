-- What is answered to a new name, by the tag that begins at the place.
use Rattle.std.proofs.Common.{◌≡◌, ℕ, ◌+◌, ◌<◌, ◌≤◌, ◌⊎◌, ◌^◌, inl, inr, Option, Some, None, List, [], ◌∷◌, length, refl, sym, ◌∙◌, ap, subst, arith}
use Rattle.std.specs.Prelude.{IfOk, Result}
use Rattle.std.specs.Option.{option_map}
use Rattle.std.specs.Str.{IsUtf8}
use Rattle.nx_base.specs.Text.{IsPlace}
use Rattle.nx_base.specs.Tokens.{cut, end_of, tokens_from}
use Rattle.nx_base.specs.declared.change.Change.{Change}
use Rattle.nx_base.specs.declared.token.Token.{Token}
use Rattle.nx_base.specs.declared.token.TokenKind.TheVariants as kinds
use Rattle.nx_events.specs.Tags.{start_name}
use Rattle.nx_scan.proofs.Every.{cut-is_token}
use Rattle.nx_tags.specs.Answers.{IfRenamed, Renames}
use Rattle.nx_tags.specs.Changing.{renaming}
use Rattle.nx_tags.specs.Closing.{BeginsAt, FoundToken, FoundEnd}
use Rattle.nx_tags.proofs.Answering.{done_renamed}
use Rattle.nx_tags.proofs.Closing.{closing_end, end_told}
use Rattle.nx_tags.proofs.NewNames.{none_begins, no_tag, empty_renamed, both_renamed, not_closed, names_fit, end_name_fits}

abbrev closing : List ℕ → Token → Option Token
closing text tag = closing_end (tag ∷ []) (tokens_from text (end_of tag))

abbrev place_of_end : Option Token → Option ℕ
place_of_end found = option_map (λ (end : Token). end.from) found

end_there : (found : Option Token) (end : ℕ) → Some end ≡ place_of_end found → (t : Token) × (found ≡ Some t) × (end ≡ t.from)
end_there None end e = absurd (cc)
end_there (Some t) end e = let same : end ≡ t.from = cc in (t, refl, same)

none_there : (found : Option Token) → None ≡ place_of_end found → found ≡ None
none_there None e = refl
none_there (Some t) e = cc

module _ (text : List ℕ) (at : ℕ) (name : List ℕ) (utf8 : IsUtf8 text) where
  pub nothing_there : (found : Option Token) → FoundToken text at found → found ≡ None → IfRenamed text at name None
  nothing_there found h e = none_begins text at name utf8 (subst (λ o. FoundToken text at o) e h)

  -- the token that begins there
  pub record IsThere (tag : Token) : Type 0 where
    pub begins : BeginsAt text at
    pub is : tag ≡ cut text at
    pub ends : at + length tag.bytes ≡ end_of tag
    pub border : IsPlace text (end_of tag)

  pub tag_there : (found : Option Token) (tag : Token) → FoundToken text at found → found ≡ Some tag → IsThere tag
  tag_there found tag h e =
      let both = subst (λ o. FoundToken text at o) e h in
      let token = cut-is_token text at utf8 both.0.border.place both.0.within in
      let from = ap (λ (t : Token). t.from) both.1 ∙ token.from in
      record {
        begins = both.0;
        is = both.1;
        ends = omega arith;
        border = subst (λ (t : Token). IsPlace text (end_of t)) (sym both.1) token.border;
      }

  module _ (tag : Token) (there : IsThere tag) (len : ℕ) (written : len ≡ length (start_name tag.bytes)) where
    len_is : len ≡ length (start_name (cut text at).bytes)
    len_is = written ∙ ap (λ (t : Token). length (start_name t.bytes)) there.is

    pub empty_answered : {E : Type 0} (result : Result (Option (List Change)) E) → tag.kind ≡ kinds.Empty →
        IfOk result (λ found. found ≡ Some (renaming at None len name)) → IfOk result (IfRenamed text at name)
    empty_answered result is h =
        done_renamed text at name (renaming at None len name) result h
        (subst (λ n. Renames text at name (renaming at None n name)) (sym len_is)
        (empty_renamed text at name utf8 there.begins (ap (λ (t : Token). t.kind) (sym there.is) ∙ is)))

    pub name_room : length text < 2 ^ 64 → (tag.kind ≡ kinds.Start) ⊎ (tag.kind ≡ kinds.Empty) → at + 1 + len < 2 ^ 64
    name_room fits is =
        let same = len_is in
        let within = names_fit text at name utf8 there.begins
        (elim is [ inl s ↦ inl (ap (λ (t : Token). t.kind) (sym there.is) ∙ s) | inr e ↦ inr (ap (λ (t : Token). t.kind) (sym there.is) ∙ e) ]) in
        omega arith

    module _ (start : tag.kind ≡ kinds.Start) (to : ℕ) (to_is : to ≡ at + length tag.bytes) where
      start_here : (cut text at).kind ≡ kinds.Start
      start_here = ap (λ (t : Token). t.kind) (sym there.is) ∙ start

      found_here : (found : Option ℕ) → FoundEnd tag (tokens_from text to) found → found ≡ place_of_end (closing text (cut text at))
      found_here found h =
          end_told tag (tokens_from text to) found h ∙ ap (λ n. place_of_end (closing_end (tag ∷ []) (tokens_from text n))) (to_is ∙ there.ends)
          ∙ ap (λ t. place_of_end (closing text t)) there.is

      module _ (found : Option ℕ) (end : ℕ) (h : FoundEnd tag (tokens_from text to) found) (e : found ≡ Some end) where
        its_end : (t : Token) × (closing text (cut text at) ≡ Some t) × (end ≡ t.from)
        its_end = end_there (closing text (cut text at)) end (sym e ∙ found_here found h)

        pub both_answered : {E : Type 0} (result : Result (Option (List Change)) E) →
            IfOk result (λ answer. answer ≡ Some (renaming at (Some end) len name)) → IfOk result (IfRenamed text at name)
        both_answered result answered =
            done_renamed text at name (renaming at (Some end) len name) result answered
            (subst (λ n. Renames text at name (renaming at (Some n) len name)) (sym its_end.2)
            (subst (λ n. Renames text at name (renaming at (Some its_end.0.from) n name)) (sym len_is)
            (both_renamed text at name utf8 there.begins its_end.0 start_here its_end.1)))

        pub end_room : length text < 2 ^ 64 → end + 2 + len < 2 ^ 64
        end_room fits =
            let same = len_is in
            let e_is = its_end.2 in
            let within = end_name_fits text at name utf8 its_end.0 there.begins start_here its_end.1 in
            omega arith

      pub not_answered : (found : Option ℕ) → FoundEnd tag (tokens_from text to) found → found ≡ None → IfRenamed text at name None
      not_answered found h e =
          not_closed text at name utf8 there.begins start_here (none_there (closing text (cut text at)) (sym e ∙ found_here found h))

  -- a token of another kind
  pub other_answered : (tag : Token) → IsThere tag → (tag.kind ≡ kinds.Empty → ⊥) → (tag.kind ≡ kinds.Start → ⊥) → IfRenamed text at name None
  other_answered tag there no_empty no_start =
      no_tag text at name utf8 (λ is. no_empty (ap (λ (t : Token). t.kind) there.is ∙ is)) (λ is. no_start (ap (λ (t : Token). t.kind) there.is ∙ is))
