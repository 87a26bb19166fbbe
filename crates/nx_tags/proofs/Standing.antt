-- Where a token stands that is one of the tokens of a text.
use Rattle.std.proofs.Common.{◌≡◌, ℕ, ◌-◌, ◌<◌, ◌≤◌, false, inl, inr, List, [], ◌∷◌, ◌++◌, length, sym, ◌∙◌, ap, subst, arith}
use Rattle.std.specs.List.{AllByRecursion}
use Rattle.std.specs.Str.{IsUtf8}
use Rattle.std.proofs.lemmas.Bool.{cases_lt}
use Rattle.std.proofs.lemmas.Str.{IsCharBoundary-start}
use Rattle.nx_base.specs.Text.{IsPlace}
use Rattle.nx_base.specs.Tokens.{cut, end_of, tokens_from, tokens_of}
use Rattle.nx_base.specs.declared.token.Token.{Token}
use Rattle.nx_scan.proofs.Every.{cut-is_token}
use Rattle.nx_scan.proofs.Joined.{tokens-go_on}
use Rattle.nx_tags.specs.Closing.{BeginsAt}
use Rattle.nx_tags.specs.Parts.{cuts, ending_by}
use Rattle.nx_tags.proofs.Around.{tokens-none, not_cut_before, not_cut_behind}
use Rattle.nx_tags.proofs.Reading.{all_append, all_from, border_split}

-- it is cut where it begins, behind those in front of it
record IsStanding (text : List ℕ) (from : ℕ) (before : List Token) (token : Token) (others : List Token) : Type 0 where
  place : IsPlace text token.from
  within : token.from < length text
  is : token ≡ cut text token.from
  rest : others ≡ tokens_from text (end_of token)
  later : from ≤ token.from
  in_front : AllByRecursion (λ (x : Token). end_of x ≤ token.from) before

module _ (text : List ℕ) (utf8 : IsUtf8 text) where
  first_is : (p : ℕ) (token : Token) (others : List Token) → IsPlace text p → p < length text → tokens_from text p ≡ token ∷ others →
      (token ≡ cut text p) × (others ≡ tokens_from text (end_of token))
  first_is p token others place within h =
      let both : cut text p ∷ tokens_from text (end_of (cut text p)) ≡ token ∷ others = sym (tokens-go_on text p utf8 place within) ∙ h in
      let one : token ≡ cut text p = cc in
      let more : others ≡ tokens_from text (end_of (cut text p)) = cc in
      (one, more ∙ ap (λ (x : Token). tokens_from text (end_of x)) (sym one))

  not_past : (p : ℕ) (token : Token) (others : List Token) → tokens_from text p ≡ token ∷ others → p < length text
  not_past p token others h =
      elim (cases_lt p (length text)) [
        | inl within ↦ within
        | inr past ↦ absurd (let bad : [] ≡ token ∷ others = sym (tokens-none text p past) ∙ h in cc)
      ]

  standing : (before : List Token) (p : ℕ) (token : Token) (others : List Token) → IsPlace text p → tokens_from text p ≡ before ++ token ∷ others →
      IsStanding text p before token others
  standing [] p token others place h =
      let within = not_past p token others h in
      let both = first_is p token others place within h in
      let from : token.from ≡ p = ap (λ (x : Token). x.from) both.0 ∙ (cut-is_token text p utf8 place within).from in
      record {
        place = subst (λ n. IsPlace text n) (sym from) place;
        within = omega arith;
        is = both.0 ∙ ap (cut text) (sym from);
        rest = both.1;
        later = omega arith;
        in_front = tt;
      }
  standing (x ∷ before) p token others place h =
      let within = not_past p x (before ++ token ∷ others) h in
      let both = first_is p x (before ++ token ∷ others) place within h in
      let here = cut-is_token text p utf8 place within in
      let from : x.from ≡ p = ap (λ (t : Token). t.from) both.0 ∙ here.from in
      let border : IsPlace text (end_of x) = subst (λ (t : Token). IsPlace text (end_of t)) (sym both.0) here.border in
      let r = standing before (end_of x) token others border (sym both.1) in
      let later = r.later in
      record { place = r.place; within = r.within; is = r.is; rest = r.rest; later = omega arith; in_front = (later, r.in_front) }

  uncut_front : (at : ℕ) (before : List Token) → AllByRecursion (λ (x : Token). end_of x ≤ at) before → AllByRecursion (λ (x : Token). cuts at x ≡ false) before
  uncut_front at [] h = tt
  uncut_front at (x ∷ before) h = (not_cut_before at x h.0, uncut_front at before h.1)

  -- a token begins there
  pub begins : (before : List Token) (token : Token) (others : List Token) → tokens_of text ≡ before ++ token ∷ others →
      BeginsAt text token.from × (token ≡ cut text token.from) × (others ≡ tokens_from text (end_of token))
      × AllByRecursion (λ (x : Token). end_of x ≤ token.from) before
  begins before token others h =
      let s = standing before 0 token others (IsCharBoundary-start text utf8) h in
      let Uncut : Token → Type 0 = λ (x : Token). cuts token.from x ≡ false in
      let behind : tokens_from text token.from ≡ token ∷ others =
      tokens-go_on text token.from utf8 s.place s.within ∙ ap (λ (x : Token). x ∷ tokens_from text (end_of x)) (sym s.is) ∙ ap (λ xs. token ∷ xs) (sym s.rest) in
      let later = s.within in (
        record {
          border = record {
            place = s.place;
            uncut = subst (λ xs. AllByRecursion Uncut xs) (sym h)
                (all_append Uncut before (token ∷ others) (uncut_front token.from before s.in_front)
                (subst (λ xs. AllByRecursion Uncut xs) behind
                (all_from Uncut token.from (λ x from end. not_cut_behind token.from x from) (length text - token.from) text token.from utf8 s.place (omega arith) (omega arith))));
          };
          within = s.within;
        },
        s.is,
        s.rest,
        s.in_front,
      )

  -- and the other way round
  pub tokens_there : (at : ℕ) → BeginsAt text at → tokens_of text ≡ ending_by at (tokens_of text) ++ cut text at ∷ tokens_from text (end_of (cut text at))
  tokens_there at h = border_split text utf8 at h.border ∙ ap (λ xs. ending_by at (tokens_of text) ++ xs) (tokens-go_on text at utf8 h.border.place h.within)
