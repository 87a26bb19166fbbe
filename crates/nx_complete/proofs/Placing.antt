-- From a machine's way through a text to the offers of a place.
use Rattle.std.proofs.Common.{◌≡◌, ℕ, zero, suc, ◌+◌, ◌-◌, ◌<◌, ◌≤◌, List, [], ◌∷◌, ◌++◌, length, map, take, Option, Some, None, Result, Ok, Err, refl, sym, ap, subst, ◌∙◌, arith}
use Rattle.std.specs.Prelude.{IsUtf8, IfOk, IfSome, option_map}
use Rattle.std.proofs.lemmas.Str.{IsCharBoundary-start}
use Rattle.nx_base.specs.Rules.{Rules, Lexeme, lexeme_of, LaterLaws}
use Rattle.nx_base.specs.Running.{CutsTo, after_all}
use Rattle.nx_base.specs.Text.{IsPlace}
use Rattle.nx_base.specs.Tokens.{cut, end_of, tokens_of, tokens_from}
use Rattle.nx_base.specs.declared.offer.Offers.{Offers}
use Rattle.nx_base.specs.declared.offer.Offers.TheVariants as answers
use Rattle.nx_base.specs.declared.token.Token.{Token}
use Rattle.nx_scan.proofs.Joined.{tokens-go_on}
use Rattle.rng_core.specs.Patterns.{Language}
use Rattle.rng_kept.specs.Live.{IsLive}
use Rattle.rng_kept.specs.Residuals.{Residual}
use Rattle.nx_recover.specs.Machine.{later_by, state_by, means_by, rules_by}
use Rattle.nx_recover.specs.Offers.{UpTo, OffersOf, without_schema}
use Rattle.nx_recover.specs.States.{form, view_of}
use Rattle.nx_recover.specs.declared.state.RecoverState.{RecoverState}
use Rattle.nx_recover.specs.RecoverRules.{Recovered, recover_rules}
use Rattle.nx_complete.specs.Answering.{IsAnswer}
use Rattle.nx_complete.specs.Walking.{IsBehind, IsBefore}
use Rattle.nx_complete.proofs.Answered.{place_answer}
use Rattle.nx_complete.proofs.Places.{text_up_to}
use Rattle.nx_complete.proofs.Walk.{splits}

-- a state that means the same
pub copied : {S M : Type 0} (is : S → Type 0) (means : S → M) (r : Rules M) (text : List ℕ) (at : ℕ) (s t : S) → IsBehind is means r text at s → is t → means t ≡ means s → IsBehind is means r text at t
copied is means r text at s t h i e = record { place = h.place; tokens = h.tokens; cuts = h.cuts; is_one = i; meaning = e ∙ h.meaning }

-- what stands in front of a place, by a machine's way
pub record Placed (text : List ℕ) (at : ℕ) (tokens : List Lexeme) (token : Token) : Type 0 where
  pub place : UpTo text at
  pub token_is : place.token ≡ token
  pub lexemes : map lexeme_of place.front ≡ tokens

pub place_of : {S M : Type 0} (is : S → Type 0) (means : S → M) (r : Rules M) (text : List ℕ) (at : ℕ) (s : S) (token : Token) → IsUtf8 text → at ≤ length text → (h : IsBefore is means r text at s token) → Placed text at h.behind.tokens token
place_of is means r text at s token utf8 within h =
    let w = splits text 0 h.border h.behind.tokens utf8 h.behind.cuts in
    let inside : h.border < length text = omega (arith, h.from, h.begun, within) in
    let on = tokens-go_on text h.border utf8 h.behind.place inside in
    record {
      place = record {
        front = w.front;
        token = token;
        rest = tokens_from text (end_of (cut text h.border));
        tokens = w.is ∙ ap (λ (l : List Token). w.front ++ l) (on ∙ ap (λ (k : Token). k ∷ tokens_from text (end_of (cut text h.border))) (sym h.is));
        begun = h.begun;
        inside = h.inside;
      };
      token_is = refl;
      lexemes = w.lexemes;
    }

-- the answer behind what a machine's state means is what the place is offered
pub offers_stand : (g : Language) → IsLive g → {S : Type 0} (is : S → Type 0) (means : S → Recovered) (text : List ℕ) (at : ℕ) (s : S) (token : Token) → IsUtf8 text → at ≤ length text →
    IsBefore is means (recover_rules (Some g)) text at s token → (answer : Offers) → IsAnswer g (means s).levels (means s).events (take (at - token.from) token.bytes) answer → OffersOf (Some g) text at answer
offers_stand g live is means text at s token utf8 within h answer a =
    let w = place_of is means (recover_rules (Some g)) text at s token utf8 within h in
    let rules = recover_rules (Some g) in
    let e : means s ≡ after_all rules rules.first (map lexeme_of w.place.front) = h.behind.meaning ∙ ap (after_all rules rules.first) (sym w.lexemes) in
    let P : Recovered → Type 0 = λ m. IsAnswer g m.levels m.events (take (at - w.place.token.from) w.place.token.bytes) answer in
    let b = subst (λ (k : Token). IsAnswer g (means s).levels (means s).events (take (at - k.from) k.bytes) answer) (sym w.token_is) a in
    place_answer g live text utf8 at w.place answer (subst P e b)

-- the bytes of the token in front of the place are text
pub bytes_text : {S M : Type 0} (is : S → Type 0) (means : S → M) (r : Rules M) (text : List ℕ) (at : ℕ) (s : S) (token : Token) → IsUtf8 text → IsPlace text at → IsBefore is means r text at s token →
    IsUtf8 (take (at - token.from) token.bytes)
bytes_text is means r text at s token utf8 place h = text_up_to text h.border at token utf8 h.behind.place place h.is h.from h.begun h.inside

-- the start of a text
pub at_first : {S M : Type 0} (is : S → Type 0) (means : S → M) (r : Rules M) (text : List ℕ) (s : S) → IsUtf8 text → is s → means s ≡ r.first → IsBehind is means r text 0 s
at_first is means r text s utf8 i e = record { place = IsCharBoundary-start text utf8; tokens = []; cuts = refl; is_one = i; meaning = e }

-- ---- over a matcher, or over none

abbrev pub Before : {D S : Type 0} → (D → S → Type 0) → (D → S → Residual) → (D → Language) → Option D → List ℕ → ℕ → RecoverState S → Token → Type 0
Before is_state means language o text at s token = IsBefore (state_by is_state o) (means_by means o) (rules_by language o) text at s token

module _ {D S : Type 0} {later : D → D → Type 0} {is_state : D → S → Type 0} {means : D → S → Residual} {language : D → Language} (laws : LaterLaws later is_state means language) where
  pub later_on : (old mid : Option D) (b d : D) → later_by later old mid → mid ≡ Some b → later b d → later_by later old (Some d)
  later_on None mid b d h e k = subst (λ (o : Option D). later_by later None o) e h
  later_on (Some a) mid b d h e k = laws.chain a b d (subst (λ (o : Option D). later_by later (Some a) o) e h) k

  pub same_languages : (old mid : Option D) → later_by later old mid → option_map language mid ≡ option_map language old
  same_languages None None h = refl
  same_languages (Some a) (Some b) h = ap Some (laws.rule a b h)
  same_languages None (Some b) h = absurd h
  same_languages (Some a) None h = absurd h

  -- the answer of a matcher that goes on from the machine's
  pub answered_at : (old mid : Option D) (b : D) → later_by later old mid → mid ≡ Some b → (text : List ℕ) (at : ℕ) (s : RecoverState S) (token : Token) → IsUtf8 text → at ≤ length text →
      Before is_state means language mid text at s token → IfSome (option_map language old) IsLive → (answer : Offers) →
      IsAnswer (language b) (form (means b) (view_of s.levels)) s.events (take (at - token.from) token.bytes) answer → OffersOf (option_map language old) text at answer
  answered_at old mid b h e text at s token utf8 within before live answer a =
      let now : Before is_state means language (Some b) text at s token = subst (λ (o : Option D). Before is_state means language o text at s token) e before in
      let same : Some (language b) ≡ option_map language old = ap (option_map language) (sym e) ∙ same_languages old mid h in
      let alive : IsLive (language b) = subst (λ (o : Option Language). IfSome o IsLive) (sym same) live in
      subst (λ (o : Option Language). OffersOf o text at answer) same
      (offers_stand (language b) alive (state_by is_state (Some b)) (means_by means (Some b)) text at s token utf8 within now answer a)

  pub nothing_held : (old mid : Option D) → later_by later old mid → mid ≡ None → (text : List ℕ) (at : ℕ) → OffersOf (option_map language old) text at answers.Nowhere
  nothing_held old mid h e text at = without_schema (sym (same_languages old mid h) ∙ ap (option_map language) e)

pub each_ok : {A E : Type 0} {P Q : A → Type 0} (r : Result A E) → ((a : A) → P a → Q a) → IfOk r P → IfOk r Q
each_ok (Ok a) f h = f a h
each_ok (Err e) f h = tt

later_both : {D : Type 0} {later : D → D → Type 0} → ((s t u : D) → later s t → later t u → later s u) → (a b c : Option D) → later_by later a b → later_by later b c → later_by later a c
later_both chain None None None h k = tt
later_both chain (Some a) (Some b) (Some c) h k = chain a b c h k
later_both chain None (Some b) c h k = absurd h
later_both chain (Some a) None c h k = absurd h
later_both chain None None (Some c) h k = absurd k
later_both chain (Some a) (Some b) None h k = absurd k

-- a call that goes on from another
module _ {D S : Type 0} {later : D → D → Type 0} {is_state : D → S → Type 0} {means : D → S → Residual} {language : D → Language} (laws : LaterLaws later is_state means language) where
  pub later_behind : (old mid new : Option D) → later_by later old mid → later_by later mid new → later_by later old new
  later_behind old mid new h k = later_both laws.chain old mid new h k

  pub offered_behind : {E : Type 0} (old mid : Option D) → later_by later old mid → (text : List ℕ) (at : ℕ) (r : Result Offers E) →
      (IfSome (option_map language mid) IsLive → IfOk r (OffersOf (option_map language mid) text at)) → IfSome (option_map language old) IsLive → IfOk r (OffersOf (option_map language old) text at)
  offered_behind old mid h text at r offered live =
      let same = same_languages laws old mid h in
      let P : Option Language → Type 0 = λ o. IfOk r (OffersOf o text at) in
      subst P same (offered (subst (λ (o : Option Language). IfSome o IsLive) (sym same) live))
